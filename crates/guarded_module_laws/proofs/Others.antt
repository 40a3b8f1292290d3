-- A guarded module with other functions in the originals' places is the guarded module of the module with these functions.
use Rattle.std.proofs.Common.{◌≡◌, ℕ, zero, suc, ◌+◌, List, [], ◌∷◌, ◌++◌, map, length, take, drop, refl, ap, ap₂, sym, ◌∙◌, arith}
use Rattle.std.specs.List.{enumerate_from}
use Rattle.std.proofs.lemmas.List.{append_assoc, length-append, length-map}
use Rattle.wasm_syntax.specs.declared.signatures.FuncType.{FuncType}
use Rattle.wasm_syntax.specs.declared.modules.Func.{Func}
use Rattle.wasm_syntax.specs.declared.modules.Module.{Module}
use Rattle.history_spec.specs.Projection.{Layout}
use Rattle.guarded_module_spec.specs.declared.numbers.Numbers.{Numbers}
use Rattle.guarded_module_spec.specs.Numbers.{numbers_of}
use Rattle.guarded_module_spec.specs.Fronts.{import_front, func_front}
use Rattle.guarded_module_spec.specs.GuardedModules.{import_fronts, func_fronts, own_funcs, own_exports, redirected, is_called, guarded_funcs, guarded_module, type_in}
use Rattle.guarded_module_spec.specs.Differences.{with_originals}

module _ {X : Type 0} where
  take_front : (front more : List X) (count : ℕ) → count ≡ length front → take count (front ++ more) ≡ front
  take_front [] more zero e = refl
  take_front [] more (suc count) e = absurd (omega (arith, e))
  take_front (x ∷ front) more zero e = absurd (omega (arith, e))
  take_front (x ∷ front) more (suc count) e = ap (λ l. x ∷ l) (take_front front more count (omega (arith, e)))

  drop_front : (front more : List X) (count : ℕ) → count ≡ length front → drop count (front ++ more) ≡ more
  drop_front [] more zero e = refl
  drop_front [] more (suc count) e = absurd (omega (arith, e))
  drop_front (x ∷ front) more zero e = absurd (omega (arith, e))
  drop_front (x ∷ front) more (suc count) e = drop_front front more count (omega (arith, e))

  enumerated : (from : ℕ) (xs : List X) → length (enumerate_from from xs) ≡ length xs
  enumerated from [] = refl
  enumerated from (x ∷ xs) = ap suc (enumerated (from + 1) xs)

-- the functions of a guarded module, from those in the places of imports, the originals and the appended ones
abbrev later_of : List FuncType → Numbers → (from entry : ℕ) → List ℕ → (firsts originals helpers : List Func)
    → List Func
later_of types n from entry words firsts originals helpers =
    map (redirected n) helpers
    ++ (map (redirected n) firsts
    ++ (func_fronts types n (firsts ++ helpers) from originals ++ own_funcs n entry words))

abbrev funcs_of : List FuncType → Numbers → (from entry : ℕ) → List ℕ → (firsts originals helpers : List Func)
    → List Func
funcs_of types n from entry words firsts originals helpers =
    import_fronts types n firsts ++ (originals ++ later_of types n from entry words firsts originals helpers)

module _ (all : List FuncType) (n : Numbers) (outside : List Func) where
  -- fronts depend on the types of functions alone
  fronts_alike : (from : ℕ) (xs ys : List Func) → map (λ (f : Func). f.ty) xs ≡ map (λ (f : Func). f.ty) ys
      → func_fronts all n outside from xs ≡ func_fronts all n outside from ys
  fronts_alike from [] [] e = refl
  fronts_alike from [] (y ∷ ys) e = cc
  fronts_alike from (x ∷ xs) [] e = cc
  fronts_alike from (x ∷ xs) (y ∷ ys) e =
      ap₂ (λ (front : Func) (fronts : List Func). front ∷ fronts)
      (ap (λ (ty : ℕ). func_front (is_called from outside) n (type_in all ty) from ty) (first_is e))
      (fronts_alike (from + 1) xs ys (rest_is e))
    where
      first_is : {a b : ℕ} {us vs : List ℕ} → a ∷ us ≡ b ∷ vs → a ≡ b
      first_is e = cc

      rest_is : {a b : ℕ} {us vs : List ℕ} → a ∷ us ≡ b ∷ vs → us ≡ vs
      rest_is e = cc

module _ (m : Module) (layout : Layout) (entry : ℕ) (words : List ℕ) (firsts originals others helpers : List Func)
    (parts : m.funcs ≡ firsts ++ (originals ++ helpers)) (imports : layout.imports ≡ length firsts)
    (defined : layout.defined ≡ length originals) (many : layout.defined ≡ length others)
    (types : map (λ (f : Func). f.ty) others ≡ map (λ (f : Func). f.ty) originals) where
  -- a list in three parts
  module _ (a middle c all : List Func) (e : all ≡ a ++ (middle ++ c)) (la : layout.imports ≡ length a)
      (lm : layout.defined ≡ length middle) where
    first_part : take layout.imports all ≡ a
    first_part = ap (take layout.imports) e ∙ take_front a (middle ++ c) layout.imports la

    middle_part : take layout.defined (drop layout.imports all) ≡ middle
    middle_part =
        ap (λ l. take layout.defined (drop layout.imports l)) e
        ∙ ap (take layout.defined) (drop_front a (middle ++ c) layout.imports la)
        ∙ take_front middle c layout.defined lm

    last_part : drop (layout.imports + layout.defined) all ≡ c
    last_part =
        let both = length-append a middle in
        ap (drop (layout.imports + layout.defined)) (e ∙ sym (append_assoc a middle c))
        ∙ drop_front (a ++ middle) c (layout.imports + layout.defined) (omega (arith, la, lm, both))

  in_parts : (x : Module) (middle : List Func) → x.types ≡ m.types → x.funcs ≡ firsts ++ (middle ++ helpers)
      → layout.defined ≡ length middle
      → guarded_funcs x layout entry words
      ≡ funcs_of x.types (numbers_of x layout) layout.imports entry words firsts middle helpers
  in_parts x middle t e lm =
      ap (λ l. funcs_of x.types (numbers_of x layout) layout.imports entry words l
      (take layout.defined (drop layout.imports x.funcs)) (drop (layout.imports + layout.defined) x.funcs))
      (first_part firsts middle helpers x.funcs e imports lm)
      ∙ ap (λ l. funcs_of x.types (numbers_of x layout) layout.imports entry words firsts l
      (drop (layout.imports + layout.defined) x.funcs))
      (middle_part firsts middle helpers x.funcs e imports lm)
      ∙ ap (λ l. funcs_of x.types (numbers_of x layout) layout.imports entry words firsts middle l)
      (last_part firsts middle helpers x.funcs e imports lm)

  abbrev n : Numbers
  n = numbers_of m layout

  abbrev changed : Module
  changed = with_originals layout others m

  changed_parts : changed.funcs ≡ firsts ++ (others ++ helpers)
  changed_parts =
      ap₂ (λ (a c : List Func). a ++ (others ++ c)) (first_part firsts originals helpers m.funcs parts imports defined)
      (last_part firsts originals helpers m.funcs parts imports defined)

  same_many : length changed.funcs ≡ length m.funcs
  same_many =
      let a = length-append firsts (others ++ helpers) in
      let b = length-append others helpers in
      let c = length-append firsts (originals ++ helpers) in
      let d = length-append originals helpers in
      ap length changed_parts ∙ omega (arith, a, b, c, d, defined, many) ∙ sym (ap length parts)

  same_numbers : numbers_of changed layout ≡ n
  same_numbers = ap (λ (k : ℕ). record n { funcs = k }) same_many

  funcs_commute : (with_originals layout others (guarded_module m layout entry words)).funcs
      ≡ guarded_funcs changed layout entry words
  funcs_commute =
      let fronts : layout.imports ≡ length (import_fronts m.types n firsts) =
      imports ∙ sym (length-map (enumerate_from 0 firsts)
      (λ (e : ℕ × Func). import_front n (type_in m.types e.1.ty) e.0 e.1.ty) ∙ enumerated 0 firsts) in
      let all = in_parts m originals refl parts defined in
      let later = later_of m.types n layout.imports entry words firsts originals helpers in
      ap₂ (λ (a c : List Func). a ++ (others ++ c))
      (first_part (import_fronts m.types n firsts) originals later (guarded_funcs m layout entry words) all fronts defined)
      (last_part (import_fronts m.types n firsts) originals later (guarded_funcs m layout entry words) all fronts defined)
      ∙ ap
      (λ (own : List Func). import_fronts m.types n firsts ++ (others ++ (map (redirected n) helpers
      ++ (map (redirected n) firsts ++ (own ++ own_funcs n entry words)))))
      (sym (fronts_alike m.types n (firsts ++ helpers) layout.imports others originals types))
      ∙ sym (in_parts changed others refl changed_parts many
      ∙ ap (λ (k : Numbers). funcs_of changed.types k layout.imports entry words firsts others helpers) same_numbers)

  -- the whole module
  pub commutes : with_originals layout others (guarded_module m layout entry words)
      ≡ guarded_module changed layout entry words
  commutes =
      ap (λ (funcs : List Func). record (guarded_module m layout entry words) { funcs = funcs }) funcs_commute
      ∙ ap (λ (k : Numbers). record (guarded_module changed layout entry words) { exports = own_exports k }) (sym same_numbers)
