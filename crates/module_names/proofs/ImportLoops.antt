-- Indexes of imports, filled by loops.
use Rattle.std.proofs.Common.{◌≡◌, ℕ, ◌+◌, ◌<◌, ◌≤◌, List, [], ◌∷◌, ◌++◌, map, take, length, get_or, filter, Option, Some, None, option_map, Bor, Bool, true, false, ◌&&◌, ◌||◌, is_some, cond, sym, ap, refl, ◌∙◌, arith, unwrap_or, add-zero, Vec, Global}
use Rattle.std.specs.Prelude.{filter_map}
use Rattle.std.specs.List.{list_any, cons_option}
use Rattle.std.specs.Option.{option_or, option_to_list}
use Rattle.std.specs.Str.{bytes_eq}
use Rattle.std.proofs.lemmas.List.{take_more, map-append, length-take-le, append-nil, length-map}
use Rattle.std.proofs.lemmas.List.Folds.{list_any-append}
use Rattle.std.proofs.lemmas.List.Elements.{filter-append, filter_map-append}
use Rattle.std.proofs.lemmas.Slice.Eq.{bytes_eq-Decides}
use Rattle.wasm_syntax.specs.declared.signatures.FuncType.{FuncType}
use Rattle.wasm_syntax.specs.declared.modules.Module.{Module}
use Rattle.wasm_syntax.specs.declared.modules.Import.{Import}
use Rattle.module_names.specs.Names.{is_from, is_named, first_named, import_type}
use Rattle.module_names.specs.Indexes.{types_if_any, Types, types_of, under_names, AddsType}

abbrev pub seen : List (Bor Import) → ℕ → List Import
seen imports i = map (λ import. import.now) (take i imports)

pub grows : (imports : List (Bor Import)) (i : ℕ) (x : Bor Import) → i < length imports → x ≡ get_or imports i x
    → seen imports (i + 1) ≡ seen imports i ++ x.now ∷ []
grows imports i x lt is =
    let e : take (i + 1) imports ≡ take i imports ++ get_or imports i x ∷ [] = take_more imports i x lt in
    let f : take (i + 1) imports ≡ take i imports ++ x ∷ [] = rw (sym is) at e in
    rw f (map-append (λ (import : Bor Import). import.now) (take i imports) (x ∷ []))

-- ---- modules

pub with_module : (b l : Bool) → cond b true l ≡ (l || (b || false))
with_module true true = refl
with_module true false = refl
with_module false true = refl
with_module false false = refl

pub module_added : (from key : List ℕ) (imports : List (Bor Import)) (i : ℕ) (x : Bor Import) (was now : Bool)
    → i < length imports → x ≡ get_or imports i x → key ≡ x.now.«module»
    → was ≡ list_any (is_from from) (seen imports i) → now ≡ cond (bytes_eq key from) true was → now ≡ list_any (is_from from) (seen imports (i + 1))
module_added from key imports i x was now lt is named so_far new =
    rw (grows imports i x lt is, list_any-append (is_from from) (seen imports i) (x.now ∷ []), new, named, so_far)
    (with_module (bytes_eq x.now.«module» from) (list_any (is_from from) (seen imports i)))

-- ---- places

place_last : (place : ℕ) (imports : List Import) (import : Import)
    → place + length (import ∷ imports) ≡ (place + 1) + length imports
place_last place imports import = omega arith

first_named-append : (from name : List ℕ) (place : ℕ) (imports : List Import) (x : Import)
    → first_named from name place (imports ++ x ∷ [])
    ≡ option_or (first_named from name place imports) (cond (is_named from name x) (Some (place + length imports)) None)
first_named-append from name place [] x = rw (add-zero place) refl
first_named-append from name place (import ∷ imports) x =
    by (is_named from name import)
    (rw (place_last place imports import) (first_named-append from name (place + 1) imports x))
  where
    by : (b : Bool)
        → first_named from name (place + 1) (imports ++ x ∷ []) ≡ option_or (first_named from name (place + 1) imports)
        (cond (is_named from name x) (Some (place + length (import ∷ imports))) None)
        → cond b (Some place) (first_named from name (place + 1) (imports ++ x ∷ []))
        ≡ option_or (cond b (Some place) (first_named from name (place + 1) imports))
        (cond (is_named from name x) (Some (place + length (import ∷ imports))) None)
    by true h = refl
    by false h = h

pub same_names : (from name : List ℕ) (x : Import) → is_named from name x ≡ true → (x.«module» ≡ from) × (x.name ≡ name)
same_names from name x h = by (bytes_eq x.«module» from) (bytes_eq x.name name) refl refl h
  where
    by : (a b : Bool) → bytes_eq x.«module» from ≡ a → bytes_eq x.name name ≡ b → (a && b) ≡ true
        → (x.«module» ≡ from) × (x.name ≡ name)
    by true true p q h = ((bytes_eq-Decides x.«module» from).0 p, (bytes_eq-Decides x.name name).0 q)
    by true false p q h = cc
    by false b p q h = cc

length-seen : (imports : List (Bor Import)) (i : ℕ) → i ≤ length imports → 0 + length (seen imports i) ≡ i
length-seen imports i le = simp (length-map, length-take-le i imports le) (omega arith)

next_place : (from name : List ℕ) (imports : List (Bor Import)) (i : ℕ) (x : Bor Import) → i < length imports
    → x ≡ get_or imports i x
    → first_named from name 0 (seen imports (i + 1)) ≡ option_or (first_named from name 0 (seen imports i)) (cond (is_named from name x.now) (Some i) None)
next_place from name imports i x lt is =
    let le : i ≤ length imports = omega arith in
    let e = first_named-append from name 0 (seen imports i) x.now in
    rw (grows imports i x lt is)
    (e ∙ ap (λ n. option_or (first_named from name 0 (seen imports i)) (cond (is_named from name x.now) (Some n) None))
    (length-seen imports i le))

-- a place that is in the index already
pub place_kept : (from name : List ℕ) (imports : List (Bor Import)) (i : ℕ) (x : Bor Import)
    (found : List ℕ → List ℕ → Option ℕ)
    → i < length imports → x ≡ get_or imports i x
    → is_some (found x.now.«module» x.now.name) ≡ true → found from name ≡ first_named from name 0 (seen imports i)
    → found from name ≡ first_named from name 0 (seen imports (i + 1))
place_kept from name imports i x found lt is there so_far =
    so_far ∙ sym (next_place from name imports i x lt is ∙ by (is_named from name x.now) (first_named from name 0 (seen imports i))
    (λ h. let n = same_names from name x.now h in ap is_some (sym so_far ∙ ap (λ f. found f name) (sym n.0) ∙ ap (found x.now.«module») (sym n.1)) ∙ there))
  where
    by : (b : Bool) (l : Option ℕ) → (b ≡ true → is_some l ≡ true) → option_or l (cond b (Some i) None) ≡ l
    by b (Some n) h = refl
    by true None h = cc (h refl)
    by false None h = refl

-- a place that is new
pub place_added : (from name : List ℕ) (imports : List (Bor Import)) (i : ℕ) (x : Bor Import)
    (found more : List ℕ → List ℕ → Option ℕ)
    → i < length imports → x ≡ get_or imports i x
    → is_some (found x.now.«module» x.now.name) ≡ false → found from name ≡ first_named from name 0 (seen imports i)
    → more from name ≡ cond (is_named from name x.now) (Some i) (found from name)
    → more from name ≡ first_named from name 0 (seen imports (i + 1))
place_added from name imports i x found more lt is there so_far new =
    new ∙ ap (λ l. cond (is_named from name x.now) (Some i) l) so_far ∙ by (is_named from name x.now) (first_named from name 0 (seen imports i))
    (λ h. let n = same_names from name x.now h in ap is_some (sym so_far ∙ ap (λ f. found f name) (sym n.0) ∙ ap (found x.now.«module») (sym n.1)) ∙ there)
    ∙ sym (next_place from name imports i x lt is)
  where
    by : (b : Bool) (l : Option ℕ) → (b ≡ true → is_some l ≡ false)
        → cond b (Some i) l ≡ option_or l (cond b (Some i) None)
    by true None h = refl
    by false None h = refl
    by true (Some n) h = cc (h refl)
    by false (Some n) h = refl

-- ---- types

pub none_named : (test : Import → Bool) (imports : List Import) → list_any test imports ≡ false
    → filter test imports ≡ []
none_named test [] h = refl
none_named test (x ∷ imports) h = by (test x) (none_named test imports) h
  where
    by : (b : Bool) → (list_any test imports ≡ false → filter test imports ≡ []) → (b || list_any test imports) ≡ false
        → cond b (x ∷ filter test imports) (filter test imports) ≡ []
    by true rest h = cc
    by false rest h = rest h

one_option : {A : Type 0} (o : Option A) → cons_option o [] ≡ option_to_list o
one_option None = refl
one_option (Some a) = refl

type_next : (m : Module) (from name : List ℕ) (imports : List Import) (x : Import)
    → types_if_any m from name (imports ++ x ∷ [])
    ≡ cond (is_named from name x)
    (Some (unwrap_or (types_if_any m from name imports) [] ++ option_to_list (import_type m x)))
    (types_if_any m from name imports)
type_next m from name imports x =
    rw (
      list_any-append (is_named from name) imports (x ∷ []),
      filter-append (is_named from name) imports (x ∷ []),
      filter_map-append (import_type m) (filter (is_named from name) imports) (filter (is_named from name) (x ∷ [])),
    )
    (by (is_named from name x) (list_any (is_named from name) imports) (import_type m x) (none_named (is_named from name) imports))
  where
    by : (b l : Bool) (ty : Option FuncType) → (l ≡ false → filter (is_named from name) imports ≡ [])
        → cond (l || (b || false)) (Some (filter_map (import_type m) (filter (is_named from name) imports)
        ++ filter_map (import_type m) (cond b (x ∷ []) []))) None
        ≡ cond b
        (Some (unwrap_or (cond l (Some (filter_map (import_type m) (filter (is_named from name) imports))) None) []
        ++ option_to_list (import_type m x)))
        (cond l (Some (filter_map (import_type m) (filter (is_named from name) imports))) None)
    by true true ty h = rw (one_option (import_type m x)) refl
    by true false ty h = rw (h refl, one_option (import_type m x)) refl
    by false true ty h = ap Some (append-nil _)
    by false false ty h = refl

pub type_added : (m : Module) (from name : List ℕ) (imports : List (Bor Import)) (i : ℕ) (x : Bor Import)
    (was now : Option (List FuncType)) (ty : Option FuncType)
    → i < length imports → x ≡ get_or imports i x → ty ≡ import_type m x.now
    → was ≡ types_if_any m from name (seen imports i)
    → now ≡ cond (is_named from name x.now) (Some (unwrap_or was [] ++ option_to_list ty)) was
    → now ≡ types_if_any m from name (seen imports (i + 1))
type_added m from name imports i x was now ty lt is t so_far new =
    rw (grows imports i x lt is, type_next m from name (seen imports i) x.now, new, t, so_far) refl

-- a list of types removed, and put back with one type more
pub type_put_back : (old middle new : Types) (x : Import) (found : Vec (Bor FuncType) Global) (ty : Option FuncType)
    → ((from name : List ℕ) → under_names from name middle ≡ cond (is_named from name x) None (under_names from name old))
    → ((from name : List ℕ) → under_names from name new ≡ cond (is_named from name x) (Some found) (under_names from name middle))
    → map (λ t. t.now) found.items ≡ unwrap_or (types_of x.«module» x.name old) [] ++ option_to_list ty
    → AddsType old new x ty
type_put_back old middle new x found ty took put grown = record {
  adds = λ from name.
      ap (option_map (λ types. map (λ t. t.now) types.items)) (put from name ∙ ap (cond (is_named from name x) (Some found)) (took from name))
      ∙ by from name (is_named from name x) (λ h. let n = same_names from name x h in grown
      ∙ ap (λ f. unwrap_or (types_of f x.name old) [] ++ option_to_list ty) n.0
      ∙ ap (λ k. unwrap_or (types_of from k old) [] ++ option_to_list ty) n.1);
}
  where
    by : (from name : List ℕ) (b : Bool)
        → (b ≡ true → map (λ t. t.now) found.items ≡ unwrap_or (types_of from name old) [] ++ option_to_list ty)
        → option_map (λ types. map (λ t. t.now) types.items) (cond b (Some found) (cond b None (under_names from name old)))
        ≡ cond b (Some (unwrap_or (types_of from name old) [] ++ option_to_list ty)) (types_of from name old)
    by from name true h = ap Some (h refl)
    by from name false h = refl

-- the list that was there, or an empty one
pub was_there : (o : Option (Vec (Bor FuncType) Global)) (d : Vec (Bor FuncType) Global) → d.items ≡ []
    → map (λ t. t.now) (unwrap_or o d).items ≡ unwrap_or (option_map (λ (types : Vec (Bor FuncType) Global). map (λ t. t.now) types.items) o) []
was_there None d h = ap (map (λ t. t.now)) h
was_there (Some v) d h = refl

pub first_is_there : (from name : List ℕ) (place : ℕ) (imports : List Import)
    → is_some (first_named from name place imports) ≡ list_any (is_named from name) imports
first_is_there from name place [] = refl
first_is_there from name place (x ∷ xs) = by (is_named from name x) (first_is_there from name (place + 1) xs)
  where
    by : (b : Bool) → is_some (first_named from name (place + 1) xs) ≡ list_any (is_named from name) xs
        → is_some (cond b (Some place) (first_named from name (place + 1) xs)) ≡ (b || list_any (is_named from name) xs)
    by true h = refl
    by false h = h

-- the types under two names, an empty list if no function has these
pub types_or_none : (m : Module) (from name : List ℕ) (imports : List Import)
    → unwrap_or (types_if_any m from name imports) [] ≡ filter_map (import_type m) (filter (is_named from name) imports)
types_or_none m from name imports = by (list_any (is_named from name) imports) (none_named (is_named from name) imports)
  where
    by : (b : Bool) → (b ≡ false → filter (is_named from name) imports ≡ [])
        → unwrap_or (cond b (Some (filter_map (import_type m) (filter (is_named from name) imports))) None) []
        ≡ filter_map (import_type m) (filter (is_named from name) imports)
    by true h = refl
    by false h = rw (h refl) refl

-- there are types under two names if something is imported under them
pub types_are_there : (m : Module) (from name : List ℕ) (imports : List Import)
    → is_some (types_if_any m from name imports) ≡ list_any (is_named from name) imports
types_are_there m from name imports = by (list_any (is_named from name) imports)
  where
    by : (b : Bool)
        → is_some (cond b (Some (filter_map (import_type m) (filter (is_named from name) imports))) None) ≡ b
    by true = refl
    by false = refl
