-- The linked module by lists of numbers and constants is the linked module of the definition.
use Rattle.std.proofs.Common.{◌≡◌, ℕ, zero, suc, ◌+◌, ◌-◌, ◌≤◌, List, [], ◌∷◌, ◌++◌, map, length, Option, Some, None, slice_get, unwrap_or, option_map, refl, sym, ap, ap₂, ◌∙◌, arith}
use Rattle.std.specs.Option.{option_map_or, option_or}
use Rattle.std.proofs.lemmas.Option.{slice_get_past}
use Rattle.wasm_syntax.specs.declared.instructions.Instr.{Instr}
use Rattle.wasm_syntax.specs.declared.instructions.Instr.TheVariants.{End, GlobalGet}
use Rattle.wasm_syntax.specs.declared.modules.Module.{Module}
use Rattle.wasm_syntax.specs.declared.modules.Global.{Global}
use Rattle.wasm_syntax.specs.declared.modules.ElemSeg.{ElemSeg}
use Rattle.wasm_syntax.specs.declared.modules.ElemSeg.TheVariants.{Active, Declared}
use Rattle.wasm_syntax.specs.declared.modules.DataSeg.{DataSeg}
use Rattle.instance_spec.specs.declared.sides.Side.{Side}
use Rattle.instance_spec.specs.declared.sides.Side.TheVariants.{Left, Right}
use Rattle.instance_spec.specs.Instances.{Instance, moved_up}
use Rattle.instance_spec.specs.ForeignRuns.{count_from}
use Rattle.pair_spec.specs.Pairs.{ModulePair, module_of, host_imports, Funcs, Globals, imports_in}
use Rattle.pair_spec.specs.Chains.{Defined, end_after, end_by, end_of}
use Rattle.pair_spec.specs.Numbers.{number_at, numbers_in, side_instance, types_before}
use Rattle.pair_spec.specs.Linked.{constant_by, linked, linked_constant, linked_data, linked_elem, linked_func, linked_global, linked_import}
use Rattle.linked_pair.specs.declared.numbers.SideNumbers.{SideNumbers}
use Rattle.linked_pair.specs.SideNumbers.{AreNumbersOf, constant_from, constants_in, instance_by}
use Rattle.linked_pair.specs.Parts.{data_by, elem_by, export_by, global_by, module_by}

map_alike : {X Y : Type 0} (f g : X → Y) → ((x : X) → f x ≡ g x) → (xs : List X) → map f xs ≡ map g xs
map_alike f g each [] = refl
map_alike f g each (x ∷ xs) = ap₂ (λ y ys. y ∷ ys) (each x) (map_alike f g each xs)

-- two lists of both sides
both_alike : {X Y : Type 0} (f g f' g' : X → Y) → ((x : X) → f x ≡ f' x) → ((x : X) → g x ≡ g' x) → (xs ys : List X)
    → map f xs ++ map g ys ≡ map f' xs ++ map g' ys
both_alike f g f' g' first second xs ys = ap₂ (λ a b. a ++ b) (map_alike f f' first xs) (map_alike g g' second ys)

-- ---- the numbers of a side

-- the instance of lists
abbrev instance_of : (funcs globals : List ℕ) (types : ℕ) → Instance
instance_of funcs globals types =
    record { types = moved_up types; funcs = number_at funcs; globals = number_at globals }

same_instance : (pair : ModulePair) (side : Side) (numbers : SideNumbers) → AreNumbersOf pair side numbers
    → instance_by numbers ≡ side_instance pair side
same_instance pair side numbers are =
    ap (instance_of numbers.funcs.items numbers.globals.items) are.types
    ∙ ap (λ fs. instance_of fs numbers.globals.items (types_before pair side)) are.funcs
    ∙ ap (λ gs. instance_of (numbers_in pair Funcs side) gs (types_before pair side)) are.globals

-- ---- constant expressions

-- an item of a list made of numbers one after another, which past its end are what is read there
at_count : {X : Type 0} (F : ℕ → X) (d : X) (count first i : ℕ) → ((j : ℕ) → count ≤ j → F (first + j) ≡ d)
    → unwrap_or (slice_get (map F (count_from first count)) i) d ≡ F (first + i)
at_count F d zero first i past = sym (past i (omega arith))
at_count F d (suc count) first zero past = let e : first ≡ first + 0 = omega arith in ap F e
at_count F d (suc count) first (suc i) past =
    let e : first + 1 + i ≡ first + suc i = omega arith in
    at_count F d count (first + 1) i (later first count past)
    ∙ ap F e
  where
    later : (first count : ℕ) → ((j : ℕ) → suc count ≤ j → F (first + j) ≡ d) → (j : ℕ) → count ≤ j → F (first + 1 + j) ≡ d
    later first count past j low =
        let e : first + 1 + j ≡ first + suc j = omega arith in
        ap F e ∙ past (suc j) (omega (arith, low))

-- an index past the imports is its own end
pub past_imports : (pair : ModulePair) (side : Side) (x : ℕ) → length (imports_in Globals (module_of pair side)) ≤ x
    → end_of pair Globals side x ≡ Some (Defined side x)
past_imports pair side x low =
    let k = length pair.left.imports + length pair.right.imports in
    let e : k + 1 ≡ suc k = omega arith in
    ap (λ n. end_after n pair Globals side x) e
    ∙ ap (end_by (end_after k pair Globals) pair Globals side x) (slice_get_past (imports_in Globals (module_of pair side)) x low)

-- what no global has as its index has no constant expression
past_globals : (pair : ModulePair) (side : Side) (x : ℕ)
    → length (imports_in Globals (module_of pair side)) + length (module_of pair side).globals ≤ x
    → linked_constant pair side (GlobalGet x ∷ End ∷ []) ≡ []
past_globals pair side x low =
    let m = module_of pair side in
    ap (constant_by pair (GlobalGet x ∷ End ∷ [])) (past_imports pair side x (omega (arith, low)))
    ∙ ap (λ o. option_map_or (λ (g : Global). g.init) o [])
    (slice_get_past m.globals (x - length (imports_in Globals m)) (omega (arith, low)))

module _ (pair : ModulePair) (side : Side) (numbers : SideNumbers) (are : AreNumbersOf pair side numbers) where
  at_front : (j : ℕ) → linked_constant pair side (GlobalGet (0 + j) ∷ End ∷ []) ≡ linked_constant pair side (GlobalGet j ∷ End ∷ [])
  at_front j =
      let e : 0 + j ≡ j = omega arith in
      ap (λ x. linked_constant pair side (GlobalGet x ∷ End ∷ [])) e

  named : (x : ℕ) → unwrap_or (slice_get (constants_in pair side) x) [] ≡ linked_constant pair side (GlobalGet x ∷ End ∷ [])
  named x =
      let m = module_of pair side in
      let F : ℕ → List Instr = λ x. linked_constant pair side (GlobalGet x ∷ End ∷ []) in
      let zero : 0 + x ≡ x = omega arith in
      at_count F [] (length (imports_in Globals m) + length m.globals) 0 x (λ j low. at_front j ∙ past_globals pair side j low)
      ∙ ap F zero

  from_constants : (body : List Instr) → constant_from (constants_in pair side) body ≡ linked_constant pair side body
  from_constants (GlobalGet x ∷ End ∷ []) = named x
  from_constants body = refl

  constant_alike : (body : List Instr) → constant_from numbers.constants body ≡ linked_constant pair side body
  constant_alike body = ap (λ cs. constant_from cs body) are.constants ∙ from_constants body

  global_alike : (g : Global) → global_by numbers g ≡ linked_global pair side g
  global_alike g = ap (λ (init : List Instr). record g { init = init }) (constant_alike g.init)

  elem_alike : (e : ElemSeg) → elem_by numbers e ≡ linked_elem pair side e
  elem_alike (Active table offset funcs) =
      ap₂ (λ (o : List Instr) (i : Instance). Active table o (map (i.funcs) funcs)) (constant_alike offset)
      (same_instance pair side numbers are)
  elem_alike (Declared funcs) =
      ap (λ (i : Instance). Declared (map (i.funcs) funcs)) (same_instance pair side numbers are)

  data_alike : (d : DataSeg) → data_by numbers d ≡ linked_data pair side d
  data_alike d = ap (λ (offset : List Instr). record d { offset = offset }) (constant_alike d.offset)

-- ---- the module

-- the linked module by the instances of both sides, and by its items with constant expressions
abbrev assembled : ModulePair → (l r : Instance) → List Global → List ElemSeg → List DataSeg → Module
assembled pair l r globals elems datas =
    record {
      types = pair.left.types ++ pair.right.types;
      imports = map (linked_import l) (host_imports Left pair.left.imports)
          ++ map (linked_import r) (host_imports Right pair.right.imports);
      funcs = map (linked_func l) pair.left.funcs ++ map (linked_func r) pair.right.funcs;
      tables = pair.left.tables ++ pair.right.tables;
      memories = pair.left.memories ++ pair.right.memories;
      globals = globals;
      exports = map (export_by l Left) pair.left.exports ++ map (export_by r Right) pair.right.exports;
      start = option_or (option_map (l.funcs) pair.left.start) (option_map (r.funcs) pair.right.start);
      elems = elems;
      datas = datas;
      customs = [];
    }

pub is_linked : (pair : ModulePair) (l r : SideNumbers) → AreNumbersOf pair Left l → AreNumbersOf pair Right r
    → module_by pair l r ≡ linked pair
is_linked pair l r left right =
    let il = side_instance pair Left in
    let ir = side_instance pair Right in
    let globals = map (global_by l) pair.left.globals ++ map (global_by r) pair.right.globals in
    let elems = map (elem_by l) pair.left.elems ++ map (elem_by r) pair.right.elems in
    let datas = map (data_by l) pair.left.datas ++ map (data_by r) pair.right.datas in
    ap (λ i. assembled pair i (instance_by r) globals elems datas) (same_instance pair Left l left)
    ∙ ap (λ i. assembled pair il i globals elems datas) (same_instance pair Right r right)
    ∙ ap (λ gs. assembled pair il ir gs elems datas)
    (both_alike (global_by l) (global_by r) (linked_global pair Left) (linked_global pair Right)
    (global_alike pair Left l left) (global_alike pair Right r right) pair.left.globals pair.right.globals)
    ∙ ap (λ es. assembled pair il ir (map (linked_global pair Left) pair.left.globals ++ map (linked_global pair Right) pair.right.globals) es datas)
    (both_alike (elem_by l) (elem_by r) (linked_elem pair Left) (linked_elem pair Right)
    (elem_alike pair Left l left) (elem_alike pair Right r right) pair.left.elems pair.right.elems)
    ∙ ap (λ ds. assembled pair il ir (map (linked_global pair Left) pair.left.globals ++ map (linked_global pair Right) pair.right.globals)
    (map (linked_elem pair Left) pair.left.elems ++ map (linked_elem pair Right) pair.right.elems) ds)
    (both_alike (data_by l) (data_by r) (linked_data pair Left) (linked_data pair Right)
    (data_alike pair Left l left) (data_alike pair Right r right) pair.left.datas pair.right.datas)
