-- The program of a linked module is that of the pair with all indices resolved beforehand.
use Rattle.std.proofs.Common.{◌≡◌, ℕ, zero, suc, ◌+◌, ◌-◌, ◌<◌, ◌≤◌, List, [], ◌∷◌, ◌++◌, length, map, Option, None, Bool, true, false, cond, nat_lt, slice_get, option_map, option_and_then, refl, sym, ap, ◌∙◌, length-append, arith}
use Rattle.std.proofs.lemmas.Bool.{ltb-true}
use Rattle.std.proofs.lemmas.Bool.Decides.{nat_tests}
use Rattle.std.proofs.lemmas.List.{length-map, map-append}
use Rattle.base.proofs.Booleans.{same_tests}
use Rattle.wasm_syntax.specs.declared.modules.Module.{Module}
use Rattle.wasm_syntax.specs.declared.modules.Func.{Func}
use Rattle.wasm_syntax.specs.Nest.{nest_of}
use Rattle.wasm_syntax.specs.Validity.{each_local}
use Rattle.wasm_syntax.specs.Index.{of_kind, func_import, func_indices, imported_funcs}
use Rattle.wasm_syntax.proofs.JoinedLists.{kinds_append}
use Rattle.host_script.specs.declared.scripts.Script.{Script}
use Rattle.history_spec.specs.Code.{Definition, definition, definition_of}
use Rattle.history_spec.specs.Run.{program_of}
use Rattle.history_spec.specs.Step.{Program}
use Rattle.instance_spec.specs.declared.sides.Side.TheVariants.{Left, Right}
use Rattle.instance_spec.specs.Instances.{Instance, World}
use Rattle.instance_spec.specs.Renamed.{Realises, renamed_definition}
use Rattle.instance_laws.specs.Typings.{BodiesAreRenamed}
use Rattle.instance_laws.proofs.Numbers.{is_below}
use Rattle.pair_spec.specs.Pairs.{ModulePair, host_imports, Funcs}
use Rattle.pair_spec.specs.Numbers.{all_hosts, side_instance}
use Rattle.pair_spec.specs.PairRuns.{host_types, pair_code, pair_world}
use Rattle.pair_spec.specs.Linked.{linked_import, linked_func, linked}
use Rattle.instance_laws.proofs.WidenedRuns.{nest_renamed}
use Rattle.pair_laws.proofs.Imports.{funcs_linked, is_func, hosts_counted}

-- ---- numbers

-- two tests that hold in the same cases
alike_tests : (a b c d : ℕ) → (a < b → c < d) → (c < d → a < b) → nat_lt a b ≡ nat_lt c d
alike_tests a b c d there back =
    same_tests (nat_lt a b) (nat_lt c d) (λ h. is_below c d (there (ltb-true a b h)))
    (λ h. is_below a b (back (ltb-true c d h)))

below_none : (k : ℕ) → nat_lt k 0 ≡ false
below_none k = grind (arith, nat_tests)

below_suc : (k n : ℕ) → nat_lt k n ≡ nat_lt (suc k) (suc n)
below_suc k n = alike_tests k n (suc k) (suc n) (λ h. omega (arith, h)) (λ h. omega (arith, h))

-- a function that is not the host's is the left module's exactly if its place is among this module's functions
placed : (func hosts own : ℕ) → nat_lt func hosts ≡ false → nat_lt func (hosts + own) ≡ nat_lt (func - hosts) own
placed func hosts own past =
    let high : hosts ≤ func = grind (arith, nat_tests, past) in
    alike_tests func (hosts + own) (func - hosts) own (λ h. omega (arith, h, high)) (λ h. omega (arith, h, high))

-- ---- functions

module _ (renamed : BodiesAreRenamed) where
  definition_linked : (i : Instance) (func : Func)
      → definition_of (linked_func i func) ≡ option_map (renamed_definition i) (definition_of func)
  definition_linked i func =
      ap (option_map (λ nest. record { locals = each_local func.locals; body = nest })) (renamed i func.body)
      ∙ nest_renamed i func (nest_of func.body)

  -- by the place among the functions of both sides
  module _ (left right : Instance) where
    second_at : (funcs : List Func) (k : ℕ)
        → option_and_then (λ d. d) (slice_get (map definition_of (map (linked_func right) funcs)) k)
        ≡ option_map (renamed_definition right) (option_and_then (λ d. d) (slice_get (map definition_of funcs) k))
    second_at [] k = refl
    second_at (f ∷ funcs) zero = definition_linked right f
    second_at (f ∷ funcs) (suc k) = second_at funcs k

    definition_at : (first second : List Func) (k : ℕ)
        → option_and_then (λ d. d)
        (slice_get (map definition_of (map (linked_func left) first ++ map (linked_func right) second)) k)
        ≡ option_map (renamed_definition (cond (nat_lt k (length first)) left right))
        (option_and_then (λ d. d) (slice_get (map definition_of first ++ map definition_of second) k))
    definition_at [] second k =
        second_at second k
        ∙ ap
        (λ b. option_map (renamed_definition (cond b left right))
        (option_and_then (λ d. d) (slice_get (map definition_of second) k)))
        (sym (below_none k))
    definition_at (f ∷ first) second zero =
        definition_linked left f
        ∙ ap (λ b. option_map (renamed_definition (cond b left right)) (definition_of f))
        (sym (is_below 0 (suc (length first)) (omega arith)))
    definition_at (f ∷ first) second (suc k) =
        definition_at first second k
        ∙ ap
        (λ b. option_map (renamed_definition (cond b left right))
        (option_and_then (λ d. d) (slice_get (map definition_of first ++ map definition_of second) k)))
        (below_suc k (length first))

-- ---- the program

types_linked : (i : Instance) (funcs : List Func)
    → map (λ (f : Func). f.ty) (map (linked_func i) funcs) ≡ map (λ (f : Func). i.types f.ty) funcs
types_linked i [] = refl
types_linked i (f ∷ funcs) = ap (λ types. i.types f.ty ∷ types) (types_linked i funcs)

module _ (pair : ModulePair) where
  abbrev left : Instance
  left = side_instance pair Left

  abbrev right : Instance
  right = side_instance pair Right

  abbrev whole : Module
  whole = linked pair

  pub types_are : of_kind func_import whole.imports ≡ host_types pair Left ++ host_types pair Right
  types_are =
      kinds_append func_import (map (linked_import left) (host_imports Left pair.left.imports))
      (map (linked_import right) (host_imports Right pair.right.imports))
      ∙ (λ j. funcs_linked left (host_imports Left pair.left.imports) j
      ++ funcs_linked right (host_imports Right pair.right.imports) j)

  pub imported_is : imported_funcs whole ≡ all_hosts pair Funcs
  imported_is =
      ap length types_are
      ∙ length-append (host_types pair Left) (host_types pair Right)
      ∙ (λ j. length-map (of_kind func_import (host_imports Left pair.left.imports)) (left.types) j
      + length-map (of_kind func_import (host_imports Right pair.right.imports)) (right.types) j)
      ∙ (λ j. hosts_counted func_import Funcs is_func Left pair.left.imports j
      + hosts_counted func_import Funcs is_func Right pair.right.imports j)

  pub indices_are : func_indices whole ≡ (pair_code pair).indices
  indices_are =
      (λ j. types_are j
      ++ map-append (λ (f : Func). f.ty) (map (linked_func left) pair.left.funcs)
      (map (linked_func right) pair.right.funcs) j)
      ∙ (λ j. (host_types pair Left ++ host_types pair Right)
      ++ (types_linked left pair.left.funcs j ++ types_linked right pair.right.funcs j))

module _ (pair : ModulePair) (script : Script) where
  abbrev w : World
  w = pair_world pair script

  abbrev p : Program
  p = program_of (linked pair) script

  code_is : p ≡ record w.program { code = record w.program.code { defined = p.code.defined } }
  code_is = (λ j. record {
    code = record {
      types = w.program.code.types;
      imported = imported_is pair j;
      indices = indices_are pair j;
      defined = p.code.defined;
    };
    answers = script.imports;
  })

  abbrev hosts : ℕ
  hosts = all_hosts pair Funcs

  abbrev found : ℕ → Option Definition
  found k = option_and_then (λ d. d) (slice_get w.program.code.defined k)

  chosen : (b : Bool) → side_instance pair (cond b Left Right) ≡ cond b (left pair) (right pair)
  chosen true = refl
  chosen false = refl

  module _ (renamed : BodiesAreRenamed) where
    at_number : (func : ℕ) (b : Bool) → nat_lt func hosts ≡ b
        → cond b None (option_and_then (λ d. d) (slice_get p.code.defined (func - hosts)))
        ≡ option_map (renamed_definition (w.instance_of func)) (cond b None (found (func - hosts)))
    at_number func true past = refl
    at_number func false past =
        definition_at renamed (left pair) (right pair) pair.left.funcs pair.right.funcs (func - hosts)
        ∙ ap (λ i. option_map (renamed_definition i) (found (func - hosts)))
        (ap (λ b. cond b (left pair) (right pair)) (sym (placed func hosts (length pair.left.funcs) past))
        ∙ sym (chosen (nat_lt func (hosts + length pair.left.funcs))))

    bodies_are : (func : ℕ)
        → definition p.code func ≡ option_map (renamed_definition (w.instance_of func)) (definition w.program.code func)
    bodies_are func =
        ap (λ n. cond (nat_lt func n) None (option_and_then (λ d. d) (slice_get p.code.defined (func - n)))) (imported_is pair)
        ∙ at_number func (nat_lt func hosts) refl

    pub does_realise : Realises w p
    does_realise = record { alike = code_is; bodies = bodies_are }
