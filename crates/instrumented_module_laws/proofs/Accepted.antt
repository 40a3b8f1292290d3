-- Instrumented modules are accepted if their originals are.
use Rattle.std.proofs.Common.{◌≡◌, ℕ, suc, ◌+◌, ◌≤◌, List, [], ◌∷◌, ◌++◌, length, sum_by, Option, Some, None, Bool, true, false, cond, nat_lt, slice_get, refl, ap, ◌∙◌, arith}
use Rattle.std.specs.Prelude.{filter_map, flat_map}
use Rattle.std.specs.List.{AllByRecursion, enumerate_from, cons_option}
use Rattle.std.proofs.lemmas.Bool.Decides.{nat_tests}
use Rattle.std.proofs.lemmas.List.Sums.{sum_by-append}
use Rattle.std.proofs.lemmas.List.Elements.{recursion_from_All, filter_map-append}
use Rattle.base.proofs.Lists.{nil_parts}
use Rattle.wasm_syntax.specs.declared.limits.TheConstants.{MAX_ENTRIES, MAX_LOCALS, MAX_LOCALS_HOOKED, MAX_PAGES, MAX_PARAMETERS}
use Rattle.wasm_syntax.specs.declared.profile.Which.TheVariants.{Parameters, Table, Memory, Locals}
use Rattle.wasm_syntax.specs.declared.values.ValType.TheVariants.{I32}
use Rattle.wasm_syntax.specs.declared.signatures.FuncType.{FuncType}
use Rattle.wasm_syntax.specs.declared.signatures.Limits.{Limits}
use Rattle.wasm_syntax.specs.declared.instructions.Instr.TheVariants.{End}
use Rattle.wasm_syntax.specs.declared.modules.Module.{Module}
use Rattle.wasm_syntax.specs.declared.modules.Func.{Func}
use Rattle.wasm_syntax.specs.declared.modules.Run.{Run}
use Rattle.wasm_syntax.specs.Alike.{same_type}
use Rattle.wasm_syntax.specs.Index.{imported_funcs, type_at, all_tables, all_memories}
use Rattle.wasm_syntax.specs.Nest.{Nest, nest_of, flat}
use Rattle.wasm_syntax.specs.Profile.{Refusal, Limit, refused_in, refused_instructions, past, count_of_locals, quantities_past, reserved_imports, refusals, IsAccepted}
use Rattle.wasm_syntax.specs.Validity.{IsTypedFunc}
use Rattle.wasm_syntax.proofs.Nests.{nest_of_body}
use Rattle.type_safety.specs.Frames.{HasNoneRefused}
use Rattle.type_safety.proofs.Bodies.{body_supported}
use Rattle.record_replay_spec.specs.Instrumented.{instrumented_body, locals_of, other_locals, with_added_locals, site_of, instrumented_func, each_func, hook_types, instrumented_module}
use Rattle.record_replay_spec.specs.HookLaws.{InstrumentedKeepsIndices, InstrumentedKeepIndices}
use Rattle.instrumented_module_laws.specs.Laws.{InstrumentedAreValid, InstrumentedAreAccepted}
use Rattle.instrumented_module_laws.proofs.Refusals.{body_unrefused, none_named}

-- ---- instructions

-- no function's body has a refused instruction
abbrev AreSupported : Module → List Func → Type 0
AreSupported m funcs =
    (k : ℕ) (func : Func) → slice_get funcs k ≡ Some func → (t : IsTypedFunc m func) → HasNoneRefused t.nest

func_unrefused : (m : Module) (index start : ℕ) (func : Func) (t : IsTypedFunc m func) → HasNoneRefused t.nest
    → refused_in start (instrumented_func m index func (type_at m func.ty) (nest_of func.body)) ≡ []
func_unrefused m index start func t supported =
    ap (λ ty. refused_in start (instrumented_func m index func ty (nest_of func.body))) t.has_type
    ∙ ap (λ nest. refused_in start (instrumented_func m index func (Some t.ty) nest))
    (nest_of_body t.nest func.body t.is_body)
    ∙ none_named start 0 (flat (instrumented_body (site_of m index t.ty func) t.ty t.nest) ++ End ∷ [])
    (body_unrefused (site_of m index t.ty func) t.ty t.nest supported)

funcs_unrefused : (m : Module) (index start : ℕ) (funcs : List Func) → AllByRecursion (IsTypedFunc m) funcs
    → AreSupported m funcs
    → flat_map (λ (f : ℕ × Func). refused_in f.0 f.1)
    (enumerate_from start (each_func m (instrumented_func m) index funcs))
    ≡ []
funcs_unrefused m index start [] typed supported = refl
funcs_unrefused m index start (func ∷ funcs) typed supported =
    ap (λ refused. refused
    ++ flat_map (λ (f : ℕ × Func). refused_in f.0 f.1)
    (enumerate_from (start + 1) (each_func m (instrumented_func m) (index + 1) funcs)))
    (func_unrefused m index start func typed.0 (supported 0 func refl typed.0))
    ∙ funcs_unrefused m (index + 1) (start + 1) funcs typed.1 (λ k f is t. supported (suc k) f is t)

-- ---- locals

abbrev sum_of : List Run → ℕ
sum_of runs = sum_by (λ run. run.count) runs

sum_first : (run : Run) (runs : List Run) → sum_of (run ∷ runs) ≡ run.count + sum_of runs
sum_first run runs =
    let p : sum_of (run ∷ runs) ≡ sum_of (run ∷ []) + sum_of runs = sum_by-append (λ run. run.count) (run ∷ []) runs in
    let q : sum_of (run ∷ []) ≡ 0 + run.count = refl in omega (arith, p, q)

sum_last : (last : Run) (b : Bool)
    → sum_of (cond b (locals_of (last.count + 2) I32 ∷ other_locals) (last ∷ locals_of 2 I32 ∷ other_locals))
    ≡ last.count + 5
sum_last last true =
    let p : sum_of (locals_of (last.count + 2) I32 ∷ other_locals) ≡ last.count + 2 + sum_of other_locals =
    sum_first (locals_of (last.count + 2) I32) other_locals
    in
    let q : sum_of other_locals ≡ 3 = refl in omega (arith, p, q)
sum_last last false =
    let p = sum_first last (locals_of 2 I32 ∷ other_locals) in
    let q : sum_of (locals_of 2 I32 ∷ other_locals) ≡ 5 = refl in omega (arith, p, q)

sum_added : (runs : List Run) → sum_of (with_added_locals runs) ≡ sum_of runs + 5
sum_added [] = refl
sum_added (last ∷ []) =
    let p : sum_of (with_added_locals (last ∷ [])) ≡ last.count + 5 = sum_last last (same_type last.ty I32) in
    let q : sum_of (last ∷ []) ≡ 0 + last.count = refl in omega (arith, p, q)
sum_added (run ∷ next ∷ runs) =
    let p = sum_first run (with_added_locals (next ∷ runs)) in
    let q = sum_first run (next ∷ runs) in
    let r = sum_added (next ∷ runs) in omega (arith, p, q, r)

count_of_made : (m : Module) (index : ℕ) (func : Func) (ty : Option FuncType) (nest : Option Nest)
    → count_of_locals (instrumented_func m index func ty nest) ≤ count_of_locals func + 5
count_of_made m index func None nest = omega arith
count_of_made m index func (Some ty) None = omega arith
count_of_made m index func (Some ty) (Some nest) = let e = sum_added func.locals in omega (arith, e)

few_locals : (n : ℕ) → n ≤ MAX_LOCALS_HOOKED → past MAX_LOCALS_HOOKED Locals n ≡ None
few_locals n h =
    let t : nat_lt MAX_LOCALS_HOOKED n ≡ false = grind (arith, nat_tests, h) in
    ap (λ b. cond b (Some (Limit Locals n)) None) t

locals_within : (m : Module) (index : ℕ) (funcs : List Func)
    → filter_map (λ f. past MAX_LOCALS Locals (count_of_locals f)) funcs ≡ []
    → filter_map (λ f. past MAX_LOCALS_HOOKED Locals (count_of_locals f))
    (each_func m (instrumented_func m) index funcs)
    ≡ []
locals_within m index [] h = refl
locals_within m index (func ∷ funcs) h =
    by (nat_lt MAX_LOCALS (count_of_locals func)) refl h (λ k. locals_within m (index + 1) funcs k)
  where
    by : (b : Bool) → nat_lt MAX_LOCALS (count_of_locals func) ≡ b
        → cons_option (cond b (Some (Limit Locals (count_of_locals func))) None)
        (filter_map (λ f. past MAX_LOCALS Locals (count_of_locals f)) funcs)
        ≡ []
        → (filter_map (λ f. past MAX_LOCALS Locals (count_of_locals f)) funcs ≡ []
        → filter_map (λ f. past MAX_LOCALS_HOOKED Locals (count_of_locals f))
        (each_func m (instrumented_func m) (index + 1) funcs) ≡ [])
        → filter_map (λ f. past MAX_LOCALS_HOOKED Locals (count_of_locals f))
        (each_func m (instrumented_func m) index (func ∷ funcs))
        ≡ []
    by true e k later = absurd (named k)
      where
        named : Limit Locals (count_of_locals func)
            ∷ filter_map (λ f. past MAX_LOCALS Locals (count_of_locals f)) funcs ≡ [] → ⊥
        named e = cc
    by false e k later =
        let made = instrumented_func m index func (type_at m func.ty) (nest_of func.body) in
        let few : count_of_locals func ≤ MAX_LOCALS = grind (arith, nat_tests, e) in
        let more = count_of_made m index func (type_at m func.ty) (nest_of func.body) in
        let within : count_of_locals made ≤ MAX_LOCALS_HOOKED = omega (arith, few, more) in
        ap (λ o. cons_option o (filter_map (λ f. past MAX_LOCALS_HOOKED Locals (count_of_locals f))
        (each_func m (instrumented_func m) (index + 1) funcs))) (few_locals (count_of_locals made) within)
        ∙ later k

-- ---- the module

module _ (keep : InstrumentedKeepIndices) (m : Module) (digest : List ℕ) (accepted : IsAccepted false m) where
  abbrev hooked : Module
  hooked = instrumented_module m digest

  keeps : InstrumentedKeepsIndices m digest
  keeps = keep m digest

  refused_parts : (refused_instructions m ≡ []) × (quantities_past false m ≡ [])
  refused_parts =
      let first = nil_parts (refused_instructions m ++ quantities_past false m) (reserved_imports false m) in
      let all : (refused_instructions m ++ quantities_past false m) ++ reserved_imports false m ≡ [] =
      accepted.none_refused
      in
      nil_parts (refused_instructions m) (quantities_past false m) (first all).0

  instructions : refused_instructions hooked ≡ []
  instructions =
      funcs_unrefused m (imported_funcs m) (imported_funcs hooked) m.funcs
      (recursion_from_All (IsTypedFunc m) m.funcs accepted.valid.bodies)
      (λ k func is t. body_supported (imported_funcs m) m.funcs k func t.nest refused_parts.0 is t.is_body)

  abbrev types_past : Module → List Refusal
  types_past n = filter_map (λ (ty : FuncType). past MAX_PARAMETERS Parameters (length ty.params)) n.types

  abbrev tables_past : List Limits → List Refusal
  tables_past limits = filter_map (λ (l : Limits). past MAX_ENTRIES Table l.min) limits

  abbrev memories_past : List Limits → List Refusal
  memories_past limits = filter_map (λ (l : Limits). past MAX_PAGES Memory l.min) limits

  abbrev locals_past : ℕ → List Func → List Refusal
  locals_past most funcs = filter_map (λ (f : Func). past most Locals (count_of_locals f)) funcs

  quantities : quantities_past true hooked ≡ []
  quantities =
      let types_m = types_past m in
      let tables_m = tables_past (all_tables m) in
      let memories_m = memories_past (all_memories m) in
      let a = nil_parts ((types_m ++ tables_m) ++ memories_m) (locals_past MAX_LOCALS m.funcs) refused_parts.1 in
      let b = nil_parts (types_m ++ tables_m) memories_m a.0 in
      let c = nil_parts types_m tables_m b.0 in
      let ty = λ (ty : FuncType). past MAX_PARAMETERS Parameters (length ty.params) in
      let types : types_past hooked ≡ [] =
      filter_map-append ty m.types hook_types ∙ ap (λ refused. refused ++ filter_map ty hook_types) c.0
      in
      let tables : tables_past (all_tables hooked) ≡ [] = ap tables_past keeps.tables ∙ c.1 in
      let memories : memories_past (all_memories hooked) ≡ [] = ap memories_past keeps.memories ∙ b.1 in
      let locals = locals_within m (imported_funcs m) m.funcs a.1 in
      (λ i. ((types i ++ tables i) ++ memories i) ++ locals i)

  pub none_refused : refusals true hooked ≡ []
  none_refused = (λ i. (instructions i ++ quantities i) ++ [])

pub instrumented_are_accepted : InstrumentedKeepIndices → InstrumentedAreValid → InstrumentedAreAccepted
instrumented_are_accepted keep valid m digest accepted core words =
    record {
      valid = valid m digest accepted.valid core words;
      none_refused = none_refused keep m digest accepted;
    }
