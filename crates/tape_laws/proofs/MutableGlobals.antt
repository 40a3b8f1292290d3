-- A well-typed instruction sets no immutable global.
use Rattle.std.proofs.Common.{◌≡◌, ℕ, List, [], ◌∷◌, Option, Some, None, Bool, true, false, cond, nat_eq, slice_get, refl, sym, ap, ◌∙◌, subst, arith}
use Rattle.std.specs.Prelude.{option_and_then, unwrap_or}
use Rattle.std.specs.List.{AllByRecursion}
use Rattle.std.proofs.lemmas.Bool.Decides.{nat_tests}
use Rattle.std.proofs.lemmas.Option.{same_Some}
use Rattle.wasm_syntax.specs.declared.values.ValType.{ValType}
use Rattle.wasm_syntax.specs.declared.signatures.GlobalType.{GlobalType}
use Rattle.wasm_syntax.specs.declared.instructions.Instr.{Instr}
use Rattle.wasm_syntax.specs.declared.instructions.Instr.TheVariants.{GlobalSet}
use Rattle.wasm_syntax.specs.declared.modules.Module.{Module}
use Rattle.wasm_syntax.specs.Index.{all_globals}
use Rattle.wasm_syntax.specs.Typing.{Moves, if_true, instr_type, set_of, Leads, IsTyped}
use Rattle.history_spec.specs.Configuration.{Frame}
use Rattle.history_spec.specs.Store.{Store}
use Rattle.record_replay_spec.specs.Observations.{Observation, WritesGlobal}
use Rattle.record_replay_spec.specs.Known.{Known, known_after, written_global}
use Rattle.record_replay_spec.specs.Changes.{with_change, with_changes}
use Rattle.record_replay_spec.specs.ObservedStepLaws.{observed}
use Rattle.type_safety.specs.Frames.{Scope, context, IsFrame}
use Rattle.tape_laws.proofs.Items.{change}
use Rattle.tape_laws.proofs.ObservedKinds.{CanObserve, all_observed}
use Rattle.tape_laws.proofs.Relation.{AreSeen}

-- a global is declared mutable
abbrev pub IsMutable : Module → ℕ → Type 0
IsMutable m x = (g : GlobalType) × (slice_get (all_globals m) x ≡ Some g) × (g.mutable ≡ true)

-- a global that an instruction sets is mutable
abbrev pub SetsMutable : Module → Instr → Type 0
SetsMutable m (GlobalSet x) = IsMutable m x
SetsMutable m i = Unit {0}

-- a well-typed instruction sets a mutable global
pub sets_mutable : (m : Module) (s : Scope) → s.m ≡ m → (labels : List (List ValType)) (i : Instr)
    (before middle : List ValType) → Leads (context s labels) (instr_type (context s labels) i) before middle
    → SetsMutable m i
sets_mutable m s same labels (GlobalSet x) before middle leads =
    go (slice_get (all_globals m) x) refl
    (subst (λ own. Leads (context s labels) (option_and_then set_of (slice_get (all_globals own) x)) before middle)
    same leads)
  where
    go : (o : Option GlobalType) → slice_get (all_globals m) x ≡ o
        → Leads (context s labels) (option_and_then set_of o) before middle → IsMutable m x
    go None e h = absurd h
    go (Some g) e h = (g, e, by g.mutable refl h)
      where
        by : (b : Bool) → g.mutable ≡ b
            → Leads (context s labels) (if_true b (Moves (g.ty ∷ []) [])) before middle → g.mutable ≡ true
        by true e h = e
        by false e h = absurd h
sets_mutable m s same labels i before middle leads = tt

-- a mutable global is not an immutable one
pub other_global : (m : Module) (x at : ℕ) (ty : GlobalType) → IsMutable m x → slice_get (all_globals m) at ≡ Some ty
    → ty.mutable ≡ false → nat_eq x at ≡ false
other_global m x at ty mutable there fixed = go (nat_eq x at) refl
  where
    go : (b : Bool) → nat_eq x at ≡ b → b ≡ false
    go false p = refl
    go true p =
        let same : x ≡ at = grind (arith, nat_tests, p) in
        let one = same_Some ty mutable.0 (sym there ∙ ap (slice_get (all_globals m)) (sym same) ∙ mutable.1) in
        let yes : ty.mutable ≡ true = ap (λ (t : GlobalType). t.mutable) one ∙ mutable.2 in
        let no = fixed in
        cc

-- an observation does not write the global at an index
abbrev pub IsUnwritten : ℕ → Observation → Type 0
IsUnwritten at o = written_global at o ≡ None

-- an instruction of a well-typed activation does not write an immutable global
pub immutable_unwritten : (s : Scope) (store : Store) (frame : Frame) → IsFrame s [] frame → (at : ℕ) (ty : GlobalType)
    → slice_get (all_globals s.m) at ≡ Some ty → ty.mutable ≡ false
    → AllByRecursion (IsUnwritten at) (observed store frame)
immutable_unwritten s store frame f at ty there fixed =
    all_observed (IsUnwritten at) store frame.values frame.at.rest (λ i rest is.
    let typed = subst (λ nest. IsTyped (context s f.labels) nest f.types f.given) is f.code.typed in
    each i (sets_mutable s.m s refl f.labels i f.types typed.0 typed.1))
  where
    each : (i : Instr) → SetsMutable s.m i → (o : Observation) → CanObserve i o → IsUnwritten at o
    each i sets (WritesGlobal x value) can =
        ap (λ b. cond b (Some (Some value)) None)
        (other_global s.m x at ty (subst (SetsMutable s.m) can sets) there fixed)
    each i sets o can = refl

-- a global that no observation writes is unchanged
pub unwritten_stays : (known : Known) (store : Store) (seen : List Observation) (at : ℕ) → AreSeen known store seen
    → AllByRecursion (IsUnwritten at) seen
    → slice_get (with_changes store seen).globals at ≡ slice_get store.globals at
unwritten_stays known store [] at are none = refl
unwritten_stays known store (o ∷ seen) at are none =
    unwritten_stays (known_after known o) (with_change store o) seen at are.1 none.1
    ∙ (change known store o are.0).global at ∙ ap (λ w. unwrap_or w (slice_get store.globals at)) none.0
