-- What is known during a run is typed: what an instruction observes of a typed store, which it leaves typed, leaves what
-- is known typed; and immutable globals are known with their first values.
use Rattle.std.proofs.Common.{◌≡◌, ℕ, ◌<◌, List, [], ◌∷◌, Option, Some, None, slice_get, refl, sym, ◌∙◌, subst, arith, inl, inr}
use Rattle.std.specs.Prelude.{◌⊎◌, unwrap_or}
use Rattle.std.specs.Option.{option_or}
use Rattle.std.proofs.lemmas.Option.{none-some}
use Rattle.wasm_syntax.specs.declared.modules.Module.{Module}
use Rattle.history_spec.specs.Store.{Store}
use Rattle.history_spec.specs.Code.{code_of}
use Rattle.record_replay_spec.specs.Observations.{Observation}
use Rattle.record_replay_spec.specs.Known.{Known, byte_of, entry_of, read_byte, written_byte, read_entry, written_entry, read_global, written_global, opening_known, known_after, known_after_all}
use Rattle.record_replay_spec.specs.Changes.{with_change, with_changes}
use Rattle.record_replay_spec.specs.ObservedStepLaws.{observed}
use Rattle.type_safety.specs.Configurations.{scope}
use Rattle.type_safety.specs.Heights.{Heights}
use Rattle.type_safety.specs.Stores.{func_count, IsStore}
use Rattle.type_safety.specs.Values.{IsValue}
use Rattle.tape_laws.specs.Below.{LawsOfSteps, LawsOfRuns}
use Rattle.tape_laws.specs.KnownValues.{AreTypedKnown, AreKnownValues, KnownValuesAreTyped}
use Rattle.tape_laws.specs.RealReads.{IsKnownOf}
use Rattle.tape_laws.proofs.Items.{pages_between, entries_between, touched_byte, touched_entry, touched_global, known_of_after}
use Rattle.tape_laws.proofs.KeptActions.{host_keeps}
use Rattle.tape_laws.proofs.KeptInRuns.{IsKeptInRuns, kept_so_far}
use Rattle.tape_laws.proofs.KeptSteps.{left_is, done_seen, done_keeps}
use Rattle.tape_laws.proofs.KeptStores.{IsKept}
use Rattle.tape_laws.proofs.LastWrites.{only_last_writes}
use Rattle.tape_laws.proofs.NewStores.{new_kept}
use Rattle.tape_laws.proofs.MutableGlobals.{immutable_unwritten, unwritten_stays}
use Rattle.tape_laws.proofs.Places.{IsTouched}
use Rattle.tape_laws.proofs.Relation.{IsSeen, AreSeen}
use Rattle.tape_laws.proofs.SafeRuns.{safe_run}
use Rattle.tape_laws.proofs.StepItems.{OnlyLastWrites, read_changes}
use Rattle.tape_laws.proofs.TypedStores.{opening_typed}

-- ---- what is observed

-- what is known of a place after an observation is what was known of it, or what the store then holds there
known_place : {X : Type 0} (P : X → Type 0) (read written : Option X) (found left known : X)
    → IsTouched read written found left → P left → P known → P (unwrap_or (option_or read written) known)
known_place P (Some y) (Some z) found left known t after before = go t.one
  where
    go : (Some y ≡ None) ⊎ (Some z ≡ None) → P y
    go (inl e) = absurd (none-some y (sym e))
    go (inr e) = absurd (none-some z (sym e))
known_place P (Some y) None found left known t after before = subst P (t.writes ∙ t.reads y refl) after
known_place P None (Some z) found left known t after before = subst P t.writes after
known_place P None None found left known t after before = before

module _ (m : Module) where
  -- a store is typed as what is known in it
  abbrev IsTyped : Store → Type 0
  IsTyped store = AreTypedKnown m (opening_known store)

  -- after an observation
  typed_after : (known : Known) (store : Store) (o : Observation) → IsSeen known store o → IsKnownOf known store
      → IsTyped (with_change store o) → AreTypedKnown m known → AreTypedKnown m (known_after known o)
  typed_after known store o seen of after typed =
      let p = pages_between known store o seen.here seen.found seen.answers seen.possible of.pages in
      let e = entries_between known store o seen.here seen.found seen.answers seen.possible of.entries in
      record {
        byte = λ at.
            known_place (λ byte. byte < 256) (read_byte at o) (written_byte at o) (byte_of store.memory at)
            (byte_of (with_change store o).memory at) (known.byte at) (touched_byte known store o seen at)
            (after.byte at) (typed.byte at);
        entry = λ at.
            known_place (λ entry. (func : ℕ) → entry ≡ Some func → func < func_count m) (read_entry at o)
            (written_entry at o) (entry_of store.table at) (entry_of (with_change store o).table at) (known.entry at)
            (touched_entry known store o seen at) (after.entry at) (typed.entry at);
        global = λ at ty value there.
            known_place (λ global. global ≡ Some value → IsValue (func_count m) ty value) (read_global at o)
            (written_global at o) (slice_get store.globals at) (slice_get (with_change store o).globals at)
            (known.global at) (touched_global known store o seen at) (after.global at ty value there)
            (typed.global at ty value there);
        pages = λ limits e. let least = typed.pages limits e in let more = p.more in omega (arith, least, more);
        entries = λ limits there. let least = typed.entries limits there in let more = e.more in omega (arith, least, more);
      }

  -- after all that an instruction observes, only the last of which changes the store
  typed_after_all : (known : Known) (store : Store) (seen : List Observation) → AreSeen known store seen
      → OnlyLastWrites seen → IsKnownOf known store → IsTyped store → IsTyped (with_changes store seen)
      → AreTypedKnown m known → AreTypedKnown m (known_after_all known seen)
  typed_after_all known store [] are last of before after typed = typed
  typed_after_all known store (o ∷ []) are last of before after typed =
      typed_after known store o are.0 of after typed
  typed_after_all known store (o ∷ next ∷ seen) are last of before after typed =
      let unchanged : IsTyped (with_change store o) = subst IsTyped (sym (read_changes store o last.0)) before in
      typed_after_all (known_after known o) (with_change store o) (next ∷ seen) are.1 last.1
      (known_of_after known store o are.0 of) unchanged after (typed_after known store o are.0 of unchanged typed)

-- ---- runs

-- what each step of a run keeps, with the store in which the run began
record AreKept (m : Module) (first : Store) (known : Known) (store : Store) : Type 0 where
  kept : IsKept m known store
  values : AreKnownValues m first known

are_kept : LawsOfSteps → (m : Module) (heights : Heights) (first : Store) → IsKeptInRuns m heights (AreKept m first)
are_kept laws m heights first =
    record {
      instruction = λ known store frame ty body operands results found control is next fine e all.
          let items = observed store frame in
          let kept = done_keeps laws.own laws.answers m (code_of m) store is frame known operands results found control e
          all.kept next in
          let are = done_seen laws.own laws.answers m (code_of m) store is frame known operands results found control e in
          let left = left_is laws.own laws.answers m (code_of m) store is frame known operands results found control e in
          record {
            kept = kept;
            values = record {
              typed =
                  typed_after_all m known store items are
                  (only_last_writes store frame.values frame.at.rest) all.kept.of (opening_typed m store is)
                  (opening_typed m (with_changes store items) (subst (IsStore m) left next)) all.values.typed;
              immutable = λ at g there fixed.
                  kept.immutable at g there fixed
                  ∙ subst (λ s. slice_get s.globals at ≡ slice_get store.globals at) (sym left)
                  (unwritten_stays known store items at are
                  (immutable_unwritten (scope m heights frame.func ty body) store frame fine at g there fixed))
                  ∙ sym (all.kept.immutable at g there fixed) ∙ all.values.immutable at g there fixed;
            };
          };
      action = λ known store params args action after is next fits e all.
          record {
            kept = host_keeps m known (code_of m) store params args action after all.kept next fits e;
            values = all.values;
          };
    }

pub known_values_are_typed : LawsOfSteps → LawsOfRuns → KnownValuesAreTyped
known_values_are_typed laws safety m script supply store so_far config runnable fits links opens at =
    let run = safe_run safety m script supply store runnable fits links opens in
    let kept = new_kept m supply store run.is (safety.supplied m script supply fits links) opens in
    (kept_so_far laws m script store runnable fits run (AreKept m store) (are_kept laws m run.heights store)
    (record {
      kept = kept;
      values = record { typed = opening_typed m store run.is; immutable = λ at ty there fixed. refl };
    }) so_far config at).kept.values
