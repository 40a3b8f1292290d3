-- Tapes that the examples do not need, computed.
use Rattle.std.proofs.Common.{◌≡◌, true, false, Result, Ok, Err, List, [], refl, sym, ap, ◌∙◌}
use Rattle.wasm_syntax.specs.declared.modules.Module.{Module}
use Rattle.host_script.specs.declared.scripts.LinkFault.{LinkFault}
use Rattle.host_script.specs.declared.scripts.Script.{Script}
use Rattle.base.specs.declared.outcomes.Outcome.{Outcome}
use Rattle.base.specs.declared.outcomes.Outcome.TheVariants.{Ended}
use Rattle.trace_model.specs.declared.tapes.Segment.{Segment}
use Rattle.history_spec.specs.Store.{Store}
use Rattle.history_spec.specs.Step.{Finished}
use Rattle.history_spec.specs.Run.{program_of, start_in_store}
use Rattle.record_replay_spec.specs.Needed.{IsNeededTape, opening_store}
use Rattle.record_replay_spec.specs.Laws.{NeededTapeIsOne, TestedSegmentsAreNeeded}
use Rattle.worked_tapes.specs.TapeBuild.{changes, IfOpened, scripted_run, IsNotNeededOf}
use Rattle.worked_tapes.proofs.Needs.{test, needed_by_test}
use Rattle.worked_tapes.specs.WrongTapes.{writes_four, wrong_byte_tape, one_byte_more, bytes_apart, segment_after_end, WrongTapes}
use Rattle.worked_tapes.specs.NeededTapes.{needed_bytes, two_answers_tape}
use Rattle.worked_histories.specs.Modules.{two_answers, overwrite}
use Rattle.worked_histories.specs.Scripts.{five_seven}

-- for a run from this store the segments pass the test, and the others do not
record OnePasses (m : Module) (script : Script) (segments others : List Segment) (outcome : Outcome) (store : Store)
    : Type 0 where
  ends : (scripted_run m script store).at ≡ Finished outcome
  tested : test m script segments store ≡ true
  refused : test m script others store ≡ false

module _ (one : NeededTapeIsOne) (law : TestedSegmentsAreNeeded) where
  not_needed : (m : Module) (script : Script) (segments others : List Segment) (outcome : Outcome)
      → IfOpened (opening_store m script) (OnePasses m script segments others outcome)
      → IsNotNeededOf m script others
  not_needed m script segments others outcome = go (opening_store m script)
    where
      refuted : (store : Store) → OnePasses m script segments others outcome store
          → IsNeededTape (program_of m script) (start_in_store m script store) store others → ⊥
      refuted store passes needed =
          let right = needed_by_test law m script segments outcome store passes.ends passes.tested in
          let e =
          sym passes.tested
          ∙ ap (λ tape. test m script tape store)
          (one (program_of m script) (start_in_store m script store) store segments others right needed)
          ∙ passes.refused
          in
          cc

      go : (o : Result Store LinkFault) → IfOpened o (OnePasses m script segments others outcome)
          → IfOpened o
          (λ store. IsNeededTape (program_of m script) (start_in_store m script store) store others → ⊥)
      go (Ok store) passes = refuted store passes
      go (Err fault) passes = absurd passes

  -- other segments than the needed ones of the four bytes are not needed
  bytes_not_needed : (others : List Segment)
      → IfOpened (opening_store overwrite writes_four) (OnePasses overwrite writes_four needed_bytes others Ended)
      → IsNotNeededOf overwrite writes_four others
  bytes_not_needed others = not_needed overwrite writes_four needed_bytes others Ended

  pub wrong_tapes : WrongTapes
  wrong_tapes =
      record {
        wrong_byte = refl;
        bytes_left_out = refl;
        wrong_byte_not_needed =
            bytes_not_needed wrong_byte_tape (record { ends = refl; tested = refl; refused = refl });
        bytes_left_out_not_needed =
            bytes_not_needed (changes []) (record { ends = refl; tested = refl; refused = refl });
        byte_more = refl;
        byte_more_not_needed =
            bytes_not_needed one_byte_more (record { ends = refl; tested = refl; refused = refl });
        bytes_apart_not_needed =
            bytes_not_needed bytes_apart (record { ends = refl; tested = refl; refused = refl });
        missing_segment = refl;
        segment_more = refl;
        last_missing = refl;
        segment_after_end = refl;
        segment_after_end_not_needed =
            not_needed two_answers five_seven two_answers_tape segment_after_end Ended
            (record { ends = refl; tested = refl; refused = refl });
        end_in_import = refl;
        bytes_past = refl;
        fewer_pages = refl;
        too_many_pages = refl;
        entry_past = refl;
        fewer_entries = refl;
        too_many_entries = refl;
        no_memory = refl;
      }
