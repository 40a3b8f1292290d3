-- The replay module of the tape that a run needs shows the run.
use Rattle.std.proofs.Common.{◌≡◌, ℕ, ◌≤◌, List, sym, ◌∙◌, ap, subst}
use Rattle.base.proofs.Results.{same_ok}
use Rattle.wasm_syntax.specs.declared.limits.TheConstants.{MAX_TAPE_WEIGHT}
use Rattle.wasm_syntax.specs.declared.modules.Module.{Module}
use Rattle.wasm_syntax.specs.Encoding.Forms.{IsCoreModule}
use Rattle.host_script.specs.declared.scripts.Script.{Script}
use Rattle.host_script.specs.declared.scripts.Supply.{Supply}
use Rattle.host_script.specs.Fits.{Fits}
use Rattle.trace_model.specs.declared.tapes.Tape.{Tape}
use Rattle.trace_model.specs.Weight.{tape_weight}
use Rattle.history_spec.specs.Run.{Run, all_one, program_of, run_from, run_start, start_in_store}
use Rattle.history_spec.specs.Store.{Store}
use Rattle.type_safety.specs.Supplies.{IsRunnable}
use Rattle.tape_laws.specs.Dropped.{HasNothingToSpare, NothingCanBeDropped}
use Rattle.replay_module_laws.specs.Written.{IsConstantTape}
use Rattle.replay_theorem.specs.Laws.{IsShownByReplay, RunsAreReplayed}
use Rattle.replay_theorem.specs.ConstantLaws.{NeededTapesAreConstant}
use Rattle.accepted_runs.proofs.OneResult.{linked-starts}
use Rattle.replay_laws.specs.EncodedReplays.{IsReplayOf}
use Rattle.r3_make.specs.Printed.{IsReplayFor}
use Rattle.r3_make.specs.Tapes.{NeedsTape}

module _ (m : Module) (script : Script) (turns : ℕ) (supply : Supply) (store : Store) (tape : Tape)
    (needs : NeedsTape m script turns supply store tape) (runnable : IsRunnable m) (fits : Fits m script) where
  same_run : run_from (program_of m script) all_one (start_in_store m script store) needs.ends.within.count ≡ needs.run
  same_run =
      ap (λ initial. run_from (program_of m script) all_one initial needs.ends.within.count)
      (same_ok (run_start m script) (start_in_store m script store) needs.ends.initial
      (linked-starts m script supply store needs.linked) needs.ends.starts)
      ∙ needs.ends.within.is_run

  shown : RunsAreReplayed → IsShownByReplay m script supply store needs.run.history needs.outcome tape
  shown law =
      let found =
      law m script supply store needs.ends.within.count needs.outcome runnable fits needs.linked.supplied
      needs.linked.begins (ap (λ (run : Run). run.at) same_run ∙ needs.ends.ends) in
      let same : found.0 ≡ tape =
      ap (λ segments. record { segments = segments })
      (sym (found.1.is_one.is_one tape.segments needs.is_one.is_needed)) in
      subst (λ tape. IsShownByReplay m script supply store needs.run.history needs.outcome tape) same
      (subst (λ history. IsShownByReplay m script supply store history needs.outcome found.0)
      (ap (λ (run : Run). run.history) same_run) found.1)

  spare : IsCoreModule m → NothingCanBeDropped
      → HasNothingToSpare m script store tape.segments needs.is_one.is_needed
  spare core law =
      law m script supply store tape.segments runnable core fits needs.linked.supplied needs.linked.begins
      needs.is_one.is_needed

  pub constant : NeededTapesAreConstant → IsConstantTape tape
  constant law =
      law m script supply store tape runnable fits needs.linked.supplied needs.linked.begins needs.is_one.is_needed

  pub replay_for : IsCoreModule m → RunsAreReplayed → NothingCanBeDropped → tape_weight tape ≤ MAX_TAPE_WEIGHT
      → (printed : List ℕ) → IsReplayOf m supply store tape printed → IsReplayFor m script turns printed
  replay_for core replayed dropped light printed replay =
      let is = shown replayed in
      record {
        supply = supply;
        store = store;
        tape = tape;
        needed = needs;
        light = light;
        nothing_spare = spare core dropped;
        replay = replay;
        shows = is.shows light;
        makes = is.makes light;
      }
