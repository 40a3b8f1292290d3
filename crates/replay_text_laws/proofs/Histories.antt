-- Of what `make` prints, `replay` prints what `history` prints of the run.
use Rattle.std.proofs.Common.{◌≡◌, ℕ, ◌+◌, ◌^◌, ◌<◌, ◌≤◌, List, Ok, false, refl, subst, arith}
use Rattle.base.proofs.Results.{same_ok}
use Rattle.wasm_syntax.specs.declared.forms.Form.TheVariants.{Core, Replay}
use Rattle.wasm_syntax.specs.declared.modules.Module.{Module}
use Rattle.wasm_syntax.specs.Encoding.Laws.{BytesEncodeOne, EncodedIsEncodable}
use Rattle.wasm_syntax.specs.Index.{imported_funcs}
use Rattle.wasm_syntax.specs.Profile.{IsAccepted}
use Rattle.host_script.specs.declared.scripts.Script.{Script}
use Rattle.host_script.specs.Fits.{Fits}
use Rattle.base.specs.declared.outcomes.Outcome.{Outcome}
use Rattle.history_spec.specs.Budget.{RunsHaveOneResultAtMost}
use Rattle.history_spec.specs.Line.{history_text}
use Rattle.history_spec.specs.Run.{Run, all_one, program_of}
use Rattle.type_safety.specs.Laws.{SuppliesMatch}
use Rattle.script_text.specs.FittingScripts.{TextsFit}
use Rattle.script_text.specs.Texts.{script_of_text}
use Rattle.replay_module_spec.specs.Fragments.{start_index}
use Rattle.replay_module_spec.specs.Merge.{layout_of}
use Rattle.replay_module_spec.specs.Plans.{plan_of}
use Rattle.replay_module_laws.specs.Laws.{ReplayModulesAreReplayable}
use Rattle.replay_module_laws.proofs.FittingPlans.{left_length}
use Rattle.generated_code_laws.specs.Playable.{replay_of}
use Rattle.r3_inputs.specs.Inputs.{AreInputs}
use Rattle.accepted_runs.specs.Runs.{HasOutcome}
use Rattle.r3_history.specs.Histories.{IsHistoryOf}
use Rattle.r3_history.proofs.OneAnswer.{printed-one}
use Rattle.r3_make.specs.Printed.{IsPrinted, IsReplayFor}
use Rattle.replay_text_laws.specs.Accepted.{ReplayModulesAreAccepted}
use Rattle.replay_text_laws.specs.Texts.{AreBytesOfReplay, ReplaysAreShown}
use Rattle.replay_text_laws.specs.PrintLaws.{PrintLaws}
use Rattle.replay_text_laws.specs.Histories.{IsReplayedAsHistory, ReplaysPrintHistories}

-- ---- the printed bytes

module _ (encodable : EncodedIsEncodable) (accepted_replays : ReplayModulesAreAccepted)
    (replayable : ReplayModulesAreReplayable) (supplies : SuppliesMatch) where
  -- what `make` prints is the bytes of a replay module that shows the run
  pub bytes_of_replay : (m : Module) (script : Script) (turns : ℕ) (printed : List ℕ) → IsAccepted false m → Fits m script
      → (made : IsReplayFor m script turns printed)
      → AreBytesOfReplay printed (replay_of m made.supply made.tape) (layout_of m) (start_index m)
      made.needed.run.history made.needed.outcome
  bytes_of_replay m script turns printed accepted fits made =
      let plan = plan_of (imported_funcs m) made.tape in
      let exports = (encodable Replay printed (replay_of m made.supply made.tape) made.replay.encoded).exports in
      let small : start_index m < 2 ^ 32 = exports.0.1 in
      record {
        encoded = made.replay.encoded;
        accepted =
            accepted_replays m made.supply plan accepted (supplies m script made.supply fits made.needed.linked.supplied)
            made.replay.valid;
        form =
            replayable m made.supply plan accepted.valid (left_length (imported_funcs m) made.tape.segments) small;
        shows = made.shows;
      }

-- ---- the history

-- an outcome within some turns is one within more
more_turns : (m : Module) (script : Script) (turns more : ℕ) (run : Run) (outcome : Outcome) → turns ≤ more
    → HasOutcome m script turns run outcome → HasOutcome m script more run outcome
more_turns m script turns more run outcome enough ends =
    let within = ends.within in
    let few = within.in_budget in
    record {
      initial = ends.initial;
      starts = ends.starts;
      within =
          record {
            count = within.count;
            is_run = within.is_run;
            over = within.over;
            in_budget = omega (arith, few, enough);
          };
      ends = ends.ends;
    }

more_history : (m : Module) (script : Script) (turns more : ℕ) (text : List ℕ) → turns ≤ more
    → IsHistoryOf m script turns text → IsHistoryOf m script more text
more_history m script turns more text enough h =
    record {
      run = h.run;
      outcome = h.outcome;
      ends = more_turns m script turns more h.run h.outcome enough h.ends;
      lines = h.lines;
    }

-- bytes are one module and one script for it
one_inputs : (module_bytes script_bytes : List ℕ) (m n : Module) (script other : Script) → BytesEncodeOne
    → AreInputs module_bytes script_bytes m script → AreInputs module_bytes script_bytes n other
    → (budget : ℕ) (text : List ℕ) → IsHistoryOf n other budget text → IsHistoryOf m script budget text
one_inputs module_bytes script_bytes m n script other one_module own theirs budget text h =
    let same : n ≡ m = one_module Core module_bytes n m theirs.is_module.encoded own.is_module.encoded in
    let read : script_of_text m script_bytes ≡ Ok other =
    subst (λ m. script_of_text m script_bytes ≡ Ok other) same theirs.is_script
    in
    subst (λ script. IsHistoryOf m script budget text)
    (same_ok (script_of_text m script_bytes) other script read own.is_script)
    (subst (λ m. IsHistoryOf m other budget text) same h)

one_history : (m : Module) (script : Script) (a b : ℕ) (x y : List ℕ) → RunsHaveOneResultAtMost
    → IsHistoryOf m script a x → IsHistoryOf m script b y → x ≡ y
one_history m script a b x y one_result first second =
    printed-one m script (a + b) (λ initial. one_result (program_of m script) all_one initial (a + b)) x y
    (more_history m script a (a + b) x (omega arith) first) (more_history m script b (a + b) y (omega arith) second)

-- ---- both

module _ (laws : PrintLaws) where
  -- of what is printed for a module and a script, `replay` prints the history of the run
  pub replayed_as_history : (m : Module) (script : Script) (turns : ℕ) (printed : List ℕ) → IsAccepted false m
      → Fits m script → IsReplayFor m script turns printed → IsReplayedAsHistory (IsHistoryOf m script) turns printed
  replayed_as_history m script turns printed accepted fits made =
      let run = made.needed.run in
      let outcome = made.needed.outcome in
      let text = history_text run.history outcome in
      let history : (budget : ℕ) → turns ≤ budget → IsHistoryOf m script budget text =
      λ budget enough. record {
        run = run;
        outcome = outcome;
        ends = more_turns m script turns budget run outcome enough made.needed.ends;
        lines = refl;
      }
      in
      record {
        text = text;
        history = history;
        only = λ budget other h.
            one_history m script budget turns other text laws.one_result h (history turns (omega arith));
        replay =
            laws.shown printed (replay_of m made.supply made.tape) (layout_of m) (start_index m) run.history outcome
            (bytes_of_replay laws.encodable laws.accepted laws.replayable laws.supplies m script turns printed accepted
            fits made);
      }

  pub replays_print_histories : ReplaysPrintHistories
  replays_print_histories module_bytes script_bytes turns printed p =
      let m = p.m in
      let script = p.script in
      let own = p.inputs in
      let as_history =
      replayed_as_history m script turns printed own.is_module.accepted
      (laws.fit m script_bytes script own.is_module.accepted.valid own.is_script) p.replay
      in
      record {
        text = as_history.text;
        history = λ budget enough.
            record { m = m; script = script; inputs = own; history = as_history.history budget enough };
        only = λ budget other h.
            as_history.only budget other
            (one_inputs module_bytes script_bytes m h.m script h.script laws.one_module own h.inputs budget other h.history);
        replay = as_history.replay;
      }
