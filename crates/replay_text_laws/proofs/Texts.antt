-- The lines that `replay` prints of the bytes of a replay module.
use Rattle.std.proofs.Common.{◌≡◌, ℕ, ◌+◌, ◌≤◌, List, length, false, refl, sym, subst, arith}
use Rattle.wasm_syntax.specs.declared.forms.Form.{Form}
use Rattle.wasm_syntax.specs.declared.forms.Form.TheVariants.{Replay}
use Rattle.wasm_syntax.specs.declared.modules.Module.{Module}
use Rattle.wasm_syntax.specs.Encoding.Laws.{BytesEncodeOne}
use Rattle.base.specs.declared.outcomes.Outcome.{Outcome}
use Rattle.history_spec.specs.declared.entries.Entry.{Entry}
use Rattle.history_spec.specs.Budget.{IsOver, Over, RunsHaveOneResultAtMost}
use Rattle.history_spec.specs.Line.{history_text}
use Rattle.history_spec.specs.Projection.{Layout}
use Rattle.history_spec.specs.Replay.{instructions, program_alone}
use Rattle.history_spec.specs.Run.{Run}
use Rattle.type_safety.proofs.OneResult.{same_run}
use Rattle.replay_form.specs.Laws.{LayoutsAreOne}
use Rattle.host_play.specs.declared.results.PrintedRun.{PrintedRun}
use Rattle.replay_run.specs.Results.{PrintsReplay}
use Rattle.r3_replay.specs.ReplayTexts.{HasReplayText, IsReplayText}
use Rattle.r3_replay.proofs.OneAnswer.{result-one, text-one}
use Rattle.replay_text_laws.specs.Texts.{AreBytesOfReplay, IsReplayedAs, ReplaysAreShown}

-- lines that are printed within some turns are printed within more
more_turns : (m : Module) (turns more : ℕ) (text : List ℕ) → turns ≤ more → HasReplayText m turns text
    → HasReplayText m more text
more_turns m turns more text enough shown =
    let prints = shown.prints in
    let within = prints.within in
    let few = within.in_budget in
    record {
      printed = shown.printed;
      prints =
          record {
            layout = prints.layout;
            entry = prints.entry;
            form = prints.form;
            initial = prints.initial;
            starts = prints.starts;
            run = prints.run;
            within =
                record {
                  count = within.count;
                  is_run = within.is_run;
                  over = within.over;
                  in_budget = omega (arith, few, enough);
                };
            own = prints.own;
            ended = prints.ended;
            shown = prints.shown;
            projected = prints.projected;
            text = prints.text;
            outcome = prints.outcome;
            entries = prints.entries;
            turns_are = prints.turns_are;
          };
      lines = shown.lines;
    }

module _ (one_module : BytesEncodeOne) (one_layout : LayoutsAreOne) (one_result : RunsHaveOneResultAtMost) where
  -- a module has one text, whatever the turns
  one_text : (m : Module) (a b : ℕ) (x y : List ℕ) → HasReplayText m a x → HasReplayText m b y → x ≡ y
  one_text m a b x y first second =
      text-one m (a + b) (one_layout m) (λ initial. one_result (program_alone m) instructions initial (a + b)) x y
      (more_turns m a (a + b) x (omega arith) first) (more_turns m b (a + b) y (omega arith) second)

  -- a module's run takes one number of turns, whatever the budget
  one_run : (m : Module) (a b : ℕ) (x y : List ℕ) (first : HasReplayText m a x) (second : HasReplayText m b y)
      → first.prints.run ≡ second.prints.run
  unfolding more_turns
  one_run m a b x y first second =
      let left = (more_turns m a (a + b) x (omega arith) first).prints in
      let right = (more_turns m b (a + b) y (omega arith) second).prints in
      same_run left.run right.run
      (result-one m (a + b) (one_layout m) (λ initial. one_result (program_alone m) instructions initial (a + b))
      left.entry right.entry left.initial right.initial (Over left.run) (Over right.run) left.form.enters
      right.form.enters left.starts right.starts left.within right.within)

  module _ (printed : List ℕ) (replay : Module) (layout : Layout) (entry : ℕ) (history : List Entry) (outcome : Outcome)
      (are : AreBytesOfReplay printed replay layout entry history outcome) where
    abbrev text : List ℕ
    text = history_text history outcome

    is_shown : (turns : ℕ) → are.shows.run.turns ≤ turns → HasReplayText replay turns text
    is_shown turns enough =
        let shows = are.shows in
        let run : PrintedRun =
        record {
          text = text;
          entries = length history;
          turns = shows.run.turns;
          outcome = outcome;
        }
        in
        record {
          printed = run;
          prints =
              record {
                layout = layout;
                entry = entry;
                form = are.form;
                initial = shows.initial;
                starts = shows.starts;
                run = shows.run;
                within =
                    record {
                      count = shows.count;
                      is_run = shows.is_run;
                      over = subst IsOver (sym shows.ends) tt;
                      in_budget = enough;
                    };
                own = shows.own;
                ended = shows.ends;
                shown = record { history = history; outcome = outcome };
                projected = shows.shows;
                text = refl;
                outcome = refl;
                entries = refl;
                turns_are = refl;
              };
          lines = refl;
        }

    -- what is printed of the bytes is printed of the module
    of_module : (turns : ℕ) (other : List ℕ) (shown : IsReplayText printed turns other) → HasReplayText replay turns other
    of_module turns other shown =
        subst (λ m. HasReplayText m turns other)
        (one_module Replay printed shown.m replay shown.is_module.encoded are.encoded) shown.shown

    replayed : IsReplayedAs printed text
    unfolding is_shown
    replayed =
        record {
          least = are.shows.run.turns;
          prints = λ turns enough. record {
            m = replay;
            is_module = record { encoded = are.encoded; accepted = are.accepted };
            shown = is_shown turns enough;
          };
          enough = λ turns other shown.
              let own = of_module turns other shown in
              let least = are.shows.run.turns in
              let same = one_run replay turns least other text own (is_shown least (omega arith)) in
              subst (λ (run : Run). run.turns ≤ turns) same own.prints.within.in_budget;
          only = λ turns other shown.
              let least = are.shows.run.turns in
              one_text replay turns least other text (of_module turns other shown) (is_shown least (omega arith));
        }

  pub replays_are_shown : ReplaysAreShown
  replays_are_shown = replayed
