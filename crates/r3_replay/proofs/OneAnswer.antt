-- The run of a replay module has at most one result.
use Rattle.std.proofs.Common.{◌≡◌, ◌≢◌, ℕ, List, Vec, Result, Ok, Err, refl, sym, ◌∙◌, ap, subst}
use Rattle.base.proofs.Options.{same_some}
use Rattle.base.proofs.Results.{same_ok}
use Rattle.wasm_syntax.specs.declared.modules.Module.{Module}
use Rattle.host_script.specs.declared.scripts.LinkFault.{LinkFault}
use Rattle.host_script.specs.declared.scripts.LinkFault.TheVariants as link
use Rattle.history_spec.specs.Budget as budget
use Rattle.history_spec.specs.Budget.{HasOneResultAtMost, IsResult}
use Rattle.history_spec.specs.Instantiation.{instantiate}
use Rattle.history_spec.specs.Line.{history_text}
use Rattle.history_spec.specs.Projection.{Layout, Projection, projection}
use Rattle.history_spec.specs.Replay.{alone, instructions, program_alone, run_start_alone, start_alone_or_fault}
use Rattle.history_spec.specs.Run.{Run, run_from}
use Rattle.history_spec.specs.Step.{StepResult}
use Rattle.history_spec.specs.Store.{Store}
use Rattle.host_play.specs.declared.results.PrintedRun.{PrintedRun}
use Rattle.replay_form.specs.Forms.{HasEntry, HasLayout, exported_entry}
use Rattle.replay_run.specs.declared.results.ReplayFault.{ReplayFault}
use Rattle.replay_run.specs.declared.results.ReplayFault.TheVariants as replay
use Rattle.replay_run.specs.Results.{IsUnlinked, RefusesReplay, PrintsReplay}
use Rattle.r3_faults.specs.declared.faults.Fault.{Fault}
use Rattle.r3_faults.specs.Answers.{IsCaused, IsExact}
use Rattle.r3_faults.proofs.OneAnswer.{exact_answer}
use Rattle.type_safety.proofs.OneResult.{over_spent, same_outcome, same_run}
use Rattle.r3_replay.specs.ReplayTexts.{HasNoReplayText, HasReplayText, replay_fault}

-- ---- values that differ, and that are the same

same-segment : (r : Result Store LinkFault) (a b : ℕ) → r ≡ Err (link.Segment a) → r ≡ Err (link.Segment b) → a ≡ b
same-segment r a b e f = cc (sym e ∙ f)

unfit-started : (m : Module) (entry : ℕ) (r : Result Store LinkFault) (found : LinkFault) (initial : StepResult) → r ≡ Err found
    → start_alone_or_fault m entry r ≡ Ok initial → ⊥
unfit-started m entry (Ok store) found initial e f = cc e
unfit-started m entry (Err other) found initial e f = cc f

module _ (m : Module) (turns : ℕ) (layout-one : (a b : Layout) → HasLayout m a → HasLayout m b → a ≡ b)
    (one : (initial : StepResult) → HasOneResultAtMost (run_from (program_alone m) instructions initial) instructions turns) where
  entry-one : (a b : ℕ) → HasEntry m a → HasEntry m b → a ≡ b
  entry-one a b x y = same_some (exported_entry m) a b x.exported y.exported

  start-one : (a b : ℕ) (x y : StepResult) → HasEntry m a → HasEntry m b → run_start_alone m a ≡ Ok x → run_start_alone m b ≡ Ok y → x ≡ y
  start-one a b x y p q e f =
      same_ok (run_start_alone m b) x y (subst (λ (entry : ℕ). run_start_alone m entry ≡ Ok x) (entry-one a b p q) e) f

  -- ---- why there are no lines

  unlinked-started : (segment entry : ℕ) (initial : StepResult) → IsUnlinked m segment → run_start_alone m entry ≡ Ok initial → ⊥
  unlinked-started segment entry initial u starts = unfit-started m entry (instantiate m alone) (link.Segment segment) initial u.unfit starts

  found-one : (f g : ReplayFault) → f ≢ replay.Memory → g ≢ replay.Memory → RefusesReplay m turns f → RefusesReplay m turns g → f ≡ g
  found-one replay.Memory g d e x y = absurd (d refl)
  found-one f replay.Memory d e x y = absurd (e refl)
  found-one replay.NoLayout replay.NoLayout d e x y = refl
  found-one replay.NoLayout replay.Imports d e x y = absurd (x y.0.0 y.0.1)
  found-one replay.NoLayout replay.NoEntry d e x y = absurd (x y.0.0 y.0.1)
  found-one replay.NoLayout (replay.Link segment) d e x y = absurd (x y.layout y.form.laid)
  found-one replay.NoLayout replay.Spent d e x y = absurd (x y.layout y.form.laid)
  found-one replay.Imports replay.NoLayout d e x y = absurd (y x.0.0 x.0.1)
  found-one replay.Imports replay.Imports d e x y = refl
  found-one replay.Imports replay.NoEntry d e x y = absurd (x.1 y.1)
  found-one replay.Imports (replay.Link segment) d e x y = absurd (x.1 y.form.alone)
  found-one replay.Imports replay.Spent d e x y = absurd (x.1 y.form.alone)
  found-one replay.NoEntry replay.NoLayout d e x y = absurd (y x.0.0 x.0.1)
  found-one replay.NoEntry replay.Imports d e x y = absurd (y.1 x.1)
  found-one replay.NoEntry replay.NoEntry d e x y = refl
  found-one replay.NoEntry (replay.Link segment) d e x y = absurd (x.2 y.entry y.form.enters)
  found-one replay.NoEntry replay.Spent d e x y = absurd (x.2 y.entry y.form.enters)
  found-one (replay.Link segment) replay.NoLayout d e x y = absurd (y x.layout x.form.laid)
  found-one (replay.Link segment) replay.Imports d e x y = absurd (y.1 x.form.alone)
  found-one (replay.Link segment) replay.NoEntry d e x y = absurd (y.2 x.entry x.form.enters)
  found-one (replay.Link segment) (replay.Link other) d e x y =
      ap replay.Link (same-segment (instantiate m alone) segment other x.unfit y.unfit)
  found-one (replay.Link segment) replay.Spent d e x y = absurd (unlinked-started segment y.entry y.initial x y.starts)
  found-one replay.Spent replay.NoLayout d e x y = absurd (y x.layout x.form.laid)
  found-one replay.Spent replay.Imports d e x y = absurd (y.1 x.form.alone)
  found-one replay.Spent replay.NoEntry d e x y = absurd (y.2 x.entry x.form.enters)
  found-one replay.Spent (replay.Link segment) d e x y = absurd (unlinked-started segment x.entry x.initial y x.starts)
  found-one replay.Spent replay.Spent d e x y = refl

  none-one : (f g : Fault) → HasNoReplayText m turns f → HasNoReplayText m turns g → f ≡ g
  none-one f g x y = x.named ∙ ap (replay_fault turns) (found-one x.found y.found x.differs y.differs x.refused y.refused) ∙ sym y.named

  -- ---- the lines

  -- runs from two starts that are equal
  pub result-one : (a b : ℕ) (i j : StepResult) (x y : budget.RunResult) → HasEntry m a → HasEntry m b → run_start_alone m a ≡ Ok i → run_start_alone m b ≡ Ok j
      → IsResult (run_from (program_alone m) instructions i) instructions turns x
      → IsResult (run_from (program_alone m) instructions j) instructions turns y → x ≡ y
  result-one a b i j x y p q e f is is_too =
      one i x y is
      (subst (λ initial. IsResult (run_from (program_alone m) instructions initial) instructions turns y) (start-one b a j i q p f e) is_too)

  printed-none : (printed : PrintedRun) (found : ReplayFault) → found ≢ replay.Memory → PrintsReplay m turns printed → RefusesReplay m turns found → ⊥
  printed-none printed replay.Memory d t x = d refl
  printed-none printed replay.NoLayout d t x = x t.layout t.form.laid
  printed-none printed replay.Imports d t x = x.1 t.form.alone
  printed-none printed replay.NoEntry d t x = x.2 t.entry t.form.enters
  printed-none printed (replay.Link segment) d t x = unlinked-started segment t.entry t.initial x t.starts
  printed-none printed replay.Spent d t x =
      over_spent t.run
      (result-one t.entry x.entry t.initial x.initial (budget.Over t.run) budget.Spent t.form.enters x.form.enters t.starts x.starts t.within x.spent)

  printed-one : (a b : PrintedRun) → PrintsReplay m turns a → PrintsReplay m turns b → a.text ≡ b.text
  printed-one a b x y =
      let same : x.run ≡ y.run =
      same_run x.run y.run
      (result-one x.entry y.entry x.initial y.initial (budget.Over x.run) (budget.Over y.run) x.form.enters y.form.enters x.starts y.starts x.within y.within)
      in
      let own : x.own ≡ y.own = same_outcome x.run.at x.own y.own x.ended (ap (λ (run : Run). run.at) same ∙ y.ended) in
      let shown : x.shown ≡ y.shown =
      sym x.projected ∙ ap (λ (layout : Layout). projection layout x.run.history x.own) (layout-one x.layout y.layout x.form.laid y.form.laid)
      ∙ ap (λ (run : Run). projection y.layout run.history x.own) same
      ∙ ap (projection y.layout y.run.history) own ∙ y.projected
      in
      x.text ∙ ap (λ (shown : Projection). history_text shown.history shown.outcome) shown ∙ sym y.text

  pub text-one : (a b : List ℕ) → HasReplayText m turns a → HasReplayText m turns b → a ≡ b
  text-one a b x y = x.lines ∙ printed-one x.printed y.printed x.prints y.prints ∙ sym y.lines

  text-none : (text : List ℕ) (fault : Fault) → HasReplayText m turns text → HasNoReplayText m turns fault → ⊥
  text-none text fault x y = printed-none x.printed y.found y.differs x.prints y.refused

  -- a result with its cause is exact
  pub exact : {Z : Type 0} (r : Result (Vec ℕ Z) Fault)
      → IsCaused (HasReplayText m turns) (HasNoReplayText m turns) r → IsExact (HasReplayText m turns) (HasNoReplayText m turns) r
  exact = exact_answer (HasReplayText m turns) (HasNoReplayText m turns) text-none text-one none-one
