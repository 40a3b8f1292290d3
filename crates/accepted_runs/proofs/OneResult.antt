-- The run of a module under a script within a budget of turns has one result.
use Rattle.std.proofs.Common.{◌≡◌, ℕ, Result, Ok, Err, sym, ◌∙◌, ap, subst}
use Rattle.wasm_syntax.specs.declared.modules.Module.{Module}
use Rattle.host_script.specs.declared.scripts.Script.{Script}
use Rattle.host_script.specs.declared.scripts.Supply.{Supply}
use Rattle.host_script.specs.declared.scripts.LinkFault.{LinkFault}
use Rattle.host_script.specs.Supply.{supply_of}
use Rattle.base.specs.declared.outcomes.Outcome.{Outcome}
use Rattle.base.proofs.Results.{same_ok}
use Rattle.history_spec.specs.Step.{StepResult}
use Rattle.history_spec.specs.Instantiation.{instantiate}
use Rattle.history_spec.specs.Run.{Run, all_one, program_of, run_start, run_from, start_in_store, start_or_fault, start_with_supply}
use Rattle.history_spec.specs.Store.{Store}
use Rattle.history_spec.specs.Budget as budget
use Rattle.history_spec.specs.Budget.{HasOneResultAtMost, IsResult}
use Rattle.r3_faults.specs.declared.faults.Fault.{Fault}
use Rattle.r3_faults.specs.declared.faults.Fault.TheVariants.{Script as ScriptFault}
use Rattle.type_safety.proofs.OneResult.{same_run, over_spent, same_outcome, same_kind, ended_faulted}
use Rattle.accepted_runs.specs.Linked.{IsLinked}
use Rattle.accepted_runs.specs.Unlinked.{IsUnlinkedFor, link_fault}
use Rattle.accepted_runs.specs.Runs.{HasOutcome, HasNoOutcome, IsFaultyFor, IsSpentFor, OfScript, OfTurns}

-- ---- values that differ, and that are the same

same-supply : (r : Result Supply LinkFault) (a b : Supply) → r ≡ Ok a → r ≡ Ok b → a ≡ b
same-supply r a b e f = cc (sym e ∙ f)

module _ (m : Module) (script : Script) where
  -- ---- the start of the run

  start-one : (a b : StepResult) → run_start m script ≡ Ok a → run_start m script ≡ Ok b → a ≡ b
  start-one a b e f = cc (sym e ∙ f)

  pub unlinked-started : (fault : Fault) (a : StepResult) → IsUnlinkedFor m script fault → run_start m script ≡ Ok a → ⊥
  unlinked-started fault a u e = absurd (cc (sym u.unopened ∙ e))

  found-one : (a b : LinkFault) → run_start m script ≡ Err a → run_start m script ≡ Err b → a ≡ b
  found-one a b e f = cc (sym e ∙ f)

  pub unlinked-one : (f g : Fault) → IsUnlinkedFor m script f → IsUnlinkedFor m script g → f ≡ g
  unlinked-one f g u v = u.named ∙ ap link_fault (found-one u.found v.found u.unopened v.unopened) ∙ sym v.named

  pub unlinked-run : (turns : ℕ) (f g : Fault) → IsUnlinkedFor m script f → HasNoOutcome m script turns g → ⊥
  unlinked-run turns f g u (OfScript v) = unlinked-started f v.initial u v.starts
  unlinked-run turns f g u (OfTurns v) = unlinked-started f v.initial u v.starts

  -- ---- if the module links

  pub linked-starts : (supply : Supply) (store : Store) → IsLinked m script supply store
      → run_start m script ≡ Ok (start_in_store m script store)
  linked-starts supply store is =
      ap (start_with_supply m script) is.supplied ∙ ap (start_or_fault m script) is.begins

  pub linked-unlinked : (supply : Supply) (store : Store) (fault : Fault) → IsLinked m script supply store
      → IsUnlinkedFor m script fault → ⊥
  linked-unlinked supply store fault is u =
      unlinked-started fault (start_in_store m script store) u (linked-starts supply store is)

  pub one-supply : (a b : Supply) (s t : Store) → IsLinked m script a s → IsLinked m script b t → a ≡ b
  one-supply a b s t x y = same-supply (supply_of m script) a b x.supplied y.supplied

  pub one-store : (a b : Supply) (s t : Store) → IsLinked m script a s → IsLinked m script b t → s ≡ t
  one-store a b s t x y =
      same_ok (instantiate m b) s t
      (subst (λ supply. instantiate m supply ≡ Ok s) (one-supply a b s t x y) x.begins) y.begins

  -- ---- its end

  module _ (turns : ℕ) (one : (initial : StepResult) → HasOneResultAtMost (run_from (program_of m script) all_one initial) all_one turns) where
    -- runs from two equal starts have the same result
    result-one : (a b : StepResult) (x y : budget.RunResult) → run_start m script ≡ Ok a → run_start m script ≡ Ok b
        → IsResult (run_from (program_of m script) all_one a) all_one turns x → IsResult (run_from (program_of m script) all_one b) all_one turns y → x ≡ y
    result-one a b x y e f is is_too =
        one a x y is (subst (λ initial. IsResult (run_from (program_of m script) all_one initial) all_one turns y) (start-one b a f e) is_too)

    pub run-one : (r s : Run) (a b : Outcome) → HasOutcome m script turns r a → HasOutcome m script turns s b → r ≡ s
    run-one r s a b x y = same_run r s (result-one x.initial y.initial (budget.Over r) (budget.Over s) x.starts y.starts x.within y.within)

    pub outcome-one : (r s : Run) (a b : Outcome) → HasOutcome m script turns r a → HasOutcome m script turns s b → a ≡ b
    outcome-one r s a b x y = same_outcome r.at a b x.ends (ap (λ (r : Run). r.at) (run-one r s a b x y) ∙ y.ends)

    pub outcome-none : (r : Run) (a : Outcome) (fault : Fault) → HasOutcome m script turns r a → HasNoOutcome m script turns fault → ⊥
    outcome-none r a fault x (OfScript u) =
        let same : r ≡ u.faulty.run = same_run r u.faulty.run (result-one x.initial u.initial (budget.Over r)
        (budget.Over u.faulty.run) x.starts u.starts x.within u.faulty.within) in
        ended_faulted r.at a u.kind x.ends (ap (λ (r : Run). r.at) same ∙ u.faulty.kind_is)
    outcome-none r a fault x (OfTurns u) = over_spent r (result-one x.initial u.initial (budget.Over r) budget.Spent x.starts u.starts x.within u.spent)

    faulty-one : (f g : Fault) → IsFaultyFor m script turns f → IsFaultyFor m script turns g → f ≡ g
    faulty-one f g u v =
        let same : u.faulty.run ≡ v.faulty.run = same_run u.faulty.run v.faulty.run (result-one u.initial v.initial
        (budget.Over u.faulty.run) (budget.Over v.faulty.run) u.starts v.starts u.faulty.within v.faulty.within) in
        let turn : u.turn ≡ v.turn = sym u.faulty.turn_is ∙ ap (λ (r : Run). r.turns) same ∙ v.faulty.turn_is in
        let kind : u.kind ≡ v.kind = same_kind u.faulty.run.at u.kind v.kind u.faulty.kind_is (ap (λ (r : Run). r.at) same ∙ v.faulty.kind_is) in
        u.named ∙ ap (λ turn. ScriptFault turn u.kind) turn ∙ ap (ScriptFault v.turn) kind ∙ sym v.named

    faulty-spent : (f g : Fault) → IsFaultyFor m script turns f → IsSpentFor m script turns g → ⊥
    faulty-spent f g u v =
        over_spent u.faulty.run (result-one u.initial v.initial
        (budget.Over u.faulty.run) budget.Spent u.starts v.starts u.faulty.within v.spent)

    pub none-one : (f g : Fault) → HasNoOutcome m script turns f → HasNoOutcome m script turns g → f ≡ g
    none-one f g (OfScript u) (OfScript v) = faulty-one f g u v
    none-one f g (OfScript u) (OfTurns v) = absurd (faulty-spent f g u v)
    none-one f g (OfTurns u) (OfScript v) = absurd (faulty-spent g f v u)
    none-one f g (OfTurns u) (OfTurns v) = u.named ∙ sym v.named
