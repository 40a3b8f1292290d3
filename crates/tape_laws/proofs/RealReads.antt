-- What a window reads first is what the store holds where the window begins.
use Rattle.std.proofs.Common.{ℕ, List, [], ◌∷◌, Option, sym, subst}
use Rattle.wasm_syntax.specs.declared.values.Val.{Val}
use Rattle.wasm_syntax.specs.declared.modules.Module.{Module}
use Rattle.wasm_syntax.specs.Validity.{IsValid}
use Rattle.host_script.specs.declared.scripts.Answer.{Answer}
use Rattle.host_script.specs.Fits.{FitAnswers}
use Rattle.trace_model.specs.declared.tapes.Origin.TheVariants.{Begin}
use Rattle.history_spec.specs.Store.{Store}
use Rattle.history_spec.specs.Code.{Code, code_of}
use Rattle.history_spec.specs.Configuration.{Activation, InModule, InMain, InImport}
use Rattle.history_spec.specs.Settle.{deliver}
use Rattle.history_spec.specs.Step.{Program, Running, after_settling}
use Rattle.record_replay_spec.specs.Observations.{observations}
use Rattle.record_replay_spec.specs.Known.{Known}
use Rattle.record_replay_spec.specs.Windows.{window}
use Rattle.type_safety.specs.Configurations.{IsConfig, IsSafe, IsTypedCode}
use Rattle.type_safety.specs.Heights.{Heights}
use Rattle.type_safety.specs.Stores.{IsStore}
use Rattle.tape_laws.specs.Below.{LawsOfSteps}
use Rattle.tape_laws.specs.RealReads.{IsKnownOf, IsReadOf, IsModule, AreNested, observed_from, ReadsAreReal, ReadsAreRealAfterSettling}
use Rattle.tape_laws.proofs.Whole.{makes, delivers}

module _ (laws : LawsOfSteps) (m : Module) (heights : Heights) (valid : IsValid m) (typed : IsTypedCode m heights)
    (answers : List (Option Answer)) (fits : FitAnswers m answers) (known : Known) (k : ℕ) where
  abbrev program : Program
  program = record { code = code_of m; answers = answers }

  at_config : (store : Store) (counts : List ℕ) (stack : List Activation) → AreNested stack → IsModule stack
      → IsConfig m heights (record { store = store; stack = stack; counts = counts }) → IsKnownOf known store
      → IsReadOf known
      (window (observations program k (Running (record { store = store; stack = stack; counts = counts })))) store
  at_config store counts [] nested within fine of = absurd within
  at_config store counts (InModule frame ∷ below) nested within fine of =
      let makes = makes laws m heights valid typed answers fits k in
      (makes.runs frame below store counts known Begin nested fine of).reads
  at_config store counts (InMain actions ∷ below) nested within fine of = absurd within
  at_config store counts (InImport import args actions end ∷ below) nested within fine of = absurd within

  after_results : (store : Store) (counts : List ℕ) (stack : List Activation) (results : List Val)
      → AreNested stack → IsModule stack → IsStore m store → IsKnownOf known store
      → IsSafe m heights (after_settling store counts (deliver stack results)).next
      → IsReadOf known (window (observed_from program k (after_settling store counts (deliver stack results)))) store
  after_results store counts [] results nested within is of safe = absurd within
  after_results store counts (InModule frame ∷ below) results nested within is of safe =
      (delivers laws m heights valid typed answers fits k (InModule frame ∷ below) results store counts known Begin
      nested is of safe).reads
  after_results store counts (InMain actions ∷ below) results nested within is of safe = absurd within
  after_results store counts (InImport import args actions end ∷ below) results nested within is of safe =
      absurd within

pub reads_are_real : LawsOfSteps → ReadsAreReal
reads_are_real laws m heights program known config k valid typed of_module fine nested within of =
    subst
    (λ (code : Code). IsReadOf known
    (window (observations (record { code = code; answers = program.answers }) k (Running config))) config.store)
    (sym of_module.code)
    (at_config laws m heights valid typed program.answers of_module.answers known k config.store config.counts
    config.stack nested within fine of)

pub reads_are_real_after_settling : LawsOfSteps → ReadsAreRealAfterSettling
reads_are_real_after_settling laws m heights program known store counts stack results k valid typed of_module is nested
    within of safe =
    subst
    (λ (code : Code). IsReadOf known
    (window (observed_from (record { code = code; answers = program.answers }) k
    (after_settling store counts (deliver stack results)))) store)
    (sym of_module.code)
    (after_results laws m heights valid typed program.answers of_module.answers known k store counts stack results
    nested within is of safe)
