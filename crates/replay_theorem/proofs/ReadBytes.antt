-- The bytes that a run reads of its memory are bytes.
use Rattle.std.proofs.Common.{◌≡◌, ℕ, zero, suc, ◌<◌, List, [], ◌∷◌, ◌++◌, Some, subst}
use Rattle.std.specs.List.{AllByRecursion}
use Rattle.base.proofs.Lists.{joined_all}
use Rattle.wasm_syntax.specs.declared.modules.Module.{Module}
use Rattle.wasm_syntax.specs.Index.{all_memories}
use Rattle.wasm_syntax.specs.Validity.{IsValid}
use Rattle.base.specs.declared.outcomes.Outcome.TheVariants.{Ended}
use Rattle.history_spec.specs.declared.entries.Entry.{Entry}
use Rattle.history_spec.specs.declared.entries.Entry.TheVariants.{HostCall, HostReturn, ImportCall, ImportReturn, HostTrap}
use Rattle.history_spec.specs.Store.{Store}
use Rattle.history_spec.specs.Configuration.{Activation, InModule, Config}
use Rattle.history_spec.specs.Step.{Program, Progress, Running, Finished, Faulted, Stuck, StepResult, step}
use Rattle.record_replay_spec.specs.Observations.{Observation, Reads, Copies, stack_observations, activity_observations, end_observations, observations, run_observations}
use Rattle.record_replay_spec.specs.Known.{byte_of, read_byte}
use Rattle.record_replay_spec.specs.StoreAnswers.{Answers, AnswersAll}
use Rattle.record_replay_spec.specs.ObservedStepLaws.{StoresAnswerThemselves}
use Rattle.type_safety.specs.Configurations.{IsProgram, IsSafe, IsTypedCode}
use Rattle.type_safety.specs.Heights.{Heights}
use Rattle.type_safety.specs.Laws.{StepsAreSafe}
use Rattle.type_safety.specs.Stores.{IsStore}
use Rattle.tape_laws.proofs.HostStores.{sizes_of, whole_pages_of}
use Rattle.tape_laws.proofs.TypedStores.{byte_there}

-- the values that an observation reads are bytes
abbrev pub ReadsBytes : Observation → Type 0
ReadsBytes o = (at x : ℕ) → read_byte at o ≡ Some x → x < 256

abbrev pub AllReadBytes : List Observation → Type 0
AllReadBytes seen = AllByRecursion ReadsBytes seen

-- ---- observations

answered : (store : Store) (o : Observation) → ((at : ℕ) → byte_of store.memory at < 256) → Answers store o
    → ReadsBytes o
answered store (Reads address bytes) below answers at x is = subst (λ n. n < 256) (answers at x is) (below at)
answered store (Copies address bytes) below answers at x is = subst (λ n. n < 256) (answers at x is) (below at)
answered store o below answers at x is = cc

all_answered : (store : Store) (seen : List Observation) → ((at : ℕ) → byte_of store.memory at < 256)
    → AnswersAll store seen → AllReadBytes seen
all_answered store [] below answers = tt
all_answered store (o ∷ seen) below answers =
    (answered store o below answers.0, all_answered store seen below answers.1)

activity_bytes : (entries : List Entry) → AllReadBytes (activity_observations entries)
activity_bytes [] = tt
activity_bytes (HostCall func args ∷ later) = ((λ at x is. cc), activity_bytes later)
activity_bytes (HostReturn func results ∷ later) = ((λ at x is. cc), activity_bytes later)
activity_bytes (ImportCall import args ∷ later) = ((λ at x is. cc), activity_bytes later)
activity_bytes (ImportReturn import results ∷ later) = ((λ at x is. cc), activity_bytes later)
activity_bytes (HostTrap ∷ later) = ((λ at x is. cc), activity_bytes later)
activity_bytes (entry ∷ later) = activity_bytes later

end_bytes : (at : Progress) → AllReadBytes (end_observations at)
end_bytes (Finished Ended) = ((λ at x is. cc), tt)
end_bytes at = tt

-- ---- steps and runs

-- a property of all that each step of a safe run observes, and of the run's end, is one of all that the run observes
pub each_observed : (P : Observation → Type 0) (m : Module) (heights : Heights) (program : Program)
    → ((config : Config) → IsSafe m heights (Running config)
    → AllByRecursion P (stack_observations config.store config.stack)
    × AllByRecursion P (activity_observations (step program config).entries)
    × IsSafe m heights (step program config).next)
    → ((at : Progress) → AllByRecursion P (end_observations at)) → (k : ℕ) (at : Progress) → IsSafe m heights at
    → AllByRecursion P (observations program k at)
each_observed P m heights program each ends (suc k) (Running config) safe =
    let here = each config safe in
    joined_all P (stack_observations config.store config.stack)
    (activity_observations (step program config).entries ++ observations program k (step program config).next) here.0
    (joined_all P (activity_observations (step program config).entries)
    (observations program k (step program config).next) here.1
    (each_observed P m heights program each ends k (step program config).next here.2))
each_observed P m heights program each ends zero (Running config) safe = tt
each_observed P m heights program each ends zero (Finished outcome) safe = ends (Finished outcome)
each_observed P m heights program each ends zero (Faulted kind) safe = ends (Faulted kind)
each_observed P m heights program each ends zero Stuck safe = ends Stuck
each_observed P m heights program each ends (suc k) (Finished outcome) safe = ends (Finished outcome)
each_observed P m heights program each ends (suc k) (Faulted kind) safe = ends (Faulted kind)
each_observed P m heights program each ends (suc k) Stuck safe = ends Stuck

module _ (own : StoresAnswerThemselves) (safe_steps : StepsAreSafe) (m : Module) (heights : Heights)
    (valid : IsValid m) (typed : IsTypedCode m heights) (program : Program) (fits : IsProgram m program) where
  stack_bytes : (store : Store) (stack : List Activation) → IsStore m store
      → AllReadBytes (stack_observations store stack)
  stack_bytes store (InModule frame ∷ below) is =
      all_answered store (stack_observations store (InModule frame ∷ below))
      (λ at. byte_there (all_memories m) store.memory at is.memory)
      (own store frame.values frame.at.rest (whole_pages_of store (sizes_of m store is)))
  stack_bytes store stack is = tt

  bytes_from : (k : ℕ) (at : Progress) → IsSafe m heights at → AllReadBytes (observations program k at)
  bytes_from =
      each_observed ReadsBytes m heights program
      (λ config safe. (
        stack_bytes config.store config.stack safe.store,
        activity_bytes (step program config).entries,
        safe_steps m heights program config valid typed fits safe,
      ))
      end_bytes

  pub run_bytes : (initial : StepResult) (k : ℕ) → IsSafe m heights initial.next
      → AllReadBytes (run_observations program initial k)
  run_bytes initial k safe = (
    (λ at x is. cc),
    joined_all ReadsBytes (activity_observations initial.entries) (observations program k initial.next)
        (activity_bytes initial.entries) (bytes_from k initial.next safe),
  )
