-- An instruction observes no activity of the host.
use Rattle.std.proofs.Common.{List}
use Rattle.std.specs.List.{AllByRecursion}
use Rattle.wasm_syntax.specs.declared.values.Val.{Val}
use Rattle.wasm_syntax.specs.declared.instructions.Instr.{Instr}
use Rattle.wasm_syntax.specs.Nest.{Nest}
use Rattle.history_spec.specs.Store.{Store}
use Rattle.record_replay_spec.specs.Observations.{Observation, Begins, Ends, nest_observations}
use Rattle.tape_laws.proofs.Agrees.{IsOfStore}
use Rattle.tape_laws.proofs.ObservedKinds.{CanObserve, all_observed}

pub of_store : (store : Store) (values : List Val) (nest : Nest)
    → AllByRecursion IsOfStore (nest_observations store values nest)
of_store store values nest = all_observed IsOfStore store values nest (λ i rest is. each i)
  where
    each : (i : Instr) (o : Observation) → CanObserve i o → IsOfStore o
    each i (Begins origin) can = absurd can
    each i (Ends next) can = absurd can
    each i o can = tt
