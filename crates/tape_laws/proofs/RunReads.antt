-- At each configuration of a run what is known fits the store, and windows read first what the store holds.
use Rattle.std.proofs.Common.{refl}
use Rattle.history_spec.specs.Code.{code_of}
use Rattle.history_spec.specs.Run.{program_of}
use Rattle.wasm_syntax.specs.declared.modules.Module.{Module}
use Rattle.type_safety.specs.Heights.{Heights}
use Rattle.tape_laws.specs.Below.{LawsOfSteps, LawsOfRuns}
use Rattle.tape_laws.specs.RealReads.{IsKnownOf, RunsReadWhatIsThere, known_so_far}
use Rattle.tape_laws.proofs.HostStores.{sizes_of, host_change, known_of_change}
use Rattle.tape_laws.proofs.KeptSteps.{done_known}
use Rattle.tape_laws.proofs.KeptInRuns.{IsKeptInRuns, kept_so_far}
use Rattle.tape_laws.proofs.AllSteps.{opening_is_known}
use Rattle.tape_laws.proofs.RealReads.{reads_are_real}
use Rattle.tape_laws.proofs.SafeRuns.{safe_run}

known_is_kept : LawsOfSteps → (m : Module) (heights : Heights) → IsKeptInRuns m heights IsKnownOf
known_is_kept laws m heights =
    record {
      instruction = λ known store frame ty body operands results found control is next fine e of.
          done_known laws.own laws.answers m (code_of m) store is frame known operands results found control e of;
      action = λ known store params args action after is next fits e of.
          known_of_change m known store after is next (host_change (code_of m) store args action after e) of;
    }

pub runs_read_what_is_there : LawsOfSteps → LawsOfRuns → RunsReadWhatIsThere
runs_read_what_is_there laws safety m script supply store so_far config runnable fits links opens at =
    let run = safe_run safety m script supply store runnable fits links opens in
    let found = kept_so_far laws m script store runnable fits run IsKnownOf (known_is_kept laws m run.heights)
    (opening_is_known store (sizes_of m store run.is)) so_far config at in (
      found.kept,
      λ within k.
          reads_are_real laws m run.heights (program_of m script) (known_so_far m script store so_far) config k
          runnable.valid run.typed (record { code = refl; answers = fits.imports }) found.fine found.nested within
          found.kept,
    )
