-- Events that are read one after another and taken by a sink.
use Rattle.std.proofs.Common.{◌≡◌, List, ℕ, [], ◌∷◌, ◌++◌, Some, Result, Ok, Err, refl, sym, subst}
use Rattle.std.specs.Prelude.{MatchResult}
use Rattle.wasm_syntax.specs.Encoding.Combinators.{Reader}
use Rattle.base.specs.declared.outcomes.Outcome.{Outcome}
use Rattle.trace_model.specs.declared.events.Event.{Event}
use Rattle.trace_model.specs.declared.events.Log.{Log}
use Rattle.trace_format.specs.Answers.{IsItemsFault, IsLogAnswer, IsLogRead, IsLogStart}
use Rattle.trace_format.specs.Reading.{first_event, first_outcome}
use Rattle.trace_format.specs.Taken.{AreTaken, AreTakenToEnd, TakesAll, TakesLog}
use Rattle.trace_format.specs.declared.files.FormatFault.{FormatFault}
use Rattle.trace_format.proofs.FileLaws.{read_last}
use Rattle.trace_format.proofs.FileSteps.{items_fault_of_log, log_is_read}

module _ {S : Type 0} (read : Reader Event) (takes : S → Event → S → Type 0) where
  takes_last : (before now next : S) (xs : List Event) (x : Event) → TakesAll takes before xs now → takes now x next
      → TakesAll takes before (xs ++ x ∷ []) next
  takes_last before now next [] x so_far also = (next, subst (λ s. takes s x next) (sym so_far) also, refl)
  takes_last before now next (y ∷ ys) x so_far also = (so_far.0, so_far.1, takes_last so_far.0 now next ys x so_far.2 also)

  -- one more, after the others
  pub one_more_taken : (bytes mid left : List ℕ) (before now next : S) (x : Event)
      → AreTaken read takes bytes mid before now → read mid ≡ Some (x, left) → takes now x next
      → AreTaken read takes bytes left before next
  one_more_taken bytes mid left before now next x so_far is also = record {
    items = so_far.items ++ x ∷ [];
    items_read = read_last read bytes mid left so_far.items x so_far.items_read is;
    all = takes_last before now next so_far.items x so_far.all also;
  }

-- the sink took the events of a log from `start` on, or the fault has its cause
pub log_is_taken : {S : Type 0} (takes : S → Event → S → Type 0) (bytes digest : List ℕ) (version imports : ℕ)
    (start : List ℕ) → IsLogStart bytes version digest imports start
    → (before now : S) (answer : Result Outcome FormatFault)
    → MatchResult answer (λ outcome. AreTakenToEnd version start takes before now outcome)
    (λ fault. IsItemsFault (first_event version) first_outcome bytes start fault)
    → MatchResult answer
    (λ outcome. (content : List ℕ × Log) × IsLogRead bytes content × TakesLog takes before now content outcome)
    (λ fault. IsLogAnswer bytes (Err fault))
log_is_taken takes bytes digest version imports start begun before now (Ok outcome) is =
    let log : Log = record { imports = imports; events = is.events; outcome = outcome } in (
      (digest, log),
      log_is_read bytes digest version imports start begun log refl is.ended,
      record { all = is.all; ended = refl },
    )
log_is_taken takes bytes digest version imports start begun before now (Err fault) is =
    items_fault_of_log bytes digest version imports start begun fault is
