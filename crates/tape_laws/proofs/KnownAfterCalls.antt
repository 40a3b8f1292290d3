-- What the log knows after hook calls is what is known after all that they observed, also by a search.
use Rattle.std.proofs.Common.{◌≡◌, ℕ, List, [], ◌∷◌, Bool, true, false, cond, refl, sym, ap, ◌∙◌}
use Rattle.record_replay_spec.specs.Observations.{Observation}
use Rattle.record_replay_spec.specs.Known.{Known, pages_of, known_from, known_after_all}
use Rattle.record_replay_spec.specs.Hooks.{HookCall}
use Rattle.record_replay_spec.specs.Laws.{KnownIsKept}
use Rattle.record_replay_spec.specs.Logs.{LogState, call_observations, notices_size, log_after, log_after_all, log_after_call}
use Rattle.record_replay_spec.specs.Order.{HookedShape}
use Rattle.tape_laws.specs.LogMeaning.{log_after_calls}
use Rattle.tape_laws.specs.ReportedObservations.{observations_of_calls}
use Rattle.tape_laws.proofs.KeptInRuns.{known_after_both}

-- two that are the same place by place are the same
pub same_known : (known other : Known) → ((at : ℕ) → known.byte at ≡ other.byte at)
    → ((at : ℕ) → known.entry at ≡ other.entry at) → ((at : ℕ) → known.global at ≡ other.global at)
    → known.pages ≡ other.pages → known.entries ≡ other.entries → known ≡ other
same_known known other byte entry global pages entries =
    (λ i.
    record {
      byte = λ at. byte at i;
      entry = λ at. entry at i;
      global = λ at. global at i;
      pages = pages i;
      entries = entries i;
    })

-- what is known after observations is what a search of them finds
pub known_by_search : KnownIsKept → (opening : Known) (seen : List Observation)
    → known_after_all opening seen ≡ known_from opening seen
known_by_search kept opening seen =
    let f = kept opening seen in
    same_known (known_after_all opening seen) (known_from opening seen) f.byte f.entry f.global f.pages f.entries

-- what the log knows after observations
pub known_after_seen : (st : LogState) (seen : List Observation)
    → (log_after_all st seen).known ≡ known_after_all st.known seen
known_after_seen st [] = refl
known_after_seen st (o ∷ seen) = known_after_seen (log_after st o) seen

module _ (shape : HookedShape) where
  -- what the log knows after a hook call
  pub known_after_call : (st : LogState) (call : HookCall)
      → (log_after_call shape st call).known ≡ known_after_all st.known (call_observations shape call)
  known_after_call st call =
      go (notices_size call.kind) (log_after_all st (call_observations shape call))
      ∙ known_after_seen st (call_observations shape call)
    where
      go : (b : Bool) (now : LogState)
          → (cond b (record now { noticed = pages_of call.view.memory }) now).known ≡ now.known
      go true now = refl
      go false now = refl

  -- what the log knows after hook calls
  pub known_after_calls : (st : LogState) (calls : List HookCall)
      → (log_after_calls shape st calls).known ≡ known_after_all st.known (observations_of_calls shape calls)
  known_after_calls st [] = refl
  known_after_calls st (call ∷ calls) =
      known_after_calls (log_after_call shape st call) calls
      ∙ ap (λ known. known_after_all known (observations_of_calls shape calls)) (known_after_call st call)
      ∙ sym (known_after_both st.known (call_observations shape call) (observations_of_calls shape calls))
