-- Bytes that are written are known, and what was frozen stays.
use Rattle.std.proofs.Common.{◌≡◌, ℕ, List, [], ◌∷◌, Result, Ok, Err, sym, ap, ◌∙◌}
use Rattle.std.specs.Prelude.{unwrap_or, OnErr, OnOk}
use Rattle.trace_model.specs.declared.events.Event.{Event}
use Rattle.trace_model.proofs.SinkLemmas.{took_none}
use Rattle.record_replay_spec.specs.Observations.{Writes}
use Rattle.record_replay_spec.specs.Known.{byte_among}
use Rattle.shadow_memory.specs.Shadow.{Shadow, HasTaken, IsUnchanged}
use Rattle.recorder.specs.Known.{ReportsMemory}

module _ {S : Type 0} (has_taken : S → S → List Event → Type 0) (memory : Shadow) where
  -- bytes that are written are known
  pub writes : (sink : S) (address : ℕ) (bytes : List ℕ) (after : Shadow) → HasTaken memory address bytes after
      → ReportsMemory has_taken memory sink (Writes address bytes ∷ []) after sink
  writes sink address bytes after taken n tables state shows = (
    record {
      byte = λ at.
          ap (unwrap_or (byte_among address bytes at)) (shows.byte at) ∙ sym (taken.byte at);
      entry = shows.entry;
      global = shows.global;
      pages = shows.pages ∙ sym taken.known;
      entries = shows.entries;
      noticed = shows.noticed ∙ sym taken.noticed;
    },
    took_none has_taken sink,
  )

-- what was frozen stays if bytes are taken, and if they cannot be
pub frozen_stays : {A B : Type 0} (result : Result A B) (before : Shadow) (address : ℕ) (bytes : List ℕ) (after : Shadow)
    → OnOk result (HasTaken before address bytes after) → OnErr result (IsUnchanged before after)
    → after.frozen ≡ before.frozen
frozen_stays (Ok done) before address bytes after taken unchanged = taken.frozen
frozen_stays (Err fault) before address bytes after taken unchanged = unchanged.frozen
