-- What the log knows at a point of a trail, and how it goes on to the next point.
use Rattle.std.proofs.Common.{◌≡◌, ℕ, List, [], ◌∷◌, true, slice_get, refl, sym, ap, ◌∙◌, subst}
use Rattle.wasm_syntax.specs.declared.modules.Module.{Module}
use Rattle.wasm_syntax.specs.Index.{imported_funcs, all_globals}
use Rattle.history_spec.specs.Store.{Store}
use Rattle.record_replay_spec.specs.Known.{Known, pages_of}
use Rattle.record_replay_spec.specs.Observations.{Observation}
use Rattle.record_replay_spec.specs.Logs.{LogState}
use Rattle.tape_laws.proofs.Trails.{Level, AtFunction, AtImport, AtCall, at_host, IsWithin, KeepsImmutables, KnowsImmutables}
use Rattle.tape_laws.proofs.CallLogs.{noticing}
use Rattle.tape_laws.proofs.ItemEvents.{Keeps}
use Rattle.tape_laws.proofs.LogMarks.{IsSizeReported}
use Rattle.tape_laws.proofs.ObservedFinds.{IsReportedKnown}

-- control is not within a function if it is at the host
pub outside : (n : ℕ) (levels : List Level) → at_host n levels ≡ true → IsWithin levels → ⊥
outside n [] host w = w
outside n (AtFunction func ∷ levels) host w = cc
outside n (AtImport direct callee args ∷ levels) host w = w
outside n (AtCall direct callee entered args ∷ levels) host w = w

module _ (m : Module) where
  -- what the log knows at a point: all that the run knows, and the size of the memory if control is within a function
  pub record Stands (levels : List Level) (known : Known) (store : Store) (st : LogState) : Type 0 where
    pub reported : IsReportedKnown (imported_funcs m) known st.known
    pub immutable : KnowsImmutables (all_globals m) known store
    pub real : IsWithin levels → st.noticed ≡ pages_of store.memory

  -- what the log knows at a point of a trail
  abbrev pub StandsAt : List Level → Known → Store → List Observation → LogState → Type 0
  StandsAt levels known store left st = Stands levels known store st

  -- at the same levels and store
  pub stands_there : (levels next : List Level) (known : Known) (store before : Store) (st : LogState) → levels ≡ next
      → before ≡ store → Stands levels known store st → Stands next known before st
  stands_there levels next known store before st levels_are store_is h =
      subst (λ l. Stands l known before st) levels_are (subst (λ s. Stands levels known s st) (sym store_is) h)

  -- control comes to a function, and the log notices the size
  pub noticed_stands : (levels next : List Level) (known : Known) (store view : Store) (st : LogState)
      → KeepsImmutables (all_globals m) store view → Stands levels known store st
      → Stands next known view (noticing view st)
  noticed_stands levels next known store view st keeps h =
      record { reported = h.reported; immutable = λ at i. h.immutable at i ∙ sym (keeps at i); real = λ w. refl }

  -- control goes to the host
  pub outside_stands : (levels next : List Level) (known : Known) (store after : Store) (st : LogState)
      → KeepsImmutables (all_globals m) store after → (IsWithin next → ⊥) → Stands levels known store st
      → Stands next known after st
  outside_stands levels next known store after st keeps gone h =
      record {
        reported = h.reported;
        immutable = λ at i. h.immutable at i ∙ sym (keeps at i);
        real = λ w. absurd (gone w);
      }

  -- within a function, the log keeps what a step's observations depend on
  pub stands_kept : (func : ℕ) (below : List Level) (known : Known) (store : Store) (st : LogState) (size : ℕ)
      → IsSizeReported size known st → Stands (AtFunction func ∷ below) known store st
      → Keeps (imported_funcs m) (all_globals m) known store st size
  stands_kept func below known store st size size_reported h =
      record {
        reported = h.reported;
        immutable = h.immutable;
        real = h.real tt;
        size_reported = size_reported;
      }

  -- after a step's observations
  pub kept_stands : (levels : List Level) (known : Known) (store after : Store) (st : LogState) (size : ℕ)
      → after ≡ store → Keeps (imported_funcs m) (all_globals m) known store st size → Stands levels known after st
  kept_stands levels known store after st size same k =
      record {
        reported = k.reported;
        immutable = λ at i. k.immutable at i ∙ sym (ap (λ (s : Store). slice_get s.globals at) same);
        real = λ w. k.real ∙ sym (ap (λ (s : Store). pages_of s.memory) same);
      }
