-- The events of an observation, and whether a growth may come before them.
use Rattle.std.proofs.Common.{◌≡◌, ℕ, ◌+◌, ◌*◌, List, [], ◌∷◌, Bool, true, false, cond, nat_eq, nat_le, nat_lt, refl, sym, subst, arith, inl, inr}
use Rattle.std.specs.Prelude.{◌⊎◌}
use Rattle.std.specs.List.{AllByRecursion}
use Rattle.std.proofs.lemmas.Bool.Decides.{nat_tests}
use Rattle.base.proofs.Lists.{joined_all}
use Rattle.wasm_syntax.specs.declared.limits.TheConstants.{PAGE_SIZE}
use Rattle.trace_model.specs.declared.events.Event.{Event}
use Rattle.trace_model.specs.declared.events.Event.TheVariants.{Seen, Table, Bytes, Entry, Global}
use Rattle.record_replay_spec.specs.Known.{pages_after}
use Rattle.record_replay_spec.specs.Observations.{Observation, Reads, Copies, Reaches, Resizes, ReadsEntry, ReachesEntry, ReadsGlobal}
use Rattle.record_replay_spec.specs.Logs.{LogState, with_first_byte, differing_runs, unless, seen_events, sees_size, found_events, observed_events, log_after, log_after_all, all_observed_events}

-- the size may be seen: a growth was reported, or the noticed size is known
abbrev pub CanSee : Bool → LogState → Type 0
CanSee grew st = (grew ≡ true) ⊎ (st.known.pages ≡ st.noticed)

-- ---- an event of an observation, with or without a growth before it

abbrev pub IsAllowed : Bool → Event → Type 0
IsAllowed grew Seen = grew ≡ true
IsAllowed grew (Table entries) = Unit {0}
IsAllowed grew (Bytes address bytes) = Unit {0}
IsAllowed grew (Entry index func) = Unit {0}
IsAllowed grew (Global global value) = Unit {0}
IsAllowed grew event = ⊥

abbrev pub AreAllowed : Bool → List Event → Type 0
AreAllowed grew = AllByRecursion (IsAllowed grew)

module _ (grew : Bool) where
  first_byte_allowed : (address byte : ℕ) (runs : List Event) → AreAllowed grew runs
      → AreAllowed grew (with_first_byte address byte runs)
  first_byte_allowed address byte [] h = (tt, tt)
  first_byte_allowed address byte (Bytes at bytes ∷ runs) h = go (nat_eq at (address + 1))
    where
      go : (b : Bool)
          → AreAllowed grew
          (cond b (Bytes address (byte ∷ bytes) ∷ runs) (Bytes address (byte ∷ []) ∷ Bytes at bytes ∷ runs))
      go true = (tt, h.1)
      go false = (tt, h)
  first_byte_allowed address byte (event ∷ runs) h = (tt, h)

  differing_allowed : (known : ℕ → ℕ) (address : ℕ) (bytes : List ℕ)
      → AreAllowed grew (differing_runs known address bytes)
  differing_allowed known address [] = tt
  differing_allowed known address (byte ∷ bytes) =
      go (nat_eq byte (known address)) (differing_allowed known (address + 1) bytes)
    where
      go : (b : Bool) → AreAllowed grew (differing_runs known (address + 1) bytes)
          → AreAllowed grew
          (cond b (differing_runs known (address + 1) bytes)
          (with_first_byte address byte (differing_runs known (address + 1) bytes)))
      go true h = h
      go false h = first_byte_allowed address byte (differing_runs known (address + 1) bytes) h

  unless_allowed : (b : Bool) (event : Event) → IsAllowed grew event → AreAllowed grew (unless b event)
  unless_allowed true event h = tt
  unless_allowed false event h = (h, tt)

  cond_allowed : (b : Bool) (first second : List Event) → AreAllowed grew first → AreAllowed grew second
      → AreAllowed grew (cond b first second)
  cond_allowed true first second f s = f
  cond_allowed false first second f s = s

  seen_allowed : (st : LogState) → CanSee grew st → AreAllowed grew (seen_events st)
  seen_allowed st (inl e) = unless_allowed (nat_eq st.known.pages st.noticed) Seen e
  seen_allowed st (inr p) =
      let same : nat_eq st.known.pages st.noticed ≡ true = grind (arith, nat_tests, p) in
      subst (λ b. AreAllowed grew (unless b Seen)) (sym same) tt

  observed_allowed : (n : ℕ) (st : LogState) (o : Observation) → CanSee grew st
      → AreAllowed grew (observed_events n st o)
  observed_allowed n st o sees =
      joined_all (IsAllowed grew) (cond (sees_size st.known.pages o) (seen_events st) [])
      (found_events n st.known o)
      (cond_allowed (sees_size st.known.pages o) (seen_events st) [] (seen_allowed st sees) tt) (found o)
    where
      found : (o : Observation) → AreAllowed grew (found_events n st.known o)
      found (Reads address bytes) = differing_allowed st.known.byte address bytes
      found (Copies address bytes) = differing_allowed st.known.byte address bytes
      found (ReachesEntry index entries) =
          cond_allowed (nat_lt index st.known.entries) [] _ tt (unless_allowed _ (Table entries) tt)
      found (ReadsEntry index func) = unless_allowed _ (Entry index _) tt
      found (ReadsGlobal global value) = unless_allowed _ (Global global value) tt
      found o = tt

  can_see_after : (st : LogState) (o : Observation) → CanSee grew st → CanSee grew (log_after st o)
  can_see_after st o (inl e) = inl e
  can_see_after st o (inr p) = inr (go o)
    where
      go : (o : Observation)
          → pages_after st.known.pages o
          ≡ cond (sees_size st.known.pages o) (pages_after st.known.pages o) st.noticed
      go (Reaches «end» found) = by (nat_le «end» (st.known.pages * PAGE_SIZE))
        where
          by : (b : Bool)
              → cond b st.known.pages found ≡ cond (cond b false true) (cond b st.known.pages found) st.noticed
          by true = p
          by false = refl
      go (Resizes found left) = refl
      go o = p

  pub all_allowed : (n : ℕ) (st : LogState) (items : List Observation) → CanSee grew st
      → AreAllowed grew (all_observed_events n st items) × CanSee grew (log_after_all st items)
  all_allowed n st [] sees = (tt, sees)
  all_allowed n st (o ∷ items) sees =
      let rest = all_allowed n (log_after st o) items (can_see_after st o sees) in (
        joined_all (IsAllowed grew) (observed_events n st o) (all_observed_events n (log_after st o) items)
            (observed_allowed n st o sees) rest.0,
        rest.1,
      )
