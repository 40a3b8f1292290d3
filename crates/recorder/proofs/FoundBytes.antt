-- Bytes that are found: how each run is reported and taken, and what is shown after it.
use Rattle.std.proofs.Common.{◌≡◌, ℕ, ◌+◌, ◌-◌, ◌≤◌, List, [], ◌∷◌, ◌++◌, length, take, drop, Option, None, Bool, true, false, cond, nat_eq, nat_le, replicate, slice_index, refl, sym, ap, ◌∙◌, subst, arith}
use Rattle.std.specs.Prelude.{unwrap_or}
use Rattle.std.specs.Option.{option_or}
use Rattle.std.proofs.lemmas.Bool.{eqb-true}
use Rattle.std.proofs.lemmas.Bool.Decides.{nat_tests}
use Rattle.std.proofs.lemmas.List.{append-nil, get_or-drop, get_or-take, length-drop, length-take-le, length-append, length-replicate, replicate-append-replicate, take_at, drop_at}
use Rattle.base.proofs.Options.{or_none}
use Rattle.trace_model.specs.declared.events.Event.{Event}
use Rattle.trace_model.proofs.SinkLemmas.{took_none, took_both, took_same}
use Rattle.record_replay_spec.specs.Observations.{Reads, Writes}
use Rattle.record_replay_spec.specs.Logs.{differing_runs, all_observed_events, log_after}
use Rattle.shadow_memory.specs.Shadow.{Shadow, byte_among, HasTaken}
use Rattle.shadow_memory.specs.Runs.{AreKnown}
use Rattle.shadow_memory.specs.declared.runs.Difference.{Difference}
use Rattle.shadow_memory.proofs.WrittenBytes.{among_there, among_below, among_past, Among, Below, There, Past, where_among}
use Rattle.recorder.specs.Known.{ReportsMemory}
use Rattle.recorder.specs.Bytes.{run_event, FindsRun, FindsNothing}
use Rattle.recorder.proofs.Sizes.{writes}
use Rattle.recorder.proofs.Differences.{known_runs, same_runs, first_run}

-- ---- bytes in two parts

module _ (address : ℕ) (bytes : List ℕ) (cut : ℕ) (within : cut ≤ length bytes) (at old : ℕ) where
  abbrev or_old : Option ℕ → ℕ
  or_old o = unwrap_or o old

  abbrev first : ℕ
  first = or_old (byte_among address (take cut bytes) at)

  long : length (take cut bytes) ≡ cut
  long = length-take-le cut bytes within

  rest_long : length (drop cut bytes) ≡ length bytes - cut
  rest_long = length-drop cut bytes

  -- the byte at an address is the byte of the part that the address is in
  pub in_parts : unwrap_or (byte_among (address + cut) (drop cut bytes) at) first ≡ or_old (byte_among address bytes at)
  in_parts = go (where_among address bytes at) (where_among address (take cut bytes) at)
    where
      go : Among address bytes at → Among address (take cut bytes) at
          → unwrap_or (byte_among (address + cut) (drop cut bytes) at) first ≡ or_old (byte_among address bytes at)
      go (Below below) other =
          ap (λ o. unwrap_or o first) (among_below (address + cut) (drop cut bytes) at (omega (arith, below)))
          ∙ ap or_old (among_below address (take cut bytes) at below)
          ∙ sym (ap or_old (among_below address bytes at below))
      go (Past past) other =
          ap (λ o. unwrap_or o first)
          (among_past (address + cut) (drop cut bytes) at (omega (arith, past, rest_long, within)))
          ∙ ap or_old (among_past address (take cut bytes) at (omega (arith, past, long, within)))
          ∙ sym (ap or_old (among_past address bytes at past))
      go (There from to) (Below below) = absurd (omega (arith, from, below))
      go (There from to) (There from' before) =
          ap (λ o. unwrap_or o first) (among_below (address + cut) (drop cut bytes) at (omega (arith, before, long)))
          ∙ ap or_old (among_there address (take cut bytes) at from before)
          ∙ get_or-take cut bytes (at - address) 0 (omega (arith, before, long, from))
          ∙ sym (ap or_old (among_there address bytes at from to))
      go (There from to) (Past past) =
          let e : cut + (at - (address + cut)) ≡ at - address = omega (arith, past, long) in
          ap (λ o. unwrap_or o first)
          (among_there (address + cut) (drop cut bytes) at (omega (arith, past, long))
          (omega (arith, to, rest_long, within)))
          ∙ get_or-drop cut bytes (at - (address + cut)) 0
          ∙ ap (slice_index bytes) e
          ∙ sym (ap or_old (among_there address bytes at from to))

-- bytes that are known are taken without a change
pub taken_known : (memory : Shadow) (address : ℕ) (bytes : List ℕ) → AreKnown memory.bytes address bytes
    → HasTaken memory address bytes memory
taken_known memory address bytes known =
    record { byte = λ at. go at (where_among address bytes at); known = refl; noticed = refl; frozen = refl }
  where
    go : (at : ℕ) → Among address bytes at
        → slice_index memory.bytes at ≡ unwrap_or (byte_among address bytes at) (slice_index memory.bytes at)
    go at (Below below) = ap (λ o. unwrap_or o (slice_index memory.bytes at)) (sym (among_below address bytes at below))
    go at (Past past) = ap (λ o. unwrap_or o (slice_index memory.bytes at)) (sym (among_past address bytes at past))
    go at (There from to) =
        let e : address + (at - address) ≡ at = omega (arith, from) in
        sym (ap (slice_index memory.bytes) e)
        ∙ eqb-true _ _ (known (at - address) (omega (arith, from, to)))
        ∙ ap (λ o. unwrap_or o (slice_index memory.bytes at)) (sym (among_there address bytes at from to))

-- ---- a run, and what comes after it

module _ {S : Type 0} (has_taken : S → S → List Event → Type 0) where
  pub finds_nothing : (before : Shadow) (sink : S) (address : ℕ) (bytes : List ℕ) (after : Shadow) (sink' : S)
      → FindsNothing has_taken before sink address bytes after sink'
      → ReportsMemory has_taken before sink (Reads address bytes ∷ []) after sink'
  finds_nothing before sink address bytes after sink' found n tables state shows =
      let taken = (writes has_taken before sink address bytes after found.taken n tables state shows).0 in
      let none : differing_runs state.known.byte address bytes ≡ [] =
      known_runs state.known.byte address bytes (λ k below.
      shows.byte (address + k) ∙ eqb-true _ _ (found.known k below)) in (
        record {
          byte = λ at. ap (λ o. unwrap_or o (state.known.byte at)) (or_none (byte_among address bytes at)) ∙ taken.byte at;
          entry = taken.entry;
          global = taken.global;
          pages = taken.pages;
          entries = taken.entries;
          noticed = taken.noticed;
        },
        took_same has_taken sink sink' [] (all_observed_events n state (Reads address bytes ∷ []))
            (sym (append-nil (differing_runs state.known.byte address bytes) ∙ none)) found.reported,
      )

  -- all bytes are known, so nothing is done
  pub finds_known : (memory : Shadow) (sink : S) (address : ℕ) (bytes : List ℕ)
      → AreKnown memory.bytes address bytes
      → ReportsMemory has_taken memory sink (Reads address bytes ∷ []) memory sink
  finds_known memory sink address bytes known =
      finds_nothing memory sink address bytes memory sink (
      record {
        known = known;
        taken = taken_known memory address bytes known;
        reported = took_none has_taken sink;
      }
      )

  pub finds_then : (before : Shadow) (sink : S) (address : ℕ) (bytes : List ℕ) (run : Difference) (next : Shadow)
      (sink' : S) (after : Shadow) (sink'' : S)
      → FindsRun has_taken before sink address bytes run next sink'
      → ReportsMemory has_taken next sink' (Reads (address + run.«end») (drop run.«end» bytes) ∷ []) after sink''
      → ReportsMemory has_taken before sink (Reads address bytes ∷ []) after sink''
  finds_then before sink address bytes run next sink' after sink'' found later n tables state shows =
      let cut = run.«end» in
      let taken =
      (writes has_taken before sink address (take cut bytes) next found.taken n tables state shows).0 in
      let middle = log_after state (Writes address (take cut bytes)) in
      let rest = later n tables middle taken in
      let same : differing_runs middle.known.byte (address + cut) (drop cut bytes)
      ≡ differing_runs state.known.byte (address + cut) (drop cut bytes) =
      same_runs middle.known.byte state.known.byte (address + cut) (drop cut bytes) (λ at from.
      ap (λ o. unwrap_or o (state.known.byte at))
      (among_past address (take cut bytes) at (omega (arith, from, length-take-le cut bytes found.first.within)))) in
      let split : run_event address bytes run ∷ differing_runs middle.known.byte (address + cut) (drop cut bytes)
      ≡ differing_runs state.known.byte address bytes =
      ap (λ runs. run_event address bytes run ∷ runs) same
      ∙ sym
      (first_run state.known.byte address bytes run.start cut found.first.some found.first.within
      (λ k below. shows.byte (address + k) ∙ eqb-true _ _ (found.first.before k below))
      (λ k from to same. differs (address + k) (slice_index bytes k) (found.first.differ k from to)
      (sym (shows.byte (address + k)) ∙ same))
      (λ below. shows.byte (address + cut) ∙ eqb-true _ _ (found.first.ended below))) in (
        record {
          byte = λ at.
              ap (λ o. unwrap_or o (state.known.byte at)) (or_none (byte_among address bytes at))
              ∙ sym (in_parts address bytes cut found.first.within at (state.known.byte at))
              ∙ sym
              (ap (λ o. unwrap_or o (middle.known.byte at)) (or_none (byte_among (address + cut) (drop cut bytes) at)))
              ∙ rest.0.byte at;
          entry = rest.0.entry;
          global = rest.0.global;
          pages = rest.0.pages;
          entries = rest.0.entries;
          noticed = rest.0.noticed;
        },
        took_same has_taken sink sink'' _ (all_observed_events n state (Reads address bytes ∷ []))
            (ap (λ runs. runs ++ []) split)
            (took_both has_taken sink sink' sink'' (run_event address bytes run ∷ []) _ found.reported rest.1),
      )
    where
      differs : (a b : ℕ) → nat_eq (slice_index before.bytes a) b ≡ false → slice_index before.bytes a ≡ b → ⊥
      differs a b p same =
          let t : nat_eq (slice_index before.bytes a) b ≡ true = grind (arith, nat_tests, same) in
          absurd_tests (nat_eq (slice_index before.bytes a) b) p t
        where
          absurd_tests : (t : Bool) → t ≡ false → t ≡ true → ⊥
          absurd_tests true p q = cc
          absurd_tests false p q = cc

  -- no bytes are left
  pub finds_end : (memory : Shadow) (sink : S) (address : ℕ) (bytes : List ℕ) → bytes ≡ []
      → ReportsMemory has_taken memory sink (Reads address bytes ∷ []) memory sink
  finds_end memory sink address [] h n tables state shows = (
    record {
      byte = λ at. nothing at (nat_le address at) ∙ shows.byte at;
      entry = shows.entry;
      global = shows.global;
      pages = shows.pages;
      entries = shows.entries;
      noticed = shows.noticed;
    },
    took_none has_taken sink,
  )
    where
      nothing : (at : ℕ) (b : Bool)
          → unwrap_or (option_or (cond b None None) None) (state.known.byte at) ≡ state.known.byte at
      nothing at true = refl
      nothing at false = refl
  finds_end memory sink address (byte ∷ bytes) h n tables state shows = absurd (apart h)
    where
      apart : byte ∷ bytes ≡ [] → ⊥
      apart e = cc

-- ---- bytes that are taken in two parts

pub taken_both : (before : Shadow) (address : ℕ) (first later : List ℕ) (middle after : Shadow) (place : ℕ)
    → place ≡ address + length first
    → HasTaken before address first middle → HasTaken middle place later after
    → HasTaken before address (first ++ later) after
taken_both before address first later middle after place at_end one two =
    record {
      byte = λ at.
          two.byte at
          ∙ ap (λ from. unwrap_or (byte_among from later at) (slice_index middle.bytes at)) at_end
          ∙ ap (unwrap_or (byte_among (address + length first) later at)) (one.byte at)
          ∙ ap
          (λ bytes. unwrap_or (byte_among (address + length first) bytes at)
          (unwrap_or (byte_among address first at) (slice_index before.bytes at)))
          (sym (drop_at first later (length first) refl))
          ∙ ap
          (λ bytes. unwrap_or (byte_among (address + length first) (drop (length first) (first ++ later)) at)
          (unwrap_or (byte_among address bytes at) (slice_index before.bytes at)))
          (sym (take_at first later (length first) refl))
          ∙ in_parts address (first ++ later) (length first) (omega (arith, length-append first later)) at
          (slice_index before.bytes at);
      known = two.known ∙ one.known;
      noticed = two.noticed ∙ one.noticed;
      frozen = two.frozen ∙ one.frozen;
    }

pub taken_same : (before : Shadow) (address done more byte : ℕ) (middle after : Shadow) (part : List ℕ)
    → part ≡ replicate more byte → HasTaken before address (replicate done byte) middle
    → HasTaken middle (address + done) part after → HasTaken before address (replicate (done + more) byte) after
taken_same before address done more byte middle after part is one two =
    let e : address + done ≡ address + length (replicate done byte) =
    omega (arith, length-replicate {A = ℕ} done byte) in
    subst (λ bytes. HasTaken before address bytes after) (replicate-append-replicate done more byte)
    (subst (λ later. HasTaken before address (replicate done byte ++ later) after) is
    (taken_both before address (replicate done byte) part middle after (address + done) e one two))

pub taken_none : (shadow : Shadow) (address byte : ℕ) → HasTaken shadow address (replicate 0 byte) shadow
taken_none shadow address byte =
    record { byte = λ at. nothing at (nat_le address at); known = refl; noticed = refl; frozen = refl }
  where
    nothing : (at : ℕ) (b : Bool) → slice_index shadow.bytes at ≡ unwrap_or (cond b None None) (slice_index shadow.bytes at)
    nothing at true = refl
    nothing at false = refl
