-- The marks of a log whose events have an encoding: what they name fits, and they weigh no more than the encoding.
use Rattle.std.proofs.Common.{ℕ, ◌+◌, ◌≤◌, List, [], ◌∷◌, ◌++◌, length, Option, Some, None, Bool, true, false, cond, nat_lt, refl, arith}
use Rattle.std.specs.Prelude.{flat_map, sum_by, IfSome}
use Rattle.std.specs.List.{AllByRecursion}
use Rattle.std.proofs.lemmas.List.{length-append}
use Rattle.std.proofs.lemmas.List.Sums.{sum_by-append, sum_by-cons}
use Rattle.base.proofs.Lists.{joined_all}
use Rattle.leb_bytes.specs.Unsigned.{u32_bytes}
use Rattle.wasm_syntax.specs.Encoding.Encodable.{FitsU32}
use Rattle.wasm_syntax.specs.Encoding.Shortest.{sized_bytes, vector_bytes}
use Rattle.wasm_syntax.specs.declared.values.Val.{Val}
use Rattle.base.specs.declared.outcomes.Outcome.{Outcome}
use Rattle.base.specs.declared.outcomes.Outcome.TheVariants.{Ended, Trapped, HostTrapped}
use Rattle.trace_model.specs.declared.events.Event.{Event}
use Rattle.trace_model.specs.declared.events.Event.TheVariants.{Enter, Leave, Pre, Post, Grow, Seen, Table, Bytes, Entry, Global}
use Rattle.trace_model.specs.declared.events.Log.{Log}
use Rattle.trace_model.specs.declared.tapes.Effect.TheVariants as effects
use Rattle.trace_model.specs.declared.tapes.Origin.TheVariants.{Begin, Import, Back}
use Rattle.trace_model.specs.declared.tapes.Next.TheVariants.{Call, Return, End, Trap}
use Rattle.trace_model.specs.Weight.{effect_weight, next_weight}
use Rattle.trace_bytes.specs.declared.tags.TheConstants.{VERSION_2}
use Rattle.trace_bytes.specs.Spelling.{event_bytes, val_bytes}
use Rattle.trace_bytes.specs.Spelled.{FitEvents, FitsEffect, FitsEvent, FitsNext, FitsOrigin}
use Rattle.record_replay_spec.specs.LogTapes.{Mark, Begins, Ends, Finds, LogFrame, frames_after, is_at_host, size_after, mark_if, import_marks, event_marks, is_trapped_call, outcome_marks, marks_from, log_marks}

abbrev pub FitsMark : Mark → Type 0
FitsMark (Begins origin) = FitsOrigin origin
FitsMark (Ends next) = FitsNext next
FitsMark (Finds effect) = FitsEffect VERSION_2 effect

abbrev pub mark_weight : Mark → ℕ
mark_weight (Begins origin) = 0
mark_weight (Ends next) = next_weight next
mark_weight (Finds effect) = effect_weight effect

-- marks fit, and weigh no more than a number
pub record AreWithin (most : ℕ) (marks : List Mark) : Type 0 where
  pub fit : AllByRecursion FitsMark marks
  pub light : sum_by mark_weight marks ≤ most

no_marks : (most : ℕ) → AreWithin most []
no_marks most = record { fit = tt; light = omega arith }

one_mark : (most : ℕ) (mark : Mark) → FitsMark mark → mark_weight mark ≤ most → AreWithin most (mark ∷ [])
one_mark most mark fits light =
    record { fit = (fits, tt); light = omega (arith, light, sum_by-cons mark_weight mark []) }

mark_within : (most : ℕ) (at : Bool) (mark : Mark) → FitsMark mark → mark_weight mark ≤ most
    → AreWithin most (mark_if at mark)
mark_within most true mark fits light = one_mark most mark fits light
mark_within most false mark fits light = no_marks most

import_within : (most n : ℕ) (callee : Option ℕ) → IfSome callee FitsU32 → AreWithin most (import_marks n callee)
import_within most n None fits = no_marks most
import_within most n (Some callee) fits =
    mark_within most (nat_lt callee n) (Begins (Import callee)) fits (omega arith)

-- ---- events

values_within : (values : List Val) → length values ≤ length (flat_map val_bytes values)
values_within [] = omega arith
values_within (value ∷ values) =
    omega (arith, length-append (val_bytes value) (flat_map val_bytes values), values_within values)

enter_bytes : (func : ℕ) (args : List Val) → 1 + length args ≤ length (event_bytes (Enter func args))
unfolding event_bytes
enter_bytes func args =
    omega (
      arith,
      length-append (u32_bytes func) (vector_bytes val_bytes args),
      length-append (u32_bytes (length args)) (flat_map val_bytes args),
      values_within args,
    )

result_bytes : (result : Option Val) → next_weight (Return result) ≤ length (event_bytes (Post result))
unfolding event_bytes
result_bytes None = omega arith
result_bytes (Some value) = omega arith

run_bytes : (addr : ℕ) (bytes : List ℕ) → length bytes ≤ length (event_bytes (Bytes addr bytes))
unfolding event_bytes
run_bytes addr bytes =
    omega (
      arith,
      length-append (u32_bytes addr) (sized_bytes bytes),
      length-append (u32_bytes (length bytes)) bytes,
    )

-- each event takes a byte at least
pub some_bytes : (event : Event) → 1 ≤ length (event_bytes event)
unfolding event_bytes
some_bytes (Enter func args) = omega arith
some_bytes (Leave func) = omega arith
some_bytes (Pre callee) = omega arith
some_bytes (Post result) = omega arith
some_bytes (Grow pages) = omega arith
some_bytes Seen = omega arith
some_bytes (Table size) = omega arith
some_bytes (Bytes addr bytes) = omega arith
some_bytes (Entry index func) = omega arith
some_bytes (Global global value) = omega arith

event_within : (version n : ℕ) (before after : List LogFrame) (size : ℕ) (event : Event) → FitsEvent version event
    → FitsU32 size → AreWithin (length (event_bytes event)) (event_marks n before after size event)
event_within version n before after size (Enter func args) fits known =
    mark_within (length (event_bytes (Enter func args))) (is_at_host n before) (Ends (Call func args)) fits
    (enter_bytes func args)
event_within version n before after size (Leave func) fits known =
    mark_within (length (event_bytes (Leave func))) (is_at_host n after) (Begins Back) tt (omega arith)
event_within version n before after size (Pre callee) fits known =
    import_within (length (event_bytes (Pre callee))) n callee fits
event_within version n before after size (Post result) fits known =
    mark_within (length (event_bytes (Post result))) (is_at_host n before) (Ends (Return result)) fits
    (result_bytes result)
event_within version n before after size (Grow pages) fits known = no_marks (length (event_bytes (Grow pages)))
event_within version n before after size Seen fits known =
    one_mark (length (event_bytes Seen)) (Finds (effects.Grow size)) known (some_bytes Seen)
event_within version n before after size (Table entries) fits known =
    one_mark (length (event_bytes (Table entries))) (Finds (effects.Table entries)) (refl, fits.1)
    (some_bytes (Table entries))
event_within version n before after size (Bytes addr bytes) fits known =
    one_mark (length (event_bytes (Bytes addr bytes))) (Finds (effects.Bytes addr bytes)) fits (run_bytes addr bytes)
event_within version n before after size (Entry index func) fits known =
    one_mark (length (event_bytes (Entry index func))) (Finds (effects.Entry index func)) fits
    (some_bytes (Entry index func))
event_within version n before after size (Global global value) fits known =
    one_mark (length (event_bytes (Global global value))) (Finds (effects.Global global value)) fits
    (some_bytes (Global global value))

unless_within : (most : ℕ) (trapped : Bool) (marks : List Mark) → AreWithin most marks
    → AreWithin most (cond trapped [] marks)
unless_within most true marks within = no_marks most
unless_within most false marks within = within

joined_within : (a b : ℕ) (xs ys : List Mark) → AreWithin a xs → AreWithin b ys → AreWithin (a + b) (xs ++ ys)
joined_within a b xs ys first second = record {
  fit = joined_all FitsMark xs ys first.fit second.fit;
  light = omega (arith, first.light, second.light, sum_by-append mark_weight xs ys);
}

-- ---- logs

outcome_within : (outcome : Outcome) → AreWithin 1 (outcome_marks outcome)
outcome_within Ended = one_mark 1 (Ends End) tt (omega arith)
outcome_within Trapped = no_marks 1
outcome_within HostTrapped = one_mark 1 (Ends Trap) tt (omega arith)

size_fits : (version size : ℕ) (event : Event) → FitsEvent version event → FitsU32 size → FitsU32 (size_after size event)
size_fits version size (Grow pages) fits known = fits
size_fits version size event fits known = known

wider : (a b : ℕ) (marks : List Mark) → a ≤ b → AreWithin a marks → AreWithin b marks
wider a b marks le within = record { fit = within.fit; light = omega (arith, within.light, le) }

events_within : (version n : ℕ) (outcome : Outcome) (frames : List LogFrame) (size : ℕ) (events : List Event)
    → FitEvents version events → FitsU32 size
    → AreWithin (length (flat_map event_bytes events) + 1) (marks_from n outcome frames size events)
events_within version n outcome frames size [] fits known =
    wider 1 (length (flat_map event_bytes []) + 1) (outcome_marks outcome) (omega arith) (outcome_within outcome)
events_within version n outcome frames size (event ∷ later) fits known =
    let own = event_within version n frames (frames_after frames event) size event fits.0 known in
    let rest =
    events_within version n outcome (frames_after frames event) (size_after size event) later fits.1
    (size_fits version size event fits.0 known)
    in
    let marks = event_marks n frames (frames_after frames event) size event in
    let trapped = is_trapped_call outcome event later in
    let after = marks_from n outcome (frames_after frames event) (size_after size event) later in
    wider (length (event_bytes event) + (length (flat_map event_bytes later) + 1))
    (length (flat_map event_bytes (event ∷ later)) + 1) (cond trapped [] marks ++ after)
    (omega (arith, length-append (event_bytes event) (flat_map event_bytes later)))
    (joined_within (length (event_bytes event)) (length (flat_map event_bytes later) + 1) (cond trapped [] marks) after
    (unless_within (length (event_bytes event)) trapped marks own) rest)

pub log_within : (version : ℕ) (log : Log) → FitEvents version log.events
    → AreWithin (length (flat_map event_bytes log.events) + 1) (log_marks log)
log_within version log fits =
    let rest = events_within version log.imports log.outcome [] 0 log.events fits (omega arith) in
    record {
      fit = (tt, rest.fit);
      light =
          omega (
            arith,
            rest.light,
            sum_by-cons mark_weight (Begins Begin) (marks_from log.imports log.outcome [] 0 log.events),
          );
    }
