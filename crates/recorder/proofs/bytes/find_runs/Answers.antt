use Rattle.std.proofs.Common.{◌≡◌, ℕ, ◌+◌, ◌-◌, ◌≤◌, [], ◌∷◌, List, length, take, drop, refl, subst, sym, ◌∙◌, arith}
use Rattle.std.proofs.Math.Seq.{take-length}
use Rattle.std.proofs.lemmas.List.{drop-drop, drop_all, length-drop}
use Rattle.record_replay_spec.specs.Observations.{Reads}
use Rattle.recorder.specs.Known.{ReportsMemory}
use Rattle.recorder.specs.Bytes.{FindsNothing, FindsRun}
use Rattle.recorder.proofs.Arms.{if_none, if_some}
use Rattle.recorder.proofs.FoundBytes.{finds_end, finds_nothing, finds_then}
use Rattle.recorder.proofs.bytes.find_runs.Goals as goal

-- the rest of the bytes, in the form of a slice
rest_is : (bytes : List ℕ) (done : ℕ) → take (length bytes - done) (drop done bytes) ≡ drop done bytes
rest_is bytes done = rw (← length-drop done bytes) (take-length (drop done bytes))

pub runs-init : goal.runs-init
runs-init g c =
    record {
      within = omega arith;
      goes_on = λ after sink h.
          let e : c.args.addr + 0 ≡ c.args.addr = omega arith in
          subst
          (λ at. ReportsMemory g.S.EventSink.has_taken c.args.memory.now c.args.sink.now (Reads at c.args.bytes.now ∷ []) after sink)
          e h;
      frozen = refl;
    }

pub runs-preserved : goal.runs-preserved
runs-preserved g c =
    let at = c.args.addr + c.runs.done in
    let rest = drop c.runs.done c.args.bytes.now in
    let found =
    subst
    (λ bs. FindsRun g.S.EventSink.has_taken c.runs.memory c.runs.sink at bs c.in-Some.run' c.find_run.new.memory c.find_run.new.sink)
    (rest_is c.args.bytes.now c.runs.done)
    (if_some c.in_ok-run.field-0 _ c.in-Some.run' c.in-Some.is c.in_ok-run.ensures.run) in
    let within : c.runs.done + c.in-Some.run'.«end» ≤ length c.args.bytes.now =
    omega (arith, found.first.within, length-drop c.runs.done c.args.bytes.now, c.runs.invariant.within) in
    record {
      within = within;
      goes_on = λ after sink h.
          let e : c.args.addr + (c.runs.done + c.in-Some.run'.«end») ≡ at + c.in-Some.run'.«end» = omega arith in
          c.runs.invariant.goes_on after sink
          (finds_then g.S.EventSink.has_taken c.runs.memory c.runs.sink at rest c.in-Some.run' c.find_run.new.memory c.find_run.new.sink after
          sink found
          (subst
          (λ bs. ReportsMemory g.S.EventSink.has_taken c.find_run.new.memory c.find_run.new.sink
          (Reads (at + c.in-Some.run'.«end») bs ∷ []) after sink)
          (sym (drop-drop c.in-Some.run'.«end» c.runs.done c.args.bytes.now))
          (subst
          (λ place. ReportsMemory g.S.EventSink.has_taken c.find_run.new.memory c.find_run.new.sink
          (Reads place (drop (c.runs.done + c.in-Some.run'.«end») c.args.bytes.now) ∷ []) after sink)
          e h)));
      frozen = c.in_ok-run.ensures.frozen ∙ c.runs.invariant.frozen;
    }

pub returns-in-None-clause-reports : goal.returns-in-None-clause-reports
returns-in-None-clause-reports g c =
    c.runs.invariant.goes_on c.find_run.new.memory c.find_run.new.sink
    (finds_nothing g.S.EventSink.has_taken c.runs.memory c.runs.sink (c.args.addr + c.runs.done) (drop c.runs.done c.args.bytes.now)
    c.find_run.new.memory c.find_run.new.sink
    (subst
    (λ bs. FindsNothing g.S.EventSink.has_taken c.runs.memory c.runs.sink (c.args.addr + c.runs.done) bs c.find_run.new.memory
    c.find_run.new.sink)
    (rest_is c.args.bytes.now c.runs.done)
    (if_none c.in_ok-run.field-0 c.in-None.is c.in_ok-run.ensures.none)))

pub returns-clause-reports : goal.returns-clause-reports
returns-clause-reports g c =
    c.runs.invariant.goes_on c.runs.memory c.runs.sink
    (finds_end g.S.EventSink.has_taken c.runs.memory c.runs.sink (c.args.addr + c.runs.done) (drop c.runs.done c.args.bytes.now)
    (drop_all c.runs.done c.args.bytes.now c.runs-test.false))
