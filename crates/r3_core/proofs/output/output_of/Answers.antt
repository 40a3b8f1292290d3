use Rattle.std.proofs.Common.{refl}
use Rattle.r3_core.specs.declared.jobs.Job.TheVariants.{Make, Instrument, Record, Reduce, Build, History, Replay, Show, Load, Foreign, ForeignHistory, Pair, PairHistory, From}
use Rattle.r3_core.specs.Causes.{bytes_of}
use Rattle.r3_core.proofs.JobLemmas.{answer_at, exact_answer}
use Rattle.r3_core.proofs.output.output_of.Goals as goal

pub returns-in-Make : goal.returns-in-Make
returns-in-Make c =
    answer_at bytes_of c.args.job.now _ c.in-Make.is
    (Make c.deref.result.now c.deref-in-Make.result.now c.in-Make.turns) c.make.result
    (cc (c.deref.ensures.value, c.deref-in-Make.ensures.value)) c.make.ensures

pub returns-in-Instrument : goal.returns-in-Instrument
returns-in-Instrument c =
    answer_at bytes_of c.args.job.now _ c.in-Instrument.is
    (Instrument c.deref-in-Instrument.result.now) c.instrument_bytes.result
    (cc c.deref-in-Instrument.ensures.value) (exact_answer _ _ c.instrument_bytes.result c.instrument_bytes.ensures)

pub returns-in-Record : goal.returns-in-Record
returns-in-Record c =
    answer_at bytes_of c.args.job.now _ c.in-Record.is
    (Record c.deref-in-Record.result.now c.deref-in-Record-2.result.now c.in-Record.turns) c.log_run.result
    (cc (c.deref-in-Record.ensures.value, c.deref-in-Record-2.ensures.value)) (exact_answer _ _ c.log_run.result c.log_run.ensures)

pub returns-in-Reduce : goal.returns-in-Reduce
returns-in-Reduce c =
    answer_at bytes_of c.args.job.now _ c.in-Reduce.is
    (Reduce c.deref-in-Reduce.result.now) c.reduce_log.result
    (cc c.deref-in-Reduce.ensures.value) (exact_answer _ _ c.reduce_log.result c.reduce_log.ensures)

pub returns-in-Build : goal.returns-in-Build
returns-in-Build c =
    answer_at bytes_of c.args.job.now _ c.in-Build.is
    (Build c.deref-in-Build.result.now c.deref-in-Build-2.result.now c.deref-in-Build-3.result.now) c.build.result
    (cc (c.deref-in-Build.ensures.value, c.deref-in-Build-2.ensures.value, c.deref-in-Build-3.ensures.value))
    (exact_answer _ _ c.build.result c.build.ensures)

pub returns-in-History : goal.returns-in-History
returns-in-History c =
    answer_at bytes_of c.args.job.now _ c.in-History.is
    (History c.deref-in-History.result.now c.deref-in-History-2.result.now c.in-History.turns) c.history.result
    (cc (c.deref-in-History.ensures.value, c.deref-in-History-2.ensures.value)) (exact_answer _ _ c.history.result c.history.ensures)

pub returns-in-Replay : goal.returns-in-Replay
returns-in-Replay c =
    answer_at bytes_of c.args.job.now _ c.in-Replay.is
    (Replay c.deref-in-Replay.result.now c.in-Replay.turns) c.replay_text.result
    (cc c.deref-in-Replay.ensures.value) (exact_answer _ _ c.replay_text.result c.replay_text.ensures)

pub returns-in-Show : goal.returns-in-Show
returns-in-Show c =
    answer_at bytes_of c.args.job.now _ c.in-Show.is
    (Show c.deref-in-Show.result.now) c.show.result
    (cc c.deref-in-Show.ensures.value) (exact_answer _ _ c.show.result c.show.ensures)

pub returns-in-Load : goal.returns-in-Load
returns-in-Load c =
    answer_at bytes_of c.args.job.now _ c.in-Load.is
    (Load c.in-Load.calls) c.load_summary.result
    refl c.load_summary.ensures

pub returns-in-Foreign : goal.returns-in-Foreign
returns-in-Foreign c =
    answer_at bytes_of c.args.job.now _ c.in-Foreign.is
    (Foreign c.deref-in-Foreign.result.now c.deref-in-Foreign-2.result.now c.deref-in-Foreign-3.result.now c.in-Foreign.turns) c.foreign.result
    (cc (c.deref-in-Foreign.ensures.value, c.deref-in-Foreign-2.ensures.value, c.deref-in-Foreign-3.ensures.value)) c.foreign.ensures

pub returns-in-ForeignHistory : goal.returns-in-ForeignHistory
returns-in-ForeignHistory c =
    answer_at bytes_of c.args.job.now _ c.in-ForeignHistory.is
    (ForeignHistory c.deref-in-ForeignHistory.result.now c.deref-in-ForeignHistory-2.result.now c.deref-in-ForeignHistory-3.result.now
    c.in-ForeignHistory.turns) c.foreign_history.result
    (cc (c.deref-in-ForeignHistory.ensures.value, c.deref-in-ForeignHistory-2.ensures.value, c.deref-in-ForeignHistory-3.ensures.value))
    (exact_answer _ _ c.foreign_history.result c.foreign_history.ensures)

pub returns-in-Pair : goal.returns-in-Pair
returns-in-Pair c =
    answer_at bytes_of c.args.job.now _ c.in-Pair.is
    (Pair c.deref-in-Pair.result.now c.deref-in-Pair-2.result.now c.deref-in-Pair-3.result.now c.in-Pair.turns) c.pair.result
    (cc (c.deref-in-Pair.ensures.value, c.deref-in-Pair-2.ensures.value, c.deref-in-Pair-3.ensures.value)) c.pair.ensures

pub returns-in-PairHistory : goal.returns-in-PairHistory
returns-in-PairHistory c =
    answer_at bytes_of c.args.job.now _ c.in-PairHistory.is
    (PairHistory c.deref-in-PairHistory.result.now c.deref-in-PairHistory-2.result.now c.deref-in-PairHistory-3.result.now
    c.in-PairHistory.turns) c.pair_history.result
    (cc (c.deref-in-PairHistory.ensures.value, c.deref-in-PairHistory-2.ensures.value, c.deref-in-PairHistory-3.ensures.value))
    (exact_answer _ _ c.pair_history.result c.pair_history.ensures)

pub returns-in-From : goal.returns-in-From
returns-in-From c =
    answer_at bytes_of c.args.job.now _ c.in-From.is
    (From c.deref-in-From.result.now c.deref-in-From-2.result.now c.in-From.turns c.in-From.call) c.from_call.result
    (cc (c.deref-in-From.ensures.value, c.deref-in-From-2.ensures.value)) c.from_call.ensures
