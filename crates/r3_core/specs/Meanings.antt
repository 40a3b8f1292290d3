-- What each job is refused for, when it can be done, and what it prints, by the bytes of its files.
use Rattle.std.specs.Prelude.{ℕ, List, Vec, Result}
use Rattle.wasm_syntax.specs.declared.limits.TheConstants.{LOAD_TURNS}
use Rattle.load_maker.specs.Loads.{load_script}
use Rattle.load_maker.specs.declared.load_module.TheConstants.{LOAD_MODULE}
use Rattle.r3_faults.specs.Answers.{IsReplayAnswer}
use Rattle.r3_faults.specs.declared.faults.Fault.{Fault}
use Rattle.r3_make.specs.Refusals.{AreReplayable, IsMakeRefusal}
use Rattle.r3_make.specs.Printed.{IsPrinted}
use Rattle.r3_make.specs.RestRefusals.{HaveRest, IsRestRefusal}
use Rattle.r3_make.specs.RestReplays.{IsRestPrinted}
use Rattle.r3_make.specs.Summaries.{IsSummary}
use Rattle.r3_instrument.specs.InstrumentedBytes.{IsHookedOf, IsHookedRefusal}
use Rattle.r3_record.specs.LogFiles.{IsLogFile, IsLogRefusal}
use Rattle.r3_reduce.specs.TapeFiles.{IsReduced, IsReduceRefusal}
use Rattle.r3_build.specs.BuildRefusals.{IsBuildRefusal}
use Rattle.r3_build.specs.BuiltReplays as built
use Rattle.r3_history.specs.Histories.{IsHistory, IsHistoryRefusal}
use Rattle.r3_instances.specs.ForeignHistories.{IsForeignHistory, IsForeignHistoryRefusal}
use Rattle.r3_instances.specs.ForeignReplays.{AreForeignReplayable, IsForeignPrinted, IsForeignRefusal}
use Rattle.r3_instances.specs.PairHistories.{IsPairHistory, IsPairHistoryRefusal}
use Rattle.r3_instances.specs.PairReplays.{ArePairReplayable, IsPairPrinted, IsPairRefusal}
use Rattle.r3_replay.specs.ReplayTexts.{IsReplayText, IsReplayRefusal}
use Rattle.r3_show.specs.FileLines.{IsShown, IsShowRefusal}
use Rattle.r3_core.specs.declared.jobs.Job.{Job}
use Rattle.r3_core.specs.declared.jobs.Job.TheVariants.{Make, Instrument, Record, Reduce, Build, History, Replay, Show, Load, Foreign, ForeignHistory, Pair, PairHistory, From}

-- the faults that refuse a job, whether it can be done, and the bytes that it may print
pub record Meaning : Type 1 where
  pub Refuses : Fault → Type 0
  pub Doable : Type 0
  pub Prints : List ℕ → Type 0

-- a job that can be done if there are bytes that it may print
abbrev pub printing : (Refuses : Fault → Type 0) → (Prints : List ℕ → Type 0) → Meaning
printing Refuses Prints = record { Refuses = Refuses; Doable = (bytes : List ℕ) × Prints bytes; Prints = Prints }

-- the meaning of a job with the bytes of its files
abbrev pub meaning : Job (List ℕ) → Meaning
meaning (Make m s turns) =
    record { Refuses = IsMakeRefusal m s turns; Doable = AreReplayable m s turns; Prints = IsPrinted m s turns }
meaning (Instrument m) = printing (IsHookedRefusal m) (IsHookedOf m)
meaning (Record hooked s turns) = printing (IsLogRefusal hooked s turns) (IsLogFile hooked s turns)
meaning (Reduce log) = printing (IsReduceRefusal log) (IsReduced log)
meaning (Build m s tape) = printing (IsBuildRefusal m s tape) (built.IsPrinted m s tape)
meaning (History m s turns) = printing (IsHistoryRefusal m s turns) (IsHistory m s turns)
meaning (Replay binary turns) = printing (IsReplayRefusal binary turns) (IsReplayText binary turns)
meaning (Show trace) = printing (IsShowRefusal trace) (IsShown trace)
meaning (Load calls) =
    record {
      Refuses = IsMakeRefusal LOAD_MODULE (load_script calls) LOAD_TURNS;
      Doable = AreReplayable LOAD_MODULE (load_script calls) LOAD_TURNS;
      Prints = IsSummary calls;
    }
meaning (Foreign m decls s turns) =
    record {
      Refuses = IsForeignRefusal m decls s turns;
      Doable = AreForeignReplayable m decls s turns;
      Prints = IsForeignPrinted m decls s turns;
    }
meaning (ForeignHistory m decls s turns) =
    printing (IsForeignHistoryRefusal m decls s turns) (IsForeignHistory m decls s turns)
meaning (Pair left right s turns) =
    record {
      Refuses = IsPairRefusal left right s turns;
      Doable = ArePairReplayable left right s turns;
      Prints = IsPairPrinted left right s turns;
    }
meaning (PairHistory left right s turns) =
    printing (IsPairHistoryRefusal left right s turns) (IsPairHistory left right s turns)
meaning (From m s turns call) =
    record {
      Refuses = IsRestRefusal m s turns call;
      Doable = HaveRest m s turns call;
      Prints = IsRestPrinted m s turns call;
    }

-- a job is refused for the bytes of its files
abbrev pub IsRefusal : Job (List ℕ) → Fault → Type 0
IsRefusal job fault = (meaning job).Refuses fault

-- a job can be done for the bytes of its files
abbrev pub IsDoable : Job (List ℕ) → Type 0
IsDoable job = (meaning job).Doable

-- a job prints these bytes for the bytes of its files
abbrev pub Prints : Job (List ℕ) → (printed : List ℕ) → Type 0
Prints job printed = (meaning job).Prints printed

-- The result of a job has its cause: the bytes may be printed, or the fault refuses the job, or memory is out. If
-- memory is not out, a fault that refuses is returned, and bytes are returned if the job can be done.
abbrev pub IsAnswer : {Z : Type 0} → Job (List ℕ) → Result (Vec ℕ Z) Fault → Type 0
IsAnswer job result = IsReplayAnswer (Prints job) (IsRefusal job) (IsDoable job) result
