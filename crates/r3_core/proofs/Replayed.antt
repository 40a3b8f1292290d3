-- What `replay` prints of what a job prints, by the laws of its text.
use Rattle.std.proofs.Common.{ℕ, List}
use Rattle.r3_core.specs.declared.jobs.Job.{Job}
use Rattle.r3_core.specs.declared.jobs.Job.TheVariants.{Make, Foreign, Pair}
use Rattle.r3_core.specs.Jobs.{files_of}
use Rattle.r3_core.specs.Meanings.{Prints}
use Rattle.r3_core.specs.Causes.{AreWithin}
use Rattle.r3_core.specs.Replayed.{IsReplayed}
use Rattle.replay_text_laws.specs.Histories.{ForeignReplaysPrintHistories, PairReplaysPrintHistories, ReplaysPrintHistories}

pub replayed : ReplaysPrintHistories → ForeignReplaysPrintHistories → PairReplaysPrintHistories
    → (given : Job (List ℕ)) → AreWithin (files_of given) → (printed : List ℕ) → Prints given printed
    → IsReplayed given printed
replayed make foreign pair (Make m s turns) within printed prints = make m s turns printed prints
replayed make foreign pair (Foreign m decls s turns) within printed prints =
    foreign m decls s turns printed within.0 within.1.0 prints
replayed make foreign pair (Pair left right s turns) within printed prints =
    pair left right s turns printed within.0 within.1.0 prints
replayed make foreign pair other within printed prints = tt
