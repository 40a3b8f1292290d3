-- Of what `make`, `foreign` and `pair` print, `replay` prints what `history`, `foreign-history` and `pair-history`
-- print of the run.
use Rattle.std.specs.Prelude.{◌≡◌, ℕ, ◌≤◌, List, length}
use Rattle.wasm_syntax.specs.declared.limits.TheConstants.{MAX_FILE_BYTES}
use Rattle.r3_history.specs.Histories.{IsHistory}
use Rattle.r3_make.specs.Printed.{IsPrinted}
use Rattle.r3_instances.specs.ForeignHistories.{IsForeignHistory}
use Rattle.r3_instances.specs.ForeignReplays.{IsForeignPrinted}
use Rattle.r3_instances.specs.PairHistories.{IsPairHistory}
use Rattle.r3_instances.specs.PairReplays.{IsPairPrinted}
use Rattle.replay_text_laws.specs.Texts.{IsReplayedAs}

-- Of a run whose lines `IsText` defines, by the budget: within each budget from `turns` on it has the same lines, and
-- no others within any; and `replay` prints just these lines of the printed bytes.
pub record IsReplayedAsHistory (IsText : (budget : ℕ) → (text : List ℕ) → Type 0) (turns : ℕ) (printed : List ℕ)
    : Type 0 where
  pub text : List ℕ
  pub history : (budget : ℕ) → turns ≤ budget → IsText budget text
  pub only : (budget : ℕ) (other : List ℕ) → IsText budget other → other ≡ text
  pub replay : IsReplayedAs printed text

-- where `make` prints bytes, `replay` prints of these exactly what `history` prints
abbrev pub ReplaysPrintHistories : Type 0
ReplaysPrintHistories =
    (module_bytes script_bytes : List ℕ) (turns : ℕ) (printed : List ℕ)
    → IsPrinted module_bytes script_bytes turns printed
    → IsReplayedAsHistory (IsHistory module_bytes script_bytes) turns printed

-- where `foreign` prints bytes for files within their limits, `replay` prints of these exactly what `foreign-history`
-- prints
abbrev pub ForeignReplaysPrintHistories : Type 0
ForeignReplaysPrintHistories =
    (module_bytes decl_bytes script_bytes : List ℕ) (turns : ℕ) (printed : List ℕ)
    → length module_bytes ≤ MAX_FILE_BYTES → length decl_bytes ≤ MAX_FILE_BYTES
    → IsForeignPrinted module_bytes decl_bytes script_bytes turns printed
    → IsReplayedAsHistory (IsForeignHistory module_bytes decl_bytes script_bytes) turns printed

-- where `pair` prints bytes for files within their limits, `replay` prints of these exactly what `pair-history` prints
abbrev pub PairReplaysPrintHistories : Type 0
PairReplaysPrintHistories =
    (left_bytes right_bytes script_bytes : List ℕ) (turns : ℕ) (printed : List ℕ)
    → length left_bytes ≤ MAX_FILE_BYTES → length right_bytes ≤ MAX_FILE_BYTES
    → IsPairPrinted left_bytes right_bytes script_bytes turns printed
    → IsReplayedAsHistory (IsPairHistory left_bytes right_bytes script_bytes) turns printed
