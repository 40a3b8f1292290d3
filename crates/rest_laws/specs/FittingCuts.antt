-- The laws of cuts as tapes: a cut fits the module that its tape fits, and is no heavier than its tape.
use Rattle.std.specs.Prelude.{◌≡◌, ℕ, ◌≤◌, List, ◌∷◌, ◌++◌, Some}
use Rattle.wasm_syntax.specs.declared.modules.Module.{Module}
use Rattle.trace_model.specs.declared.tapes.Segment.{Segment}
use Rattle.trace_model.specs.declared.tapes.Tape.{Tape}
use Rattle.trace_model.specs.Fitting.{IsFitting}
use Rattle.trace_model.specs.Weight.{tape_weight}
use Rattle.rest_spec.specs.Cuts.{as_first, cut_of}

-- a cut fits each module that its tape fits
abbrev pub CutsFit : Type 0
CutsFit =
    (m : Module) (tape : Tape) (number : ℕ) (cut : List Segment)
    → IsFitting m tape → cut_of number 0 tape.segments ≡ Some cut → IsFitting m (record { segments = cut })

-- the last segments of a tape, of which the first is as the first one of a tape
pub record AreLast (segments cut : List Segment) : Type 0 where
  pub before : List Segment
  pub first : Segment
  pub later : List Segment
  pub parts : segments ≡ before ++ first ∷ later
  pub is : cut ≡ as_first first ∷ later

-- a cut has the last segments of its tape
abbrev pub CutsAreLast : Type 0
CutsAreLast =
    (segments cut : List Segment) (number opened : ℕ) → cut_of number opened segments ≡ Some cut
    → AreLast segments cut

-- a cut weighs at most what its tape does
abbrev pub CutsAreLight : Type 0
CutsAreLight =
    (tape : Tape) (cut : List Segment) (number opened : ℕ) → cut_of number opened tape.segments ≡ Some cut
    → tape_weight (record { segments = cut }) ≤ tape_weight tape
