-- Laws of the sizes of linked modules.
use Rattle.std.specs.Prelude.{ℕ, ◌+◌, ◌<◌, ◌≤◌, length}
use Rattle.wasm_syntax.specs.declared.limits.TheConstants.{MAX_FILE_BYTES, MAX_ORIGINAL_BYTES}
use Rattle.wasm_syntax.specs.Encoding.Shortest.{encoding_of}
use Rattle.wasm_syntax.specs.ListsWithin.{HasListsWithin}
use Rattle.wasm_flat.specs.Sizes.{IsShort, list_limit}
use Rattle.pair_spec.specs.Pairs.{ModulePair, Space, Funcs, defined_in}
use Rattle.pair_spec.specs.Numbers.{count_in}
use Rattle.pair_spec.specs.Linked.{linked}
use Rattle.pair_laws.specs.Laws.{AreLinkable}

-- the run of a pair has no more of a space than both modules import and define
abbrev pub CountsAreWithin : Type 0
CountsAreWithin =
    (pair : ModulePair) (space : Space)
    → count_in pair space
    ≤ length pair.left.imports + length pair.right.imports + defined_in space pair.left + defined_in space pair.right

-- the list lengths of a linked module are at most the sum of bounds on those of the left and of the right module
abbrev pub LinkedHaveListsWithin : Type 0
LinkedHaveListsWithin =
    (pair : ModulePair) (left right : ℕ) → HasListsWithin left pair.left → HasListsWithin right pair.right
    → HasListsWithin (left + right) (linked pair)

-- a linked module is short enough to be made flat, if both modules are, and if their types and functions are not too
-- many together
abbrev pub LinkedAreShort : Type 0
LinkedAreShort =
    (pair : ModulePair) → IsShort pair.left → IsShort pair.right
    → length pair.left.types + length pair.right.types < list_limit → count_in pair Funcs < list_limit
    → IsShort (linked pair)

-- the shortest encoding of the linked module of two valid modules whose pair has no fault has at most
-- `MAX_ORIGINAL_BYTES`, if those of both modules have no more bytes than a file may have
abbrev pub LinkedAreWithin : Type 0
LinkedAreWithin =
    (pair : ModulePair) → AreLinkable pair → length (encoding_of pair.left) ≤ MAX_FILE_BYTES
    → length (encoding_of pair.right) ≤ MAX_FILE_BYTES → length (encoding_of (linked pair)) ≤ MAX_ORIGINAL_BYTES
