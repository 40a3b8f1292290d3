-- Laws of linked modules: they are valid, have an encoding, are accepted, and have short lists, if both modules of the
-- pair do.
use Rattle.std.specs.Prelude.{◌≡◌, ◌+◌, ◌^◌, ◌≤◌, length, None, Bool}
use Rattle.wasm_syntax.specs.declared.forms.Form.{Form}
use Rattle.wasm_syntax.specs.declared.forms.Form.TheVariants.{Core, Replay}
use Rattle.wasm_syntax.specs.Encoding.Encodable.{IsEncodable}
use Rattle.wasm_syntax.specs.Encoding.Forms.{IsCoreModule}
use Rattle.wasm_syntax.specs.Profile.{IsAccepted, IsSupported}
use Rattle.wasm_syntax.specs.Validity.{IsValid}
use Rattle.pair_spec.specs.Pairs.{ModulePair, Funcs, Globals}
use Rattle.pair_spec.specs.Numbers.{count_in}
use Rattle.pair_spec.specs.Linked.{linked}
use Rattle.pair_spec.specs.Faults.{first_pair_fault}
use Rattle.pair_laws.specs.Laws.{AreLinkable}

-- the linked module of two of the form Core is one
abbrev pub LinkedAreCore : Type 0
LinkedAreCore = (pair : ModulePair) → IsCoreModule pair.left → IsCoreModule pair.right → IsCoreModule (linked pair)

-- each type of both modules has an index
abbrev pub HaveFewTypes : ModulePair → Type 0
HaveFewTypes pair = length pair.left.types + length pair.right.types ≤ 2 ^ 32

-- the linked module of two valid modules whose pair has no fault is valid
abbrev pub LinkedAreValid : Type 0
LinkedAreValid = (pair : ModulePair) → AreLinkable pair → HaveFewTypes pair → IsValid (linked pair)

-- each function and each global of both modules has an index
pub record HaveFewItems (pair : ModulePair) : Type 0 where
  pub funcs : count_in pair Funcs ≤ 2 ^ 32
  pub globals : count_in pair Globals ≤ 2 ^ 32

-- the linked module of two valid modules that have an encoding has one in the same form; it has one in the form Replay
-- if both have one in the form Core
pub record LinkedAreEncodable : Type 0 where
  pub same_form : (form : Form) (pair : ModulePair) → AreLinkable pair → HaveFewItems pair
      → IsEncodable form pair.left → IsEncodable form pair.right → IsEncodable form (linked pair)
  pub core_form : (pair : ModulePair) → AreLinkable pair → HaveFewItems pair
      → IsEncodable Core pair.left → IsEncodable Core pair.right → IsEncodable Replay (linked pair)

-- the linked module of two accepted ones whose pair has no fault is accepted: other indices change no opcode, and the
-- quantities are those of both modules
abbrev pub LinkedAreAccepted : Type 0
LinkedAreAccepted =
    (hooked : Bool) (pair : ModulePair) → IsAccepted hooked pair.left → IsAccepted hooked pair.right
    → first_pair_fault pair ≡ None → HaveFewTypes pair → IsAccepted hooked (linked pair)

-- the linked module of two that can be run can be run
abbrev pub LinkedAreSupported : Type 0
LinkedAreSupported =
    (pair : ModulePair) → IsSupported pair.left → IsSupported pair.right → IsSupported (linked pair)
