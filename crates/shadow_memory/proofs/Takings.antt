-- The byte that was taken last is known.
use Rattle.std.proofs.Common.{◌≡◌, ℕ, List, [], ◌∷◌, Option, Some, None, refl, sym, ap, ◌∙◌}
use Rattle.std.specs.Prelude.{unwrap_or}
use Rattle.std.specs.Option.{option_or}
use Rattle.shadow_memory.specs.Shadow.{Shadow, byte_among, known_byte}
use Rattle.shadow_memory.specs.Takings.{taken_byte, IsAfter}

or_else : (later earlier : Option ℕ) (byte : ℕ)
    → unwrap_or later (unwrap_or earlier byte) ≡ unwrap_or (option_or later earlier) byte
or_else None earlier byte = refl
or_else (Some x) earlier byte = refl

pub known_after : (runs : List (ℕ × List ℕ)) (before after : Shadow) → IsAfter before runs after → (at : ℕ)
    → known_byte after at ≡ unwrap_or (taken_byte runs at) (known_byte before at)
known_after [] before after is at = sym (ap (λ shadow. known_byte shadow at) is)
known_after (run ∷ later) before after taken at =
    known_after later taken.0 after taken.1.1 at
    ∙ ap (unwrap_or (taken_byte later at)) (taken.1.0.byte at)
    ∙ or_else (taken_byte later at) (byte_among run.0 run.1 at) (known_byte before at)
