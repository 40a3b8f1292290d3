-- Sections of one item or of one vector.
use Rattle.std.specs.Prelude.{ℕ, List, [], ◌∷◌, Option, Some, None}
use Rattle.leb_bytes.specs.Unsigned.{u32_bytes}
use Rattle.base.specs.declared.marks.TheConstants.{SECTION_START}
use Rattle.wasm_syntax.specs.Encoding.Shortest.{sized_bytes, vector_bytes}

-- the section of a list, with its id and its size; no section if the list is empty (Core 1.0, 5.5.2)
abbrev pub vector_section : {A : Type 0} → ℕ → (A → List ℕ) → List A → List ℕ
vector_section id write [] = []
vector_section id write (x ∷ xs) = id ∷ sized_bytes (vector_bytes write (x ∷ xs))

-- the start section, if there is a start function (Core 1.0, 5.5.11)
abbrev pub start_section : Option ℕ → List ℕ
start_section None = []
start_section (Some func) = SECTION_START ∷ sized_bytes (u32_bytes func)
