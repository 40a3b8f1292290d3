-- Pages as others see them: lists of bytes, by their numbers.
use Rattle.std.specs.Prelude.{ℕ, List, [], slice_index_or}

-- the page of a number, empty if there is no such page
abbrev pub page_at : List (List ℕ) → ℕ → List ℕ
page_at pages number = slice_index_or pages number []
