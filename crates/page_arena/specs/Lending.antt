-- A page that is lent to be changed.
use Rattle.std.specs.Prelude.{ℕ, List, slice_set}
use Rattle.std.specs.Borrow.{Lends, MutBor, Fml, Array, u8}
use Rattle.page_arena.specs.contracts.PageArena.{the_row}

-- the arena ends with the page of that number as it was left, and with all others as they were
abbrev pub LendsPage : MutBor (List (List ℕ)) → ℕ → MutBor (List ℕ) → Fml
LendsPage arena number page = Lends the_row (Array u8 0) arena page (slice_set arena.now number)
