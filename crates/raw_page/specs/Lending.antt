-- A page that is lent to be changed.
use Rattle.std.specs.Prelude.{ℕ, List}
use Rattle.std.specs.Borrow.{Lends, MutBor, Fml, Array, u8}
use Rattle.raw_page.specs.declared.RawPage.{RawPage}
use Rattle.raw_page.specs.contracts.RawPage.{the_row}

-- the page with other bytes
abbrev pub with_bytes : RawPage → List ℕ → RawPage
with_bytes page bytes = record page { bytes = bytes }

-- the page ends with the bytes that were left in it
abbrev pub LendsBytes : MutBor RawPage → MutBor (List ℕ) → Fml
LendsBytes page bytes = Lends the_row (Array u8 4096) page bytes (with_bytes page.now)
