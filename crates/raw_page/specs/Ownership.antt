-- What the owner of a page owns, and what a reference to it shows.
use base.Fml.{Lft, Fml}
use denote.RawPtr.{Ptr}
use denote.Struct.Lending.{lent_at}
use Rattle.std.specs.Prelude.{ℕ, List}
use Rattle.std.specs.Borrow.{Array, u8}
use Rattle.std.specs.Box.Ownership.{box_owns}
use Rattle.std.specs.Global.{Global}
use Rattle.std_heap.specs.contracts.GlobalAllocator.TheImpl.{ghosts}

-- the bytes at an address, and the right to give their block back
abbrev pub page_owns : Global → Ptr → List ℕ → Fml
page_owns alloc = box_owns (ghosts.dealloc_token alloc) (Array u8 4096)

-- the bytes at an address, for as long as a borrow lasts
abbrev pub page_shares : Ptr → List ℕ → Lft → Fml
page_shares = lent_at (Array u8 4096)
