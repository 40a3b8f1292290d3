-- A reference to the owner of a page is made at the same point as one to the page's bytes.
use base.Fraction.{full_share}
use contract.BorrowLft.{⊑_static}
use denote.Memory.{lone}
use denote.Param.Shared.{copy_shared}
use denote.RawPtr.{lies_at}
use denote.Shares.{Shares-less}
use denote.Struct.Field.{RawPtr-field}
use denote.Struct.Laws.{RawPtr-copy}
use denote.Struct.Lending.{lent_at, lent_at_shr_laws, Lends-lies, Lends-first, of_Lends}
use mir.Raw.{raw}
use Rattle.std_heap.specs.contracts.Global as Heap
use Rattle.std_heap.specs.contracts.GlobalAllocator.TheImpl.{ghosts}
use Rattle.std_heap.proofs.Global.TheLaws as heap
use Rattle.raw_page.proofs.Row.{page_row, page_laws}
use Rattle.raw_page.specs.contracts.RawPage as owner
use Rattle.raw_page.proofs.RawPage.TheLaw.Statement.{statement}

pub shares : statement
shares =
    of_Lends owner.struct (owner.the_codes Heap.the_row.coded) owner.the_heap owner.the_lent
    (λ page _. lent_at_shr_laws page_row page_laws.shr_laws page.ptr page.bytes)
    (copy_shared RawPtr-field RawPtr-copy, (heap.the_field_shared, tt))
    (λ M 𝓤 𝓛 page _.
    let lives = owner.the_row.lives in
    let token = ghosts.dealloc_token page.alloc (raw (lone page_row.mir)) page.ptr in
    Lends-first 𝓛 (lies_at page_row full_share page.ptr page.bytes) token (lent_at page_row page.ptr page.bytes) lives
    (Lends-lies 𝓛 page_row lives page.ptr page.bytes
    (Shares-less 𝓛 page_row page_row.lives lives (⊑_static lives) (page_laws.shares 𝓛) page.bytes)))
