-- The array of a page as a row of the logic, with the laws of a type parameter; the box that owns what a page owns.
use Rattle.std.proofs.Common.{[], refl}
use mir.Syntax.{impl, tnil, dnil}
use denote.Array.{Array}
use denote.Builtin.{u8}
use denote.Param.Laws.{Laws, of_field, array_laws}
use denote.Param.Shared.{copy_shared}
use denote.RattleType.{RattleType}
use denote.Signature.{Slot, plain}
use denote.Struct.Field.{u8-field}
use denote.Struct.Laws.{u8-laws, u8-copy}
use Rattle.std_alloc.proofs.BoxSteps.Form.{Bx}
use Rattle.std_heap.specs.contracts.Global as Heap
use Rattle.std_heap.specs.contracts.GlobalAllocator.TheImpl.{ghosts, dict}
use Rattle.std_heap.proofs.Global.TheLaws as heap
use Rattle.raw_page.specs.contracts.parts.BoxParts as parts
use Rattle.raw_page.specs.contracts.RawPage as page

-- the bytes of a page
abbrev pub page_row : RattleType
page_row = Array u8 4096

pub page_laws : Laws page_row
page_laws = array_laws u8 (of_field u8-field u8-laws refl (copy_shared u8-field u8-copy)) 4096

-- a box of such an array on the heap
abbrev pub page_box : Bx
page_box = record {
  row = page_row;
  laws = page_laws;
  al = record { row = Heap.the_row; laws = heap.the_row_laws; g = ghosts; d = dict; drops = impl [] tnil dnil };
}

-- the parts of such a box, passed by value
abbrev pub parts_slot : Slot 0
parts_slot = plain (λ _. parts.the_row page_row Heap.the_row ghosts)

-- a page, passed by value
abbrev pub page_slot : Slot 0
page_slot = plain (λ _. page.the_row)
