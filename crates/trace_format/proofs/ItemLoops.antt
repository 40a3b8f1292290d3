-- Reading items one after another, as loops do.
use Rattle.std.proofs.Common.{ℕ, ◌<◌, List, length}
use Rattle.wasm_syntax.specs.Encoding.Combinators.{Reader, first_items}
use Rattle.leb_bytes.specs.declared.unread.Unread.{Unread}
use Rattle.leb_bytes.specs.declared.unread.Unread.TheVariants.{NotThere, Memory}
use Rattle.trace_format.specs.Files.{AreRead}
use Rattle.leb_bytes.specs.ReadResults.{Misses}
use Rattle.trace_format.proofs.FileLaws.{counted_missed}

pub misses : {A : Type 0} (read : Reader A) (unread : Unread) (bytes left : List ℕ) (xs : List A) (count : ℕ)
    → AreRead read bytes xs left → length xs < count → Misses unread (read left) → Misses unread (first_items read count bytes)
misses read NotThere bytes left xs count here few none = counted_missed read bytes left xs count here few none
misses read Memory bytes left xs count here few none = tt
