-- What a reader gives, beside its plain reader.
use Rattle.std.specs.Prelude.{◌≡◌, Option, Some, None, Result, Ok, Err}
use Rattle.leb_bytes.specs.declared.unread.Unread.{Unread}
use Rattle.leb_bytes.specs.declared.unread.Unread.TheVariants.{NotThere, Memory}

-- nothing is read: out of memory, or the plain reader reads nothing
abbrev pub Misses : {B : Type 0} → Unread → Option B → Type 0
Misses NotThere plain = plain ≡ None
Misses Memory plain = Unit {0}

-- the view of what is read is what the plain reader reads
abbrev pub Gives : {A B : Type 0} → (A → B) → Result A Unread → Option B → Type 0
Gives view (Ok read) plain = plain ≡ Some (view read)
Gives view (Err unread) plain = Misses unread plain
