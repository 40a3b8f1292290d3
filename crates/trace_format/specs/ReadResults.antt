-- What a reader that takes no memory returns, in terms of its plain reader.
use Rattle.std.specs.Prelude.{◌≡◌, Option, Some, None}

-- the view of what is read is what the plain reader reads
abbrev pub Finds : {A B : Type 0} → (A → B) → Option A → Option B → Type 0
Finds view None plain = plain ≡ None
Finds view (Some read) plain = plain ≡ Some (view read)
