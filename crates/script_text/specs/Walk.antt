-- How a JSON value is walked: its parts in sequence, up to the first fault.
use Rattle.std.specs.Prelude.{◌≡◌, ℕ, ◌+◌, ◌==◌, Bool, false, List, [], ◌∷◌, ◌++◌, flat_map, codes, decimal, Option, Some, None, Result, Ok, Err, ⊤, if◌then◌else◌}
use Rattle.std.specs.Str.{bytes_eq}
use Rattle.std.specs.List.{list_any, list_all}
use Rattle.serde_json.specs.Data.{Data, Items, no_items, item, Members, no_members, member}
use Rattle.serde_json.specs.Find.{get, as_array, as_object}
use Rattle.script_text.specs.declared.faults.ScriptFault.{ScriptFault}
use Rattle.script_text.specs.declared.faults.ScriptFault.TheVariants.{Shape, Memory}

-- reads one thing and then another, up to the first fault
infixl 10 ◌>>=◌
abbrev pub ◌>>=◌ : {A B : Type 0} → Result A ScriptFault → (A → Result B ScriptFault) → Result B ScriptFault
(Ok a) >>= next = next a
(Err fault) >>= next = Err fault

-- a call returns the fault that is meant, unless an allocation failed
abbrev pub Fails : {B : Type 0} → ScriptFault → Result B ScriptFault → Type 0
Fails fault meant = (fault ≡ Memory → ⊥) → meant ≡ Err fault

-- a call returns the meant result, seen through `view`, unless an allocation failed
abbrev pub Gives : {A B : Type 0} → (A → B) → Result A ScriptFault → Result B ScriptFault → Type 0
Gives view (Ok a) meant = meant ≡ Ok (view a)
Gives view (Err fault) meant = Fails fault meant

-- ---- paths

-- `~` is written `~0`, and `/` is written `~1` (RFC 6901, 3)
abbrev pub escape_of : ℕ → List ℕ
escape_of byte = if byte == 126 then codes "~0" else if byte == 47 then codes "~1" else byte ∷ []

-- a key or an index, as a part of a JSON Pointer
abbrev pub part : List ℕ → List ℕ
part step = 47 ∷ flat_map escape_of step

-- a fault found under a key or an index: its path begins with the key or the index
abbrev pub fault_below : List ℕ → ScriptFault → ScriptFault
fault_below step (Shape path) = Shape (part step ++ path)
fault_below step fault = fault

abbrev pub below : {A : Type 0} → List ℕ → Result A ScriptFault → Result A ScriptFault
below step (Ok a) = Ok a
below step (Err fault) = Err (fault_below step fault)

-- ---- forms

-- a value that is read, or the fault of its form
abbrev pub or_shape : {A : Type 0} → Option A → Result A ScriptFault
or_shape None = Err (Shape [])
or_shape (Some a) = Ok a

-- what is read under a key; a missing key is a fault of the object's form
abbrev pub read_some : {A : Type 0} → List ℕ → (Data → Result A ScriptFault) → Option Data → Result A ScriptFault
read_some key read None = Err (Shape [])
read_some key read (Some d) = below key (read d)

abbrev pub under : {A : Type 0} → List ℕ → (Data → Result A ScriptFault) → Data → Result A ScriptFault
under key read d = read_some key read (get key d)

-- what is read under a key, or `missing` if the key is missing
abbrev pub read_any : {A : Type 0} → List ℕ → A → (Data → Result A ScriptFault) → Option Data → Result A ScriptFault
read_any key missing read None = Ok missing
read_any key missing read (Some d) = below key (read d)

abbrev pub under_or : {A : Type 0} → List ℕ → A → (Data → Result A ScriptFault) → Data → Result A ScriptFault
under_or key missing read d = read_any key missing read (get key d)

-- what is read under a key, or `None` if the key is missing
abbrev pub some_of : {A : Type 0} → Result A ScriptFault → Result (Option A) ScriptFault
some_of (Ok a) = Ok (Some a)
some_of (Err fault) = Err fault

abbrev pub under_if_there : {A : Type 0} → List ℕ → (Data → Result A ScriptFault) → Data → Result (Option A) ScriptFault
under_if_there key read d = under_or key None (λ e. some_of (read e)) d

-- the keys of an object
abbrev pub keys_of : Members → List (List ℕ)
keys_of no_members = []
keys_of (member key d ms) = key ∷ keys_of ms

-- an object that has no other keys than these
abbrev pub are_listed : List (List ℕ) → Option Members → Bool
are_listed listed None = false
are_listed listed (Some ms) = list_all (λ key. list_any (bytes_eq key) listed) (keys_of ms)

abbrev pub only : List (List ℕ) → Data → Result ⊤ ScriptFault
only listed d = if are_listed listed (as_object d) then Ok tt else Err (Shape [])

-- ---- lists

-- what is read at an index of a list
abbrev pub at_index : {A : Type 0} → ℕ → (Data → Result A ScriptFault) → Data → Result A ScriptFault
at_index index read d = below (decimal index) (read d)

-- the items of a list from this index on
unfoldable pub items_from : {A : Type 0} → (Data → Result A ScriptFault) → ℕ → Items → Result (List A) ScriptFault
items_from read index no_items = Ok []
items_from read index (item d ds) = do
  first ← at_index index read d
  others ← items_from read (index + 1) ds
  Ok (first ∷ others)

-- what is read from the items of a list; a value that is not a list has the wrong form
abbrev pub items_in : {A : Type 0} → (Data → Result A ScriptFault) → Option Items → Result (List A) ScriptFault
items_in read None = Err (Shape [])
items_in read (Some ds) = items_from read 0 ds

abbrev pub list_of : {A : Type 0} → (Data → Result A ScriptFault) → Data → Result (List A) ScriptFault
list_of read d = items_in read (as_array d)
