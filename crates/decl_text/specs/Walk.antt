-- How the JSON value of declarations is walked: its parts in sequence, up to the first fault.
use Rattle.std.specs.Prelude.{◌≡◌, ℕ, ◌+◌, List, [], ◌∷◌, ◌++◌, decimal, Option, Some, None, Result, Ok, Err, ⊤, if◌then◌else◌}
use Rattle.serde_json.specs.Data.{Data, Items, no_items, item}
use Rattle.serde_json.specs.Find.{get, as_object}
use Rattle.script_text.specs.Walk.{part, are_listed}
use Rattle.decl_text.specs.declared.faults.DeclFault.{DeclFault}
use Rattle.decl_text.specs.declared.faults.DeclFault.TheVariants.{Shape, Memory}

-- reads one thing and then another, up to the first fault
infixl 10 ◌>>=◌
abbrev pub ◌>>=◌ : {A B : Type 0} → Result A DeclFault → (A → Result B DeclFault) → Result B DeclFault
(Ok a) >>= next = next a
(Err fault) >>= next = Err fault

-- a call returns the fault that is meant, unless an allocation failed
abbrev pub Fails : {B : Type 0} → DeclFault → Result B DeclFault → Type 0
Fails fault meant = (fault ≡ Memory → ⊥) → meant ≡ Err fault

-- a call returns the meant result, unless an allocation failed
abbrev pub Gives : {A : Type 0} → Result A DeclFault → Result A DeclFault → Type 0
Gives (Ok a) meant = meant ≡ Ok a
Gives (Err fault) meant = Fails fault meant

-- a fault found under a key or an index: its path begins with the key or the index
abbrev pub fault_below : List ℕ → DeclFault → DeclFault
fault_below step (Shape path) = Shape (part step ++ path)
fault_below step fault = fault

abbrev pub below : {A : Type 0} → List ℕ → Result A DeclFault → Result A DeclFault
below step (Ok a) = Ok a
below step (Err fault) = Err (fault_below step fault)

-- a value that is read, or the fault of its form
abbrev pub or_shape : {A : Type 0} → Option A → Result A DeclFault
or_shape None = Err (Shape [])
or_shape (Some a) = Ok a

-- what is read under a key; a missing key is a fault of the object's form
abbrev pub read_some : {A : Type 0} → List ℕ → (Data → Result A DeclFault) → Option Data → Result A DeclFault
read_some key read None = Err (Shape [])
read_some key read (Some d) = below key (read d)

abbrev pub under : {A : Type 0} → List ℕ → (Data → Result A DeclFault) → Data → Result A DeclFault
under key read d = read_some key read (get key d)

-- a value is an object that has no other keys than these
abbrev pub only : List (List ℕ) → Data → Result ⊤ DeclFault
only listed d = if are_listed listed (as_object d) then Ok tt else Err (Shape [])

-- what is read at an index of a list
abbrev pub at_index : {A : Type 0} → ℕ → (Data → Result A DeclFault) → Data → Result A DeclFault
at_index index read d = below (decimal index) (read d)

-- the items of a list from this index on
unfoldable pub items_from : {A : Type 0} → (Data → Result A DeclFault) → ℕ → Items → Result (List A) DeclFault
items_from read index no_items = Ok []
items_from read index (item d ds) = do
  first ← at_index index read d
  others ← items_from read (index + 1) ds
  Ok (first ∷ others)
