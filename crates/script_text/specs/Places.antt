-- The definitions that code has for the place of an action, for a global's names, and for a name's fault.
use Rattle.std.specs.Prelude.{ℕ, List, Option, Some, None}
use Rattle.std.specs.Borrow.{Bor}
use Rattle.wasm_syntax.specs.declared.signatures.FuncType.{FuncType}
use Rattle.script_text.specs.declared.faults.NameFault.{NameFault}
use Rattle.script_text.specs.declared.faults.NameFault.TheVariants as kind
use Rattle.script_text.specs.declared.faults.ScriptFault.{ScriptFault}
use Rattle.script_text.specs.declared.faults.ScriptFault.TheVariants.{UnknownName, WrongType, NoAccess, CallsOwn}
use Rattle.script_text.specs.declared.places.Place as code
use Rattle.script_text.specs.declared.targets.Target as named
use Rattle.script_text.specs.Actions.{Place, InMain, InResponse, Target, Exported, Imported}

-- the place is in a response if there are types
abbrev pub place_at : List ℕ → Option (Bor (List FuncType)) → Place
place_at name None = InMain
place_at name (Some types) = InResponse name types.now

abbrev pub place_of : code.Place → Place
place_of place = place_at place.name.now place.types

abbrev pub target_by : Option (Bor (List ℕ)) → Bor (List ℕ) → Target
target_by None name = Exported name.now
target_by (Some from) name = Imported from.now name.now

abbrev pub target_from : named.Target → Target
target_from target = target_by target.from target.name

-- the fault of this kind, with the name
abbrev pub fault_of_name : NameFault → List ℕ → ScriptFault
fault_of_name kind.Unknown name = UnknownName name
fault_of_name kind.WrongType name = WrongType name
fault_of_name kind.NoAccess name = NoAccess name
fault_of_name kind.CallsOwn name = CallsOwn name
