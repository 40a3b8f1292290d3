-- The scripts of the examples, with their names resolved.
use Rattle.std.specs.Prelude.{List, [], ◌∷◌, Option, Some, None}
use Rattle.wasm_syntax.specs.declared.values.Val.{Val}
use Rattle.host_script.specs.declared.scripts.Script.{Script}
use Rattle.host_script.specs.declared.scripts.Address.TheVariants.{Fixed, Arg}
use Rattle.host_script.specs.declared.scripts.Action.{Action}
use Rattle.host_script.specs.declared.scripts.Action.TheVariants.{Write, Call}
use Rattle.worked_histories.specs.Build.{i32, returns, traps, script, one_call}

-- a script without supplies, answers and actions
abbrev pub idle : Script
idle = script [] []

-- a script with the answers 5 and 7, and one call of function 1
abbrev pub five_seven : Script
five_seven = one_call 1 (returns [] (Some (i32 5)) ∷ returns [] (Some (i32 7)) ∷ [])

-- a script with the answers 5 and 7, and two calls of function 1
abbrev pub five_seven_twice : Script
five_seven_twice = record five_seven { main = Call 1 [] ∷ Call 1 [] ∷ [] }

-- a script with one call of function 1, whose one call of the import is answered by these actions
abbrev pub does_all : List Action → Script
does_all actions = one_call 1 (returns actions None ∷ [])

-- a script with one call of function 1, whose one call of the import is answered by this action
abbrev pub does : Action → Script
does action = does_all (action ∷ [])

-- a script with one call of function 1, whose one call of the import is answered by no action
abbrev pub does_nothing : Script
does_nothing = does_all []

-- a script with one call of function 1, whose one call of the import is answered by a trap
abbrev pub host_traps : Script
host_traps = one_call 1 (traps ∷ [])

-- the import answers by a call of function 2 and a write, then by a value
abbrev pub calls_back : Script
calls_back =
    one_call 1 (returns (Call 2 [] ∷ Write (Fixed 0) (4 ∷ []) ∷ []) (Some (i32 1)) ∷ returns [] (Some (i32 2)) ∷ [])

-- a script that supplies an imported global with a value, or without one
abbrev pub gives_global : Option Val → Script
gives_global given =
    record { memory = None; table = None; globals = given ∷ []; imports = []; main = Call 0 [] ∷ [] }

-- a script that reads a file into the buffer to which the first argument points, and its length to the third
-- argument's address
abbrev pub reads_hi : Script
reads_hi =
    one_call 1
    (returns
    (Write (Arg 0 0) (0x68 ∷ 0x69 ∷ 0x0A ∷ 0 ∷ []) ∷ Write (Arg 2 0) (3 ∷ 0 ∷ 0 ∷ 0 ∷ []) ∷ [])
    (Some (i32 0))
    ∷ [])
