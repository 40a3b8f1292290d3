-- The history of one module of a pair, read off the history of the pair.
use Rattle.std.specs.Prelude.{ℕ, List, [], ◌∷◌, ◌++◌, Bool, true, false, cond, nat_lt}
use Rattle.wasm_syntax.specs.declared.values.Val.{Val}
use Rattle.history_spec.specs.declared.entries.Entry.{Entry}
use Rattle.history_spec.specs.declared.entries.Entry.TheVariants.{HostCall, HostReturn, ImportCall, ImportReturn, Enter, Exit, Step, Trap, HostTrap}
use Rattle.history_spec.specs.Projection.{call_args, without_innermost}
use Rattle.instance_spec.specs.declared.sides.Side.{Side}
use Rattle.instance_spec.specs.declared.sides.Side.TheVariants.{Left, Right}
use Rattle.pair_spec.specs.Pairs.{ModulePair, Funcs}
use Rattle.pair_spec.specs.Numbers.{all_hosts}
use Rattle.pair_spec.specs.PairRuns.{defining_side}

-- whether two sides are the same
abbrev pub same_side : Side → Side → Bool
same_side Left Left = true
same_side Right Right = true
same_side side other = false

-- whether a side defines a function
abbrev pub is_own : ModulePair → Side → (func : ℕ) → Bool
is_own pair side func = cond (nat_lt func (all_hosts pair Funcs)) false (same_side side (defining_side pair func))

-- whether a side defines the innermost of the functions that control is in
abbrev pub is_inside : ModulePair → Side → List ℕ → Bool
is_inside pair side [] = false
is_inside pair side (func ∷ callers) = is_own pair side func

-- an entry, if it is one of the side
abbrev pub entry_if : Bool → Entry → List Entry
entry_if true entry = entry ∷ []
entry_if false entry = []

-- what a side has of a call of a defined function by a defined one, by whether caller and callee are the side's own
abbrev pub call_of_side : (caller callee : Bool) → ℕ → List Val → List Entry
call_of_side true true func args = Enter func ∷ []
call_of_side true false func args = ImportCall func args ∷ []
call_of_side false true func args = HostCall func args ∷ []
call_of_side false false func args = []

-- what it has of the return from such a call
abbrev pub return_of_side : (caller callee : Bool) → ℕ → List Val → List Entry
return_of_side true true func results = Exit func results ∷ []
return_of_side true false func results = ImportReturn func results ∷ []
return_of_side false true func results = HostReturn func results ∷ []
return_of_side false false func results = []

-- the entries of a side, given the functions that control is in, the innermost first, and the arguments of the latest
-- call
abbrev pub side_entries : ModulePair → Side → (inside : List ℕ) → (args : List Val) → List Entry → List Entry
side_entries pair side inside args [] = []
side_entries pair side inside args (HostCall func given ∷ rest) =
    entry_if (is_own pair side func) (HostCall func given) ++ side_entries pair side (func ∷ inside) args rest
side_entries pair side inside args (HostReturn func results ∷ rest) =
    entry_if (is_own pair side func) (HostReturn func results)
    ++ side_entries pair side (without_innermost inside) args rest
side_entries pair side inside args (ImportCall func given ∷ rest) =
    entry_if (is_inside pair side inside) (ImportCall func given) ++ side_entries pair side inside args rest
side_entries pair side inside args (ImportReturn func results ∷ rest) =
    entry_if (is_inside pair side inside) (ImportReturn func results) ++ side_entries pair side inside args rest
side_entries pair side inside args (Enter func ∷ rest) =
    call_of_side (is_inside pair side inside) (is_own pair side func) func args
    ++ side_entries pair side (func ∷ inside) args rest
side_entries pair side inside args (Exit func results ∷ rest) =
    return_of_side (is_inside pair side (without_innermost inside)) (is_own pair side func) func results
    ++ side_entries pair side (without_innermost inside) args rest
side_entries pair side inside args (Step func number operands results found ∷ rest) =
    entry_if (is_own pair side func) (Step func number operands results found)
    ++ side_entries pair side inside (call_args operands found) rest
side_entries pair side inside args (Trap func number kind operands found ∷ rest) =
    entry_if (is_own pair side func) (Trap func number kind operands found) ++ side_entries pair side inside args rest
side_entries pair side inside args (HostTrap ∷ rest) = side_entries pair side inside args rest

-- The history of a side: the steps and traps of its functions, and the calls between these. The other side and the host
-- are outside: a call from there is one by the host, and a call of a function there is one of an import.
abbrev pub side_history : ModulePair → Side → List Entry → List Entry
side_history pair side history = side_entries pair side [] [] history
