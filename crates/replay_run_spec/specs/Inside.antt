-- The state that the projection carries along a history: the functions that control is in, and the latest call's
-- arguments.
use Rattle.std.specs.Prelude.{ℕ, List, [], ◌∷◌}
use Rattle.wasm_syntax.specs.declared.values.Val.{Val}
use Rattle.history_spec.specs.declared.entries.Entry.{Entry}
use Rattle.history_spec.specs.declared.entries.Entry.TheVariants.{HostCall, HostReturn, Enter, Exit, Step}
use Rattle.history_spec.specs.Projection.{call_args, without_innermost}

-- the functions that control is in after an entry, the innermost first
abbrev pub inside_after : (inside : List ℕ) → Entry → List ℕ
inside_after inside (HostCall func given) = func ∷ inside
inside_after inside (HostReturn func results) = without_innermost inside
inside_after inside (Enter func) = func ∷ inside
inside_after inside (Exit func results) = without_innermost inside
inside_after inside entry = inside

-- the arguments of the latest call after an entry
abbrev pub args_after : (args : List Val) → Entry → List Val
args_after args (HostCall func given) = given
args_after args (Step func number operands results found) = call_args operands found
args_after args entry = args

-- the functions that control is in, and the arguments of the latest call, after entries one after another
abbrev pub inside_after_all : (inside : List ℕ) → List Entry → List ℕ
inside_after_all inside [] = inside
inside_after_all inside (entry ∷ later) = inside_after_all (inside_after inside entry) later

abbrev pub args_after_all : (args : List Val) → List Entry → List Val
args_after_all args [] = args
args_after_all args (entry ∷ later) = args_after_all (args_after args entry) later
