-- What the run of a module without imports shows of an original module: functions from n to n + m - 1 are the
-- original's, those below n replace its imports, and all others are appended. The originals are inside; every
-- other function, and the caller of the exported one, is outside.
use Rattle.std.specs.Prelude.{ℕ, ◌+◌, ◌-◌, List, [], ◌∷◌, ◌++◌, length, take, Option, Some, None, Bool, true, false, nat_lt}
use Rattle.wasm_syntax.specs.declared.values.Val.{Val}
use Rattle.base.specs.declared.outcomes.Outcome.{Outcome}
use Rattle.base.specs.declared.outcomes.Outcome.TheVariants.{Trapped, HostTrapped}
use Rattle.history_spec.specs.declared.entries.Entry.{Entry}
use Rattle.history_spec.specs.declared.entries.Entry.TheVariants.{HostCall, HostReturn, ImportCall, ImportReturn, Enter, Exit, Step, Trap, HostTrap}

-- the numbers of functions that the original imports and defines
pub record Layout : Type 0 where
  pub imports : ℕ
  pub defined : ℕ

-- what a function is: the body that replaces an import, an original, or one that is appended
pub data Side : Type 0 where
  Import : Side
  Original : Side
  Appended : Side

-- the side of a function after the imports, by whether it is before the end of the originals
abbrev pub side_past : Bool → Side
side_past true = Original
side_past false = Appended

-- the side of a function, by whether it is among the imports, and whether it is before the end of the originals
abbrev pub side_from : Bool → Bool → Side
side_from true below_end = Import
side_from false below_end = side_past below_end

-- the side of a function
abbrev pub side : Layout → ℕ → Side
side layout func = side_from (nat_lt func layout.imports) (nat_lt func (layout.imports + layout.defined))

-- the side of a caller: that of the innermost function, or outside all functions
abbrev pub caller_side : Layout → List ℕ → Side
caller_side layout [] = Appended
caller_side layout (func ∷ callers) = side layout func

-- what is shown of a call from one side to a function of another
abbrev pub shown_call : (caller callee : Side) → ℕ → List Val → List Entry
shown_call Original Original func args = Enter func ∷ []
shown_call Original Import func args = ImportCall func args ∷ []
shown_call Original Appended func args = []
shown_call caller Original func args = HostCall func args ∷ []
shown_call caller callee func args = []

-- what is shown of the return from a call
abbrev pub shown_return : (caller callee : Side) → ℕ → List Val → List Entry
shown_return Original Original func results = Exit func results ∷ []
shown_return Original Import func results = ImportReturn func results ∷ []
shown_return Original Appended func results = []
shown_return caller Original func results = HostReturn func results ∷ []
shown_return caller callee func results = []

-- what is shown of a step: only steps of originals are shown
abbrev pub shown_step : Side → Entry → List Entry
shown_step Original entry = entry ∷ []
shown_step other entry = []

-- what is shown of a trap: a trap outside the originals is the host's
abbrev pub shown_trap : Side → Entry → Entry
shown_trap Original entry = entry
shown_trap other entry = HostTrap

-- the arguments among a call's operands: all but the index of a `call_indirect`, the only call that has found
-- a function
abbrev pub call_args : List Val → Option ℕ → List Val
call_args operands None = operands
call_args operands (Some found) = take (length operands - 1) operands

-- the functions that control is in after a return
abbrev pub without_innermost : List ℕ → List ℕ
without_innermost [] = []
without_innermost (func ∷ callers) = callers

-- the entries that are shown, given the functions that control is in, the innermost first, and the arguments of
-- the latest call
abbrev pub shown_entries : Layout → (inside : List ℕ) → (args : List Val) → List Entry → List Entry
shown_entries layout inside args [] = []
shown_entries layout inside args (HostCall func given ∷ rest) =
    shown_call (caller_side layout inside) (side layout func) func given
    ++ shown_entries layout (func ∷ inside) given rest
shown_entries layout inside args (HostReturn func results ∷ rest) =
    shown_return (caller_side layout (without_innermost inside)) (side layout func) func results
    ++ shown_entries layout (without_innermost inside) args rest
shown_entries layout inside args (Enter func ∷ rest) =
    shown_call (caller_side layout inside) (side layout func) func args
    ++ shown_entries layout (func ∷ inside) args rest
shown_entries layout inside args (Exit func results ∷ rest) =
    shown_return (caller_side layout (without_innermost inside)) (side layout func) func results
    ++ shown_entries layout (without_innermost inside) args rest
shown_entries layout inside args (Step func number operands results found ∷ rest) =
    shown_step (side layout func) (Step func number operands results found)
    ++ shown_entries layout inside (call_args operands found) rest
shown_entries layout inside args (Trap func number kind operands found ∷ rest) =
    shown_trap (side layout func) (Trap func number kind operands found)
    ∷ shown_entries layout inside args rest
shown_entries layout inside args (entry ∷ rest) = shown_entries layout inside args rest

-- the outcome of a trap, by the side of the function that traps
abbrev pub trapped_on : Side → Outcome
trapped_on Original = Trapped
trapped_on other = HostTrapped

-- the outcome of a history that ends with a trap
abbrev pub trap_outcome : Layout → List Entry → Outcome
trap_outcome layout [] = Trapped
trap_outcome layout (Trap func number kind operands found ∷ rest) = trapped_on (side layout func)
trap_outcome layout (entry ∷ rest) = trap_outcome layout rest

-- the outcome that is shown of an outcome
abbrev pub shown_outcome : Layout → List Entry → Outcome → Outcome
shown_outcome layout history Trapped = trap_outcome layout history
shown_outcome layout history outcome = outcome

-- a whole history and its outcome, as they are shown
pub record Projection : Type 0 where
  pub history : List Entry
  pub outcome : Outcome

-- what a history and its outcome show of the original module
abbrev pub projection : Layout → List Entry → Outcome → Projection
projection layout history outcome =
    record { history = shown_entries layout [] [] history; outcome = shown_outcome layout history outcome }
