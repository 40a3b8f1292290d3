-- What a script supplies for a module's imports, or the first import that it does not match (Core 1.0, 4.5.2).
use Rattle.std.specs.Prelude.{ℕ, ◌+◌, List, [], ◌∷◌, Option, Some, None, Result, Ok, Err, Bool, true, false, ◌&&◌, nat_le, slice_get, option_and_then}
use Rattle.wasm_syntax.specs.declared.limits.TheConstants.{MAX_ENTRIES, MAX_PAGES}
use Rattle.wasm_syntax.specs.declared.values.Val.{Val}
use Rattle.wasm_syntax.specs.declared.signatures.Limits.{Limits}
use Rattle.wasm_syntax.specs.declared.signatures.GlobalType.{GlobalType}
use Rattle.wasm_syntax.specs.declared.modules.Import.{Import}
use Rattle.wasm_syntax.specs.declared.modules.ImportKind.{ImportKind}
use Rattle.wasm_syntax.specs.declared.modules.ImportKind.TheVariants.{Func, Table, Memory, Global}
use Rattle.wasm_syntax.specs.declared.modules.Module.{Module}
use Rattle.wasm_syntax.specs.Alike.{same_type}
use Rattle.wasm_syntax.specs.Index.{of_kind, memory_import, table_import}
use Rattle.host_script.specs.declared.scripts.Script.{Script}
use Rattle.host_script.specs.declared.scripts.Supply.{Supply}
use Rattle.host_script.specs.declared.scripts.LinkFault.{LinkFault}
use Rattle.host_script.specs.declared.scripts.LinkFault.TheVariants.{Missing, Mismatch}

-- whether a size is at most a maximum, if there is one
abbrev pub is_within : ℕ → Option ℕ → Bool
is_within size None = true
is_within size (Some max) = nat_le size max

-- whether there is a maximum of at most what an import wants, if the import wants one
abbrev pub keeps_max : Option ℕ → Option ℕ → Bool
keeps_max given None = true
keeps_max None (Some wanted) = false
keeps_max (Some given) (Some wanted) = nat_le given wanted

-- supplied limits match an import's (Core 1.0, 4.5.2), and are at most what anything may begin with
abbrev pub limits_match : ℕ → (given wanted : Limits) → Bool
limits_match most given wanted =
    nat_le wanted.min given.min && keeps_max given.max wanted.max && is_within given.min given.max
    && nat_le given.min most

-- how the supply for an import matches it: nothing is supplied, or it is unlike the import, or alike
pub data ImportMatch : Type 0 where
  Nothing : ImportMatch
  Unlike : ImportMatch
  Alike : ImportMatch

-- the match of a supply that is alike or not
abbrev pub alike_if : Bool → ImportMatch
alike_if true = Alike
alike_if false = Unlike

-- the match of limits for a memory or a table (Core 1.0, 4.5.2)
abbrev pub match_of_limits : ℕ → Option Limits → Limits → ImportMatch
match_of_limits most None wanted = Nothing
match_of_limits most (Some given) wanted = alike_if (limits_match most given wanted)

-- the match of a value for a global (Core 1.0, 4.5.2)
abbrev pub match_of_value : Option Val → GlobalType → ImportMatch
match_of_value None wanted = Nothing
match_of_value (Some value) wanted = alike_if (same_type value.ty wanted.ty)

-- how a script matches an import that has `globals` imported globals before it; functions are always supplied
abbrev pub import_match : Script → (globals : ℕ) → ImportKind → ImportMatch
import_match script globals (Func ty) = Alike
import_match script globals (Table limits) = match_of_limits MAX_ENTRIES script.table limits
import_match script globals (Memory limits) = match_of_limits MAX_PAGES script.memory limits
import_match script globals (Global ty) =
    match_of_value (option_and_then (λ value. value) (slice_get script.globals globals)) ty

-- the number of globals that an import adds: 1 for a global, else 0
abbrev pub globals_in : ImportKind → ℕ
globals_in (Func ty) = 0
globals_in (Table limits) = 0
globals_in (Memory limits) = 0
globals_in (Global ty) = 1

-- the fault of one import, or that of a later one
abbrev pub fault_or : ImportMatch → ℕ → Option LinkFault → Option LinkFault
fault_or Nothing at later = Some (Missing at)
fault_or Unlike at later = Some (Mismatch at)
fault_or Alike at later = later

-- the fault of the first import, counted from `at` on, that nothing alike is supplied for
abbrev pub first_fault : Script → List Import → (at globals : ℕ) → Option LinkFault
first_fault script [] at globals = None
first_fault script (import ∷ imports) at globals =
    fault_or (import_match script globals import.kind) at
    (first_fault script imports (at + 1) (globals + globals_in import.kind))

-- the values that are given
abbrev pub given_values : List (Option Val) → List Val
given_values [] = []
given_values (None ∷ rest) = given_values rest
given_values (Some value ∷ rest) = value ∷ given_values rest

-- the limits of a memory or table, if it is imported
abbrev pub if_imported : List Limits → Option Limits → Option Limits
if_imported [] limits = None
if_imported (import ∷ imports) limits = limits

-- what a script supplies if nothing is missing
abbrev pub supply_for : Module → Script → Supply
supply_for m script =
    record {
      memory = if_imported (of_kind memory_import m.imports) script.memory;
      table = if_imported (of_kind table_import m.imports) script.table;
      globals = given_values script.globals;
    }

-- the supply, or the fault
abbrev pub supply_unless : Option LinkFault → Supply → Result Supply LinkFault
supply_unless None supply = Ok supply
supply_unless (Some fault) supply = Err fault

-- the supply of a script that fits the module, or the first import that it does not match
abbrev pub supply_of : Module → Script → Result Supply LinkFault
supply_of m script = supply_unless (first_fault script m.imports 0 0) (supply_for m script)
