-- Pairs that do not link, with their faults.
use Rattle.std.specs.Prelude.{◌≡◌, List, [], ◌∷◌, Some, None, false, codes}
use Rattle.wasm_syntax.specs.declared.values.ValType.TheVariants.{I32, I64}
use Rattle.wasm_syntax.specs.declared.signatures.Limits.{Limits}
use Rattle.wasm_syntax.specs.declared.instructions.Instr.TheVariants.{End, GlobalGet}
use Rattle.wasm_syntax.specs.declared.modules.Import.{Import}
use Rattle.wasm_syntax.specs.declared.modules.ImportKind.TheVariants as import
use Rattle.wasm_syntax.specs.declared.modules.ExportKind.TheVariants as export
use Rattle.wasm_syntax.specs.declared.modules.Module.{Module}
use Rattle.wasm_syntax.specs.EmptyModule.{empty_module}
use Rattle.instance_spec.specs.declared.sides.Side.TheVariants.{Left, Right}
use Rattle.pair_spec.specs.declared.faults.PairFault.TheVariants.{Unresolved, Mismatch, TwoMemories, TwoTables, TwoStarts}
use Rattle.pair_spec.specs.Pairs.{ModulePair}
use Rattle.pair_spec.specs.Faults.{first_pair_fault}
use Rattle.worked_histories.specs.Build.{func_type, limits, global_type, export_of, func, global}
use Rattle.worked_histories.specs.Modules.{no_result, one_result, two_answers, overwrite, table_entry}
use Rattle.worked_instances.specs.PairModules.{pair_of, from_left, from_right, from_host, adds_calls, adds_one, adders, callbacks, trapping, counters, tables, returning}

-- a module that exports the first function that it imports
abbrev pub passes_on : List Import → Module
passes_on imports =
    record empty_module {
      types = one_result ∷ [];
      imports = imports;
      exports = export_of (codes "f") (export.Func 0) ∷ [];
    }

-- each module exports what it imports from the other; the left module's first import is the host's, and it exports its
-- second
abbrev pub circle : ModulePair
circle =
    pair_of
    (record (passes_on (from_host (codes "f") (import.Func 0) ∷ from_right (codes "f") (import.Func 0) ∷ [])) {
      exports = export_of (codes "f") (export.Func 1) ∷ [];
    })
    (passes_on (from_left (codes "f") (import.Func 0) ∷ []))

-- the right module passes on what the host supplies
abbrev pub passed_on : ModulePair
passed_on = pair_of adds_calls (passes_on (from_host (codes "f") (import.Func 0) ∷ []))

-- the right module exports a function of another type than the left one wants
abbrev pub other_type : ModulePair
other_type = pair_of (record adds_calls { types = func_type [] (I64 ∷ []) ∷ [] }) adds_one

-- the right module exports a memory under the name of the function that the left one wants
abbrev pub other_kind : ModulePair
other_kind =
    pair_of adds_calls
    (record empty_module {
      memories = limits 1 None ∷ [];
      exports = export_of (codes "f") (export.Memory 0) ∷ [];
    })

-- the left module has a memory with these limits, and the right one wants these
abbrev pub memories : (has wants : Limits) → ModulePair
memories has wants =
    pair_of
    (record empty_module {
      memories = has ∷ [];
      exports = export_of (codes "m") (export.Memory 0) ∷ [];
    })
    (record empty_module { imports = from_left (codes "m") (import.Memory wants) ∷ [] })

-- the left module has a global that is initialised with one of the host's, and the right one imports it
abbrev pub other_constant : ModulePair
other_constant =
    pair_of
    (record empty_module {
      imports = from_host (codes "x") (import.Global (global_type I32 false)) ∷ [];
      globals = global (global_type I32 false) (GlobalGet 0 ∷ End ∷ []) ∷ [];
      exports = export_of (codes "x") (export.Global 1) ∷ [];
    })
    (record empty_module { imports = from_left (codes "x") (import.Global (global_type I32 false)) ∷ [] })

-- a module with a start function
abbrev pub starts : Module
starts = record empty_module { types = no_result ∷ []; funcs = func 0 [] (End ∷ []) ∷ []; start = Some 0 }

-- the pairs have these faults
pub record WorkedFaults : Type 0 where
  -- the right module exports nothing under the name
  pub no_export : first_pair_fault (pair_of adds_calls two_answers) ≡ Some (Unresolved Left 0)
  -- it exports something of another kind
  pub of_other_kind : first_pair_fault other_kind ≡ Some (Unresolved Left 0)
  -- the chain of the left module's second import comes back to it
  pub in_circle : first_pair_fault circle ≡ Some (Unresolved Left 1)
  -- the chain ends at a global that is not initialised with one constant
  pub no_constant : first_pair_fault other_constant ≡ Some (Unresolved Right 0)
  -- the types of functions differ
  pub of_other_type : first_pair_fault other_type ≡ Some (Mismatch Left 0)
  -- the memory is smaller than the import wants; it may grow further than the import wants
  pub too_small : first_pair_fault (memories (limits 1 None) (limits 2 None)) ≡ Some (Mismatch Right 0)
  pub no_maximum : first_pair_fault (memories (limits 2 None) (limits 1 (Some 4))) ≡ Some (Mismatch Right 0)
  pub greater_maximum : first_pair_fault (memories (limits 2 (Some 5)) (limits 1 (Some 4))) ≡ Some (Mismatch Right 0)
  -- both modules have a memory, a table, or a start function
  pub two_memories : first_pair_fault (pair_of overwrite overwrite) ≡ Some TwoMemories
  pub two_tables : first_pair_fault (pair_of table_entry table_entry) ≡ Some TwoTables
  pub two_starts : first_pair_fault (pair_of starts starts) ≡ Some TwoStarts
  -- these pairs have no fault
  pub same_memory : first_pair_fault (memories (limits 2 (Some 4)) (limits 1 (Some 4))) ≡ None
  pub one_start : first_pair_fault (pair_of starts adds_one) ≡ None
  pub to_host : first_pair_fault passed_on ≡ None
  pub of_adders : first_pair_fault adders ≡ None
  pub of_callbacks : first_pair_fault callbacks ≡ None
  pub of_trapping : first_pair_fault trapping ≡ None
  pub of_counters : first_pair_fault counters ≡ None
  pub of_tables : first_pair_fault tables ≡ None
  pub of_returning : first_pair_fault returning ≡ None
