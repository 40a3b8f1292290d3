-- Why the modules of a pair do not link: the first fault of an import from the other side (Core 1.0, 4.5.2 and 4.5.4),
-- or what the linked module would have twice.
use Rattle.std.specs.Prelude.{ℕ, ◌+◌, List, [], ◌∷◌, Option, Some, None, Bool, true, false, cond, not, ◌&&◌, ◌||◌, is_some, filter, length, nat_le, slice_get, take}
use Rattle.std.specs.Option.{option_map_or, option_or}
use Rattle.wasm_syntax.specs.declared.signatures.FuncType.{FuncType}
use Rattle.wasm_syntax.specs.declared.signatures.GlobalType.{GlobalType}
use Rattle.wasm_syntax.specs.declared.signatures.Limits.{Limits}
use Rattle.wasm_syntax.specs.declared.instructions.Instr.{Instr}
use Rattle.wasm_syntax.specs.declared.instructions.Instr.TheVariants.{Const, End}
use Rattle.wasm_syntax.specs.declared.modules.Module.{Module}
use Rattle.wasm_syntax.specs.declared.modules.Import.{Import}
use Rattle.wasm_syntax.specs.declared.modules.ImportKind.{ImportKind}
use Rattle.wasm_syntax.specs.declared.modules.ImportKind.TheVariants as import
use Rattle.wasm_syntax.specs.Alike.{same_type, same_signature}
use Rattle.wasm_syntax.specs.Index.{type_at, func_type, all_tables, all_memories, all_globals}
use Rattle.host_script.specs.Supply.{keeps_max}
use Rattle.instance_spec.specs.declared.sides.Side.{Side}
use Rattle.instance_spec.specs.declared.sides.Side.TheVariants.{Left, Right}
use Rattle.pair_spec.specs.declared.faults.PairFault.{PairFault}
use Rattle.pair_spec.specs.declared.faults.PairFault.TheVariants.{Unresolved, Mismatch, TwoMemories, TwoTables, TwoStarts}
use Rattle.pair_spec.specs.Pairs.{ModulePair, module_of, is_from_other, Tables, Memories, is_in, space_of}
use Rattle.pair_spec.specs.Chains.{ChainEnd, Defined, end_module, end_index, end_of}
use Rattle.pair_spec.specs.Numbers.{count_in}
use Rattle.pair_spec.specs.PairRuns.{init_at}

-- the fault, unless a test is passed
abbrev pub fault_unless : Bool → PairFault → Option PairFault
fault_unless true fault = None
fault_unless false fault = Some fault

-- ---- matches (Core 1.0, 4.5.2)

-- whether types of globals are equal
abbrev pub same_global_type : GlobalType → GlobalType → Bool
same_global_type a b = same_type a.ty b.ty && cond a.mutable b.mutable (not b.mutable)

-- whether declared limits match those of an import
abbrev pub declared_match : (given wanted : Limits) → Bool
declared_match given wanted = nat_le wanted.min given.min && keeps_max given.max wanted.max

-- whether a function type is there and is that of an import
abbrev pub is_signature : (given wanted : Option FuncType) → Bool
is_signature given None = false
is_signature None (Some wanted) = false
is_signature (Some given) (Some wanted) = same_signature given wanted

-- whether the end of an import's chain has the type of the import, or has limits that match those of the import; the
-- type and the limits of an end that is the host's are those that its own import has
abbrev pub does_match : ModulePair → Side → ImportKind → ChainEnd → Bool
does_match pair side (import.Func ty) e =
    is_signature (func_type (end_module pair e) (end_index e)) (type_at (module_of pair side) ty)
does_match pair side (import.Table limits) e =
    option_map_or (λ given. declared_match given limits) (slice_get (all_tables (end_module pair e)) (end_index e))
    false
does_match pair side (import.Memory limits) e =
    option_map_or (λ given. declared_match given limits) (slice_get (all_memories (end_module pair e)) (end_index e))
    false
does_match pair side (import.Global ty) e =
    option_map_or (λ given. same_global_type given ty) (slice_get (all_globals (end_module pair e)) (end_index e)) false

-- ---- faults of imports

-- whether a constant expression is one constant
abbrev pub is_one_const : List Instr → Bool
is_one_const (Const value ∷ End ∷ []) = true
is_one_const body = false

-- whether an import, if it is an immutable global that a side defines, is initialised with one constant, which constant
-- expressions may have in its place
abbrev pub has_constant : ModulePair → ImportKind → ChainEnd → Bool
has_constant pair (import.Global ty) (Defined side index) = ty.mutable || is_one_const (init_at pair side index)
has_constant pair kind e = true

-- the fault of an import from the other side, by the end of its chain
abbrev pub fault_by_end : ModulePair → Side → (place : ℕ) → ImportKind → Option ChainEnd → Option PairFault
fault_by_end pair side place kind None = Some (Unresolved side place)
fault_by_end pair side place kind (Some e) =
    option_or (fault_unless (has_constant pair kind e) (Unresolved side place))
    (fault_unless (does_match pair side kind e) (Mismatch side place))

-- the index of the import at a place, which is how many of its index space come before it (Core 1.0, 2.5.1)
abbrev pub import_index : Module → (place : ℕ) → ImportKind → ℕ
import_index m place kind = length (filter (λ i. is_in (space_of kind) i.kind) (take place m.imports))

-- the fault of the import at a place; the host's imports have none
abbrev pub import_fault : ModulePair → Side → (place : ℕ) → Import → Option PairFault
import_fault pair side place i =
    cond (is_from_other side i)
    (fault_by_end pair side place i.kind
    (end_of pair (space_of i.kind) side (import_index (module_of pair side) place i.kind)))
    None

-- the first fault among imports, of which the first is at a place
abbrev pub first_import_fault : ModulePair → Side → (place : ℕ) → List Import → Option PairFault
first_import_fault pair side place [] = None
first_import_fault pair side place (i ∷ imports) =
    option_or (import_fault pair side place i) (first_import_fault pair side (place + 1) imports)

-- ---- the pair

-- whether only one module has a start function
abbrev pub has_one_start : ModulePair → Bool
has_one_start pair = not (is_some pair.left.start && is_some pair.right.start)

-- the first fault of a pair: of the left module's imports in order, of the right one's, or a second memory, table or
-- start function
abbrev pub first_pair_fault : ModulePair → Option PairFault
first_pair_fault pair =
    option_or (first_import_fault pair Left 0 pair.left.imports)
    (option_or (first_import_fault pair Right 0 pair.right.imports)
    (option_or (fault_unless (nat_le (count_in pair Memories) 1) TwoMemories)
    (option_or (fault_unless (nat_le (count_in pair Tables) 1) TwoTables)
    (fault_unless (has_one_start pair) TwoStarts))))
