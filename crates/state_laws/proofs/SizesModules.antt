-- The module that begins in a state can be replayed: its indices have 32 bits, and its replay modules have encodings.
use Rattle.std.proofs.Common.{◌≡◌, ℕ, ◌+◌, ◌*◌, ◌/◌, ◌^◌, ◌<◌, ◌≤◌, List, [], ◌∷◌, length, drop, map, Option, Some, None, option_map, sym, ◌∙◌, subst, arith, length-append}
use Rattle.std.specs.Prelude.{IfSome}
use Rattle.std.specs.List.{AllByRecursion}
use Rattle.std.proofs.Math.Nat.{mul-div-le}
use Rattle.std.proofs.lemmas.List.{length-map}
use Rattle.wasm_syntax.specs.declared.forms.Form.TheVariants.{Core}
use Rattle.wasm_syntax.specs.declared.limits.TheConstants.{MAX_ENTRIES, MAX_ORIGINAL_BYTES, MAX_TAPE_WEIGHT}
use Rattle.wasm_syntax.specs.declared.values.Val.{Val}
use Rattle.wasm_syntax.specs.declared.signatures.Limits.{Limits}
use Rattle.wasm_syntax.specs.declared.modules.Module.{Module}
use Rattle.wasm_syntax.specs.Encoding.Encodable.{FitsBounds, FitsLimits}
use Rattle.wasm_syntax.specs.Encoding.Laws.{CoreIsInReplay, EncodableInCore, EncodedIsEncodable, NoneIsShorter}
use Rattle.wasm_syntax.specs.Encoding.Modules.{code_of}
use Rattle.wasm_syntax.specs.Encoding.Sections.{CodeSection, DataSection, ElementSection, ExportSection, FunctionSection, GlobalSection, ImportSection, MemorySection, TableSection, TypeSection}
use Rattle.wasm_syntax.specs.Encoding.Shortest.{data_bytes, elem_bytes, encoding_of, global_bytes, import_bytes, limits_bytes, table_type_bytes, unless_empty}
use Rattle.wasm_syntax.specs.Index.{all_globals, all_memories, all_tables, imported_funcs, imported_globals, memory_import, of_kind, table_import}
use Rattle.wasm_syntax.specs.Validity.{IsValid}
use Rattle.wasm_syntax.proofs.Encoding.NotEmpty.{global_bytes_some}
use Rattle.wasm_syntax.proofs.ItemLists.{items, items_some, list_least}
use Rattle.wasm_syntax.proofs.SectionLists.{encoding_parts, part, part_is, part_most, vectors}
use Rattle.host_script.specs.declared.scripts.Supply.{Supply}
use Rattle.trace_model.specs.declared.tapes.Tape.{Tape}
use Rattle.trace_model.specs.Weight.{tape_weight}
use Rattle.replay_module_spec.specs.Plans.{plan_of}
use Rattle.replay_module_spec.specs.Size.{max_bytes}
use Rattle.replay_module_laws.specs.Laws.{PlansFit, ReplayModulesOfTapesAreValid}
use Rattle.replay_gen.specs.Bounds.{FitsIndices}
use Rattle.replay_encoding_laws.specs.Laws.{PlansFitIndices}
use Rattle.replay_encoding_laws.specs.Premises.{IsTakenSupply, IsTakenTape}
use Rattle.replay_encoding_laws.proofs.Encodable.{KeptPartsFit, kept_parts, taken_encodable}
use Rattle.replay_encoding_laws.proofs.Indices.{imports_some}
use Rattle.replay_encoding_laws.proofs.Modules.{globals_are_all, imported_most}
use Rattle.replay_encoding_laws.proofs.Sizes.{no_part}
use Rattle.rest_spec.specs.KnownStates.{KnownState}
use Rattle.rest_spec.specs.StateModules.{state_module_of, state_pages, state_supply_of, with_min}
use Rattle.rest_spec.specs.StateSegments.{block_size, func_runs}
use Rattle.state_laws.specs.Sizes.{StateModulesAreShort, StateModulesCanBeReplayed}
use Rattle.state_laws.specs.Valid.{IsStateOf}
use Rattle.state_laws.proofs.CodeParts.{first_unfit_same, globals_same}
use Rattle.state_laws.proofs.SizesLengths.{blocks_few, blocks_length, globals_longer, memory_length, runs_few, runs_length, table_length}
use Rattle.state_laws.proofs.ValidModules.{blocks, few_bytes, few_entries, quantities, state_supplied, state_valid}

-- ---- limits

sized_fits : (size : ℕ) → size < 2 ^ 32 → (tables : List Limits) → AllByRecursion FitsLimits tables
    → AllByRecursion FitsLimits (map (with_min size) tables)
sized_fits size small [] fit = tt
sized_fits size small (limits ∷ tables) fit = (by limits.max fit.0, sized_fits size small tables fit.1)
  where
    by : (max : Option ℕ) → FitsBounds limits.min max → FitsBounds size max
    by None h = small
    by (Some max) h = (small, h.1)

stated_sized : (size : ℕ) (table : Option Limits)
    → IfSome table (λ limits. IfSome limits.max (λ max. max < 2 ^ 32))
    → IfSome (option_map (with_min size) table) (λ limits. IfSome limits.max (λ max. max < 2 ^ 32))
stated_sized size None h = tt
stated_sized size (Some limits) h = h

module _ (m : Module) (supply : Supply) (state : KnownState) (is : IsStateOf m supply state) where
  abbrev other : Module
  other = state_module_of m state

  -- ---- the length of the encoding

  elems_most : items elem_bytes other.elems + 16 * length other.elems ≤ 43 * MAX_ENTRIES
  elems_most = omega (
    arith,
    runs_length (func_runs 0 state.entries),
    runs_few 0 state.entries,
    few_entries m supply state is,
  )

  datas_most : items data_bytes other.datas + 16 * length other.datas ≤ 4134 * 65536
  datas_most = omega (
    arith,
    blocks_length (length state.bytes) other.datas (blocks m supply state is),
    blocks_few block_size (length state.bytes / block_size) 0 state.bytes,
    mul-div-le (length state.bytes) block_size,
    few_bytes m supply state is,
  )

  abbrev values : List Val
  values = drop (length (imported_globals m)) state.globals

  globals_part : items global_bytes m.globals ≤ part (unless_empty GlobalSection m.globals)
  globals_part = omega (
    arith,
    part_is (unless_empty GlobalSection m.globals),
    list_least GlobalSection global_bytes vectors.globals m.globals,
  )

  imports_part : items import_bytes m.imports ≤ part (unless_empty ImportSection m.imports)
  imports_part = omega (
    arith,
    part_is (unless_empty ImportSection m.imports),
    list_least ImportSection import_bytes vectors.imports m.imports,
  )

  -- the encoding without custom sections, by the parts that are those of the original and those of the state
  state_length : length (all_tables m) ≤ 1 → length (all_memories m) ≤ 1
      → length (encoding_of (record other { customs = [] }))
      ≤ length (encoding_of m) + 78 + 12 * length m.globals + items elem_bytes other.elems + items data_bytes other.datas
  state_length one_table one_memory =
      let own = encoding_parts m in
      let new
      : length (encoding_of (record other { customs = [] }))
      ≡ 8 + (part (unless_empty TypeSection m.types) + part (unless_empty ImportSection m.imports)
      + part (unless_empty FunctionSection (map (λ func. func.ty) m.funcs))
      + part (unless_empty TableSection other.tables) + part (unless_empty MemorySection other.memories)
      + part (unless_empty GlobalSection other.globals) + part (unless_empty ExportSection m.exports)
      + part [] + part (unless_empty ElementSection other.elems)
      + part (unless_empty CodeSection (map code_of m.funcs)) + part (unless_empty DataSection other.datas)
      + part []) =
      encoding_parts (record other { customs = [] }) in
      omega (
        arith,
        own,
        new,
        no_part,
        part_most TableSection table_type_bytes vectors.tables other.tables,
        part_most MemorySection limits_bytes vectors.memories other.memories,
        part_most GlobalSection global_bytes vectors.globals other.globals,
        part_most ElementSection elem_bytes vectors.elems other.elems,
        part_most DataSection data_bytes vectors.datas other.datas,
        table_length other.tables (omega (
          arith,
          one_table,
          length-append (of_kind table_import m.imports) m.tables,
          length-map m.tables (with_min (length state.entries)),
        )),
        memory_length other.memories (omega (
          arith,
          one_memory,
          length-append (of_kind memory_import m.imports) m.memories,
          length-map m.memories (with_min (state_pages state)),
        )),
        globals_longer m.globals values,
        globals_part,
      )

  -- the numbers of globals and imports are small beside the length of the original's encoding
  parts_few : 28 * length m.globals + 112 * length m.imports ≤ 28 * length (encoding_of m)
  parts_few = omega (
    arith,
    encoding_parts m,
    globals_part,
    imports_part,
    items_some global_bytes global_bytes_some m.globals,
    imports_some m.imports,
  )

  globals_count : length (all_globals other) ≤ length m.imports + length m.globals
  globals_count =
      subst (λ types. length types ≤ length m.imports + length m.globals) (sym (globals_same m state))
      (omega (arith, globals_are_all m, imported_most m.imports))

  pub state_bound : (weight : ℕ) → IsValid m → length (encoding_of m) ≤ MAX_ORIGINAL_BYTES → weight ≤ MAX_TAPE_WEIGHT
      → max_bytes other weight < 2 ^ 32
  state_bound weight valid short light = omega (
    arith,
    short,
    light,
    state_length valid.outside.one_table valid.outside.one_memory,
    parts_few,
    globals_count,
    elems_most,
    datas_most,
  )

  -- ---- what a replay module needs

  kept_fit : KeptPartsFit m → KeptPartsFit other
  kept_fit own =
      let few = few_entries m supply state is in
      record {
        types = own.types;
        funcs = own.funcs;
        tables = sized_fits (length state.entries) (omega (arith, few)) m.tables own.tables;
      }

  supply_taken : IsTakenSupply m supply → IsTakenSupply other (state_supply_of supply state)
  supply_taken supplied =
      record {
        matches = state_supplied m supply state is supplied.matches;
        table = stated_sized (length state.entries) supply.table supplied.table;
      }

  tape_taken : (tape : Tape) → IsTakenTape m tape → IsTakenTape other tape
  tape_taken tape taken =
      record { fits = first_unfit_same m state tape ∙ taken.fits; constants = taken.constants; weight = taken.weight }

  indices_fit : (tape : Tape) → FitsIndices m (plan_of (imported_funcs m) tape)
      → FitsIndices other (plan_of (imported_funcs other) tape)
  indices_fit tape small =
      record {
        types = small.types;
        params = small.params;
        globals =
            subst (λ types. length types + imported_funcs m < 2 ^ 32) (sym (globals_same m state)) small.globals;
        funcs = small.funcs;
      }

-- the laws of lower layers that this rests on
pub record LowerLaws : Type 0 where
  pub core : EncodableInCore
  pub in_replay : CoreIsInReplay
  pub least : NoneIsShorter
  pub encodable : EncodedIsEncodable
  pub indices : PlansFitIndices
  pub plans : PlansFit
  pub valid : ReplayModulesOfTapesAreValid

pub state_modules_can_be_replayed : LowerLaws → StateModulesCanBeReplayed
state_modules_can_be_replayed laws bytes m supply state tape file supplied taken is =
    let other = state_module_of m state in
    let own = laws.encodable Core bytes m file.encoded in
    let core = laws.core m own in
    let small = indices_fit m supply state is tape (laws.indices bytes m tape file taken) in
    let supplied' = supply_taken m supply state is supplied in
    let taken' = tape_taken m supply state is tape taken in
    record {
      supplied = supplied';
      taken = taken';
      indices = small;
      encodable =
          taken_encodable laws.plans laws.valid other (state_supply_of supply state) tape
          (state_valid m supply state is file.valid core)
          (kept_fit m supply state is (kept_parts laws.in_replay m file.valid own)) supplied' taken' small;
      short =
          state_bound m supply state is (tape_weight tape) file.valid
          (let least = laws.least Core bytes m file.encoded in let few = file.few in omega (arith, least, few))
          taken.weight;
    }

pub state_modules_are_short : StateModulesAreShort
state_modules_are_short =
    record {
      lists = λ most m state h.
          record { parts = h.parts; funcs = h.funcs; params = h.params; locals = h.locals; bodies = h.bodies };
      short = λ m supply state h is.
          record {
            types = h.types;
            funcs = h.funcs;
            params = h.params;
            bodies = h.bodies;
            quantities = quantities m supply state is h.quantities;
          };
    }
