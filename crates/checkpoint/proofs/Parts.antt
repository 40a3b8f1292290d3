-- The module in a known state, by its parts.
use Rattle.std.proofs.Common.{◌≡◌, ℕ, ◌+◌, ◌≤◌, List, length, map, drop, None, sym, ap, ◌∙◌, arith, length-append}
use Rattle.std.proofs.lemmas.List.{length-map}
use Rattle.std.proofs.lemmas.Slice.Zip.{AllZip-long}
use Rattle.wasm_syntax.specs.declared.values.Val.{Val}
use Rattle.wasm_syntax.specs.declared.signatures.Limits.{Limits}
use Rattle.wasm_syntax.specs.declared.modules.Global.{Global}
use Rattle.wasm_syntax.specs.declared.modules.ElemSeg.{ElemSeg}
use Rattle.wasm_syntax.specs.declared.modules.DataSeg.{DataSeg}
use Rattle.wasm_syntax.specs.declared.modules.Module.{Module}
use Rattle.wasm_syntax.specs.Index.{all_globals, imported_globals}
use Rattle.host_script.specs.declared.scripts.Supply.{Supply}
use Rattle.type_safety.specs.Stores.{func_count, global_types}
use Rattle.type_safety.specs.Supplies.{IsSupply}
use Rattle.type_safety.specs.Values.{AreValues, IsValue}
use Rattle.rest_spec.specs.KnownStates.{KnownState}
use Rattle.rest_spec.specs.StateSegments.{data_segments, elem_segments}
use Rattle.rest_spec.specs.StateModules.{with_min, state_pages, state_globals, state_module_of}
use Rattle.checkpoint.specs.declared.state_modules.SegmentParts.{SegmentParts}
use Rattle.checkpoint.specs.declared.state_modules.StoreParts.{StoreParts}
use Rattle.checkpoint.specs.StateParts.{with_parts}

abbrev with_lists : Module → (tables memories : List Limits) → List Global → List ElemSeg → List DataSeg → Module
with_lists m tables memories globals elems datas =
    record m {
      tables = tables;
      memories = memories;
      globals = globals;
      start = None;
      elems = elems;
      datas = datas;
    }

-- tables, memories and globals are those of a known state
pub record AreStoreParts (m : Module) (state : KnownState) (imported : ℕ) (store : StoreParts) : Type 0 where
  pub tables : store.tables ≡ map (with_min (length state.entries)) m.tables
  pub memories : store.memories ≡ map (with_min (state_pages state)) m.memories
  pub globals : store.globals ≡ state_globals m.globals (drop imported state.globals)

pub is_state_module : (m kept : Module) (state : KnownState) (imported : ℕ) (store : StoreParts)
    (segments : SegmentParts) → kept ≡ m → imported ≡ length (imported_globals m)
    → AreStoreParts m state imported store → segments.elems ≡ elem_segments state.entries
    → segments.datas ≡ data_segments state.bytes → with_parts kept store segments ≡ state_module_of m state
is_state_module m kept state imported store segments same counted are elems datas =
    let tables = map (with_min (length state.entries)) m.tables in
    let memories = map (with_min (state_pages state)) m.memories in
    ap (λ k. with_parts k store segments) same
    ∙ ap (λ ts. with_lists m ts store.memories store.globals segments.elems segments.datas) are.tables
    ∙ ap (λ ms. with_lists m tables ms store.globals segments.elems segments.datas) are.memories
    ∙ ap (λ gs. with_lists m tables memories gs segments.elems segments.datas)
    (are.globals ∙ ap (λ n. state_globals m.globals (drop n state.globals)) counted)
    ∙ ap
    (λ es. with_lists m tables memories (state_globals m.globals (drop (length (imported_globals m)) state.globals)) es
    segments.datas)
    elems
    ∙ ap
    (λ ds. with_lists m tables memories (state_globals m.globals (drop (length (imported_globals m)) state.globals))
    (elem_segments state.entries) ds)
    datas

-- ---- the numbers of globals

-- a supply has a value for each imported global
all_supplied : (m : Module) (supply : Supply) → IsSupply m supply
    → length supply.globals ≡ length (imported_globals m)
all_supplied m supply is =
    AllZip-long (IsValue (func_count m)) (map (λ g. g.ty) (imported_globals m)) supply.globals is.globals
    ∙ length-map (imported_globals m) (λ g. g.ty)

-- a state has a value for each global
all_known : (m : Module) (values : List Val) → AreValues (func_count m) (global_types m) values
    → length values ≡ length (imported_globals m) + length m.globals
all_known m values are =
    AllZip-long (IsValue (func_count m)) (global_types m) values are
    ∙ length-map (all_globals m) (λ g. g.ty)
    ∙ length-append (imported_globals m) (map (λ g. g.ty) m.globals)
    ∙ ap (λ n. length (imported_globals m) + n) (length-map m.globals (λ g. g.ty))

-- what is known of globals is enough for those that are imported, and for those of the module as it is given
pub enough_supplied : (m : Module) (supply : Supply) (values : List Val) → IsSupply m supply
    → AreValues (func_count m) (global_types m) values → length supply.globals ≤ length values
enough_supplied m supply values is are =
    let supplied = all_supplied m supply is in
    let known = all_known m values are in
    omega (arith, supplied, known)

pub enough_known : (m given : Module) (supply : Supply) (supplied values : List Val) → given ≡ m → IsSupply m supply
    → AreValues (func_count m) (global_types m) values → supplied ≡ supply.globals
    → length supplied + length given.globals ≤ length values
enough_known m given supply supplied values same is are all =
    let counted = ap length all ∙ all_supplied m supply is in
    let known = all_known m values are in
    let defined = ap (λ (given : Module). length given.globals) same in
    omega (arith, counted, known, defined)

pub imported_given : (m given : Module) (supply : Supply) (supplied : List Val) → given ≡ m → IsSupply m supply
    → supplied ≡ supply.globals → length supplied ≡ length (imported_globals given)
imported_given m given supply supplied same is all =
    ap length all
    ∙ all_supplied m supply is
    ∙ ap (λ (given : Module). length (imported_globals given)) (sym same)
