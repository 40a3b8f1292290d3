-- The ends of chains of valid modules exist.
use Rattle.std.proofs.Common.{◌≡◌, ℕ, zero, suc, ◌+◌, ◌-◌, ◌<◌, List, [], ◌∷◌, map, filter, length, find, Option, Some, None, Bool, true, false, cond, is_some, slice_get, option_and_then, bytes_eq, refl, ap, ap₂, ◌∙◌, subst, arith}
use Rattle.std.specs.List.{All, cons_option}
use Rattle.std.proofs.lemmas.List.{length-append, length-map}
use Rattle.std.proofs.lemmas.List.Elements.{All-head, All-tail}
use Rattle.wasm_syntax.specs.declared.modules.Module.{Module}
use Rattle.wasm_syntax.specs.declared.modules.Func.{Func}
use Rattle.wasm_syntax.specs.declared.modules.Global.{Global}
use Rattle.wasm_syntax.specs.declared.modules.Import.{Import}
use Rattle.wasm_syntax.specs.declared.modules.ImportKind.{ImportKind}
use Rattle.wasm_syntax.specs.declared.modules.ImportKind.TheVariants as import
use Rattle.wasm_syntax.specs.declared.modules.Export.{Export}
use Rattle.wasm_syntax.specs.declared.modules.ExportKind.{ExportKind}
use Rattle.wasm_syntax.specs.declared.modules.ExportKind.TheVariants as export
use Rattle.wasm_syntax.specs.Index.{of_kind, func_import, table_import, memory_import, global_import, func_indices, all_tables, all_memories, all_globals}
use Rattle.wasm_syntax.specs.Validity.{IsThere, IsValid}
use Rattle.instance_spec.specs.declared.sides.Side.{Side}
use Rattle.instance_spec.specs.declared.sides.Side.TheVariants.{Left, Right}
use Rattle.pair_spec.specs.Pairs.{ModulePair, module_of, other_side, is_from_other, Space, Funcs, Tables, Memories, Globals, is_in, imports_in, defined_in, index_in, exported_index}
use Rattle.pair_spec.specs.Chains.{ChainEnd, Defined, HostImport, end_module, end_index, end_by, end_after, end_of}

-- the size of an index space
abbrev pub size : Space → Module → ℕ
size space m = length (imports_in space m) + defined_in space m

-- ---- imports of one kind

module _ {K : Type 0} (pick : ImportKind → Option K) (space : Space) (same : (kind : ImportKind) → is_some (pick kind) ≡ is_in space kind) where
  pub kinds_in : (imports : List Import) → length (of_kind pick imports) ≡ length (filter (λ i. is_in space i.kind) imports)
  kinds_in [] = refl
  kinds_in (i ∷ imports) = by (pick i.kind) (is_in space i.kind) (same i.kind) (kinds_in imports)
    where
      by : (k : Option K) (b : Bool) → is_some k ≡ b
          → length (of_kind pick imports) ≡ length (filter (λ i. is_in space i.kind) imports)
          → length (cons_option k (of_kind pick imports))
          ≡ length (cond b (i ∷ filter (λ i. is_in space i.kind) imports) (filter (λ i. is_in space i.kind) imports))
      by None true e h = cc
      by None false e h = h
      by (Some k) true e h = ap suc h
      by (Some k) false e h = cc

func_kind : (kind : ImportKind) → is_some (func_import kind) ≡ is_in Funcs kind
func_kind (import.Func ty) = refl
func_kind (import.Table limits) = refl
func_kind (import.Memory limits) = refl
func_kind (import.Global ty) = refl

table_kind : (kind : ImportKind) → is_some (table_import kind) ≡ is_in Tables kind
table_kind (import.Func ty) = refl
table_kind (import.Table limits) = refl
table_kind (import.Memory limits) = refl
table_kind (import.Global ty) = refl

memory_kind : (kind : ImportKind) → is_some (memory_import kind) ≡ is_in Memories kind
memory_kind (import.Func ty) = refl
memory_kind (import.Table limits) = refl
memory_kind (import.Memory limits) = refl
memory_kind (import.Global ty) = refl

global_kind : (kind : ImportKind) → is_some (global_import kind) ≡ is_in Globals kind
global_kind (import.Func ty) = refl
global_kind (import.Table limits) = refl
global_kind (import.Memory limits) = refl
global_kind (import.Global ty) = refl

-- ---- exports

module _ (m : Module) where
  func_size : length (func_indices m) ≡ size Funcs m
  func_size =
      length-append (of_kind func_import m.imports) (map (λ (f : Func). f.ty) m.funcs)
      ∙ ap₂ (λ a b. a + b) (kinds_in func_import Funcs func_kind m.imports) (length-map m.funcs (λ (f : Func). f.ty))

  table_size : length (all_tables m) ≡ size Tables m
  table_size =
      length-append (of_kind table_import m.imports) m.tables
      ∙ ap (λ a. a + length m.tables) (kinds_in table_import Tables table_kind m.imports)

  memory_size : length (all_memories m) ≡ size Memories m
  memory_size =
      length-append (of_kind memory_import m.imports) m.memories
      ∙ ap (λ a. a + length m.memories) (kinds_in memory_import Memories memory_kind m.imports)

  global_size : length (all_globals m) ≡ size Globals m
  global_size =
      length-append (of_kind global_import m.imports) (map (λ (g : Global). g.ty) m.globals)
      ∙ ap₂ (λ a b. a + b) (kinds_in global_import Globals global_kind m.imports) (length-map m.globals (λ (g : Global). g.ty))

  pub globals_imported : (a b : ℕ) → a ≡ length (all_globals m) → b ≡ length m.globals
      → a - b ≡ length (imports_in Globals m)
  globals_imported a b all own = omega (arith, all, own, global_size)

  below : (n x y : ℕ) → (n' : ℕ) → x < n → n ≡ n' → Some x ≡ Some y → y < n'
  below n x y n' low same is =
      let here : x ≡ y = cc in
      omega (arith, low, same, here)

  index_there : (space : Space) (kind : ExportKind) (y : ℕ) → IsThere m kind → index_in space kind ≡ Some y
      → y < size space m
  index_there Funcs (export.Func x) y there is = below (length (func_indices m)) x y (size Funcs m) there func_size is
  index_there Tables (export.Table x) y there is = below (length (all_tables m)) x y (size Tables m) there table_size is
  index_there Memories (export.Memory x) y there is = below (length (all_memories m)) x y (size Memories m) there memory_size is
  index_there Globals (export.Global x) y there is = below (length (all_globals m)) x y (size Globals m) there global_size is
  index_there space kind y there is = cc

  found_there : {X : Type 0} (P : X → Type 0) (test : X → Bool) (xs : List X) → All P xs → (x : X) → find test xs ≡ Some x → P x
  found_there P test [] all x is = cc
  found_there P test (first ∷ xs) all x is = by (test first) is (found_there P test xs (All-tail P first xs all) x)
    where
      by : (b : Bool) → cond b (Some first) (find test xs) ≡ Some x → (find test xs ≡ Some x → P x) → P x
      by true is later = let same : first ≡ x = cc in subst P same (All-head P first xs all)
      by false is later = later is

  pub exported_there : IsValid m → (space : Space) (name : List ℕ) (y : ℕ) → exported_index space m name ≡ Some y
      → y < size space m
  exported_there valid space name y is =
      by (find (λ (e : Export). bytes_eq e.name name) m.exports)
      (found_there (λ (e : Export). IsThere m e.kind) (λ (e : Export). bytes_eq e.name name) m.exports valid.outside.exports)
      is
    where
      by : (o : Option Export) → ((e : Export) → o ≡ Some e → IsThere m e.kind)
          → option_and_then (λ (e : Export). index_in space e.kind) o ≡ Some y → y < size space m
      by None there is = cc
      by (Some e) there is = index_there space e.kind y (there e refl) is

-- ---- ends

abbrev pub IsEndThere : ModulePair → Space → ChainEnd → Type 0
IsEndThere pair space e = end_index e < size space (end_module pair e)

same_end : (a b : ChainEnd) → Some a ≡ Some b → a ≡ b
same_end a b e = cc

module _ (pair : ModulePair) (space : Space)
    (exported : (side : Side) (name : List ℕ) (y : ℕ) → exported_index space (module_of pair side) name ≡ Some y
    → y < size space (module_of pair side)) where
  end_from : (later : Side → ℕ → Option ChainEnd)
      → ((side : Side) (x : ℕ) → x < size space (module_of pair side) → (e : ChainEnd) → later side x ≡ Some e → IsEndThere pair space e)
      → (side : Side) (x : ℕ) → x < size space (module_of pair side) → (e : ChainEnd) (o : Option Import)
      → end_by later pair space side x o ≡ Some e → IsEndThere pair space e
  end_from later known side x within e None is = subst (IsEndThere pair space) (same_end (Defined side x) e is) within
  end_from later known side x within e (Some i) is = by (is_from_other side i) is
    where
      on : (o : Option ℕ) → exported_index space (module_of pair (other_side side)) i.name ≡ o
          → option_and_then (later (other_side side)) o ≡ Some e → IsEndThere pair space e
      on None from is = cc
      on (Some y) from is = known (other_side side) y (exported (other_side side) i.name y from) e is

      by : (b : Bool)
          → cond b
          (option_and_then (later (other_side side)) (exported_index space (module_of pair (other_side side)) i.name))
          (Some (HostImport side x))
          ≡ Some e
          → IsEndThere pair space e
      by true is = on (exported_index space (module_of pair (other_side side)) i.name) refl is
      by false is = subst (IsEndThere pair space) (same_end (HostImport side x) e is) within

  end_there : (k : ℕ) (side : Side) (x : ℕ) → x < size space (module_of pair side) → (e : ChainEnd)
      → end_after k pair space side x ≡ Some e → IsEndThere pair space e
  end_there zero side x within e is = cc
  end_there (suc k) side x within e is =
      end_from (end_after k pair space) (end_there k) side x within e
      (slice_get (imports_in space (module_of pair side)) x) is

-- the end of the chain from an index of a valid module exists
pub ends_there : (pair : ModulePair) (space : Space) → IsValid pair.left → IsValid pair.right
    → (side : Side) (x : ℕ) → x < size space (module_of pair side) → (e : ChainEnd) → end_of pair space side x ≡ Some e
    → IsEndThere pair space e
ends_there pair space left right side x within e is =
    end_there pair space exported (length pair.left.imports + length pair.right.imports + 1) side x within e is
  where
    exported : (side : Side) (name : List ℕ) (y : ℕ) → exported_index space (module_of pair side) name ≡ Some y
        → y < size space (module_of pair side)
    exported Left name y is = exported_there pair.left left space name y is
    exported Right name y is = exported_there pair.right right space name y is
