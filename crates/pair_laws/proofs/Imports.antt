-- Imports by their kinds: those of a linked module, and those of a side.
use Rattle.std.proofs.Common.{◌≡◌, ℕ, zero, suc, List, [], ◌∷◌, length, map, filter, Option, Some, None, Bool, true, false, cond, not, is_some, slice_get, refl, sym, ap, ◌∙◌}
use Rattle.std.specs.List.{cons_option}
use Rattle.wasm_syntax.specs.declared.signatures.GlobalType.{GlobalType}
use Rattle.wasm_syntax.specs.declared.modules.Import.{Import}
use Rattle.wasm_syntax.specs.declared.modules.ImportKind.{ImportKind}
use Rattle.wasm_syntax.specs.declared.modules.ImportKind.TheVariants as import
use Rattle.wasm_syntax.specs.Index.{of_kind, func_import, table_import, memory_import, global_import}
use Rattle.instance_spec.specs.declared.sides.Side.{Side}
use Rattle.instance_spec.specs.Instances.{Instance}
use Rattle.pair_spec.specs.Pairs.{is_from_other, host_imports, Space, Funcs, Tables, Memories, Globals, is_in}
use Rattle.pair_spec.specs.Linked.{linked_import, linked_import_kind}
use Rattle.pair_laws.proofs.Lists.{of_choice}

-- ---- linked imports

module _ (i : Instance) where
  pub funcs_linked : (imports : List Import)
      → of_kind func_import (map (linked_import i) imports) ≡ map (i.types) (of_kind func_import imports)
  funcs_linked [] = refl
  funcs_linked (first ∷ imports) = by first.kind (funcs_linked imports)
    where
      by : (kind : ImportKind)
          → of_kind func_import (map (linked_import i) imports) ≡ map (i.types) (of_kind func_import imports)
          → of_kind func_import (map (linked_import i) (record first { kind = kind } ∷ imports))
          ≡ map (i.types) (of_kind func_import (record first { kind = kind } ∷ imports))
      by (import.Func ty) e = ap (λ types. i.types ty ∷ types) e
      by (import.Table limits) e = e
      by (import.Memory limits) e = e
      by (import.Global ty) e = e

  -- what is no function stays as it is
  kind_kept : {K : Type 0} (pick : ImportKind → Option K) → ((ty : ℕ) → pick (import.Func ty) ≡ None)
      → (kind : ImportKind) → pick (linked_import_kind i kind) ≡ pick kind
  kind_kept pick none (import.Func ty) = none (i.types ty) ∙ sym (none ty)
  kind_kept pick none (import.Table limits) = refl
  kind_kept pick none (import.Memory limits) = refl
  kind_kept pick none (import.Global ty) = refl

  kept : {K : Type 0} (pick : ImportKind → Option K) → ((ty : ℕ) → pick (import.Func ty) ≡ None)
      → (imports : List Import) → of_kind pick (map (linked_import i) imports) ≡ of_kind pick imports
  kept pick none [] = refl
  kept pick none (first ∷ imports) =
      (λ j. cons_option (kind_kept pick none first.kind j) (kept pick none imports j))

  pub memories_kept : (imports : List Import)
      → of_kind memory_import (map (linked_import i) imports) ≡ of_kind memory_import imports
  memories_kept = kept memory_import (λ ty. refl)

  pub tables_kept : (imports : List Import)
      → of_kind table_import (map (linked_import i) imports) ≡ of_kind table_import imports
  tables_kept = kept table_import (λ ty. refl)

  pub globals_kept : (imports : List Import)
      → of_kind global_import (map (linked_import i) imports) ≡ of_kind global_import imports
  globals_kept = kept global_import (λ ty. refl)

-- ---- how many of the host's imports have their indices in a space

counted_one : {K : Type 0} (o : Option K) (b : Bool) (first : Import) (kinds : List K) (imports : List Import)
    → length kinds ≡ length imports
    → length (cond b (cons_option o kinds) kinds) ≡ length (cond (is_some o) (cond b (first ∷ imports) imports) imports)
counted_one None true first kinds imports e = e
counted_one None false first kinds imports e = e
counted_one (Some k) true first kinds imports e = ap suc e
counted_one (Some k) false first kinds imports e = e

-- what a kind picks is what has its index in a space
abbrev pub IsKindOf : {K : Type 0} → (ImportKind → Option K) → Space → Type 0
IsKindOf pick space = (kind : ImportKind) → is_in space kind ≡ is_some (pick kind)

pub is_func : IsKindOf func_import Funcs
is_func (import.Func ty) = refl
is_func (import.Table limits) = refl
is_func (import.Memory limits) = refl
is_func (import.Global ty) = refl

pub is_global : IsKindOf global_import Globals
is_global (import.Func ty) = refl
is_global (import.Table limits) = refl
is_global (import.Memory limits) = refl
is_global (import.Global ty) = refl

pub is_table : IsKindOf table_import Tables
is_table (import.Func ty) = refl
is_table (import.Table limits) = refl
is_table (import.Memory limits) = refl
is_table (import.Global ty) = refl

pub is_memory : IsKindOf memory_import Memories
is_memory (import.Func ty) = refl
is_memory (import.Table limits) = refl
is_memory (import.Memory limits) = refl
is_memory (import.Global ty) = refl

pub hosts_counted : {K : Type 0} (pick : ImportKind → Option K) (space : Space) → IsKindOf pick space → (side : Side)
    (imports : List Import)
    → length (of_kind pick (host_imports side imports)) ≡ length (host_imports side (filter (λ i. is_in space i.kind) imports))
hosts_counted pick space same side [] = refl
hosts_counted pick space same side (first ∷ imports) =
    let b = not (is_from_other side first) in
    let hosts = host_imports side imports in
    let others = filter (λ (i : Import). is_in space i.kind) imports in
    let own = host_imports side others in
    ap length (of_choice (of_kind pick) b (first ∷ hosts) hosts)
    ∙ counted_one (pick first.kind) b first (of_kind pick hosts) own (hosts_counted pick space same side imports)
    ∙ ap (λ c. length (cond c (cond b (first ∷ own) own) own)) (sym (same first.kind))
    ∙ sym (ap length (of_choice (host_imports side) (is_in space first.kind) (first ∷ others) others))

-- ---- imports of globals

abbrev globals_among : List Import → List Import
globals_among imports = filter (λ i. is_in Globals i.kind) imports

-- the import of a global, by its index
pub record IsGlobalImport (imports : List Import) (x : ℕ) (ty : GlobalType) : Type 0 where
  pub imported : Import
  pub there : slice_get (filter (λ i. is_in Globals i.kind) imports) x ≡ Some imported
  pub kind_is : imported.kind ≡ import.Global ty

pub global_at : (imports : List Import) (x : ℕ) (ty : GlobalType) → slice_get (of_kind global_import imports) x ≡ Some ty
    → IsGlobalImport imports x ty
global_at [] x ty h = cc
global_at (first ∷ imports) x ty h = by first.kind refl x h (λ y h. global_at imports y ty h)
  where
    on_by : (kind : ImportKind) → first.kind ≡ kind → is_in Globals kind ≡ false → (x : ℕ) → IsGlobalImport imports x ty
        → IsGlobalImport (first ∷ imports) x ty
    on_by kind e other x own = record {
      imported = own.imported;
      there = ap (λ b. slice_get (cond b (first ∷ globals_among imports) (globals_among imports)) x) (ap (is_in Globals) e ∙ other) ∙ own.there;
      kind_is = own.kind_is;
    }

    by : (kind : ImportKind) → first.kind ≡ kind → (x : ℕ)
        → slice_get (cons_option (global_import kind) (of_kind global_import imports)) x ≡ Some ty
        → ((y : ℕ) → slice_get (of_kind global_import imports) y ≡ Some ty → IsGlobalImport imports y ty)
        → IsGlobalImport (first ∷ imports) x ty
    by (import.Func t) e x h later = on_by (import.Func t) e refl x (later x h)
    by (import.Table limits) e x h later = on_by (import.Table limits) e refl x (later x h)
    by (import.Memory limits) e x h later = on_by (import.Memory limits) e refl x (later x h)
    by (import.Global t) e zero h later =
        let same : t ≡ ty = cc in
        record {
          imported = first;
          there = ap (λ kind. slice_get (cond (is_in Globals kind) (first ∷ globals_among imports) (globals_among imports)) 0) e;
          kind_is = e ∙ ap import.Global same;
        }
    by (import.Global t) e (suc x) h later =
        let own = later x h in
        record {
          imported = own.imported;
          there = ap (λ kind. slice_get (cond (is_in Globals kind) (first ∷ globals_among imports) (globals_among imports)) (suc x)) e ∙ own.there;
          kind_is = own.kind_is;
        }
