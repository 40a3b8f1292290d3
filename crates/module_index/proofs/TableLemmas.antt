-- The tables of opcodes are those of the definitions.
use Rattle.std.proofs.Common.{◌≡◌, ℕ, ◌-◌, ◌<◌, ◌≤◌, map, Option, Some, None, cond, refl, sym, ap, ◌∙◌, arith, zero-add}
use Rattle.std.specs.Prelude.{slice_get, option_map, nat_le}
use Rattle.std.proofs.lemmas.List.FromFn.{get_or-range_with_len, length-range_with_len}
use Rattle.std.specs.List.{range_with_len}
use Rattle.std.proofs.lemmas.Bool.{le-leb}
use Rattle.std.proofs.lemmas.Option.{slice_get-map, slice_get-get_or}
use Rattle.base.specs.declared.opcodes.TheConstants.{I32_EQZ, I32_LOAD}
use Rattle.wasm_syntax.specs.Opcodes.{Shape, numeric_shape, load_of}
use Rattle.module_index.specs.declared.opcodes.TheConstants.{NUMERIC, LOADS}
use Rattle.module_index.specs.Tables.{Reach, shape_of, reach_of, reach_of_transfer}

some-same : {A : Type 0} {x y : A} → Some x ≡ Some y → x ≡ y
some-same h = cc

value-at : {A : Type 0} (f : ℕ → A) (n op : ℕ) → op < n → slice_get (map f (range_with_len 0 n)) op ≡ Some (f op)
value-at f n op h =
    slice_get-map f (range_with_len 0 n) op
    ∙ ap (option_map f) (slice_get-get_or (range_with_len 0 n) op 0 (omega (arith, length-range_with_len 0 n)))
    ∙ ap (λ k. Some (f k)) (get_or-range_with_len 0 n op 0 h ∙ zero-add op)

-- functions that agree on the numbers below a limit, as lists
same-below : {A : Type 0} (f g : ℕ → A) (n op : ℕ) → map f (range_with_len 0 n) ≡ map g (range_with_len 0 n) → op < n
    → f op ≡ g op
same-below f g n op h lt = some-same (sym (value-at f n op lt) ∙ ap (λ xs. slice_get xs op) h ∙ value-at g n op lt)

numeric-by_table : ℕ → Option Shape
numeric-by_table op = cond (nat_le I32_EQZ op) (option_map shape_of (slice_get NUMERIC (op - I32_EQZ))) None

numeric-table : map numeric-by_table (range_with_len 0 256) ≡ map numeric_shape (range_with_len 0 256)
unfolding numeric-by_table
numeric-table = refl

numeric-first : (op : ℕ) → I32_EQZ ≤ op → option_map shape_of (slice_get NUMERIC (op - I32_EQZ)) ≡ numeric-by_table op
unfolding numeric-by_table
numeric-first op low = ap (λ b. cond b (option_map shape_of (slice_get NUMERIC (op - I32_EQZ))) None) (sym (le-leb I32_EQZ op low))

pub numeric-entry : (op : ℕ) → I32_EQZ ≤ op → op < 256
    → option_map shape_of (slice_get NUMERIC (op - I32_EQZ)) ≡ numeric_shape op
numeric-entry op low high = numeric-first op low ∙ same-below numeric-by_table numeric_shape 256 op numeric-table high

load-by_table : ℕ → Option Reach
load-by_table op = cond (nat_le I32_LOAD op) (option_map reach_of_transfer (slice_get LOADS (op - I32_LOAD))) None

load-defined : ℕ → Option Reach
load-defined op = option_map reach_of (load_of op)

load-table : map load-by_table (range_with_len 0 256) ≡ map load-defined (range_with_len 0 256)
unfolding load-by_table load-defined
load-table = refl

load-first : (op : ℕ) → I32_LOAD ≤ op
    → option_map reach_of_transfer (slice_get LOADS (op - I32_LOAD)) ≡ load-by_table op
unfolding load-by_table
load-first op low = ap (λ b. cond b (option_map reach_of_transfer (slice_get LOADS (op - I32_LOAD))) None) (sym (le-leb I32_LOAD op low))

pub load-entry : (op : ℕ) → I32_LOAD ≤ op → op < 256
    → option_map reach_of_transfer (slice_get LOADS (op - I32_LOAD)) ≡ option_map reach_of (load_of op)
unfolding load-defined
load-entry op low high = load-first op low ∙ same-below load-by_table load-defined 256 op load-table high
