-- Memories under accesses, writes and growth.
use Rattle.std.proofs.Common.{◌≡◌, ℕ, suc, zero, ◌+◌, ◌-◌, ◌*◌, ◌/◌, ◌%◌, ◌^◌, ◌<◌, ◌≤◌, List, [], ◌∷◌, ◌++◌, length, Option, Some, None, Bool, true, false, ◌&&◌, cond, slice_get, refl, sym, subst, arith}
use Rattle.std.specs.Prelude.{nat_le, is_some, take, drop, IsTrue, All}
use Rattle.std.specs.List.{list_all}
use Rattle.std.proofs.Math.Nat.{mod-lt, pow-suc}
use Rattle.std.proofs.lemmas.Bool.{leb-true}
use Rattle.std.proofs.lemmas.List.{length-append, length-take, length-drop, length-replicate}
use Rattle.std.proofs.lemmas.List.Elements.{All-head, All-tail, All-cons, All-nil, All-append, All-take, All-drop, All-replicate}
use Rattle.std.proofs.lemmas.Option.{cond_some}
use Rattle.base.proofs.Lists.{item_passes}
use Rattle.base.proofs.Booleans.{and_parts}
use Rattle.wasm_syntax.specs.declared.limits.TheConstants.{MAX_PAGES, PAGE_SIZE}
use Rattle.host_script.specs.Supply.{is_within}
use Rattle.wasm_syntax.specs.declared.values.ValType.{ValType}
use Rattle.wasm_syntax.specs.declared.values.ValType.TheVariants.{I32, I64, F32, F64, FuncRef}
use Rattle.wasm_syntax.specs.declared.signatures.Limits.{Limits}
use Rattle.wasm_syntax.specs.declared.modules.Module.{Module}
use Rattle.wasm_syntax.specs.Index.{all_memories}
use Rattle.wasm_syntax.specs.Opcodes.{is_from, Access, load_table, load_of}
use Rattle.wasm_syntax.specs.Typing.{is_number, bits_of}
use Rattle.wasm_numeric.specs.Integer.{signed}
use Rattle.wasm_numeric.proofs.ValuesFit.{modulo_fits}
use Rattle.history_spec.specs.Store.{Store, Memory, pages, zeros, grown_memory_if, grown_memory, bytes_at, with_items_at, with_bytes_at, with_memory, number_of, bytes_of}
use Rattle.history_spec.specs.Numeric.{extend_if, loaded_number}
use Rattle.type_safety.specs.Values.{count_of}
use Rattle.type_safety.specs.Stores.{IsMemory, MayBeMemory, IsStore}

abbrev pub AreBytes : List ℕ → Type 0
AreBytes bytes = All (λ byte. byte < 256) bytes

-- ---- a memory that exists

-- the memory exists, and it may be changed to another that is well typed if the first is
pub record MemoryThere (limits : List Limits) (o : Option Memory) : Type 0 where
  pub memory : Memory
  pub is : o ≡ Some memory
  pub own : Limits
  pub good : IsMemory own memory
  pub change : (new : Memory) → ((l : Limits) → IsMemory l memory → IsMemory l new) → MayBeMemory limits (Some new)

pub memory_there : (limits : List Limits) (o : Option Memory) → is_some (slice_get limits 0) ≡ true
    → MayBeMemory limits o → MemoryThere limits o
memory_there [] o there may = cc
memory_there (l ∷ more) None there may = absurd may
memory_there (l ∷ more) (Some memory) there may =
    record { memory = memory; is = refl; own = l; good = may; change = λ new to. to l may }

-- ---- what loads read

number_of_fits : (bytes : List ℕ) → AreBytes bytes → number_of bytes < 256 ^ length bytes
number_of_fits [] all = omega arith
number_of_fits (b ∷ bs) all =
    let first : b < 256 = All-head (λ byte. byte < 256) b bs all in
    let later : number_of bs < 256 ^ length bs = number_of_fits bs (All-tail (λ byte. byte < 256) b bs all) in
    omega (arith, pow-suc 256 (length bs))

-- a load's number is within the width of its type, and a store's bits are those of a number
abbrev is_narrow : Access → Bool
is_narrow access = is_number access.ty && nat_le (256 ^ access.width) (2 ^ bits_of access.ty)

loads_narrow : list_all is_narrow load_table ≡ true
loads_narrow = refl

-- a value of a number type is below the power of two of its bits
pub number_count : (n : ℕ) (t : ValType) → is_number t ≡ true → count_of n t ≡ 2 ^ bits_of t
number_count n I32 h = refl
number_count n I64 h = refl
number_count n F32 h = refl
number_count n F64 h = refl
number_count n FuncRef h = cc

extended_fits : (b : Bool) (to from number most : ℕ) → number < most → most ≤ 2 ^ to
    → extend_if b to from number < 2 ^ to
extended_fits false to from number most below within = omega arith
extended_fits true to from number most below within = modulo_fits to (signed from number)

pub load_is_narrow : (op : ℕ) (access : Access) → load_of op ≡ Some access → is_narrow access ≡ true
load_is_narrow op access is = by (is_from 0x28 0x35 op) is
  where
    by : (b : Bool) → cond b (slice_get load_table (op - 0x28)) None ≡ Some access → is_narrow access ≡ true
    by true e = item_passes is_narrow load_table (op - 0x28) access loads_narrow e
    by false e = cc

pub load_fits : (n : ℕ) (access : Access) (bytes : List ℕ) → is_narrow access ≡ true → AreBytes bytes
    → length bytes ≡ access.width
    → loaded_number access (number_of bytes) < count_of n access.ty
load_fits n access bytes narrow all count =
    let p = and_parts (is_number access.ty) (nat_le (256 ^ access.width) (2 ^ bits_of access.ty)) narrow in
    let within : 256 ^ access.width ≤ 2 ^ bits_of access.ty =
    leb-true (256 ^ access.width) (2 ^ bits_of access.ty) p.1 in
    let number : number_of bytes < 256 ^ access.width =
    subst (λ k. number_of bytes < 256 ^ k) count (number_of_fits bytes all) in
    subst (λ c. loaded_number access (number_of bytes) < c) (sym (number_count n access.ty p.0))
    (extended_fits access.signed (bits_of access.ty) (8 * access.width) (number_of bytes) (256 ^ access.width) number
    within)

pub bytes_at_fits : (bytes : List ℕ) (address count : ℕ) (read : List ℕ) → AreBytes bytes
    → bytes_at bytes address count ≡ Some read → AreBytes read × (length read ≡ count)
bytes_at_fits bytes address count read all is =
    let p = cond_some (nat_le (address + count) (length bytes)) (take count (drop address bytes)) read is in
    let within : address + count ≤ length bytes = leb-true (address + count) (length bytes) p.0 in
    let size : length (take count (drop address bytes)) ≡ count =
    omega (arith, length-take count (drop address bytes), length-drop address bytes) in (
      subst AreBytes p.1
          (All-take (λ byte. byte < 256) count (drop address bytes) (All-drop (λ byte. byte < 256) address bytes all)),
      subst (λ l. length l ≡ count) p.1 size,
    )

-- ---- what stores write

pub bytes_of_fit : (count number : ℕ) → AreBytes (bytes_of count number)
bytes_of_fit zero number = All-nil (λ byte. byte < 256)
bytes_of_fit (suc count) number =
    All-cons (λ byte. byte < 256) (number % 256) (bytes_of count (number / 256)) (mod-lt number (omega arith))
    (bytes_of_fit count (number / 256))

written_fits : (bytes : List ℕ) (address : ℕ) (news new : List ℕ) → AreBytes bytes → AreBytes news
    → with_bytes_at bytes address news ≡ Some new → AreBytes new × (length new ≡ length bytes)
written_fits bytes address news new all more is =
    let p = cond_some (nat_le (address + length news) (length bytes)) (with_items_at bytes address news) new is in
    let within : address + length news ≤ length bytes = leb-true (address + length news) (length bytes) p.0 in
    let size : length (with_items_at bytes address news) ≡ length bytes =
    omega (
      arith,
      length-append (take address bytes) (news ++ drop (address + length news) bytes),
      length-append
          news (drop (address + length news) bytes),
      length-take address bytes,
      length-drop (address + length news)
          bytes,
    ) in
    let each = All-append (λ byte. byte < 256) (take address bytes) (news ++ drop (address + length news) bytes)
    (All-take (λ byte. byte < 256) address bytes all)
    (All-append (λ byte. byte < 256) news (drop (address + length news) bytes) more
    (All-drop (λ byte. byte < 256) (address + length news) bytes all)) in
    (subst AreBytes p.1 each, subst (λ l. length l ≡ length bytes) p.1 size)

pub memory_written : (limits : Limits) (memory : Memory) (new : List ℕ) → IsMemory limits memory → AreBytes new
    → length new ≡ length memory.bytes → IsMemory limits (record memory { bytes = new })
memory_written limits memory new good all size = record {
  bytes = all;
  whole = subst (λ k. k ≡ k / PAGE_SIZE * PAGE_SIZE) (sym size) good.whole;
  least = subst (λ k. limits.min ≤ k / PAGE_SIZE) (sym size) good.least;
  within = subst (λ k. IsTrue (is_within (k / PAGE_SIZE) memory.max)) (sym size) good.within;
  most = subst (λ k. k / PAGE_SIZE ≤ MAX_PAGES) (sym size) good.most;
}

-- a store with bytes written in its memory is well typed
pub store_written : (m : Module) (store : Store) → IsStore m store
    → (there : MemoryThere (all_memories m) store.memory) (to : ℕ) (news new : List ℕ) → AreBytes news
    → with_bytes_at there.memory.bytes to news ≡ Some new
    → IsStore m (with_memory store (record there.memory { bytes = new }))
store_written m store is_store there to news new fit is =
    let f = written_fits there.memory.bytes to news new there.good.bytes fit is in
    record {
      memory =
          there.change (record there.memory { bytes = new })
          (λ l good. memory_written l there.memory new good f.0 f.1);
      table = is_store.table;
      globals = is_store.globals;
    }

-- ---- growth

pub memory_grown : (limits : Limits) (memory : Memory) (by : ℕ) (new : Memory) → IsMemory limits memory
    → grown_memory memory by ≡ Some new → IsMemory limits new
memory_grown limits memory by new good is =
    from (is_within (pages memory + by) memory.max && nat_le (pages memory + by) MAX_PAGES) refl is
  where
    larger : Memory
    larger = record memory { bytes = memory.bytes ++ zeros (by * PAGE_SIZE) }

    size : length (memory.bytes ++ zeros (by * PAGE_SIZE)) ≡ (pages memory + by) * PAGE_SIZE
    size = omega (
      arith,
      length-append memory.bytes (zeros (by * PAGE_SIZE)),
      length-replicate {A = ℕ} (by * PAGE_SIZE) 0,
      good.whole,
    )

    from : (b : Bool) → (is_within (pages memory + by) memory.max && nat_le (pages memory + by) MAX_PAGES) ≡ b
        → grown_memory_if b memory by ≡ Some new → IsMemory limits new
    from true e made =
        let tests = and_parts (is_within (pages memory + by) memory.max) (nat_le (pages memory + by) MAX_PAGES) e in
        let now : pages memory + by ≡ length (memory.bytes ++ zeros (by * PAGE_SIZE)) / PAGE_SIZE =
        omega (arith, size) in
        let within : pages memory + by ≤ MAX_PAGES = leb-true (pages memory + by) MAX_PAGES tests.1 in
        let it : larger ≡ new = cc in
        subst (λ new'. IsMemory limits new') it (record {
          bytes = All-append (λ byte. byte < 256) memory.bytes (zeros (by * PAGE_SIZE)) good.bytes
              (All-replicate (λ byte. byte < 256) (by * PAGE_SIZE) 0 (omega arith));
          whole = subst (λ k. length (memory.bytes ++ zeros (by * PAGE_SIZE)) ≡ k * PAGE_SIZE) now size;
          least = subst (λ k. limits.min ≤ k) now (omega (arith, good.least));
          within = subst (λ k. IsTrue (is_within k memory.max)) now tests.0;
          most = subst (λ k. k ≤ MAX_PAGES) now within;
        })
    from false e made = cc
