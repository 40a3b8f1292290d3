-- Stores of several widths, one after the other, write a run of bytes.
use Rattle.std.proofs.Common.{◌≡◌, ℕ, ◌+◌, ◌≤◌, List, [], ◌∷◌, ◌++◌, length, take, drop, Some, refl, sym, ap, ◌∙◌, subst, arith, length-take-le}
use Rattle.std.proofs.lemmas.List.{length-drop, take-append-drop}
use Rattle.history_spec.specs.Store.{Store, Memory, with_memory, number_of}
use Rattle.replay_module_spec.specs.Effects.{Width, byte_count, store_code, stores_code}
use Rattle.replay_module_spec.proofs.Widths.{counts_of}
use Rattle.generated_code_laws.specs.Leads.{Watched, IsOutside, Standing}
use Rattle.generated_code_laws.specs.Bytes.{AreBytes}
use Rattle.generated_code_laws.proofs.Bytes.{first_bytes, last_bytes}
use Rattle.generated_code_laws.proofs.Does.{Does, does_nothing, does_both}
use Rattle.generated_code_laws.proofs.WrittenItems.{written_length, written_twice, written_nothing}
use Rattle.generated_code_laws.proofs.StoredBytes.{memory_with_bytes, store_items, stores_items, stores_bytes}

-- bytes for stores of these widths: as many as the first writes, and the others
pub record AreSplit (width : Width) (widths : List Width) (bytes : List ℕ) : Type 0 where
  pub enough : byte_count width ≤ length bytes
  pub size : length (take (byte_count width) bytes) ≡ byte_count width
  pub left : length (drop (byte_count width) bytes) ≡ counts_of widths
  pub parts : take (byte_count width) bytes ++ drop (byte_count width) bytes ≡ bytes

pub split : (width : Width) (widths : List Width) (bytes : List ℕ) → length bytes ≡ counts_of (width ∷ widths)
    → AreSplit width widths bytes
split width widths bytes long =
    let sum : counts_of (width ∷ widths) ≡ byte_count width + counts_of widths = refl in
    let enough : byte_count width ≤ length bytes = omega (arith, long, sum) in
    record {
      enough = enough;
      size = length-take-le (byte_count width) bytes enough;
      left = (let l = length-drop (byte_count width) bytes in omega (arith, l, long, sum));
      parts = take-append-drop (byte_count width) bytes;
    }

module _ (w : Watched) (s : Standing) (outside : IsOutside w.layout s.frame.func) where
  pub stores_run : (store : Store) (memory : Memory) (widths : List Width) (address : ℕ) (bytes : List ℕ)
      → store.memory ≡ Some memory → length bytes ≡ counts_of widths → AreBytes bytes
      → address + length bytes ≤ length memory.bytes
      → Does w s store (with_memory store (memory_with_bytes memory address bytes)) [] []
      (stores_code widths address bytes) (stores_items widths address bytes)
  stores_run store memory [] address [] is long are within =
      let same : with_memory store (memory_with_bytes memory address []) ≡ store =
      ap (λ own. with_memory store (record memory { bytes = own })) (written_nothing memory.bytes address)
      ∙ ap (λ o. record store { memory = o }) (sym is) in
      subst (λ after. Does w s store after [] [] [] []) (sym same) (does_nothing w s store [])
  stores_run store memory [] address (byte ∷ bytes) is long are within = absurd (omega (arith, long))
  stores_run store memory (width ∷ widths) address bytes is long are within =
      let count = byte_count width in
      let first = take count bytes in
      let more = drop count bytes in
      let are_split = split width widths bytes long in
      let size = are_split.size in
      let enough = are_split.enough in
      let fits : address + length first ≤ length memory.bytes = omega (arith, size, enough, within) in
      let memory' = memory_with_bytes memory address first in
      let kept : length memory'.bytes ≡ length memory.bytes = written_length memory.bytes first address fits in
      let later : address + count + length more ≤ length memory'.bytes =
      (let l = length-drop count bytes in omega (arith, l, kept, within, enough)) in
      let twice : memory_with_bytes memory' (address + count) more ≡ memory_with_bytes memory address bytes =
      ap (λ n. memory_with_bytes memory' (address + n) more) (sym size)
      ∙ ap (λ own. record memory { bytes = own }) (written_twice memory.bytes first more address fits)
      ∙ ap (memory_with_bytes memory address) are_split.parts in
      subst (λ m. Does w s store (with_memory store m) [] [] (stores_code (width ∷ widths) address bytes)
      (stores_items (width ∷ widths) address bytes)) twice
      (does_both w s store (with_memory store memory')
      (with_memory store (memory_with_bytes memory' (address + count) more)) [] [] []
      (store_code width address (number_of first)) (stores_code widths (address + count) more)
      (store_items address first) (stores_items widths (address + count) more)
      (stores_bytes w s outside store memory width address first is size (first_bytes count bytes are) fits)
      (stores_run (with_memory store memory') memory' widths (address + count) more refl are_split.left
      (last_bytes count bytes are) later))
