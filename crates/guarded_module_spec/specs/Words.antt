-- The words of a run: the numbers of 64 bits that a guarded module compares, one after the other.
use Rattle.std.specs.Prelude.{ℕ, zero, suc, ◌+◌, ◌-◌, ◌*◌, ◌/◌, ◌%◌, ◌^◌, List, [], ◌∷◌, ◌++◌, length, map, flat_map, take, drop, Option, Some, None}
use Rattle.wasm_syntax.specs.declared.values.Val.{Val}
use Rattle.wasm_numeric.specs.Integer.{bit, number_of_bits, rotl_by}
use Rattle.base.specs.declared.outcomes.Outcome.{Outcome}
use Rattle.base.specs.declared.outcomes.Outcome.TheVariants.{Ended}
use Rattle.history_spec.specs.declared.entries.Entry.{Entry}
use Rattle.history_spec.specs.declared.entries.Entry.TheVariants.{HostReturn, ImportCall}
use Rattle.history_spec.specs.Store.{Memory, pages, number_of}
use Rattle.guarded_module_spec.specs.declared.words.TheConstants.{DIGEST_FACTOR, DIGEST_ROTATION}

-- ---- entries

-- the bits of values
abbrev pub bits_of : List Val → List ℕ
bits_of values = map (λ (value : Val). value.bits) values

-- the words of an entry: of a call of an import, its number and its arguments; of the return of a call by the host,
-- the number of the function and its results
abbrev pub entry_words : Entry → List ℕ
entry_words (ImportCall import args) = import ∷ bits_of args
entry_words (HostReturn func results) = func ∷ bits_of results
entry_words entry = []

-- the words of a history
abbrev pub words_of : List Entry → List ℕ
words_of history = flat_map entry_words history

-- ---- the memory at the end

-- a digest with one word more: both are compared bit by bit, rotated, and multiplied; if one of both is kept, each of
-- the three is one to one in the other
abbrev pub digest_with : (word digest : ℕ) → ℕ
digest_with word digest =
    rotl_by 64 (number_of_bits 64 (λ i. (bit word i + bit digest i) % 2)) DIGEST_ROTATION * DIGEST_FACTOR % 2 ^ 64

-- the digest of a number of words of eight bytes each, which takes the last word first
abbrev pub digest_of : (words : ℕ) → List ℕ → ℕ
digest_of zero bytes = 0
digest_of (suc words) bytes = digest_with (number_of (take 8 bytes)) (digest_of words (drop 8 bytes))

-- the words of a memory: its size in pages, and the digest of its bytes
abbrev pub memory_words : Option Memory → List ℕ
memory_words None = []
memory_words (Some memory) = pages memory ∷ digest_of (length memory.bytes / 8) memory.bytes ∷ []

-- ---- the end

-- the word at the end of a run that ends, which is not the number of a function
abbrev pub end_word : ℕ
end_word = 2 ^ 64 - 1

-- the words at the end of a run, which leaves this memory; after a trap no function compares words
abbrev pub end_words : Outcome → Option Memory → List ℕ
end_words Ended memory = memory_words memory ++ end_word ∷ []
end_words outcome memory = []

-- the words of a history, its outcome, and the memory that the run leaves
abbrev pub checks_of : List Entry → Outcome → Option Memory → List ℕ
checks_of history outcome memory = words_of history ++ end_words outcome memory
