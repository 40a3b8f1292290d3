-- The functions that a guarded module has of its own: the exported one, that of the digest, that which compares a word,
-- and those which give the words.
use Rattle.std.specs.Prelude.{ℕ, zero, suc, ◌*◌, List, [], ◌∷◌, ◌++◌, length, map, take, drop, None}
use Rattle.std.specs.List.{range_with_len}
use Rattle.base.specs.declared.opcodes.TheConstants.{I32_ADD, I32_SUB, I32_SHL, I32_REM_U, I64_NE, I64_XOR, I64_ROTL, I64_MUL, I64_LOAD, I64_EXTEND_I32_U}
use Rattle.wasm_syntax.specs.declared.values.ValType.TheVariants.{I32, I64}
use Rattle.wasm_syntax.specs.declared.instructions.Instr.{Instr}
use Rattle.wasm_syntax.specs.declared.instructions.Instr.TheVariants.{Unreachable, BrIf, Return, Call, LocalGet, LocalSet, LocalTee, GlobalGet, GlobalSet, Load, MemorySize, Numeric}
use Rattle.wasm_syntax.specs.declared.modules.Func.{Func}
use Rattle.wasm_syntax.specs.declared.modules.Run.{Run}
use Rattle.wasm_syntax.specs.Nest.{Nest, Empty, Plain, InIf, InLoop}
use Rattle.replay_module_spec.specs.declared.groups.TheConstants.{GROUP_CALLS}
use Rattle.replay_module_spec.specs.Effects.{i32_const}
use Rattle.replay_module_spec.specs.Dispatch.{sequence, dispatch, body_of}
use Rattle.replay_module_spec.specs.Functions.{group_count, import_nest, one_i32}
use Rattle.guarded_module_spec.specs.declared.words.TheConstants.{DIGEST_FACTOR, DIGEST_ROTATION}
use Rattle.guarded_module_spec.specs.Words.{end_word}
use Rattle.guarded_module_spec.specs.declared.numbers.Numbers.{Numbers}
use Rattle.guarded_module_spec.specs.Numbers.{digest_place, check_place, next_place, first_group, start_type_place, check_type_place, word_type_place, group_type_place, begun, passed}
use Rattle.guarded_module_spec.specs.Fronts.{i64_const, check_number, one_local}

-- ---- the exported function

-- code that compares the size of the memory and its digest, if there is a memory
abbrev pub check_memory : (digests : ℕ) → Numbers → List Instr
check_memory zero n = []
check_memory (suc more) n =
    MemorySize ∷ Numeric I64_EXTEND_I32_U ∷ Call (check_place n) ∷ Call (digest_place n) ∷ Call (check_place n) ∷ []

-- the code of the exported function: it calls the function that the replay module exports, and compares the words at
-- the end
abbrev pub start_code : Numbers → (entry : ℕ) → List Instr
start_code n entry = Call entry ∷ (check_memory n.digests n ++ check_number n end_word)

-- the exported function
abbrev pub start_func : Numbers → (entry : ℕ) → Func
start_func n entry =
    record { ty = start_type_place n; locals = []; body = body_of (sequence (start_code n entry) Empty) }

-- ---- the digest

-- code that begins with the number of the memory's bytes, which is kept in the first local
abbrev pub digest_begin : List Instr
digest_begin = MemorySize ∷ i32_const 16 ∷ Numeric I32_SHL ∷ LocalTee 0 ∷ []

-- code that takes the eight bytes before the address in the first local into the digest in the second
abbrev pub digest_turn : List Instr
digest_turn =
    LocalGet 0 ∷ i32_const 8 ∷ Numeric I32_SUB ∷ LocalTee 0 ∷ Load (record { op = I64_LOAD; align = 3; offset = 0 })
    ∷ LocalGet 1 ∷ Numeric I64_XOR ∷ i64_const DIGEST_ROTATION ∷ Numeric I64_ROTL
    ∷ i64_const DIGEST_FACTOR ∷ Numeric I64_MUL ∷ LocalSet 1 ∷ []

-- the locals: an address, and a digest
abbrev pub digest_locals : List Run
digest_locals = one_local I32 ∷ one_local I64 ∷ []

-- a loop from the last eight bytes of the memory to its first
abbrev pub digest_loop : Nest
digest_loop = InLoop None (sequence (digest_turn ++ LocalGet 0 ∷ BrIf 0 ∷ []) Empty) Empty

-- the loop, if the memory has a page, and then the digest
abbrev pub digest_nest : Nest
digest_nest = sequence digest_begin (InIf None digest_loop (Plain (LocalGet 1) Empty))

-- gives the digest of the memory
abbrev pub digest_func : Numbers → Func
digest_func n = record { ty = word_type_place n; locals = digest_locals; body = body_of digest_nest }

-- the function of the digest, if there is a memory
abbrev pub digest_funcs : (digests : ℕ) → Numbers → List Func
digest_funcs zero n = []
digest_funcs (suc more) n = digest_func n ∷ []

-- ---- words

-- compares the word in the local with the next of the given words; a check that is passed is counted
abbrev pub check_nest : Numbers → Nest
check_nest n =
    sequence (LocalGet 0 ∷ Call (next_place n) ∷ Numeric I64_NE ∷ [])
    (InIf None (sequence (Unreachable ∷ []) Empty)
    (sequence (GlobalGet (passed n) ∷ i32_const 1 ∷ Numeric I32_ADD ∷ GlobalSet (passed n) ∷ []) Empty))

-- takes a word and compares it
abbrev pub check_func : Numbers → Func
check_func n = record { ty = check_type_place n; locals = []; body = body_of (check_nest n) }

-- gives the next of the given words, as the function in an import's place finds what a call does; traps after the last
abbrev pub next_func : Numbers → (count : ℕ) → Func
next_func n count =
    record {
      ty = word_type_place n;
      locals = one_i32 ∷ [];
      body = body_of (import_nest (begun n) 0 (first_group n) (group_count count));
    }

-- the arm of a word
abbrev pub word_arm : ℕ → List Instr
word_arm word = i64_const word ∷ Return ∷ []

-- the words of a group, of which the local selects one
abbrev pub group_nest : List ℕ → Nest
group_nest words = dispatch (LocalGet 0 ∷ i32_const GROUP_CALLS ∷ Numeric I32_REM_U ∷ []) (map word_arm words)

-- the function of a group of words, which takes the number of a word
abbrev pub group_func : Numbers → List ℕ → Func
group_func n words = record { ty = group_type_place n; locals = []; body = body_of (group_nest words) }

-- the functions of all groups
abbrev pub group_funcs : Numbers → List ℕ → List Func
group_funcs n words =
    map (λ number. group_func n (take GROUP_CALLS (drop (GROUP_CALLS * number) words)))
    (range_with_len 0 (group_count (length words)))
