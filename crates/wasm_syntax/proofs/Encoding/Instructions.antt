-- What holds of the encodings of instructions, and of their readers.
use Rattle.std.proofs.Common.{◌≡◌, ℕ, ◌⊎◌, List, [], ◌∷◌, ◌++◌, Bool, true, false, cond, Option, Some, refl, ap, subst, inl, inr, arith}
use Rattle.std.specs.Prelude.{nat_eq, ◌||◌}
use Rattle.std.specs.List.{AllByRecursion}
use Rattle.std.proofs.lemmas.Bool.{or_parts}
use Rattle.std.proofs.lemmas.Bool.Decides.{nat_tests}
use Rattle.std.proofs.lemmas.Option.{same_Some}
use Rattle.leb_bytes.specs.Encoding.{IsReadBy}
use Rattle.leb_bytes.specs.Unsigned.{EncodesU32, first_u32}
use Rattle.leb_bytes.specs.Signed.{EncodesI32, EncodesI64, first_i32, first_i64}
use Rattle.wasm_syntax.specs.declared.forms.Form.{Form}
use Rattle.wasm_syntax.specs.declared.forms.Form.TheVariants.{Core, Replay}
use Rattle.wasm_syntax.specs.declared.values.ValType.{ValType}
use Rattle.wasm_syntax.specs.declared.values.ValType.TheVariants.{I32, I64, F32, F64, FuncRef}
use Rattle.wasm_syntax.specs.declared.instructions.Instr.{Instr}
use Rattle.wasm_syntax.specs.declared.instructions.Instr.TheVariants.{Unreachable, Nop, Block, Loop, If, Else, End, Br, BrIf, BrTable, Return, Call, CallIndirect, Drop, Select, LocalGet, LocalSet, LocalTee, GlobalGet, GlobalSet, Load, Store, MemorySize, MemoryGrow, MemoryCopy, MemoryFill, Const, Numeric, RefNull, RefFunc, TableSet, TableGrow, TableSize}
use Rattle.wasm_syntax.specs.Opcodes.{is_from}
use Rattle.wasm_syntax.specs.Encoding.Grammar.{Grammar, Exactly, Marked, ◌then◌}
use Rattle.wasm_syntax.specs.Encoding.Types.{EncodesF32, EncodesF64, EncodesIndices, EncodesBlockType}
use Rattle.wasm_syntax.specs.Encoding.Instructions.{IsReplay, EncodesInstr, EncodesConst, Prefixed}
use Rattle.wasm_syntax.specs.Encoding.Combinators.{Reader, always, map_read, first_then, first_exactly, by_mark, by_number, row_at}
use Rattle.wasm_syntax.specs.Encoding.Readers.{first_f32, first_f64, first_indices, first_block_type, const, mem_arg, core_rows, core_prefixed_rows, prefixed_rows, instr_rows, instr_at, first_instr}
use Rattle.wasm_syntax.proofs.Encoding.Tools.{then_is, exactly_is, FindsBehind, ChoosesWell, RowFinds, by_mark_found, rows_well, done_finds, read_finds, Numbered, numbered_finds, done_only, read_only, numbered_only}
use Rattle.wasm_syntax.proofs.Encoding.Numbers.{NumberLaws, f32_is, f64_is, indices_is}
use Rattle.wasm_syntax.proofs.Encoding.Types.{block_type_is}

-- the branch that a test takes
pub chosen : {A : Type 0} (b : Bool) (x y z : A) → cond b x y ≡ z → ((b ≡ true) × (x ≡ z)) ⊎ ((b ≡ false) × (y ≡ z))
chosen true x y z e = inl (refl, e)
chosen false x y z e = inr (refl, e)

-- opcodes that no row of the form Core has by its opcode alone
abbrev special : ℕ → Bool
special op =
    is_from 0x45 0xC4 op || (is_from 0x28 0x35 op || (is_from 0x36 0x3E op || (nat_eq 0xFC op || (nat_eq 0x26 op || (nat_eq 0xD0 op || nat_eq 0xD2 op)))))

none_of : (a b c d e f g : Bool) → (a || (b || (c || (d || (e || (f || g)))))) ≡ false
    → (a ≡ false) × (b ≡ false) × (c ≡ false) × (d ≡ false) × (e ≡ false) × (f ≡ false) × (g ≡ false)
none_of a b c d e f g h =
    let first = or_parts a (b || (c || (d || (e || (f || g))))) h in
    let second = or_parts b (c || (d || (e || (f || g)))) first.1 in
    let third = or_parts c (d || (e || (f || g))) second.1 in
    let fourth = or_parts d (e || (f || g)) third.1 in
    let fifth = or_parts e (f || g) fourth.1 in
    let last = or_parts f g fifth.1 in
    (first.0, second.0, third.0, fourth.0, fifth.0, last.0, last.1)

core_at : (form : Form) (op : ℕ) (read : Reader Instr) → special op ≡ false → row_at core_rows op ≡ Some read
    → instr_at form op ≡ Some read
core_at Core op read h e =
    let n = none_of (is_from 0x45 0xC4 op) (is_from 0x28 0x35 op) (is_from 0x36 0x3E op) (nat_eq 0xFC op)
    (nat_eq 0x26 op) (nat_eq 0xD0 op) (nat_eq 0xD2 op) h in
    rw (n.0, n.1, n.2, n.3) e
core_at Replay op read h e =
    let n = none_of (is_from 0x45 0xC4 op) (is_from 0x28 0x35 op) (is_from 0x36 0x3E op) (nat_eq 0xFC op)
    (nat_eq 0x26 op) (nat_eq 0xD0 op) (nat_eq 0xD2 op) h in
    rw (n.0, n.1, n.2, n.3, n.4, n.5, n.6) e

-- the instructions of the prefix
prefix_at : (form : Form) → instr_at form 0xFC ≡ Some (by_number (row_at (prefixed_rows form)))
prefix_at Core = refl
prefix_at Replay = refl

core_prefixed_at : (form : Form) (number : ℕ) (read : Reader Instr) → (nat_eq 15 number || nat_eq 16 number) ≡ false
    → row_at core_prefixed_rows number ≡ Some read → row_at (prefixed_rows form) number ≡ Some read
core_prefixed_at Core number read h e = e
core_prefixed_at Replay number read h e =
    let n = or_parts (nat_eq 15 number) (nat_eq 16 number) h in
    rw (n.0, n.1) e

-- the three tests of a range exclude one another
load_no_numeric : (op : ℕ) → is_from 0x28 0x35 op ≡ true → is_from 0x45 0xC4 op ≡ false
load_no_numeric op h = grind (arith, nat_tests)

store_no_numeric : (op : ℕ) → is_from 0x36 0x3E op ≡ true → is_from 0x45 0xC4 op ≡ false
store_no_numeric op h = grind (arith, nat_tests)

store_no_load : (op : ℕ) → is_from 0x36 0x3E op ≡ true → is_from 0x28 0x35 op ≡ false
store_no_load op h = grind (arith, nat_tests)

numeric_at : (form : Form) (op : ℕ) → is_from 0x45 0xC4 op ≡ true → instr_at form op ≡ Some (always (Numeric op))
numeric_at form op h = rw (h) refl

load_at : (form : Form) (op : ℕ) → is_from 0x28 0x35 op ≡ true
    → instr_at form op ≡ Some (map_read (λ numbers. Load (mem_arg op numbers)) (first_then first_u32 first_u32))
load_at form op h = rw (load_no_numeric op h, h) refl

store_at : (form : Form) (op : ℕ) → is_from 0x36 0x3E op ≡ true
    → instr_at form op ≡ Some (map_read (λ numbers. Store (mem_arg op numbers)) (first_then first_u32 first_u32))
store_at form op h = rw (store_no_numeric op h, store_no_load op h, h) refl

module _ (laws : NumberLaws) where
  labels_is : IsReadBy (EncodesIndices then EncodesU32) (first_then first_indices first_u32)
  labels_is = then_is EncodesIndices EncodesU32 first_indices first_u32 (indices_is laws) laws.u32

  indirect_is : IsReadBy (EncodesU32 then Exactly (0x00 ∷ [])) (first_then first_u32 (first_exactly (0x00 ∷ [])))
  indirect_is = then_is EncodesU32 (Exactly (0x00 ∷ [])) first_u32 (first_exactly (0x00 ∷ [])) laws.u32 (exactly_is (0x00 ∷ []))

  access_is : IsReadBy (EncodesU32 then EncodesU32) (first_then first_u32 first_u32)
  access_is = then_is EncodesU32 EncodesU32 first_u32 first_u32 laws.u32 laws.u32

  -- what the rows read is encoded
  core_find : (form : Form) → AllByRecursion (RowFinds (EncodesInstr form)) core_rows
  core_find form = (
    done_finds (EncodesInstr form) 0x00 Unreachable refl,
    (
      done_finds (EncodesInstr form) 0x01 Nop refl,
      (
        read_finds (EncodesInstr form) EncodesBlockType 0x02 first_block_type Block block_type_is (λ bytes a h. (bytes, refl, h)),
        (
          read_finds (EncodesInstr form) EncodesBlockType 0x03 first_block_type Loop block_type_is (λ bytes a h. (bytes, refl, h)),
          (
            read_finds (EncodesInstr form) EncodesBlockType 0x04 first_block_type If block_type_is (λ bytes a h. (bytes, refl, h)),
            (
              done_finds (EncodesInstr form) 0x05 Else refl,
              (
                done_finds (EncodesInstr form) 0x0B End refl,
                (
                  read_finds (EncodesInstr form) EncodesU32 0x0C first_u32 Br laws.u32 (λ bytes a h. (bytes, refl, h)),
                  (
                    read_finds (EncodesInstr form) EncodesU32 0x0D first_u32 BrIf laws.u32 (λ bytes a h. (bytes, refl, h)),
                    (
                      read_finds (EncodesInstr form) (EncodesIndices then EncodesU32) 0x0E
                          (first_then first_indices first_u32) (λ labels. BrTable labels.0 labels.1) labels_is
                          (λ bytes a h. (bytes, refl, h)),
                      (
                        done_finds (EncodesInstr form) 0x0F Return refl,
                        (
                          read_finds (EncodesInstr form) EncodesU32 0x10 first_u32 Call laws.u32 (λ bytes a h. (bytes, refl, h)),
                          (
                            read_finds (EncodesInstr form) (EncodesU32 then Exactly (0x00 ∷ [])) 0x11
                                (first_then first_u32 (first_exactly (0x00 ∷ [])))
                                (λ parts. CallIndirect parts.0) indirect_is (λ bytes a h. (bytes, refl, h)),
                            (
                              done_finds (EncodesInstr form) 0x1A Drop refl,
                              (
                                done_finds (EncodesInstr form) 0x1B Select refl,
                                (
                                  read_finds (EncodesInstr form) EncodesU32 0x20 first_u32 LocalGet laws.u32 (λ bytes a h. (bytes, refl, h)),
                                  (
                                    read_finds (EncodesInstr form) EncodesU32 0x21 first_u32 LocalSet laws.u32 (λ bytes a h. (bytes, refl, h)),
                                    (
                                      read_finds (EncodesInstr form) EncodesU32 0x22 first_u32 LocalTee laws.u32 (λ bytes a h. (bytes, refl, h)),
                                      (
                                        read_finds (EncodesInstr form) EncodesU32 0x23 first_u32 GlobalGet laws.u32 (λ bytes a h. (bytes, refl, h)),
                                        (
                                          read_finds (EncodesInstr form) EncodesU32 0x24 first_u32 GlobalSet laws.u32 (λ bytes a h. (bytes, refl, h)),
                                          (
                                            read_finds (EncodesInstr form) (Exactly (0x00 ∷ [])) 0x3F
                                                (first_exactly (0x00 ∷ [])) (λ it. MemorySize) (exactly_is (0x00 ∷ []))
                                                (λ bytes a h. ap (λ r. 0x3F ∷ r) h),
                                            (
                                              read_finds (EncodesInstr form) (Exactly (0x00 ∷ [])) 0x40
                                                  (first_exactly (0x00 ∷ [])) (λ it. MemoryGrow)
                                                  (exactly_is (0x00 ∷ [])) (λ bytes a h. ap (λ r. 0x40 ∷ r) h),
                                              (
                                                read_finds (EncodesInstr form) EncodesI32 0x41 first_i32 (const I32) laws.i32 (λ bytes a h. (bytes, refl, h)),
                                                (
                                                  read_finds (EncodesInstr form) EncodesI64 0x42 first_i64 (const I64) laws.i64 (λ bytes a h. (bytes, refl, h)),
                                                  (
                                                    read_finds (EncodesInstr form) EncodesF32 0x43 first_f32 (const F32) f32_is (λ bytes a h. (bytes, refl, h)),
                                                    (
                                                      read_finds (EncodesInstr form) EncodesF64 0x44 first_f64
                                                          (const F64) f64_is (λ bytes a h. (bytes, refl, h)),
                                                      tt,
                                                    ),
                                                  ),
                                                ),
                                              ),
                                            ),
                                          ),
                                        ),
                                      ),
                                    ),
                                  ),
                                ),
                              ),
                            ),
                          ),
                        ),
                      ),
                    ),
                  ),
                ),
              ),
            ),
          ),
        ),
      ),
    ),
  )

  -- the bytes after the prefix, in any spelling of the number
  abbrev AtPrefix : Form → List ℕ → Instr → Type 0
  AtPrefix form bytes i = EncodesInstr form (0xFC ∷ bytes) i

  core_prefixed_find : (form : Form) → AllByRecursion (RowFinds (Numbered (AtPrefix form))) core_prefixed_rows
  core_prefixed_find form = (
    read_finds (Numbered (AtPrefix form)) (Exactly (0x00 ∷ 0x00 ∷ [])) 10 (first_exactly (0x00 ∷ 0x00 ∷ [])) (λ it. MemoryCopy) (exactly_is (0x00 ∷ 0x00 ∷ []))
        (λ bytes a h spelled s. (spelled ++ bytes, refl, (spelled, bytes, refl, s, h))),
    (
      read_finds (Numbered (AtPrefix form)) (Exactly (0x00 ∷ [])) 11 (first_exactly (0x00 ∷ [])) (λ it. MemoryFill) (exactly_is (0x00 ∷ []))
          (λ bytes a h spelled s. (spelled ++ bytes, refl, (spelled, bytes, refl, s, h))),
      tt,
    ),
  )

  prefixed_find : (form : Form) → AllByRecursion (RowFinds (Numbered (AtPrefix form))) (prefixed_rows form)
  prefixed_find Core = core_prefixed_find Core
  prefixed_find Replay = (
    read_finds (Numbered (AtPrefix Replay)) EncodesU32 15 first_u32 TableGrow laws.u32
        (λ bytes a h spelled s. (tt, (spelled ++ bytes, refl, (spelled, bytes, refl, s, h)))),
    (
      read_finds (Numbered (AtPrefix Replay)) EncodesU32 16 first_u32 TableSize laws.u32
          (λ bytes a h spelled s. (tt, (spelled ++ bytes, refl, (spelled, bytes, refl, s, h)))),
      core_prefixed_find Replay,
    ),
  )

  prefix_find : (form : Form) → RowFinds (EncodesInstr form) (0xFC, by_number (row_at (prefixed_rows form)))
  prefix_find form =
      numbered_finds (EncodesInstr form) 0xFC (row_at (prefixed_rows form)) laws.u32
      (rows_well (Numbered (AtPrefix form)) (prefixed_rows form) (prefixed_find form))

  rows_find : (form : Form) → AllByRecursion (RowFinds (EncodesInstr form)) (instr_rows form)
  rows_find Core = (prefix_find Core, core_find Core)
  rows_find Replay = (
    prefix_find Replay,
    (
      read_finds (EncodesInstr Replay) EncodesU32 0x26 first_u32 TableSet laws.u32 (λ bytes a h. (tt, (bytes, refl, h))),
      (
        read_finds (EncodesInstr Replay) (Exactly (0x70 ∷ [])) 0xD0 (first_exactly (0x70 ∷ [])) (λ it. RefNull)
            (exactly_is (0x70 ∷ [])) (λ bytes a h. (tt, ap (λ r. 0xD0 ∷ r) h)),
        (
          read_finds (EncodesInstr Replay) EncodesU32 0xD2 first_u32 RefFunc laws.u32 (λ bytes a h. (tt, (bytes, refl, h))),
          core_find Replay,
        ),
      ),
    ),
  )

  instr_well : (form : Form) → ChoosesWell (EncodesInstr form) (instr_at form)
  instr_well form op read e =
      elim (chosen (is_from 0x45 0xC4 op) (Some (always (Numeric op))) (rest op) (Some read) e) [
        | inl numeric ↦ subst (λ r. FindsBehind (EncodesInstr form) op r) (same_Some _ _ numeric.1)
            (done_finds (EncodesInstr form) op (Numeric op) (numeric.0, refl))
        | inr others ↦ elim (chosen (is_from 0x28 0x35 op)
            (Some (map_read (λ numbers. Load (mem_arg op numbers)) (first_then first_u32 first_u32))) (rows op)
            (Some read) others.1) [
              | inl load ↦ subst (λ r. FindsBehind (EncodesInstr form) op r) (same_Some _ _ load.1)
                  (read_finds (EncodesInstr form) (EncodesU32 then EncodesU32) op (first_then first_u32 first_u32)
                  (λ numbers. Load (mem_arg op numbers)) access_is (λ bytes a h. (load.0, (bytes, refl, h))))
              | inr more ↦ elim (chosen (is_from 0x36 0x3E op)
                  (Some (map_read (λ numbers. Store (mem_arg op numbers)) (first_then first_u32 first_u32)))
                  (row_at (instr_rows form) op) (Some read) more.1) [
                    | inl store ↦ subst (λ r. FindsBehind (EncodesInstr form) op r) (same_Some _ _ store.1)
                        (read_finds (EncodesInstr form) (EncodesU32 then EncodesU32) op (first_then first_u32 first_u32)
                        (λ numbers. Store (mem_arg op numbers)) access_is (λ bytes a h. (store.0, (bytes, refl, h))))
                    | inr row ↦ rows_well (EncodesInstr form) (instr_rows form) (rows_find form) op read row.1
                  ]
            ]
      ]
    where
      rows : ℕ → Option (Reader Instr)
      rows op =
          cond (is_from 0x36 0x3E op)
          (Some (map_read (λ numbers. Store (mem_arg op numbers)) (first_then first_u32 first_u32)))
          (row_at (instr_rows form) op)

      rest : ℕ → Option (Reader Instr)
      rest op = cond (is_from 0x28 0x35 op) (Some (map_read (λ numbers. Load (mem_arg op numbers)) (first_then first_u32 first_u32))) (rows op)

  -- what is encoded is read
  const_only : (form : Form) (bytes rest : List ℕ) (ty : ValType) (bits : ℕ) → EncodesConst bytes ty bits
      → by_mark (instr_at form) (bytes ++ rest) ≡ Some (const ty bits, rest)
  const_only form bytes rest I32 bits h =
      read_only (instr_at form) 0x41 EncodesI32 first_i32 (const I32) (core_at form 0x41 (map_read (const I32) first_i32) refl refl) laws.i32 bytes rest bits h
  const_only form bytes rest I64 bits h =
      read_only (instr_at form) 0x42 EncodesI64 first_i64 (const I64) (core_at form 0x42 (map_read (const I64) first_i64) refl refl) laws.i64 bytes rest bits h
  const_only form bytes rest F32 bits h =
      read_only (instr_at form) 0x43 EncodesF32 first_f32 (const F32) (core_at form 0x43 (map_read (const F32) first_f32) refl refl) f32_is bytes rest bits h
  const_only form bytes rest F64 bits h =
      read_only (instr_at form) 0x44 EncodesF64 first_f64 (const F64) (core_at form 0x44 (map_read (const F64) first_f64) refl refl) f64_is bytes rest bits h
  const_only form bytes rest FuncRef bits h = absurd h

  replay_only : (form : Form) (bytes rest : List ℕ) (i : Instr)
      → by_mark (instr_at Replay) (bytes ++ rest) ≡ Some (i, rest) → IsReplay form
      → by_mark (instr_at form) (bytes ++ rest) ≡ Some (i, rest)
  replay_only Core bytes rest i e h = absurd h
  replay_only Replay bytes rest i e h = e

  prefixed_only : {A : Type 0} (form : Form) (number : ℕ) (F : Grammar A) (read : Reader A) (make : A → Instr)
      → row_at (prefixed_rows form) number ≡ Some (map_read make read) → IsReadBy F read
      → (bytes rest : List ℕ) (a : A) → Prefixed number F bytes a → by_mark (instr_at form) (bytes ++ rest) ≡ Some (make a, rest)
  prefixed_only form number F read make row is bytes rest a h =
      numbered_only (instr_at form) (row_at (prefixed_rows form)) 0xFC number F read make (prefix_at form) row laws.u32 is bytes rest a h

  -- an instruction with one number, which both forms encode in the same way
  number_only : (form : Form) (op : ℕ) (make : ℕ → Instr) → special op ≡ false
      → row_at core_rows op ≡ Some (map_read make first_u32)
      → (bytes rest : List ℕ) (n : ℕ) → Marked op EncodesU32 bytes n
      → by_mark (instr_at form) (bytes ++ rest) ≡ Some (make n, rest)
  number_only form op make plain row bytes rest n h =
      read_only (instr_at form) op EncodesU32 first_u32 make (core_at form op (map_read make first_u32) plain row) laws.u32
      bytes rest n h

  instr_only : (form : Form) (bytes rest : List ℕ) (i : Instr) → EncodesInstr form bytes i
      → by_mark (instr_at form) (bytes ++ rest) ≡ Some (i, rest)
  instr_only form bytes rest Unreachable h = done_only (instr_at form) 0x00 Unreachable (core_at form 0x00 (always Unreachable) refl refl) bytes rest h
  instr_only form bytes rest Nop h = done_only (instr_at form) 0x01 Nop (core_at form 0x01 (always Nop) refl refl) bytes rest h
  instr_only form bytes rest (Block ty) h =
      read_only (instr_at form) 0x02 EncodesBlockType first_block_type Block
      (core_at form 0x02 (map_read Block first_block_type) refl refl) block_type_is bytes rest ty h
  instr_only form bytes rest (Loop ty) h =
      read_only (instr_at form) 0x03 EncodesBlockType first_block_type Loop
      (core_at form 0x03 (map_read Loop first_block_type) refl refl) block_type_is bytes rest ty h
  instr_only form bytes rest (If ty) h =
      read_only (instr_at form) 0x04 EncodesBlockType first_block_type If
      (core_at form 0x04 (map_read If first_block_type) refl refl) block_type_is bytes rest ty h
  instr_only form bytes rest Else h = done_only (instr_at form) 0x05 Else (core_at form 0x05 (always Else) refl refl) bytes rest h
  instr_only form bytes rest End h = done_only (instr_at form) 0x0B End (core_at form 0x0B (always End) refl refl) bytes rest h
  instr_only form bytes rest (Br label) h = number_only form 0x0C Br refl refl bytes rest label h
  instr_only form bytes rest (BrIf label) h = number_only form 0x0D BrIf refl refl bytes rest label h
  instr_only form bytes rest (BrTable labels default) h =
      read_only (instr_at form) 0x0E (EncodesIndices then EncodesU32) (first_then first_indices first_u32)
      (λ labels. BrTable labels.0 labels.1)
      (core_at form 0x0E (map_read (λ labels. BrTable labels.0 labels.1) (first_then first_indices first_u32)) refl
      refl) labels_is bytes rest (labels, default) h
  instr_only form bytes rest Return h = done_only (instr_at form) 0x0F Return (core_at form 0x0F (always Return) refl refl) bytes rest h
  instr_only form bytes rest (Call func) h = number_only form 0x10 Call refl refl bytes rest func h
  instr_only form bytes rest (CallIndirect ty) h =
      read_only (instr_at form) 0x11 (EncodesU32 then Exactly (0x00 ∷ []))
      (first_then first_u32 (first_exactly (0x00 ∷ []))) (λ parts. CallIndirect parts.0)
      (core_at form 0x11 (map_read (λ parts. CallIndirect parts.0) (first_then first_u32 (first_exactly (0x00 ∷ []))))
      refl refl) indirect_is bytes rest (ty, tt) h
  instr_only form bytes rest Drop h = done_only (instr_at form) 0x1A Drop (core_at form 0x1A (always Drop) refl refl) bytes rest h
  instr_only form bytes rest Select h = done_only (instr_at form) 0x1B Select (core_at form 0x1B (always Select) refl refl) bytes rest h
  instr_only form bytes rest (LocalGet local) h = number_only form 0x20 LocalGet refl refl bytes rest local h
  instr_only form bytes rest (LocalSet local) h = number_only form 0x21 LocalSet refl refl bytes rest local h
  instr_only form bytes rest (LocalTee local) h = number_only form 0x22 LocalTee refl refl bytes rest local h
  instr_only form bytes rest (GlobalGet global) h = number_only form 0x23 GlobalGet refl refl bytes rest global h
  instr_only form bytes rest (GlobalSet global) h = number_only form 0x24 GlobalSet refl refl bytes rest global h
  instr_only form bytes rest MemorySize h =
      read_only (instr_at form) 0x3F (Exactly (0x00 ∷ [])) (first_exactly (0x00 ∷ [])) (λ it. MemorySize)
      (core_at form 0x3F (map_read (λ it. MemorySize) (first_exactly (0x00 ∷ []))) refl refl)
      (exactly_is (0x00 ∷ [])) bytes rest tt (0x00 ∷ [], h, refl)
  instr_only form bytes rest MemoryGrow h =
      read_only (instr_at form) 0x40 (Exactly (0x00 ∷ [])) (first_exactly (0x00 ∷ [])) (λ it. MemoryGrow)
      (core_at form 0x40 (map_read (λ it. MemoryGrow) (first_exactly (0x00 ∷ []))) refl refl)
      (exactly_is (0x00 ∷ [])) bytes rest tt (0x00 ∷ [], h, refl)
  instr_only form bytes rest MemoryCopy h =
      prefixed_only form 10 (Exactly (0x00 ∷ 0x00 ∷ [])) (first_exactly (0x00 ∷ 0x00 ∷ [])) (λ it. MemoryCopy)
      (core_prefixed_at form 10 (map_read (λ it. MemoryCopy) (first_exactly (0x00 ∷ 0x00 ∷ []))) refl refl) (exactly_is (0x00 ∷ 0x00 ∷ [])) bytes rest tt h
  instr_only form bytes rest MemoryFill h =
      prefixed_only form 11 (Exactly (0x00 ∷ [])) (first_exactly (0x00 ∷ [])) (λ it. MemoryFill)
      (core_prefixed_at form 11 (map_read (λ it. MemoryFill) (first_exactly (0x00 ∷ []))) refl refl) (exactly_is (0x00 ∷ [])) bytes rest tt h
  instr_only form bytes rest (Const value) h = const_only form bytes rest value.ty value.bits h
  instr_only form bytes rest (Load access) h =
      read_only (instr_at form) access.op (EncodesU32 then EncodesU32) (first_then first_u32 first_u32) (λ numbers. Load (mem_arg access.op numbers))
      (load_at form access.op h.0) access_is bytes rest (access.align, access.offset) h.1
  instr_only form bytes rest (Store access) h =
      read_only (instr_at form) access.op (EncodesU32 then EncodesU32) (first_then first_u32 first_u32) (λ numbers. Store (mem_arg access.op numbers))
      (store_at form access.op h.0) access_is bytes rest (access.align, access.offset) h.1
  instr_only form bytes rest (Numeric op) h = done_only (instr_at form) op (Numeric op) (numeric_at form op h.0) bytes rest h.1
  instr_only form bytes rest (TableSet table) h =
      replay_only form bytes rest (TableSet table) (read_only (instr_at Replay) 0x26 EncodesU32 first_u32 TableSet refl laws.u32 bytes rest table h.1) h.0
  instr_only form bytes rest RefNull h =
      replay_only form bytes rest RefNull
      (read_only (instr_at Replay) 0xD0 (Exactly (0x70 ∷ [])) (first_exactly (0x70 ∷ [])) (λ it. RefNull) refl
      (exactly_is (0x70 ∷ [])) bytes rest tt (0x70 ∷ [], h.1, refl)) h.0
  instr_only form bytes rest (RefFunc func) h =
      replay_only form bytes rest (RefFunc func) (read_only (instr_at Replay) 0xD2 EncodesU32 first_u32 RefFunc refl laws.u32 bytes rest func h.1) h.0
  instr_only form bytes rest (TableGrow table) h =
      replay_only form bytes rest (TableGrow table) (prefixed_only Replay 15 EncodesU32 first_u32 TableGrow refl laws.u32 bytes rest table h.1) h.0
  instr_only form bytes rest (TableSize table) h =
      replay_only form bytes rest (TableSize table) (prefixed_only Replay 16 EncodesU32 first_u32 TableSize refl laws.u32 bytes rest table h.1) h.0

  pub instr_is : (form : Form) → IsReadBy (EncodesInstr form) (first_instr form)
  unfolding first_instr
  instr_is form = record { found = by_mark_found (EncodesInstr form) (instr_at form) (instr_well form); only = instr_only form }
