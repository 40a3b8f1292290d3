-- What is read by opcodes: nothing for those between instructions, and three of the control instructions.
use Rattle.std.proofs.Common.{◌≡◌, ◌≢◌, ℕ, zero, suc, ◌+◌, ◌<◌, ◌≤◌, List, ◌∷◌, Option, Some, None, Result, refl, ap, sym, ◌∙◌, subst, inl, inr, arith}
use Rattle.std.specs.Prelude.{option_and_then, option_map}
use Rattle.std.proofs.lemmas.Bool.{cases_eq}
use Rattle.wasm_syntax.specs.declared.forms.Form.{Form}
use Rattle.wasm_syntax.specs.declared.forms.Form.TheVariants.{Core, Replay}
use Rattle.wasm_syntax.specs.declared.instructions.Instr.{Instr}
use Rattle.leb_bytes.specs.Unsigned.{first_u32}
use Rattle.wasm_syntax.specs.declared.instructions.Instr.TheVariants.{BrIf, BrTable, Return}
use Rattle.wasm_syntax.specs.Encoding.Combinators.{Reader, by_mark, first_then, map_read}
use Rattle.wasm_syntax.specs.Encoding.Readers.{first_indices, instr_at}
use Rattle.leb_bytes.specs.declared.unread.Unread.{Unread}
use Rattle.leb_bytes.specs.ReadResults.{Gives}

abbrev IsGap : ℕ → Type 0
IsGap op = (form : Form) → instr_at form op ≡ None

gap_6 : IsGap 6
gap_6 Core = refl
gap_6 Replay = refl

gap_7 : IsGap 7
gap_7 Core = refl
gap_7 Replay = refl

gap_8 : IsGap 8
gap_8 Core = refl
gap_8 Replay = refl

gap_9 : IsGap 9
gap_9 Core = refl
gap_9 Replay = refl

gap_10 : IsGap 10
gap_10 Core = refl
gap_10 Replay = refl

gap_28 : IsGap 28
gap_28 Core = refl
gap_28 Replay = refl

gap_29 : IsGap 29
gap_29 Core = refl
gap_29 Replay = refl

gap_30 : IsGap 30
gap_30 Core = refl
gap_30 Replay = refl

gap_31 : IsGap 31
gap_31 Core = refl
gap_31 Replay = refl

gap_37 : IsGap 37
gap_37 Core = refl
gap_37 Replay = refl

gap_39 : IsGap 39
gap_39 Core = refl
gap_39 Replay = refl

nothing : (form : Form) (op n : ℕ) (bytes : List ℕ) → op ≡ n → IsGap n → by_mark (instr_at form) (op ∷ bytes) ≡ None
nothing form op n bytes is gap =
    ap (λ (choice : Option (Reader Instr)). option_and_then (λ (read : Reader Instr). read bytes) choice)
    (ap (instr_at form) is ∙ gap form)

-- this many opcodes from one on
abbrev AreGaps : (count from : ℕ) → Type 0
AreGaps zero from = Unit {0}
AreGaps (suc count) from = IsGap from × AreGaps count (suc from)

nothing_among : (count from : ℕ) → AreGaps count from → (form : Form) (op : ℕ) (bytes : List ℕ) → from ≤ op
    → op < from + count → by_mark (instr_at form) (op ∷ bytes) ≡ None
nothing_among zero from gaps form op bytes low high = absurd (omega (arith, low, high))
nothing_among (suc count) from gaps form op bytes low high =
    elim (cases_eq op from) [
      | inl e ↦ nothing form op from bytes e gaps.0
      | inr differs ↦
          nothing_among count (suc from) gaps.1 form op bytes (omega (arith, low, differs)) (omega (arith, high))
    ]

-- between `else` and `end`
pub no_block : (form : Form) (op : ℕ) (bytes : List ℕ) → 5 < op → op < 11
    → by_mark (instr_at form) (op ∷ bytes) ≡ None
no_block = nothing_among 5 6 (gap_6, (gap_7, (gap_8, (gap_9, (gap_10, tt)))))

-- between `select` and `local.get`
pub no_parametric : (form : Form) (op : ℕ) (bytes : List ℕ) → 27 < op → op < 32
    → by_mark (instr_at form) (op ∷ bytes) ≡ None
no_parametric = nothing_among 4 28 (gap_28, (gap_29, (gap_30, (gap_31, tt))))

-- between `global.set` and `i32.load`, but for `table.set`
pub no_table : (form : Form) (op : ℕ) (bytes : List ℕ) → 36 < op → op < 40 → op ≢ 38
    → by_mark (instr_at form) (op ∷ bytes) ≡ None
no_table form op bytes low high n38 =
    elim (cases_eq op 37) [
      | inl e ↦ nothing form op 37 bytes e gap_37
      | inr n37 ↦
          let last : op ≡ 39 = omega (arith, low, high, n37, n38) in
          nothing form op 39 bytes last gap_39
    ]

-- ---- control instructions

br_if_at : (form : Form) (bytes : List ℕ) → by_mark (instr_at form) (13 ∷ bytes) ≡ map_read BrIf first_u32 bytes
br_if_at Core bytes = refl
br_if_at Replay bytes = refl

pub reads_br_if : (form : Form) (op label : ℕ) (bytes rest : List ℕ) → op ≡ 13 → first_u32 bytes ≡ Some (label, rest)
    → by_mark (instr_at form) (op ∷ bytes) ≡ Some (BrIf label, rest)
reads_br_if form op label bytes rest is read =
    ap (λ (n : ℕ). by_mark (instr_at form) (n ∷ bytes)) is ∙ br_if_at form bytes
    ∙ ap (λ (first : Option (ℕ × List ℕ)). option_map (λ (f : ℕ × List ℕ). (BrIf f.0, f.1)) first) read

abbrev br_table_operands : Reader Instr
br_table_operands bytes = map_read (λ labels. BrTable labels.0 labels.1) (first_then first_indices first_u32) bytes

br_table_at : (form : Form) (bytes : List ℕ) → by_mark (instr_at form) (14 ∷ bytes) ≡ br_table_operands bytes
br_table_at Core bytes = refl
br_table_at Replay bytes = refl

pub gives_br_table : {A : Type 0} (view : A → Instr × List ℕ) (result : Result A Unread)
    (form : Form) (op : ℕ) (bytes : List ℕ) → op ≡ 14 → Gives view result (br_table_operands bytes)
    → Gives view result (by_mark (instr_at form) (op ∷ bytes))
gives_br_table view result form op bytes is gives =
    subst (Gives view result)
    (sym (ap (λ (n : ℕ). by_mark (instr_at form) (n ∷ bytes)) is ∙ br_table_at form bytes)) gives

return_at : (form : Form) (bytes : List ℕ) → by_mark (instr_at form) (15 ∷ bytes) ≡ Some (Return, bytes)
return_at Core bytes = refl
return_at Replay bytes = refl

pub reads_return : (form : Form) (op : ℕ) (bytes : List ℕ) → op ≡ 15
    → by_mark (instr_at form) (op ∷ bytes) ≡ Some (Return, bytes)
reads_return form op bytes is = ap (λ (n : ℕ). by_mark (instr_at form) (n ∷ bytes)) is ∙ return_at form bytes
