-- Worked rows: words, bodies to the byte, lengths, and the counts of checks.
use Rattle.std.specs.Prelude.{◌≡◌, [], ◌∷◌, length, take, drop, codes}
use Rattle.wasm_syntax.specs.Encoding.Shortest.{encoding_of}
use Rattle.worked_histories.specs.Build.{i32}
use Rattle.worked_replay_modules.specs.Cases.{empty_case, fill_past_case, nested_call_case, never_called_case, two_answers_case}
use Rattle.guarded_module_spec.specs.Words.{digest_of}
use Rattle.worked_guards.specs.Tests.{bodies_text, counts, guard, words_before_digest, words}
use Rattle.worked_guards.specs.AllTypes.{all_types_case}

-- two calls of an import, the return of a call by the host, and the word of the end
pub record TwoAnswers : Type 0 where
  pub words : words two_answers_case ≡ 0 ∷ 0 ∷ 1 ∷ 12 ∷ 0xFFFFFFFFFFFFFFFF ∷ []
  pub length : length (encoding_of (guard two_answers_case)) ≡ 386
  -- the front of the import, the original, and a helper
  pub first : bodies_text (take 3 (guard two_answers_case).funcs)
      ≡ codes "4200100710040b" ∷ codes "100010006a0b" ∷ codes "10051a0f0b" ∷ []
  -- the front of the original, and the functions of the guarded module's own
  pub own : bodies_text (drop 5 (guard two_answers_case).funcs)
      ≡ codes "10012100420110072000ad100720000b" ∷ codes "1002427f10070b"
      ∷ codes "20001008520440000b230241016a24020b"
      ∷ codes "2301220041016a24010240024020004180026e0e0100010b200010090f0b000b"
      ∷ codes "0240024002400240024002402000418002700e050001020304050b42000f0b42000f0b42010f0b420c0f0b427f0f0b000b" ∷ []
  pub counts : counts two_answers_case (guard two_answers_case) 600 ≡ i32 5 ∷ i32 5 ∷ i32 5 ∷ []

-- a call of an import within another, the return of the call by the host within that, and the size of the memory
pub record NestedCall : Type 0 where
  pub words : words_before_digest nested_call_case ≡ 0 ∷ 0 ∷ 2 ∷ 2 ∷ 1 ∷ 5 ∷ 1 ∷ []

-- values of all types, by their bits
pub record AllTypes : Type 0 where
  pub words : words all_types_case
      ≡ 0 ∷ 0xFFFFFFFF ∷ 0xFFFFFFFFFFFFFFFE ∷ 0x7FA00001 ∷ 0x7FF8000000000001 ∷ 1 ∷ 0xFFF4000000000001
      ∷ 0xFFFFFFFFFFFFFFFF ∷ []
  pub front : bodies_text (take 1 (guard all_types_case).funcs)
      ≡ codes "420010072000ad1007200110072002bcad10072003bd1007200020012002200310040b" ∷ []
  pub counts : counts all_types_case (guard all_types_case) 600 ≡ i32 8 ∷ i32 8 ∷ i32 8 ∷ []

-- a run that traps has no word of the end
pub record FillPast : Type 0 where
  pub words : words fill_past_case ≡ 0 ∷ []
  pub counts : counts fill_past_case (guard fill_past_case) 600 ≡ i32 1 ∷ i32 1 ∷ i32 1 ∷ []

-- an original that no function outside calls has no front; a run without calls has the word of the end alone
pub record Uncalled : Type 0 where
  pub words : words empty_case ≡ 0xFFFFFFFFFFFFFFFF ∷ []
  pub front : bodies_text (take 1 (drop 4 (guard never_called_case).funcs)) ≡ codes "000b" ∷ []

-- the digest of sixteen bytes
abbrev pub SixteenBytes : Type 0
SixteenBytes =
    digest_of 2 (1 ∷ 2 ∷ 3 ∷ 4 ∷ 5 ∷ 6 ∷ 7 ∷ 8 ∷ 9 ∷ 10 ∷ 11 ∷ 12 ∷ 13 ∷ 14 ∷ 15 ∷ 16 ∷ []) ≡ 1670251334509846722

-- all rows
pub record WorkedRows : Type 0 where
  pub two_answers : TwoAnswers
  pub nested_call : NestedCall
  pub all_types : AllTypes
  pub fill_past : FillPast
  pub uncalled : Uncalled
  pub sixteen_bytes : SixteenBytes
