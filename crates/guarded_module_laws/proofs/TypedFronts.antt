-- The typing of the code of fronts, in a context in which the function that takes a word has its type.
use Rattle.std.proofs.Common.{◌≡◌, ℕ, suc, ◌+◌, ◌^◌, ◌<◌, List, [], ◌∷◌, ◌++◌, length, map, reverse, Some, true, option_map, refl, sym, ap, ◌∙◌, subst, arith}
use Rattle.std.specs.Prelude.{IsTrue, slice_get}
use Rattle.std.specs.List.{AllByRecursion}
use Rattle.std.proofs.lemmas.Bool.Decides.{nat_tests}
use Rattle.std.proofs.lemmas.List.{append-nil, append_assoc, reverse-append}
use Rattle.wasm_syntax.specs.declared.values.ValType.{ValType}
use Rattle.wasm_syntax.specs.declared.values.ValType.TheVariants.{I32, I64, F32, F64, FuncRef}
use Rattle.wasm_syntax.specs.declared.signatures.FuncType.{FuncType}
use Rattle.base.specs.declared.opcodes.TheConstants.{I64_EXTEND_I32_U, I32_REINTERPRET_F32, I64_REINTERPRET_F64}
use Rattle.wasm_syntax.specs.declared.instructions.Instr.{Instr}
use Rattle.wasm_syntax.specs.declared.instructions.Instr.TheVariants.{Call, LocalGet, LocalSet, Numeric}
use Rattle.wasm_syntax.specs.Nest.{Nest, Empty, Plain}
use Rattle.wasm_syntax.specs.Typing.{Context, IsTyped, Moves, call_of, func_at, is_constant, is_number}
use Rattle.replay_module_spec.specs.Dispatch.{sequence}
use Rattle.replay_module_laws.proofs.Serving.{constant_typed, moved}
use Rattle.guarded_module_spec.specs.declared.numbers.Numbers.{Numbers}
use Rattle.guarded_module_spec.specs.Numbers.{behind, check_place}
use Rattle.guarded_module_spec.specs.Fronts.{check_local, check_locals, check_number, func_front_code, import_front_code, local_gets}

-- the types of a function that takes a word, and of one that gives a word
abbrev pub takes_word : FuncType
takes_word = record { params = I64 ∷ []; results = [] }

abbrev pub gives_word : FuncType
gives_word = record { params = []; results = I64 ∷ [] }

pub word_typed : (number : ℕ) → number < 2 ^ 64 → is_constant (record { ty = I64; bits = number }) ≡ true
word_typed number small = grind (arith, nat_tests, small)

-- the first of some types, pushed before the others
pub pushed_first : (ty : ValType) (types below : List ValType)
    → reverse (ty ∷ types) ++ below ≡ reverse types ++ ty ∷ below
pushed_first ty types below =
    ap (λ l. l ++ below) (reverse-append (ty ∷ []) types) ∙ append_assoc (reverse types) (ty ∷ []) below

module _ (ctx : Context) (n : Numbers) (checks : func_at ctx (check_place n) ≡ Some takes_word) where
  -- a call of the function that takes a word
  pub taken : (below : List ValType) (rest : Nest) (after : List ValType) → IsTyped ctx rest below after
      → IsTyped ctx (Plain (Call (check_place n)) rest) (I64 ∷ below) after
  taken below rest after later =
      moved ctx (Call (check_place n)) (I64 ∷ []) [] below rest after (ap (option_map call_of) checks) later

  pub number_checked : (number : ℕ) (code : List Instr) (rest : Nest) (below after : List ValType) → number < 2 ^ 64
      → IsTyped ctx (sequence code rest) below after
      → IsTyped ctx (sequence (check_number n number ++ code) rest) below after
  number_checked number code rest below after small later =
      constant_typed ctx (record { ty = I64; bits = number }) below
      (Plain (Call (check_place n)) (sequence code rest)) after (word_typed number small)
      (taken below (sequence code rest) after later)

  -- a local of a number type is read
  pub local_read : (x : ℕ) (ty : ValType) (rest : Nest) (below after : List ValType) → slice_get ctx.locals x ≡ Some ty
      → IsTyped ctx rest (ty ∷ below) after → IsTyped ctx (Plain (LocalGet x) rest) below after
  local_read x ty rest below after there later =
      moved ctx (LocalGet x) [] (ty ∷ []) below rest after
      (ap (option_map (λ (t : ValType). Moves [] (t ∷ []))) there) later

  -- the locals from an index on have these types
  abbrev pub HaveTypes : (first : ℕ) → List ValType → Type 0
  HaveTypes first types = (j : ℕ) (ty : ValType) → slice_get types j ≡ Some ty → slice_get ctx.locals (first + j) ≡ Some ty

  next_have : (first : ℕ) (ty : ValType) (types : List ValType) → HaveTypes first (ty ∷ types) → HaveTypes (first + 1) types
  next_have first ty types have j t h =
      subst (λ x. slice_get ctx.locals x ≡ Some t) (omega arith) (have (suc j) t h)

  first_has : (first : ℕ) (ty : ValType) (types : List ValType) → HaveTypes first (ty ∷ types)
      → slice_get ctx.locals first ≡ Some ty
  first_has first ty types have = subst (λ x. slice_get ctx.locals x ≡ Some ty) (omega arith) (have 0 ty refl)

  pub local_checked : (x : ℕ) (ty : ValType) (code : List Instr) (rest : Nest) (below after : List ValType)
      → IsTrue (is_number ty) → slice_get ctx.locals x ≡ Some ty → IsTyped ctx (sequence code rest) below after
      → IsTyped ctx (sequence (check_local n x ty ++ code) rest) below after
  local_checked x I32 code rest below after number there later =
      local_read x I32 (sequence (Numeric I64_EXTEND_I32_U ∷ Call (check_place n) ∷ code) rest) below after there
      (moved ctx (Numeric I64_EXTEND_I32_U) (I32 ∷ []) (I64 ∷ []) below
      (Plain (Call (check_place n)) (sequence code rest)) after refl (taken below (sequence code rest) after later))
  local_checked x I64 code rest below after number there later =
      local_read x I64 (sequence (Call (check_place n) ∷ code) rest) below after there
      (taken below (sequence code rest) after later)
  local_checked x F32 code rest below after number there later =
      local_read x F32
      (sequence (Numeric I32_REINTERPRET_F32 ∷ Numeric I64_EXTEND_I32_U ∷ Call (check_place n) ∷ code) rest) below after
      there
      (moved ctx (Numeric I32_REINTERPRET_F32) (F32 ∷ []) (I32 ∷ []) below
      (sequence (Numeric I64_EXTEND_I32_U ∷ Call (check_place n) ∷ code) rest) after refl
      (moved ctx (Numeric I64_EXTEND_I32_U) (I32 ∷ []) (I64 ∷ []) below
      (Plain (Call (check_place n)) (sequence code rest)) after refl (taken below (sequence code rest) after later)))
  local_checked x F64 code rest below after number there later =
      local_read x F64 (sequence (Numeric I64_REINTERPRET_F64 ∷ Call (check_place n) ∷ code) rest) below after there
      (moved ctx (Numeric I64_REINTERPRET_F64) (F64 ∷ []) (I64 ∷ []) below
      (Plain (Call (check_place n)) (sequence code rest)) after refl (taken below (sequence code rest) after later))
  local_checked x FuncRef code rest below after number there later = absurd (cc number)

  pub locals_checked : (first : ℕ) (types : List ValType) (code : List Instr) (rest : Nest) (below after : List ValType)
      → AllByRecursion (λ t. IsTrue (is_number t)) types → HaveTypes first types
      → IsTyped ctx (sequence code rest) below after
      → IsTyped ctx (sequence (check_locals n first types ++ code) rest) below after
  locals_checked first [] code rest below after numbers have later = later
  locals_checked first (ty ∷ types) code rest below after numbers have later =
      subst (λ l. IsTyped ctx (sequence l rest) below after)
      (sym (append_assoc (check_local n first ty) (check_locals n (first + 1) types) code))
      (local_checked first ty (check_locals n (first + 1) types ++ code) rest below after numbers.0
      (first_has first ty types have)
      (locals_checked (first + 1) types code rest below after numbers.1 (next_have first ty types have) later))

  pub locals_read : (first : ℕ) (types : List ValType) (code : List Instr) (rest : Nest) (below after : List ValType)
      → HaveTypes first types → IsTyped ctx (sequence code rest) (reverse types ++ below) after
      → IsTyped ctx (sequence (local_gets first (length types) ++ code) rest) below after
  locals_read first [] code rest below after have later = later
  locals_read first (ty ∷ types) code rest below after have later =
      local_read first ty (sequence (local_gets (first + 1) (length types) ++ code) rest) below after
      (first_has first ty types have)
      (locals_read (first + 1) types code rest (ty ∷ below) after (next_have first ty types have)
      (subst (λ s. IsTyped ctx (sequence code rest) s after) (pushed_first ty types below) later))

  -- the front of an import
  pub import_front_typed : (type : FuncType) (import : ℕ) → import < 2 ^ 64
      → AllByRecursion (λ t. IsTrue (is_number t)) type.params → HaveTypes 0 type.params
      → func_at ctx (behind n import) ≡ Some type
      → IsTyped ctx (sequence (import_front_code n type import) Empty) [] (reverse type.results)
  import_front_typed type import small numbers have has_type =
      number_checked import (check_locals n 0 type.params ++ (local_gets 0 (length type.params) ++ Call (behind n import) ∷ []))
      Empty [] (reverse type.results) small
      (locals_checked 0 type.params (local_gets 0 (length type.params) ++ Call (behind n import) ∷ []) Empty []
      (reverse type.results) numbers have
      (locals_read 0 type.params (Call (behind n import) ∷ []) Empty [] (reverse type.results) have
      (moved ctx (Call (behind n import)) (reverse type.params) (reverse type.results) [] Empty (reverse type.results)
      (ap (option_map call_of) has_type) (append-nil (reverse type.results)))))

  -- a result is kept in a local, if there is one
  results_kept : (x : ℕ) (results : List ValType) (code : List Instr) (rest : Nest) (after : List ValType)
      → length results < 2 → HaveTypes x results → IsTyped ctx (sequence code rest) [] after
      → IsTyped ctx (sequence (map (λ (ty : ValType). LocalSet x) results ++ code) rest) (reverse results ++ []) after
  results_kept x [] code rest after one have later = later
  results_kept x (ty ∷ []) code rest after one have later =
      moved ctx (LocalSet x) (ty ∷ []) [] [] (sequence code rest) after
      (ap (option_map (λ (t : ValType). Moves (t ∷ []) [])) (first_has x ty [] have)) later
  results_kept x (ty ∷ more ∷ results) code rest after one have later = absurd (omega (arith, one))

  -- the front of an original
  pub func_front_typed : (type : FuncType) (func : ℕ) → func < 2 ^ 64 → length type.results < 2
      → AllByRecursion (λ t. IsTrue (is_number t)) type.results → HaveTypes 0 type.params
      → HaveTypes (length type.params) type.results → func_at ctx func ≡ Some type
      → IsTyped ctx (sequence (func_front_code n type func) Empty) [] (reverse type.results)
  func_front_typed type func small one numbers have have_results has_type =
      let p = length type.params in
      let last = local_gets p (length type.results) in
      let third = check_locals n p type.results ++ last in
      let second = check_number n func ++ third in
      locals_read 0 type.params (Call func ∷ (map (λ (ty : ValType). LocalSet p) type.results ++ second)) Empty []
      (reverse type.results) have
      (moved ctx (Call func) (reverse type.params) (reverse type.results) []
      (sequence (map (λ (ty : ValType). LocalSet p) type.results ++ second) Empty) (reverse type.results)
      (ap (option_map call_of) has_type)
      (results_kept p type.results second Empty (reverse type.results) one have_results
      (number_checked func third Empty [] (reverse type.results) small
      (locals_checked p type.results last Empty [] (reverse type.results) numbers have_results
      (subst (λ l. IsTyped ctx (sequence l Empty) [] (reverse type.results)) (append-nil last)
      (locals_read p type.results [] Empty [] (reverse type.results) have_results
      (append-nil (reverse type.results))))))))
