-- The instructions of pieces of inserted code, one by one.
use Rattle.std.proofs.Common.{◌≡◌, ℕ, ◌+◌, List, [], ◌∷◌, length, Option, Some, None, true, nat_le, slice_get, slice_set, refl, sym, ap, ◌∙◌, subst, arith}
use Rattle.std.proofs.lemmas.Bool.Decides.{nat_tests}
use Rattle.base.specs.declared.opcodes.TheConstants.{I32_WRAP_I64, I64_EXTEND_I32_U, I32_REINTERPRET_F32, I64_REINTERPRET_F64}
use Rattle.wasm_syntax.specs.declared.values.ValType.{ValType}
use Rattle.wasm_syntax.specs.declared.values.ValType.TheVariants.{I32, I64, F32, F64}
use Rattle.wasm_syntax.specs.declared.values.Val.{Val}
use Rattle.wasm_syntax.specs.declared.signatures.FuncType.{FuncType}
use Rattle.wasm_syntax.specs.declared.instructions.Instr.{Instr}
use Rattle.wasm_syntax.specs.declared.instructions.Instr.TheVariants.{Call, LocalGet, LocalSet, LocalTee, Const, Numeric}
use Rattle.wasm_syntax.specs.Nest.{Nest, Plain}
use Rattle.wasm_syntax.proofs.ValTypes.{type_own}
use Rattle.wasm_numeric.specs.Integer.{wrap}
use Rattle.history_spec.specs.Store.{Store}
use Rattle.history_spec.specs.Code.{signature}
use Rattle.history_spec.specs.Configuration.{place, Frame, Activation}
use Rattle.history_spec.specs.Instruction.{Operands, Goes, Did, on, pop, takes, calls, execute_plain}
use Rattle.history_spec.specs.Step.{Program, Progress}
use Rattle.history_spec.specs.Run.{Meter}
use Rattle.record_replay_spec.specs.declared.hooks.Hook.{Hook}
use Rattle.record_replay_spec.specs.Hooks.{HookCall, hook_func, hook_params, hook_type}
use Rattle.instrumented_run_laws.proofs.Leads as leads
use Rattle.instrumented_run_laws.proofs.Weights.{AreWeights}

-- a value by its type and bits
abbrev pub typed : ValType → ℕ → Val
typed ty bits = record { ty = ty; bits = bits }

-- ---- operands

abbrev pub taken : List Val → List Val → Option Operands
taken operands rest = Some (record { operands = operands; rest = rest })

pub pop_none : (vs : List Val) → pop [] vs ≡ taken [] vs
pop_none vs =
    let enough : nat_le 0 (length vs) ≡ true = grind (arith, nat_tests) in rw enough refl

pub pop_one : (a : Val) (vs : List Val) → pop (a.ty ∷ []) (a ∷ vs) ≡ taken (a ∷ []) vs
pop_one a vs =
    let enough : nat_le 1 (length (a ∷ vs)) ≡ true = grind (arith, nat_tests) in
    rw enough (rw (type_own a.ty) refl)

pub pop_two : (a b : Val) (vs : List Val) → pop (a.ty ∷ b.ty ∷ []) (b ∷ a ∷ vs) ≡ taken (a ∷ b ∷ []) vs
pop_two a b vs =
    let enough : nat_le 2 (length (b ∷ a ∷ vs)) ≡ true = grind (arith, nat_tests) in
    rw enough (rw (type_own a.ty) (rw (type_own b.ty) refl))

pub pop_three : (a b c : Val) (vs : List Val)
    → pop (a.ty ∷ b.ty ∷ c.ty ∷ []) (c ∷ b ∷ a ∷ vs) ≡ taken (a ∷ b ∷ c ∷ []) vs
pop_three a b c vs =
    let enough : nat_le 3 (length (c ∷ b ∷ a ∷ vs)) ≡ true = grind (arith, nat_tests) in
    rw enough (rw (type_own a.ty) (rw (type_own b.ty) (rw (type_own c.ty) refl)))

pub pop_four : (a b c d : Val) (vs : List Val)
    → pop (a.ty ∷ b.ty ∷ c.ty ∷ d.ty ∷ []) (d ∷ c ∷ b ∷ a ∷ vs) ≡ taken (a ∷ b ∷ c ∷ d ∷ []) vs
pop_four a b c d vs =
    let enough : nat_le 4 (length (d ∷ c ∷ b ∷ a ∷ vs)) ≡ true = grind (arith, nat_tests) in
    rw enough (rw (type_own a.ty) (rw (type_own b.ty) (rw (type_own c.ty) (rw (type_own d.ty) refl))))

-- ---- steps within one activation, whose locals, values and place alone change

module _ (n : ℕ) (program : Program) (meter : Meter) (store : Store) (below : List Activation) (frame : Frame) where
  abbrev pub Leads : Progress → Progress → ℕ → List HookCall → Type 0
  Leads = leads.Leads n program meter

  abbrev pub standing : (locals values : List Val) → Nest → ℕ → Frame
  standing locals values rest number = record frame { locals = locals; values = values; at = place rest number }

  abbrev pub piece : List ℕ → (locals values : List Val) → Nest → ℕ → Progress
  piece counts locals values rest number =
      leads.settled n program meter store counts below (standing locals values rest number)

  -- the instructions from a number on take no turn
  abbrev pub AreFree : ℕ → List ℕ → Type 0
  AreFree = AreWeights meter frame.func

  abbrev pub IsFree : ℕ → Type 0
  IsFree number = meter.instruction frame.func number ≡ 0

  -- an instruction that leaves the store unchanged
  pub does : (counts : List ℕ) (locals after values left : List Val) (i : Instr) (rest : Nest) (number : ℕ)
      (operands results : List Val) → IsFree number
      → execute_plain program.code store (standing locals values (Plain i rest) number) (place rest (number + 1)) i
      ≡ Did operands results None (Goes store (standing after left rest (number + 1)))
      → Leads (piece counts locals values (Plain i rest) number) (piece counts after left rest (number + 1)) 0 []
  does counts locals after values left i rest number operands results free e =
      let from = standing locals values (Plain i rest) number in
      let next = standing after left rest (number + 1) in
      subst (λ p. Leads p (piece counts after left rest (number + 1)) 0 [])
      (sym (leads.settled_before n program meter store counts below from tt))
      (subst
      (λ w. Leads (leads.running n program meter store counts below from) (piece counts after left rest (number + 1)) w
      [])
      free (leads.goes n program meter store store counts below from next operands results None e))

  pub constant : (counts : List ℕ) (locals values : List Val) (v : Val) (rest : Nest) (number : ℕ) → IsFree number
      → Leads (piece counts locals values (Plain (Const v) rest) number)
      (piece counts locals (v ∷ values) rest (number + 1)) 0 []
  constant counts locals values v rest number free =
      does counts locals locals values (v ∷ values) (Const v) rest number [] (v ∷ []) free refl

  pub gets : (counts : List ℕ) (locals values : List Val) (x : ℕ) (v : Val) (rest : Nest) (number : ℕ)
      → IsFree number → slice_get locals x ≡ Some v
      → Leads (piece counts locals values (Plain (LocalGet x) rest) number)
      (piece counts locals (v ∷ values) rest (number + 1)) 0 []
  gets counts locals values x v rest number free there =
      does counts locals locals values (v ∷ values) (LocalGet x) rest number [] (v ∷ []) free (rw there refl)

  pub sets : (counts : List ℕ) (locals values : List Val) (x : ℕ) (old : Val) (bits : ℕ) (rest : Nest) (number : ℕ)
      → IsFree number → slice_get locals x ≡ Some old
      → Leads (piece counts locals (typed old.ty bits ∷ values) (Plain (LocalSet x) rest) number)
      (piece counts (slice_set locals x (typed old.ty bits)) values rest (number + 1)) 0 []
  sets counts locals values x old bits rest number free there =
      does counts locals (slice_set locals x (typed old.ty bits)) (typed old.ty bits ∷ values) values (LocalSet x) rest
      number (typed old.ty bits ∷ []) [] free (rw there (rw (pop_one (typed old.ty bits) values) refl))

  pub tees : (counts : List ℕ) (locals values : List Val) (x : ℕ) (old : Val) (bits : ℕ) (rest : Nest) (number : ℕ)
      → IsFree number → slice_get locals x ≡ Some old
      → Leads (piece counts locals (typed old.ty bits ∷ values) (Plain (LocalTee x) rest) number)
      (piece counts (slice_set locals x (typed old.ty bits)) (typed old.ty bits ∷ values) rest (number + 1)) 0 []
  tees counts locals values x old bits rest number free there =
      does counts locals (slice_set locals x (typed old.ty bits)) (typed old.ty bits ∷ values)
      (typed old.ty bits ∷ values) (LocalTee x) rest number (typed old.ty bits ∷ []) (typed old.ty bits ∷ []) free
      (rw there (rw (pop_one (typed old.ty bits) values) refl))

  -- a numeric instruction gives the bits of its operand another type
  abbrev Converts : (from to : ValType) → (op : ℕ) → Type 0
  Converts from to op =
      (counts : List ℕ) (locals values : List Val) (bits : ℕ) (rest : Nest) (number : ℕ) → IsFree number
      → Leads (piece counts locals (typed from bits ∷ values) (Plain (Numeric op) rest) number)
      (piece counts locals (typed to bits ∷ values) rest (number + 1)) 0 []

  pub extends : Converts I32 I64 I64_EXTEND_I32_U
  extends counts locals values bits rest number free =
      does counts locals locals (typed I32 bits ∷ values) (typed I64 bits ∷ values) (Numeric I64_EXTEND_I32_U) rest
      number (typed I32 bits ∷ []) (typed I64 bits ∷ []) free (rw (pop_one (typed I32 bits) values) refl)

  pub reads_float32 : Converts F32 I32 I32_REINTERPRET_F32
  reads_float32 counts locals values bits rest number free =
      does counts locals locals (typed F32 bits ∷ values) (typed I32 bits ∷ values) (Numeric I32_REINTERPRET_F32) rest
      number (typed F32 bits ∷ []) (typed I32 bits ∷ []) free (rw (pop_one (typed F32 bits) values) refl)

  pub reads_float64 : Converts F64 I64 I64_REINTERPRET_F64
  reads_float64 counts locals values bits rest number free =
      does counts locals locals (typed F64 bits ∷ values) (typed I64 bits ∷ values) (Numeric I64_REINTERPRET_F64) rest
      number (typed F64 bits ∷ []) (typed I64 bits ∷ []) free (rw (pop_one (typed F64 bits) values) refl)

  -- a hook is called with these arguments
  pub reports : (kind : Hook) → leads.IsAnswered n program meter kind
      → signature program.code (hook_func n kind) ≡ Some (hook_type kind)
      → (counts : List ℕ) (locals values left args : List Val) (rest : Nest) (number : ℕ) → IsFree number
      → pop (hook_params kind) values ≡ taken args left
      → Leads (piece counts locals values (Plain (Call (hook_func n kind)) rest) number)
      (piece (leads.counted n program meter counts kind) locals left rest (number + 1)) 0
      (record { kind = kind; args = args; view = store } ∷ [])
  reports kind is ty counts locals values left args rest number free popped =
      let from = standing locals values (Plain (Call (hook_func n kind)) rest) number in
      let waiting = standing locals left rest (number + 1) in
      let to = piece (leads.counted n program meter counts kind) locals left rest (number + 1) in
      let reported : List HookCall = record { kind = kind; args = args; view = store } ∷ [] in
      subst (λ p. Leads p to 0 reported) (sym (leads.settled_before n program meter store counts below from tt))
      (subst (λ w. Leads (leads.running n program meter store counts below from) to w reported) free
      (leads.hook_called n program meter kind is store counts below from waiting args
      (ap
      (λ o. on o (λ (ty : FuncType). takes from ty.params (λ operands rest'.
      calls from (place rest (number + 1)) operands rest' None (hook_func n kind) operands))) ty
      ∙ ap
      (λ o. on o (λ (p : Operands). calls from (place rest (number + 1)) p.operands p.rest None (hook_func n kind)
      p.operands)) popped)))

  pub wraps : (counts : List ℕ) (locals values : List Val) (bits : ℕ) (rest : Nest) (number : ℕ) → IsFree number
      → Leads (piece counts locals (typed I64 bits ∷ values) (Plain (Numeric I32_WRAP_I64) rest) number)
      (piece counts locals (typed I32 (wrap bits) ∷ values) rest (number + 1)) 0 []
  wraps counts locals values bits rest number free =
      does counts locals locals (typed I64 bits ∷ values) (typed I32 (wrap bits) ∷ values) (Numeric I32_WRAP_I64) rest
      number (typed I64 bits ∷ []) (typed I32 (wrap bits) ∷ []) free (rw (pop_one (typed I64 bits) values) refl)
