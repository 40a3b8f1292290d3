-- The pieces of inserted code: each takes no turn, makes its hook calls, and leaves the values unchanged.
use Rattle.std.proofs.Common.{◌≡◌, ℕ, suc, ◌+◌, List, [], ◌∷◌, ◌++◌, length, Some, slice_get, refl, sym, ap, ◌∙◌, subst, arith}
use Rattle.std.proofs.lemmas.List.{length-append}
use Rattle.base.specs.declared.opcodes.TheConstants.{I32_REINTERPRET_F32, I32_WRAP_I64, I64_EXTEND_I32_U}
use Rattle.wasm_syntax.specs.declared.values.ValType.{ValType}
use Rattle.wasm_syntax.specs.declared.values.ValType.TheVariants.{I32, I64, F32, F64, FuncRef}
use Rattle.wasm_syntax.specs.declared.values.Val.{Val}
use Rattle.wasm_syntax.specs.declared.instructions.MemArg.{MemArg}
use Rattle.wasm_syntax.specs.declared.instructions.Instr.{Instr}
use Rattle.wasm_syntax.specs.declared.instructions.Instr.TheVariants.{LocalGet, LocalSet, LocalTee, Numeric}
use Rattle.wasm_syntax.specs.Alike.{type_byte}
use Rattle.wasm_syntax.specs.Nest.{Nest, Plain}
use Rattle.wasm_syntax.specs.Opcodes.{Access}
use Rattle.wasm_numeric.specs.Integer.{wrap}
use Rattle.history_spec.specs.Store.{Store}
use Rattle.history_spec.specs.Code.{signature, i32_value, types_of}
use Rattle.history_spec.specs.Configuration.{Frame, Activation}
use Rattle.history_spec.specs.Instruction.{pop}
use Rattle.history_spec.specs.Step.{Program, Progress}
use Rattle.history_spec.specs.Run.{Meter}
use Rattle.record_replay_spec.specs.declared.hooks.Hook.{Hook}
use Rattle.record_replay_spec.specs.declared.hooks.Hook.TheVariants.{Arg, Load, Store as ToStore}
use Rattle.record_replay_spec.specs.Hooks.{HookCall, hook_func, hook_params, hook_type}
use Rattle.record_replay_spec.specs.Insertions.{Site, imports_at, calls, number, address_local, value_local, widened, reports_local, reports_number, reports_params, reports_index, reports_global, range_operands, reports_range, before_load, before_store, after_call}
use Rattle.record_replay_spec.specs.Instrumented.{before_nest, weightless}
use Rattle.record_replay_spec.specs.ReportedCalls.{i64_value, reported, reported_number, reported_values, reported_global}
use Rattle.record_replay_spec.proofs.Bodies.{length_weightless}
use Rattle.instrumented_run_laws.proofs.Leads as leads
use Rattle.instrumented_run_laws.proofs.Weights.{first_weights, later_weights}
use Rattle.instrumented_run_laws.proofs.PieceSteps as one
use Rattle.instrumented_run_laws.proofs.PieceSteps.{typed, taken, pop_one, pop_two, pop_three, pop_four}
use Rattle.instrumented_run_laws.proofs.Straight.{get_more}
use Rattle.instrumented_run_laws.proofs.Scratch.{Scratch, scratch_values, with_address, with_value, value_in, IsNumber, address_there, address_set, value_there, value_set, value_kept}

-- the code calls hooks by their types, and the host answers them by doing nothing
pub record HasHooks (n : ℕ) (program : Program) (meter : Meter) : Type 0 where
  pub answered : (kind : Hook) → leads.IsAnswered n program meter kind
  pub types : (kind : Hook) → signature program.code (hook_func n kind) ≡ Some (hook_type kind)

pub before_both : (a b : List Instr) (rest : Nest) → before_nest (a ++ b) rest ≡ before_nest a (before_nest b rest)
before_both [] b rest = refl
before_both (i ∷ a) b rest = ap (Plain i) (before_both a b rest)

pub weightless_both : (a b : List Instr) → weightless (a ++ b) ≡ weightless a ++ weightless b
weightless_both [] b = refl
weightless_both (i ∷ a) b = ap (λ l. 0 ∷ l) (weightless_both a b)

module _ (s : Site) (program : Program) (meter : Meter) (has : HasHooks (imports_at s) program meter) (store : Store)
    (below : List Activation) (frame : Frame) (own : List Val) (whole : s.locals ≡ length own) where
  abbrev n : ℕ
  n = imports_at s

  abbrev piece : List ℕ → Scratch → List Val → Nest → ℕ → Progress
  piece counts x values rest at = one.piece n program meter store below frame counts (own ++ scratch_values x) values
      rest at

  abbrev AreFree : ℕ → List ℕ → Type 0
  AreFree = one.AreFree n program meter store below frame

  abbrev counted : List ℕ → Hook → List ℕ
  counted = leads.counted n program meter

  -- with these counts, scratch locals and values, instructions of weight 0 lead to others, and make these hook calls
  pub record Makes (counts : List ℕ) (x : Scratch) (values : List Val) (is : List Instr) (reported : List HookCall)
      (after : List ℕ) (y : Scratch) (left : List Val) : Type 0 where
    pub leads : (rest : Nest) (at : ℕ) → AreFree at (weightless is)
        → leads.Leads n program meter (piece counts x values (before_nest is rest) at)
        (piece after y left rest (at + length is)) 0 reported

  -- two sequences of instructions
  pub both : {counts middle after : List ℕ} {x y z : Scratch} {values between left : List Val} {a b : List Instr}
      {calls later : List HookCall} → Makes counts x values a calls middle y between
      → Makes middle y between b later after z left → Makes counts x values (a ++ b) (calls ++ later) after z left
  both {counts = counts} {middle = middle} {after = after} {x = x} {y = y} {z = z} {values = values}
      {between = between} {left = left} {a = a} {b = b} {calls = calls} {later = later} first second =
      record { leads = go }
    where
      go : (rest : Nest) (at : ℕ) → AreFree at (weightless (a ++ b))
          → leads.Leads n program meter (piece counts x values (before_nest (a ++ b) rest) at)
          (piece after z left rest (at + length (a ++ b))) 0 (calls ++ later)
      go rest at free =
          let parts = subst (AreFree at) (weightless_both a b) free in
          let second_free =
          subst (λ k. AreFree (at + k) (weightless b)) (length_weightless a)
          (later_weights meter frame.func at (weightless a) (weightless b) parts)
          in
          let long = length-append a b in
          let number : at + length a + length b ≡ at + length (a ++ b) = omega (arith, long) in
          subst
          (λ nest. leads.Leads n program meter (piece counts x values nest at)
          (piece after z left rest (at + length (a ++ b))) 0 (calls ++ later))
          (sym (before_both a b rest))
          (subst
          (λ k. leads.Leads n program meter (piece counts x values (before_nest a (before_nest b rest)) at)
          (piece after z left rest k) 0 (calls ++ later))
          number
          (leads.then n program meter _ (piece middle y between (before_nest b rest) (at + length a)) _ 0 0 calls later
          (first.leads (before_nest b rest) at (first_weights meter frame.func at (weightless a) (weightless b) parts))
          (second.leads rest (at + length a) second_free)))

  -- one instruction, and others after it
  pub also : {counts middle after : List ℕ} {x y z : Scratch} {values between left : List Val} {i : Instr}
      {b : List Instr} {calls later : List HookCall} → Makes counts x values (i ∷ []) calls middle y between
      → Makes middle y between b later after z left → Makes counts x values (i ∷ b) (calls ++ later) after z left
  also first second = both first second

  -- ---- single instructions

  pub puts : (counts : List ℕ) (x : Scratch) (values : List Val) (bits : ℕ)
      → Makes counts x values (number bits ∷ []) [] counts x (i32_value bits ∷ values)
  puts counts x values bits =
      record {
        leads = λ rest at free.
            one.constant n program meter store below frame counts _ values (i32_value bits) rest at free.0;
      }

  -- an instruction that changes a scratch local
  sets_local : (counts : List ℕ) (x y : Scratch) (values left : List Val) (i : Instr) (locals : List Val)
      → locals ≡ own ++ scratch_values y
      → ((rest : Nest) (at : ℕ) → one.IsFree n program meter store below frame at
      → leads.Leads n program meter (piece counts x values (Plain i rest) at)
      (one.piece n program meter store below frame counts locals left rest (at + 1)) 0 [])
      → Makes counts x values (i ∷ []) [] counts y left
  sets_local counts x y values left i locals same led =
      record {
        leads = λ rest at free.
            subst
            (λ l. leads.Leads n program meter (piece counts x values (Plain i rest) at)
            (one.piece n program meter store below frame counts l left rest (at + 1)) 0 [])
            same (led rest at free.0);
      }

  pub keeps_address : (counts : List ℕ) (x : Scratch) (values : List Val) (bits : ℕ)
      → Makes counts x (i32_value bits ∷ values) (LocalTee (address_local s) ∷ []) [] counts (with_address x bits)
      (i32_value bits ∷ values)
  keeps_address counts x values bits =
      sets_local counts x (with_address x bits) (i32_value bits ∷ values) (i32_value bits ∷ values) _ _
      (address_set s own whole x bits) (λ rest at free.
      one.tees n program meter store below frame counts (own ++ scratch_values x) values (address_local s)
      (typed I32 x.address) bits rest at free (address_there s own whole x))

  pub sets_address : (counts : List ℕ) (x : Scratch) (values : List Val) (bits : ℕ)
      → Makes counts x (i32_value bits ∷ values) (LocalSet (address_local s) ∷ []) [] counts (with_address x bits)
      values
  sets_address counts x values bits =
      sets_local counts x (with_address x bits) (i32_value bits ∷ values) values _ _ (address_set s own whole x bits)
      (λ rest at free.
      one.sets n program meter store below frame counts (own ++ scratch_values x) values (address_local s)
      (typed I32 x.address) bits rest at free (address_there s own whole x))

  pub gets_address : (counts : List ℕ) (x : Scratch) (values : List Val)
      → Makes counts x values (LocalGet (address_local s) ∷ []) [] counts x (i32_value x.address ∷ values)
  gets_address counts x values =
      record {
        leads = λ rest at free.
            one.gets n program meter store below frame counts (own ++ scratch_values x) values (address_local s)
            (typed I32 x.address) rest at free.0 (address_there s own whole x);
      }

  pub sets_value : (counts : List ℕ) (x : Scratch) (values : List Val) (ty : ValType) (bits : ℕ) → IsNumber ty
      → Makes counts x (typed ty bits ∷ values) (LocalSet (value_local s ty) ∷ []) [] counts (with_value ty x bits)
      values
  sets_value counts x values ty bits is =
      sets_local counts x (with_value ty x bits) (typed ty bits ∷ values) values _ _ (value_set s own whole x ty bits is)
      (λ rest at free.
      one.sets n program meter store below frame counts (own ++ scratch_values x) values (value_local s ty)
      (typed ty (value_in ty x)) bits rest at free (value_there s own whole x ty is))

  pub gets_value : (counts : List ℕ) (x : Scratch) (values : List Val) (ty : ValType) → IsNumber ty
      → Makes counts x values (LocalGet (value_local s ty) ∷ []) [] counts x (typed ty (value_in ty x) ∷ values)
  gets_value counts x values ty is =
      record {
        leads = λ rest at free.
            one.gets n program meter store below frame counts (own ++ scratch_values x) values (value_local s ty)
            (typed ty (value_in ty x)) rest at free.0 (value_there s own whole x ty is);
      }

  pub calls_hook : (kind : Hook) (counts : List ℕ) (x : Scratch) (values left args : List Val)
      → pop (hook_params kind) values ≡ taken args left
      → Makes counts x values (calls s kind ∷ []) (reported kind args store) (counted counts kind) x left
  calls_hook kind counts x values left args popped =
      record {
        leads = λ rest at free.
            one.reports n program meter store below frame kind (has.answered kind) (has.types kind) counts
            (own ++ scratch_values x) values left args rest at free.0 popped;
      }

  pub extends : (counts : List ℕ) (x : Scratch) (values : List Val) (bits : ℕ)
      → Makes counts x (typed I32 bits ∷ values) (Numeric I64_EXTEND_I32_U ∷ []) [] counts x (typed I64 bits ∷ values)
  extends counts x values bits =
      record {
        leads = λ rest at free.
            one.extends n program meter store below frame counts (own ++ scratch_values x) values bits rest at free.0;
      }

  reads_float32 : (counts : List ℕ) (x : Scratch) (values : List Val) (bits : ℕ)
      → Makes counts x (typed F32 bits ∷ values) (Numeric I32_REINTERPRET_F32 ∷ []) [] counts x
      (typed I32 bits ∷ values)
  reads_float32 counts x values bits =
      record {
        leads = λ rest at free.
            one.reads_float32 n program meter store below frame counts (own ++ scratch_values x) values bits rest at
            free.0;
      }

  pub nothing : (counts : List ℕ) (x : Scratch) (values : List Val) → Makes counts x values [] [] counts x values
  nothing counts x values =
      record {
        leads = λ rest at free.
            let e : at ≡ at + 0 = omega arith in
            let from = piece counts x values rest at in
            subst (λ k. leads.Leads n program meter from (piece counts x values rest k) 0 []) e
            (leads.here n program meter from);
      }

  pub widens : (counts : List ℕ) (x : Scratch) (values : List Val) (ty : ValType) (bits : ℕ) → IsNumber ty
      → Makes counts x (typed ty bits ∷ values) (widened ty) [] counts x (i64_value bits ∷ values)
  widens counts x values I32 bits is = extends counts x values bits
  widens counts x values I64 bits is = nothing counts x (typed I64 bits ∷ values)
  widens counts x values F32 bits is = also (reads_float32 counts x values bits) (extends counts x values bits)
  widens counts x values F64 bits is =
      record {
        leads = λ rest at free.
            one.reads_float64 n program meter store below frame counts (own ++ scratch_values x) values bits rest at
            free.0;
      }
  widens counts x values FuncRef bits is = absurd is

  -- ---- pieces

  -- a hook reports one number
  pub reports_one : (kind : Hook) → hook_params kind ≡ I32 ∷ [] → (counts : List ℕ) (x : Scratch) (values : List Val)
      (bits : ℕ)
      → Makes counts x values (reports_number s kind bits) (reported_number kind bits store) (counted counts kind) x values
  reports_one kind params counts x values bits =
      also (puts counts x values bits)
      (calls_hook kind counts x (i32_value bits ∷ values) values (i32_value bits ∷ [])
      (ap (λ types. pop types (i32_value bits ∷ values)) params ∙ pop_one (i32_value bits) values))

  -- a hook reports an index or a result on the stack
  pub reports_top : (kind : Hook) → hook_params kind ≡ I32 ∷ [] → (counts : List ℕ) (x : Scratch) (values : List Val)
      (bits : ℕ)
      → Makes counts x (i32_value bits ∷ values) (reports_index s kind) (reported_number kind bits store) (counted counts
      kind)
      (with_address x bits) (i32_value bits ∷ values)
  reports_top kind params counts x values bits =
      let y = with_address x bits in
      also (keeps_address counts x values bits)
      (also
      (calls_hook kind counts y (i32_value bits ∷ values) values (i32_value bits ∷ [])
      (ap (λ types. pop types (i32_value bits ∷ values)) params ∙ pop_one (i32_value bits) values))
      (gets_address (counted counts kind) y values))

  -- the code before a load
  pub reports_load : (counts : List ℕ) (x : Scratch) (values : List Val) (at : MemArg) (access : Access) (base : ℕ)
      → Makes counts x (i32_value base ∷ values) (before_load s at access)
      (reported Load (i32_value base ∷ i32_value at.offset ∷ i32_value access.width ∷ []) store) (counted counts Load)
      (with_address x base) (i32_value base ∷ values)
  reports_load counts x values at access base =
      let y = with_address x base in
      let v = i32_value base in
      let o = i32_value at.offset in
      let w = i32_value access.width in
      also (keeps_address counts x values base)
      (also (puts counts y (v ∷ values) at.offset)
      (also (puts counts y (o ∷ v ∷ values) access.width)
      (also (calls_hook Load counts y (w ∷ o ∷ v ∷ values) values (v ∷ o ∷ w ∷ []) (pop_three v o w values))
      (gets_address (counted counts Load) y values))))

  -- a value in its local is read
  pub gets_kept : (counts : List ℕ) (x : Scratch) (values : List Val) (ty : ValType) (bits : ℕ) → IsNumber ty
      → value_in ty x ≡ bits
      → Makes counts x values (LocalGet (value_local s ty) ∷ []) [] counts x (typed ty bits ∷ values)
  gets_kept counts x values ty bits is kept =
      subst
      (λ b. Makes counts x values (LocalGet (value_local s ty) ∷ []) [] counts x (typed ty b ∷ values)) kept
      (gets_value counts x values ty is)

  -- the bits of a value in its local are read
  pub gets_bits : (counts : List ℕ) (x : Scratch) (values : List Val) (ty : ValType) (bits : ℕ) → IsNumber ty
      → value_in ty x ≡ bits
      → Makes counts x values (LocalGet (value_local s ty) ∷ widened ty) [] counts x (i64_value bits ∷ values)
  gets_bits counts x values ty bits is kept =
      also (gets_kept counts x values ty bits is kept) (widens counts x values ty bits is)

  -- the code around an access of a global
  pub reports_value : (kind : Hook) → hook_params kind ≡ I32 ∷ I64 ∷ [] → (counts : List ℕ) (x : Scratch)
      (values : List Val) (global bits : ℕ) (ty : ValType) → IsNumber ty
      → Makes counts x (typed ty bits ∷ values) (reports_global s kind global ty) (reported_global kind global bits store)
      (counted counts kind) (with_value ty x bits) (typed ty bits ∷ values)
  reports_value kind params counts x values global bits ty is =
      let y = with_value ty x bits in
      let g = i32_value global in
      let b = i64_value bits in
      also (sets_value counts x values ty bits is)
      (also (puts counts y values global)
      (both (gets_bits counts y (g ∷ values) ty bits is (value_kept ty x bits))
      (also
      (calls_hook kind counts y (b ∷ g ∷ values) values (g ∷ b ∷ [])
      (ap (λ types. pop types (b ∷ g ∷ values)) params ∙ pop_two g b values))
      (gets_kept (counted counts kind) y values ty bits is (value_kept ty x bits)))))

  value_beside : (ty : ValType) (x : Scratch) (bits base : ℕ)
      → value_in ty (with_address (with_value ty x bits) base) ≡ bits
  value_beside I32 x bits base = refl
  value_beside I64 x bits base = refl
  value_beside F32 x bits base = refl
  value_beside F64 x bits base = refl
  value_beside FuncRef x bits base = refl

  -- the code before a store
  pub reports_store : (counts : List ℕ) (x : Scratch) (values : List Val) (at : MemArg) (access : Access)
      (base bits : ℕ) → IsNumber access.ty
      → Makes counts x (typed access.ty bits ∷ i32_value base ∷ values) (before_store s at access)
      (reported ToStore (i32_value base ∷ i32_value at.offset ∷ i32_value access.width ∷ i64_value bits ∷ []) store)
      (counted counts ToStore) (with_address (with_value access.ty x bits) base)
      (typed access.ty bits ∷ i32_value base ∷ values)
  reports_store counts x values at access base bits is =
      let y = with_value access.ty x bits in
      let z = with_address y base in
      let v = i32_value base in
      let o = i32_value at.offset in
      let w = i32_value access.width in
      let b = i64_value bits in
      let kept = value_beside access.ty x bits base in
      also (sets_value counts x (v ∷ values) access.ty bits is)
      (also (keeps_address counts y values base)
      (also (puts counts z (v ∷ values) at.offset)
      (also (puts counts z (o ∷ v ∷ values) access.width)
      (both (gets_bits counts z (w ∷ o ∷ v ∷ values) access.ty bits is kept)
      (also
      (calls_hook ToStore counts z (b ∷ w ∷ o ∷ v ∷ values) values (v ∷ o ∷ w ∷ b ∷ []) (pop_four v o w b values))
      (also (gets_address (counted counts ToStore) z values)
      (gets_kept (counted counts ToStore) z (v ∷ values) access.ty bits is kept)))))))

  -- ---- parameters and results

  pub gets_own : (counts : List ℕ) (x : Scratch) (values : List Val) (local : ℕ) (v : Val)
      → slice_get own local ≡ Some v
      → Makes counts x values (LocalGet local ∷ []) [] counts x (v ∷ values)
  gets_own counts x values local v there =
      record {
        leads = λ rest at free.
            one.gets n program meter store below frame counts (own ++ scratch_values x) values local v rest at free.0
            (get_more own (scratch_values x) local v there);
      }

  -- a hook reports a value that a local holds
  reports_held : (counts : List ℕ) (x : Scratch) (values : List Val) (ty : ValType) (bits local : ℕ) → IsNumber ty
      → ((values : List Val)
      → Makes counts x values (LocalGet local ∷ []) [] counts x (typed ty bits ∷ values))
      → Makes counts x values (reports_local s ty local)
      (reported Arg (i32_value (type_byte ty) ∷ i64_value bits ∷ []) store) (counted counts Arg) x values
  reports_held counts x values ty bits local is gets =
      let t = i32_value (type_byte ty) in
      let b = i64_value bits in
      also (puts counts x values (type_byte ty))
      (both (also (gets (t ∷ values)) (widens counts x (t ∷ values) ty bits is))
      (calls_hook Arg counts x (b ∷ t ∷ values) values (t ∷ b ∷ []) (pop_two t b values)))

  abbrev pub AreNumbers : List Val → Type 0
  AreNumbers [] = Unit {0}
  AreNumbers (v ∷ values) = IsNumber v.ty × AreNumbers values

  -- the counts after hook calls for these values
  abbrev pub counted_args : List ℕ → List Val → List ℕ
  counted_args counts [] = counts
  counted_args counts (v ∷ args) = counted_args (counted counts Arg) args

  -- hooks report the parameters
  pub reports_args : (counts : List ℕ) (x : Scratch) (values args : List Val) (local : ℕ) → AreNumbers args
      → ((j : ℕ) (v : Val) → slice_get args j ≡ Some v → slice_get own (local + j) ≡ Some v)
      → Makes counts x values (reports_params s local (types_of args)) (reported_values store args) (counted_args counts args)
      x
      values
  reports_args counts x values [] local are there = nothing counts x values
  reports_args counts x values (v ∷ args) local are there =
      let first : slice_get own local ≡ Some v =
      (let e : local ≡ local + 0 = omega arith in ap (slice_get own) e ∙ there 0 v refl)
      in
      both (reports_held counts x values v.ty v.bits local are.0 (λ values. gets_own counts x values local v first))
      (reports_args (counted counts Arg) x values args (local + 1) are.1
      (λ j w h. let e : local + 1 + j ≡ local + suc j = omega arith in ap (slice_get own) e ∙ there (suc j) w h))

  -- the code after a call with a result
  pub reports_result : (over : List Instr) (kind : Hook) (args : List Val)
      → ((counts : List ℕ) (x : Scratch) (values : List Val)
      → Makes counts x values over (reported kind args store) (counted counts kind) x values)
      → (counts : List ℕ) (x : Scratch) (values : List Val) (ty : ValType) (bits : ℕ) → IsNumber ty
      → Makes counts x (typed ty bits ∷ values) (after_call s over (ty ∷ []))
      (reported_values store (typed ty bits ∷ []) ++ reported kind args store) (counted (counted counts Arg) kind)
      (with_value ty x bits) (typed ty bits ∷ values)
  reports_result over kind args over_reported counts x values ty bits is =
      let y = with_value ty x bits in
      also (sets_value counts x values ty bits is)
      (both
      (reports_held counts y values ty bits (value_local s ty) is
      (λ values. gets_kept counts y values ty bits is (value_kept ty x bits)))
      (both (over_reported (counted counts Arg) y values)
      (gets_kept (counted (counted counts Arg) kind) y values ty bits is (value_kept ty x bits))))

  -- ---- copies and fills

  gets_range : (counts : List ℕ) (x : Scratch) (values : List Val) (a b c : ℕ) → wrap a ≡ a
      → Makes counts (with_value I64 (with_address (with_value I32 x c) b) a) values (range_operands s) [] counts
      (with_value I64 (with_address (with_value I32 x c) b) a) (i32_value c ∷ i32_value b ∷ i32_value a ∷ values)
  gets_range counts x values a b c within =
      let y = with_value I64 (with_address (with_value I32 x c) b) a in
      also (gets_value counts y values I64 tt)
      (also
      (subst
      (λ bits. Makes counts y (typed I64 a ∷ values) (Numeric I32_WRAP_I64 ∷ []) [] counts y (i32_value bits ∷ values))
      within
      (record {
        leads = λ rest at free.
            one.wraps n program meter store below frame counts (own ++ scratch_values y) values a rest at free.0;
      }))
      (also (gets_address counts y (i32_value a ∷ values)) (gets_value counts y (i32_value b ∷ i32_value a ∷ values) I32
      tt)))

  -- the code around the operands of a copy or a fill
  pub reports_operands : (kind : Hook) → hook_params kind ≡ I32 ∷ I32 ∷ I32 ∷ [] → (counts : List ℕ) (x : Scratch)
      (values : List Val) (a b c : ℕ) → wrap a ≡ a
      → Makes counts x (i32_value c ∷ i32_value b ∷ i32_value a ∷ values) (reports_range s kind)
      (reported kind (i32_value a ∷ i32_value b ∷ i32_value c ∷ []) store) (counted counts kind)
      (with_value I64 (with_address (with_value I32 x c) b) a) (i32_value c ∷ i32_value b ∷ i32_value a ∷ values)
  reports_operands kind params counts x values a b c within =
      let y = with_value I32 x c in
      let z = with_address y b in
      let u = i32_value a in
      let v = i32_value b in
      let w = i32_value c in
      also (sets_value counts x (v ∷ u ∷ values) I32 c tt)
      (also (sets_address counts y (u ∷ values) b)
      (also (extends counts z values a)
      (also (sets_value counts z values I64 a tt)
      (both (gets_range counts x values a b c within)
      (also
      (calls_hook kind counts (with_value I64 z a) (w ∷ v ∷ u ∷ values) values (u ∷ v ∷ w ∷ [])
      (ap (λ types. pop types (w ∷ v ∷ u ∷ values)) params ∙ pop_three u v w values))
      (gets_range (counted counts kind) x values a b c within))))))
