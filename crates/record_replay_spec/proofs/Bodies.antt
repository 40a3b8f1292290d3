-- Instrumented bodies: inserted instructions are plain, each instruction has its weight, and locals are added.
use Rattle.std.proofs.Common.{◌≡◌, ℕ, ◌+◌, List, [], ◌∷◌, ◌++◌, length, sum_by, Option, Some, None, Bool, true, false, cond, replicate, slice_get, refl, sym, ap, ◌∙◌, suc, arith}
use Rattle.std.specs.List.{list_all}
use Rattle.std.proofs.lemmas.List.{length-append, replicate_more, append_assoc, append-nil}
use Rattle.std.proofs.lemmas.List.Sums.{sum_by-append}
use Rattle.base.proofs.Booleans.{and_parts, and_true}
use Rattle.wasm_syntax.specs.declared.values.ValType.{ValType}
use Rattle.wasm_syntax.specs.declared.values.ValType.TheVariants.{I32, I64, F32, F64, FuncRef}
use Rattle.wasm_syntax.specs.declared.signatures.FuncType.{FuncType}
use Rattle.wasm_syntax.specs.declared.instructions.Instr.{Instr}
use Rattle.wasm_syntax.specs.declared.instructions.Instr.TheVariants.{Call, CallIndirect, Load, Store, GlobalGet, GlobalSet, LocalGet}
use Rattle.wasm_syntax.specs.declared.modules.Run.{Run}
use Rattle.wasm_syntax.specs.Alike.{same_type}
use Rattle.wasm_syntax.specs.Index.{type_at, func_type, all_globals}
use Rattle.wasm_syntax.specs.Nest.{Nest, Empty, Plain, InBlock, InLoop, InIf, InIfElse, is_plain, IsNest, size}
use Rattle.wasm_syntax.specs.Opcodes.{load_of, store_of}
use Rattle.wasm_syntax.specs.Validity.{each_local}
use Rattle.wasm_syntax.proofs.ValTypes.{type_same}
use Rattle.record_replay_spec.specs.declared.hooks.Hook.TheVariants.{Enter}
use Rattle.record_replay_spec.specs.Hooks.{on}
use Rattle.record_replay_spec.specs.Insertions.{Site, imports_at, value_local, widened, reports_local, reports_number, reports_params, before_load, before_store, after_call, inserted_before, inserted_after, inserted_at_enter, inserted_at_end}
use Rattle.record_replay_spec.specs.Instrumented.{renumbered, before_nest, instrumented_nest, instrumented_body, weightless, weights_of_nest, weights_of_body, locals_of, added_after, with_added_locals}
use Rattle.record_replay_spec.specs.HookLaws.{BodiesAreInstrumented}

-- ---- inserted instructions are plain

abbrev ArePlain : List Instr → Type 0
ArePlain is = list_all is_plain is ≡ true

plain_both : (a b : List Instr) → ArePlain a → ArePlain b → ArePlain (a ++ b)
plain_both [] b h k = k
plain_both (i ∷ a) b h k =
    let p = and_parts (is_plain i) (list_all is_plain a) h in
    and_true (is_plain i) (list_all is_plain (a ++ b)) p.0 (plain_both a b p.1 k)

plain_on : {X : Type 0} (o : Option X) (make : X → List Instr) → ((x : X) → ArePlain (make x)) → ArePlain (on o make)
plain_on None make each = refl
plain_on (Some x) make each = each x

widened_plain : (ty : ValType) → ArePlain (widened ty)
widened_plain I32 = refl
widened_plain I64 = refl
widened_plain F32 = refl
widened_plain F64 = refl
widened_plain FuncRef = refl

-- a value's bits, and more instructions
with_widened : (ty : ValType) (is : List Instr) → ArePlain is → ArePlain (widened ty ++ is)
with_widened ty is h = plain_both (widened ty) is (widened_plain ty) h

params_plain : (s : Site) (local : ℕ) (types : List ValType) → ArePlain (reports_params s local types)
params_plain s local [] = refl
params_plain s local (ty ∷ types) =
    plain_both (reports_local s ty local) (reports_params s (local + 1) types) (with_widened ty _ refl)
    (params_plain s (local + 1) types)

after_call_plain : (s : Site) (over : List Instr) (results : List ValType) → ArePlain over
    → ArePlain (after_call s over results)
after_call_plain s over [] h = h
after_call_plain s over (ty ∷ types) h =
    plain_both (reports_local s ty (value_local s ty)) (over ++ LocalGet (value_local s ty) ∷ []) (with_widened ty _ refl)
    (plain_both over (LocalGet (value_local s ty) ∷ []) h refl)

before_plain : (s : Site) (i : Instr) → ArePlain (inserted_before s i)
before_plain s (Load at) = plain_on (load_of at.op) (before_load s at) (λ access. refl)
before_plain s (Store at) =
    plain_on (store_of at.op) (before_store s at) (λ access. with_widened access.ty _ refl)
before_plain s (GlobalSet global) =
    plain_on (slice_get (all_globals s.m) global) _ (λ ty. with_widened ty.ty _ refl)
before_plain s i = refl

mutable_plain : (b : Bool) (is : List Instr) → ArePlain is → ArePlain (cond b is [])
mutable_plain true is h = h
mutable_plain false is h = refl

after_plain : (s : Site) (i : Instr) → ArePlain (inserted_after s i)
after_plain s (Call func) = plain_on (func_type s.m func) _ (λ ty. after_call_plain s _ ty.results refl)
after_plain s (CallIndirect t) = plain_on (type_at s.m t) _ (λ ty. after_call_plain s _ ty.results refl)
after_plain s (GlobalGet global) =
    plain_on (slice_get (all_globals s.m) global) _ (λ ty. mutable_plain ty.mutable _ (with_widened ty.ty _ refl))
after_plain s i = refl

renumbered_plain : (n : ℕ) (i : Instr) → is_plain i ≡ true → is_plain (renumbered n i) ≡ true
renumbered_plain n (Call func) h = refl
renumbered_plain n i h = h

nest_before : (is : List Instr) (nest : Nest) → ArePlain is → IsNest nest → IsNest (before_nest is nest)
nest_before [] nest h stands = stands
nest_before (i ∷ is) nest h stands =
    let p = and_parts (is_plain i) (list_all is_plain is) h in (p.0, nest_before is nest p.1 stands)

nest_instrumented : (s : Site) (nest : Nest) → IsNest nest → IsNest (instrumented_nest s nest)
nest_instrumented s Empty stands = stands
nest_instrumented s (Plain i rest) stands =
    nest_before (inserted_before s i) _ (before_plain s i) (
      renumbered_plain (imports_at s) i stands.0,
      nest_before (inserted_after s i) _ (after_plain s i) (nest_instrumented s rest stands.1),
    )
nest_instrumented s (InBlock ty body rest) stands =
    (nest_instrumented s body stands.0, nest_instrumented s rest stands.1)
nest_instrumented s (InLoop ty body rest) stands =
    (nest_instrumented s body stands.0, nest_instrumented s rest stands.1)
nest_instrumented s (InIf ty body rest) stands =
    (nest_instrumented s body stands.0, nest_instrumented s rest stands.1)
nest_instrumented s (InIfElse ty body other rest) stands =
    (nest_instrumented s body stands.0, nest_instrumented s other stands.1, nest_instrumented s rest stands.2)

body_nested : (s : Site) (ty : FuncType) (nest : Nest) → IsNest nest → IsNest (instrumented_body s ty nest)
body_nested s ty nest stands =
    nest_before (inserted_at_enter s ty.params) _
    (plain_both (reports_params s 0 ty.params) (reports_number s Enter s.func) (params_plain s 0 ty.params) refl)
    (nest_instrumented s nest stands, nest_before (inserted_at_end s) Empty refl tt)

-- ---- weights

size_before : (is : List Instr) (nest : Nest) → size (before_nest is nest) ≡ length is + size nest
size_before [] nest = omega arith
size_before (i ∷ is) nest = let e = size_before is nest in omega (arith, e)

pub length_weightless : (is : List Instr) → length (weightless is) ≡ length is
length_weightless [] = refl
length_weightless (i ∷ is) = ap suc (length_weightless is)

abbrev sum_of : List ℕ → ℕ
sum_of weights = sum_by (λ weight. weight) weights

sum_weightless : (is : List Instr) → sum_of (weightless is) ≡ 0
sum_weightless [] = refl
sum_weightless (i ∷ is) = sum_weightless is

sum_both : (a b : List ℕ) → sum_of (a ++ b) ≡ sum_of a + sum_of b
sum_both a b = sum_by-append (λ weight. weight) a b

sum_first : (x : ℕ) (xs : List ℕ) → sum_of (x ∷ xs) ≡ x + sum_of xs
sum_first x xs =
    let p : sum_of (x ∷ xs) ≡ sum_of (x ∷ []) + sum_of xs = sum_both (x ∷ []) xs in
    let q : sum_of (x ∷ []) ≡ 0 + x = refl in omega (arith, p, q)

-- the number of weights of instructions around a sequence, with one that counts
length_round : (a b : List Instr) (w : List ℕ) (weight : ℕ)
    → length (weightless a ++ weight ∷ (weightless b ++ w)) ≡ length a + (1 + (length b + length w))
length_round a b w weight =
    let p = length-append (weightless a) (weight ∷ (weightless b ++ w)) in
    let q = length-append (weightless b) w in
    let r = length_weightless a in
    let s = length_weightless b in
    omega (arith, p, q, r, s)

sum_round : (a b : List Instr) (w : List ℕ) (weight : ℕ)
    → sum_of (weightless a ++ weight ∷ (weightless b ++ w)) ≡ weight + sum_of w
sum_round a b w weight =
    let p = sum_both (weightless a) (weight ∷ (weightless b ++ w)) in
    let f = sum_first weight (weightless b ++ w) in
    let q = sum_both (weightless b) w in
    let r = sum_weightless a in
    let s = sum_weightless b in
    omega (arith, f, p, q, r, s)

nest_weighed : (s : Site) (nest : Nest) → length (weights_of_nest s nest) ≡ size (instrumented_nest s nest)
nest_weighed s Empty = refl
nest_weighed s (Plain i rest) =
    let a = inserted_before s i in
    let b = inserted_after s i in
    let p = length_round a b (weights_of_nest s rest) 1 in
    let q = nest_weighed s rest in
    let r = size_before b (instrumented_nest s rest) in
    let t = size_before a (Plain (renumbered (imports_at s) i) (before_nest b (instrumented_nest s rest))) in
    omega (arith, p, q, r, t)
nest_weighed s (InBlock ty body rest) =
    let p = length-append (weights_of_nest s body) (weights_of_nest s rest) in
    let q = nest_weighed s body in
    let r = nest_weighed s rest in omega (arith, p, q, r)
nest_weighed s (InLoop ty body rest) =
    let p = length-append (weights_of_nest s body) (weights_of_nest s rest) in
    let q = nest_weighed s body in
    let r = nest_weighed s rest in omega (arith, p, q, r)
nest_weighed s (InIf ty body rest) =
    let p = length-append (weights_of_nest s body) (weights_of_nest s rest) in
    let q = nest_weighed s body in
    let r = nest_weighed s rest in omega (arith, p, q, r)
nest_weighed s (InIfElse ty body other rest) =
    let p = length-append (weights_of_nest s body) (weights_of_nest s other ++ weights_of_nest s rest) in
    let t = length-append (weights_of_nest s other) (weights_of_nest s rest) in
    let q = nest_weighed s body in
    let u = nest_weighed s other in
    let r = nest_weighed s rest in omega (arith, p, q, r, t, u)

nest_weight : (s : Site) (nest : Nest) → sum_of (weights_of_nest s nest) ≡ size nest
nest_weight s Empty = refl
nest_weight s (Plain i rest) =
    let p = sum_round (inserted_before s i) (inserted_after s i) (weights_of_nest s rest) 1 in
    let q = nest_weight s rest in omega (arith, p, q)
nest_weight s (InBlock ty body rest) =
    let f = sum_first 1 (weights_of_nest s body ++ weights_of_nest s rest) in
    let p = sum_both (weights_of_nest s body) (weights_of_nest s rest) in
    let q = nest_weight s body in
    let r = nest_weight s rest in omega (arith, f, p, q, r)
nest_weight s (InLoop ty body rest) =
    let f = sum_first 1 (weights_of_nest s body ++ weights_of_nest s rest) in
    let p = sum_both (weights_of_nest s body) (weights_of_nest s rest) in
    let q = nest_weight s body in
    let r = nest_weight s rest in omega (arith, f, p, q, r)
nest_weight s (InIf ty body rest) =
    let f = sum_first 1 (weights_of_nest s body ++ weights_of_nest s rest) in
    let p = sum_both (weights_of_nest s body) (weights_of_nest s rest) in
    let q = nest_weight s body in
    let r = nest_weight s rest in omega (arith, f, p, q, r)
nest_weight s (InIfElse ty body other rest) =
    let f = sum_first 1 (weights_of_nest s body ++ (weights_of_nest s other ++ weights_of_nest s rest)) in
    let p = sum_both (weights_of_nest s body) (weights_of_nest s other ++ weights_of_nest s rest) in
    let t = sum_both (weights_of_nest s other) (weights_of_nest s rest) in
    let q = nest_weight s body in
    let u = nest_weight s other in
    let r = nest_weight s rest in omega (arith, f, p, q, r, t, u)

body_weighed : (s : Site) (ty : FuncType) (nest : Nest)
    → length (weights_of_body s ty nest) ≡ size (instrumented_body s ty nest)
body_weighed s ty nest =
    let first = inserted_at_enter s ty.params in
    let end = inserted_at_end s in
    let p = length-append (weightless first) (0 ∷ (weights_of_nest s nest ++ weightless end)) in
    let q = length-append (weights_of_nest s nest) (weightless end) in
    let r = length_weightless first in
    let t = length_weightless end in
    let u = nest_weighed s nest in
    let v =
    size_before first (InBlock (slice_get ty.results 0) (instrumented_nest s nest) (before_nest end Empty))
    in
    let w = size_before end Empty in omega (arith, p, q, r, t, u, v, w)

body_weight : (s : Site) (ty : FuncType) (nest : Nest) → sum_of (weights_of_body s ty nest) ≡ size nest
body_weight s ty nest =
    let first = inserted_at_enter s ty.params in
    let end = inserted_at_end s in
    let p = sum_both (weightless first) (0 ∷ (weights_of_nest s nest ++ weightless end)) in
    let f = sum_first 0 (weights_of_nest s nest ++ weightless end) in
    let q = sum_both (weights_of_nest s nest) (weightless end) in
    let r = sum_weightless first in
    let t = sum_weightless end in
    let u = nest_weight s nest in omega (arith, f, p, q, r, t, u)

-- ---- locals

abbrev added_types : List ValType
added_types = I32 ∷ I32 ∷ I64 ∷ F32 ∷ F64 ∷ []

locals_after : (last : Run) → each_local (added_after last) ≡ (replicate last.count last.ty ++ []) ++ added_types
locals_after last = go (same_type last.ty I32) refl
  where
    others_types : List ValType
    others_types = I64 ∷ F32 ∷ F64 ∷ []

    others : List Run
    others = locals_of 1 I64 ∷ locals_of 1 F32 ∷ locals_of 1 F64 ∷ []

    go : (b : Bool) → same_type last.ty I32 ≡ b
        → each_local (cond b (locals_of (last.count + 2) I32 ∷ others) (last ∷ locals_of 2 I32 ∷ others))
        ≡ (replicate last.count last.ty ++ []) ++ added_types
    go true h =
        let e : last.count + 2 ≡ last.count + 1 + 1 = omega arith in
        ap (λ count. replicate count I32 ++ others_types) e
        ∙ sym (ap (λ types. types ++ others_types) (replicate_more (last.count + 1) I32))
        ∙ sym (ap (λ types. types ++ I32 ∷ [] ++ others_types) (replicate_more last.count I32))
        ∙ append_assoc (replicate last.count I32 ++ I32 ∷ []) (I32 ∷ []) others_types
        ∙ append_assoc (replicate last.count I32) (I32 ∷ []) (I32 ∷ others_types)
        ∙ ap (λ ty. replicate last.count ty ++ added_types) (sym (type_same last.ty I32 h))
        ∙ ap (λ types. types ++ added_types) (sym (append-nil (replicate last.count last.ty)))
    go false h = ap (λ types. types ++ added_types) (sym (append-nil (replicate last.count last.ty)))

locals_added : (runs : List Run) → each_local (with_added_locals runs) ≡ each_local runs ++ added_types
locals_added [] = refl
locals_added (last ∷ []) = locals_after last
locals_added (run ∷ next ∷ runs) =
    ap (λ types. replicate run.count run.ty ++ types) (locals_added (next ∷ runs))
    ∙ sym (append_assoc (replicate run.count run.ty) (each_local (next ∷ runs)) added_types)

pub bodies_are_instrumented : BodiesAreInstrumented
bodies_are_instrumented =
    record { nested = body_nested; weighed = body_weighed; weight = body_weight; locals = locals_added }
