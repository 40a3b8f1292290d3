-- Locals in runs: each list of types has one list of runs, and the reader gives it.
use Rattle.std.proofs.Common.{◌≡◌, ℕ, zero, suc, ◌+◌, ◌-◌, ◌<◌, ◌^◌, List, [], ◌∷◌, ◌++◌, replicate, cond, Option, Some, None, refl, ap, sym, ◌∙◌, subst, append_assoc, inl, inr, arith}
use Rattle.std.specs.Prelude.{nat_eq, nat_lt, option_and_then, sum_by}
use Rattle.std.proofs.lemmas.Bool.{lt-ltb, ltb-true, cases_lt}
use Rattle.std.proofs.lemmas.Bool.Decides.{eqb_tells}
use Rattle.std.proofs.lemmas.List.{replicate-append-replicate, append_cancel_left}
use Rattle.std.proofs.lemmas.Option.{none-some, some_pair_parts, same_Some}
use Rattle.base.proofs.Options.{and_then_some, cond_some}
use Rattle.leb_bytes.specs.Encoding.{IsReadBy}
use Rattle.leb_bytes.specs.Unsigned.{EncodesU32, first_u32}
use Rattle.wasm_syntax.specs.declared.values.ValType.{ValType}
use Rattle.wasm_syntax.specs.declared.values.ValType.TheVariants.{I32, I64, F32, F64, FuncRef}
use Rattle.wasm_syntax.specs.declared.modules.Run.{Run}
use Rattle.wasm_syntax.specs.Encoding.Grammar.{◌then◌}
use Rattle.wasm_syntax.specs.Encoding.Types.{EncodesValType}
use Rattle.wasm_syntax.specs.Encoding.Sections.{EncodesRun, each_local, AreRuns, EncodesLocals}
use Rattle.wasm_syntax.specs.Encoding.Shortest.{val_type_byte}
use Rattle.wasm_syntax.specs.Encoding.Combinators.{first_then, first_vector}
use Rattle.wasm_syntax.specs.Encoding.Readers.{first_val_type, run_of, first_run, with_run, runs_of, first_locals}
use Rattle.wasm_syntax.proofs.Encoding.Tools.{as_read_is, then_is}
use Rattle.wasm_syntax.proofs.Encoding.Lists.{vector_is}
use Rattle.wasm_syntax.proofs.Encoding.Numbers.{NumberLaws}
use Rattle.wasm_syntax.proofs.Encoding.Types.{val_type_is}

-- a type by its byte
of_byte : ℕ → ValType
of_byte b =
    cond (nat_eq b 0x7F) I32 (cond (nat_eq b 0x7E) I64 (cond (nat_eq b 0x7D) F32 (cond (nat_eq b 0x7C) F64 FuncRef)))

of_byte_of : (ty : ValType) → of_byte (val_type_byte ty) ≡ ty
unfolding of_byte
of_byte_of I32 = refl
of_byte_of I64 = refl
of_byte_of F32 = refl
of_byte_of F64 = refl
of_byte_of FuncRef = refl

pub same_type : (a b : ValType) → val_type_byte a ≡ val_type_byte b → a ≡ b
same_type a b e = sym (of_byte_of a) ∙ ap of_byte e ∙ of_byte_of b

-- ---- the runs that are made encode the same locals

-- a run of the same type in front
runs_retype : (r s : Run) (rest : List Run) → r.ty ≡ s.ty → 0 < r.count → AreRuns (s ∷ rest) → AreRuns (r ∷ rest)
runs_retype r s [] same some h = some
runs_retype r s (t ∷ rest) same some h = (some, λ e. h.1 (sym same ∙ e), h.2)

with_run_are : (r : Run) (rest : List Run) → 0 < r.count → AreRuns rest → AreRuns (with_run r rest)
with_run_are r [] some h = some
with_run_are r (s ∷ rest) some h = elim (eqb_tells (val_type_byte r.ty) (val_type_byte s.ty)) [
  | inl e ↦ rw (e.0) (runs_retype (record { count = r.count + s.count; ty = s.ty }) s rest refl (omega arith) h)
  | inr e ↦ rw (e.0) (some, λ same. e.1 (ap val_type_byte same), h)
]

with_run_same : (r : Run) (rest : List Run) → each_local (with_run r rest) ≡ replicate r.count r.ty ++ each_local rest
with_run_same r [] = refl
with_run_same r (s ∷ rest) = elim (eqb_tells (val_type_byte r.ty) (val_type_byte s.ty)) [
  | inl e ↦
      let same : r.ty ≡ s.ty = same_type r.ty s.ty e.1 in
      ap (λ b. each_local (cond b (record { count = r.count + s.count; ty = s.ty } ∷ rest) (r ∷ s ∷ rest))) e.0
      ∙ ap (λ (ts : List ValType). ts ++ each_local rest) (sym (replicate-append-replicate r.count s.count s.ty))
      ∙ append_assoc (replicate r.count s.ty) (replicate s.count s.ty) (each_local rest)
      ∙ ap (λ ty. replicate r.count ty ++ (replicate s.count s.ty ++ each_local rest)) (sym same)
  | inr e ↦ ap (λ b. each_local (cond b (record { count = r.count + s.count; ty = s.ty } ∷ rest) (r ∷ s ∷ rest))) e.0
]

pub runs_of_are : (written : List Run) → AreRuns (runs_of written)
runs_of_are [] = tt
runs_of_are (r ∷ rest) = elim (eqb_tells r.count 0) [
  | inl e ↦ rw (e.0) (runs_of_are rest)
  | inr e ↦ rw (e.0) (with_run_are r (runs_of rest) (omega (arith, e.1)) (runs_of_are rest))
]

pub runs_of_same : (written : List Run) → each_local (runs_of written) ≡ each_local written
runs_of_same [] = refl
runs_of_same (r ∷ rest) = elim (eqb_tells r.count 0) [
  | inl e ↦ ap (λ b. each_local (cond b (runs_of rest) (with_run r (runs_of rest)))) e.0 ∙ runs_of_same rest
      ∙ ap (λ n. replicate n r.ty ++ each_local rest) (sym e.1)
  | inr e ↦ ap (λ b. each_local (cond b (runs_of rest) (with_run r (runs_of rest)))) e.0
      ∙ with_run_same r (runs_of rest) ∙ ap (λ (ts : List ValType). replicate r.count r.ty ++ ts) (runs_of_same rest)
]

-- ---- no other runs encode these locals

head : List ValType → Option ValType
head [] = None
head (ty ∷ types) = Some ty

head_of : (n : ℕ) (ty : ValType) (types : List ValType) → 0 < n → head (replicate n ty ++ types) ≡ Some ty
unfolding head
head_of zero ty types some = absurd (omega arith)
head_of (suc n) ty types some = refl

count_of : (r : Run) (rest : List Run) → AreRuns (r ∷ rest) → 0 < r.count
count_of r [] h = h
count_of r (s ∷ rest) h = h.0

rest_of : (r : Run) (rest : List Run) → AreRuns (r ∷ rest) → AreRuns rest
rest_of r [] h = tt
rest_of r (s ∷ rest) h = h.2

head_runs : (r : Run) (rest : List Run) → AreRuns (r ∷ rest) → head (each_local (r ∷ rest)) ≡ Some r.ty
head_runs r rest h = head_of r.count r.ty (each_local rest) (count_of r rest h)

-- what follows a run isn't of its type
apart : (r : Run) (rest : List Run) (n : ℕ) (types : List ValType) → AreRuns (r ∷ rest) → 0 < n
    → each_local rest ≡ replicate n r.ty ++ types → ⊥
unfolding head
apart r [] n types h some e = absurd (none-some r.ty (ap head e ∙ head_of n r.ty types some))
apart r (s ∷ rest) n types h some e =
    h.1 (sym (same_Some s.ty r.ty (sym (head_runs s rest h.2) ∙ ap head e ∙ head_of n r.ty types some)))

-- the part of a longer run after a shorter one
longer : (m n : ℕ) (ty : ValType) (xs ys : List ValType) → m < n → replicate m ty ++ xs ≡ replicate n ty ++ ys
    → xs ≡ replicate (n - m) ty ++ ys
longer m n ty xs ys less e =
    append_cancel_left (replicate m ty) xs (replicate (n - m) ty ++ ys)
    (e ∙ ap (λ k. replicate k ty ++ ys) (omega arith) ∙ ap (λ (ts : List ValType). ts ++ ys) (sym (replicate-append-replicate m (n - m) ty))
    ∙ append_assoc (replicate m ty) (replicate (n - m) ty) ys)

same_front : (r s : Run) → r.count ≡ s.count → r.ty ≡ s.ty → r ≡ s
same_front r s n ty = λ i. record { count = n i; ty = ty i }

pub one_runs : (xs ys : List Run) → AreRuns xs → AreRuns ys → each_local xs ≡ each_local ys → xs ≡ ys
unfolding head
one_runs [] [] h k e = refl
one_runs [] (y ∷ ys) h k e = absurd (none-some y.ty (ap head e ∙ head_runs y ys k))
one_runs (x ∷ xs) [] h k e = absurd (none-some x.ty (ap head (sym e) ∙ head_runs x xs h))
one_runs (x ∷ xs) (y ∷ ys) h k e =
    let ty : x.ty ≡ y.ty = same_Some x.ty y.ty (sym (head_runs x xs h) ∙ ap head e ∙ head_runs y ys k) in
    let e1 : replicate x.count x.ty ++ each_local xs ≡ replicate y.count x.ty ++ each_local ys = e ∙ ap (λ t. replicate y.count t ++ each_local ys) (sym ty) in
    elim (cases_lt x.count y.count) [
      | inl less ↦ absurd (apart x xs (y.count - x.count) (each_local ys) h (omega arith) (longer x.count y.count x.ty (each_local xs) (each_local ys) less e1))
      | inr no_less ↦ elim (cases_lt y.count x.count) [
        | inl less ↦ absurd (apart y ys (x.count - y.count) (each_local xs) k (omega arith)
            (longer y.count x.count y.ty (each_local ys) (each_local xs) less (sym e ∙ ap (λ t. replicate x.count t ++ each_local xs) ty)))
        | inr no_more ↦
            let n : x.count ≡ y.count = omega arith in
            let rest : each_local xs ≡ each_local ys =
            append_cancel_left (replicate x.count x.ty) (each_local xs) (each_local ys) (e1 ∙ ap (λ c. replicate c x.ty ++ each_local ys) (sym n)) in
            ap (λ r. r ∷ xs) (same_front x y n ty)
            ∙ ap (λ (rs : List Run). y ∷ rs) (one_runs xs ys (rest_of x xs h) (rest_of y ys k) rest)
      ]
    ]

-- ---- the reader

module _ (laws : NumberLaws) where
  pub run_is : IsReadBy EncodesRun first_run
  unfolding first_run
  run_is =
      let is = as_read_is (EncodesU32 then EncodesValType) (first_then first_u32 first_val_type) run_of (λ (run : Run). (run.count, run.ty))
      (λ parts. refl) (λ run. refl) (then_is EncodesU32 EncodesValType first_u32 first_val_type laws.u32 val_type_is) in
      record { found = is.found; only = is.only }

  pub locals_is : IsReadBy EncodesLocals first_locals
  unfolding first_locals
  locals_is = record {
    found = λ input rest locals e.
        let b = and_then_some (first_vector first_run input)
        (λ (written : List Run × List ℕ). cond (nat_lt (sum_by (λ run. run.count) written.0) (2 ^ 32))
        (Some (runs_of written.0, written.1)) None) (locals, rest) e in
        let g = cond_some (nat_lt (sum_by (λ run. run.count) b.0.0) (2 ^ 32)) (Some (runs_of b.0.0, b.0.1)) (locals, rest) b.2 in
        let parts = some_pair_parts (runs_of b.0.0) locals b.0.1 rest g.1 in
        let f = (vector_is laws.u32 EncodesRun first_run run_is).found input b.0.1 b.0.0 b.1 in
        let made : EncodesLocals f.0 (runs_of b.0.0) = record {
          written = b.0.0;
          vector = f.1;
          few = ltb-true _ _ g.0;
          are_runs = runs_of_are b.0.0;
          same = runs_of_same b.0.0;
        } in
        (f.0, subst (λ runs. EncodesLocals f.0 runs) parts.0 made, f.2 ∙ ap (λ r. f.0 ++ r) parts.1);
    only = λ bytes rest locals h.
        ap (option_and_then (λ (written : List Run × List ℕ).
        cond (nat_lt (sum_by (λ run. run.count) written.0) (2 ^ 32)) (Some (runs_of written.0, written.1)) None))
        ((vector_is laws.u32 EncodesRun first_run run_is).only bytes rest h.written h.vector)
        ∙ ap (λ b. cond b (Some (runs_of h.written, rest)) None) (lt-ltb _ _ h.few)
        ∙ ap (λ runs. Some (runs, rest)) (one_runs (runs_of h.written) locals (runs_of_are h.written) h.are_runs (runs_of_same h.written ∙ sym h.same));
  }
