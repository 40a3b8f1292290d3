-- Lists of values of their types: parts, reversal, a look-up, and popped operands.
use Rattle.std.proofs.Common.{◌≡◌, ℕ, suc, zero, ◌≤◌, List, [], ◌∷◌, ◌++◌, length, Some, None, true, cond, slice_get, refl, sym, ap, ◌∙◌, subst, arith, map}
use Rattle.std.specs.Prelude.{reverse, take, drop, slice_set}
use Rattle.std.proofs.lemmas.List.{reverse-append, reverse-reverse, length-reverse, length-append, take_at, drop_at}
use Rattle.std.proofs.lemmas.Bool.{le-leb}
use Rattle.wasm_syntax.proofs.ValTypes.{types_own}
use Rattle.wasm_syntax.specs.declared.values.ValType.{ValType}
use Rattle.wasm_syntax.specs.declared.values.ValType.TheVariants.{I32, I64, F32, F64, FuncRef}
use Rattle.wasm_syntax.specs.declared.values.Val.{Val}
use Rattle.wasm_syntax.specs.Alike.{same_types}
use Rattle.history_spec.specs.Code.{types_of, zero_of}
use Rattle.history_spec.specs.Configuration.{topmost, push_all}
use Rattle.history_spec.specs.Instruction.{Operands, pop, operands_as, operands_if}
use Rattle.type_safety.specs.Values.{IsValue, AreValues}

-- ---- parts

pub append_values : (n : ℕ) (ts us : List ValType) (vs ws : List Val) → AreValues n ts vs → AreValues n us ws
    → AreValues n (ts ++ us) (vs ++ ws)
append_values n [] us [] ws p q = q
append_values n [] us (v ∷ vs) ws p q = absurd p
append_values n (t ∷ ts) us [] ws p q = absurd p
append_values n (t ∷ ts) us (v ∷ vs) ws p q = (p.0, append_values n ts us vs ws p.1 q)

-- ---- the initial values of locals

pub zero_value : (n : ℕ) (t : ValType) → IsValue n t (zero_of t)
zero_value n I32 = record { typed = refl; in_range = omega arith }
zero_value n I64 = record { typed = refl; in_range = omega arith }
zero_value n F32 = record { typed = refl; in_range = omega arith }
zero_value n F64 = record { typed = refl; in_range = omega arith }
zero_value n FuncRef = record { typed = refl; in_range = omega arith }

pub zero_values : (n : ℕ) (types : List ValType) → AreValues n types (map zero_of types)
zero_values n [] = tt
zero_values n (t ∷ types) = (zero_value n t, zero_values n types)

-- the values split into the topmost ones and the rest
pub record Split (n : ℕ) (ts us : List ValType) (values : List Val) : Type 0 where
  pub top : List Val
  pub rest : List Val
  pub parts : values ≡ top ++ rest
  pub of_top : AreValues n ts top
  pub of_rest : AreValues n us rest

pub split_values : (n : ℕ) (ts us : List ValType) (values : List Val) → AreValues n (ts ++ us) values
    → Split n ts us values
split_values n [] us values p = record { top = []; rest = values; parts = refl; of_top = tt; of_rest = p }
split_values n (t ∷ ts) us [] p = absurd p
split_values n (t ∷ ts) us (v ∷ values) p =
    let q = split_values n ts us values p.1 in
    record {
      top = v ∷ q.top;
      rest = q.rest;
      parts = ap (λ l. v ∷ l) q.parts;
      of_top = (p.0, q.of_top);
      of_rest =
          q.of_rest;
    }

pub reverse_values : (n : ℕ) (ts : List ValType) (vs : List Val) → AreValues n ts vs
    → AreValues n (reverse ts) (reverse vs)
reverse_values n [] [] p = tt
reverse_values n [] (v ∷ vs) p = absurd p
reverse_values n (t ∷ ts) [] p = absurd p
reverse_values n (t ∷ ts) (v ∷ vs) p =
    let both = append_values n (reverse ts) (t ∷ []) (reverse vs) (v ∷ []) (reverse_values n ts vs p.1) (p.0, tt) in
    subst (λ l. AreValues n (reverse (t ∷ ts)) l) (sym (reverse-append (v ∷ []) vs))
    (subst (λ l. AreValues n l (reverse vs ++ v ∷ [])) (sym (reverse-append (t ∷ []) ts)) both)

pub pushed_values : (n : ℕ) (ts us : List ValType) (vs ws : List Val) → AreValues n ts vs → AreValues n us ws
    → AreValues n (reverse ts ++ us) (push_all vs ws)
pushed_values n ts us vs ws p q = append_values n (reverse ts) us (reverse vs) ws (reverse_values n ts vs p) q

pub length_values : (n : ℕ) (ts : List ValType) (vs : List Val) → AreValues n ts vs → length vs ≡ length ts
length_values n [] [] p = refl
length_values n [] (v ∷ vs) p = absurd p
length_values n (t ∷ ts) [] p = absurd p
length_values n (t ∷ ts) (v ∷ vs) p = ap suc (length_values n ts vs p.1)

pub types_values : (n : ℕ) (ts : List ValType) (vs : List Val) → AreValues n ts vs → types_of vs ≡ ts
types_values n [] [] p = refl
types_values n [] (v ∷ vs) p = absurd p
types_values n (t ∷ ts) [] p = absurd p
types_values n (t ∷ ts) (v ∷ vs) p = λ i. p.0.typed i ∷ types_values n ts vs p.1 i

-- ---- a look-up and a change

pub value_at : (n : ℕ) (ts : List ValType) (vs : List Val) (x : ℕ) (t : ValType) → AreValues n ts vs
    → slice_get ts x ≡ Some t → (v : Val) × (slice_get vs x ≡ Some v) × IsValue n t v
value_at n [] vs x t p e = cc
value_at n (u ∷ ts) [] x t p e = absurd p
value_at n (u ∷ ts) (v ∷ vs) zero t p e =
    let here : u ≡ t = cc in
    (v, refl, subst (λ it. IsValue n it v) here p.0)
value_at n (u ∷ ts) (v ∷ vs) (suc x) t p e = value_at n ts vs x t p.1 e

pub set_value : (n : ℕ) (ts : List ValType) (vs : List Val) (x : ℕ) (t : ValType) (v : Val) → AreValues n ts vs
    → slice_get ts x ≡ Some t → IsValue n t v → AreValues n ts (slice_set vs x v)
set_value n [] vs x t v p e q = cc
set_value n (u ∷ ts) [] x t v p e q = absurd p
set_value n (u ∷ ts) (w ∷ vs) zero t v p e q =
    let here : t ≡ u = cc in
    (subst (λ it. IsValue n it v) here q, p.1)
set_value n (u ∷ ts) (w ∷ vs) (suc x) t v p e q = (p.0, set_value n ts vs x t v p.1 e q)

-- ---- operands

-- the topmost values, in the order in which they were pushed
pub record Taken (n : ℕ) (ts below : List ValType) (values : List Val) : Type 0 where
  pub operands : List Val
  pub taken : topmost (length ts) values ≡ Some operands
  pub of_operands : AreValues n ts operands
  pub of_rest : AreValues n below (drop (length ts) values)

pub take_values : (n : ℕ) (ts below : List ValType) (values : List Val) → AreValues n (reverse ts ++ below) values
    → Taken n ts below values
take_values n ts below values p =
    let s = split_values n (reverse ts) below values p in
    let count : length s.top ≡ length ts = length_values n (reverse ts) s.top s.of_top ∙ length-reverse ts in
    let enough : length ts ≤ length values =
    subst (λ l. length ts ≤ length l) (sym s.parts) (omega (arith, length-append s.top s.rest)) in
    let top : take (length ts) values ≡ s.top = ap (take (length ts)) s.parts
    ∙ take_at s.top s.rest (length ts) count in
    let left : drop (length ts) values ≡ s.rest = ap (drop (length ts)) s.parts
    ∙ drop_at s.top s.rest (length ts) count in
    record {
      operands = reverse s.top;
      taken = ap (λ b. cond b (Some (reverse (take (length ts) values))) None)
          (le-leb (length ts) (length values) enough) ∙ ap (λ l. Some (reverse l)) top;
      of_operands =
          subst (λ l. AreValues n l (reverse s.top)) (reverse-reverse ts)
          (reverse_values n (reverse ts) s.top s.of_top);
      of_rest = subst (λ l. AreValues n below l) (sym left) s.of_rest;
    }

pub pop_values : (n : ℕ) (ts below : List ValType) (values : List Val) → AreValues n (reverse ts ++ below) values
    → (p : Operands) × (pop ts values ≡ Some p) × AreValues n ts p.operands × AreValues n below p.rest
pop_values n ts below values p =
    let t = take_values n ts below values p in
    let alike : same_types ts (types_of t.operands) ≡ true =
    ap (same_types ts) (types_values n ts t.operands t.of_operands) ∙ types_own ts in
    let popped : Operands = record { operands = t.operands; rest = drop (length ts) values } in
    (popped, ap (operands_as ts values) t.taken ∙ ap (λ b. operands_if b popped) alike, t.of_operands, t.of_rest)
