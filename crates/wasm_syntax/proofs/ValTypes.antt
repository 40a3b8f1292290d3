-- The tests for equality of value types, of lists of them and of function types: each passes for equals alone. A block
-- has one result at most.
use Rattle.std.proofs.Common.{◌≡◌, ℕ, ◌≤◌, List, [], ◌∷◌, length, Option, Some, None, true, cond, nat_eq, refl, sym, ap, ◌∙◌, arith}
use Rattle.std.proofs.lemmas.Bool.Decides.{Decides-eqb}
use Rattle.base.proofs.Booleans.{and_parts, and_true}
use Rattle.base.specs.declared.marks.TheConstants.{TYPE_I32, TYPE_I64, TYPE_F32, TYPE_F64}
use Rattle.wasm_syntax.specs.declared.values.ValType.{ValType}
use Rattle.wasm_syntax.specs.declared.values.ValType.TheVariants.{I32, I64, F32, F64, FuncRef}
use Rattle.wasm_syntax.specs.declared.signatures.FuncType.{FuncType}
use Rattle.wasm_syntax.specs.Typing.{results_of}
use Rattle.wasm_syntax.specs.Alike.{type_byte, same_type, same_types, same_signature}

-- the type that a byte encodes
abbrev type_of_byte : ℕ → ValType
type_of_byte byte =
    cond (nat_eq byte TYPE_I32) I32 (cond (nat_eq byte TYPE_I64) I64 (cond (nat_eq byte TYPE_F32) F32
    (cond (nat_eq byte TYPE_F64) F64 FuncRef)))

byte_back : (t : ValType) → type_of_byte (type_byte t) ≡ t
byte_back I32 = refl
byte_back I64 = refl
byte_back F32 = refl
byte_back F64 = refl
byte_back FuncRef = refl

pub type_own : (t : ValType) → same_type t t ≡ true
type_own t = (Decides-eqb (type_byte t) (type_byte t)).1 refl

pub type_same : (t u : ValType) → same_type t u ≡ true → t ≡ u
type_same t u h = sym (byte_back t) ∙ ap type_of_byte ((Decides-eqb (type_byte t) (type_byte u)).0 h) ∙ byte_back u

pub types_same : (ts us : List ValType) → same_types ts us ≡ true → ts ≡ us
types_same [] [] h = refl
types_same [] (u ∷ us) h = cc
types_same (t ∷ ts) [] h = cc
types_same (t ∷ ts) (u ∷ us) h =
    let p = and_parts (same_type t u) (same_types ts us) h in
    (λ i. type_same t u p.0 i ∷ types_same ts us p.1 i)

pub types_own : (ts : List ValType) → same_types ts ts ≡ true
types_own [] = refl
types_own (t ∷ ts) = and_true (same_type t t) (same_types ts ts) (type_own t) (types_own ts)

pub signature_same : (a b : FuncType) → same_signature a b ≡ true → a ≡ b
signature_same a b h =
    let p = and_parts (same_types a.params b.params) (same_types a.results b.results) h in
    (λ i. record { params = types_same a.params b.params p.0 i; results = types_same a.results b.results p.1 i })

pub signature_own : (a : FuncType) → same_signature a a ≡ true
signature_own a =
    and_true (same_types a.params a.params) (same_types a.results a.results) (types_own a.params) (types_own a.results)

pub results_one : (ty : Option ValType) → length (results_of ty) ≤ 1
results_one None = omega arith
results_one (Some t) = omega arith
