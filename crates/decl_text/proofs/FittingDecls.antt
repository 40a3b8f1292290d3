-- Declarations that are read for a valid module are declarations for it.
use Rattle.std.proofs.Common.{◌≡◌, ℕ, suc, ◌≤◌, List, [], ◌∷◌, length, Some, None, Ok, Bool, true, false, cond, bytes_eq, nat_lt, IsTrue, codes, refl, ap, subst, arith}
use Rattle.std.proofs.lemmas.Bool.Decides.{nat_tests}
use Rattle.std.proofs.lemmas.List.Elements.{All-from_recursion}
use Rattle.wasm_syntax.specs.declared.limits.TheConstants.{MAX_PARAMETERS}
use Rattle.wasm_syntax.specs.declared.values.ValType.{ValType}
use Rattle.wasm_syntax.specs.declared.values.ValType.TheVariants.{I32, I64, F32, F64}
use Rattle.wasm_syntax.specs.Typing.{is_number}
use Rattle.wasm_syntax.specs.Validity.{AreNumbers, IsFuncType}
use Rattle.instance_spec.specs.declared.decls.Decl.{Decl}
use Rattle.serde_json.specs.Data.{Data, Items, no_items, item}
use Rattle.decl_text.specs.Laws.{DeclarationsFit}
use Rattle.decl_text.specs.Texts.{type_named, type_of, count_of, types_of, decl_of}
use Rattle.decl_text.proofs.Parts.{Rows, read_under, read_items, rows_all, read_type, read_types, read_decl, read_whole}
use Rattle.decl_text.proofs.DistinctNames.{widened_are_distinct}

-- ---- types

abbrev IsNumberType : ValType → Type 0
IsNumberType t = IsTrue (is_number t)

number_named : (s : List ℕ) (t : ValType) → type_named s ≡ Some t → IsNumberType t
number_named s t h = by (bytes_eq s (codes "i32")) (bytes_eq s (codes "i64")) (bytes_eq s (codes "f32")) (bytes_eq s (codes "f64")) h
  where
    is : (u : ValType) → IsNumberType u → Some u ≡ Some t → IsNumberType t
    is u number same = let e : u ≡ t = cc in subst IsNumberType e number

    by : (a b c d : Bool) → cond a (Some I32) (cond b (Some I64) (cond c (Some F32) (cond d (Some F64) None))) ≡ Some t → IsNumberType t
    by true b c d h = is I32 refl h
    by false true c d h = is I64 refl h
    by false false true d h = is F32 refl h
    by false false false true h = is F64 refl h
    by false false false false h = cc

abbrev NumberRead : Data → ValType → Type 0
NumberRead d t = IsNumberType t

number_read : (d : Data) (t : ValType) → type_of d ≡ Ok t → NumberRead d t
number_read d t h = let named = read_type d t h in number_named named.0 t named.2

as_many : (ds : Items) (ts : List ValType) → Rows NumberRead ds ts → count_of ds ≡ length ts
as_many no_items [] h = refl
as_many no_items (t ∷ ts) h = absurd h
as_many (item d ds) [] h = absurd h
as_many (item d ds) (t ∷ ts) h = ap suc (as_many ds ts h.1)

not_longer : (most count n : ℕ) → nat_lt most count ≡ false → count ≡ n → n ≤ most
not_longer most count n h e = grind (arith, nat_tests, h, e)

types_good : (most : ℕ) (d : Data) (ts : List ValType) → types_of most d ≡ Ok ts → AreNumbers ts × (length ts ≤ most)
types_good most d ts h =
    let list = read_types most d ts h in
    let rows = read_items NumberRead type_of number_read 0 list.0 ts list.3 in
    let numbers = rows_all NumberRead IsNumberType (λ d t number. number) list.0 ts rows in
    (All-from_recursion IsNumberType ts numbers, not_longer most (count_of list.0) (length ts) list.2 (as_many list.0 ts rows))

-- ---- declarations

abbrev HasType : Decl → Type 0
HasType decl = IsFuncType decl.ty

abbrev HasFew : Decl → Type 0
HasFew decl = length decl.ty.params ≤ MAX_PARAMETERS

abbrev IsGood : Data → Decl → Type 0
IsGood d decl = HasType decl × HasFew decl

decl_good : (d : Data) (decl : Decl) → decl_of d ≡ Ok decl → IsGood d decl
decl_good d decl h =
    let parts = read_decl d decl h in
    let params = read_under (codes "params") (types_of MAX_PARAMETERS) d decl.ty.params parts.params in
    let results = read_under (codes "results") (types_of 1) d decl.ty.results parts.results in
    let given = types_good MAX_PARAMETERS params.0 decl.ty.params params.2 in
    let returned = types_good 1 results.0 decl.ty.results results.2 in
    (record { params = given.0; results = returned.0; one_result = returned.1 }, given.1)

pub decls_fit : DeclarationsFit
decls_fit m bytes decls h valid few =
    let list = (read_whole m bytes decls h).2 in
    let rows = read_items IsGood decl_of decl_good 0 list.items decls list.each in (
      record {
        types = All-from_recursion HasType decls (rows_all IsGood HasType (λ d decl good. good.0) list.items decls rows);
        few = few;
        names = widened_are_distinct m decls valid.outside.names_differ list.free;
      },
      All-from_recursion HasFew decls (rows_all IsGood HasFew (λ d decl good. good.1) list.items decls rows),
    )
