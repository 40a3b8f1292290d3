-- Declarations have no greater size than the value that they are read from.
use Rattle.std.proofs.Common.{◌≡◌, ℕ, ◌+◌, ◌*◌, ◌≤◌, List, [], ◌∷◌, length, Some, None, Ok, Bool, true, false, cond, bytes_eq, codes, refl, sym, ap, ◌∙◌, subst, true≢false, arith}
use Rattle.std.proofs.lemmas.Slice.Eq.{bytes_eq-Decides}
use Rattle.wasm_syntax.specs.declared.limits.TheConstants.{MAX_PARAMETERS}
use Rattle.wasm_syntax.specs.declared.values.ValType.{ValType}
use Rattle.wasm_syntax.specs.declared.values.ValType.TheVariants.{I32, I64, F32, F64}
use Rattle.wasm_syntax.specs.declared.modules.Module.{Module}
use Rattle.instance_spec.specs.declared.decls.Decl.{Decl}
use Rattle.instance_spec.specs.DeclSizes.{decl_size, decls_size}
use Rattle.serde_json.specs.Data.{Data, null, boolean, number, string, array, object, Items, no_items, item}
use Rattle.serde_json.specs.Find.{get}
use Rattle.decl_text.specs.DataSizes.{data_size, items_size, ValuesAreWithinTexts}
use Rattle.decl_text.specs.Texts.{type_named, type_of, types_of, text_of, decl_of, decls_of_text}
use Rattle.decl_text.proofs.Parts.{Rows, read_under, read_items, read_text, read_type, read_types, read_decl, read_whole}
use Rattle.decl_text.proofs.Members.{found_size, three_found}

-- ---- types

-- the four names of types have three bytes each
name_size : (s : List ℕ) (t : ValType) → type_named s ≡ Some t → 3 ≤ length s
name_size s t h =
    by (bytes_eq s (codes "i32")) (bytes_eq s (codes "i64")) (bytes_eq s (codes "f32")) (bytes_eq s (codes "f64"))
    (long (codes "i32") refl) (long (codes "i64") refl) (long (codes "f32") refl) (long (codes "f64") refl) h
  where
    long : (name : List ℕ) → length name ≡ 3 → bytes_eq s name ≡ true → 3 ≤ length s
    long name e same = let is = ap length ((bytes_eq-Decides s name).0 same) in omega arith

    by : (a b c d : Bool) → (a ≡ true → 3 ≤ length s) → (b ≡ true → 3 ≤ length s) → (c ≡ true → 3 ≤ length s) → (d ≡ true → 3 ≤ length s)
        → cond a (Some I32) (cond b (Some I64) (cond c (Some F32) (cond d (Some F64) None))) ≡ Some t → 3 ≤ length s
    by true b c d p q r u h = p refl
    by false true c d p q r u h = q refl
    by false false true d p q r u h = r refl
    by false false false true p q r u h = u refl
    by false false false false p q r u h = cc

abbrev TypeFits : Data → ValType → Type 0
TypeFits d t = 4 ≤ data_size d

type_fits : (d : Data) (t : ValType) → type_of d ≡ Ok t → TypeFits d t
type_fits d t h =
    let named = read_type d t h in
    subst (λ e. 4 ≤ data_size e) (sym named.1) (let long = name_size named.0 t named.2 in omega arith)

types_fit : (ds : Items) (ts : List ValType) → Rows TypeFits ds ts → 4 * length ts ≤ items_size ds
types_fit no_items [] h = omega arith
types_fit no_items (t ∷ ts) h = absurd h
types_fit (item d ds) [] h = absurd h
types_fit (item d ds) (t ∷ ts) h = omega (arith, h.0, types_fit ds ts h.1)

types_size : (most : ℕ) (d : Data) (ts : List ValType) → types_of most d ≡ Ok ts → 1 + 4 * length ts ≤ data_size d
types_size most d ts h =
    let list = read_types most d ts h in
    subst (λ e. 1 + 4 * length ts ≤ data_size e) (sym list.1)
    (let all = types_fit list.0 ts (read_items TypeFits type_of type_fits 0 list.0 ts list.3) in omega arith)

-- ---- declarations

differs : (a b : List ℕ) → bytes_eq a b ≡ false → a ≡ b → ⊥
differs a b unlike same = true≢false (sym ((bytes_eq-Decides a b).1 same) ∙ unlike)

-- what is found under three different keys
found_in : (a b c : List ℕ) → (a ≡ b → ⊥) → (a ≡ c → ⊥) → (b ≡ c → ⊥) → (d x y z : Data)
    → get a d ≡ Some x → get b d ≡ Some y → get c d ≡ Some z
    → 1 + (1 + length a + data_size x) + (1 + length b + data_size y) + (1 + length c + data_size z) ≤ data_size d
found_in a b c ab ac bc null x y z p q r = cc
found_in a b c ab ac bc (boolean v) x y z p q r = cc
found_in a b c ab ac bc (number n) x y z p q r = cc
found_in a b c ab ac bc (string s) x y z p q r = cc
found_in a b c ab ac bc (array ds) x y z p q r = cc
found_in a b c ab ac bc (object ms) x y z p q r =
    let e = ap (found_size a) p in
    let f = ap (found_size b) q in
    let g = ap (found_size c) r in
    omega (arith, three_found a b c ab ac bc ms, e, f, g)

abbrev DeclFits : Data → Decl → Type 0
DeclFits d decl = decl_size decl ≤ data_size d

decl_fits : (d : Data) (decl : Decl) → decl_of d ≡ Ok decl → DeclFits d decl
decl_fits d decl h =
    let parts = read_decl d decl h in
    let name = read_under (codes "name") text_of d decl.name parts.name in
    let params = read_under (codes "params") (types_of MAX_PARAMETERS) d decl.ty.params parts.params in
    let results = read_under (codes "results") (types_of 1) d decl.ty.results parts.results in
    let all = found_in (codes "name") (codes "params") (codes "results") (differs _ _ refl) (differs _ _ refl) (differs _ _ refl)
    d name.0 params.0 results.0 name.1 params.1 results.1 in
    let long = ap data_size (read_text name.0 decl.name name.2) in
    omega (arith, all, long, types_size MAX_PARAMETERS params.0 decl.ty.params params.2, types_size 1 results.0 decl.ty.results results.2)

decls_fit : (ds : Items) (decls : List Decl) → Rows DeclFits ds decls → decls_size decls ≤ items_size ds
decls_fit no_items [] h = omega arith
decls_fit no_items (decl ∷ decls) h = absurd h
decls_fit (item d ds) [] h = absurd h
decls_fit (item d ds) (decl ∷ decls) h = omega (arith, h.0, decls_fit ds decls h.1)

pub decls_within : ValuesAreWithinTexts → (m : Module) (bytes : List ℕ) (decls : List Decl) → decls_of_text m bytes ≡ Ok decls
    → decls_size decls ≤ length bytes
decls_within values_within m bytes decls h =
    let whole = read_whole m bytes decls h in
    let list = whole.2 in
    let within = subst (λ d. data_size d ≤ length bytes) list.is (values_within bytes whole.0 whole.1) in
    omega (arith, within, decls_fit list.items decls (read_items DeclFits decl_of decl_fits 0 list.items decls list.each))
