-- What a text has that declarations are read from: each part of the walk was read.
use Rattle.std.proofs.Common.{◌≡◌, ℕ, ◌+◌, List, [], ◌∷◌, Option, Some, None, Result, Ok, Err, Bool, true, false, cond, refl, ap, subst, codes}
use Rattle.std.specs.Prelude.{⊤, decimal, nat_lt}
use Rattle.std.specs.List.{AllByRecursion}
use Rattle.std.specs.Str.{is_utf8}
use Rattle.base.proofs.Results.{same_ok}
use Rattle.base.proofs.Options.{and_then_some}
use Rattle.wasm_syntax.specs.declared.limits.TheConstants.{MAX_PARAMETERS}
use Rattle.wasm_syntax.specs.declared.values.ValType.{ValType}
use Rattle.wasm_syntax.specs.declared.modules.Module.{Module}
use Rattle.instance_spec.specs.declared.decls.Decl.{Decl}
use Rattle.serde_json.specs.Data.{Data, null, boolean, number, string, array, object, Items, no_items, item}
use Rattle.serde_json.specs.Find.{get, as_array, as_str}
use Rattle.serde_json.specs.Read.{read}
use Rattle.decl_text.specs.declared.faults.DeclFault.{DeclFault}
use Rattle.decl_text.specs.declared.faults.DeclFault.TheVariants.{NotJson, Shape, Reserved, Taken}
use Rattle.decl_text.specs.Walk.{◌>>=◌, below, or_shape, read_some, only, under, at_index, items_from}
use Rattle.decl_text.specs.Texts.{type_named, type_of, count_of, types_in, types_of, text_of, decl_of, decls_in, list_of_decls, first_reserved, first_taken, export_names, refuse, decls_of, decls_read, decls_of_text}

-- ---- single steps

below_ok : {A : Type 0} (step : List ℕ) (r : Result A DeclFault) (a : A) → below step r ≡ Ok a → r ≡ Ok a
below_ok step (Ok b) a h = h
below_ok step (Err fault) a h = cc

or_shape_ok : {A : Type 0} (o : Option A) (a : A) → or_shape o ≡ Ok a → o ≡ Some a
or_shape_ok None a h = cc
or_shape_ok (Some b) a h = cc

-- what is read under a key was read from its value
pub read_under : {A : Type 0} (key : List ℕ) (reads : Data → Result A DeclFault) (d : Data) (a : A) → under key reads d ≡ Ok a
    → (e : Data) × (get key d ≡ Some e) × (reads e ≡ Ok a)
read_under key reads d a h = by (get key d) h
  where
    by : (o : Option Data) → read_some key reads o ≡ Ok a → (e : Data) × (o ≡ Some e) × (reads e ≡ Ok a)
    by None h = cc
    by (Some e) h = (e, refl, below_ok key (reads e) a h)

-- ---- lists

-- what is read from the items of a list, one by one
abbrev pub Rows : {A : Type 0} → (Data → A → Type 0) → Items → List A → Type 0
Rows P no_items [] = ⊤
Rows P no_items (x ∷ xs) = ⊥
Rows P (item d ds) [] = ⊥
Rows P (item d ds) (x ∷ xs) = P d x × Rows P ds xs

first_and_others : {A : Type 0} (first : Result A DeclFault) (others : Result (List A) DeclFault) (all : List A)
    → (first >>= λ x. others >>= λ xs. Ok (x ∷ xs)) ≡ Ok all
    → (x : A) × (xs : List A) × (first ≡ Ok x) × (others ≡ Ok xs) × (x ∷ xs ≡ all)
first_and_others (Ok x) (Ok xs) all h = (x, xs, refl, refl, cc)
first_and_others (Ok x) (Err fault) all h = cc
first_and_others (Err fault) others all h = cc

pub read_items : {A : Type 0} (P : Data → A → Type 0) (reads : Data → Result A DeclFault) → ((d : Data) (a : A) → reads d ≡ Ok a → P d a)
    → (i : ℕ) (ds : Items) (xs : List A) → items_from reads i ds ≡ Ok xs → Rows P ds xs
unfolding items_from
read_items P reads each i no_items [] h = tt
read_items P reads each i no_items (x ∷ xs) h = cc
read_items P reads each i (item d ds) xs h =
    let parts = first_and_others (at_index i reads d) (items_from reads (i + 1) ds) xs h in
    subst (Rows P (item d ds)) parts.4
    (each d parts.0 (below_ok (decimal i) (reads d) parts.0 parts.2), read_items P reads each (i + 1) ds parts.1 parts.3)

-- what each row gives of what is read holds of all that is read
pub rows_all : {A : Type 0} (P : Data → A → Type 0) (Q : A → Type 0) → ((d : Data) (x : A) → P d x → Q x)
    → (ds : Items) (xs : List A) → Rows P ds xs → AllByRecursion Q xs
rows_all P Q each no_items [] rows = tt
rows_all P Q each no_items (x ∷ xs) rows = absurd rows
rows_all P Q each (item d ds) [] rows = absurd rows
rows_all P Q each (item d ds) (x ∷ xs) rows = (each d x rows.0, rows_all P Q each ds xs rows.1)

-- a list that is read is one
pub read_array : (d : Data) (ds : Items) → as_array d ≡ Some ds → d ≡ array ds
read_array null ds h = cc
read_array (boolean b) ds h = cc
read_array (number n) ds h = cc
read_array (string s) ds h = cc
read_array (array es) ds h = cc
read_array (object ms) ds h = cc

pub read_string : (d : Data) (s : List ℕ) → as_str d ≡ Some s → d ≡ string s
read_string null s h = cc
read_string (boolean b) s h = cc
read_string (number n) s h = cc
read_string (string t) s h = cc
read_string (array ds) s h = cc
read_string (object ms) s h = cc

-- ---- texts and types

pub read_text : (d : Data) (s : List ℕ) → text_of d ≡ Ok s → d ≡ string s
read_text d s h = read_string d s (or_shape_ok (as_str d) s h)

pub read_type : (d : Data) (t : ValType) → type_of d ≡ Ok t → (s : List ℕ) × (d ≡ string s) × (type_named s ≡ Some t)
read_type d t h =
    let found = and_then_some (as_str d) type_named t (or_shape_ok _ t h) in
    (found.0, read_string d found.0 found.1, found.2)

pub read_types : (most : ℕ) (d : Data) (ts : List ValType) → types_of most d ≡ Ok ts
    → (ds : Items) × (d ≡ array ds) × (nat_lt most (count_of ds) ≡ false) × (items_from type_of 0 ds ≡ Ok ts)
read_types most d ts h = by (as_array d) (read_array d) h
  where
    within : (longer : Bool) (r : Result (List ValType) DeclFault) → cond longer (Err (Shape [])) r ≡ Ok ts → (longer ≡ false) × (r ≡ Ok ts)
    within true r h = cc
    within false r h = (refl, h)

    by : (o : Option Items) → ((ds : Items) → o ≡ Some ds → d ≡ array ds) → types_in most o ≡ Ok ts
        → (ds : Items) × (d ≡ array ds) × (nat_lt most (count_of ds) ≡ false) × (items_from type_of 0 ds ≡ Ok ts)
    by None is h = cc
    by (Some ds) is h = let read = within (nat_lt most (count_of ds)) (items_from type_of 0 ds) h in (ds, is ds refl, read.0, read.1)

-- ---- a declaration

-- what is read under the three keys of a declaration
pub record HasParts (d : Data) (decl : Decl) : Type 0 where
  pub name : under (codes "name") text_of d ≡ Ok decl.name
  pub params : under (codes "params") (types_of MAX_PARAMETERS) d ≡ Ok decl.ty.params
  pub results : under (codes "results") (types_of 1) d ≡ Ok decl.ty.results

three_parts : (o : Result ⊤ DeclFault) (name : Result (List ℕ) DeclFault) (params results : Result (List ValType) DeclFault) (decl : Decl)
    → (o >>= λ _. name >>= λ n. params >>= λ ps. results >>= λ rs. Ok (record { name = n; ty = record { params = ps; results = rs } })) ≡ Ok decl
    → (name ≡ Ok decl.name) × (params ≡ Ok decl.ty.params) × (results ≡ Ok decl.ty.results)
three_parts (Err fault) name params results decl h = cc
three_parts (Ok u) (Err fault) params results decl h = cc
three_parts (Ok u) (Ok n) (Err fault) results decl h = cc
three_parts (Ok u) (Ok n) (Ok ps) (Err fault) decl h = cc
three_parts (Ok u) (Ok n) (Ok ps) (Ok rs) decl h =
    let made : Decl = record { name = n; ty = record { params = ps; results = rs } } in
    let same : made ≡ decl = same_ok (Ok made) made decl refl h in
    (ap (λ (x : Decl). Ok x.name) same, ap (λ (x : Decl). Ok x.ty.params) same, ap (λ (x : Decl). Ok x.ty.results) same)

pub read_decl : (d : Data) (decl : Decl) → decl_of d ≡ Ok decl → HasParts d decl
unfolding decl_of
read_decl d decl h =
    let parts = three_parts (only (codes "name" ∷ codes "params" ∷ codes "results" ∷ []) d) (under (codes "name") text_of d)
    (under (codes "params") (types_of MAX_PARAMETERS) d) (under (codes "results") (types_of 1) d) decl h in
    record { name = parts.0; params = parts.1; results = parts.2 }

-- ---- a whole text

-- what is read from a list, and names that are free
pub record IsReadFor (m : Module) (d : Data) (decls : List Decl) : Type 0 where
  pub items : Items
  pub is : d ≡ array items
  pub each : items_from decl_of 0 items ≡ Ok decls
  pub free : first_taken (export_names m) decls ≡ None

if_free : {A : Type 0} (fault : A → DeclFault) (o : Option A) (r : Result (List Decl) DeclFault) (decls : List Decl)
    → (refuse fault o >>= λ _. r) ≡ Ok decls → (o ≡ None) × (r ≡ Ok decls)
if_free fault None r decls h = (refl, h)
if_free fault (Some a) r decls h = cc

checked : (list : Result (List Decl) DeclFault) (reserved : Option ℕ) (taken : List Decl → Option (List ℕ)) (decls : List Decl)
    → (list >>= λ ds. refuse Reserved reserved >>= λ _. refuse Taken (taken ds) >>= λ _. Ok ds) ≡ Ok decls
    → (list ≡ Ok decls) × (taken decls ≡ None)
checked (Err fault) reserved taken decls h = cc
checked (Ok ds) reserved taken decls h =
    let open_place = if_free Reserved reserved (refuse Taken (taken ds) >>= λ _. Ok ds) decls h in
    let free = if_free Taken (taken ds) (Ok ds) decls open_place.1 in
    (free.1, subst (λ xs. taken xs ≡ None) (same_ok (Ok ds) ds decls refl free.1) free.0)

read_list : (d : Data) (decls : List Decl) → list_of_decls d ≡ Ok decls → (ds : Items) × (d ≡ array ds) × (items_from decl_of 0 ds ≡ Ok decls)
read_list d decls h = by (as_array d) (read_array d) h
  where
    by : (o : Option Items) → ((ds : Items) → o ≡ Some ds → d ≡ array ds) → decls_in o ≡ Ok decls
        → (ds : Items) × (d ≡ array ds) × (items_from decl_of 0 ds ≡ Ok decls)
    by None is h = cc
    by (Some ds) is h = (ds, is ds refl, h)

pub read_for : (m : Module) (d : Data) (decls : List Decl) → decls_of m d ≡ Ok decls → IsReadFor m d decls
unfolding decls_of
read_for m d decls h =
    let passed = checked (list_of_decls d) (first_reserved 0 m.imports) (first_taken (export_names m)) decls h in
    let list = read_list d decls passed.0 in
    record { items = list.0; is = list.1; each = list.2; free = passed.1 }

pub read_whole : (m : Module) (bytes : List ℕ) (decls : List Decl) → decls_of_text m bytes ≡ Ok decls
    → (d : Data) × (read bytes ≡ Some d) × IsReadFor m d decls
read_whole m bytes decls h = by (is_utf8 bytes) h
  where
    from : (o : Option Data) → decls_read m o ≡ Ok decls → (d : Data) × (o ≡ Some d) × IsReadFor m d decls
    from None h = cc
    from (Some d) h = (d, refl, read_for m d decls h)

    by : (text : Bool) → cond text (decls_read m (read bytes)) (Err NotJson) ≡ Ok decls → (d : Data) × (read bytes ≡ Some d) × IsReadFor m d decls
    by true h = from (read bytes) h
    by false h = cc
