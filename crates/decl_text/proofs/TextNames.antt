-- The names of declarations that are read from a value are text.
use Rattle.std.proofs.Common.{◌≡◌, ℕ, List, [], ◌∷◌, map, Option, Some, Result, Ok, Err, Ordering, Less, Equal, Greater, nat_cmp, String, Global, codes, sym, ap, subst}
use Rattle.std.specs.Prelude.{⊤, IfOk}
use Rattle.std.specs.Str.{IsUtf8}
use Rattle.std.specs.List.{AllByRecursion}
use Rattle.std.specs.Ordering.{match_ordering}
use Rattle.std.specs.Cmp.Lexicographic.{slice_cmp}
use Rattle.std.proofs.lemmas.Str.{IsUtf8-string_bytes}
use Rattle.std.proofs.lemmas.List.Elements.{All-from_recursion}
use Rattle.wasm_syntax.specs.declared.modules.Module.{Module}
use Rattle.instance_spec.specs.declared.decls.Decl.{Decl}
use Rattle.serde_json.specs.Data.{Data, null, boolean, number, string, array, object, Items, no_items, item, Members, no_members, member}
use Rattle.serde_json.specs.Find.{get, get_member}
use Rattle.serde_json.specs.View.{view, view_step, items_of, members_of}
use Rattle.serde_json.specs.declared.value.Value.{Value, map-Value, roll-Value}
use Rattle.serde_json.specs.declared.value.Value.TheOpen.{Value-F}
use Rattle.serde_json.specs.declared.value.Value.TheFolds.{fold-roll-Value, ind-Value}
use Rattle.decl_text.specs.declared.faults.DeclFault.{DeclFault}
use Rattle.decl_text.specs.Walk.{Gives}
use Rattle.decl_text.specs.Names.{NamesAreText}
use Rattle.decl_text.specs.Texts.{text_of, decl_of, decls_of}
use Rattle.decl_text.proofs.Parts.{Rows, read_under, read_items, read_text, read_decl, read_for}

-- the strings in a value are text
abbrev mutual
  pub HasTexts : Data → Type 0
  HasTexts null = ⊤
  HasTexts (boolean b) = ⊤
  HasTexts (number n) = ⊤
  HasTexts (string s) = IsUtf8 s
  HasTexts (array ds) = ItemsHaveTexts ds
  HasTexts (object ms) = MembersHaveTexts ms

  pub ItemsHaveTexts : Items → Type 0
  ItemsHaveTexts no_items = ⊤
  ItemsHaveTexts (item d ds) = HasTexts d × ItemsHaveTexts ds

  pub MembersHaveTexts : Members → Type 0
  MembersHaveTexts no_members = ⊤
  MembersHaveTexts (member k d ms) = HasTexts d × MembersHaveTexts ms

-- ---- values in memory

abbrev ViewHasTexts : Value → Type 0
ViewHasTexts v = HasTexts (view v)

items_have : (vs : List ((v : Value) × ViewHasTexts v)) → ItemsHaveTexts (items_of (map view (map (λ e. e.0) vs)))
items_have [] = tt
items_have (v ∷ vs) = (v.1, items_have vs)

-- an entry has its value with the proof
members_have : (ms : List (String Global × ((v : Value) × ViewHasTexts v)))
    → MembersHaveTexts (members_of (map (λ (m : String Global × Value). (m.0, view m.1))
    (map (λ (m : String Global × ((v : Value) × ViewHasTexts v)). (m.0, m.1.0)) ms)))
members_have [] = tt
members_have (m ∷ ms) = (m.1.1, members_have ms)

layer_has : (y : Value-F ((v : Value) × ViewHasTexts v))
    → HasTexts (view_step (map-Value Value Data view (map-Value ((v : Value) × ViewHasTexts v) Value (λ e. e.0) y)))
layer_has Value-F.Null = tt
layer_has (Value-F.Bool b) = tt
layer_has (Value-F.Number x) = tt
layer_has (Value-F.String s) = IsUtf8-string_bytes s
layer_has (Value-F.Array v) = items_have v.items
layer_has (Value-F.Object m) = members_have m.entries

view_has : (v : Value) → ViewHasTexts v
view_has = ind-Value ViewHasTexts (λ x y is.
    subst ViewHasTexts (ap roll-Value is)
    (subst HasTexts (sym (fold-roll-Value Data view_step (map-Value ((v : Value) × ViewHasTexts v) Value (λ e. e.0) y))) (layer_has y)))

-- ---- what is found in them

either_has : (o : Ordering) (e d : Data) (later : Option Data) → HasTexts e → (later ≡ Some d → HasTexts d)
    → match_ordering o later (Some e) later ≡ Some d → HasTexts d
either_has Less e d later have more h = more h
either_has Equal e d later have more h = let same : e ≡ d = cc in subst HasTexts same have
either_has Greater e d later have more h = more h

member_has : (k : List ℕ) (ms : Members) (d : Data) → MembersHaveTexts ms → get_member k ms ≡ Some d → HasTexts d
member_has k no_members d have h = cc
member_has k (member l e ms) d have h = either_has (slice_cmp nat_cmp k l) e d (get_member k ms) have.0 (member_has k ms d have.1) h

found_has : (k : List ℕ) (d e : Data) → HasTexts d → get k d ≡ Some e → HasTexts e
found_has k null e have h = cc
found_has k (boolean b) e have h = cc
found_has k (number n) e have h = cc
found_has k (string s) e have h = cc
found_has k (array ds) e have h = cc
found_has k (object ms) e have h = member_has k ms e have h

-- ---- names

abbrev HasTextName : Data → Decl → Type 0
HasTextName d decl = HasTexts d → IsUtf8 decl.name

name_read : (d : Data) (decl : Decl) → decl_of d ≡ Ok decl → HasTextName d decl
name_read d decl h have =
    let name = read_under (codes "name") text_of d decl.name (read_decl d decl h).name in
    subst HasTexts (read_text name.0 decl.name name.2) (found_has (codes "name") d name.0 have name.1)

names_have : (ds : Items) (decls : List Decl) → Rows HasTextName ds decls → ItemsHaveTexts ds
    → AllByRecursion (λ (decl : Decl). IsUtf8 decl.name) decls
names_have no_items [] rows have = tt
names_have no_items (decl ∷ decls) rows have = absurd rows
names_have (item d ds) [] rows have = absurd rows
names_have (item d ds) (decl ∷ decls) rows have = (rows.0 have.0, names_have ds decls rows.1 have.1)

pub names_read : (m : Module) (v : Value) (r : Result (List Decl) DeclFault) → Gives r (decls_of m (view v)) → IfOk r NamesAreText
names_read m v (Err fault) h = tt
names_read m v (Ok decls) h =
    let list = read_for m (view v) decls h in
    let rows = read_items HasTextName decl_of name_read 0 list.items decls list.each in
    All-from_recursion (λ (decl : Decl). IsUtf8 decl.name) decls
    (names_have list.items decls rows (subst HasTexts list.is (view_has v)))
