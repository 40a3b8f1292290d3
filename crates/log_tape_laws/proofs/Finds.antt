-- Effects that give just what a window finds first: what each gives is found, and they weigh no more than the finds.
use Rattle.std.proofs.Common.{◌≡◌, ℕ, ◌+◌, ◌-◌, ◌≤◌, ◌<◌, inl, inr, List, [], ◌∷◌, length, Option, Some, None, true, cond, nat_eq, nat_le, slice_get, refl, sym, ap, ◌∙◌, subst, arith}
use Rattle.std.specs.Prelude.{flat_map, sum_by}
use Rattle.std.specs.Option.{option_or}
use Rattle.std.proofs.lemmas.Bool.Decides.{nat_tests}
use Rattle.std.proofs.lemmas.Option.{slice_get_within}
use Rattle.base.proofs.Lists.{item_there}
use Rattle.base.proofs.Options.{cond_some, or_first, same_some}
use Rattle.wasm_syntax.specs.declared.values.Val.{Val}
use Rattle.trace_model.specs.declared.tapes.Effect.{Effect}
use Rattle.trace_model.specs.declared.tapes.Effect.TheVariants.{Grow, Table, Bytes, Entry, Global}
use Rattle.trace_model.specs.Weight.{effect_weight}
use Rattle.record_replay_spec.specs.Known.{byte_among, last_some}
use Rattle.record_replay_spec.specs.Needed.{effect_byte, effect_entry, effect_global, effect_pages, effect_entries}
use Rattle.record_replay_spec.specs.LogTapes.{first_some, AreFirstFinds}
use Rattle.record_replay_spec.proofs.OneList.{own_place}
use Rattle.log_tape_laws.proofs.Among.{Among, AreInOrder, flat_among, flat_owner, no_more}
use Rattle.log_tape_laws.proofs.Places.{effect_places, Precedes, in_run, run_there, one_owner, in_order, places_apart, places_count}

-- ---- the first and the last effect that gives a part

module _ {X : Type 0} (part : Effect → Option X) where
  pub last_given : (es : List Effect) (e : Effect) (x : X) → Among es e → part e ≡ Some x
      → (y : X) × (last_some part es ≡ Some y)
  last_given [] e x there h = absurd there
  last_given (d ∷ ds) e x (inl here) h = go (last_some part ds) refl
    where
      go : (o : Option X) → last_some part ds ≡ o → (y : X) × (option_or (last_some part ds) (part d) ≡ Some y)
      go None is = (x, ap (λ r. option_or r (part d)) is ∙ ap part here ∙ h)
      go (Some y) is = (y, or_first (last_some part ds) (part d) y is)
  last_given (d ∷ ds) e x (inr later) h =
      let rest = last_given ds e x later h in (rest.0, or_first (last_some part ds) (part d) rest.0 rest.1)

  pub last_owner : (es : List Effect) (y : X) → last_some part es ≡ Some y
      → (e : Effect) × Among es e × (part e ≡ Some y)
  last_owner [] y h = cc
  last_owner (d ∷ ds) y h = go (last_some part ds) refl (last_owner ds y)
    where
      go : (o : Option X) → last_some part ds ≡ o
          → (last_some part ds ≡ Some y → (e : Effect) × Among ds e × (part e ≡ Some y))
          → (e : Effect) × Among (d ∷ ds) e × (part e ≡ Some y)
      go None is below = (d, inl refl, sym (ap (λ r. option_or r (part d)) is) ∙ h)
      go (Some z) is below =
          let rest = below (is ∙ sym (or_first (last_some part ds) (part d) z is) ∙ h) in
          (rest.0, inr rest.1, rest.2)

  pub first_found : (es : List Effect) (e : Effect) (x : X) → Among es e → part e ≡ Some x
      → (y : X) × (first_some part es ≡ Some y)
  first_found [] e x there h = absurd there
  first_found (d ∷ ds) e x (inl here) h = (x, or_first (part d) (first_some part ds) x (ap part here ∙ h))
  first_found (d ∷ ds) e x (inr later) h = go (part d) refl (first_found ds e x later h)
    where
      go : (o : Option X) → part d ≡ o → (y : X) × (first_some part ds ≡ Some y)
          → (y : X) × (option_or (part d) (first_some part ds) ≡ Some y)
      go None is below = (below.0, ap (λ r. option_or r (first_some part ds)) is ∙ below.1)
      go (Some y) is below = (y, or_first (part d) (first_some part ds) y is)

  pub first_owner : (es : List Effect) (y : X) → first_some part es ≡ Some y
      → (e : Effect) × Among es e × (part e ≡ Some y)
  first_owner [] y h = cc
  first_owner (d ∷ ds) y h = go (part d) refl (first_owner ds y)
    where
      go : (o : Option X) → part d ≡ o
          → (first_some part ds ≡ Some y → (e : Effect) × Among ds e × (part e ≡ Some y))
          → (e : Effect) × Among (d ∷ ds) e × (part e ≡ Some y)
      go None is below =
          let rest = below (sym (ap (λ r. option_or r (first_some part ds)) is) ∙ h) in
          (rest.0, inr rest.1, rest.2)
      go (Some z) is below = (d, inl refl, is ∙ sym (or_first (part d) (first_some part ds) z is) ∙ h)

  -- what an effect gives at a place of its own is found
  pub found : (p : ℕ × ℕ) → ((e : Effect) (x : X) → part e ≡ Some x → Among (effect_places e) p)
      → (finds changes : List Effect) → AreInOrder Precedes changes
      → last_some part changes ≡ first_some part finds
      → (e : Effect) (x : X) → Among changes e → part e ≡ Some x
      → (f : Effect) × Among finds f × (part f ≡ Some x)
  found p place finds changes order same e x there h =
      let given = last_given changes e x there h in
      let owner = last_owner changes given.0 given.1 in
      let one = one_owner changes e owner.0 p order there owner.1 (place e x h) (place owner.0 given.0 owner.2) in
      let value : given.0 ≡ x = same_some (part e) given.0 x (ap part one ∙ owner.2) h in
      first_owner finds x (sym same ∙ given.1 ∙ ap Some value)

-- ---- the place at which each part is given

pub pages_place : (e : Effect) (x : ℕ) → effect_pages e ≡ Some x → Among (effect_places e) (0, 0)
pages_place (Grow pages) x h = inl refl
pages_place e x h = cc

pub entries_place : (e : Effect) (x : ℕ) → effect_entries e ≡ Some x → Among (effect_places e) (1, 0)
entries_place (Table size) x h = inl refl
entries_place e x h = cc

same_place : {X : Type 0} (kind i at : ℕ) (o : Option X) (x : X) → cond (nat_eq i at) o None ≡ Some x
    → Among {X = ℕ × ℕ} ((kind, i) ∷ []) (kind, at)
same_place kind i at o x h =
    let p : nat_eq i at ≡ true = (cond_some (nat_eq i at) o x h).0 in
    let e : i ≡ at = grind (arith, nat_tests, p) in
    inl (ap (λ n. (kind, n)) e)

pub entry_place : (at : ℕ) (e : Effect) (x : Option ℕ) → effect_entry at e ≡ Some x → Among (effect_places e) (3, at)
entry_place at (Entry index func) x h = same_place 3 index at (Some func) x h
entry_place at e x h = cc

pub global_place : (at : ℕ) (e : Effect) (x : Option Val) → effect_global at e ≡ Some x
    → Among (effect_places e) (4, at)
global_place at (Global global value) x h = same_place 4 global at (Some (Some value)) x h
global_place at e x h = cc

-- bytes have a byte just at the addresses of the run
pub byte_within : (addr at x : ℕ) (bytes : List ℕ) → byte_among addr bytes at ≡ Some x
    → (addr ≤ at) × (at < addr + length bytes)
byte_within addr at x bytes h =
    let p = cond_some (nat_le addr at) (slice_get bytes (at - addr)) x h in
    let t : nat_le addr at ≡ true = p.0 in
    let q : addr ≤ at = grind (arith, nat_tests, t) in
    let w : at - addr < length bytes = slice_get_within bytes (at - addr) x p.1 in
    (q, omega (arith, q, w))

pub byte_inside : (addr at : ℕ) (bytes : List ℕ) → addr ≤ at → at < addr + length bytes
    → (x : ℕ) × (byte_among addr bytes at ≡ Some x)
byte_inside addr at bytes low high =
    let p : nat_le addr at ≡ true = grind (arith, nat_tests, low) in
    let item = item_there bytes (at - addr) (omega (arith, low, high)) in
    (item.0, ap (λ b. cond b (slice_get bytes (at - addr)) None) p ∙ item.1)

pub byte_place : (at : ℕ) (e : Effect) (x : ℕ) → effect_byte at e ≡ Some x → Among (effect_places e) (2, at)
byte_place at (Bytes addr bytes) x h =
    let within = byte_within addr at x bytes h in run_there addr at bytes within.0 within.1
byte_place at e x h = cc

-- ---- each place that is changed is found

module _ (finds changes : List Effect) (are : AreFirstFinds finds changes) where
  pub ordered : AreInOrder Precedes changes
  ordered = in_order changes are.ordered

  pub pages_found : (pages : ℕ) → Among changes (Grow pages)
      → (f : Effect) × Among finds f × (effect_pages f ≡ Some pages)
  pages_found pages there =
      found effect_pages (0, 0) pages_place finds changes ordered are.pages (Grow pages) pages there refl

  pub size_found : (size : ℕ) → Among changes (Table size)
      → (f : Effect) × Among finds f × (effect_entries f ≡ Some size)
  size_found size there =
      found effect_entries (1, 0) entries_place finds changes ordered are.entries (Table size) size there refl

  pub byte_found : (at x addr : ℕ) (bytes : List ℕ) → Among changes (Bytes addr bytes)
      → byte_among addr bytes at ≡ Some x → (f : Effect) × Among finds f × (effect_byte at f ≡ Some x)
  byte_found at x addr bytes there h =
      found (effect_byte at) (2, at) (byte_place at) finds changes ordered (are.byte at) (Bytes addr bytes) x there h

  pub entry_found : (index : ℕ) (func : Option ℕ) → Among changes (Entry index func)
      → (f : Effect) × Among finds f × (effect_entry index f ≡ Some func)
  entry_found index func there =
      found (effect_entry index) (3, index) (entry_place index) finds changes ordered (are.entry index)
      (Entry index func) func there (own_place index func)

  pub global_found : (global : ℕ) (value : Val) → Among changes (Global global value)
      → (f : Effect) × Among finds f × (effect_global global f ≡ Some (Some value))
  global_found global value there =
      found (effect_global global) (4, global) (global_place global) finds changes ordered (are.global global)
      (Global global value) (Some value) there (own_place global (Some value))

  -- a byte that is found at an address is changed by one of the effects
  pub byte_changed : (at x : ℕ) (f : Effect) → Among finds f → effect_byte at f ≡ Some x
      → (e : Effect) × (y : ℕ) × Among changes e × (effect_byte at e ≡ Some y)
  byte_changed at x f there h =
      let given = first_found (effect_byte at) finds f x there h in
      let owner = last_owner (effect_byte at) changes given.0 (are.byte at ∙ given.1) in
      (owner.0, given.0, owner.1, owner.2)

  single_found : (kind at : ℕ) (p : ℕ × ℕ) (f : Effect) → Among finds f → Among (effect_places f) (kind, at)
      → Among ((kind, at) ∷ []) p → Among (flat_map effect_places finds) p
  single_found kind at p f there own (inl here) =
      subst (Among (flat_map effect_places finds)) here (flat_among effect_places finds f (kind, at) there own)
  single_found kind at p f there own (inr later) = absurd later

  place_found : (e : Effect) (p : ℕ × ℕ) → Among changes e → Among (effect_places e) p
      → Among (flat_map effect_places finds) p
  place_found (Grow pages) p there own =
      let f = pages_found pages there in single_found 0 0 p f.0 f.1 (pages_place f.0 pages f.2) own
  place_found (Table size) p there own =
      let f = size_found size there in single_found 1 0 p f.0 f.1 (entries_place f.0 size f.2) own
  place_found (Bytes addr bytes) p there own =
      let within = in_run addr bytes p own in
      let byte = byte_inside addr p.1 bytes within.1 within.2 in
      let f = byte_found p.1 byte.0 addr bytes there byte.1 in
      subst (λ kind. Among (flat_map effect_places finds) (kind, p.1)) (sym within.0)
      (flat_among effect_places finds f.0 (2, p.1) f.1 (byte_place p.1 f.0 byte.0 f.2))
  place_found (Entry index func) p there own =
      let f = entry_found index func there in single_found 3 index p f.0 f.1 (entry_place index f.0 func f.2) own
  place_found (Global global value) p there own =
      let f = global_found global value there in
      single_found 4 global p f.0 f.1 (global_place global f.0 (Some value) f.2) own

  pub no_heavier : sum_by effect_weight changes ≤ sum_by effect_weight finds
  no_heavier =
      let count =
      no_more (flat_map effect_places changes) (flat_map effect_places finds) (places_apart changes ordered)
      (λ p there. let owner = flat_owner effect_places changes p there in place_found owner.0 p owner.1 owner.2)
      in
      omega (arith, count, places_count changes, places_count finds)
