-- Effects that give just what a window finds first have an encoding, if the finds have one.
use Rattle.std.proofs.Common.{◌≡◌, ℕ, zero, suc, ◌+◌, ◌≤◌, ◌<◌, ◌^◌, ◌⊎◌, inl, inr, ⊎_elim, List, [], ◌∷◌, length, Option, Some, None, true, cond, nat_eq, refl, ap, subst, arith}
use Rattle.std.specs.Prelude.{sum_by, IfSome}
use Rattle.std.specs.List.{AllByRecursion, list_all}
use Rattle.std.proofs.lemmas.Bool.Decides.{nat_tests}
use Rattle.std.proofs.lemmas.List.Sums.{sum_by-cons}
use Rattle.base.proofs.Booleans.{and_parts}
use Rattle.base.proofs.Options.{cond_some}
use Rattle.wasm_syntax.specs.Encoding.Encodable.{FitsU32}
use Rattle.wasm_syntax.specs.declared.values.Val.{Val}
use Rattle.trace_model.specs.declared.tapes.Effect.{Effect}
use Rattle.trace_model.specs.declared.tapes.Effect.TheVariants.{Grow, Table, Bytes, Entry, Global}
use Rattle.trace_model.specs.Weight.{effect_weight}
use Rattle.trace_bytes.specs.declared.tags.TheConstants.{VERSION_2}
use Rattle.trace_bytes.specs.Spelled.{FitBytes, FitsEffect, FitsVal}
use Rattle.record_replay_spec.specs.Needed.{effect_byte, effect_entry, effect_global, effect_pages, effect_entries, has_bytes}
use Rattle.record_replay_spec.specs.LogTapes.{AreFirstFinds}
use Rattle.log_tape_laws.proofs.Among.{Among, all_among, all_of_among, order_cases}
use Rattle.log_tape_laws.proofs.Places.{Precedes, start_cases}
use Rattle.log_tape_laws.proofs.Finds.{byte_changed, byte_found, byte_inside, byte_within, entry_found, global_found, no_heavier, ordered, pages_found, size_found}

-- ---- weights

pub weighs_of : (es : List Effect) (e : Effect) → Among es e → effect_weight e ≤ sum_by effect_weight es
weighs_of [] e there = absurd there
weighs_of (d ∷ ds) e (inl here) = omega (arith, sum_by-cons effect_weight d ds, ap effect_weight here)
weighs_of (d ∷ ds) e (inr later) = omega (arith, sum_by-cons effect_weight d ds, weighs_of ds e later)

weighs_some : (e : Effect) → has_bytes e ≡ true → 0 < effect_weight e
weighs_some (Grow pages) h = omega arith
weighs_some (Table size) h = omega arith
weighs_some (Bytes addr []) h = cc
weighs_some (Bytes addr (byte ∷ bytes)) h = omega arith
weighs_some (Entry index func) h = omega arith
weighs_some (Global global value) h = omega arith

count_within : (es : List Effect) → list_all has_bytes es ≡ true → length es ≤ sum_by effect_weight es
count_within [] h = omega arith
count_within (e ∷ es) h =
    let p = and_parts (has_bytes e) (list_all has_bytes es) h in
    omega (arith, sum_by-cons effect_weight e es, weighs_some e p.0, count_within es p.1)

each_has_bytes : (es : List Effect) (e : Effect) → list_all has_bytes es ≡ true → Among es e → has_bytes e ≡ true
each_has_bytes [] e h there = absurd there
each_has_bytes (d ∷ ds) e h (inl here) =
    subst (λ f. has_bytes f ≡ true) here (and_parts (has_bytes d) (list_all has_bytes ds) h).0
each_has_bytes (d ∷ ds) e h (inr later) =
    each_has_bytes ds e (and_parts (has_bytes d) (list_all has_bytes ds) h).1 later

-- ---- what a find with an encoding gives

pages_fit : (f : Effect) (pages : ℕ) → FitsEffect VERSION_2 f → effect_pages f ≡ Some pages → FitsU32 pages
pages_fit (Grow n) pages fits h = let e : n ≡ pages = cc in subst FitsU32 e fits
pages_fit f pages fits h = cc

size_fits : (f : Effect) (size : ℕ) → FitsEffect VERSION_2 f → effect_entries f ≡ Some size → FitsU32 size
size_fits (Table n) size fits h = let e : n ≡ size = cc in subst FitsU32 e fits.1
size_fits f size fits h = cc

at_place : {X : Type 0} (i at : ℕ) (o : Option X) (x : X) → cond (nat_eq i at) o None ≡ Some x → (i ≡ at) × (o ≡ Some x)
at_place i at o x h =
    let both = cond_some (nat_eq i at) o x h in
    let p : nat_eq i at ≡ true = both.0 in
    (grind (arith, nat_tests, p), both.1)

entry_fits : (f : Effect) (index : ℕ) (func : Option ℕ) → FitsEffect VERSION_2 f → effect_entry index f ≡ Some func
    → FitsU32 index × IfSome func FitsU32
entry_fits (Entry i g) index func fits h =
    let same = at_place i index (Some g) func h in
    let e : g ≡ func = cc in
    (subst FitsU32 same.0 fits.0, subst (λ o. IfSome o FitsU32) e fits.1)
entry_fits f index func fits h = cc

global_fits : (f : Effect) (global : ℕ) (value : Val) → FitsEffect VERSION_2 f
    → effect_global global f ≡ Some (Some value) → FitsU32 global × FitsVal value
global_fits (Global i v) global value fits h =
    let same = at_place i global (Some (Some v)) (Some value) h in
    let e : v ≡ value = cc in
    (subst FitsU32 same.0 fits.0, subst FitsVal e fits.1)
global_fits f global value fits h = cc

-- ---- a run of bytes begins where a find begins, since no run ends directly before it

abbrev HoldsByte : ℕ → Effect → Type 0
HoldsByte at (Bytes addr bytes) = (addr ≤ at) × (at < addr + length bytes)
HoldsByte at e = ⊥

holds_byte : (at x : ℕ) (e : Effect) → effect_byte at e ≡ Some x → HoldsByte at e
holds_byte at x (Bytes addr bytes) h = byte_within addr at x bytes h
holds_byte at x e h = cc

-- no effect in order changes the byte directly before a run of another
none_before : (at : ℕ) (e : Effect) (bytes : List ℕ) → HoldsByte at e
    → (e ≡ Bytes (suc at) bytes) ⊎ (Precedes e (Bytes (suc at) bytes) ⊎ Precedes (Bytes (suc at) bytes) e) → ⊥
none_before at (Bytes addr others) bytes holds (inl same) =
    let e : addr ≡ suc at = cc in omega (arith, e, holds.0)
none_before at (Bytes addr others) bytes holds (inr (inl (inl less))) = omega (arith, less)
none_before at (Bytes addr others) bytes holds (inr (inl (inr both))) = omega (arith, both.1, holds.1)
none_before at (Bytes addr others) bytes holds (inr (inr (inl less))) = omega (arith, less)
none_before at (Bytes addr others) bytes holds (inr (inr (inr both))) = omega (arith, both.1, holds.0)
none_before at (Grow n) bytes holds any = absurd holds
none_before at (Table n) bytes holds any = absurd holds
none_before at (Entry n f) bytes holds any = absurd holds
none_before at (Global n v) bytes holds any = absurd holds

module _ (finds changes : List Effect) (are : AreFirstFinds finds changes) where
  no_byte_before : (at x : ℕ) (bytes : List ℕ) (f : Effect) → Among changes (Bytes (suc at) bytes)
      → Among finds f → effect_byte at f ≡ Some x → ⊥
  no_byte_before at x bytes f there found h =
      let e = byte_changed finds changes are at x f found h in
      none_before at e.0 bytes (holds_byte at e.1 e.0 e.3)
      (order_cases Precedes changes e.0 (Bytes (suc at) bytes) (ordered finds changes are) e.2 there)

  start_fits : (addr x : ℕ) (bytes : List ℕ) (f : Effect) → FitsEffect VERSION_2 f → Among finds f
      → Among changes (Bytes addr bytes) → effect_byte addr f ≡ Some x → FitsU32 addr
  start_fits zero x bytes f fits found there h = omega arith
  start_fits (suc at) x bytes (Bytes start run) fits found there h =
      let within = byte_within start (suc at) x run h in
      ⊎_elim (λ same. subst FitsU32 same fits.address)
      (λ less. let byte = byte_inside start at run (omega (arith, less)) (omega (arith, within.1)) in
      absurd (no_byte_before at byte.0 bytes (Bytes start run) there found byte.1))
      (start_cases start (suc at) within.0)
  start_fits (suc at) x bytes (Grow n) fits found there h = cc
  start_fits (suc at) x bytes (Table n) fits found there h = cc
  start_fits (suc at) x bytes (Entry n g) fits found there h = cc
  start_fits (suc at) x bytes (Global n v) fits found there h = cc

  bytes_fit : (addr : ℕ) (bytes : List ℕ) → AllByRecursion (FitsEffect VERSION_2) finds → length bytes < 2 ^ 32
      → 0 < length bytes → Among changes (Bytes addr bytes) → FitBytes addr bytes
  bytes_fit addr bytes all few some there =
      let byte = byte_inside addr addr bytes (omega arith) (omega (arith, some)) in
      let f = byte_found finds changes are addr byte.0 addr bytes there byte.1 in
      record {
        address = start_fits addr byte.0 bytes f.0 (all_among (FitsEffect VERSION_2) finds f.0 all f.1) f.1 there f.2;
        some = some;
        few = few;
      }

  effect_fits : (e : Effect) → AllByRecursion (FitsEffect VERSION_2) finds → effect_weight e < 2 ^ 32
      → 0 < effect_weight e → Among changes e → FitsEffect VERSION_2 e
  effect_fits (Grow pages) all few some there =
      let f = pages_found finds changes are pages there in
      pages_fit f.0 pages (all_among (FitsEffect VERSION_2) finds f.0 all f.1) f.2
  effect_fits (Table size) all few some there =
      let f = size_found finds changes are size there in
      (refl, size_fits f.0 size (all_among (FitsEffect VERSION_2) finds f.0 all f.1) f.2)
  effect_fits (Bytes addr bytes) all few some there = bytes_fit addr bytes all few some there
  effect_fits (Entry index func) all few some there =
      let f = entry_found finds changes are index func there in
      entry_fits f.0 index func (all_among (FitsEffect VERSION_2) finds f.0 all f.1) f.2
  effect_fits (Global global value) all few some there =
      let f = global_found finds changes are global value there in
      global_fits f.0 global value (all_among (FitsEffect VERSION_2) finds f.0 all f.1) f.2

  pub effects_fit : AllByRecursion (FitsEffect VERSION_2) finds → sum_by effect_weight finds < 2 ^ 32
      → (length changes < 2 ^ 32) × AllByRecursion (FitsEffect VERSION_2) changes
  effects_fit all few =
      let light = no_heavier finds changes are in (
        omega (arith, light, few, count_within changes are.nonempty),
        all_of_among (FitsEffect VERSION_2) changes
            (λ e there. effect_fits e all (omega (arith, light, few, weighs_of changes e there))
            (weighs_some e (each_has_bytes changes e are.nonempty there)) there),
      )
