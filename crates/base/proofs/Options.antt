-- An option that is present, if it comes from another option or from a test; the first of several options.
use Rattle.std.proofs.Common.{◌≡◌, Option, Some, None, Bool, true, false, cond, option_map, option_and_then, refl, sym, ap, ◌∙◌}
use Rattle.std.specs.Prelude.{unwrap_or}
use Rattle.std.specs.Option.{option_or}
use Rattle.std.proofs.lemmas.Option.{none-some, same_Some}

pub map_some : {A B : Type 0} (f : A → B) (o : Option A) (y : B) → option_map f o ≡ Some y
    → (x : A) × (o ≡ Some x) × (f x ≡ y)
map_some f None y h = cc
map_some f (Some x) y h = (x, refl, cc)

pub and_then_some : {A B : Type 0} (o : Option A) (f : A → Option B) (y : B)
    → option_and_then f o ≡ Some y → (x : A) × (o ≡ Some x) × (f x ≡ Some y)
and_then_some None f y h = cc
and_then_some (Some x) f y h = (x, refl, h)

pub cond_some : {A : Type 0} (b : Bool) (o : Option A) (y : A) → cond b o None ≡ Some y → (b ≡ true) × (o ≡ Some y)
cond_some true o y h = (refl, h)
cond_some false o y h = cc

pub cond_none_some : {A : Type 0} (b : Bool) (o : Option A) (y : A) → cond b None o ≡ Some y
    → (b ≡ false) × (o ≡ Some y)
cond_none_some true o y h = cc
cond_none_some false o y h = (refl, h)

-- ---- what an option is

pub same_some : {A : Type 0} (o : Option A) (x y : A) → o ≡ Some x → o ≡ Some y → x ≡ y
same_some o x y first second = same_Some x y (sym first ∙ second)

pub none_some : {A : Type 0} (o : Option A) (x : A) → o ≡ None → o ≡ Some x → ⊥
none_some o x none some = none-some x (sym none ∙ some)

-- an option mapped, if what it has is in another too
pub map_wider : {A B : Type 0} (f : A → B) (o other : Option A) (y : B) → ((x : A) → o ≡ Some x → other ≡ Some x)
    → option_map f o ≡ Some y → option_map f other ≡ Some y
map_wider f None other y there h = absurd (none-some y h)
map_wider f (Some x) other y there h = ap (option_map f) (there x refl) ∙ h

-- ---- the first of several options

pub or_none : {A : Type 0} (o : Option A) → option_or o None ≡ o
or_none None = refl
or_none (Some x) = refl

pub or_assoc : {A : Type 0} (a b c : Option A) → option_or (option_or a b) c ≡ option_or a (option_or b c)
or_assoc None b c = refl
or_assoc (Some x) b c = refl

pub or_first : {A : Type 0} (a b : Option A) (x : A) → a ≡ Some x → option_or a b ≡ Some x
or_first None b x h = absurd (none-some x h)
or_first (Some y) b x h = h

pub first_else : {A : Type 0} (a b : Option A) (x : A) → unwrap_or (option_or a b) x ≡ unwrap_or a (unwrap_or b x)
first_else None b x = refl
first_else (Some y) b x = refl
