-- Properties of an accepted module that few bytes encode, which running and accepting need.
use Rattle.std.proofs.Common.{◌≡◌, ℕ, ◌≤◌, ◌<◌, ◌^◌, List, [], ◌∷◌, ◌++◌, length, All, Option, Some, None, Bool, true, false, cond, refl, arith}
use Rattle.std.specs.Prelude.{filter_map, nat_lt}
use Rattle.std.specs.List.{AllByRecursion, cons_option}
use Rattle.std.proofs.lemmas.Bool.{ltb-false, ltb-true}
use Rattle.std.proofs.lemmas.List.Elements.{All-head, All-tail, All-weaker}
use Rattle.base.proofs.Lists.{nil_parts}
use Rattle.wasm_syntax.specs.declared.limits.TheConstants.{MAX_LOCALS, MAX_LOCALS_HOOKED, MAX_REPLAY_BYTES}
use Rattle.wasm_syntax.specs.declared.signatures.FuncType.{FuncType}
use Rattle.wasm_syntax.specs.declared.profile.Which.TheVariants.{Locals}
use Rattle.wasm_syntax.specs.declared.modules.Func.{Func}
use Rattle.wasm_syntax.specs.declared.modules.Module.{Module}
use Rattle.wasm_syntax.proofs.Quantities.{parameters_past, tables_past, memories_past}
use Rattle.wasm_syntax.specs.Profile.{Refusal, Limit, past, count_of_locals, refused_instructions, quantities_past, reserved_imports, IsAccepted, IsSupported}
use Rattle.wasm_profile.specs.Sizes.{HasShortLists, IsShortFunc}
use Rattle.wasm_flat.specs.Sizes.{IsShort}
use Rattle.wasm_syntax.specs.ListsWithin.{HasListsWithin}
use Rattle.r3_inputs.specs.declared.module_files.ModuleFile.{ModuleFile}
use Rattle.r3_inputs.specs.declared.module_files.ModuleFile.TheVariants.{Original, Instrumented, Replay}
use Rattle.r3_inputs.specs.ModuleFiles.{is_instrumented, max_bytes}

-- the greatest files are those of replay modules
pub fewer_bytes : (file : ModuleFile) (count : ℕ) → count ≤ max_bytes file → count ≤ MAX_REPLAY_BYTES
fewer_bytes Original count h = omega (arith, h)
fewer_bytes Instrumented count h = omega (arith, h)
fewer_bytes Replay count h = h

-- ---- what accepting needs

abbrev HasFew : ℕ → (Func → ℕ) → List Func → Type 0
HasFew most count funcs = All (λ (func : Func). count func ≤ most) funcs

funcs_short : (most : ℕ) (funcs : List Func) → most < 2 ^ 31 → HasFew most (λ func. length func.locals) funcs
    → HasFew most (λ func. length func.body) funcs → AllByRecursion IsShortFunc funcs
funcs_short most [] h locals bodies = tt
funcs_short most (func ∷ funcs) h locals bodies = (
  record {
    body = omega (arith, h, All-head (λ (func : Func). length func.body ≤ most) func funcs bodies);
    locals = omega (arith, h, All-head (λ (func : Func). length func.locals ≤ most) func funcs locals);
  },
  funcs_short most funcs h (All-tail (λ (func : Func). length func.locals ≤ most) func funcs locals)
      (All-tail (λ (func : Func). length func.body ≤ most) func funcs bodies),
)

pub short_lists : (most : ℕ) (m : Module) → most ≤ MAX_REPLAY_BYTES → HasListsWithin most m → HasShortLists m
short_lists most m h within = record {
  imports = omega (arith, h, within.parts);
  funcs = omega (arith, h, within.funcs);
  each_func = funcs_short most m.funcs (omega (arith, h)) within.locals within.bodies;
}

-- ---- what running needs

nil_both : {X : Type 0} (xs ys : List X) → xs ≡ [] → ys ≡ [] → xs ++ ys ≡ []
nil_both [] ys e h = h
nil_both (x ∷ xs) ys e h = cc

-- few locals are within a greater limit too
within_more : (count : ℕ) → past MAX_LOCALS Locals count ≡ None → past MAX_LOCALS_HOOKED Locals count ≡ None
within_more count none = by (nat_lt MAX_LOCALS count) (nat_lt MAX_LOCALS_HOOKED count) refl refl none
  where
    by : (few many : Bool) → nat_lt MAX_LOCALS count ≡ few → nat_lt MAX_LOCALS_HOOKED count ≡ many
        → cond few (Some (Limit Locals count)) None ≡ None → cond many (Some (Limit Locals count)) None ≡ None
    by few false e f i = refl
    by true true e f i = cc
    by false true e f i = absurd (omega (arith, ltb-false MAX_LOCALS count e, ltb-true MAX_LOCALS_HOOKED count f))

locals_within_more : (funcs : List Func) → filter_map (λ f. past MAX_LOCALS Locals (count_of_locals f)) funcs ≡ []
    → filter_map (λ f. past MAX_LOCALS_HOOKED Locals (count_of_locals f)) funcs ≡ []
locals_within_more [] h = refl
locals_within_more (f ∷ funcs) h =
    by (past MAX_LOCALS Locals (count_of_locals f)) (past MAX_LOCALS_HOOKED Locals (count_of_locals f))
    (within_more (count_of_locals f)) (locals_within_more funcs) h
  where
    by : (few many : Option Refusal) → (few ≡ None → many ≡ None)
        → (filter_map (λ f. past MAX_LOCALS Locals (count_of_locals f)) funcs ≡ []
        → filter_map (λ f. past MAX_LOCALS_HOOKED Locals (count_of_locals f)) funcs ≡ [])
        → cons_option few (filter_map (λ f. past MAX_LOCALS Locals (count_of_locals f)) funcs) ≡ []
        → cons_option many (filter_map (λ f. past MAX_LOCALS_HOOKED Locals (count_of_locals f)) funcs) ≡ []
    by (Some r) many less later h = cc
    by None None less later h = later h
    by None (Some r) less later h = cc (less refl)

abbrev locals_past : ℕ → Module → List Refusal
locals_past most m = filter_map (λ f. past most Locals (count_of_locals f)) m.funcs

-- quantities within their limits in an original module are within those of an instrumented one
more_quantities : (hooked : Bool) (m : Module) → quantities_past hooked m ≡ [] → quantities_past true m ≡ []
more_quantities true m few = few
more_quantities false m few =
    let parts = nil_parts (parameters_past m ++ tables_past m ++ memories_past m) (locals_past MAX_LOCALS m) few in
    nil_both (parameters_past m ++ tables_past m ++ memories_past m) (locals_past MAX_LOCALS_HOOKED m) parts.0 (locals_within_more m.funcs parts.1)

module _ (hooked : Bool) (m : Module) (accepted : IsAccepted hooked m) where
  -- an accepted module has no cause of refusal, of the three kinds
  by_kind : ((refused_instructions m ≡ []) × (quantities_past hooked m ≡ [])) × (reserved_imports hooked m ≡ [])
  by_kind =
      let both = nil_parts (refused_instructions m ++ quantities_past hooked m) (reserved_imports hooked m)
      accepted.none_refused in
      (nil_parts (refused_instructions m) (quantities_past hooked m) both.0, both.1)

  quantities : quantities_past true m ≡ []
  quantities = more_quantities hooked m by_kind.0.1

  -- no instruction is refused, and the quantities are within their limits
  pub supported_when_accepted : IsSupported m
  supported_when_accepted = record { instructions = by_kind.0.0; quantities = quantities }

  -- the lists are short if few bytes encode the module
  pub short_when_accepted : (most : ℕ) → most ≤ MAX_REPLAY_BYTES → HasListsWithin most m → IsShort m
  short_when_accepted most few within = record {
    types = omega (arith, few, within.parts);
    funcs = omega (arith, few, within.funcs);
    params =
        All-weaker (λ (ty : FuncType). length ty.params ≤ most) (λ (ty : FuncType). length ty.params < 2 ^ 31)
        (λ ty short. omega (arith, few, short)) m.types within.params;
    bodies =
        All-weaker (λ (f : Func). length f.body ≤ most) (λ (f : Func). length f.body < 2 ^ 31)
        (λ f short. omega (arith, few, short)) m.funcs within.bodies;
    quantities = quantities;
  }
