-- The last imports of instrumented modules are the hooks.
use Rattle.std.proofs.Common.{◌≡◌, ℕ, ◌+◌, ◌-◌, List, [], ◌∷◌, length, filter, Some, None, Bool, true, false, cond, bytes_eq, replicate, refl, ap, ◌∙◌, arith}
use Rattle.std.specs.Prelude.{filter_map}
use Rattle.std.specs.List.{enumerate_from, cons_option}
use Rattle.base.proofs.Options.{cond_some}
use Rattle.wasm_syntax.specs.declared.modules.Import.{Import}
use Rattle.wasm_syntax.specs.declared.modules.Module.{Module}
use Rattle.wasm_syntax.specs.Index.{imported_funcs}
use Rattle.wasm_syntax.specs.Profile.{Refusal, Reserved, reserved_import, IsAccepted}
use Rattle.record_replay_spec.specs.Hooks.{hook_module}
use Rattle.record_replay_spec.specs.HookedForm.{digest_length, form_of_sections, hooked_sections, imports_hooks, is_from_hooks, own_imports}
use Rattle.record_replay_spec.specs.Instrumented.{instrumented_module}
use Rattle.record_replay_spec.specs.HookLaws.{InstrumentedAreHooked, InstrumentedKeepIndices}
use Rattle.instrumented_module_laws.specs.SizeLaws.{InstrumentedImportHooks}
use Rattle.instrumented_module_laws.proofs.ShortParts.{none_past}

-- if no import is reserved, no import is from the hooks' module
pub none_from_hooks : (at : ℕ) (imports : List Import) → filter_map reserved_import (enumerate_from at imports) ≡ []
    → filter is_from_hooks imports ≡ []
none_from_hooks at [] none = refl
none_from_hooks at (i ∷ imports) none =
    by (bytes_eq i.module hook_module) none (λ later. none_from_hooks (at + 1) imports later)
  where
    rest : List Refusal
    rest = filter_map reserved_import (enumerate_from (at + 1) imports)

    by : (b : Bool) → cons_option (cond b (Some (Reserved at)) None) rest ≡ []
        → (rest ≡ [] → filter is_from_hooks imports ≡ [])
        → cond b (i ∷ filter is_from_hooks imports) (filter is_from_hooks imports) ≡ []
    by true named later = absurd (none_named named)
      where
        none_named : Reserved at ∷ rest ≡ [] → ⊥
        none_named e = cc
    by false named later = later named

module _ (keep : InstrumentedKeepIndices) (hooked : InstrumentedAreHooked) (m : Module) (digest : List ℕ)
    (accepted : IsAccepted false m) where
  none_reserved : filter is_from_hooks m.imports ≡ []
  none_reserved = none_from_hooks 0 m.imports (none_past false m accepted.none_refused).1

  -- a digest of the required length; imports do not depend on the digest
  abbrev zeros : List ℕ
  zeros = replicate digest_length 0

  imports : imports_hooks (instrumented_module m digest) ≡ true
  imports =
      let named = instrumented_module m zeros in
      (cond_some (imports_hooks named)
      (form_of_sections (own_imports named) (length named.funcs) (hooked_sections named)) _
      (hooked m zeros refl none_reserved)).0

  own : own_imports (instrumented_module m digest) ≡ imported_funcs m
  own =
      let less : imported_funcs m + 15 - 15 ≡ imported_funcs m = omega arith in
      ap (λ count. count - 15) (keep m digest).imports ∙ less

pub instrumented_import_hooks : InstrumentedKeepIndices → InstrumentedAreHooked → InstrumentedImportHooks
instrumented_import_hooks keep hooked m digest accepted =
    (imports keep hooked m digest accepted, own keep hooked m digest accepted)
