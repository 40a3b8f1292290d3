-- A guarded module is valid, and keeps the original's functions.
use Rattle.std.proofs.Common.{◌+◌, ◌-◌, ◌++◌, slice_get, ap, ◌∙◌, sym, arith}
use Rattle.base.proofs.Lists.{get_after_by, get_front}
use Rattle.guarded_module_spec.specs.Numbers.{numbers_of}
use Rattle.guarded_module_spec.specs.GuardedModules.{appended_funcs, funcs_in_places, import_fronts, original_funcs}
use Rattle.guarded_module_laws.specs.Laws.{GuardedModulesAreValid, GuardedModulesKeepOriginals}
use Rattle.guarded_module_laws.proofs.Contexts.{alone, within}
use Rattle.guarded_module_laws.proofs.Indices.{func_kept, import_fronts_long, in_parts, originals_long, places_long, type_kept}
use Rattle.guarded_module_laws.proofs.TypedAll.{all_typed}
use Rattle.guarded_module_laws.proofs.ValidOutside.{valid_outside}

pub are_valid : GuardedModulesAreValid
are_valid m layout entry words valid guardable few =
    record {
      outside = valid_outside m layout entry words valid guardable few;
      bodies = all_typed m layout entry words valid guardable few;
    }

pub keep_originals : GuardedModulesKeepOriginals
keep_originals m layout entry words guardable =
    let none = alone m layout entry words guardable in
    let many = within m layout entry words guardable in
    record {
      types = type_kept m layout entry words none many;
      signatures = func_kept m layout entry words none many;
      funcs = λ f func past below found.
          let in_places = funcs_in_places layout m.funcs in
          let originals = original_funcs layout m.funcs in
          let appended = appended_funcs layout m.funcs in
          let j = f - layout.imports in
          let long = places_long m layout entry words none many in
          let defined = originals_long m layout entry words none many in
          let fronts = import_fronts_long m.types (numbers_of m layout) in_places in
          get_after_by (import_fronts m.types (numbers_of m layout) in_places) _ f j (omega (arith, past, long, fronts))
          ∙ get_front originals _ j (omega (arith, past, below, defined))
          ∙ sym (ap (λ l. slice_get l f) (in_parts layout m.funcs)
          ∙ get_after_by in_places (originals ++ appended) f j (omega (arith, past, long))
          ∙ get_front originals appended j (omega (arith, past, below, defined)))
          ∙ found;
    }
