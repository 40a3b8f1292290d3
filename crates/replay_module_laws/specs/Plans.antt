-- Plans that fit a module.
use Rattle.std.specs.Prelude.{◌≡◌, ℕ, List, [], ◌∷◌, true}
use Rattle.std.specs.Option.{option_to_list}
use Rattle.std.specs.List.{AllByRecursion, list_all}
use Rattle.wasm_syntax.specs.declared.values.ValType.{ValType}
use Rattle.wasm_syntax.specs.declared.modules.Module.{Module}
use Rattle.wasm_syntax.specs.Index.{func_type}
use Rattle.trace_model.specs.declared.tapes.Next.{Next}
use Rattle.trace_model.specs.declared.tapes.Next.TheVariants.{Call, Return, End, Trap}
use Rattle.trace_model.specs.declared.tapes.Segment.{Segment}
use Rattle.trace_model.specs.Fitting.{effect_fits, takes_values, types_of}
use Rattle.replay_module_spec.specs.declared.plans.Plan.{Plan}
use Rattle.replay_module_spec.specs.Functions.{original_type}
use Rattle.replay_module_spec.specs.Fragments.{import_types}
use Rattle.replay_module_laws.specs.Written.{IsConstantSegment}

-- control leaves the host so in an activation with such results: a call has its arguments, and a return its results
abbrev pub NextFits : Module → List ValType → Next → Type 0
NextFits m results (Call func args) = takes_values (types_of args) (func_type m func) ≡ true
NextFits m results (Return result) = types_of (option_to_list result) ≡ results
NextFits m results End = results ≡ []
NextFits m results Trap = Unit {0}

-- control leaves the host properly in an activation with these results: a call has its arguments, and a return its
-- results
pub record SegmentFits (m : Module) (results : List ValType) (segment : Segment) : Type 0 where
  pub effects : list_all (effect_fits m) segment.effects ≡ true
  pub next : NextFits m results segment.next
  pub constants : IsConstantSegment segment

-- the segments of an activation with these results fit
abbrev pub AreFit : Module → List ValType → List Segment → Type 0
AreFit m results segments = AllByRecursion (SegmentFits m results) segments

-- the calls of imports with these type indices fit
abbrev pub CallsFit : Module → List ℕ → List (List (List Segment)) → Type 0
CallsFit m (ty ∷ types) (calls ∷ more) =
    AllByRecursion (AreFit m (original_type m ty).results) calls × CallsFit m types more
CallsFit m types calls = Unit {0}

-- a plan fits the module
pub record PlanFits (m : Module) (plan : Plan) : Type 0 where
  pub begin : AreFit m [] plan.begin
  pub imports : CallsFit m (import_types m) plan.imports
