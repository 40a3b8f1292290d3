-- The replay module keeps the original's functions, and has no imports.
use Rattle.std.proofs.Common.{◌≡◌, ℕ, ◌+◌, ◌^◌, ◌<◌, List, [], ◌∷◌, ◌++◌, length, Some, refl, ◌∙◌, arith, length-append}
use Rattle.std.proofs.lemmas.List.{length-map}
use Rattle.std.proofs.lemmas.Option.{slice_get_within}
use Rattle.base.proofs.Lists.{get_after_by, get_front}
use Rattle.wasm_syntax.specs.declared.modules.Module.{Module}
use Rattle.wasm_syntax.specs.declared.modules.Func.{Func}
use Rattle.wasm_syntax.specs.Index.{all_globals, func_indices, func_type, imported_funcs}
use Rattle.wasm_syntax.specs.Validity.{IsValid}
use Rattle.host_script.specs.declared.scripts.Supply.{Supply}
use Rattle.trace_model.specs.declared.tapes.Segment.{Segment}
use Rattle.history_spec.specs.Code.{code_of}
use Rattle.replay_form.specs.Forms.{IsReplayable}
use Rattle.replay_module_spec.specs.declared.plans.Plan.{Plan}
use Rattle.replay_module_spec.specs.Functions.{group_count, import_funcs, start_type}
use Rattle.replay_module_spec.specs.Fragments.{fragment_of, helper_funcs, import_bodies, import_types, start_index}
use Rattle.replay_module_spec.specs.Merge.{layout_of, layout_section, replay_module}
use Rattle.replay_module_laws.specs.Standing.{KeepsOriginals, StandsAlone}
use Rattle.replay_module_laws.specs.Codes.{IsReplayCode}
use Rattle.replay_module_laws.specs.CodeLaws.{ReplayModulesHaveCode}
use Rattle.replay_module_laws.proofs.Functions.{functions}

-- the number of functions in the places of imports is the number of imports with calls
import_funcs_length : (m : Module) (counter first : ℕ) (types : List ℕ) (calls : List (List (List Segment)))
    → length calls ≡ length types → length (import_funcs m counter first types calls) ≡ length types
import_funcs_length m counter first [] [] e = refl
import_funcs_length m counter first [] (y ∷ calls) e = absurd (omega (arith, e))
import_funcs_length m counter first (x ∷ types) [] e = absurd (omega (arith, e))
import_funcs_length m counter first (x ∷ types) (y ∷ calls) e =
    let later =
    import_funcs_length m (counter + 1) (first + group_count (length y)) types calls (omega (arith, e)) in
    omega (arith, later)

module _ (law : ReplayModulesHaveCode) (m : Module) (supply : Supply) (plan : Plan) (valid : IsValid m)
    (many : length plan.imports ≡ imported_funcs m) where
  abbrev replay : Module
  replay = replay_module m supply (fragment_of m plan)

  code : IsReplayCode m plan (code_of replay)
  code = law m supply plan valid many

  bodies_length : length (import_bodies m plan) ≡ imported_funcs m
  bodies_length =
      import_funcs_length m (length (all_globals m)) (start_index m + 1) (import_types m) plan.imports many

  pub originals_kept : KeepsOriginals m replay
  originals_kept =
      record {
        types = code.shares.types;
        signatures = code.shares.signatures;
        funcs = λ place func found.
            let long = bodies_length in
            get_after_by (import_bodies m plan) (m.funcs ++ helper_funcs m plan) (imported_funcs m + place) place (omega (arith, long))
            ∙ get_front m.funcs (helper_funcs m plan) place (slice_get_within m.funcs place func found) ∙ found;
      }

  entry_typed : func_type replay (start_index m) ≡ Some start_type
  entry_typed = code.start.has_type

  pub stands_alone : StandsAlone m replay
  stands_alone =
      record {
        imports = refl;
        start = refl;
        entry = refl;
        entry_type = entry_typed;
      }

  -- there are more functions than in the original
  pub functions_more : start_index m < length (func_indices replay)
  functions_more =
      let index = length-map (import_bodies m plan ++ (m.funcs ++ helper_funcs m plan)) (λ (f : Func). f.ty) in
      let parts = length-append (import_bodies m plan) (m.funcs ++ helper_funcs m plan) in
      let rest = length-append m.funcs (helper_funcs m plan) in
      let long = bodies_length in
      let all = functions m in
      omega (arith, index, parts, rest, long, all)

  pub replayable : start_index m < 2 ^ 32 → IsReplayable replay (layout_of m) (start_index m)
  replayable few =
      let all = functions m in
      let more = functions_more in
      record {
        laid =
            record {
              section = layout_section m;
              only = refl;
              bytes =
                  record {
                    small_imports = omega (arith, all, few);
                    small_defined = omega (arith, all, few);
                    written = refl;
                  };
              within = omega (arith, all, more);
            };
        alone = refl;
        enters = record { exported = refl; typed = entry_typed };
      }
