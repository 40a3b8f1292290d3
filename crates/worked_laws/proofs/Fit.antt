-- The example modules can be run, and their scripts fit them.
use Rattle.std.proofs.Common.{◌≡◌, ℕ, ◌≤◌, List, [], ◌∷◌, length, Some, None, All, refl, sym, subst}
use Rattle.std.specs.Prelude.{IsTrue, IfSome}
use Rattle.std.specs.List.{AllZip}
use Rattle.std.proofs.lemmas.List.Elements.{All-from_recursion}
use Rattle.wasm_syntax.specs.declared.signatures.FuncType.{FuncType}
use Rattle.wasm_syntax.specs.declared.modules.Module.{Module}
use Rattle.wasm_syntax.specs.Index.{of_kind, func_import, imported_funcs, imported_globals, type_at, func_type}
use Rattle.wasm_syntax.specs.Typing.{is_constant}
use Rattle.host_script.specs.declared.scripts.Action.{Action}
use Rattle.host_script.specs.declared.scripts.Response.{Response}
use Rattle.host_script.specs.Fits.{AreConstants, FitsAction, FitActions, FitsResponse, FitsImport, Fits}
use Rattle.worked_histories.specs.Build.{returns, one_call}
use Rattle.worked_histories.specs.Scripts.{does_all}

pub no_constants : AreConstants []
no_constants = All-from_recursion (λ value. IsTrue (is_constant value)) [] tt

-- a script for a module with one import, which calls function 1
pub one_call_fits : (m : Module) (t : ℕ) (ty callee : FuncType) (responses : List Response)
    → of_kind func_import m.imports ≡ t ∷ [] → type_at m t ≡ Some ty → imported_funcs m ≤ 1
    → func_type m 1 ≡ Some callee → callee.params ≡ [] → length (imported_globals m) ≡ 0
    → All (FitsResponse m ty) responses → Fits m (one_call 1 responses)
one_call_fits m t ty callee responses import has_type few called no_params none fit =
    record {
      globals = sym none;
      values = All-from_recursion (λ given. IfSome given (λ value. IsTrue (is_constant value))) [] tt;
      imports =
          subst (λ types. AllZip (FitsImport m) types (one_call 1 responses).imports) (sym import)
          ((ty, has_type, record { calls = fit; rest = tt }), tt);
      main = All-from_recursion (FitsAction m []) (one_call 1 responses).main (
        record {
          defined = few;
          ty = callee;
          has_type = called;
          fit = record { in_range = no_constants; typed = sym no_params };
        },
        tt,
      );
    }

-- one response with these actions, which returns nothing
pub does_fits : (m : Module) (callee : FuncType) (actions : List Action)
    → of_kind func_import m.imports ≡ 0 ∷ []
    → type_at m 0 ≡ Some (record { params = []; results = [] }) → imported_funcs m ≤ 1
    → func_type m 1 ≡ Some callee → callee.params ≡ [] → length (imported_globals m) ≡ 0
    → FitActions m [] actions → Fits m (does_all actions)
does_fits m callee actions import has_type few called no_params none fit =
    one_call_fits m 0 (record { params = []; results = [] }) callee (returns actions None ∷ []) import has_type few
    called no_params none
    (All-from_recursion (FitsResponse m (record { params = []; results = [] })) (returns actions None ∷ [])
    (record { actions = fit; «end» = record { in_range = no_constants; typed = refl } }, tt))
