-- A script that fits a module fits its instrumented one, with functions renumbered and hooks answered.
use Rattle.std.proofs.Common.{◌≡◌, ℕ, ◌+◌, ◌≤◌, ◌<◌, List, [], ◌∷◌, ◌++◌, length, map, Option, Some, None, Bool, true, false, cond, nat_lt, slice_get, IsTrue, option_map, replicate, refl, sym, ap, ◌∙◌, subst, arith}
use Rattle.std.specs.Prelude.{IfSome}
use Rattle.std.specs.List.{AllZip, cons_option}
use Rattle.std.proofs.lemmas.Bool.Decides.{nat_tests}
use Rattle.std.proofs.lemmas.List.Elements.{All-nil, All-map, All-weaker}
use Rattle.base.proofs.Lists.{get_after_by}
use Rattle.wasm_syntax.specs.declared.values.Val.{Val}
use Rattle.wasm_syntax.specs.declared.values.ValType.{ValType}
use Rattle.wasm_syntax.specs.declared.signatures.FuncType.{FuncType}
use Rattle.wasm_syntax.specs.declared.signatures.GlobalType.{GlobalType}
use Rattle.wasm_syntax.specs.declared.signatures.Limits.{Limits}
use Rattle.wasm_syntax.specs.declared.modules.Import.{Import}
use Rattle.wasm_syntax.specs.declared.modules.Module.{Module}
use Rattle.wasm_syntax.specs.Index.{of_kind, func_import, func_indices, imported_funcs}
use Rattle.wasm_syntax.specs.Typing.{is_constant}
use Rattle.host_script.specs.declared.scripts.Action.{Action}
use Rattle.host_script.specs.declared.scripts.Action.TheVariants.{Write, Copy, SetTable, SetGlobal, Grow, GrowTable, Call, CallTable}
use Rattle.host_script.specs.declared.scripts.Answer.{Answer}
use Rattle.host_script.specs.declared.scripts.Response.{Response}
use Rattle.host_script.specs.declared.scripts.Script.{Script}
use Rattle.host_script.specs.Fits.{HasMemory, HasTable, FitsAction, FitActions, FitsResponse, FitsAnswer, FitsImport, IsSettable, IsCallable, Fits}
use Rattle.record_replay_spec.specs.declared.hooks.Hook.TheVariants as hook
use Rattle.record_replay_spec.specs.Hooks.{hooks, hook_count, hook_type, renumber}
use Rattle.record_replay_spec.specs.HookedRuns.{hook_answer, first_answers, renumbered_action, renumbered_response, renumbered_answer}
use Rattle.record_replay_spec.specs.Instrumented.{hook_types, hook_import, instrumented_module}
use Rattle.record_replay_spec.specs.HookLaws.{InstrumentedKeepsIndices, InstrumentedKeepIndices}
use Rattle.instrumented_module_laws.specs.Links.{script_with_hooks, InstrumentedAreFitted}
use Rattle.instrumented_module_laws.proofs.Indices.{type_kept, globals_kept, renumbered_there}

module _ (keep : InstrumentedKeepIndices) (m : Module) (digest : List ℕ) where
  abbrev hooked : Module
  hooked = instrumented_module m digest

  abbrev n : ℕ
  n = imported_funcs m

  keeps : InstrumentedKeepsIndices m digest
  keeps = keep m digest

  memory_kept : HasMemory m → HasMemory hooked
  memory_kept h = subst (λ (ms : List Limits). 0 < length ms) (sym keeps.memories) h

  table_kept : HasTable m → HasTable hooked
  table_kept h = subst (λ (ts : List Limits). 0 < length ts) (sym keeps.tables) h

  entry_there : (func : Option ℕ) → IfSome func (λ f. f < length (func_indices m))
      → IfSome (option_map (renumber n) func) (λ f. f < length (func_indices hooked))
  entry_there None h = tt
  entry_there (Some f) h = renumbered_there keep m digest f h

  settable : (global : ℕ) (value : Val) → IsSettable m global value → IsSettable hooked global value
  settable global value h =
      record {
        in_range = h.in_range;
        ty = h.ty;
        there = ap (λ (gs : List GlobalType). slice_get gs global) keeps.globals ∙ h.there;
        mutable = h.mutable;
        typed = h.typed;
      }

  defined : (func : ℕ) → imported_funcs m ≤ func → imported_funcs hooked ≤ renumber n func
  defined func h = go (nat_lt func n) refl
    where
      go : (b : Bool) → nat_lt func n ≡ b → imported_funcs hooked ≤ cond b func (func + 15)
      go true e = absurd (grind (arith, nat_tests, e, h))
      go false e = let more = keeps.imports in omega (arith, h, more)

  callable : (func : ℕ) (args : List Val) → IsCallable m func args → IsCallable hooked (renumber n func) args
  callable func args h =
      record {
        defined = defined func h.defined;
        ty = h.ty;
        has_type = keeps.type_of func h.ty h.has_type;
        fit = h.fit;
      }

  action_fits : (params : List ValType) (action : Action) → FitsAction m params action
      → FitsAction hooked params (renumbered_action n action)
  action_fits params (Write to bytes) h = (memory_kept h.0, h.1, h.2)
  action_fits params (Copy to source count) h = (memory_kept h.0, h.1, h.2)
  action_fits params (SetTable index func) h = (table_kept h.0, entry_there func h.1)
  action_fits params (SetGlobal global value) h = settable global value h
  action_fits params (Grow by) h = memory_kept h
  action_fits params (GrowTable by) h = table_kept h
  action_fits params (Call func args) h = callable func args h
  action_fits params (CallTable index args) h = (table_kept h.0, h.1)

  actions_fit : (params : List ValType) (actions : List Action) → FitActions m params actions
      → FitActions hooked params (map (renumbered_action n) actions)
  actions_fit params actions h =
      All-map (FitsAction hooked params) (renumbered_action n) actions
      (All-weaker (FitsAction m params) (λ a. FitsAction hooked params (renumbered_action n a)) (action_fits params)
      actions h)

  response_fits : (ty : FuncType) (response : Response) → FitsResponse m ty response
      → FitsResponse hooked ty (renumbered_response n response)
  response_fits ty response h =
      record { actions = actions_fit ty.params response.actions h.actions; «end» = h.«end» }

  rest_fits : (ty : FuncType) (rest : Option Response) → IfSome rest (FitsResponse m ty)
      → IfSome (option_map (renumbered_response n) rest) (FitsResponse hooked ty)
  rest_fits ty None h = tt
  rest_fits ty (Some response) h = response_fits ty response h

  answer_fits : (ty : FuncType) (answer : Answer) → FitsAnswer m ty answer
      → FitsAnswer hooked ty (renumbered_answer n answer)
  answer_fits ty answer h =
      record {
        calls =
            All-map (FitsResponse hooked ty) (renumbered_response n) answer.calls
            (All-weaker (FitsResponse m ty) (λ r. FitsResponse hooked ty (renumbered_response n r)) (response_fits ty)
            answer.calls h.calls);
        rest = rest_fits ty answer.rest h.rest;
      }

  import_fits : (t : ℕ) (answer : Option Answer) → FitsImport m t answer
      → FitsImport hooked t (option_map (renumbered_answer n) answer)
  import_fits t None h = tt
  import_fits t (Some answer) h = (h.0, type_kept keep m digest t h.0 h.1, answer_fits h.0 answer h.2)

  -- ---- hooks

  hook_fits : (place : ℕ) (ty : FuncType) → slice_get hook_types place ≡ Some ty → ty.results ≡ []
      → FitsImport hooked (length m.types + place) (Some hook_answer)
  hook_fits place ty there none = (
    ty,
    get_after_by m.types hook_types (length m.types + place) place refl ∙ there,
    record {
      calls = All-nil (FitsResponse hooked ty);
      rest = record {
        actions = All-nil (FitsAction hooked ty.params);
        «end» = record { in_range = All-nil (λ (value : Val). IsTrue (is_constant value)); typed = sym none };
      };
    },
  )

  hooks_fit : AllZip (FitsImport hooked) (of_kind func_import (map (hook_import m) hooks))
      (replicate hook_count (Some hook_answer))
  hooks_fit =
      let arg = hook_fits 0 (hook_type hook.Arg) refl refl in
      let one = hook_fits 1 (hook_type hook.Enter) refl refl in
      let none = hook_fits 2 (hook_type hook.Ipost) refl refl in
      let three = hook_fits 3 (hook_type hook.Load) refl refl in
      let four = hook_fits 4 (hook_type hook.Store) refl refl in
      (arg, (one, (one, (one, (one, (one, (none, (three, (four, (none, (one, (arg, (arg, (three, (three, tt)))))))))))))))

  fit_more : (imports : List Import) (answers : List (Option Answer))
      → AllZip (FitsImport m) (of_kind func_import imports) answers
      → AllZip (FitsImport hooked) (of_kind func_import (imports ++ map (hook_import m) hooks))
      (first_answers (length (of_kind func_import imports)) (map (option_map (renumbered_answer n)) answers)
      ++ replicate hook_count (Some hook_answer))
  fit_more [] [] h = hooks_fit
  fit_more [] (answer ∷ answers) h = absurd h
  fit_more (i ∷ imports) answers h = by (func_import i.kind) answers h (λ later. fit_more imports later)
    where
      by : (o : Option ℕ) (answers : List (Option Answer))
          → AllZip (FitsImport m) (cons_option o (of_kind func_import imports)) answers
          → ((later : List (Option Answer)) → AllZip (FitsImport m) (of_kind func_import imports) later
          → AllZip (FitsImport hooked) (of_kind func_import (imports ++ map (hook_import m) hooks))
          (first_answers (length (of_kind func_import imports)) (map (option_map (renumbered_answer n)) later)
          ++ replicate hook_count (Some hook_answer)))
          → AllZip (FitsImport hooked) (cons_option o (of_kind func_import (imports ++ map (hook_import m) hooks)))
          (first_answers (length (cons_option o (of_kind func_import imports)))
          (map (option_map (renumbered_answer n)) answers)
          ++ replicate hook_count (Some hook_answer))
      by None answers h more = more answers h
      by (Some t) [] h more = absurd h
      by (Some t) (answer ∷ answers) h more = (import_fits t answer h.0, more answers h.1)

  script_fits : (script : Script) → Fits m script → Fits hooked (script_with_hooks m script)
  script_fits script h =
      record {
        globals = h.globals ∙ ap length (sym (globals_kept keep m digest));
        values = h.values;
        imports = fit_more m.imports script.imports h.imports;
        main = actions_fit [] script.main h.main;
      }

pub instrumented_are_fitted : InstrumentedKeepIndices → InstrumentedAreFitted
instrumented_are_fitted keep m digest script h = script_fits keep m digest script h
