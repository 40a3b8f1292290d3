-- Laws of the code of state modules: it is that of the original, and so are the generated parts of replay modules.
use Rattle.std.specs.Prelude.{◌≡◌}
use Rattle.wasm_syntax.specs.declared.modules.Module.{Module}
use Rattle.wasm_syntax.specs.Index.{all_globals, func_indices, imported_funcs}
use Rattle.history_spec.specs.Code.{code_of}
use Rattle.trace_model.specs.declared.tapes.Tape.{Tape}
use Rattle.trace_model.specs.Fitting.{first_unfit}
use Rattle.replay_module_spec.specs.declared.plans.Plan.{Plan}
use Rattle.replay_module_spec.specs.Fragments.{fragment_of, import_types, start_index}
use Rattle.replay_module_spec.specs.Merge.{layout_of}
use Rattle.replay_module_laws.specs.Standing.{KeepsOriginals}
use Rattle.rest_spec.specs.KnownStates.{KnownState}
use Rattle.rest_spec.specs.StateModules.{state_module_of}

-- another module has the code and the indices of a module, tapes fit both alike, their replay modules have the same
-- layout and the same generated parts, and what keeps the functions of the one keeps those of the other
pub record HasSameCode (m other : Module) : Type 0 where
  pub code : code_of other ≡ code_of m
  pub indices : func_indices other ≡ func_indices m
  pub imported : imported_funcs other ≡ imported_funcs m
  pub import_types : import_types other ≡ import_types m
  pub globals : all_globals other ≡ all_globals m
  pub layout : layout_of other ≡ layout_of m
  pub start_index : start_index other ≡ start_index m
  pub fragments : (plan : Plan) → fragment_of other plan ≡ fragment_of m plan
  pub originals : (replay : Module) → KeepsOriginals other replay → KeepsOriginals m replay
  pub fits : (tape : Tape) → first_unfit other tape ≡ first_unfit m tape

-- the module that begins in a state has the code of the original, whatever the state
abbrev pub StateModulesHaveCode : Type 0
StateModulesHaveCode = (m : Module) (state : KnownState) → HasSameCode m (state_module_of m state)
