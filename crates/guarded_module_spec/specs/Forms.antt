-- Which replay modules have guarded modules.
use Rattle.std.specs.Prelude.{◌≡◌, ℕ, ◌+◌, ◌≤◌, List, Some, None, Bool, true, false, nat_eq}
use Rattle.std.specs.List.{list_any}
use Rattle.wasm_syntax.specs.declared.instructions.Instr.{Instr}
use Rattle.wasm_syntax.specs.declared.instructions.Instr.TheVariants.{CallIndirect}
use Rattle.wasm_syntax.specs.declared.modules.Func.{Func}
use Rattle.wasm_syntax.specs.declared.modules.Module.{Module}
use Rattle.history_spec.specs.Projection.{Layout}
use Rattle.history_spec.specs.Replay.{entry_function}
use Rattle.replay_module_spec.specs.Fragments.{referred_funcs}
use Rattle.replay_form.specs.Forms.{IsReplayable}
use Rattle.guarded_module_spec.specs.GuardedModules.{outside_funcs}

-- a call through the table
abbrev pub is_indirect : Instr → Bool
is_indirect (CallIndirect ty) = true
is_indirect instr = false

-- an instruction of some function passes the test
abbrev pub has_instr : (Instr → Bool) → List Func → Bool
has_instr test funcs = list_any (λ (f : Func). list_any test f.body) funcs

-- a replay module has no start function, and its only export is an appended function, to which no function refers; and
-- no function outside the original calls through the table
pub record IsGuardable (m : Module) (layout : Layout) (entry : ℕ) : Type 0 where
  pub form : IsReplayable m layout entry
  pub only : entry_function m ≡ Some entry
  pub start : m.start ≡ None
  pub appended : layout.imports + layout.defined ≤ entry
  pub direct : has_instr is_indirect (outside_funcs layout m.funcs) ≡ false
  pub unreferred : list_any (nat_eq entry) (referred_funcs m.funcs) ≡ false
