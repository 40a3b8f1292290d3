-- The parts of a step of the instrumented run other than hook calls make no hook call.
use Rattle.std.proofs.Common.{◌≡◌, ℕ, ◌+◌, ◌-◌, List, [], ◌∷◌, ◌++◌, Option, Some, None, Bool, true, false, cond, nat_lt, slice_get, slice_index, refl, ap, ◌∙◌}
use Rattle.wasm_syntax.specs.declared.values.Val.{Val}
use Rattle.wasm_syntax.specs.declared.signatures.FuncType.{FuncType}
use Rattle.host_script.specs.declared.scripts.Response.{Response}
use Rattle.history_spec.specs.Action.{ActionResult, Changes, Enters, Fails, Unfit}
use Rattle.history_spec.specs.Store.{Store}
use Rattle.history_spec.specs.Code.{Code, Definition, signature, definition}
use Rattle.history_spec.specs.Configuration.{Activation, InModule, InImport, Config}
use Rattle.history_spec.specs.Settle.{settle}
use Rattle.history_spec.specs.Step.{Program, frame_of, enter_defined, enter_function, response_to, answer_call, call_function, after_action}
use Rattle.record_replay_spec.specs.Hooks.{hooks, hook_count, renumber, on}
use Rattle.record_replay_spec.specs.HookedRuns.{calls_among}
use Rattle.instrumented_run_laws.proofs.Leads.{settles_unreported}

module _ (n : ℕ) (view : Store) where
  entered_unreported : (code : Code) (store : Store) (counts : List ℕ) (func : ℕ) (args : List Val)
      (stack : List Activation) → calls_among n view (enter_function code store counts func args stack).entries ≡ []
  entered_unreported code store counts func args stack = go (signature code func) (definition code func)
    where
      go : (ty : Option FuncType) (d : Option Definition)
          → calls_among n view (enter_defined ty d store counts func args stack).entries ≡ []
      go None d = refl
      go (Some ty) None = refl
      go (Some ty) (Some d) = settles_unreported n view (InModule (frame_of func ty d args) ∷ stack) []

  pub acted_unreported : (program : Program) (config : Config) (stack : List Activation) (r : ActionResult)
      → calls_among n view (after_action program config stack r).entries ≡ []
  acted_unreported program config stack (Changes store) = settles_unreported n view stack []
  acted_unreported program config stack (Enters func args) =
      entered_unreported program.code config.store config.counts func args stack
  acted_unreported program config stack (Fails kind) = refl
  acted_unreported program config stack Unfit = refl

  -- a call of a function of the original
  pub called_unreported : (program : Program) (func : ℕ) (store : Store) (counts : List ℕ) (args : List Val)
      (stack : List Activation) → nat_lt (renumber n func) program.code.imported ≡ nat_lt func n
      → calls_among n view
      (call_function program (nat_lt (renumber n func) program.code.imported) store counts (renumber n func) args
      stack).entries
      ≡ []
  called_unreported program func store counts args stack own =
      ap (λ b. calls_among n view (call_function program b store counts (renumber n func) args stack).entries) own
      ∙ go (nat_lt func n) refl
    where
      answered : nat_lt func n ≡ true → (o : Option Response)
          → calls_among n view (answer_call o store counts func args stack).entries ≡ []
      answered e None = refl
      answered e (Some response) =
          ap
          (λ b. cond b [] (on (slice_get hooks (func - n)) (λ kind. record { kind = kind; args = args; view = view } ∷
          []))
          ++ calls_among n view
          (settle (InImport func args response.actions response.«end» ∷ stack)).entries)
          e
          ∙ settles_unreported n view (InImport func args response.actions response.«end» ∷ stack) []

      go : (b : Bool) → nat_lt func n ≡ b
          → calls_among n view (call_function program b store counts (renumber n func) args stack).entries ≡ []
      go true e =
          ap (λ f. calls_among n view (call_function program true store counts f args stack).entries)
          (ap (λ b. cond b func (func + hook_count)) e)
          ∙ answered e (response_to program.answers func (slice_index counts func))
      go false e = entered_unreported program.code store counts (renumber n func) args stack
