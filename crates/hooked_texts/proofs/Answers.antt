-- The answers of a script's text for a module and for its instrumented module.
use Rattle.std.proofs.Common.{◌≡◌, ℕ, List, [], ◌∷◌, map, codes, option_map, refl}
use Rattle.wasm_syntax.specs.declared.signatures.FuncType.{FuncType}
use Rattle.wasm_syntax.specs.declared.modules.Module.{Module}
use Rattle.wasm_syntax.specs.Index.{imported_funcs}
use Rattle.wasm_syntax.specs.Validity.{IsValid}
use Rattle.serde_json.specs.Data.{Data}
use Rattle.script_text.specs.Walk.{list_of, only, under_if_there, under_or}
use Rattle.script_text.specs.Actions.{InResponse, actions_under}
use Rattle.script_text.specs.Texts.{answer_of, end_of, response_of}
use Rattle.record_replay_spec.specs.HookedRuns.{renumbered_action, renumbered_answer, renumbered_response}
use Rattle.record_replay_spec.specs.Instrumented.{instrumented_module}
use Rattle.record_replay_spec.specs.HookLaws.{InstrumentedKeepIndices}
use Rattle.hooked_texts.proofs.Actions.{actions_alike}
use Rattle.hooked_texts.proofs.Steps.{bind_alike, bind_own, if_there_alike, list_alike, mapped, under_or_alike}

module _ (keep : InstrumentedKeepIndices) (m : Module) (digest : List ℕ) (valid : IsValid m) where
  abbrev hooked : Module
  hooked = instrumented_module m digest

  abbrev n : ℕ
  n = imported_funcs m

  response_alike : (name : List ℕ) (types : List FuncType) (d : Data)
      → response_of hooked name types d ≡ mapped (renumbered_response n) (response_of m name types d)
  unfolding response_of
  response_alike name types d =
      bind_own (renumbered_response n) (only (codes "do" ∷ codes "return" ∷ codes "trap" ∷ []) d) _ _ (λ a.
      bind_alike (map (renumbered_action n)) (renumbered_response n)
      (actions_under m (InResponse name types) (codes "do") d) (actions_under hooked (InResponse name types) (codes "do") d) _ _
      (actions_alike keep m digest valid (InResponse name types) (codes "do") d) (λ actions is.
      bind_own (renumbered_response n) (end_of name types d) _ _ (λ «end». refl)))

  pub answer_alike : (name : List ℕ) (types : List FuncType) (d : Data)
      → answer_of hooked name types d ≡ mapped (renumbered_answer n) (answer_of m name types d)
  unfolding answer_of
  answer_alike name types d =
      bind_own (renumbered_answer n) (only (codes "calls" ∷ codes "rest" ∷ []) d) _ _ (λ a.
      bind_alike (map (renumbered_response n)) (renumbered_answer n)
      (under_or (codes "calls") [] (list_of (response_of m name types)) d)
      (under_or (codes "calls") [] (list_of (response_of hooked name types)) d) _ _
      (under_or_alike (map (renumbered_response n)) (list_of (response_of m name types)) (list_of (response_of hooked name types))
      (list_alike (renumbered_response n) (response_of m name types) (response_of hooked name types) (response_alike name types))
      (codes "calls") [] d) (λ calls is.
      bind_alike (option_map (renumbered_response n)) (renumbered_answer n)
      (under_if_there (codes "rest") (response_of m name types) d) (under_if_there (codes "rest") (response_of hooked name types) d) _ _
      (if_there_alike (renumbered_response n) (response_of m name types) (response_of hooked name types) (response_alike name types)
      (codes "rest") d) (λ rest is. refl)))
