-- The laws that the lines of a replay module rest on.
use Rattle.wasm_syntax.specs.Encoding.Laws.{BytesEncodeOne, EncodedIsEncodable}
use Rattle.history_spec.specs.Budget.{RunsHaveOneResultAtMost}
use Rattle.type_safety.specs.Laws.{SuppliesMatch}
use Rattle.script_text.specs.FittingScripts.{TextsFit}
use Rattle.replay_module_laws.specs.Laws.{ReplayModulesAreReplayable}
use Rattle.replay_text_laws.specs.Accepted.{ReplayModulesAreAccepted}
use Rattle.replay_text_laws.specs.Texts.{ReplaysAreShown}

-- bytes encode one module, which is encodable; a run has one result; scripts that are read fit, and supplies match;
-- replay modules have their form and are accepted; and their runs are shown
pub record PrintLaws : Type 0 where
  pub one_module : BytesEncodeOne
  pub encodable : EncodedIsEncodable
  pub one_result : RunsHaveOneResultAtMost
  pub fit : TextsFit
  pub supplies : SuppliesMatch
  pub replayable : ReplayModulesAreReplayable
  pub accepted : ReplayModulesAreAccepted
  pub shown : ReplaysAreShown
