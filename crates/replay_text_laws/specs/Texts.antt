-- What `replay` prints of the bytes that another command prints.
use Rattle.std.specs.Prelude.{◌≡◌, ℕ, ◌≤◌, List, false}
use Rattle.wasm_syntax.specs.declared.forms.Form.TheVariants.{Replay}
use Rattle.wasm_syntax.specs.declared.modules.Module.{Module}
use Rattle.wasm_syntax.specs.Encoding.Modules.{Encodes}
use Rattle.wasm_syntax.specs.Profile.{IsAccepted}
use Rattle.base.specs.declared.outcomes.Outcome.{Outcome}
use Rattle.history_spec.specs.declared.entries.Entry.{Entry}
use Rattle.history_spec.specs.Line.{history_text}
use Rattle.history_spec.specs.Projection.{Layout}
use Rattle.history_spec.specs.Replay.{Replays}
use Rattle.replay_form.specs.Forms.{IsReplayable}
use Rattle.r3_replay.specs.ReplayTexts.{IsReplayText}

-- within any number of turns from the least one on `replay` prints these lines of the bytes, within fewer it prints
-- none, and it never prints others; the least number is that of the turns which the run of the replay module takes
pub record IsReplayedAs (printed text : List ℕ) : Type 0 where
  pub least : ℕ
  pub prints : (turns : ℕ) → least ≤ turns → IsReplayText printed turns text
  pub enough : (turns : ℕ) (other : List ℕ) → IsReplayText printed turns other → least ≤ turns
  pub only : (turns : ℕ) (other : List ℕ) → IsReplayText printed turns other → other ≡ text

-- bytes encode an accepted module that has the form of a replay module, and whose run shows a history and an outcome
pub record AreBytesOfReplay (printed : List ℕ) (replay : Module) (layout : Layout) (entry : ℕ) (history : List Entry)
    (outcome : Outcome) : Type 0 where
  pub encoded : Encodes Replay printed replay
  pub accepted : IsAccepted false replay
  pub form : IsReplayable replay layout entry
  pub shows : Replays replay layout entry history outcome

-- of the bytes of a replay module, `replay` prints the lines of what the module's run shows
abbrev pub ReplaysAreShown : Type 0
ReplaysAreShown =
    (printed : List ℕ) (replay : Module) (layout : Layout) (entry : ℕ) (history : List Entry) (outcome : Outcome)
    → AreBytesOfReplay printed replay layout entry history outcome
    → IsReplayedAs printed (history_text history outcome)
