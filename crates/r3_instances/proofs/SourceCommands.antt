-- The commands that read files and a script: what they print and refuse, by the module that is recorded for the files
-- and the script. The run of this module is that of what is read.
use Rattle.std.proofs.Common.{◌⊎◌, inl, inr, ℕ, List, refl, subst}
use Rattle.wasm_syntax.specs.declared.modules.Module.{Module}
use Rattle.host_script.specs.declared.scripts.Script.{Script}
use Rattle.r3_faults.specs.declared.faults.Fault.{Fault}
use Rattle.r3_inputs.proofs.TextStages.{AreTextStages}
use Rattle.r3_history.specs.Histories.{IsHistoryOf, IsUnprinted}
use Rattle.r3_make.specs.Printed.{IsReplayFor}
use Rattle.r3_make.specs.Refusals.{IsUnmade}
use Rattle.r3_make.specs.Tapes.{NeedsLightTape}
use Rattle.r3_instances.specs.RecordedModules.{AreRunInputs}
use Rattle.r3_instances.specs.Sources.{Source, AreReadWithScript, AreRefusedWithScript, AreReplayable, HasHistory, HasNoHistory, HasNoReplay, HasReplay, OfBytes, OfInputs, OfModule, OfRun}
use Rattle.r3_instances.specs.declared.run_inputs.RunInputs.{RunInputs}
use Rattle.r3_instances.proofs.WorldOutcomes.{DoesFollow, from_history, from_unmade, from_unprinted, to_history, to_unmade, to_unprinted}

-- the run of the recorded module has the outcomes of the run of what is read
abbrev pub DoRunsFollow : {X : Type 0} → Source X → Type 0
DoRunsFollow {X} source =
    (x : X) (script : Script) → source.IsRead x → DoesFollow (source.recorded x) script (source.run x script)

-- the run needs a tape that is light enough
abbrev pub IsLight : (turns : ℕ) → RunInputs → Type 0
IsLight turns inputs = NeedsLightTape inputs.checked inputs.script turns

module _ {X : Type 0} (source : Source X) (bytes : List ℕ) (turns : ℕ) where
  -- the recorded module of what is read, with a script
  abbrev inputs_of : X → Script → RunInputs
  inputs_of x script = record { checked = source.recorded x; script = script }

  read_by : (x : X) (script : Script) → AreReadWithScript source bytes x script
      → AreRunInputs source bytes (inputs_of x script)
  read_by x script read = record { x = x; read = read; is = refl }

  pub replayable : AreReplayable source bytes turns
      → (inputs : RunInputs) × AreRunInputs source bytes inputs × IsLight turns inputs
  replayable these =
      (inputs_of these.x these.script, read_by these.x these.script these.inputs, these.replayable)

  module _ (follow : DoRunsFollow source) where
    follows : (x : X) (script : Script) → AreReadWithScript source bytes x script
        → DoesFollow (source.recorded x) script (source.run x script)
    follows x script read = follow x script read.read

    -- ---- replay modules

    unmade_parts : (fault : Fault) → HasNoReplay source bytes turns fault
        → AreRefusedWithScript source bytes fault
        ⊎ ((inputs : RunInputs) × AreRunInputs source bytes inputs
        × IsUnmade inputs.checked inputs.script turns fault)
    unmade_parts fault (OfBytes refused) = inl refused
    unmade_parts fault (OfModule x script read unmade) = inr (
      inputs_of x script,
      read_by x script read,
      from_unmade (source.recorded x) script (source.run x script) (follows x script read) turns fault unmade,
    )

    pub replay_stages : (IsReplay : X → Script → List ℕ → Type 0)
        → ((x : X) (script : Script) (printed : List ℕ) → source.IsRead x
        → IsReplayFor (source.recorded x) script turns printed → IsReplay x script printed)
        → AreTextStages (AreRunInputs source bytes) (λ fault. AreRefusedWithScript source bytes fault)
        (λ inputs text. IsReplayFor inputs.checked inputs.script turns text)
        (λ inputs fault. IsUnmade inputs.checked inputs.script turns fault)
        (λ printed. HasReplay source bytes (λ x script. IsReplay x script printed)) (HasNoReplay source bytes turns)
    replay_stages IsReplay to_replay = record {
      whole = λ inputs text are made. record {
        x = are.x;
        script = inputs.script;
        inputs = are.read;
        replay = to_replay are.x inputs.script text are.read.read
            (subst (λ m. IsReplayFor m inputs.script turns text) are.is made);
      };
      first_refused = λ fault refused. OfBytes refused;
      next_refused = λ inputs fault are unmade.
          OfModule are.x inputs.script are.read
          (to_unmade (source.recorded are.x) inputs.script (source.run are.x inputs.script)
          (follows are.x inputs.script are.read) turns fault
          (subst (λ m. IsUnmade m inputs.script turns fault) are.is unmade));
      refused_parts = unmade_parts;
    }

    -- ---- histories

    unprinted_parts : (fault : Fault) → HasNoHistory source bytes turns fault
        → AreRefusedWithScript source bytes fault
        ⊎ ((inputs : RunInputs) × AreRunInputs source bytes inputs
        × IsUnprinted inputs.checked inputs.script turns fault)
    unprinted_parts fault (OfInputs refused) = inl refused
    unprinted_parts fault (OfRun x script read unprinted) = inr (
      inputs_of x script,
      read_by x script read,
      from_unprinted (source.recorded x) script (source.run x script) (follows x script read) turns fault unprinted,
    )

    pub history_stages : AreTextStages (AreRunInputs source bytes) (λ fault. AreRefusedWithScript source bytes fault)
        (λ inputs text. IsHistoryOf inputs.checked inputs.script turns text)
        (λ inputs fault. IsUnprinted inputs.checked inputs.script turns fault) (HasHistory source bytes turns)
        (HasNoHistory source bytes turns)
    history_stages = record {
      whole = λ inputs text are history. record {
        x = are.x;
        script = inputs.script;
        inputs = are.read;
        history = to_history (source.recorded are.x) inputs.script (source.run are.x inputs.script)
            (follows are.x inputs.script are.read) turns text
            (subst (λ m. IsHistoryOf m inputs.script turns text) are.is history);
      };
      first_refused = λ fault refused. OfInputs refused;
      next_refused = λ inputs fault are unprinted.
          OfRun are.x inputs.script are.read
          (to_unprinted (source.recorded are.x) inputs.script (source.run are.x inputs.script)
          (follows are.x inputs.script are.read) turns fault
          (subst (λ m. IsUnprinted m inputs.script turns fault) are.is unprinted));
      refused_parts = unprinted_parts;
    }

    pub history_parts : (text : List ℕ) → HasHistory source bytes turns text
        → (inputs : RunInputs) × AreRunInputs source bytes inputs
        × IsHistoryOf inputs.checked inputs.script turns text
    history_parts text shown = (
      inputs_of shown.x shown.script,
      read_by shown.x shown.script shown.inputs,
      from_history (source.recorded shown.x) shown.script (source.run shown.x shown.script)
          (follows shown.x shown.script shown.inputs) turns text shown.history,
    )
