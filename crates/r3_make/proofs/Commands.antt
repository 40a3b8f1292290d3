-- The commands that read a module and a script: what they print and refuse, by the module and the script.
use Rattle.std.proofs.Common.{◌⊎◌, inl, inr, ℕ, List}
use Rattle.wasm_syntax.specs.declared.modules.Module.{Module}
use Rattle.host_script.specs.declared.scripts.Script.{Script}
use Rattle.r3_faults.specs.declared.faults.Fault.{Fault}
use Rattle.r3_inputs.specs.Inputs.{AreInputs, AreRefused}
use Rattle.r3_inputs.proofs.TextStages.{AreTextStages}
use Rattle.accepted_runs.proofs.InputAnswers.{AreBoth}
use Rattle.r3_make.specs.Printed.{IsPrinted, IsReplayFor}
use Rattle.r3_make.specs.Refusals.{AreReplayable, IsMakeRefusal, IsUnmade, OfInputs, OfModule}
use Rattle.r3_make.specs.RestRefusals as rests
use Rattle.r3_make.specs.RestRefusals.{HasCall, HasNoRest, HaveRest, IsRestRefusal}
use Rattle.r3_make.specs.RestReplays.{IsRestFor, IsRestPrinted}
use Rattle.r3_make.specs.Summaries.{IsSummaryFor, IsSummaryOf}
use Rattle.r3_make.specs.Tapes.{NeedsLightTape}

module _ (module_bytes script_bytes : List ℕ) (turns : ℕ) where
  -- ---- the whole run

  refusal_parts : (fault : Fault) → IsMakeRefusal module_bytes script_bytes turns fault
      → AreRefused module_bytes script_bytes fault
      ⊎ ((read : Module × Script) × AreBoth module_bytes script_bytes read × IsUnmade read.0 read.1 turns fault)
  refusal_parts fault (OfInputs refused) = inl refused
  refusal_parts fault (OfModule m script inputs unmade) = inr ((m, script), inputs, unmade)

  run_stages : (IsText : Module → Script → List ℕ → Type 0) (Printed : List ℕ → Type 0)
      → ((m : Module) (script : Script) (text : List ℕ) → AreInputs module_bytes script_bytes m script
      → IsText m script text → Printed text)
      → AreTextStages (AreBoth module_bytes script_bytes) (AreRefused module_bytes script_bytes)
      (λ read text. IsText read.0 read.1 text) (λ read fault. IsUnmade read.0 read.1 turns fault) Printed
      (IsMakeRefusal module_bytes script_bytes turns)
  run_stages IsText Printed whole = record {
    whole = λ read text inputs is. whole read.0 read.1 text inputs is;
    first_refused = λ fault refused. OfInputs refused;
    next_refused = λ read fault inputs unmade. OfModule read.0 read.1 inputs unmade;
    refused_parts = refusal_parts;
  }

  -- `make`
  pub printed_stages : AreTextStages (AreBoth module_bytes script_bytes) (AreRefused module_bytes script_bytes)
      (λ read text. IsReplayFor read.0 read.1 turns text) (λ read fault. IsUnmade read.0 read.1 turns fault)
      (IsPrinted module_bytes script_bytes turns) (IsMakeRefusal module_bytes script_bytes turns)
  printed_stages =
      run_stages (λ m script text. IsReplayFor m script turns text) (IsPrinted module_bytes script_bytes turns)
      (λ m script text inputs replay. record { m = m; script = script; inputs = inputs; replay = replay })

  -- the summary of a run
  pub summary_stages : AreTextStages (AreBoth module_bytes script_bytes) (AreRefused module_bytes script_bytes)
      (λ read text. IsSummaryOf read.0 read.1 turns text) (λ read fault. IsUnmade read.0 read.1 turns fault)
      (IsSummaryFor module_bytes script_bytes turns) (IsMakeRefusal module_bytes script_bytes turns)
  summary_stages =
      run_stages (λ m script text. IsSummaryOf m script turns text) (IsSummaryFor module_bytes script_bytes turns)
      (λ m script text inputs summary. record { m = m; script = script; inputs = inputs; summary = summary })

  abbrev pub HasReplay : Module × Script → Type 0
  HasReplay read = NeedsLightTape read.0 read.1 turns

  pub replayable : AreReplayable module_bytes script_bytes turns
      → (read : Module × Script) × AreBoth module_bytes script_bytes read × HasReplay read
  replayable these = ((these.m, these.script), these.inputs, these.replayable)

  -- ---- the run from a top-level call on

  module _ (number : ℕ) where
    rest_parts : (fault : Fault) → IsRestRefusal module_bytes script_bytes turns number fault
        → AreRefused module_bytes script_bytes fault
        ⊎ ((read : Module × Script) × AreBoth module_bytes script_bytes read
        × HasNoRest read.0 read.1 turns number fault)
    rest_parts fault (rests.OfInputs refused) = inl refused
    rest_parts fault (rests.OfModule m script inputs none) = inr ((m, script), inputs, none)

    pub rest_stages : AreTextStages (AreBoth module_bytes script_bytes) (AreRefused module_bytes script_bytes)
        (λ read text. IsRestFor read.0 read.1 turns number text)
        (λ read fault. HasNoRest read.0 read.1 turns number fault)
        (IsRestPrinted module_bytes script_bytes turns number) (IsRestRefusal module_bytes script_bytes turns number)
    rest_stages = record {
      whole = λ read text inputs replay. record { m = read.0; script = read.1; inputs = inputs; replay = replay };
      first_refused = λ fault refused. rests.OfInputs refused;
      next_refused = λ read fault inputs none. rests.OfModule read.0 read.1 inputs none;
      refused_parts = rest_parts;
    }

    abbrev pub HasRest : Module × Script → Type 0
    HasRest read = HasCall read.0 read.1 turns number

    pub with_rest : HaveRest module_bytes script_bytes turns number
        → (read : Module × Script) × AreBoth module_bytes script_bytes read × HasRest read
    with_rest these = ((these.m, these.script), these.inputs, these.call)
