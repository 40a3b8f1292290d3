-- The position of a machine: before the host's first call, and at a pause.
use Rattle.std.proofs.Common.{◌≡◌, ℕ, List, [], ◌∷◌, refl, ap, ◌∙◌, subst}
use Rattle.std.specs.Prelude.{Option, None, Result, Ok, Err, IfOk, replicate, All, false, ◌≤◌, Some}
use Rattle.std.proofs.lemmas.List.{length-replicate}
use Rattle.std.proofs.lemmas.List.Elements.{All-nil}
use Rattle.wasm_syntax.specs.declared.signatures.FuncType.{FuncType}
use Rattle.wasm_syntax.specs.declared.values.Val.{Val}
use Rattle.wasm_syntax.specs.declared.modules.Module.{Module}
use Rattle.wasm_syntax.specs.Index.{imported_funcs}
use Rattle.wasm_syntax.specs.Validity.{IsValid}
use Rattle.host_script.specs.declared.scripts.Action.{Action}
use Rattle.host_script.specs.declared.scripts.Script.{Script}
use Rattle.host_script.specs.Fits.{FitActions, FitsAction, Fits}
use Rattle.history_spec.specs.Code.{code_of, signature}
use Rattle.history_spec.specs.Configuration.{Activation, Frame, InMain, InModule}
use Rattle.history_spec.specs.Settle.{settle}
use Rattle.history_spec.specs.Step.{StepResult, after_settling, step}
use Rattle.history_spec.specs.Run.{Meter, program_of}
use Rattle.type_safety.specs.Configurations.{IsTypedCode}
use Rattle.type_safety.specs.Heights.{Heights}
use Rattle.type_safety.specs.Stores.{func_count}
use Rattle.type_safety.specs.Values.{AreValues}
use Rattle.history_spec.specs.Store.{Store}
use Rattle.history_spec.specs.declared.entries.Entry.{Entry}
use Rattle.wasm_flat.specs.Meters.{Weighing, meter_of}
use Rattle.flat_steps.specs.Follows.{outside_of}
use Rattle.wasm_interp.specs.declared.machine.Pause.{Pause}
use Rattle.wasm_interp.specs.declared.machine.Pause.TheVariants as pause
use Rattle.wasm_interp.specs.declared.machine.Turn.{Turn}
use Rattle.wasm_interp.specs.Calls.{AdvancesRun, Comes, EndsRun, InvokesRun, IsRun, SettlesRun, TurnIsStep, config_of}
use Rattle.wasm_interp.specs.State.{State, StandsFor}
use Rattle.bench_machine.specs.Positions.{SomeRun, ComesBy, IsIdle, IsRunning, IsStanding, IsCalling, IsPaused, host}

-- a run of a module under a script that fits it
abbrev pub some_run : (m : Module) (script : Script) (heights : Heights) → IsValid m → IsTypedCode m heights → Fits m script → SomeRun m
some_run m script heights valid code fits = record {
  heights = heights;
  program = program_of m script;
  counts = replicate (imported_funcs m) 0;
  is_run = record {
    valid = valid;
    code = code;
    fits = record { code = refl; answers = fits.imports };
    counted = length-replicate (imported_funcs m) 0;
  };
}

pub no_actions : (m : Module) → FitActions m [] []
no_actions m = All-nil (FitsAction m [])

pub idle : (m : Module) (script : Script) (heights : Heights) (machine : State) → IsValid m → IsTypedCode m heights
    → Fits m script → StandsFor m heights host machine → IsIdle m machine
idle m script heights machine valid code fits stands = record { run = some_run m script heights valid code fits; stands = stands }

pub on_ok : {T E : Type 0} (r : Result T E) (P Q : T → Type 0) → ((x : T) → P x → Q x) → IfOk r P → IfOk r Q
on_ok (Ok x) P Q f p = f x p
on_ok (Err e) P Q f p = tt

-- the host's call of a function
pub call_place : (m : Module) (func : ℕ) (args : List Val) (ty : FuncType) (old new : State) → IsIdle m old
    → imported_funcs m ≤ func → signature (code_of m) func ≡ Some ty → AreValues (func_count m) ty.params args
    → InvokesRun old func args new → IsRunning m new
call_place m func args ty old new i defined has_type values invokes =
    let enters = invokes m i.run.heights i.run.counts host ty i.run.is_run.code tt i.stands defined has_type values in
    record { run = i.run; frame = enters.frame; below = host; stands = enters.stands; called = refl }

-- the position of a machine after a part of the run
module _ (m : Module) (r : SomeRun m) (outside : List Activation) (is_host : outside ≡ host) (entries : List Entry) (new : State) (s : StepResult) where
  pub part_place : (end : Option Pause) → Comes m r.heights r.program outside r.counts end entries new s → ComesBy m end new
  part_place None e = record {
    running =
        record { run = r; frame = e.frame; below = e.below; stands = e.stands; called = e.same_outside ∙ is_host };
    going = e.going;
  }
  part_place (Some (pause.Import index)) e =
      record {
        run = r;
        frame = e.frame;
        below = e.below;
        ty = e.ty;
        args = e.args;
        has_type = e.has_type;
        values = e.values;
        stands = e.stands;
        called = e.same_outside ∙ is_host;
      }
  part_place (Some pause.Returned) e = record { run = r; stands = subst (λ o. StandsFor m r.heights o new) is_host e.stands }
  part_place (Some pause.Trapped) e = tt
  part_place (Some pause.Spent) e = absurd e

-- a pause
module _ (m : Module) (r : SomeRun m) (meter : Meter) (outside : List Activation) (is_host : outside ≡ host) (left : ℕ)
    (entries : List Entry) (new : State) (s : StepResult) where
  pub pause_place : (end : Pause) → EndsRun m r.heights r.program meter outside r.counts end left entries new s → IsPaused m end new
  pause_place (pause.Import index) e = part_place m r outside is_host entries new s (Some (pause.Import index)) e
  pause_place pause.Returned e = part_place m r outside is_host entries new s (Some pause.Returned) e
  pause_place pause.Trapped e = tt
  pause_place pause.Spent e = record { run = r; frame = e.comes.frame; below = e.comes.below; stands = e.comes.stands; called = e.comes.same_outside ∙ is_host }

pub advance_place : (m : Module) (old new : State) (weighing : Weighing) (turns left : ℕ) (end : Pause)
    → IsRunning m old → AdvancesRun old weighing turns end left new → IsPaused m end new
advance_place m old new weighing turns left end i advances =
    let a = advances m i.run.heights i.run.program i.run.counts i.frame i.below i.run.is_run i.stands in
    pause_place m i.run (meter_of m weighing) (outside_of i.below) i.called left a.entries new a.last end a.ends

pub settle_place : (m : Module) (old new : State) (turn : Turn) → IsRunning m old → SettlesRun old turn new → ComesBy m turn.pause new
settle_place m old new turn i run =
    part_place m i.run (outside_of i.below) i.called turn.entries new (after_settling old.store i.run.counts (settle (InModule i.frame ∷ i.below))) turn.pause
    (run m i.run.heights i.run.program i.run.counts i.frame i.below i.run.is_run i.stands)

pub turn_place : (m : Module) (old new : State) (turn : Turn) → IsStanding m old → TurnIsStep old turn new → ComesBy m turn.pause new
turn_place m old new turn st run =
    let i = st.running in
    part_place m i.run (outside_of i.below) i.called turn.entries new (step i.run.program (config_of old (InModule i.frame ∷ i.below) i.run.counts)) turn.pause
    (run m i.run.heights i.run.program i.run.counts i.frame i.below i.run.is_run i.stands st.going)
