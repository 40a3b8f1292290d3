-- What the host's action does is the step of the run.
use Rattle.std.proofs.Common.{◌≡◌, ℕ, ◌+◌, ◌≤◌, List, [], ◌∷◌, Some, slice_get, option_map, sym, ap, ◌∙◌, subst}
use Rattle.std.specs.Prelude.{Ok, Err}
use Rattle.wasm_syntax.specs.declared.values.Val.{Val}
use Rattle.wasm_syntax.specs.declared.signatures.FuncType.{FuncType}
use Rattle.wasm_syntax.specs.declared.modules.Module.{Module}
use Rattle.wasm_syntax.specs.Index.{imported_funcs}
use Rattle.host_script.specs.declared.scripts.Action.{Action}
use Rattle.host_script.specs.declared.scripts.Action.TheVariants.{Write, Copy, SetTable, SetGlobal, Grow, GrowTable, Call, CallTable}
use Rattle.host_script.specs.declared.scripts.Address.{Address}
use Rattle.host_script.specs.declared.scripts.Address.TheVariants.{Fixed, Arg}
use Rattle.host_script.specs.declared.scripts.Script.{Script}
use Rattle.history_spec.specs.declared.entries.Entry.TheVariants.{HostCall}
use Rattle.history_spec.specs.declared.entries.FaultKind.{FaultKind}
use Rattle.history_spec.specs.Action.{Changes, Enters, Fails, perform, address_of}
use Rattle.history_spec.specs.Code.{code_of, signature}
use Rattle.history_spec.specs.Configuration.{InModule}
use Rattle.history_spec.specs.Settle.{settle}
use Rattle.history_spec.specs.Store.{Store}
use Rattle.history_spec.specs.Step.{StepResult, after_action, after_entries, after_settling}
use Rattle.history_spec.specs.Run.{program_of}
use Rattle.type_safety.specs.Stores.{IsStore, func_count}
use Rattle.type_safety.specs.Values.{AreValues}
use Rattle.host_actions.specs.declared.addresses.Addresses.{Addresses}
use Rattle.host_actions.specs.Ready.{AreAddresses, AreThere, IsThere}
use Rattle.wasm_interp.specs.Frames.{argument_of}
use Rattle.wasm_interp.specs.Loans.{with_store}
use Rattle.wasm_interp.specs.Calls.{InvokesRun, config_of}
use Rattle.wasm_interp.specs.State.{IsWaiting, State, StandsFor}
use Rattle.host_play.specs.declared.host_steps.HostStep.TheVariants as host_step
use Rattle.host_play.specs.declared.play_state.Host.{Host}
use Rattle.host_play.specs.declared.play_state.Stand.TheVariants as at
use Rattle.host_play.specs.declared.play_state.Refusal.TheVariants as refusal
use Rattle.host_play.specs.declared.play_state.PlayState.{PlayState}
use Rattle.host_play.specs.Arguments.{AreKnown, AreRead, IsKnown, IsRead}
use Rattle.host_play.specs.HostSteps.{play_step_of}
use Rattle.host_play.specs.Hosts.{Plays, after_next_action, below_of}
use Rattle.host_play.specs.Stands.{MakesStep, StandsAt}
use Rattle.host_play.proofs.Arrivals.{stands_then}
use Rattle.host_play.proofs.NextActions.{IsNext}

-- ---- addresses

module _ (machine : State) (args : List Val)
    (each : (number : ℕ) (value : Val) → slice_get args number ≡ Some value → IsWaiting machine.flat machine.frames
    × (argument_of machine.flat machine.frames machine.slots number ≡ Some value)) where
  known : (address : Address) → IsThere args address → IsKnown machine address
  known (Fixed address) there = tt
  known (Arg number plus) there =
      let found = each number there.0 there.1 in
      record { waits = found.0; value = there.0; there = found.1; small = there.2 }

  read : (address : Address) (at : ℕ) → IsThere args address → IsRead machine address at → address_of args address ≡ Some at
  read (Fixed address) at there is = ap (λ n. Some n) (sym is)
  read (Arg number plus) at there is =
      let found = each number there.0 there.1 in
      ap (option_map (λ (value : Val). value.bits + plus)) there.1 ∙ ap (λ n. Some n) (sym (is there.0 found.1))

  pub known_action : (action : Action) → AreThere args action → AreKnown machine action
  known_action (Write to bytes) there = known to there
  known_action (Copy to source count) there = (known to there.0, known source there.1)
  known_action (SetTable index func) there = tt
  known_action (SetGlobal global value) there = tt
  known_action (Grow by) there = tt
  known_action (GrowTable by) there = tt
  known_action (Call func given) there = tt
  known_action (CallTable index given) there = tt

  pub read_action : (action : Action) (addresses : Addresses) → AreThere args action → AreRead machine action addresses → AreAddresses args action addresses
  read_action (Write to bytes) addresses there is = read to addresses.to there is
  read_action (Copy to source count) addresses there is = (read to addresses.to there.0 is.0, read source addresses.source there.1 is.1)
  read_action (SetTable index func) addresses there is = tt
  read_action (SetGlobal global value) addresses there is = tt
  read_action (Grow by) addresses there is = tt
  read_action (GrowTable by) addresses there is = tt
  read_action (Call func given) addresses there is = tt
  read_action (CallTable index given) addresses there is = tt

-- ---- steps

module _ (m : Module) (script : Script) (s : StepResult) (playing : PlayState) (top : Host) (action : Action) (standing : StandsAt m script at.Host playing s)
    (o : IsNext m standing.heights script standing.counts playing top action s) where
  pub does_change : (store : Store) (new_playing : PlayState)
      → perform (code_of m) playing.machine.store o.args action ≡ Changes store → IsStore m store
      → StandsFor m standing.heights o.left (with_store playing.machine store)
      → new_playing.machine ≡ with_store playing.machine store → new_playing.functions ≡ playing.functions
      → new_playing.counts.items ≡ playing.counts.items
      → new_playing.hosts ≡ after_next_action top ∷ below_of playing.hosts
      → MakesStep m script s (Ok (play_step_of host_step.Stays)) new_playing
  does_change store new_playing is is_store stands same_machine same_functions same_counts same_hosts = record {
    config = config_of playing.machine o.whole standing.counts;
    standing = o.same;
    leads = record {
      next = after_settling store standing.counts (settle o.left);
      same = o.is_step ∙ ap (after_action (program_of m script) (config_of playing.machine o.whole standing.counts) o.left) is;
      standing =
          stands_then m script at.Host playing s standing at.Host new_playing
          (after_settling store standing.counts (settle o.left)) same_functions same_counts (record {
            activations = o.left;
            stack = record {
              machine = subst (StandsFor m standing.heights o.left) (sym same_machine) stands;
              hosts = subst (Plays script o.left) (sym same_hosts) o.hosts;
            };
            awaits = o.awaits;
            same = ap (λ (st : State). after_settling st.store standing.counts (settle o.left)) (sym same_machine);
          });
    };
  }

  pub does_call : (func : ℕ) (given args : List Val) (ty : FuncType) (new_playing : PlayState)
      → perform (code_of m) playing.machine.store o.args action ≡ Enters func given
      → signature (code_of m) func ≡ Some ty → imported_funcs m ≤ func → AreValues (func_count m) ty.params given
      → InvokesRun playing.machine func given new_playing.machine → args ≡ given
      → new_playing.functions ≡ playing.functions → new_playing.counts.items ≡ playing.counts.items
      → new_playing.hosts ≡ after_next_action top ∷ below_of playing.hosts
      → MakesStep m script s (Ok (play_step_of (host_step.Calls func args))) new_playing
  does_call func given args ty new_playing is has_type defined values invokes same_args same_functions same_counts same_hosts =
      let enters = invokes m standing.heights standing.counts o.left ty standing.is_run.code o.awaits o.stands defined has_type values in
      let next : StepResult = after_settling playing.machine.store standing.counts (settle (InModule enters.frame ∷ o.left)) in
      subst (λ values. MakesStep m script s (Ok (play_step_of (host_step.Calls func values))) new_playing) (sym same_args)
      (record {
        config = config_of playing.machine o.whole standing.counts;
        standing = o.same;
        leads = record {
          next = next;
          same =
              o.is_step ∙ ap (after_action (program_of m script) (config_of playing.machine o.whole standing.counts) o.left) is
              ∙ ap (after_entries (HostCall func given ∷ [])) enters.same;
          standing = stands_then m script at.Host playing s standing at.Module new_playing next same_functions same_counts (record {
            frame = enters.frame;
            below = o.left;
            stack = record { machine = enters.stands; hosts = subst (Plays script o.left) (sym same_hosts) o.hosts };
            same = ap (λ st. after_settling st standing.counts (settle (InModule enters.frame ∷ o.left))) (sym enters.store);
          });
        };
      })

  pub does_fail : (kind : FaultKind) (new_playing : PlayState) → perform (code_of m) playing.machine.store o.args action ≡ Fails kind
      → MakesStep m script s (Err (refusal.Fault kind)) new_playing
  does_fail kind new_playing is = record {
    config = config_of playing.machine o.whole standing.counts;
    standing = o.same;
    leads = ap (λ (t : StepResult). t.next) (o.is_step ∙ ap (after_action (program_of m script) (config_of playing.machine o.whole standing.counts) o.left) is);
  }

  pub does_nothing : (new_playing : PlayState) → MakesStep m script s (Err refusal.Memory) new_playing
  does_nothing new_playing = record {
    config = config_of playing.machine o.whole standing.counts;
    standing = o.same;
    leads = tt;
  }
