-- If the machine comes to a call of an import, the host begins to answer it, or there is no response.
use Rattle.std.proofs.Common.{◌≡◌, ℕ, ◌+◌, ◌<◌, List, [], ◌∷◌, length, map, Some, slice_set, refl, sym, ap, ◌∙◌, subst, arith}
use Rattle.std.specs.Prelude.{slice_index}
use Rattle.std.proofs.lemmas.List.{length-map, length-set}
use Rattle.wasm_syntax.specs.declared.modules.Module.{Module}
use Rattle.wasm_syntax.specs.Index.{imported_funcs}
use Rattle.host_script.specs.declared.scripts.Script.{Script}
use Rattle.host_script.specs.declared.scripts.Response.{Response}
use Rattle.host_script.specs.declared.scripts.ResponseEnd.TheVariants.{Trap}
use Rattle.host_script.specs.Fits.{FitsResponse}
use Rattle.history_spec.specs.declared.entries.Entry.{Entry}
use Rattle.history_spec.specs.declared.entries.Entry.TheVariants.{ImportCall}
use Rattle.history_spec.specs.Configuration.{Activation, InModule, InImport}
use Rattle.history_spec.specs.Code.{code_of}
use Rattle.history_spec.specs.Settle.{settle}
use Rattle.history_spec.specs.Step.{StepResult, Faulted, after_entries, answer_call, after_settling, response_to}
use Rattle.history_spec.specs.Run.{program_of}
use Rattle.type_safety.specs.Heights.{Heights}
use Rattle.type_safety.proofs.Responses.{response_fits}
use Rattle.flat_steps.specs.Follows.{outside_of}
use Rattle.host_actions.specs.Ready.{AreOf}
use Rattle.wasm_interp.specs.State.{State, StandsFor}
use Rattle.wasm_interp.specs.Calls.{IsRun, ComesToImport}
use Rattle.host_play.specs.declared.play_state.Host.{Host}
use Rattle.host_play.specs.declared.play_state.Stand.TheVariants as at
use Rattle.host_play.specs.declared.play_state.Refusal.{Refusal}
use Rattle.host_play.specs.declared.play_state.Refusal.TheVariants as refusal
use Rattle.host_play.specs.declared.play_state.PlayState.{PlayState}
use Rattle.host_play.specs.Hosts.{BeginsAnswer, HasNoResponse, Plays, kept}
use Rattle.host_play.specs.Stands.{Leads, Stops}
use Rattle.host_play.proofs.Arrivals.{after_both}
use Rattle.host_play.proofs.Counts.{kept_at, kept_more, kept_there}
use Rattle.host_play.proofs.Outside.{plays_same}

module _ (m : Module) (heights : Heights) (script : Script) (counts : List ℕ)
    (is_run : IsRun m heights (program_of m script) counts) (below : List Activation) (playing : PlayState)
    (functions : AreOf (code_of m) playing.functions) (counted : playing.counts.items ≡ map kept counts)
    (hosts : Plays script below playing.hosts) (entries : List Entry) (machine : State) (s : StepResult) (index : ℕ)
    (comes : ComesToImport m heights (program_of m script) (outside_of below) counts index entries machine s) where
  pub counted_import : index < length playing.counts.items
  counted_import =
      let stands = comes.stands [] Trap (λ k d below. absurd (omega arith)) tt in
      let there : index < imported_funcs m = stands.holds.laid.2 in
      let same : length playing.counts.items ≡ imported_funcs m = ap length counted ∙ length-map counts kept ∙ is_run.counted in
      omega arith

  number : kept (slice_index counts index) ≡ slice_index playing.counts.items index
  number = sym (kept_at counts index) ∙ ap (λ counts. slice_index counts index) (sym counted)

  pub no_response : (refused : Refusal) → HasNoResponse script playing.counts.items index refused → Stops refused s
  no_response (refusal.Fault kind) none =
      ap (λ s'. s'.next) (comes.same ∙ ap (λ r. after_entries comes.before (answer_call r machine.store counts index
      comes.args (InModule comes.frame ∷ comes.below))) (none.1 (slice_index counts index) number))
      ∙ ap Faulted (sym none.0)
  no_response refusal.Memory none = tt

  pub import_begins : (new_hosts : List Host) (new_playing : PlayState) → new_playing.machine ≡ machine
      → new_playing.functions ≡ playing.functions → new_playing.hosts ≡ new_hosts
      → BeginsAnswer script playing.hosts playing.counts.items index new_hosts new_playing.counts.items → Leads m script s entries at.Host new_playing
  import_begins new_hosts new_playing same_machine same_functions same_hosts begins =
      let response : Response = begins.response in
      let chosen : response_to script.imports index (slice_index counts index) ≡ Some response = begins.chosen (slice_index counts index) number in
      let fits : FitsResponse m comes.ty response = response_fits m script.imports index
      (slice_index counts index) comes.ty response is_run.fits.answers comes.has_type chosen in
      let stack : List Activation = InImport index comes.args response.actions response.«end» ∷ InModule comes.frame ∷ comes.below in
      let new_counts : List ℕ = slice_set counts index (slice_index counts index + 1) in
      let next : StepResult = after_settling machine.store new_counts (settle stack) in
      record {
        next = next;
        same =
            comes.same
            ∙ ap (λ r. after_entries comes.before (answer_call r machine.store counts index comes.args (InModule comes.frame ∷ comes.below))) chosen
            ∙ sym (after_both comes.before (ImportCall index comes.args ∷ []) next)
            ∙ ap (λ es. after_entries es next) (sym comes.recorded);
        standing = record {
          heights = heights;
          counts = new_counts;
          is_run = record {
            valid = is_run.valid;
            code = is_run.code;
            fits = is_run.fits;
            counted = length-set counts index (slice_index counts index + 1) ∙ is_run.counted;
          };
          functions = subst (AreOf (code_of m)) (sym same_functions) functions;
          counted = begins.counted ∙ ap (λ cs. slice_set cs index (kept (slice_index cs index + 1))) counted ∙ kept_more counts index;
          goes_on = record {
            activations = stack;
            stack = record {
              machine = subst (StandsFor m heights stack) (sym same_machine) (comes.stands response.actions response.«end» fits.actions fits.«end»);
              hosts = subst (Plays script stack) (sym (same_hosts ∙ begins.pushed)) (
                record {
                  same = refl;
                  response = response;
                  chosen =
                      begins.chosen (slice_index playing.counts.items index)
                      (kept_there counts playing.counts.items index counted);
                  left = refl;
                  ends = refl;
                },
                tt,
                plays_same script below comes.below playing.hosts comes.same_outside hosts,
              );
            };
            awaits = tt;
            same = ap (λ (st : State). after_settling st.store new_counts (settle stack)) (sym same_machine);
          };
        };
      }
