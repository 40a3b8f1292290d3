-- What a run begins with is the start of the run.
use Rattle.std.proofs.Common.{◌≡◌, ℕ, suc, zero, ◌≤◌, List, [], ◌∷◌, map, Option, Some, None, Bool, true, false, refl, sym, ap, ◌∙◌, subst}
use Rattle.std.specs.Prelude.{nat_lt, IfOk, IfSome, Result, Ok, Err, replicate}
use Rattle.host_script.specs.declared.scripts.LinkFault.{LinkFault}
use Rattle.std.proofs.lemmas.Bool.{ltb-false}
use Rattle.wasm_syntax.specs.declared.values.Val.{Val}
use Rattle.wasm_syntax.specs.declared.signatures.FuncType.{FuncType}
use Rattle.wasm_syntax.specs.declared.modules.Module.{Module}
use Rattle.wasm_syntax.specs.Index.{imported_funcs}
use Rattle.wasm_syntax.specs.Validity.{IsStart}
use Rattle.host_script.specs.declared.scripts.Script.{Script}
use Rattle.host_script.specs.Fits.{Fits}
use Rattle.history_spec.specs.declared.entries.Entry.TheVariants.{HostCall}
use Rattle.history_spec.specs.Code.{code_of, signature}
use Rattle.history_spec.specs.Configuration.{InModule, InMain}
use Rattle.history_spec.specs.Settle.{settle}
use Rattle.history_spec.specs.Store.{Store}
use Rattle.history_spec.specs.Step.{StepResult, after_entries, after_settling, start, start_with_call}
use Rattle.history_spec.specs.Run.{program_of}
use Rattle.type_safety.specs.Heights.{Heights}
use Rattle.type_safety.specs.Stores.{func_count}
use Rattle.type_safety.specs.Values.{AreValues}
use Rattle.host_actions.specs.Ready.{AreOf}
use Rattle.wasm_flat.specs.declared.code.Flat.{Flat}
use Rattle.wasm_flat.specs.FlatCode.{flat_of}
use Rattle.wasm_interp.specs.Calls.{IsCallable, IsRun}
use Rattle.wasm_interp.specs.State.{IsAtHost, StandsFor, State, state}
use Rattle.host_play.specs.declared.host_steps.HostStep.{HostStep}
use Rattle.host_play.specs.declared.play_state.Host.TheVariants as host
use Rattle.host_play.specs.declared.play_state.Stand.TheVariants as at
use Rattle.host_play.specs.declared.play_state.PlayState.{PlayState}
use Rattle.host_play.specs.declared.script_runs.Play.{Play}
use Rattle.host_play.specs.Starts.{AtWork, CanBegin, Starts, StartsBy, CallsStart, CanStart, functions_in}
use Rattle.host_play.specs.HostSteps.{stand_after, entries_of}
use Rattle.host_play.specs.Hosts.{Plays, kept}
use Rattle.host_play.specs.Stands.{Leads}

-- the assumptions of a run hold of any script that fits the module, if they hold of one
pub begins_with : (play : Play) {first script : Script} → CanBegin play first → Fits play.code.now script
    → CanBegin play script
begins_with play begins fits = record {
  valid = begins.valid;
  supported = begins.supported;
  flat = begins.flat;
  bound = begins.bound;
  store = begins.store;
  fits = fits;
}

-- what holds of a value holds of it for another reason
pub if_ok : {T E : Type 0} (r : Result T E) (P Q : T → Type 0) → ((x : T) → P x → Q x) → IfOk r P → IfOk r Q
if_ok (Ok x) P Q more is = more x is
if_ok (Err e) P Q more is = tt

pub kept_zeros : (n : ℕ) → replicate n 0 ≡ map kept (replicate n 0)
kept_zeros zero = refl
kept_zeros (suc n) = ap (λ xs. 0 ∷ xs) (kept_zeros n)

-- the machine that a run begins with represents the host at its own work
pub record IsFirst (m : Module) (heights : Heights) (script : Script) (store : Store) (first : PlayState) : Type 0 where
  pub stands : StandsFor m heights (InMain script.main ∷ []) first.machine
  pub same_store : first.machine.store ≡ store
  pub functions : AreOf (code_of m) first.functions

pub is_first : (m : Module) (heights : Heights) (script : Script) (store : Store) (flat : Flat) (first : PlayState)
    → StandsFor m heights (InMain script.main ∷ []) (state (flat_of m) store [] [] false) → flat ≡ flat_of m
    → first.machine ≡ state flat store [] [] false → first.functions ≡ functions_in flat → IsFirst m heights script store first
is_first m heights script store flat first begins is machine functions =
    let own : first.machine ≡ state (flat_of m) store [] [] false = machine ∙ ap (λ flat. state flat store [] [] false) is in
    record {
      stands = subst (StandsFor m heights (InMain script.main ∷ [])) (sym own) begins;
      same_store = ap (λ (s : State). s.store) own;
      functions = subst (AreOf (code_of m)) (sym (functions ∙ ap functions_in is)) (record { types = refl; indices = refl; imported = refl });
    }

-- the start function can be called
pub can_start : (m : Module) (first : PlayState) → AreOf (code_of m) first.functions → IsAtHost first.machine.flat first.machine.frames
    → ((func : ℕ) (ty : FuncType) (args : List Val) → imported_funcs m ≤ func → signature (code_of m) func ≡ Some ty
    → AreValues (func_count m) ty.params args → IsCallable first.machine.flat func args)
    → (first_called : Option ℕ) → IfSome first_called (IsStart m) → CanStart first first_called
can_start m first functions host callable None is = tt
can_start m first functions host callable (Some func) is = λ le. (
  host,
  callable func is.ty [] (subst (λ n. n ≤ func) (sym functions.imported) le) is.has_type (subst (λ ps. AreValues (func_count m) ps []) (sym is.params) tt),
)

module _ (m : Module) (script : Script) (store : Store) (heights : Heights) (is_run : IsRun m heights (program_of m script) (replicate (imported_funcs m) 0))
    (first : PlayState) (stands : StandsFor m heights (InMain script.main ∷ []) first.machine)
    (same_store : first.machine.store ≡ store) (functions : AreOf (code_of m) first.functions)
    (hosts : first.hosts ≡ host.Main 0 ∷ []) (counted : first.counts.items ≡ map kept (replicate (imported_funcs m) 0))
    (did : HostStep) (new : PlayState) where
  plays : Plays script (InMain script.main ∷ []) first.hosts
  plays = subst (Plays script (InMain script.main ∷ [])) (sym hosts) (refl, refl, refl)

  work_leads : AtWork first did new
      → Leads m script (after_settling store (replicate (imported_funcs m) 0) (settle (InMain script.main ∷ [])))
      (entries_of did) (stand_after did) new
  work_leads w =
      let next : StepResult = after_settling store (replicate (imported_funcs m) 0) (settle (InMain script.main ∷ [])) in
      let here : Leads m script next [] at.Host first = record {
        next = next;
        same = refl;
        standing = record {
          heights = heights;
          counts = replicate (imported_funcs m) 0;
          is_run = is_run;
          functions = functions;
          counted = counted;
          goes_on = record {
            activations = InMain script.main ∷ [];
            stack = record { machine = stands; hosts = plays };
            awaits = tt;
            same = ap (λ st. after_settling st (replicate (imported_funcs m) 0) (settle (InMain script.main ∷ []))) (sym same_store);
          };
        };
      } in
      subst (λ d. Leads m script next (entries_of d) (stand_after d) new) (sym w.stays)
      (subst (λ p. Leads m script next [] at.Host p) (sym w.same_playing) here)

  call_leads : (func : ℕ) → IsStart m func → imported_funcs m ≤ func → CallsStart func first did new
      → Leads m script (start_with_call (program_of m script) false store (replicate (imported_funcs m) 0) func
      (InMain script.main ∷ [])) (entries_of did) (stand_after did) new
  call_leads func is defined calls =
      let counts : List ℕ = replicate (imported_funcs m) 0 in
      let values : AreValues (func_count m) is.ty.params [] = subst (λ ps. AreValues (func_count m) ps []) (sym is.params) tt in
      let enters = calls.machine m heights counts (InMain script.main ∷ []) is.ty is_run.code tt stands defined is.has_type values in
      let next : StepResult = after_settling first.machine.store counts (settle (InModule enters.frame ∷ InMain script.main ∷ [])) in
      let s : StepResult = start_with_call (program_of m script) false store counts func (InMain script.main ∷ []) in
      let here : Leads m script s (HostCall func [] ∷ []) at.Module new = record {
        next = next;
        same =
            ap (λ st. start_with_call (program_of m script) false st counts func (InMain script.main ∷ []))
            (sym same_store) ∙ ap (after_entries (HostCall func [] ∷ [])) enters.same;
        standing = record {
          heights = heights;
          counts = counts;
          is_run = is_run;
          functions = subst (λ (p : PlayState). AreOf (code_of m) p.functions) (sym calls.rest) functions;
          counted = ap (λ (p : PlayState). p.counts.items) calls.rest ∙ counted;
          goes_on = record {
            frame = enters.frame;
            below = InMain script.main ∷ [];
            stack = record {
              machine = enters.stands;
              hosts = subst (λ (p : PlayState). Plays script (InMain script.main ∷ []) p.hosts) (sym calls.rest) plays;
            };
            same = ap (λ st. after_settling st counts (settle (InModule enters.frame ∷ InMain script.main ∷ []))) (sym enters.store);
          };
        };
      } in
      subst (λ d. Leads m script s (entries_of d) (stand_after d) new) (sym calls.calls) here

  by_test : (func : ℕ) (b : Bool) → IsStart m func → nat_lt func (imported_funcs m) ≡ b → StartsBy b func first did new
      → Leads m script (start_with_call (program_of m script) b store (replicate (imported_funcs m) 0) func
      (InMain script.main ∷ [])) (entries_of did) (stand_after did) new
  by_test func true is test begins = work_leads begins
  by_test func false is test begins = call_leads func is (ltb-false func (imported_funcs m) test) begins

  pub start_leads : (first_called : Option ℕ) → IfSome first_called (IsStart m) → Starts first_called first did new
      → Leads m script (start (program_of m script) first_called store (replicate (imported_funcs m) 0) script.main) (entries_of did) (stand_after did) new
  start_leads None is begins = work_leads begins
  start_leads (Some func) is begins =
      by_test func (nat_lt func (imported_funcs m)) is refl (subst (λ n. StartsBy (nat_lt func n) func first did new) (sym functions.imported) begins)

pub same_begun : {a b : StepResult} (r : Result StepResult LinkFault) → r ≡ Ok a → r ≡ Ok b → a ≡ b
same_begun r first second = cc
