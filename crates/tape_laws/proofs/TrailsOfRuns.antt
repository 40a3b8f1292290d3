-- The moments of each run are a trail.
use Rattle.std.proofs.Common.{◌≡◌, ℕ, zero, suc, ◌-◌, List, [], ◌∷◌, ◌++◌, length, Option, Some, None, Bool, true, false, cond, nat_lt, slice_get, option_to_list, refl, sym, ap, ◌∙◌, arith, ltb-false}
use Rattle.std.specs.Prelude.{option_and_then}
use Rattle.std.proofs.lemmas.Option.{none-some}
use Rattle.wasm_syntax.specs.declared.values.ValType.{ValType}
use Rattle.wasm_syntax.specs.declared.values.Val.{Val}
use Rattle.wasm_syntax.specs.declared.instructions.Instr.{Instr}
use Rattle.wasm_syntax.specs.declared.modules.Module.{Module}
use Rattle.wasm_syntax.specs.Index.{imported_funcs}
use Rattle.host_script.specs.declared.scripts.Answer.{Answer}
use Rattle.host_script.specs.declared.scripts.ResponseEnd.TheVariants.{Return, Trap as EndsInTrap}
use Rattle.base.specs.declared.outcomes.Outcome.{Outcome}
use Rattle.base.specs.declared.outcomes.Outcome.TheVariants.{Ended, HostTrapped}
use Rattle.trace_model.specs.declared.tapes.Next.TheVariants.{Trap as ByTrap}
use Rattle.history_spec.specs.declared.entries.FaultKind.{FaultKind}
use Rattle.history_spec.specs.Store.{Store}
use Rattle.history_spec.specs.Code.{Definition, code_of, definition}
use Rattle.history_spec.specs.Configuration.{Frame, Activation, InModule, InMain, InImport, with_results}
use Rattle.history_spec.specs.Settle.{AtEnd, Within, Gives, TooFew, at_end, return_entry, return_from, deliver}
use Rattle.history_spec.specs.Step.{Program, Progress, Running, Finished, Faulted, StepResult, step_result, after_settling}
use Rattle.history_spec.specs.Run.{all_one, steps}
use Rattle.record_replay_spec.specs.Observations.{Observation, Ends, observations}
use Rattle.record_replay_spec.specs.Known.{Known}
use Rattle.type_safety.specs.Configurations.{scope, Accept, IsConfig}
use Rattle.type_safety.specs.Frames.{Scope, IsFrame}
use Rattle.type_safety.specs.Heights.{Heights}
use Rattle.type_safety.specs.Stores.{func_count, IsStore}
use Rattle.type_safety.specs.Values.{AreValues}
use Rattle.type_safety.proofs.Constants.{fit_values}
use Rattle.type_safety.proofs.SettleEnds.{results_frame, IsEnd, results_end}
use Rattle.tape_laws.proofs.Relation.{IsKnownOf}
use Rattle.tape_laws.proofs.Follows.{AtEachStep}
use Rattle.tape_laws.specs.RealReads.{observed_from}
use Rattle.record_replay_spec.specs.Order.{HookedShape}
use Rattle.record_replay_spec.specs.ReportedCalls.{moments}
use Rattle.tape_laws.proofs.CoreFrames.{CoreStack, core_results}
use Rattle.tape_laws.proofs.Mirrors.{Mirrors, host_on_top, any_callee}
use Rattle.tape_laws.proofs.RunCalls.{moments_at}
use Rattle.tape_laws.proofs.Trails.{Level, AtFunction, AtCall, at_host, IsTypedFor, IsHostTrap, IsTrail}

-- the outcome of a run, if it has one
abbrev pub outcome_of : Progress → Option Outcome
outcome_of (Finished outcome) = Some outcome
outcome_of at = None

module _ (m : Module) (heights : Heights) (answers : List (Option Answer)) (shape : HookedShape) where
  abbrev pub program : Program
  program = record { code = code_of m; answers = answers }

  abbrev n : ℕ
  n = imported_funcs m

  abbrev Reflects : Option ℕ → List Activation → List Level → Type 0
  Reflects = Mirrors n

  -- the outcome within `k` more steps
  abbrev pub ending : ℕ → Progress → Option Outcome
  ending k at = outcome_of (steps program all_one k at).at

  -- the moments of a step's result, and of `k` steps after it, are a trail
  abbrev pub IsTrailFrom : ℕ → Option Instr → (before after : Store) → StepResult → List Level → Known
      → List Observation → Type 0
  IsTrailFrom k instr before after s levels known left =
      IsTrail m shape (ending k s.next) (moments_at instr before after s.entries ++ moments program k s.next) levels
      known after left

  abbrev pub Reported : ℕ → Option Instr → (before after : Store) → StepResult → List Level → Known → Type 0
  Reported k instr before after s levels known = IsTrailFrom k instr before after s levels known (observed_from program k s)

  -- ---- the statements, by the number of steps that are left

  -- what holds if results are delivered to the topmost activation
  abbrev pub Delivers : ℕ → Type 0
  Delivers k =
      (stack : List Activation) (types : List ValType) (results : List Val) (store : Store) (counts : List ℕ)
      (levels : List Level) (known : Known) (instr : Option Instr) (before : Store)
      → Accept m heights stack types → AreValues (func_count m) types results → IsStore m store
      → IsKnownOf known store → length counts ≡ n → CoreStack stack → Reflects None stack levels
      → Reported k instr before store (after_settling store counts (deliver stack results)) levels known

  -- what holds if a step is made from a configuration
  abbrev GoesOn : ℕ → List Activation → Type 0
  GoesOn k stack =
      (store : Store) (counts : List ℕ) (levels : List Level) (known : Known)
      → IsConfig m heights (record { store = store; stack = stack; counts = counts }) → IsKnownOf known store
      → CoreStack stack → Reflects None stack levels
      → IsTrail m shape (ending k (Running (record { store = store; stack = stack; counts = counts })))
      (moments program k (Running (record { store = store; stack = stack; counts = counts }))) levels known store
      (observations program k (Running (record { store = store; stack = stack; counts = counts })))

  abbrev pub Makes : ℕ → Type 0
  Makes k = AtEachStep (GoesOn k)

  -- ---- the run is over

  ended_trail : (k : ℕ) (levels : List Level) (known : Known) (store : Store) → levels ≡ []
      → IsTrail m shape (ending k (Finished Ended)) (moments program k (Finished Ended)) levels known store
      (observations program k (Finished Ended))
  ended_trail zero levels known store none = (none, refl)
  ended_trail (suc k) levels known store none = (none, refl)

  pub fault_trail : (k : ℕ) (levels : List Level) (known : Known) (store : Store) (kind : FaultKind)
      → IsTrail m shape (ending k (Faulted kind)) (moments program k (Faulted kind)) levels known store
      (observations program k (Faulted kind))
  fault_trail zero levels known store kind = refl
  fault_trail (suc k) levels known store kind = refl

  trapped_host : (k : ℕ) (levels : List Level) → at_host n levels ≡ true
      → IsHostTrap m shape levels (Ends ByTrap ∷ observations program k (Finished HostTrapped))
      (ending k (Finished HostTrapped)) (moments program k (Finished HostTrapped))
  trapped_host zero levels host = record { host = host; observed = refl; last = refl; over = refl }
  trapped_host (suc k) levels host = record { host = host; observed = refl; last = refl; over = refl }

  -- ---- returns

  -- a defined function returns its results
  pub returned : (k : ℕ) (func : ℕ) (given : List Val) (below : List Activation) (store : Store) (counts : List ℕ)
      (levels lower : List Level) (known : Known) (instr : Option Instr) (before : Store) → nat_lt func n ≡ false
      → IsTypedFor m shape func (λ ty. ty.results) given → levels ≡ AtFunction func ∷ lower
      → Reflects (Some func) below lower
      → ((levels : List Level) → Reflects None below levels
      → Reported k instr before store (after_settling store counts (deliver below given)) levels known)
      → Reported k instr before store
      (step_result (return_entry func given below ∷ (deliver below given).entries)
      (after_settling store counts (deliver below given)).next)
      levels known
  returned k func given [] store counts levels lower known instr before defined typed stands mirrors next = absurd mirrors
  returned k func given (InModule frame ∷ below) store counts levels lower known instr before defined typed stands
      mirrors next =
      record {
        same = refl;
        direct = mirrors.direct;
        args = mirrors.args;
        below = AtFunction frame.func ∷ mirrors.below;
        stands =
            stands
            ∙ ap (λ l. AtFunction func ∷ l)
            (mirrors.stands
            ∙ ap (λ b. AtCall mirrors.direct func b mirrors.args ∷ AtFunction frame.func ∷ mirrors.below)
            (mirrors.own defined));
        defined = ltb-false func n defined;
        typed = typed;
        within = tt;
        follows =
            next (AtFunction frame.func ∷ mirrors.below)
            (record { below = mirrors.below; stands = refl; mirrors = mirrors.mirrors });
      }
  returned k func given (InMain actions ∷ below) store counts levels lower known instr before defined typed stands
      mirrors next =
      record {
        keeps = λ at i. refl;
        below = lower;
        stands = stands;
        host = host_on_top n (Some func) (InMain actions ∷ below) lower tt mirrors;
        later = observed_from program k (after_settling store counts (deliver (InMain actions ∷ below) given));
        observed = refl;
        follows = next lower (any_callee n (Some func) None (InMain actions ∷ below) lower tt mirrors);
      }
  returned k func given (InImport import args actions «end» ∷ below) store counts levels lower known instr before
      defined typed stands mirrors next =
      record {
        keeps = λ at i. refl;
        below = lower;
        stands = stands;
        host = host_on_top n (Some func) (InImport import args actions «end» ∷ below) lower tt mirrors;
        later = observed_from program k (after_settling store counts (deliver (InImport import args actions «end» ∷ below) given));
        observed = refl;
        follows =
            next lower (any_callee n (Some func) None (InImport import args actions «end» ∷ below) lower tt mirrors);
      }

  -- a function with a definition is not an import
  pub is_defined : (func : ℕ) (body : Definition) → definition (code_of m) func ≡ Some body → nat_lt func n ≡ false
  is_defined func body h = go (nat_lt func n) refl
    where
      go : (b : Bool) → nat_lt func n ≡ b → nat_lt func n ≡ false
      go false e = e
      go true e =
          absurd
          (none-some body
          (sym (ap (λ b. cond b None (option_and_then (λ d. d) (slice_get (code_of m).defined (func - n)))) e) ∙ h))

  -- ---- results are delivered to the topmost activation

  module _ (k : ℕ) (makes : Makes k) where
    pub deliver_from : Delivers k
    deliver_from [] types results store counts levels known instr before a p is of count c mirrors = absurd a
    deliver_from (InModule frame ∷ below) types results store counts levels known instr before a p is of count c
        mirrors =
        go (λ given q levels mirrors. deliver_from below a.0.results given store counts levels known instr before a.3 q
        is of count c.1 mirrors) (at_end next)
        (results_end s types frame results a.2 p)
      where
        next : Frame
        next = with_results frame results

        s : Scope
        s = scope m heights frame.func a.0 a.1

        f : IsFrame s [] next
        f = results_frame s types frame results a.2 p

        go : ((given : List Val) → AreValues (func_count m) a.0.results given → (levels : List Level)
            → Reflects None below levels
            → Reported k instr before store (after_settling store counts (deliver below given)) levels known)
            → (e : AtEnd) → IsEnd s next.at.rest e
            → Reported k instr before store
            (after_settling store counts (return_from e next below (deliver below))) levels known
        go rest Within going =
            makes.runs next below store counts levels known
            (record { store = is; stack = (a.0, a.1, f, a.3); at_step = going; counts = count }) of
            (core_results frame results c.0, c.1) mirrors
        go rest (Gives given) q =
            returned k next.func given below store counts levels mirrors.below known instr before
            (is_defined frame.func a.1 f.around.scope.defined)
            (record { ty = a.0; has_type = f.around.scope.has_type; are = q }) mirrors.stands mirrors.mirrors
            (rest given q)
        go rest TooFew q = absurd q
    deliver_from (InMain [] ∷ below) types results store counts levels known instr before a p is of count c mirrors =
        ended_trail k levels known store mirrors
    deliver_from (InMain (action ∷ actions) ∷ below) types results store counts levels known instr before a p is of
        count c mirrors =
        makes.main action actions below store counts levels known
        (record { store = is; stack = a; at_step = omega arith; counts = count }) of c mirrors
    deliver_from (InImport import args [] (Return value) ∷ InModule frame ∷ below) types results store counts levels
        known instr before a p is of count c mirrors =
        record {
          keeps = λ at i. refl;
          direct = mirrors.0.direct;
          entered = mirrors.0.entered;
          args = mirrors.0.args;
          below = AtFunction frame.func ∷ mirrors.0.below;
          stands = mirrors.0.stands;
          imported = mirrors.1;
          typed = record {
            ty = a.0;
            has_type = a.1.has_type;
            are = fit_values (func_count m) a.0.results (option_to_list value) a.4;
          };
          within = tt;
          later = observed_from program k
              (after_settling store counts (deliver (InModule frame ∷ below) (option_to_list value)));
          observed = refl;
          follows =
              deliver_from (InModule frame ∷ below) a.0.results (option_to_list value) store counts
              (AtFunction frame.func ∷ mirrors.0.below) known instr before a.5
              (fit_values (func_count m) a.0.results (option_to_list value) a.4) is of count c
              (record { below = mirrors.0.below; stands = refl; mirrors = mirrors.0.mirrors });
        }
    deliver_from (InImport import args [] (Return value) ∷ []) types results store counts levels known instr before a p
        is of count c mirrors =
        absurd mirrors
    deliver_from (InImport import args [] (Return value) ∷ InMain actions ∷ below) types results store counts levels
        known instr before a p is of count c mirrors =
        absurd mirrors
    deliver_from (InImport import args [] (Return value) ∷ InImport i more actions e ∷ below) types results store counts
        levels known instr before a p is of count c mirrors =
        absurd mirrors
    deliver_from (InImport import args [] EndsInTrap ∷ below) types results store counts levels known instr before a p
        is of count c mirrors =
        trapped_host k levels (host_on_top n None (InImport import args [] EndsInTrap ∷ below) levels tt mirrors)
    deliver_from (InImport import args (action ∷ actions) «end» ∷ below) types results store counts levels known instr
        before a p is of count c mirrors =
        makes.import import args action actions «end» below store counts levels known
        (record { store = is; stack = a; at_step = omega arith; counts = count }) of c mirrors
