-- The hook calls of a step of the original, and the place that the instrumented run reaches beside it.
use Rattle.std.proofs.Common.{◌≡◌, ℕ, ◌+◌, List, [], ◌∷◌, ◌++◌, map, Option, refl, sym, subst}
use Rattle.std.proofs.lemmas.List.{map-append}
use Rattle.wasm_syntax.specs.declared.values.Val.{Val}
use Rattle.wasm_syntax.specs.declared.instructions.Instr.{Instr}
use Rattle.wasm_syntax.specs.declared.modules.Module.{Module}
use Rattle.wasm_syntax.specs.Index.{imported_funcs, all_globals}
use Rattle.history_spec.specs.declared.entries.Entry.{Entry}
use Rattle.history_spec.specs.Store.{Store}
use Rattle.history_spec.specs.Configuration.{Activation, InModule, InMain, InImport}
use Rattle.history_spec.specs.Run.{Meter}
use Rattle.history_spec.specs.Settle.{return_entry}
use Rattle.history_spec.specs.Step.{Program, Progress}
use Rattle.record_replay_spec.specs.declared.hooks.Hook.TheVariants.{Leave}
use Rattle.record_replay_spec.specs.Hooks.{HookCall, renumbered_call}
use Rattle.record_replay_spec.specs.ReportedCalls.{WaitingCall, Moment, reported_number, reported_return, reported_calls, waiting_at, without_latest}
use Rattle.tape_laws.proofs.RunCalls.{moments_at}
use Rattle.instrumented_run_laws.proofs.Leads as leads
use Rattle.instrumented_run_laws.proofs.Relation.{ComesBeside}

-- ---- hook calls

-- the calls that wait after moments
abbrev pub waiting_after_all : List WaitingCall → List Moment → List WaitingCall
waiting_after_all waiting [] = waiting
waiting_after_all waiting (m ∷ later) = waiting_after_all (waiting_at waiting m m.entry) later

-- the hook calls of the activation to which results are delivered: the call for which it waited has ended
abbrev pub reported_results : List Activation → List WaitingCall → List Val → Store → List HookCall
reported_results (InModule frame ∷ below) waiting results view = reported_return waiting results view
reported_results stack waiting results view = []

-- the waiting calls after results are delivered
abbrev pub waiting_below : List Activation → List WaitingCall → List WaitingCall
waiting_below (InModule frame ∷ below) waiting = without_latest waiting
waiting_below stack waiting = waiting

module _ (m : Module) (other : Program) (meter : Meter) where
  abbrev n : ℕ
  n = imported_funcs m

  abbrev pub reported_of : Option Instr → (before after : Store) → List WaitingCall → List Entry → List HookCall
  reported_of instr before after waiting entries =
      reported_calls (all_globals m) waiting (moments_at instr before after entries)

  abbrev pub waiting_of : Option Instr → (before after : Store) → List WaitingCall → List Entry → List WaitingCall
  waiting_of instr before after waiting entries = waiting_after_all waiting (moments_at instr before after entries)

  -- a return is reported by the function that ends, and by the activation to which it returns
  pub reported_return_entry : (instr : Option Instr) (before after : Store) (waiting : List WaitingCall) (func : ℕ)
      (results : List Val) (below : List Activation) (entries : List Entry)
      → reported_of instr before after waiting (return_entry func results below ∷ entries)
      ≡ reported_number Leave func after
      ++ (reported_results below waiting results after
      ++ reported_of instr before after (waiting_below below waiting) entries)
  reported_return_entry instr before after waiting func results [] entries = refl
  reported_return_entry instr before after waiting func results (InModule frame ∷ below) entries = refl
  reported_return_entry instr before after waiting func results (InMain actions ∷ below) entries = refl
  reported_return_entry instr before after waiting func results (InImport import args actions end ∷ below) entries = refl

  pub waiting_return_entry : (instr : Option Instr) (before after : Store) (waiting : List WaitingCall) (func : ℕ)
      (results : List Val) (below : List Activation) (entries : List Entry)
      → waiting_of instr before after waiting (return_entry func results below ∷ entries)
      ≡ waiting_of instr before after (waiting_below below waiting) entries
  waiting_return_entry instr before after waiting func results [] entries = refl
  waiting_return_entry instr before after waiting func results (InModule frame ∷ below) entries = refl
  waiting_return_entry instr before after waiting func results (InMain actions ∷ below) entries = refl
  waiting_return_entry instr before after waiting func results (InImport import args actions end ∷ below) entries = refl

  -- ---- the place that the instrumented run reaches

  -- the instrumented run reaches a place beside the original's, in `turns` turns, with these hook calls
  pub record Follows (calls : List HookCall) (waiting : List WaitingCall) (next from : Progress) (turns : ℕ)
      : Type 0 where
    pub to : Progress
    pub led : leads.Leads n other meter from to turns (map (renumbered_call n) calls)
    pub beside : ComesBeside m meter next waiting to

  -- a run that follows after the steps that lead to its start follows before them
  pub after_way : (calls later : List HookCall) (waiting : List WaitingCall) (next from middle : Progress)
      (turns more : ℕ) → leads.Leads n other meter from middle turns (map (renumbered_call n) calls)
      → Follows later waiting next middle more → Follows (calls ++ later) waiting next from (turns + more)
  after_way calls later waiting next from middle turns more way f =
      record {
        to = f.to;
        led = subst (leads.Leads n other meter from f.to (turns + more)) (sym (map-append (renumbered_call n) calls
            later))
            (leads.then n other meter from middle f.to turns more (map (renumbered_call n) calls)
            (map (renumbered_call n) later) way f.led);
        beside = f.beside;
      }

  -- the instrumented run is already beside the original's
  pub stands_there : (waiting : List WaitingCall) (next from to : Progress) → from ≡ to
      → ComesBeside m meter next waiting to → Follows [] waiting next from 0
  stands_there waiting next from to same beside =
      record {
        to = to;
        led = subst (λ at. leads.Leads n other meter at to 0 []) (sym same) (leads.here n other meter to);
        beside = beside;
      }
