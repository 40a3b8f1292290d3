-- The store in which a run calls a hook. The machine's part of a run shows in which store the call is answered; that
-- this is the one in which the step began is seen by another run of the same code, whose host answers by a call.
use Rattle.std.proofs.Common.{◌≡◌, ℕ, zero, suc, ◌+◌, List, [], ◌∷◌, ◌++◌, Option, Some, None, Bool, true, false, map, option_map, slice_get, refl, sym, ap, ◌∙◌, subst, ◌⊎◌, inl, inr}
use Rattle.std.specs.Prelude.{filter, nat_lt, slice_index, slice_set, option_and_then}
use Rattle.std.proofs.lemmas.List.{append-nil}
use Rattle.std.proofs.lemmas.List.Elements.{filter-append}
use Rattle.wasm_syntax.specs.declared.values.Val.{Val}
use Rattle.host_script.specs.declared.scripts.Action.TheVariants.{Call}
use Rattle.host_script.specs.declared.scripts.Answer.{Answer}
use Rattle.host_script.specs.declared.scripts.Response.{Response}
use Rattle.host_script.specs.declared.scripts.ResponseEnd.TheVariants.{Trap}
use Rattle.history_spec.specs.declared.entries.Entry.{Entry}
use Rattle.history_spec.specs.declared.entries.Entry.TheVariants.{HostCall, ImportCall, Step}
use Rattle.history_spec.specs.Action.{ActionResult, Changes, Enters, Fails, Unfit, perform}
use Rattle.history_spec.specs.Code.{Code}
use Rattle.history_spec.specs.Configuration.{Frame, Activation, InModule, InMain, InImport, Config}
use Rattle.history_spec.specs.Instruction.{Control, Goes, Calls, Returns, Execution, Did, Traps, NoRule, execute}
use Rattle.history_spec.specs.Settle.{settle, deliver, return_entry}
use Rattle.history_spec.specs.Step.{Program, Progress, Running, Finished, Faulted, Stuck, StepResult, after_action, after_entries, after_instruction, after_settling, answer_call, call_function, enter_function, response_of, response_to, step, step_of}
use Rattle.history_spec.specs.Run.{Meter, steps}
use Rattle.record_replay_spec.specs.HookedRuns.{call_of_hook, calls_among, hook_calls}
use Rattle.host_play.proofs.Calls.{all_calls, delivers_none, enters_none, is_host_call, returns_none}
use Rattle.host_play.proofs.HookCalls.{calls_none, import_is_call, is_import_call, none_called, none_in_both, no_hooks, quiet}

abbrev pub imports_in : List Entry → List Entry
imports_in es = filter is_import_call es

abbrev pub hosts_in : List Entry → List Entry
hosts_in es = filter is_host_call es

no_import : (es : List Entry) → all_calls es ≡ 0 → imports_in es ≡ []
no_import es none = none_called is_import_call import_is_call es none

back_of : (xs ys : List Entry) (call : Entry) → imports_in xs ≡ [] → imports_in (xs ++ ys) ≡ call ∷ [] → imports_in ys ≡ call ∷ []
back_of xs ys call none is = ap (λ front. front ++ imports_in ys) (sym none) ∙ sym (filter-append is_import_call xs ys) ∙ is

-- the same code under answers, and under answers that all make this call
module _ (code : Code) (answers : List (Option Answer)) (func : ℕ) (given : List Val) where
  abbrev pub calling : Response
  calling = record { actions = Call func given ∷ []; «end» = Trap }

  abbrev pub calls_instead : Answer → Answer
  calls_instead answer = record { calls = []; rest = Some calling }

  abbrev pub others : List (Option Answer)
  others = map (option_map calls_instead) answers

  abbrev pub own : Program
  own = record { code = code; answers = answers }

  abbrev pub other : Program
  other = record { code = code; answers = others }

  -- ---- if there is a response, the other response is this call

  there_as : (items : List (Option Answer)) (import : ℕ) (number other_number : ℕ) (response : Response)
      → option_and_then (λ answer. response_of answer number) (option_and_then (λ a. a) (slice_get items import)) ≡ Some response
      → option_and_then (λ answer. response_of answer other_number)
      (option_and_then (λ a. a) (slice_get (map (option_map calls_instead) items) import)) ≡ Some calling
  there_as [] import number other_number response is = cc
  there_as (None ∷ items) zero number other_number response is = cc
  there_as (Some a ∷ items) zero number other_number response is = refl
  there_as (a ∷ items) (suc i) number other_number response is = there_as items i number other_number response is

  pub answered_instead : (import number other_number : ℕ) (response : Response)
      → response_to answers import number ≡ Some response → response_to others import other_number ≡ Some calling
  answered_instead import number other_number response is = there_as answers import number other_number response is

  -- ---- a step calls an import, or is the same under both

  record CallsImport (c : Config) (by_own by_other : StepResult) : Type 0 where
    from : ℕ
    number : ℕ
    operands : List Val
    results : List Val
    found : Option ℕ
    import : ℕ
    args : List Val
    under : List Activation
    is_own : by_own ≡ after_entries (Step from number operands results found ∷ [])
        (answer_call (response_to answers import (slice_index c.counts import)) c.store c.counts import args under)
    is_other : by_other ≡ after_entries (Step from number operands results found ∷ [])
        (answer_call (response_to others import (slice_index c.counts import)) c.store c.counts import args under)

  abbrev IsSplit : Config → (by_own by_other : StepResult) → Type 0
  IsSplit c by_own by_other = ((by_own ≡ by_other) × (imports_in by_own.entries ≡ [])) ⊎ CallsImport c by_own by_other

  by_control : (c : Config) (frame : Frame) (below : List Activation) (operands results : List Val) (found : Option ℕ) (effect : Control)
      → IsSplit c (after_instruction own c frame below (Did operands results found effect))
      (after_instruction other c frame below (Did operands results found effect))
  by_control c frame below operands results found (Goes store next) =
      inl (refl, no_import (settle (InModule next ∷ below)).entries (delivers_none (InModule next ∷ below) []))
  by_control c frame below operands results found (Returns values) =
      inl (
        refl,
        no_import (return_entry frame.func values below ∷ (deliver below values).entries)
            (returns_none frame.func values below (deliver below values).entries ∙ delivers_none below values),
      )
  by_control c frame below operands results found (Calls waiting callee args) = go (nat_lt callee code.imported)
    where
      go : (is_import : Bool)
          → IsSplit c (after_entries (Step frame.func frame.at.number operands results found ∷ [])
          (call_function own is_import c.store c.counts callee args (InModule waiting ∷ below)))
          (after_entries (Step frame.func frame.at.number operands results found ∷ [])
          (call_function other is_import c.store c.counts callee args (InModule waiting ∷ below)))
      go true = inr (record {
        from = frame.func;
        number = frame.at.number;
        operands = operands;
        results = results;
        found = found;
        import = callee;
        args = args;
        under = InModule waiting ∷ below;
        is_own = refl;
        is_other = refl;
      })
      go false = inl (
        refl,
        no_import (enter_function code c.store c.counts callee args (InModule waiting ∷ below)).entries
            (enters_none own c.store c.counts callee args (InModule waiting ∷ below)),
      )

  by_execution : (c : Config) (frame : Frame) (below : List Activation) (e : Execution)
      → IsSplit c (after_instruction own c frame below e) (after_instruction other c frame below e)
  by_execution c frame below (Did operands results found effect) = by_control c frame below operands results found effect
  by_execution c frame below (Traps kind operands found) = inl (refl, refl)
  by_execution c frame below NoRule = inl (refl, refl)

  by_action : (c : Config) (left : List Activation) (acted : ActionResult) → IsSplit c (after_action own c left acted) (after_action other c left acted)
  by_action c left (Changes store) = inl (refl, no_import (settle left).entries (delivers_none left []))
  by_action c left (Enters callee args) = inl (
    refl,
    no_import (enter_function code c.store c.counts callee args left).entries
        (enters_none own c.store c.counts callee args left),
  )
  by_action c left (Fails kind) = inl (refl, refl)
  by_action c left Unfit = inl (refl, refl)

  split : (c : Config) (stack : List Activation) → IsSplit c (step_of own c stack) (step_of other c stack)
  split c [] = inl (refl, refl)
  split c (InModule frame ∷ below) = by_execution c frame below (execute code c.store frame)
  split c (InMain [] ∷ below) = inl (refl, refl)
  split c (InMain (action ∷ actions) ∷ below) = by_action c (InMain actions ∷ below) (perform code c.store [] action)
  split c (InImport import args [] end ∷ below) = inl (refl, refl)
  split c (InImport import args (action ∷ actions) end ∷ below) = by_action c (InImport import args actions end ∷ below) (perform code c.store args action)

  -- ---- after the call

  -- the other run is at the point where the host makes its call
  stays : (meter : Meter) (l : ℕ) (c d : Config) (import : ℕ) (args : List Val) (below : List Activation)
      → c.stack ≡ InImport import args (Call func given ∷ []) Trap ∷ below
      → hosts_in (steps other meter l (Running c)).history ≡ [] → (steps other meter l (Running c)).at ≡ Running d → c.store ≡ d.store
  stays meter zero c d import args below is none at = let same : c ≡ d = cc in ap (λ (x : Config). x.store) same
  stays meter (suc l) c d import args below is none at =
      let s : StepResult = step_of other c (InImport import args (Call func given ∷ []) Trap ∷ below) in
      let some : hosts_in (s.entries ++ (steps other meter l s.next).history) ≡ [] = subst (λ stack. hosts_in
      ((step_of other c stack).entries ++ (steps other meter l (step_of other c stack).next).history) ≡ []) is none in
      let no : HostCall func given ∷ hosts_in ((enter_function code c.store c.counts func given
      (InImport import args [] Trap ∷ below)).entries ++ (steps other meter l s.next).history) ≡ [] = some in
      cc

  -- ---- the store of the call

  over_none : (meter : Meter) (k : ℕ) (at : Progress) → ((c : Config) → at ≡ Running c → ⊥) → (steps own meter k at).history ≡ []
  over_none meter zero at over = refl
  over_none meter (suc k) (Running c) over = absurd (over c refl)
  over_none meter (suc k) (Finished outcome) over = refl
  over_none meter (suc k) (Faulted kind) over = refl
  over_none meter (suc k) Stuck over = refl

  module _ (meter other_meter : Meter) (n : ℕ) where
    -- what is claimed of runs of both from there on
    abbrev Claim : ℕ → Type 0
    Claim k = (l : ℕ) (at : Progress) (d : Config) (import : ℕ) (args other_args : List Val)
        → imports_in (steps own meter k at).history ≡ ImportCall import args ∷ []
        → imports_in (steps other other_meter l at).history ≡ ImportCall import other_args ∷ []
        → hosts_in (steps other other_meter l at).history ≡ [] → (steps other other_meter l at).at ≡ Running d
        → hook_calls n own k at ≡ call_of_hook n import args d.store

    module _ (k l : ℕ) (c d : Config) (import : ℕ) (args other_args : List Val) where
      abbrev by_own : StepResult
      by_own = step own c

      abbrev by_other : StepResult
      by_other = step other c

      -- the step is the same under both, and the call comes after it
      later : Claim k → by_own ≡ by_other → imports_in by_own.entries ≡ []
          → imports_in (by_own.entries ++ (steps own meter k by_own.next).history) ≡ ImportCall import args ∷ []
          → imports_in (by_other.entries ++ (steps other other_meter l by_other.next).history) ≡ ImportCall import other_args ∷ []
          → hosts_in (by_other.entries ++ (steps other other_meter l by_other.next).history) ≡ [] → (steps other other_meter l by_other.next).at ≡ Running d
          → calls_among n c.store by_own.entries ++ hook_calls n own k by_own.next ≡ call_of_hook n import args d.store
      later claim same none first second hosts at =
          let first' = back_of by_own.entries (steps own meter k by_own.next).history (ImportCall import args) none first in
          let second' =
          back_of by_own.entries (steps other other_meter l by_own.next).history (ImportCall import other_args) none
          (subst (λ (s : StepResult). imports_in (s.entries ++ (steps other other_meter l s.next).history)
          ≡ ImportCall import other_args ∷ []) (sym same) second) in
          let hosts' = (none_in_both is_host_call by_other.entries (steps other other_meter l by_other.next).history hosts).1 in
          ap (λ front. front ++ hook_calls n own k by_own.next) (calls_none n c.store by_own.entries (no_hooks n by_own.entries none))
          ∙ claim l by_own.next d import args other_args first' second'
          (subst (λ (s : StepResult). hosts_in (steps other other_meter l s.next).history ≡ []) (sym same) hosts')
          (subst (λ (s : StepResult). (steps other other_meter l s.next).at ≡ Running d) (sym same) at)

      -- the step is the call
      module _ (x : CallsImport c by_own by_other) where
        abbrev entry : Entry
        entry = Step x.from x.number x.operands x.results x.found

        abbrev counts : List ℕ
        counts = slice_set c.counts x.import (slice_index c.counts x.import + 1)

        -- the host has begun to answer by a response
        abbrev answering : Response → StepResult
        answering r = after_settling c.store counts (settle (InImport x.import x.args r.actions r.«end» ∷ x.under))

        abbrev asked : Response → StepResult
        asked r = after_entries (entry ∷ []) (after_entries (ImportCall x.import x.args ∷ []) (answering r))

        abbrev waiting : Config
        waiting = record { store = c.store; stack = InImport x.import x.args (Call func given ∷ []) Trap ∷ x.under; counts = counts }

        same_store : by_other ≡ asked calling
            → hosts_in (by_other.entries ++ (steps other other_meter l by_other.next).history) ≡ []
            → (steps other other_meter l by_other.next).at ≡ Running d → c.store ≡ d.store
        same_store is hosts at =
            let hosts' : hosts_in ((asked calling).entries ++ (steps other other_meter l (Running waiting)).history)
            ≡ [] = subst (λ (s : StepResult). hosts_in (s.entries ++ (steps other other_meter l s.next).history) ≡ [])
            is hosts in
            stays other_meter l waiting d x.import x.args x.under refl
            ((none_in_both is_host_call (asked calling).entries (steps other other_meter l (Running waiting)).history hosts').1)
            (subst (λ (s : StepResult). (steps other other_meter l s.next).at ≡ Running d) is at)

        printed : (r : Response) → by_own ≡ asked r
            → imports_in (by_own.entries ++ (steps own meter k by_own.next).history) ≡ ImportCall import args ∷ []
            → c.store ≡ d.store
            → calls_among n c.store by_own.entries ++ hook_calls n own k by_own.next ≡ call_of_hook n import args d.store
        printed r is first store =
            let after : List Entry = (answering r).entries in
            let rest : List Entry = (steps own meter k (answering r).next).history in
            let first' : ImportCall x.import x.args ∷ imports_in (after ++ rest) ≡ ImportCall import args ∷ [] =
            subst (λ (s : StepResult).
            imports_in (s.entries ++ (steps own meter k s.next).history) ≡ ImportCall import args ∷ []) is first in
            let same_import : x.import ≡ import = cc in
            let same_args : x.args ≡ args = cc in
            let none : imports_in (after ++ rest) ≡ [] = cc in
            let parts = none_in_both is_import_call after rest none in
            let made : List _ = call_of_hook n x.import x.args c.store in
            ap (λ (s : StepResult). calls_among n c.store s.entries ++ hook_calls n own k s.next) is
            ∙ ap (λ calls. (made ++ calls) ++ hook_calls n own k (answering r).next) (calls_none n c.store after (no_hooks n after parts.0))
            ∙ ap (λ calls. (made ++ []) ++ calls) (quiet n own meter k (answering r).next (no_hooks n rest parts.1))
            ∙ append-nil (made ++ []) ∙ append-nil made
            ∙ ap (λ i. call_of_hook n i x.args c.store) same_import
            ∙ ap (λ values. call_of_hook n import values c.store) same_args ∙ ap (call_of_hook n import args) store

        called : imports_in (by_own.entries ++ (steps own meter k by_own.next).history) ≡ ImportCall import args ∷ []
            → hosts_in (by_other.entries ++ (steps other other_meter l by_other.next).history) ≡ [] → (steps other other_meter l by_other.next).at ≡ Running d
            → calls_among n c.store by_own.entries ++ hook_calls n own k by_own.next ≡ call_of_hook n import args d.store
        called first hosts at = go (response_to answers x.import (slice_index c.counts x.import)) refl
          where
            go : (r : Option Response) → response_to answers x.import (slice_index c.counts x.import) ≡ r
                → calls_among n c.store by_own.entries ++ hook_calls n own k by_own.next
                ≡ call_of_hook n import args d.store
            go None is =
                let fault : StepResult = after_entries (entry ∷ []) (answer_call None c.store c.counts x.import x.args x.under) in
                let by : by_own ≡ fault = x.is_own ∙ ap (λ r. after_entries (entry ∷ []) (answer_call r c.store c.counts x.import x.args x.under)) is in
                let some : imports_in (steps own meter k fault.next).history ≡ ImportCall import args ∷ [] =
                subst (λ (s : StepResult).
                imports_in (s.entries ++ (steps own meter k s.next).history) ≡ ImportCall import args ∷ []) by first in
                let no : [] ≡ ImportCall import args ∷ [] = sym (ap imports_in (over_none meter k fault.next (λ config running. cc))) ∙ some in
                cc
            go (Some r) is =
                printed r (x.is_own ∙ ap (λ r. after_entries (entry ∷ []) (answer_call r c.store c.counts x.import x.args x.under)) is) first
                (same_store (x.is_other
                ∙ ap (λ r. after_entries (entry ∷ []) (answer_call r c.store c.counts x.import x.args x.under))
                (answered_instead x.import (slice_index c.counts x.import) (slice_index c.counts x.import) r is))
                hosts at)

    claims : (k l : ℕ) (at : Progress) (d : Config) (import : ℕ) (args other_args : List Val)
        → imports_in (steps own meter k at).history ≡ ImportCall import args ∷ []
        → imports_in (steps other other_meter l at).history ≡ ImportCall import other_args ∷ []
        → hosts_in (steps other other_meter l at).history ≡ [] → (steps other other_meter l at).at ≡ Running d
        → hook_calls n own k at ≡ call_of_hook n import args d.store
    claims zero l at d import args other_args first second hosts there = cc
    claims (suc k) zero at d import args other_args first second hosts there = cc
    claims (suc k) (suc l) (Finished outcome) d import args other_args first second hosts there = cc
    claims (suc k) (suc l) (Faulted kind) d import args other_args first second hosts there = cc
    claims (suc k) (suc l) Stuck d import args other_args first second hosts there = cc
    claims (suc k) (suc l) (Running c) d import args other_args first second hosts there = go (claims k) (split c c.stack)
      where
        go : Claim k → IsSplit c (step own c) (step other c) → hook_calls n own (suc k) (Running c) ≡ call_of_hook n import args d.store
        go claim (inl same) = later k l c d import args other_args claim same.0 same.1 first second hosts there
        go claim (inr x) = called k l c d import args other_args x first hosts there

  -- the call of a hook that a run makes sees the store in which another run awaits the host's call
  pub hook_seen : (meter other_meter : Meter) (n k l : ℕ) (at : Progress) (d : Config) (import : ℕ) (args other_args : List Val)
      → imports_in (steps own meter k at).history ≡ ImportCall import args ∷ []
      → imports_in (steps other other_meter l at).history ≡ ImportCall import other_args ∷ []
      → hosts_in (steps other other_meter l at).history ≡ [] → (steps other other_meter l at).at ≡ Running d
      → hook_calls n own k at ≡ call_of_hook n import args d.store
  hook_seen meter other_meter n k l at d import args other_args first second hosts there =
      claims meter other_meter n k l at d import args other_args first second hosts there
