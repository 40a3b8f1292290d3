-- The moments of a run, from its start, are a trail.
use Rattle.std.proofs.Common.{arith, ◌≡◌, ℕ, zero, suc, List, [], ◌∷◌, ◌++◌, map, Option, Some, None, Bool, true, false, nat_lt, slice_get, replicate, refl, sym, ap, ◌∙◌, subst, ltb-false}
use Rattle.std.specs.Prelude.{IfSome}
use Rattle.std.specs.List.{All, cons_option}
use Rattle.std.proofs.lemmas.Bool.Decides.{nat_tests}
use Rattle.std.proofs.lemmas.List.{length-replicate}
use Rattle.std.proofs.lemmas.Option.{none-some, same_Some, slice_get-map}
use Rattle.std.proofs.lemmas.List.Elements.{All-head, All-tail}
use Rattle.base.proofs.Lists.{all_at}
use Rattle.base.proofs.Options.{map_some}
use Rattle.wasm_syntax.specs.declared.values.Val.{Val}
use Rattle.wasm_syntax.specs.declared.signatures.GlobalType.{GlobalType}
use Rattle.wasm_syntax.specs.declared.modules.Import.{Import}
use Rattle.wasm_syntax.specs.declared.modules.Global.{Global as Variable}
use Rattle.wasm_syntax.specs.declared.modules.ImportKind.{ImportKind}
use Rattle.wasm_syntax.specs.declared.modules.ImportKind.TheVariants as import
use Rattle.wasm_syntax.specs.declared.modules.Module.{Module}
use Rattle.wasm_syntax.specs.Encoding.Forms.{IsCoreModule}
use Rattle.wasm_syntax.specs.Index.{imported_funcs, global_import, of_kind, all_globals}
use Rattle.wasm_syntax.specs.Typing.{is_number}
use Rattle.wasm_syntax.specs.Validity.{IsImport, IsGlobal, IsStart, IsValidOutside, IsValid}
use Rattle.host_script.specs.declared.scripts.Action.{Action}
use Rattle.host_script.specs.declared.scripts.Answer.{Answer}
use Rattle.host_script.specs.declared.scripts.ResponseEnd.{ResponseEnd}
use Rattle.host_script.specs.Fits.{FitAnswers, FitsAction, FitActions}
use Rattle.base.specs.declared.outcomes.Outcome.{Outcome}
use Rattle.history_spec.specs.declared.entries.Entry.{Entry}
use Rattle.history_spec.specs.declared.entries.Entry.TheVariants.{HostCall, HostReturn, ImportCall, ImportReturn, Enter, Exit, Step, Trap, HostTrap}
use Rattle.history_spec.specs.Store.{Store}
use Rattle.history_spec.specs.Code.{code_of}
use Rattle.history_spec.specs.Configuration.{Activation, InModule, InMain, InImport, Config}
use Rattle.history_spec.specs.Instruction.{execute}
use Rattle.history_spec.specs.Action.{perform}
use Rattle.history_spec.specs.Settle.{deliver}
use Rattle.history_spec.specs.Step.{Program, StepResult, after_settling, enter_function, start, start_with_call}
use Rattle.record_replay_spec.specs.Observations.{Observation}
use Rattle.record_replay_spec.specs.Known.{Known, opening_known}
use Rattle.type_safety.specs.Configurations.{IsTypedCode}
use Rattle.type_safety.specs.Heights.{Heights}
use Rattle.type_safety.specs.Stores.{func_count, IsStore}
use Rattle.type_safety.specs.Values.{AreValues}
use Rattle.tape_laws.proofs.AllSteps.{opening_is_known}
use Rattle.tape_laws.proofs.HostStores.{sizes_of}
use Rattle.tape_laws.proofs.Relation.{IsKnownOf}
use Rattle.tape_laws.specs.Below.{LawsOfSteps}
use Rattle.tape_laws.specs.RealReads.{observed_from}
use Rattle.record_replay_spec.specs.Order.{HookedShape}
use Rattle.record_replay_spec.specs.ReportedCalls.{Moment, store_performed}
use Rattle.tape_laws.proofs.Mirrors.{Mirrors, host_on_top}
use Rattle.tape_laws.proofs.Reportable.{IsShapeOf}
use Rattle.tape_laws.proofs.Trails.{Level, AtFunction, AtCall, at_host, KeepsImmutables, IsAtEntry, IsTrail}
use Rattle.tape_laws.proofs.HostGlobals.{action_keeps}
use Rattle.tape_laws.proofs.TrailsOfRuns as trails
use Rattle.tape_laws.proofs.TrailCalls as trail_calls
use Rattle.tape_laws.proofs.TrailSteps as trail_steps
use Rattle.tape_laws.proofs.TrailsOfRuns.{Reported, Delivers, Makes}

-- ---- globals are numbers

imported_numbers : (m : Module) (imports : List Import) → All (λ i. IsImport m i.kind) imports
    → (x : ℕ) (g : GlobalType) → slice_get (of_kind global_import imports) x ≡ Some g → is_number g.ty ≡ true
imported_numbers m [] all x g h = absurd (none-some g h)
imported_numbers m (i ∷ imports) all x g h =
    go (λ x h. imported_numbers m imports (All-tail (λ i. IsImport m i.kind) i imports all) x g h) i.kind x
    (All-head (λ i. IsImport m i.kind) i imports all) h
  where
    go : ((x : ℕ) → slice_get (of_kind global_import imports) x ≡ Some g → is_number g.ty ≡ true) → (kind : ImportKind) (x : ℕ) → IsImport m kind
        → slice_get (cons_option (global_import kind) (of_kind global_import imports)) x ≡ Some g
        → is_number g.ty ≡ true
    go rest (import.Func ty) x is h = rest x h
    go rest (import.Table limits) x is h = rest x h
    go rest (import.Memory limits) x is h = rest x h
    go rest (import.Global ty) zero is h = subst (λ t. is_number t.ty ≡ true) (same_Some ty g h) is
    go rest (import.Global ty) (suc x) is h = rest x h

numbers_of_both : (first second : List GlobalType)
    → ((x : ℕ) (g : GlobalType) → slice_get first x ≡ Some g → is_number g.ty ≡ true)
    → ((x : ℕ) (g : GlobalType) → slice_get second x ≡ Some g → is_number g.ty ≡ true)
    → (x : ℕ) (g : GlobalType) → slice_get (first ++ second) x ≡ Some g → is_number g.ty ≡ true
numbers_of_both [] second a b x g h = b x g h
numbers_of_both (t ∷ first) second a b zero g h = a zero g h
numbers_of_both (t ∷ first) second a b (suc x) g h =
    numbers_of_both first second (λ x g h. a (suc x) g h) b x g h

pub globals_are_numbers : (m : Module) → IsValidOutside m → (x : ℕ) (g : GlobalType)
    → slice_get (all_globals m) x ≡ Some g → is_number g.ty ≡ true
globals_are_numbers m outside =
    numbers_of_both (of_kind global_import m.imports) (map (λ g. g.ty) m.globals)
    (imported_numbers m m.imports outside.imports)
    (λ x g h.
    let own = map_some (λ (v : Variable). v.ty) (slice_get m.globals x) g
    (sym (slice_get-map (λ (v : Variable). v.ty) m.globals x) ∙ h) in
    subst (λ t. is_number t.ty ≡ true) own.2 (all_at (IsGlobal m) m.globals x own.0 outside.globals own.1).number)

-- ---- a trail with the host on top

-- a trail goes on from any store with the same values of immutable globals
any_store : (m : Module) (shape : HookedShape) (outcome : Option Outcome) (left : List Moment) (levels : List Level)
    (known : Known) (store other : Store) (observed : List Observation) → at_host (imported_funcs m) levels ≡ true
    → KeepsImmutables (all_globals m) other store
    → IsTrail m shape outcome left levels known store observed → IsTrail m shape outcome left levels known other observed
any_store m shape outcome [] levels known store other observed host kept h = h
any_store m shape outcome (moment ∷ left) levels known store other observed host kept h = go moment.entry h
  where
    not_within : (func : ℕ) (below : List Level) → levels ≡ AtFunction func ∷ below → ⊥
    not_within func below stands =
        let e : false ≡ true = sym (ap (at_host (imported_funcs m)) stands) ∙ host in cc

    not_true : false ≡ true → ⊥
    not_true e = cc

    both : KeepsImmutables (all_globals m) store moment.after → KeepsImmutables (all_globals m) other moment.after
    both keeps at i = keeps at i ∙ kept at i

    go : (entry : Entry)
        → IsAtEntry m shape levels known store observed outcome left moment entry (IsTrail m shape outcome left)
        → IsAtEntry m shape levels known other observed outcome left moment entry (IsTrail m shape outcome left)
    go (HostCall func args) h =
        record {
          keeps = both h.keeps;
          host = h.host;
          defined = h.defined;
          typed = h.typed;
          later = h.later;
          observed = h.observed;
          follows = h.follows;
        }
    go (Enter func) h =
        let e : nat_lt func (imported_funcs m) ≡ true = sym (ap (at_host (imported_funcs m)) h.stands) ∙ host in
        let d = h.defined in
        absurd (not_true (grind (arith, nat_tests, e, d)))
    go (HostReturn func results) h = absurd (not_within func h.below h.stands)
    go (Exit func results) h =
        absurd (not_within func (AtCall h.direct func true h.args ∷ h.below) h.stands)
    go (ImportCall import args) h =
        let e : false ≡ true = sym (ap (at_host (imported_funcs m)) h.stands) ∙ host in absurd (not_true e)
    go (ImportReturn import results) h =
        record {
          keeps = both h.keeps;
          direct = h.direct;
          entered = h.entered;
          args = h.args;
          below = h.below;
          stands = h.stands;
          imported = h.imported;
          typed = h.typed;
          within = h.within;
          later = h.later;
          observed = h.observed;
          follows = h.follows;
        }
    go (Step func number operands results found) h = absurd (not_within func h.below h.stands)
    go (Trap func number kind operands found) h = absurd (not_within func h.below h.stands)
    go HostTrap h = h

-- ---- all steps

module _ (laws : LawsOfSteps) (m : Module) (heights : Heights) (valid : IsValid m) (typed : IsTypedCode m heights)
    (core : IsCoreModule m) (answers : List (Option Answer)) (fits : FitAnswers m answers) (shape : HookedShape)
    (is_shape : IsShapeOf m shape) where
  abbrev program : Program
  program = record { code = code_of m; answers = answers }

  abbrev n : ℕ
  n = imported_funcs m

  made_next : (k : ℕ) → Delivers m heights answers shape k → Makes m heights answers shape (suc k)
  made_next k delivers =
      record {
        runs = λ frame below store counts levels known fine of c mirrors.
            trail_steps.executed laws m heights valid typed core answers fits shape is_shape
            (globals_are_numbers m valid.outside) k delivers frame below store counts levels known
            fine of c mirrors (execute (code_of m) store frame) refl
            (laws.rules m heights store frame fine.stack.0 fine.stack.1 valid typed fine.store fine.stack.2
            fine.at_step);
        main = λ action actions below store counts levels known fine of c mirrors.
            let config : Config =
            record { store = store; stack = InMain (action ∷ actions) ∷ below; counts = counts } in
            let a = fine.stack in
            let r = perform (code_of m) store [] action in
            any_store m shape _ _ levels known (store_performed store r) store _ (ap (at_host n) mirrors)
            (action_keeps m [] (code_of m) store [] action (All-head (FitsAction m []) action actions a.0))
            (trail_calls.acted m heights typed core answers fits shape k delivers
            (InMain actions ∷ below) store counts levels known None store [] action config refl refl tt
            (λ types. (All-tail (FitsAction m []) action actions a.0, a.1)) fine.store of fine.counts c mirrors r refl
            (laws.actions m heights store [] [] action typed fine.store tt
            (All-head (FitsAction m []) action actions a.0)));
        import = λ import args action actions end below store counts levels known fine of c mirrors.
            let config : Config =
            record { store = store; stack = InImport import args (action ∷ actions) end ∷ below; counts = counts } in
            let a = fine.stack in
            let r = perform (code_of m) store args action in
            any_store m shape _ _ levels known (store_performed store r) store _
            (host_on_top n None (InImport import args (action ∷ actions) end ∷ below) levels tt mirrors)
            (action_keeps m a.0.params (code_of m) store args action
            (All-head (FitsAction m a.0.params) action actions a.3))
            (trail_calls.acted m heights typed core answers fits shape k delivers
            (InImport import args actions end ∷ below) store counts levels known None store args action config refl
            refl tt
            (λ types. (a.0, a.1, a.2, All-tail (FitsAction m a.0.params) action actions a.3, a.4, a.5)) fine.store of
            fine.counts c (same_import import args action actions end below levels mirrors) r refl
            (laws.actions m heights store a.0.params args action typed fine.store a.2
            (All-head (FitsAction m a.0.params) action actions a.3)));
      }
    where
      same_import : (import : ℕ) (args : List Val) (action : Action) (actions : List Action) (end : ResponseEnd)
          (below : List Activation) (levels : List Level)
          → Mirrors n None (InImport import args (action ∷ actions) end ∷ below) levels
          → Mirrors n None (InImport import args actions end ∷ below) levels
      same_import import args action actions end (InModule frame ∷ below) levels h = h
      same_import import args action actions end [] levels h = absurd h
      same_import import args action actions end (InMain more ∷ below) levels h = absurd h
      same_import import args action actions end (InImport i a more e ∷ below) levels h = absurd h

  made_none : Makes m heights answers shape zero
  made_none =
      record {
        runs = λ frame below store counts levels known fine of c mirrors. refl;
        main = λ action actions below store counts levels known fine of c mirrors. refl;
        import = λ import args action actions end below store counts levels known fine of c mirrors. refl;
      }

  delivers : (k : ℕ) → Delivers m heights answers shape k
  delivers zero = trails.deliver_from m heights answers shape zero made_none
  delivers (suc k) = trails.deliver_from m heights answers shape (suc k) (made_next k (delivers k))

  -- ---- the start

  module _ (k : ℕ) (main : List Action) (store : Store) (is : IsStore m store) (fit : FitActions m [] main) where
    abbrev counts : List ℕ
    counts = replicate n 0

    abbrev Started : StepResult → Type 0
    Started s = Reported m heights answers shape k None store store s [] (opening_known store)

    of : IsKnownOf (opening_known store) store
    of = opening_is_known store (sizes_of m store is)

    without_call : Started (after_settling store counts (deliver (InMain main ∷ []) []))
    without_call =
        delivers k (InMain main ∷ []) [] [] store counts [] (opening_known store) None store (fit, refl) tt is of
        (length-replicate n 0) tt refl

    with_call : (b : Bool) (func : ℕ) → IsStart m func → nat_lt func n ≡ b
        → Started (start_with_call program b store counts func (InMain main ∷ []))
    with_call true func start e = without_call
    with_call false func start e =
        let given = subst (λ types. AreValues (func_count m) types []) (sym start.params) tt in
        record {
          keeps = λ at i. refl;
          host = refl;
          defined = ltb-false func n e;
          typed = record { ty = start.ty; has_type = start.has_type; are = given };
          later = observed_from program k
              (enter_function (code_of m) store counts func [] (InMain main ∷ []));
          observed = refl;
          follows =
              trail_calls.entered m heights typed core answers fits shape k (delivers k) func
              start.ty [] (InMain main ∷ []) store counts [] (opening_known store) None store start.has_type
              (ltb-false func n e) given is of (length-replicate n 0) (fit, refl) tt refl;
        }

    pub started : (func : Option ℕ) → m.start ≡ func → Started (start program func store counts main)
    started None e = without_call
    started (Some func) e =
        with_call (nat_lt func n) func (subst (λ o. IfSome o (IsStart m)) e valid.outside.start) refl
