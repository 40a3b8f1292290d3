-- A replay module in its store, whose run can begin.
use Rattle.std.proofs.Common.{◌≡◌, ℕ, ◌+◌, ◌-◌, List, [], ◌++◌, length, refl, sym, ap, ◌∙◌, subst, arith}
use Rattle.std.specs.Prelude.{IsTrue, Ok, false}
use Rattle.std.proofs.lemmas.List.Elements.{All-cons, All-nil}
use Rattle.std.proofs.lemmas.Option.{IfSome_then}
use Rattle.wasm_syntax.specs.declared.modules.Module.{Module}
use Rattle.wasm_syntax.specs.Index.{func_import, imported_funcs, of_kind}
use Rattle.wasm_syntax.specs.Profile.{IsSupported}
use Rattle.wasm_syntax.specs.Typing.{is_constant}
use Rattle.wasm_syntax.specs.Validity.{IsValid}
use Rattle.host_script.specs.declared.scripts.Action.TheVariants.{Call}
use Rattle.host_script.specs.Fits.{FitActions, FitAnswers, FitsAction, IsCallable}
use Rattle.base.specs.declared.outcomes.Outcome.{Outcome}
use Rattle.history_spec.specs.declared.entries.Entry.{Entry}
use Rattle.history_spec.specs.Line.{line, outcome_text}
use Rattle.history_spec.specs.Projection.{Layout, projection, shown_entries, shown_outcome}
use Rattle.history_spec.specs.Replay.{alone, program_alone, run_start_alone, start_alone_or_fault}
use Rattle.history_spec.specs.Instantiation.{instantiate}
use Rattle.history_spec.specs.Step.{StepResult, start}
use Rattle.history_spec.specs.Store.{Store}
use Rattle.type_safety.specs.Configurations.{IsTypedCode}
use Rattle.type_safety.specs.Heights.{Heights}
use Rattle.type_safety.specs.Laws.{ValidCodeHasHeights, ValidCodeIsTyped}
use Rattle.type_safety.specs.Stores.{IsStore}
use Rattle.wasm_flat.specs.FlatCode.{flat_of}
use Rattle.wasm_interp.specs.Laws.{HostsBegin}
use Rattle.wasm_interp.specs.State.{State, state}
use Rattle.replay_form.specs.Forms.{IsReplayable}
use Rattle.replay_run.specs.declared.results.ReplayFault.{ReplayFault}
use Rattle.replay_run.specs.declared.results.ReplayFault.TheVariants as fault
use Rattle.host_play.specs.declared.results.PrintedRun.{PrintedRun}
use Rattle.shown_lines.specs.ShownLines.{ShownLines, lines}
use Rattle.replay_run.specs.Results.{RefusesForm, RefusesReplay, PrintsReplay}
use Rattle.replay_run.specs.RunsSoFar.{EndsBy, IsReady, StopsBy, main_of}

none_imported : (m : Module) → m.imports ≡ [] → imported_funcs m ≡ 0
none_imported m none = ap (λ imports. length (of_kind func_import imports)) none

none_answered : (m : Module) → m.imports ≡ [] → FitAnswers m []
none_answered m none =
    let own : FitAnswers (record m { imports = [] }) [] = tt in
    subst (λ imports. FitAnswers (record m { imports = imports }) []) (sym none) own

ready_of : HostsBegin → (m : Module) (heights : Heights) (layout : Layout) (entry : ℕ) (store : Store) → IsValid m
    → IsTypedCode m heights → IsReplayable m layout entry → IsStore m store
    → IsReady m heights m.start entry (state (flat_of m) store [] [] false)
ready_of hosts m heights layout entry store valid code form is_store =
    let none : imported_funcs m ≡ 0 = none_imported m form.alone in
    let call : IsCallable m entry [] = record {
      defined = omega (arith, none);
      ty = record { params = []; results = [] };
      has_type = form.enters.typed;
      fit = record { in_range = All-nil (λ value. IsTrue (is_constant value)); typed = refl };
    } in
    let main : FitActions m [] (main_of entry) = All-cons (FitsAction m []) (Call entry []) [] call (All-nil (FitsAction m [])) in
    record {
      is_run = record { valid = valid; code = code; fits = record { code = refl; answers = none_answered m form.alone }; counted = sym none };
      starts = refl;
      start_function =
          IfSome_then m.start valid.outside.start
          (λ func s. record { defined = omega (arith, none); ty = s.ty; has_type = s.has_type; none = s.params });
      entry_function = record { defined = omega (arith, none); ty = record { params = []; results = [] }; has_type = form.enters.typed; none = refl };
      stands = hosts m heights store (main_of entry) is_store main;
    }

pub ready_in : HostsBegin → ValidCodeHasHeights → ValidCodeIsTyped
    → (m other : Module) (layout : Layout) (entry : ℕ) (store : Store) (machine : State) → other ≡ m → IsValid other
    → IsSupported m → IsReplayable m layout entry → IsStore m store
    → machine ≡ state (flat_of m) store [] [] false → (heights : Heights) × IsReady m heights other.start entry machine
ready_in hosts there typed m other layout entry store machine same valid supported form is_store is =
    let own : IsValid m = subst IsValid same valid in
    let found = there m own in (
      found.0,
      subst (λ (n : Module). IsReady m found.0 n.start entry machine) (sym same)
          (subst (IsReady m found.0 m.start entry) (sym is)
          (ready_of hosts m found.0 layout entry store own (typed m found.0 own supported found.1) form is_store)),
    )

-- the start of the run, in terms of the parts of the machine and the module
pub starts_in : (m other : Module) (entry : ℕ) (store : Store) (machine : State) → other ≡ m
    → instantiate m alone ≡ Ok store → machine ≡ state (flat_of m) store [] [] false
    → run_start_alone m entry ≡ Ok (start (program_alone m) other.start machine.store [] (main_of entry))
starts_in m other entry store machine same opened is =
    ap (start_alone_or_fault m entry) opened ∙ ap (λ (n : Module). Ok (start (program_alone m) n.start store [] (main_of entry))) (sym same)
    ∙ ap (λ (there : State). Ok (start (program_alone m) other.start there.store [] (main_of entry))) (sym is)

-- a refusal of the form is one of the replay, whatever the turns
pub form_refused : (m : Module) (turns : ℕ) (found : ReplayFault) → RefusesForm m found → RefusesReplay m turns found
form_refused m turns fault.NoLayout refuses = refuses
form_refused m turns fault.Imports refuses = refuses
form_refused m turns fault.NoEntry refuses = refuses
form_refused m turns (fault.Link segment) refuses = absurd refuses
form_refused m turns fault.Spent refuses = absurd refuses
form_refused m turns fault.Memory refuses = tt

-- `replay` reports why the run stopped
pub run_stopped : (m : Module) (turns : ℕ) (layout : Layout) (entry : ℕ) (initial : StepResult) (found : ReplayFault)
    → IsReplayable m layout entry → run_start_alone m entry ≡ Ok initial → StopsBy m initial turns found
    → RefusesReplay m turns found
run_stopped m turns layout entry initial fault.NoLayout form starts stops = absurd stops
run_stopped m turns layout entry initial fault.Imports form starts stops = absurd stops
run_stopped m turns layout entry initial fault.NoEntry form starts stops = absurd stops
run_stopped m turns layout entry initial (fault.Link segment) form starts stops = absurd stops
run_stopped m turns layout entry initial fault.Spent form starts stops =
    record { layout = layout; entry = entry; form = form; initial = initial; starts = starts; spent = stops }
run_stopped m turns layout entry initial fault.Memory form starts stops = tt

-- `replay` reports a run that is over
pub run_printed : (m : Module) (turns left : ℕ) (layout : Layout) (entry : ℕ) (initial : StepResult) (outcome : Outcome)
    (shown : ShownLines) (printed : PrintedRun) → IsReplayable m layout entry → run_start_alone m entry ≡ Ok initial
    → EndsBy m initial turns outcome shown left → shown.layout ≡ layout
    → printed.text ≡ shown.text ++ line (outcome_text outcome)
    → (printed.entries ≡ shown.entries) × (printed.turns ≡ turns - left) × (printed.outcome ≡ outcome)
    → PrintsReplay m turns printed
run_printed m turns left layout entry initial outcome shown printed form starts ends same text rest =
    let all : ends.run.turns + left ≡ turns = ends.all in
    let spent : printed.turns ≡ turns - left = rest.1 in
    let shows : List Entry → Layout → List Entry = λ history l. shown_entries l [] [] history in
    let outcome_is : outcome ≡ shown_outcome layout ends.run.history ends.own = ends.outcome_is ∙ ap (λ l. shown_outcome l ends.run.history ends.own) same in
    record {
      layout = layout;
      entry = entry;
      form = form;
      initial = initial;
      starts = starts;
      run = ends.run;
      within = ends.within;
      own = ends.own;
      ended = ends.ended;
      shown = projection layout ends.run.history ends.own;
      projected = refl;
      text =
          text ∙ ap (λ t. t ++ line (outcome_text outcome)) (ends.prints.text_is ∙ ap (λ l. lines (shows ends.run.history l)) same)
          ∙ ap (λ o. lines (shows ends.run.history layout) ++ line (outcome_text o)) outcome_is;
      outcome = rest.2 ∙ outcome_is;
      entries = rest.0 ∙ ends.prints.entries_are ∙ ap (λ l. length (shows ends.run.history l)) same;
      turns_are = omega (arith, all, spent);
    }
