-- A run whose history is printed so far.
use Rattle.std.proofs.Common.{◌≡◌, ℕ, ◌+◌, ◌-◌, List, [], ◌∷◌, ◌++◌, length, refl, sym, ap, ◌∙◌, subst, arith, append_assoc, Result, Ok, Err, IfOk, IfErr, OnOk}
use Rattle.std.specs.Prelude.{None}
use Rattle.std.proofs.lemmas.List.{length-append}
use Rattle.wasm_syntax.specs.declared.modules.Module.{Module}
use Rattle.host_script.specs.declared.scripts.Script.{Script}
use Rattle.history_spec.specs.declared.entries.Entry.{Entry}
use Rattle.history_spec.specs.Line.{line, entry_text, outcome_text}
use Rattle.history_spec.specs.Step.{Finished, StepResult}
use Rattle.history_spec.specs.Run.{program_of}
use Rattle.host_play.specs.declared.host_steps.HostStep.{HostStep}
use Rattle.host_play.specs.declared.play_state.Stand.{Stand}
use Rattle.host_play.specs.declared.play_state.Stand.TheVariants as at
use Rattle.host_play.specs.declared.play_state.PlayState.{PlayState}
use Rattle.host_play.specs.declared.results.RunEnd.{RunEnd}
use Rattle.host_play.specs.declared.results.PrintedRun.{PrintedRun}
use Rattle.host_play.specs.HostSteps.{entries_of, stand_after}
use Rattle.host_play.specs.RunsSoFar.{PrintsSoFar}
use Rattle.host_play.specs.declared.results.PlayFault.{PlayFault}
use Rattle.host_play.specs.declared.results.PlayFault.TheVariants.{Memory}
use Rattle.host_play.specs.Results.{IsPrinted, Refuses, PrintsRun}
use Rattle.host_play.specs.PrintedLines.{HasPrinted, PrintedLines, Prints, lines}
use Rattle.host_play.specs.Stands.{Leads}
use Rattle.host_play.proofs.NextSteps.{begins, over_within, whole}

lines_after : (first second : List Entry) → lines (first ++ second) ≡ lines first ++ lines second
lines_after [] second = refl
lines_after (e ∷ es) second =
    ap (λ text. line (entry_text e) ++ text) (lines_after es second) ∙ sym (append_assoc (line (entry_text e)) (lines es) (lines second))

pub prints_more : (printed new_printed : PrintedLines) (history entries : List Entry) → HasPrinted printed history
    → Prints printed new_printed entries → HasPrinted new_printed (history ++ entries)
prints_more printed new_printed history entries so_far prints = record {
  text_is = prints.lines_are ∙ ap (λ t. t ++ lines entries) so_far.text_is ∙ sym (lines_after history entries);
  entries_are = prints.count_is ∙ ap (λ n. n + length entries) so_far.entries_are ∙ sym (length-append history entries);
}

-- one entry, and others after it
pub prints_first : {T E : Type 0} (result : Result T E) (printed mid new_printed : PrintedLines) (entry : Entry)
    (entries : List Entry) → Prints printed mid (entry ∷ []) → OnOk result (Prints mid new_printed entries)
    → OnOk result (Prints printed new_printed (entry ∷ entries))
prints_first (Ok x) printed mid new_printed entry entries first prints = record {
  lines_are =
      prints.lines_are ∙ ap (λ t. t ++ lines entries) first.lines_are
      ∙ append_assoc printed.text (lines (entry ∷ [])) (lines entries)
      ∙ ap (λ t. printed.text ++ t) (sym (lines_after (entry ∷ []) entries));
  count_is = prints.count_is ∙ ap (λ n. n + length entries) first.count_is ∙ omega arith;
}
prints_first (Err refused) printed mid new_printed entry entries first prints = tt

-- the entries with which the run starts, by what the host did first, are printed
pub prints_begun : (m : Module) (script : Script) (initial : StepResult) (budget : ℕ)
    (printed new_printed : PrintedLines) (did : HostStep) (stand : Stand) (playing : PlayState)
    → printed ≡ record { text = []; entries = 0 } → Prints printed new_printed (entries_of did) → stand ≡ stand_after did
    → Leads m script initial (entries_of did) (stand_after did) playing → PrintsSoFar m script initial budget new_printed stand playing budget
prints_begun m script initial budget printed new_printed did stand playing none prints stands leads =
    subst (λ stand. PrintsSoFar m script initial budget new_printed stand playing budget) (sym stands)
    (record {
      history = [] ++ entries_of did;
      reached = begins m script None initial budget (entries_of did) (stand_after did) playing leads;
      prints = prints_more printed new_printed [] (entries_of did) (record {
        text_is = ap (λ (j : PrintedLines). j.text) none;
        entries_are = ap (λ (j : PrintedLines). j.entries) none;
      }) prints;
    })

-- the run is over by an outcome, and its whole history is printed
over : (m : Module) (script : Script) (initial : StepResult) (budget : ℕ) (e : RunEnd) (printed : PrintedLines) (playing : PlayState) (left : ℕ)
    → PrintsSoFar m script initial budget printed (at.Over e.outcome) playing left → e.turns ≡ budget - left
    → (result : PrintedRun) → result.text ≡ printed.text ++ line (outcome_text e.outcome)
    → (result.entries ≡ printed.entries) × (result.turns ≡ e.turns) × (result.outcome ≡ e.outcome)
    → PrintsRun (program_of m script) initial budget result
over m script initial budget e printed playing left t turns result text rest =
    let spent : t.reached.used + left ≡ budget = t.reached.spent in
    let same_turns : result.turns ≡ e.turns = rest.1 in
    record {
      run = whole m script None initial budget e.outcome t.history playing left t.reached;
      within = over_within m script None initial budget e.outcome t.history playing left t.reached;
      outcome = ap (λ o. Finished o) (sym rest.2);
      text = text ∙ ap (λ ls. ls ++ line (outcome_text e.outcome)) t.prints.text_is ∙ ap (λ o. lines t.history ++ line (outcome_text o)) (sym rest.2);
      entries = rest.0 ∙ t.prints.entries_are;
      turns = omega arith;
    }

-- the answer: the printed run, or that memory is exhausted
pub printed_or_refused : (m : Module) (script : Script) (initial : StepResult) (budget : ℕ) (e : RunEnd)
    (printed : PrintedLines) (playing : PlayState) (left : ℕ)
    → PrintsSoFar m script initial budget printed (at.Over e.outcome) playing left → e.turns ≡ budget - left
    → (result : Result PrintedRun PlayFault) → IfOk result (λ r. r.text ≡ printed.text ++ line (outcome_text e.outcome))
    → IfOk result (λ r. (r.entries ≡ printed.entries) × (r.turns ≡ e.turns) × (r.outcome ≡ e.outcome)) → IfErr result (λ fault. fault ≡ Memory)
    → IsPrinted (program_of m script) initial budget result
printed_or_refused m script initial budget e printed playing left t turns (Ok r) text rest err =
    over m script initial budget e printed playing left t turns r text rest
printed_or_refused m script initial budget e printed playing left t turns (Err fault) text rest err =
    subst (Refuses (program_of m script) initial budget) (sym err) tt
