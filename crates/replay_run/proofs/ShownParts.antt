-- What is shown of one part of a history, and of a part after it.
use Rattle.std.proofs.Common.{◌≡◌, ◌≢◌, ℕ, ◌+◌, List, [], ◌∷◌, ◌++◌, length, refl, sym, ap, ◌∙◌, subst, arith}
use Rattle.std.specs.Prelude.{All}
use Rattle.std.proofs.lemmas.List.{append_assoc, append-nil, length-append}
use Rattle.std.proofs.lemmas.List.Elements.{All-head, All-tail}
use Rattle.std.proofs.lemmas.Grind.{flat_map-append}
use Rattle.wasm_syntax.specs.declared.values.Val.{Val}
use Rattle.history_spec.specs.declared.entries.Entry.{Entry}
use Rattle.history_spec.specs.declared.entries.Entry.TheVariants.{Exit, HostCall, HostReturn, Step, Trap}
use Rattle.history_spec.specs.Projection.{Appended, Import, Layout, Original, Side, call_args, caller_side, shown_entries, shown_return, shown_step, shown_trap, side, trap_outcome, without_innermost}
use Rattle.history_spec.specs.Line.{line, entry_text}
use Rattle.replay_run_spec.specs.Inside.{args_after_all, inside_after_all}
use Rattle.replay_run_spec.specs.Laws.{ProjectionsRunAlong}
use Rattle.replay_run_spec.proofs.Histories.{inside_over}
use Rattle.shown_lines.specs.ShownLines.{AreNoTraps, HasShown, IsNoTrap, IsReturn, SetArguments, ShownLines, Shows, lines}
use Rattle.wasm_interp.specs.OwnSteps.{IsStepOf}

-- ---- the latest call's arguments do not matter

pub returns_show : (layout : Layout) (inside : List ℕ) (args other : List Val) (entries : List Entry)
    → All IsReturn entries → shown_entries layout inside args entries ≡ shown_entries layout inside other entries
returns_show layout inside args other [] are = refl
returns_show layout inside args other (HostReturn func results ∷ rest) are =
    ap (λ later. shown_return (caller_side layout (without_innermost inside)) (side layout func) func results ++ later)
    (returns_show layout (without_innermost inside) args other rest (All-tail IsReturn (HostReturn func results) rest are))
returns_show layout inside args other (Exit func results ∷ rest) are =
    ap (λ later. shown_return (caller_side layout (without_innermost inside)) (side layout func) func results ++ later)
    (returns_show layout (without_innermost inside) args other rest (All-tail IsReturn (Exit func results) rest are))
returns_show layout inside args other (entry ∷ rest) are = absurd (All-head IsReturn entry rest are)

pub sets_shown : (layout : Layout) (inside : List ℕ) (args : List Val) (entries : List Entry) → SetArguments entries
    → shown_entries layout inside args entries ≡ shown_entries layout inside [] entries
sets_shown layout inside args [] sets = refl
sets_shown layout inside args (Step func number operands results found ∷ later) sets = refl
sets_shown layout inside args (HostCall func given ∷ later) sets = refl
sets_shown layout inside args (Trap func number kind operands found ∷ later) sets =
    let trap : Entry = shown_trap (side layout func) (Trap func number kind operands found) in
    ap (λ rest. trap ∷ shown_entries layout inside args rest) sets ∙ sym (ap (λ rest. trap ∷ shown_entries layout inside [] rest) sets)
sets_shown layout inside args (entry ∷ later) sets = returns_show layout inside args [] (entry ∷ later) sets

-- ---- parts after one another

module _ (law : ProjectionsRunAlong) (old mid new : ShownLines) (first second : List Entry) where
  -- the lines of two parts, written one after the other
  pub shows_joined : Shows old mid [] first → Shows mid new [] second → ((inside : List ℕ)
      → shown_entries old.layout inside (args_after_all [] first) second ≡ shown_entries old.layout inside [] second)
      → Shows old new [] (first ++ second)
  shows_joined a b same =
      let l : Layout = old.layout in
      let x : List Entry = shown_entries l old.inside [] first in
      let y : List Entry = shown_entries l mid.inside [] second in
      let layouts : mid.layout ≡ l = a.same_layout in
      let whole : shown_entries l old.inside [] (first ++ second) ≡ x ++ y =
      law l old.inside [] first second ∙ ap (λ later. x ++ later)
      (same (inside_after_all old.inside first) ∙ ap (λ inside. shown_entries l inside [] second) (sym a.inside_is)) in
      let own : shown_entries mid.layout mid.inside [] second ≡ y = ap (λ k. shown_entries k mid.inside [] second) layouts in
      let b_count : new.entries ≡ mid.entries + length y = b.count_is ∙ ap (λ (es : List Entry). mid.entries + length es) own in
      let a_count : mid.entries ≡ old.entries + length x = a.count_is in
      let all : length (shown_entries l old.inside [] (first ++ second)) ≡ length x + length y = ap length whole ∙ length-append x y in
      record {
        same_layout = b.same_layout ∙ layouts;
        lines_are =
            b.lines_are ∙ ap (λ (es : List Entry). mid.text ++ lines es) own ∙ ap (λ t. t ++ lines y) a.lines_are ∙ append_assoc old.text (lines x) (lines y)
            ∙ ap (λ t. old.text ++ t) (sym (flat_map-append (λ entry. line (entry_text entry)) x y) ∙ ap lines (sym whole));
        count_is = omega (arith, b_count, a_count, all);
        inside_is = b.inside_is ∙ ap (λ inside. inside_after_all inside second) a.inside_is ∙ sym (inside_over old.inside first second);
      }

-- what a history shows, and then a part after it
pub has_shown : ProjectionsRunAlong → (old new : ShownLines) (history entries : List Entry) → HasShown old history
    → Shows old new [] entries → SetArguments entries → HasShown new (history ++ entries)
has_shown law old new history entries has s sets =
    let l : Layout = old.layout in
    let x : List Entry = shown_entries l [] [] history in
    let y : List Entry = shown_entries l old.inside [] entries in
    let whole : shown_entries l [] [] (history ++ entries) ≡ x ++ y =
    law l [] [] history entries
    ∙ ap (λ later. x ++ later) (sets_shown l (inside_after_all [] history) (args_after_all [] history) entries sets
    ∙ ap (λ inside. shown_entries l inside [] entries) (sym has.inside_is)) in
    let count : new.entries ≡ old.entries + length y = s.count_is in
    let before : old.entries ≡ length x = has.entries_are in
    let all : length (shown_entries l [] [] (history ++ entries)) ≡ length x + length y = ap length whole ∙ length-append x y in
    let sum : new.entries ≡ length (shown_entries l [] [] (history ++ entries)) = omega (arith, count, before, all) in
    record {
      text_is =
          s.lines_are ∙ ap (λ t. t ++ lines y) has.text_is
          ∙ sym (flat_map-append (λ entry. line (entry_text entry)) x y) ∙ ap lines (sym whole)
          ∙ ap (λ k. lines (shown_entries k [] [] (history ++ entries))) (sym s.same_layout);
      entries_are = sum ∙ ap (λ k. length (shown_entries k [] [] (history ++ entries))) (sym s.same_layout);
      inside_is = s.inside_is ∙ ap (λ inside. inside_after_all inside entries) has.inside_is ∙ sym (inside_over [] history entries);
    }

-- ---- steps outside the original show nothing

not_shown : (at : Side) (entry : Entry) → at ≢ Original → shown_step at entry ≡ []
not_shown Import entry outside = refl
not_shown Original entry outside = absurd (outside refl)
not_shown Appended entry outside = refl

steps_show : (layout : Layout) (inside : List ℕ) (args : List Val) (func : ℕ) (entries : List Entry)
    → side layout func ≢ Original → All (IsStepOf func) entries → shown_entries layout inside args entries ≡ []
steps_show layout inside args func [] outside own = refl
steps_show layout inside args func (Step other number operands results found ∷ rest) outside own =
    let same : other ≡ func = All-head (IsStepOf func) (Step other number operands results found) rest own in
    ap (λ es. es ++ shown_entries layout inside (call_args operands found) rest) (not_shown (side layout other)
    (Step other number operands results found) (subst (λ f. side layout f ≢ Original) (sym same) outside))
    ∙ steps_show layout inside (call_args operands found) func rest outside (All-tail (IsStepOf func) (Step other number operands results found) rest own)
steps_show layout inside args func (entry ∷ rest) outside own = absurd (All-head (IsStepOf func) entry rest own)

steps_stay : (inside : List ℕ) (func : ℕ) (entries : List Entry) → All (IsStepOf func) entries → inside_after_all inside entries ≡ inside
steps_stay inside func [] own = refl
steps_stay inside func (Step other number operands results found ∷ rest) own =
    steps_stay inside func rest (All-tail (IsStepOf func) (Step other number operands results found) rest own)
steps_stay inside func (entry ∷ rest) own = absurd (All-head (IsStepOf func) entry rest own)

pub shows_nothing : (old : ShownLines) (func : ℕ) (entries : List Entry) → side old.layout func ≢ Original
    → All (IsStepOf func) entries → Shows old old [] entries
shows_nothing old func entries outside own =
    let none : shown_entries old.layout old.inside [] entries ≡ [] = steps_show old.layout old.inside [] func entries outside own in
    let count : length (shown_entries old.layout old.inside [] entries) ≡ 0 = ap length none in
    record {
      same_layout = refl;
      lines_are = sym (ap (λ (es : List Entry). old.text ++ lines es) none ∙ append-nil old.text);
      count_is = omega (arith, count);
      inside_is = sym (steps_stay old.inside func entries own);
    }

-- ---- traps

pub trap_after : (layout : Layout) (history entries : List Entry) → AreNoTraps history → trap_outcome layout (history ++ entries) ≡ trap_outcome layout entries
trap_after layout [] entries none = refl
trap_after layout (Trap func number kind operands found ∷ history) entries none = absurd (All-head IsNoTrap (Trap func number kind operands found) history none)
trap_after layout (entry ∷ history) entries none = trap_after layout history entries (All-tail IsNoTrap entry history none)
