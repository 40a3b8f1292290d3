-- The lines of entries, and then of others after them.
use Rattle.std.proofs.Common.{◌≡◌, List, [], ◌∷◌, ◌++◌, length, refl, sym, ◌∙◌, ap, append_assoc, length-append, arith}
use Rattle.std.proofs.lemmas.Grind.{flat_map-append}
use Rattle.wasm_syntax.specs.declared.values.Val.{Val}
use Rattle.history_spec.specs.declared.entries.Entry.{Entry}
use Rattle.history_spec.specs.Line.{line, entry_text}
use Rattle.history_spec.specs.Projection.{Layout, shown_entries}
use Rattle.replay_run_spec.specs.Inside.{args_after, args_after_all, inside_after_all}
use Rattle.replay_run_spec.specs.Laws.{ProjectionsRunAlong}
use Rattle.replay_run_spec.proofs.Histories.{inside_over}
use Rattle.shown_lines.specs.ShownLines.{ShownLines, Shows, lines}

pub args_over : (args : List Val) (first second : List Entry)
    → args_after_all args (first ++ second) ≡ args_after_all (args_after_all args first) second
args_over args [] second = refl
args_over args (entry ∷ first) second = args_over (args_after args entry) first second

module _ (along : ProjectionsRunAlong) (old mid new : ShownLines) (args : List Val) (first second : List Entry) (before : Shows old mid args first)
    (after : Shows mid new (args_after_all args first) second) where
  abbrev earlier : List Entry
  earlier = shown_entries old.layout old.inside args first

  abbrev later : List Entry
  later = shown_entries old.layout (inside_after_all old.inside first) (args_after_all args first) second

  later_is : shown_entries mid.layout mid.inside (args_after_all args first) second ≡ later
  later_is =
      ap (λ (layout : Layout). shown_entries layout mid.inside (args_after_all args first) second) before.same_layout
      ∙ ap (λ inside. shown_entries old.layout inside (args_after_all args first) second) before.inside_is

  whole : shown_entries old.layout old.inside args (first ++ second) ≡ earlier ++ later
  whole = along old.layout old.inside args first second

  -- both
  pub shows_more : Shows old new args (first ++ second)
  shows_more = record {
    same_layout = after.same_layout ∙ before.same_layout;
    lines_are =
        after.lines_are ∙ ap (λ entries. mid.text ++ lines entries) later_is ∙ ap (λ text. text ++ lines later) before.lines_are
        ∙ append_assoc old.text (lines earlier) (lines later)
        ∙ ap (λ text. old.text ++ text) (sym (flat_map-append (λ entry. line (entry_text entry)) earlier later))
        ∙ ap (λ entries. old.text ++ lines entries) (sym whole);
    count_is = omega (arith, after.count_is, ap length later_is, before.count_is, length-append earlier later, ap length whole);
    inside_is = after.inside_is ∙ ap (λ inside. inside_after_all inside second) before.inside_is ∙ sym (inside_over old.inside first second);
  }
