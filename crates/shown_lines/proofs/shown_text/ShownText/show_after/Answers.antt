use Rattle.std.proofs.Common.{◌≡◌, ◌+◌, ◌++◌, [], ◌∷◌, take, sym, ◌∙◌, ap, subst}
use Rattle.std.proofs.lemmas.List.{take_more}
use Rattle.replay_run_spec.specs.Inside.{args_after, args_after_all}
use Rattle.shown_lines.specs.ShownLines.{Shows}
use Rattle.shown_lines.proofs.Along.{args_over, shows_more}
use Rattle.shown_lines.proofs.shown_text.ShownText.show_after.Goals as goal

pub entries-preserved : goal.entries-preserved
entries-preserved c =
    let entries = c.args.entries.now in
    let start = c.args.first.now in
    let first = take c.entries.entry-index entries in
    let entry = c.entry-item.result in
    let more : take (c.entries.entry-index + 1) entries ≡ first ++ entry ∷ [] =
    take_more entries c.entries.entry-index entry c.entries-test.true ∙ ap (λ entry. first ++ entry ∷ []) (sym c.entry-item.is)
    in
    let after : Shows c.entries.self c.show.new.self (args_after_all start first) (entry ∷ []) =
    subst (λ args. Shows c.entries.self c.show.new.self args (entry ∷ [])) c.entries.invariant.1 c.in_ok-show.ensures
    in
    let both = shows_more c.projections_run_along.ensures c.args.self.now c.entries.self c.show.new.self start first
    (entry ∷ []) c.entries.invariant.0 after in (
      subst (Shows c.args.self.now c.show.new.self start) (sym more) both,
      c.args_after-args.ensures ∙ ap (λ args. args_after args entry) c.entries.invariant.1
          ∙ sym (args_over start first (entry ∷ [])) ∙ ap (args_after_all start) (sym more),
    )
