use Rattle.std.proofs.Common.{length, ap, sym, ◌∙◌}
use Rattle.std.proofs.lemmas.Bool.{eq-eqb, eqb-true}
use Rattle.replay_form.specs.Forms.{is_guarded}
use Rattle.guard_maker.proofs.OnlyExports.{entry_alone, one_export}
use Rattle.guard_maker.proofs.forms.exports_entry_alone.Goals as goal

pub returns : goal.returns
returns c = (
  λ one. entry_alone (is_guarded c.args.module.now) c.args.module.now.exports c.args.entry c.requires.exported
      (ap length (sym c.as_slice.ensures) ∙ eqb-true (length c.as_slice.result.now) 1 one),
  λ is. eq-eqb (length c.as_slice.result.now) 1
      (ap length c.as_slice.ensures ∙ one_export c.args.module.now.exports c.args.entry is),
)
