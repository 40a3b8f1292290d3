use Rattle.std.proofs.Common.{sym, ◌∙◌}
use Rattle.std.specs.Str.{bytes_eq}
use Rattle.script_text.proofs.Listed.{found, passed}
use Rattle.decl_text.proofs.objects.is_listed.Goals as goal

pub returns-then-eq : goal.returns-then-eq
returns-then-eq c =
    sym (c.names.invariant ∙ found (bytes_eq c.args.key.now) c.args.listed.now c.names.name-index _ c.names-test.true (sym c.eq.ensures ∙ c.if-eq.true))

pub names-preserved : goal.names-preserved
names-preserved c =
    c.names.invariant ∙ passed (bytes_eq c.args.key.now) c.args.listed.now c.names.name-index _ c.names-test.true (sym c.eq.ensures ∙ c.if-eq.false)
