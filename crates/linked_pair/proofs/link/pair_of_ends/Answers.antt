use Rattle.std.proofs.Common.{sym, ap, ◌∙◌, subst}
use Rattle.wasm_syntax.specs.Validity.{IsValid}
use Rattle.linked_pair.specs.declared.link.Maps.{Maps}
use Rattle.linked_pair.proofs.PairParts.{all_types}
use Rattle.linked_pair.proofs.link.pair_of_ends.Goals as goal

pub new-requires : goal.new-requires
new-requires c =
    subst IsValid (sym c.in_ok-made.ensures)
    (c.linked_are_valid.ensures c.args.modules.now c.requires.linkable (all_types c.args.modules.now c.requires.few))

pub returns : goal.returns
returns c = (
  record {
    «module» = c.new.ensures ∙ c.in_ok-made.ensures;
    left_funcs = ap (λ (m : Maps). m.funcs) c.of-left.ensures ∙ c.in_ok-numbers.ensures.left.funcs;
    left_globals = ap (λ (m : Maps). m.globals) c.of-left.ensures ∙ c.in_ok-numbers.ensures.left.globals;
    right_funcs = ap (λ (m : Maps). m.funcs) c.of-right.ensures ∙ c.in_ok-numbers.ensures.right.funcs;
    right_globals = ap (λ (m : Maps). m.globals) c.of-right.ensures ∙ c.in_ok-numbers.ensures.right.globals;
  },
  c.requires.linkable.no_fault,
)
