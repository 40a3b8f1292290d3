use Rattle.std.proofs.Common.{◌≡◌, sym, ap, ap₂, ◌∙◌, subst}
use Rattle.wasm_syntax.specs.declared.modules.Module.{Module}
use Rattle.instance_spec.specs.declared.sides.Side.TheVariants.{Left, Right}
use Rattle.pair_spec.specs.Pairs.{ModulePair}
use Rattle.pair_spec.specs.Linked.{linked}
use Rattle.linked_pair.specs.SideNumbers.{AreNumbersOf}
use Rattle.linked_pair.proofs.link.module_by_numbers.Goals as goal

pub linked_module-requires-clause-left : goal.linked_module-requires-clause-left
linked_module-requires-clause-left c =
    let both : Module → Module → ModulePair = λ l r. record { left = l; right = r } in
    let same : both c.«module-left».result.now c.«module-right».result.now ≡ c.args.modules.now =
    ap₂ both c.«module-left».ensures c.«module-right».ensures in
    subst (λ pair. AreNumbersOf pair Left c.args.numbers.now.left) (sym same) c.requires.left

pub linked_module-requires-clause-right : goal.linked_module-requires-clause-right
linked_module-requires-clause-right c =
    let both : Module → Module → ModulePair = λ l r. record { left = l; right = r } in
    let same : both c.«module-left».result.now c.«module-right».result.now ≡ c.args.modules.now =
    ap₂ both c.«module-left».ensures c.«module-right».ensures in
    subst (λ pair. AreNumbersOf pair Right c.args.numbers.now.right) (sym same) c.requires.right

pub returns : goal.returns
returns c =
    let both : Module → Module → ModulePair = λ l r. record { left = l; right = r } in
    let same : both c.«module-left».result.now c.«module-right».result.now ≡ c.args.modules.now =
    ap₂ both c.«module-left».ensures c.«module-right».ensures in
    c.in_ok-made.ensures ∙ ap linked same
