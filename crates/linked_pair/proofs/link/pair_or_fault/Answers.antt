use Rattle.std.proofs.Common.{◌≡◌, sym, ap₂, ◌∙◌, subst}
use Rattle.wasm_syntax.specs.declared.modules.Module.{Module}
use Rattle.wasm_syntax.specs.Validity.{IsValid}
use Rattle.pair_spec.specs.Pairs.{ModulePair}
use Rattle.linked_pair.specs.LinkedPairs.{HaveFewIndices, IsPairOrFault}
use Rattle.linked_pair.proofs.link.pair_or_fault.Goals as goal

pub fault_or_linked-requires-clause-left : goal.fault_or_linked-requires-clause-left
fault_or_linked-requires-clause-left c =
    subst (λ (p : ModulePair). IsValid p.left) (sym c.in_ok-modules.ensures) c.«module-first».ensures.valid

pub fault_or_linked-requires-clause-right : goal.fault_or_linked-requires-clause-right
fault_or_linked-requires-clause-right c =
    subst (λ (p : ModulePair). IsValid p.right) (sym c.in_ok-modules.ensures) c.«module-second».ensures.valid

pub fault_or_linked-requires-clause-few : goal.fault_or_linked-requires-clause-few
fault_or_linked-requires-clause-few c =
    let both : Module → Module → ModulePair = λ l r. record { left = l; right = r } in
    let same : c.in_ok-modules.modules ≡ both c.args.left.now c.args.right.now =
    c.in_ok-modules.ensures ∙ ap₂ both c.«module-first».ensures.same c.«module-second».ensures.same in
    subst HaveFewIndices (sym same) c.requires.few

pub returns : goal.returns
returns c =
    let both : Module → Module → ModulePair = λ l r. record { left = l; right = r } in
    let same : c.in_ok-modules.modules ≡ both c.args.left.now c.args.right.now =
    c.in_ok-modules.ensures ∙ ap₂ both c.«module-first».ensures.same c.«module-second».ensures.same in
    subst (λ p. IsPairOrFault p c.in_ok-answer.answer) same c.in_ok-answer.ensures
