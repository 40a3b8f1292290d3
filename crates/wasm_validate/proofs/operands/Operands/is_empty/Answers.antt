use Rattle.std.proofs.Common.{ap, ◌∙◌, rules}
use Rattle.wasm_syntax.specs.KnownStacks.{none_left}
use Rattle.wasm_validate.proofs.StackLemmas.{none_left-above}
use Rattle.wasm_validate.proofs.operands.Operands.is_empty.Goals as goal

pub returns : goal.returns
returns c =
    none_left-above c.len.result c.self.inside.height c.self.inside.slots.items (search rules)
    ∙ ap (λ s. none_left s.here.slots) c.self.view_is
