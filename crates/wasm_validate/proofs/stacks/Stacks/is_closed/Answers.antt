use Rattle.std.proofs.Common.{◌≡◌, ap, sym, ◌∙◌, length, eqb, rules}
use Rattle.wasm_validate.specs.Flat.{is_closed}
use Rattle.wasm_validate.proofs.StackLemmas.{closed-reversed}
use Rattle.wasm_validate.proofs.stacks.Stacks.is_closed.Goals as goal

pub returns : goal.returns
returns c =
    let empty : c.is_empty.result ≡ eqb (length c.self.inside.frames.items) 0 = search rules in
    empty
    ∙ sym (closed-reversed c.self.inside.frames.items c.self.inside.operands.outer)
    ∙ ap (λ s. is_closed s.levels) c.self.view_is
