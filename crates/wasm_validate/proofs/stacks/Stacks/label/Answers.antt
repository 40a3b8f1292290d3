use Rattle.std.proofs.Common.{◌≡◌, ◌+◌, ◌<◌, ap, ◌∙◌, Some, None, length, map, get_or, arith, rules}
use Rattle.std.specs.Prelude.{slice_get, option_map}
use Rattle.std.proofs.lemmas.Grind.{common_steps}
use Rattle.wasm_syntax.specs.Typing.{results_of}
use Rattle.wasm_validate.specs.Flat.{label_of}
use Rattle.wasm_validate.proofs.StackLemmas.{label-there, label-missing}
use Rattle.wasm_validate.proofs.stacks.Stacks.label.Goals as goal

pub returns : goal.returns
returns c =
    let count : c.len.result ≡ length c.self.inside.frames.items = search rules in
    let at : c.in_ok-place.place + (1 + c.args.index) ≡ c.len.result = grind (arith, common_steps, c.checked_sub.ensures) in
    let frame : c.index.result.now ≡ get_or c.self.inside.frames.items c.in_ok-place.place c.index.result.now = search rules in
    ap Some c.label.ensures
    ∙ label-there c.self.inside.frames.items c.self.inside.operands.outer c.len.result c.args.index c.in_ok-place.place c.index.result.now count at frame
    ∙ ap (λ s. slice_get (map label_of s.levels) c.args.index) c.self.view_is

pub returns-in_err-place : goal.returns-in_err-place
returns-in_err-place c =
    let none : option_map results_of c.from_residual.result ≡ None = search rules in
    let beyond : length c.self.inside.frames.items < 1 + c.args.index = grind (arith, common_steps, c.checked_sub.ensures) in
    none
    ∙ label-missing c.self.inside.frames.items c.self.inside.operands.outer c.args.index beyond
    ∙ ap (λ s. slice_get (map label_of s.levels) c.args.index) c.self.view_is
