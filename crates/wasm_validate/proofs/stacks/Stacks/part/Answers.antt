use Rattle.std.proofs.Common.{◌≡◌, ◌+◌, length, reverse, Some, Option, List, refl, sym, ap, subst, ◌∙◌, arith}
use Rattle.std.specs.Prelude.{slice_set}
use Rattle.std.proofs.lemmas.Grind.{common_steps}
use Rattle.wasm_syntax.specs.declared.values.ValType.{ValType}
use Rattle.wasm_syntax.specs.KnownStacks.{nothing}
use Rattle.wasm_validate.specs.declared.stacks.Frame.{Frame}
use Rattle.wasm_validate.specs.declared.stacks.Kind.TheVariants.{Block}
use Rattle.wasm_validate.specs.Flat.{state, after_else}
use Rattle.wasm_validate.specs.Stacks.{operand_state, levels_of, AreHeights}
use Rattle.wasm_validate.proofs.StackLemmas.{heights-set, parted-frames}
use Rattle.wasm_validate.proofs.stacks.Stacks.part.Goals as goal

pub invariant_of-self-2 : goal.invariant_of-self-2
invariant_of-self-2 c =
    let frames = c.self.inside.frames.items in
    let last = c.in-Some.last in
    let frame : Frame = c.index-frame.result.now in
    let count : length frames ≡ last + 1 = grind (arith, common_steps, c.checked_sub.ensures) in
    let outer : c.restart.new.self.outer ≡ c.self.inside.operands.outer = ap (λ h. h.outer) c.restart.ensures ∙ c.ends.ensures.outer in
    subst (λ (outer : List (Option ValType)). AreHeights (reverse (slice_set frames last (record frame { kind = Block }))) outer) (sym outer)
    (heights-set frames last frame (record frame { kind = Block }) c.self.inside.operands.outer count c.index-frame.ensures refl c.self.invariant)

pub returns : goal.returns
returns c =
    let frames = c.self.inside.frames.items in
    let last = c.in-Some.last in
    let frame : Frame = c.index-frame.result.now in
    let operands = c.self.inside.operands in
    let count : length frames ≡ last + 1 = grind (arith, common_steps, c.checked_sub.ensures) in
    ap (λ h. Some (state (levels_of (reverse (slice_set frames last (record frame { kind = Block }))) h.outer) h.here))
    (c.restart.ensures ∙ ap (λ outer. operand_state outer nothing) c.ends.ensures.outer)
    ∙ parted-frames frames last frame operands.outer operands.here count c.index-frame.ensures
    (sym c.is_if.ensures ∙ c.if-not-is_if.false) (sym c.ends.ensures.ends ∙ c.if-not-ends.false)
    ∙ ap (λ s. after_else s.levels s.here) c.self.view_is
