-- What the changes of the operand stack that code makes mean.
use Rattle.std.specs.Prelude.{List, [], ◌∷◌, ◌++◌, reverse, Option, Some, None, option_and_then}
use Rattle.wasm_syntax.specs.declared.values.ValType.{ValType}
use Rattle.wasm_syntax.specs.declared.values.ValType.TheVariants.{I32}
use Rattle.wasm_syntax.specs.Typing.{results_of}
use Rattle.wasm_syntax.specs.KnownStacks.{Known, anything, push_types, pop, pops, drop_any, select_slot}
use Rattle.wasm_validate.specs.declared.changes.Change.{Change}
use Rattle.wasm_validate.specs.declared.changes.Change.TheVariants.{Moves, Takes, Calls, Drops, Selects, Leaves}

-- what is known after operands are popped and results are pushed
abbrev pub after_replace : List ValType → List ValType → Known → Option Known
after_replace operands results here = option_and_then (λ below. Some (push_types results below)) (pops operands here)

-- what is known after operands are popped and control leads elsewhere
abbrev pub after_leave : List ValType → Known → Option Known
after_leave operands here = option_and_then (λ below. Some anything) (pops operands here)

-- what is known after one of two numbers is selected
abbrev pub after_select : Known → Option Known
after_select here = option_and_then (λ below. select_slot below.slots below.free) (pop I32 here)

abbrev pub after_change : Option Change → Known → Option Known
after_change None here = None
after_change (Some (Moves first second result)) here =
    after_replace (results_of first ++ results_of second) (results_of result) here
after_change (Some (Takes first second third)) here = pops (first ∷ second ∷ third ∷ []) here
after_change (Some (Calls index ty)) here =
    after_replace (results_of index ++ reverse ty.now.params) (reverse ty.now.results) here
after_change (Some Drops) here = drop_any here.slots here.free
after_change (Some Selects) here = after_select here
after_change (Some (Leaves index label)) here = after_leave (results_of index ++ results_of label) here
