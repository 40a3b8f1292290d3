-- The offsets and indices of modules that the form Core encodes are words.
use Rattle.std.proofs.Common.{List, [], ◌∷◌}
use Rattle.std.specs.List.{AllByRecursion}
use Rattle.wasm_syntax.specs.declared.forms.Form.TheVariants.{Core}
use Rattle.wasm_syntax.specs.declared.instructions.Instr.{Instr}
use Rattle.wasm_syntax.specs.declared.instructions.Instr.TheVariants.{Load, Store}
use Rattle.wasm_syntax.specs.declared.modules.Func.{Func}
use Rattle.wasm_syntax.specs.Encoding.Encodable.{FitsInstr, FitsFunc}
use Rattle.wasm_syntax.specs.Encoding.Laws.{EncodableInCore}
use Rattle.instrumented_module_laws.specs.Laws.{HasWordOffset, EncodableHaveWords}

instr_word : (i : Instr) → FitsInstr Core i → HasWordOffset i
instr_word (Load at) h = h.1.1
instr_word (Store at) h = h.1.1
instr_word i h = tt

body_words : (body : List Instr) → AllByRecursion (FitsInstr Core) body → AllByRecursion HasWordOffset body
body_words [] h = tt
body_words (i ∷ is) h = (instr_word i h.0, body_words is h.1)

func_words : (funcs : List Func) → AllByRecursion (FitsFunc Core) funcs
    → AllByRecursion (λ f. AllByRecursion HasWordOffset f.body) funcs
func_words [] h = tt
func_words (f ∷ funcs) h = (body_words f.body h.0.2.instructions, func_words funcs h.1)

pub encodable_have_words : EncodableInCore → EncodableHaveWords
encodable_have_words core m h funcs globals =
    (core m h, record { offsets = func_words m.funcs h.funcs; funcs = funcs; globals = globals })
