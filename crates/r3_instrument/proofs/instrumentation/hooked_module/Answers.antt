use Rattle.std.proofs.Common.{sym, subst, arith}
use Rattle.wasm_syntax.specs.declared.forms.Form.TheVariants.{Core, Replay}
use Rattle.wasm_syntax.specs.Encoding.Encodable.{IsEncodable}
use Rattle.r3_instrument.proofs.instrumentation.hooked_module.Goals as goal

pub instrument-requires-clause-core : goal.instrument-requires-clause-core
instrument-requires-clause-core c =
    (c.files_are_of_words.ensures c.args.bytes.now c.args.checked c.requires.is_module.encoded
    (omega (arith, c.requires.few))).0

pub instrument-requires-clause-words : goal.instrument-requires-clause-words
instrument-requires-clause-words c =
    (c.files_are_of_words.ensures c.args.bytes.now c.args.checked c.requires.is_module.encoded
    (omega (arith, c.requires.few))).1

pub returns-clause-encodable : goal.returns-clause-encodable
returns-clause-encodable c =
    subst (IsEncodable Replay) (sym c.in_ok-hooked.ensures.«module»)
    (c.instrumented_are_encodable.ensures.core_form c.args.checked _
    (c.shortest_encoding.ensures.encodable Core c.args.bytes.now c.args.checked c.requires.is_module.encoded)
    c.requires.is_module.accepted.valid c.requires.short)
