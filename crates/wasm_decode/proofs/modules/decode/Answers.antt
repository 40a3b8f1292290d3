use Rattle.std.proofs.Common.{◌<◌, arith}
use Rattle.std.proofs.lemmas.List.Elements.{All-from_get_or}
use Rattle.wasm_syntax.specs.declared.forms.Form.TheVariants.{Core}
use Rattle.wasm_decode.proofs.DecodeLemmas.{only, fault, held, of_form, lists_within}
use Rattle.wasm_decode.proofs.modules.decode.Goals as goal

pub returns-clause-only : goal.returns-clause-only
returns-clause-only c =
    λ m encoded. only c.args.form c.args.bytes.now c.read_form.result m
    (c.module_encoding.ensures.read c.args.form c.args.bytes.now m encoded) c.read_form.ensures

pub returns-clause-fault : goal.returns-clause-fault
returns-clause-fault c =
    fault c.args.form c.args.bytes.now c.read_form.result (c.module_encoding.ensures.read c.args.form c.args.bytes.now)
    (c.fault_places.ensures.found c.args.form c.args.bytes.now) c.read_form.ensures

pub returns-clause-bytes : goal.returns-clause-bytes
returns-clause-bytes c =
    held c.args.form c.args.bytes.now c.read_form.result (c.module_encoding.ensures.encoded c.args.form c.args.bytes.now)
    (All-from_get_or (λ b. b < 256) c.args.bytes.now 0 (λ i within. omega (arith, c.type_inv.bytes i))) c.read_form.ensures

pub returns-clause-core : goal.returns-clause-core
returns-clause-core c =
    of_form c.args.form c.args.bytes.now c.read_form.result (c.module_encoding.ensures.encoded c.args.form c.args.bytes.now)
    (λ m encoded. c.encoding_forms.ensures.core m
    (c.shortest_encoding.ensures.encodable Core c.args.bytes.now m encoded)) c.read_form.ensures

pub returns-clause-within : goal.returns-clause-within
returns-clause-within c =
    lists_within c.args.form c.args.bytes.now c.read_form.result
    (c.module_encoding.ensures.encoded c.args.form c.args.bytes.now) c.lists_of_encoding.ensures.within c.read_form.ensures
