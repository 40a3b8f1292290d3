use Rattle.wasm_decode.proofs.NameLemmas.{name_read, no_name}
use Rattle.wasm_decode.proofs.values.first_name.Goals as goal

pub returns-in_ok-from_str-in-Ok : goal.returns-in_ok-from_str-in-Ok
returns-in_ok-from_str-in-Ok c =
    let t = c.in-Ok.ensures.cases in
    rw (c.from_string.ensures, c.in_ok-from_str-in-Ok.ensures.ok, t.0)
    (name_read c.args.bytes.now c.in_ok-content.content.now c.in_ok-content.rest.now c.in_ok-content.ensures t.1)

pub returns-in-Err : goal.returns-in-Err
returns-in-Err c =
    no_name c.args.bytes.now c.in_ok-content.content.now c.in_ok-content.rest.now c.in_ok-content.ensures
    c.in-Err.ensures.cases.0
