use Rattle.std.proofs.Common.{◌≡◌, ◌<◌, ◌≤◌, length, Some, None, sym, ◌∙◌, arith}
use Rattle.std.proofs.lemmas.Bool.Decides.{nat_tests}
use Rattle.std.proofs.lemmas.List.{nil_from_length}
use Rattle.wasm_decode.proofs.ModuleLemmas.{AreRead, not_begun, place, left_over, all_read}
use Rattle.wasm_decode.proofs.modules.read_form.Goals as goal

pub returns-in_default : goal.returns-in_default
returns-in_default c = not_begun c.args.form c.args.bytes.now c.in_default.ensures.cases

pub returns-then-not-is_empty : goal.returns-then-not-is_empty
returns-then-not-is_empty c =
    let begun = c.in-Some.ensures.cases in
    let few : length c.in-Some.after.now ≤ length c.args.bytes.now = omega arith in
    let read : AreRead c.args.form c.args.bytes.now c.in-Some.after.now c.in-Ok.draft c.in-Ok.rest.now =
    c.in-Ok.ensures.read (length c.args.bytes.now) few in
    let some : 0 < length c.in-Ok.rest.now = grind (arith, nat_tests) in (
      left_over c.args.form c.args.bytes.now c.in-Some.after.now c.in-Ok.draft c.in-Ok.rest.now begun.0
          begun.1 read some,
      place c.args.form c.args.bytes.now c.in-Some.after.now c.in-Ok.draft c.in-Ok.rest.now begun.0
          begun.1 read,
    )

pub returns-in-Some-module : goal.returns-in-Some-module
returns-in-Some-module c =
    let begun = c.in-Some.ensures.cases in
    let few : length c.in-Some.after.now ≤ length c.args.bytes.now = omega arith in
    let read : AreRead c.args.form c.args.bytes.now c.in-Some.after.now c.in-Ok.draft c.in-Ok.rest.now =
    c.in-Ok.ensures.read (length c.args.bytes.now) few in
    let none : length c.in-Ok.rest.now ≡ 0 = grind (arith, nat_tests) in
    all_read c.args.form c.args.bytes.now c.in-Some.after.now c.in-Ok.draft c.in-Ok.rest.now
    (Some c.in-Some-module.module) begun.0 begun.1 read (nil_from_length c.in-Ok.rest.now none)
    (sym c.in-Some-module.is ∙ c.in-Ok-finish.ensures)

pub returns-in-None : goal.returns-in-None
returns-in-None c =
    let begun = c.in-Some.ensures.cases in
    let few : length c.in-Some.after.now ≤ length c.args.bytes.now = omega arith in
    let read : AreRead c.args.form c.args.bytes.now c.in-Some.after.now c.in-Ok.draft c.in-Ok.rest.now =
    c.in-Ok.ensures.read (length c.args.bytes.now) few in
    let none : length c.in-Ok.rest.now ≡ 0 = grind (arith, nat_tests) in (
      all_read c.args.form c.args.bytes.now c.in-Some.after.now c.in-Ok.draft c.in-Ok.rest.now None
          begun.0 begun.1 read (nil_from_length c.in-Ok.rest.now none)
          (sym c.in-None.is ∙ c.in-Ok-finish.ensures),
      place c.args.form c.args.bytes.now c.in-Some.after.now c.in-Ok.draft c.in-Ok.rest.now begun.0
          begun.1 read,
    )
