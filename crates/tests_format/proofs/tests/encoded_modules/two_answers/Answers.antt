use Rattle.std.proofs.Common.{refl}
use Rattle.tests_format.proofs.TwoAnswers.{encodable, export_fits, func_fits, import_fits, type_fits}
use Rattle.tests_format.proofs.tests.encoded_modules.two_answers.Goals as goal

pub returns : goal.returns
returns c =
    encodable _ _ _ _ _
    c.in_ok-one.ensures (type_fits _ _ c.new-params.ensures c.in_ok-results.ensures)
    c.in_ok-one-2.ensures (import_fits _ _ c.in_ok-name.ensures c.in_ok-name-2.ensures)
    c.in_ok-one-3.ensures (func_fits _ _ c.new.ensures c.in_ok-both_answers.ensures)
    c.in_ok-one-4.ensures (export_fits _ c.in_ok-name-3.ensures)
    c.new-2.ensures c.new-3.ensures c.new-4.ensures refl c.new-5.ensures c.new-6.ensures c.new-7.ensures
