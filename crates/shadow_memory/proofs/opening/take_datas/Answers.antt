use Rattle.std.proofs.Common.{◌≡◌, ap, ◌∙◌, subst}
use Rattle.std.proofs.lemmas.List.{take_all}
use Rattle.history_spec.specs.Instantiation.{offset_of}
use Rattle.shadow_memory.specs.Shadow.{AreSame, AreWritten}
use Rattle.shadow_memory.specs.Opening.{with_all}
use Rattle.shadow_memory.proofs.Datas.{data_taken}
use Rattle.shadow_memory.proofs.opening.take_datas.Goals as goal

pub datas-preserved : goal.datas-preserved
datas-preserved c =
    let imported = c.args.imported.now in
    let segment = c.segment-item.result in
    let before = c.datas.kept.bytes in
    let after = c.take_run.new.kept.bytes in
    let offset : c.offset_of-offset.result ≡ offset_of imported segment.offset =
    c.offset_of-offset.ensures ∙ ap (offset_of imported) c.as_slice.ensures in
    record {
      taken = λ bytes same within. data_taken imported c.args.datas.now c.datas.segment-index segment bytes before after
          c.datas-test.true c.segment-item.is
          (subst (λ address. AreWritten before address segment.bytes after) offset
          (subst (λ written. AreWritten before c.offset_of-offset.result written after) c.as_slice-in-datas.ensures
          c.in_ok-take_run.ensures.ok))
          within (c.datas.invariant.taken bytes same within);
      frozen = c.take_run.ensures.frozen ∙ c.datas.invariant.frozen;
    }

pub returns-clause-taken : goal.returns-clause-taken
returns-clause-taken c bytes same within =
    subst (λ datas. AreSame (with_all c.args.imported.now bytes datas) c.datas.kept.bytes)
    (take_all c.datas.segment-index c.args.datas.now c.datas-test.false) (c.datas.invariant.taken bytes same within)
