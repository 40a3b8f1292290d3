use Rattle.std.proofs.Common.{ℕ, List, ◌∙◌, subst}
use Rattle.load_maker.specs.declared.load_module.TheConstants.{LOAD_MODULE}
use Rattle.wasm_syntax.specs.declared.limits.TheConstants.{LOAD_TURNS}
use Rattle.r3_faults.specs.Answers.{IsReplayAnswer}
use Rattle.r3_make.specs.Refusals.{AreReplayable, IsMakeRefusal}
use Rattle.r3_make.specs.Summaries.{IsSummaryFor}
use Rattle.r3_make.proofs.summaries.load_summary.Goals as goal

-- the answer for the bytes of two files is that for the load, since the bytes are those of the load
pub returns : goal.returns
returns c =
    subst
    (λ (script : List ℕ). IsReplayAnswer (IsSummaryFor LOAD_MODULE script LOAD_TURNS)
    (IsMakeRefusal LOAD_MODULE script LOAD_TURNS) (AreReplayable LOAD_MODULE script LOAD_TURNS) c.summary_of.result)
    (c.deref-2.ensures.value ∙ c.in_ok-module.ensures.script)
    (subst
    (λ (code : List ℕ). IsReplayAnswer (IsSummaryFor code c.deref-2.result.now LOAD_TURNS)
    (IsMakeRefusal code c.deref-2.result.now LOAD_TURNS) (AreReplayable code c.deref-2.result.now LOAD_TURNS)
    c.summary_of.result)
    (c.deref.ensures.value ∙ c.in_ok-module.ensures.code) c.summary_of.ensures)
