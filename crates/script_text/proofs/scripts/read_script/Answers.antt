use Rattle.std.proofs.Common.{Result, IsTrue, sym, subst, true≢false}
use Rattle.host_script.specs.declared.scripts.Script.{Script}
use Rattle.serde_json.specs.View.{view}
use Rattle.script_text.specs.declared.faults.ScriptFault.{ScriptFault}
use Rattle.script_text.specs.Walk.{Gives}
use Rattle.script_text.proofs.Meanings.{text_read, no_text}
use Rattle.script_text.proofs.scripts.read_script.Goals as goal

pub returns-in-Ok : goal.returns-in-Ok
returns-in-Ok c =
    subst (λ (meant : Result Script ScriptFault). Gives (λ (s : Script). s) c.read_for_module.result meant)
    (sym (text_read c.args.module.now c.args.bytes.now (view c.in-Ok.value) c.in-Ok.ensures.ok.0 c.in-Ok.ensures.ok.1)) c.read_for_module.ensures

pub returns-in-Err-2 : goal.returns-in-Err-2
returns-in-Err-2 c no_memory =
    no_text c.args.module.now c.args.bytes.now (c.in-Err.ensures.err
    (λ memory. true≢false (sym (subst IsTrue c.if-is_memory.false (c.is_memory.ensures.1 memory)))))
