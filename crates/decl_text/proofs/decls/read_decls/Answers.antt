use Rattle.std.proofs.Common.{List, Result, IsTrue, sym, subst, true≢false}
use Rattle.instance_spec.specs.declared.decls.Decl.{Decl}
use Rattle.serde_json.specs.View.{view}
use Rattle.decl_text.specs.declared.faults.DeclFault.{DeclFault}
use Rattle.decl_text.specs.Walk.{Gives}
use Rattle.decl_text.proofs.Meanings.{text_read, no_text}
use Rattle.decl_text.proofs.TextNames.{names_read}
use Rattle.decl_text.proofs.decls.read_decls.Goals as goal

pub returns-in-Ok-clause-gives : goal.returns-in-Ok-clause-gives
returns-in-Ok-clause-gives c =
    subst (λ (meant : Result (List Decl) DeclFault). Gives c.read_for_module.result meant)
    (sym (text_read c.args.module.now c.args.bytes.now (view c.in-Ok.value) c.in-Ok.ensures.ok.0 c.in-Ok.ensures.ok.1)) c.read_for_module.ensures

pub returns-in-Err-2-clause-gives : goal.returns-in-Err-2-clause-gives
returns-in-Err-2-clause-gives c no_memory =
    no_text c.args.module.now c.args.bytes.now
    (c.in-Err.ensures.err (λ memory. true≢false (sym (subst IsTrue c.if-is_memory.false (c.is_memory.ensures.1 memory)))))

pub returns-in-Ok-clause-names : goal.returns-in-Ok-clause-names
returns-in-Ok-clause-names c = names_read c.args.module.now c.in-Ok.value c.read_for_module.result c.read_for_module.ensures
