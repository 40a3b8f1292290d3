use Rattle.std.proofs.Common.{◌≡◌, ℕ, List, Result, Ok, Err, refl, subst}
use Rattle.wasm_syntax.specs.declared.modules.Module.{Module}
use Rattle.instance_spec.specs.declared.decls.Decl.{Decl}
use Rattle.decl_text.specs.Texts.{decls_of_text}
use Rattle.r3_faults.specs.Answers.{IsExactValue}
use Rattle.r3_faults.specs.declared.faults.Fault.{Fault}
use Rattle.r3_inputs.proofs.Stages.{goes_on, stopped}
use Rattle.r3_instances.specs.ForeignInputs.{IsRefusedDecls}
use Rattle.r3_instances.proofs.FileFacts.{can_be_widened}
use Rattle.r3_instances.proofs.FileStages.{declared_stages}
use Rattle.r3_instances.proofs.ReadDecls.{AreRead, module_refused, module_taken}
use Rattle.r3_instances.proofs.declared_modules.declared_module.Goals as goal

-- the answer on declarations, of the same module by another name
same_module : (n m : Module) (bytes : List ℕ) (q : Result (List Decl) Fault) → n ≡ m
    → IsExactValue (AreRead n bytes) (IsRefusedDecls n bytes) q → IsExactValue (AreRead m bytes) (IsRefusedDecls m bytes) q
same_module n m bytes q same is = subst (λ m. IsExactValue (AreRead m bytes) (IsRefusedDecls m bytes) q) same is

pub returns-in-Ok-decls_of-clause-exact : goal.returns-in-Ok-decls_of-clause-exact
returns-in-Ok-decls_of-clause-exact c =
    let bytes = c.args.decls.now in
    let m = c.in-Ok.checked in
    goes_on (declared_stages c.args.module.now bytes) c.file_module.result c.file_module.ensures.exact m c.in-Ok.is
    (Ok (record { checked = m; decls = c.in-Ok-decls_of.decls }))
    (module_taken m bytes c.decls_of.result c.in-Ok-decls_of.decls c.in-Ok-decls_of.is
    (same_module c.module.result.now m bytes c.decls_of.result c.module.ensures.same c.decls_of.ensures.exact))

pub returns-in-Ok-decls_of-clause-fit : goal.returns-in-Ok-decls_of-clause-fit
returns-in-Ok-decls_of-clause-fit c =
    let bytes = c.args.decls.now in
    let m = c.in-Ok.checked in
    let decls = c.in-Ok-decls_of.decls in
    can_be_widened bytes m decls c.in-Ok.ensures.file c.requires.declared
    (subst (λ m. decls_of_text m bytes ≡ Ok decls) c.module.ensures.same c.in-Ok-decls_of.ensures.exact.taken)
    c.in-Ok-decls_of.ensures.names c.declarations_are_within_texts.ensures c.declarations_that_are_read_fit.ensures

pub returns-in-Err-decls_of-clause-exact : goal.returns-in-Err-decls_of-clause-exact
returns-in-Err-decls_of-clause-exact c =
    let bytes = c.args.decls.now in
    let m = c.in-Ok.checked in
    goes_on (declared_stages c.args.module.now bytes) c.file_module.result c.file_module.ensures.exact m c.in-Ok.is (Err c.in-Err-decls_of.fault)
    (module_refused m bytes c.decls_of.result c.in-Err-decls_of.fault c.in-Err-decls_of.is
    (same_module c.module.result.now m bytes c.decls_of.result c.module.ensures.same c.decls_of.ensures.exact))

pub returns-in-Err-clause-exact : goal.returns-in-Err-clause-exact
returns-in-Err-clause-exact c =
    stopped (declared_stages c.args.module.now c.args.decls.now) c.file_module.result c.file_module.ensures.exact c.in-Err.fault c.in-Err.is
    (Err c.in-Err.fault) refl
