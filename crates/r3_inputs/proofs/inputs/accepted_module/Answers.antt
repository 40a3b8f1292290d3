use Rattle.std.proofs.Common.{◌≡◌, ◌⊎◌, inl, inr, length, subst, sym, Result, Ok, Err, IfErr}
use Rattle.std.specs.Result.{IsErrAnd}
use Rattle.wasm_syntax.specs.Encoding.Modules.{Encodes}
use Rattle.wasm_syntax.specs.Validity.{IsValid}
use Rattle.wasm_profile.specs.Sizes.{HasShortLists}
use Rattle.wasm_syntax.specs.ListsWithin.{HasListsWithin}
use Rattle.r3_faults.specs.declared.faults.Fault.{Fault}
use Rattle.r3_faults.specs.declared.faults.Fault.TheVariants.{Memory}
use Rattle.r3_inputs.specs.Inputs.{IsRefusedIn, ByBytes, ByRules, ByProfile}
use Rattle.r3_inputs.specs.ModuleFiles.{form_of, is_instrumented}
use Rattle.r3_inputs.proofs.Acceptance.{fewer_bytes, short_lists, supported_when_accepted, short_when_accepted}
use Rattle.r3_inputs.proofs.inputs.accepted_module.Goals as goal

-- a property of an error that is passed on
passed : {T : Type 0} (r : Result T Fault) (fault : Fault) (P : Fault → Type 0) → IsErrAnd r (λ other. other ≡ fault)
    → P fault → IfErr r P
passed (Ok x) fault P e p = tt
passed (Err other) fault P e p = subst P (sym e) p

pub returns-in_err-checked-clause-cause : goal.returns-in_err-checked-clause-cause
returns-in_err-checked-clause-cause c =
    passed c.from_residual-in_err-checked.result c.in_err-checked.field-0.0
    (λ fault. (fault ≡ Memory) ⊎ IsRefusedIn c.args.file c.args.bytes.now fault) c.from_residual-in_err-checked.ensures.1
    (elim c.in_err-checked.ensures.cause [
      | inl memory ↦ inl memory
      | inr invalid ↦ inr
          (ByRules c.in_ok-module.module c.in_ok-module.ensures.found invalid)
    ])

pub acceptance-requires : goal.acceptance-requires
acceptance-requires c =
    subst HasShortLists (sym c.in_ok-checked.ensures.same)
    (short_lists (length c.args.bytes.now) c.in_ok-module.module (fewer_bytes c.args.file (length c.args.bytes.now) c.requires) c.in_ok-module.ensures.within)

pub returns-in_err-acceptance-clause-cause : goal.returns-in_err-acceptance-clause-cause
returns-in_err-acceptance-clause-cause c =
    let same = c.in_ok-checked.ensures.same in
    passed c.from_residual-in_err-acceptance.result c.in_err-acceptance.field-0.0
    (λ fault. (fault ≡ Memory) ⊎ IsRefusedIn c.args.file c.args.bytes.now fault) c.from_residual-in_err-acceptance.ensures.1
    (inr
    (ByProfile c.in_ok-checked.checked
    (subst (Encodes (form_of c.args.file) c.args.bytes.now) (sym same) c.in_ok-module.ensures.found)
    (subst IsValid (sym same) c.in_ok-checked.ensures.valid) c.in_err-acceptance.ensures.cause))

pub returns-clause-supported : goal.returns-clause-supported
returns-clause-supported c = supported_when_accepted (is_instrumented c.args.file) c.in_ok-checked.checked c.in_ok-acceptance.ensures.taken

pub returns-clause-short : goal.returns-clause-short
returns-clause-short c =
    short_when_accepted (is_instrumented c.args.file) c.in_ok-checked.checked c.in_ok-acceptance.ensures.taken (length c.args.bytes.now)
    (fewer_bytes c.args.file (length c.args.bytes.now) c.requires)
    (subst (HasListsWithin (length c.args.bytes.now)) (sym c.in_ok-checked.ensures.same) c.in_ok-module.ensures.within)
