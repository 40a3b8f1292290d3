-- The stages in which files are read: the modules or the declarations, the module that is made of them, and the script
-- for that.
use Rattle.std.proofs.Common.{◌≡◌, ◌⊎◌, inl, inr, ℕ, List, Ok, refl, sym, ◌∙◌, subst}
use Rattle.wasm_syntax.specs.declared.modules.Module.{Module}
use Rattle.script_text.specs.Texts.{script_of_text}
use Rattle.decl_text.specs.Texts.{decls_of_text}
use Rattle.pair_spec.specs.Pairs.{ModulePair}
use Rattle.r3_faults.specs.declared.faults.Fault.{Fault}
use Rattle.r3_inputs.specs.Inputs.{IsModuleOf, IsRefusedModule, IsRefusedScript}
use Rattle.r3_inputs.proofs.Stages.{AreStaged}
use Rattle.r3_instances.specs.ForeignInputs.{AreUndeclared, IsDeclared, IsRefusedDecls, NoDecls, NoModule}
use Rattle.r3_instances.specs.PairInputs.{pair_source, AreRefusedPairBytes, IsPairFault, NoLeft, NoLink, NoRight}
use Rattle.r3_instances.specs.RecordedModules.{AreRunInputs, IsLinkedOf, IsRecordedFor, IsScriptFor}
use Rattle.r3_instances.specs.Sources.{Source, AreRefusedWithScript, ByFiles, ByScript}
use Rattle.r3_instances.specs.declared.declared_modules.DeclaredModule.{DeclaredModule}

-- declarations of a module, as a value
abbrev pub IsDeclaredBy : (decl_bytes : List ℕ) → Module → DeclaredModule → Type 0
IsDeclaredBy decl_bytes m declared = (declared.checked ≡ m) × (decls_of_text m decl_bytes ≡ Ok declared.decls)

module _ (module_bytes decl_bytes : List ℕ) where
  pub declared_stages : AreStaged (IsModuleOf module_bytes) (IsRefusedModule module_bytes) (IsDeclaredBy decl_bytes)
      (λ m fault. IsRefusedDecls m decl_bytes fault) (IsDeclared module_bytes decl_bytes)
      (AreUndeclared module_bytes decl_bytes)
  declared_stages = record {
    whole = λ m declared is_module is. record {
      is_module = subst (IsModuleOf module_bytes) (sym is.0) is_module;
      are_decls = subst (λ m. decls_of_text m decl_bytes ≡ Ok declared.decls) (sym is.0) is.1;
    };
    parts = λ declared is. (declared.checked, is.is_module, (refl, is.are_decls));
    first_refused = λ fault refused. NoModule refused;
    next_refused = λ m fault is_module refused. NoDecls m is_module refused;
    refused_parts = λ fault refusal. parts_of fault refusal;
  }
    where
      parts_of : (fault : Fault) → AreUndeclared module_bytes decl_bytes fault
          → IsRefusedModule module_bytes fault ⊎ ((m : Module) × IsModuleOf module_bytes m × IsRefusedDecls m decl_bytes fault)
      parts_of fault (NoModule refused) = inl refused
      parts_of fault (NoDecls m is_module refused) = inr (m, is_module, refused)

-- ---- the recorded module, and a script for it

module _ {X : Type 0} (source : Source X) where
  pub recorded_stages : AreStaged source.IsRead source.IsUnread (λ x m. m ≡ source.recorded x) (λ x fault. ⊥)
      (IsRecordedFor source) source.IsUnread
  recorded_stages = record {
    whole = λ x m read is. record { x = x; read = read; is = is };
    parts = λ m is. (is.x, is.read, is.is);
    first_refused = λ fault refused. refused;
    next_refused = λ x fault read none. absurd none;
    refused_parts = λ fault refusal. inl refusal;
  }

  pub script_stages : (script_bytes : List ℕ)
      → AreStaged (IsRecordedFor source) source.IsUnread (λ m inputs. IsScriptFor m script_bytes inputs)
      (λ m fault. IsRefusedScript m script_bytes fault) (AreRunInputs source script_bytes)
      (λ fault. AreRefusedWithScript source script_bytes fault)
  script_stages script_bytes = record {
    whole = λ m inputs first next. record {
      x = first.x;
      read = record {
        read = first.read;
        is_script = subst (λ m. script_of_text m script_bytes ≡ Ok inputs.script) first.is next.is_script;
      };
      is = next.same ∙ first.is;
    };
    parts = λ inputs is. (
      source.recorded is.x,
      record { x = is.x; read = is.read.read; is = refl },
      record { same = is.is; is_script = is.read.is_script },
    );
    first_refused = λ fault unread. ByFiles unread;
    next_refused = λ m fault first refused.
        ByScript first.x first.read (subst (λ m. IsRefusedScript m script_bytes fault) first.is refused);
    refused_parts = λ fault refusal. parts_of fault refusal;
  }
    where
      parts_of : (fault : Fault) → AreRefusedWithScript source script_bytes fault
          → source.IsUnread fault ⊎ ((m : Module) × IsRecordedFor source m × IsRefusedScript m script_bytes fault)
      parts_of fault (ByFiles unread) = inl unread
      parts_of fault (ByScript x read refused) = inr (source.recorded x, record { x = x; read = read; is = refl }, refused)

-- ---- pairs

module _ (left_bytes right_bytes : List ℕ) where
  abbrev pair_of : (left right : Module) → ModulePair
  pair_of left right = record { left = left; right = right }

  -- the right module, and the linked module of it and of this left one; or why there is none
  abbrev pub IsLinkedBehind : (left : Module) → Module → Type 0
  IsLinkedBehind left m = (right : Module) × IsModuleOf right_bytes right × IsLinkedOf (pair_of left right) m

  abbrev pub IsUnlinkedBehind : (left : Module) → Fault → Type 0
  IsUnlinkedBehind left fault =
      IsRefusedModule right_bytes fault
      ⊎ ((right : Module) × IsModuleOf right_bytes right × IsPairFault (pair_of left right) fault)

  pub right_stages : (left : Module)
      → AreStaged (IsModuleOf right_bytes) (IsRefusedModule right_bytes) (λ right m. IsLinkedOf (pair_of left right) m)
      (λ right fault. IsPairFault (pair_of left right) fault) (IsLinkedBehind left) (IsUnlinkedBehind left)
  right_stages left = record {
    whole = λ right m is next. (right, is, next);
    parts = λ m is. is;
    first_refused = λ fault refused. inl refused;
    next_refused = λ right fault is refused. inr (right, is, refused);
    refused_parts = λ fault refusal. refusal;
  }

  pub left_stages : AreStaged (IsModuleOf left_bytes) (IsRefusedModule left_bytes) IsLinkedBehind IsUnlinkedBehind
      (IsRecordedFor (pair_source left_bytes right_bytes)) (AreRefusedPairBytes left_bytes right_bytes)
  left_stages = record {
    whole = λ left m is next. record {
      x = pair_of left next.0;
      read = record { is_left = is; is_right = next.1; no_fault = next.2.no_fault };
      is = next.2.is;
    };
    parts = λ m is. (
      is.x.left,
      is.read.is_left,
      (is.x.right, is.read.is_right, record { no_fault = is.read.no_fault; is = is.is }),
    );
    first_refused = λ fault refused. NoLeft refused;
    next_refused = λ left fault is refused. behind left fault is refused;
    refused_parts = λ fault refusal. parts_of fault refusal;
  }
    where
      behind : (left : Module) (fault : Fault) → IsModuleOf left_bytes left → IsUnlinkedBehind left fault
          → AreRefusedPairBytes left_bytes right_bytes fault
      behind left fault is (inl refused) = NoRight left is refused
      behind left fault is (inr later) = NoLink (pair_of left later.0) is later.1 later.2

      parts_of : (fault : Fault) → AreRefusedPairBytes left_bytes right_bytes fault
          → IsRefusedModule left_bytes fault
          ⊎ ((left : Module) × IsModuleOf left_bytes left × IsUnlinkedBehind left fault)
      parts_of fault (NoLeft refused) = inl refused
      parts_of fault (NoRight left is refused) = inr (left, is, inl refused)
      parts_of fault (NoLink modules is_left is_right refused) =
          inr (modules.left, is_left, inr (modules.right, is_right, refused))
