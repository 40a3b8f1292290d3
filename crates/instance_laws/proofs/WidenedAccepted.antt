-- The widened module of an accepted one is accepted.
use Rattle.std.proofs.Common.{◌≡◌, ℕ, ◌+◌, ◌≤◌, List, [], ◌∷◌, ◌++◌, map, length, Some, None, Bool, true, false, cond, nat_lt, option_map, refl, ap, ◌∙◌, arith}
use Rattle.std.specs.Prelude.{filter, filter_map, flat_map}
use Rattle.std.specs.List.{AllByRecursion, enumerate_from, cons_option}
use Rattle.std.proofs.lemmas.Bool.Decides.{nat_tests}
use Rattle.std.proofs.lemmas.List.Elements.{filter_map-append, recursion_from_All}
use Rattle.base.proofs.Lists.{nil_parts}
use Rattle.wasm_syntax.specs.declared.limits.TheConstants.{MAX_ENTRIES, MAX_PAGES, MAX_PARAMETERS}
use Rattle.wasm_syntax.specs.declared.profile.Which.TheVariants.{Parameters, Table, Memory, Locals}
use Rattle.wasm_syntax.specs.declared.signatures.FuncType.{FuncType}
use Rattle.wasm_syntax.specs.declared.signatures.Limits.{Limits}
use Rattle.wasm_syntax.specs.declared.instructions.Instr.{Instr}
use Rattle.wasm_syntax.specs.declared.instructions.Instr.TheVariants.{Call, CallIndirect, GlobalGet, GlobalSet, RefFunc}
use Rattle.wasm_syntax.specs.declared.modules.Module.{Module}
use Rattle.wasm_syntax.specs.declared.modules.Func.{Func}
use Rattle.wasm_syntax.specs.declared.modules.Import.{Import}
use Rattle.wasm_syntax.specs.Index.{all_memories, all_tables, imported_funcs}
use Rattle.wasm_syntax.specs.Profile.{Limit, Refusal, Unsupported, count_of_locals, is_numbered, max_locals, past, quantities_past, refusals, refused_feature, refused_in, refused_instructions, reserved_import, reserved_imports}
use Rattle.wasm_syntax.proofs.JoinedLists.{nil_option, nil_option_of}
use Rattle.instance_spec.specs.declared.decls.Decl.{Decl}
use Rattle.instance_spec.specs.Instances.{Instance, resolved_instr}
use Rattle.instance_spec.specs.ForeignRuns.{numbers}
use Rattle.instance_spec.specs.Widened.{foreign_imports, renamed_func, widened}
use Rattle.instance_spec.specs.Laws.{WidenedAreValid}
use Rattle.instance_spec.specs.WidenedLaws.{HaveFewParameters, WidenedAreAccepted, WidenedAreSupported}
use Rattle.instance_laws.proofs.WidenedParts.{memories_are, tables_are}

-- ---- instructions

feature_kept : (i : Instance) (instr : Instr) → refused_feature (resolved_instr i instr) ≡ refused_feature instr
feature_kept i (Call func) = refl
feature_kept i (CallIndirect ty) = refl
feature_kept i (GlobalGet global) = refl
feature_kept i (GlobalSet global) = refl
feature_kept i (RefFunc func) = refl
feature_kept i instr = refl

numbered_kept : (i : Instance) (instr : Instr) → is_numbered (resolved_instr i instr) ≡ is_numbered instr
numbered_kept i (Call func) = refl
numbered_kept i (CallIndirect ty) = refl
numbered_kept i (GlobalGet global) = refl
numbered_kept i (GlobalSet global) = refl
numbered_kept i (RefFunc func) = refl
numbered_kept i instr = refl

-- the refusals of numbered instructions
abbrev pub named : ℕ → List (ℕ × Instr) → List Refusal
named func instrs =
    filter_map (λ (i : ℕ × Instr). option_map (Unsupported func i.0) (refused_feature i.1)) instrs

module _ (i : Instance) where
  -- a renamed body has no refused instruction, as a function of any index, if the body has none
  body_unrefused : (func other start : ℕ) (body : List Instr)
      → named func (enumerate_from start (filter is_numbered body)) ≡ []
      → named other (enumerate_from start (filter is_numbered (map (resolved_instr i) body))) ≡ []
  body_unrefused func other start [] h = refl
  body_unrefused func other start (instr ∷ body) h =
      by (is_numbered instr) (is_numbered (resolved_instr i instr)) (numbered_kept i instr) h
      (λ k. body_unrefused func other k body)
    where
      by : (b c : Bool) → c ≡ b
          → named func (enumerate_from start (cond b (instr ∷ filter is_numbered body) (filter is_numbered body))) ≡ []
          → ((k : ℕ) → named func (enumerate_from k (filter is_numbered body)) ≡ []
          → named other (enumerate_from k (filter is_numbered (map (resolved_instr i) body))) ≡ [])
          → named other
          (enumerate_from start
          (cond c (resolved_instr i instr ∷ filter is_numbered (map (resolved_instr i) body))
          (filter is_numbered (map (resolved_instr i) body))))
          ≡ []
      by true true e h later =
          let rest = named func (enumerate_from (start + 1) (filter is_numbered body)) in
          let parts = nil_option_of (Unsupported func start) (refused_feature instr) rest h in
          ap
          (λ o. cons_option (option_map (Unsupported other start) o)
          (named other (enumerate_from (start + 1) (filter is_numbered (map (resolved_instr i) body)))))
          (feature_kept i instr ∙ parts.0)
          ∙ later (start + 1) parts.1
      by true false e h later = cc
      by false true e h later = cc
      by false false e h later = later start h

  funcs_unrefused : (index other : ℕ) (funcs : List Func)
      → flat_map (λ (f : ℕ × Func). refused_in f.0 f.1) (enumerate_from index funcs) ≡ []
      → flat_map (λ (f : ℕ × Func). refused_in f.0 f.1) (enumerate_from other (map (renamed_func i) funcs)) ≡ []
  funcs_unrefused index other [] h = refl
  funcs_unrefused index other (f ∷ funcs) h =
      let parts =
      nil_parts (refused_in index f)
      (flat_map (λ (f : ℕ × Func). refused_in f.0 f.1) (enumerate_from (index + 1) funcs)) h
      in
      let own = body_unrefused index other 0 f.body parts.0 in
      let later = funcs_unrefused (index + 1) (other + 1) funcs parts.1 in
      (λ j. own j ++ later j)

-- ---- quantities

abbrev pub types_past : List FuncType → List Refusal
types_past types = filter_map (λ (ty : FuncType). past MAX_PARAMETERS Parameters (length ty.params)) types

abbrev pub tables_past : List Limits → List Refusal
tables_past limits = filter_map (λ (l : Limits). past MAX_ENTRIES Table l.min) limits

abbrev pub memories_past : List Limits → List Refusal
memories_past limits = filter_map (λ (l : Limits). past MAX_PAGES Memory l.min) limits

abbrev pub locals_past : ℕ → List Func → List Refusal
locals_past most funcs = filter_map (λ (f : Func). past most Locals (count_of_locals f)) funcs

few_parameters : (count : ℕ) → count ≤ MAX_PARAMETERS → past MAX_PARAMETERS Parameters count ≡ None
few_parameters count few =
    let within : nat_lt MAX_PARAMETERS count ≡ false = grind (arith, nat_tests, few) in
    ap (λ b. cond b (Some (Limit Parameters count)) None) within

declared_within : (decls : List Decl) → AllByRecursion (λ (d : Decl). length d.ty.params ≤ MAX_PARAMETERS) decls
    → types_past (map (λ (d : Decl). d.ty) decls) ≡ []
declared_within [] few = refl
declared_within (d ∷ decls) few =
    ap (λ o. cons_option o (types_past (map (λ (e : Decl). e.ty) decls))) (few_parameters (length d.ty.params) few.0)
    ∙ declared_within decls few.1

locals_kept : (i : Instance) (most : ℕ) (funcs : List Func)
    → locals_past most (map (renamed_func i) funcs) ≡ locals_past most funcs
locals_kept i most [] = refl
locals_kept i most (f ∷ funcs) = ap (cons_option (past most Locals (count_of_locals f))) (locals_kept i most funcs)

-- ---- imports

foreign_unreserved : (place at : ℕ) (decls : List Decl)
    → filter_map reserved_import (enumerate_from place (foreign_imports at decls)) ≡ []
foreign_unreserved place at [] = refl
foreign_unreserved place at (d ∷ decls) = foreign_unreserved (place + 1) (at + 1) decls

none_reserved : (place at : ℕ) (imports : List Import) (decls : List Decl)
    → filter_map reserved_import (enumerate_from place imports) ≡ []
    → filter_map reserved_import (enumerate_from place (imports ++ foreign_imports at decls)) ≡ []
none_reserved place at [] decls h = foreign_unreserved place at decls
none_reserved place at (x ∷ imports) decls h =
    let rest = filter_map reserved_import (enumerate_from (place + 1) imports) in
    let parts = nil_option (reserved_import (place, x)) rest h in
    let later = none_reserved (place + 1) at imports decls parts.1 in
    ap
    (λ o. cons_option o
    (filter_map reserved_import (enumerate_from (place + 1) (imports ++ foreign_imports at decls))))
    parts.0
    ∙ later

-- ---- the module

module _ (m : Module) (decls : List Decl) where
  abbrev wide : Module
  wide = widened m decls

  instructions : refused_instructions m ≡ [] → refused_instructions wide ≡ []
  instructions h = funcs_unrefused (numbers m (length decls)) (imported_funcs m) (imported_funcs wide) m.funcs h

  pub quantities : (hooked : Bool) → HaveFewParameters decls → quantities_past hooked m ≡ []
      → quantities_past hooked wide ≡ []
  quantities hooked few h =
      let most = max_locals hooked in
      let types_m = types_past m.types in
      let tables_m = tables_past (all_tables m) in
      let memories_m = memories_past (all_memories m) in
      let a = nil_parts ((types_m ++ tables_m) ++ memories_m) (locals_past most m.funcs) h in
      let b = nil_parts (types_m ++ tables_m) memories_m a.0 in
      let c = nil_parts types_m tables_m b.0 in
      let each = recursion_from_All (λ (d : Decl). length d.ty.params ≤ MAX_PARAMETERS) decls few in
      let types : types_past wide.types ≡ [] =
      filter_map-append (λ (ty : FuncType). past MAX_PARAMETERS Parameters (length ty.params)) m.types
      (map (λ (d : Decl). d.ty) decls)
      ∙ (λ j. c.0 j ++ declared_within decls each j)
      in
      let tables : tables_past (all_tables wide) ≡ [] =
      ap (λ l. tables_past (l ++ m.tables)) (tables_are m decls) ∙ c.1
      in
      let memories : memories_past (all_memories wide) ≡ [] =
      ap (λ l. memories_past (l ++ m.memories)) (memories_are m decls) ∙ b.1
      in
      let locals : locals_past most wide.funcs ≡ [] =
      locals_kept (numbers m (length decls)) most m.funcs ∙ a.1
      in
      (λ j. ((types j ++ tables j) ++ memories j) ++ locals j)

  reserved : (hooked : Bool) → reserved_imports hooked m ≡ [] → reserved_imports hooked wide ≡ []
  reserved true h = refl
  reserved false h = none_reserved 0 (length m.types) m.imports decls h

  none_refused : (hooked : Bool) → HaveFewParameters decls → refusals hooked m ≡ [] → refusals hooked wide ≡ []
  none_refused hooked few h =
      let all : (refused_instructions m ++ quantities_past hooked m) ++ reserved_imports hooked m ≡ [] = h in
      let a = nil_parts (refused_instructions m ++ quantities_past hooked m) (reserved_imports hooked m) all in
      let b = nil_parts (refused_instructions m) (quantities_past hooked m) a.0 in
      let first = instructions b.0 in
      let second = quantities hooked few b.1 in
      let third = reserved hooked a.1 in
      (λ j. (first j ++ second j) ++ third j)

pub widened_are_accepted : WidenedAreValid → WidenedAreAccepted
widened_are_accepted valid hooked m decls accepted are few =
    record {
      valid = valid m decls accepted.valid are;
      none_refused = none_refused m decls hooked few accepted.none_refused;
    }

pub widened_are_supported : WidenedAreSupported
widened_are_supported m decls supported few =
    record {
      instructions = instructions m decls supported.instructions;
      quantities = quantities m decls true few supported.quantities;
    }
