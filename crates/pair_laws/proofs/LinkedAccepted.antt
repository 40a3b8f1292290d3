-- The linked module of two accepted ones is accepted.
use Rattle.std.proofs.Common.{◌≡◌, ℕ, ◌+◌, List, [], ◌∷◌, ◌++◌, map, length, Option, Some, None, Bool, true, false, cond, not, filter, option_map, codes, refl, sym, ap, ◌∙◌, subst}
use Rattle.std.specs.Prelude.{bytes_eq, filter_map, flat_map}
use Rattle.std.specs.List.{AllByRecursion, enumerate_from, cons_option}
use Rattle.base.proofs.Lists.{joined_all, nil_parts}
use Rattle.wasm_syntax.specs.declared.limits.TheConstants.{MAX_ENTRIES, MAX_PAGES, MAX_PARAMETERS}
use Rattle.wasm_syntax.specs.declared.profile.Which.TheVariants.{Parameters, Table, Memory, Locals}
use Rattle.wasm_syntax.specs.declared.signatures.FuncType.{FuncType}
use Rattle.wasm_syntax.specs.declared.signatures.Limits.{Limits}
use Rattle.wasm_syntax.specs.declared.instructions.Instr.{Instr}
use Rattle.wasm_syntax.specs.declared.instructions.Instr.TheVariants.{Call, CallIndirect, Else, End, GlobalGet, GlobalSet, RefFunc}
use Rattle.wasm_syntax.specs.declared.modules.Module.{Module}
use Rattle.wasm_syntax.specs.declared.modules.Func.{Func}
use Rattle.wasm_syntax.specs.declared.modules.Import.{Import}
use Rattle.wasm_syntax.specs.declared.modules.ImportKind.{ImportKind}
use Rattle.wasm_syntax.specs.Index.{of_kind, table_import, memory_import, all_memories, all_tables, imported_funcs}
use Rattle.wasm_syntax.specs.Profile.{Refusal, Reserved, Unsupported, count_of_locals, is_numbered, max_locals, past, quantities_past, refusals, refused_feature, refused_in, refused_instructions, reserved_import, reserved_imports}
use Rattle.wasm_syntax.proofs.JoinedLists.{nil_option, nil_option_of, both_parts}
use Rattle.instance_spec.specs.declared.sides.Side.{Side}
use Rattle.instance_spec.specs.declared.sides.Side.TheVariants.{Left, Right}
use Rattle.instance_spec.specs.Instances.{Instance, resolved_instr}
use Rattle.pair_spec.specs.Pairs.{ModulePair, module_of, is_from_other, host_imports}
use Rattle.pair_spec.specs.Numbers.{side_instance}
use Rattle.pair_spec.specs.Linked.{linked, linked_func, linked_import}
use Rattle.pair_laws.specs.LinkedLaws.{LinkedAreAccepted, LinkedAreSupported, LinkedAreValid}
use Rattle.instance_laws.proofs.WidenedAccepted.{locals_past, memories_past, named, tables_past, types_past}
use Rattle.instance_laws.proofs.WidenedEncodable.{mapped_all}
use Rattle.pair_laws.proofs.Lists.{filtered_all}
use Rattle.pair_laws.proofs.LinkedSpaces.{kept, memories_whole, tables_whole}

-- ---- lists in which nothing is refused

none_of : {X Y : Type 0} (f : X → Option Y) (xs : List X) → filter_map f xs ≡ []
    → AllByRecursion (λ x. f x ≡ None) xs
none_of f [] h = tt
none_of f (x ∷ xs) h = let parts = nil_option (f x) (filter_map f xs) h in (parts.0, none_of f xs parts.1)

none_from : {X Y : Type 0} (f : X → Option Y) (xs : List X) → AllByRecursion (λ x. f x ≡ None) xs
    → filter_map f xs ≡ []
none_from f [] all = refl
none_from f (x ∷ xs) all = ap (λ o. cons_option o (filter_map f xs)) all.0 ∙ none_from f xs all.1

-- ---- instructions

abbrev pub IsUnrefused : Instr → Type 0
IsUnrefused instr = refused_feature instr ≡ None

abbrev pub AreUnrefused : Func → Type 0
AreUnrefused f = AllByRecursion IsUnrefused f.body

feature_kept : (i : Instance) (instr : Instr) → IsUnrefused instr → IsUnrefused (resolved_instr i instr)
feature_kept i (Call func) h = refl
feature_kept i (CallIndirect ty) h = refl
feature_kept i (GlobalGet global) h = refl
feature_kept i (GlobalSet global) h = refl
feature_kept i (RefFunc func) h = refl
feature_kept i instr h = h

unnumbered : (instr : Instr) → is_numbered instr ≡ false → IsUnrefused instr
unnumbered Else h = refl
unnumbered End h = refl
unnumbered instr h = cc

body_unrefused : (func start : ℕ) (body : List Instr) → named func (enumerate_from start (filter is_numbered body)) ≡ []
    → AllByRecursion IsUnrefused body
body_unrefused func start [] h = tt
body_unrefused func start (instr ∷ body) h =
    by (is_numbered instr) refl h (λ k. body_unrefused func k body)
  where
    by : (b : Bool) → is_numbered instr ≡ b
        → named func (enumerate_from start (cond b (instr ∷ filter is_numbered body) (filter is_numbered body))) ≡ []
        → ((k : ℕ) → named func (enumerate_from k (filter is_numbered body)) ≡ [] → AllByRecursion IsUnrefused body)
        → AllByRecursion IsUnrefused (instr ∷ body)
    by true is h later =
        let rest = named func (enumerate_from (start + 1) (filter is_numbered body)) in
        let parts = nil_option_of (Unsupported func start) (refused_feature instr) rest h in
        (parts.0, later (start + 1) parts.1)
    by false is h later = (unnumbered instr is, later start h)

body_named : (func start : ℕ) (body : List Instr) → AllByRecursion IsUnrefused body
    → named func (enumerate_from start (filter is_numbered body)) ≡ []
body_named func start [] all = refl
body_named func start (instr ∷ body) all = by (is_numbered instr) (λ k. body_named func k body all.1)
  where
    by : (b : Bool) → ((k : ℕ) → named func (enumerate_from k (filter is_numbered body)) ≡ [])
        → named func (enumerate_from start (cond b (instr ∷ filter is_numbered body) (filter is_numbered body))) ≡ []
    by true later =
        ap
        (λ o. cons_option (option_map (Unsupported func start) o)
        (named func (enumerate_from (start + 1) (filter is_numbered body))))
        all.0
        ∙ later (start + 1)
    by false later = later start

abbrev refused_from : ℕ → List Func → List Refusal
refused_from index funcs = flat_map (λ (f : ℕ × Func). refused_in f.0 f.1) (enumerate_from index funcs)

pub funcs_unrefused : (index : ℕ) (funcs : List Func) → refused_from index funcs ≡ [] → AllByRecursion AreUnrefused funcs
funcs_unrefused index [] h = tt
funcs_unrefused index (f ∷ funcs) h =
    let parts = nil_parts (refused_in index f) (refused_from (index + 1) funcs) h in
    (body_unrefused index 0 f.body parts.0, funcs_unrefused (index + 1) funcs parts.1)

pub funcs_named : (index : ℕ) (funcs : List Func) → AllByRecursion AreUnrefused funcs → refused_from index funcs ≡ []
funcs_named index [] all = refl
funcs_named index (f ∷ funcs) all =
    let own = body_named index 0 f.body all.0 in
    let later = funcs_named (index + 1) funcs all.1 in (λ j. own j ++ later j)

-- ---- quantities

abbrev pub FitsParameters : FuncType → Type 0
FitsParameters ty = past MAX_PARAMETERS Parameters (length ty.params) ≡ None

abbrev pub FitsEntries : Limits → Type 0
FitsEntries limits = past MAX_ENTRIES Table limits.min ≡ None

abbrev pub FitsPages : Limits → Type 0
FitsPages limits = past MAX_PAGES Memory limits.min ≡ None

abbrev pub HasFewLocals : Bool → Func → Type 0
HasFewLocals hooked f = past (max_locals hooked) Locals (count_of_locals f) ≡ None

-- no quantity of a module is past its limit
pub record AreWithin (hooked : Bool) (m : Module) : Type 0 where
  pub types : AllByRecursion FitsParameters m.types
  pub tables : AllByRecursion FitsEntries (all_tables m)
  pub memories : AllByRecursion FitsPages (all_memories m)
  pub locals : AllByRecursion (HasFewLocals hooked) m.funcs

pub are_within : (hooked : Bool) (m : Module) → quantities_past hooked m ≡ [] → AreWithin hooked m
are_within hooked m h =
    let types = types_past m.types in
    let tables = tables_past (all_tables m) in
    let memories = memories_past (all_memories m) in
    let a = nil_parts ((types ++ tables) ++ memories) (locals_past (max_locals hooked) m.funcs) h in
    let b = nil_parts (types ++ tables) memories a.0 in
    let c = nil_parts types tables b.0 in
    record {
      types = none_of (λ (ty : FuncType). past MAX_PARAMETERS Parameters (length ty.params)) m.types c.0;
      tables = none_of (λ (l : Limits). past MAX_ENTRIES Table l.min) (all_tables m) c.1;
      memories = none_of (λ (l : Limits). past MAX_PAGES Memory l.min) (all_memories m) b.1;
      locals = none_of (λ (f : Func). past (max_locals hooked) Locals (count_of_locals f)) m.funcs a.1;
    }

pub none_past : (hooked : Bool) (m : Module) → AreWithin hooked m → quantities_past hooked m ≡ []
none_past hooked m within =
    let types = none_from (λ (ty : FuncType). past MAX_PARAMETERS Parameters (length ty.params)) m.types within.types in
    let tables = none_from (λ (l : Limits). past MAX_ENTRIES Table l.min) (all_tables m) within.tables in
    let memories = none_from (λ (l : Limits). past MAX_PAGES Memory l.min) (all_memories m) within.memories in
    let locals = none_from (λ (f : Func). past (max_locals hooked) Locals (count_of_locals f)) m.funcs within.locals in
    (λ j. ((types j ++ tables j) ++ memories j) ++ locals j)

-- ---- imports

-- those of one kind among some imports
kinds_among : {K : Type 0} (P : K → Type 0) (pick : ImportKind → Option K) (test : Import → Bool) (imports : List Import)
    → AllByRecursion P (of_kind pick imports) → AllByRecursion P (of_kind pick (filter test imports))
kinds_among P pick test [] all = tt
kinds_among {K = K} P pick test (first ∷ imports) all = by (pick first.kind) (test first) refl all (kinds_among P pick test imports)
  where
    by : (o : Option K) (b : Bool) → pick first.kind ≡ o → AllByRecursion P (cons_option o (of_kind pick imports))
        → (AllByRecursion P (of_kind pick imports) → AllByRecursion P (of_kind pick (filter test imports)))
        → AllByRecursion P (of_kind pick (cond b (first ∷ filter test imports) (filter test imports)))
    by None true is all later =
        subst (λ o. AllByRecursion P (cons_option o (of_kind pick (filter test imports)))) (sym is) (later all)
    by None false is all later = later all
    by (Some k) true is all later =
        subst (λ o. AllByRecursion P (cons_option o (of_kind pick (filter test imports)))) (sym is)
        (all.0, later all.1)
    by (Some k) false is all later = later all.1

abbrev IsUnreserved : Import → Type 0
IsUnreserved i = bytes_eq i.«module» (codes "r3") ≡ false

unreserved : (place : ℕ) (imports : List Import) → filter_map reserved_import (enumerate_from place imports) ≡ []
    → AllByRecursion IsUnreserved imports
unreserved place [] h = tt
unreserved place (i ∷ imports) h =
    let rest = filter_map reserved_import (enumerate_from (place + 1) imports) in
    let parts = nil_option (reserved_import (place, i)) rest h in
    (by (bytes_eq i.«module» (codes "r3")) parts.0, unreserved (place + 1) imports parts.1)
  where
    by : (b : Bool) → cond b (Some (Reserved place)) None ≡ None → b ≡ false
    by true h = cc
    by false h = refl

none_reserved : (place : ℕ) (imports : List Import) → AllByRecursion IsUnreserved imports
    → filter_map reserved_import (enumerate_from place imports) ≡ []
none_reserved place [] all = refl
none_reserved place (i ∷ imports) all =
    ap
    (λ b. cons_option (cond b (Some (Reserved place)) None)
    (filter_map reserved_import (enumerate_from (place + 1) imports)))
    all.0
    ∙ none_reserved (place + 1) imports all.1

-- ---- the module

module _ (pair : ModulePair) where
  abbrev whole : Module
  whole = linked pair

  func_unrefused : (side : Side) (f : Func) → AreUnrefused f → AreUnrefused (linked_func (side_instance pair side) f)
  func_unrefused side f h =
      mapped_all IsUnrefused IsUnrefused (resolved_instr (side_instance pair side)) (feature_kept (side_instance pair side)) f.body h

  instructions : refused_instructions pair.left ≡ [] → refused_instructions pair.right ≡ []
      → refused_instructions whole ≡ []
  instructions left right =
      let l = side_instance pair Left in
      let r = side_instance pair Right in
      funcs_named (imported_funcs whole) whole.funcs
      (joined_all AreUnrefused (map (linked_func l) pair.left.funcs) (map (linked_func r) pair.right.funcs)
      (mapped_all AreUnrefused AreUnrefused (linked_func l) (func_unrefused Left) pair.left.funcs
      (funcs_unrefused (imported_funcs pair.left) pair.left.funcs left))
      (mapped_all AreUnrefused AreUnrefused (linked_func r) (func_unrefused Right) pair.right.funcs
      (funcs_unrefused (imported_funcs pair.right) pair.right.funcs right)))

  -- limits of both sides
  kept_all : (P : Limits → Type 0) (side : Side) (limits : List Limits) → AllByRecursion P limits
      → AllByRecursion P (map (kept side) limits)
  kept_all P side limits all = mapped_all P P (kept side) (λ l h. h) limits all

  limits_all : (P : Limits → Type 0) (pick : ImportKind → Option Limits) (own : Module → List Limits)
      → AllByRecursion P (of_kind pick pair.left.imports ++ own pair.left)
      → AllByRecursion P (of_kind pick pair.right.imports ++ own pair.right)
      → AllByRecursion P
      ((map (kept Left) (of_kind pick (host_imports Left pair.left.imports))
      ++ map (kept Right) (of_kind pick (host_imports Right pair.right.imports)))
      ++ (map (kept Left) (own pair.left) ++ map (kept Right) (own pair.right)))
  limits_all P pick own left right =
      let l = both_parts P (of_kind pick pair.left.imports) (own pair.left) left in
      let r = both_parts P (of_kind pick pair.right.imports) (own pair.right) right in
      joined_all P _ _
      (joined_all P _ _
      (kept_all P Left _ (kinds_among P pick (λ i. not (is_from_other Left i)) pair.left.imports l.0))
      (kept_all P Right _ (kinds_among P pick (λ i. not (is_from_other Right i)) pair.right.imports r.0)))
      (joined_all P _ _ (kept_all P Left (own pair.left) l.1) (kept_all P Right (own pair.right) r.1))

  pub quantities : (hooked : Bool) → quantities_past hooked pair.left ≡ [] → quantities_past hooked pair.right ≡ []
      → quantities_past hooked whole ≡ []
  quantities hooked left right =
      let a = are_within hooked pair.left left in
      let b = are_within hooked pair.right right in
      none_past hooked whole
      (record {
        types = joined_all FitsParameters pair.left.types pair.right.types a.types b.types;
        tables =
            subst (AllByRecursion FitsEntries) (sym (tables_whole pair))
            (limits_all FitsEntries table_import (λ (m : Module). m.tables) a.tables b.tables);
        memories =
            subst (AllByRecursion FitsPages) (sym (memories_whole pair))
            (limits_all FitsPages memory_import (λ (m : Module). m.memories) a.memories b.memories);
        locals =
            joined_all (HasFewLocals hooked) _ _
            (mapped_all (HasFewLocals hooked) (HasFewLocals hooked) (linked_func (side_instance pair Left)) (λ f h. h) pair.left.funcs a.locals)
            (mapped_all (HasFewLocals hooked) (HasFewLocals hooked) (linked_func (side_instance pair Right)) (λ f h. h) pair.right.funcs b.locals);
      })

  side_unreserved : (side : Side) → AllByRecursion IsUnreserved (module_of pair side).imports
      → AllByRecursion IsUnreserved
      (map (linked_import (side_instance pair side)) (host_imports side (module_of pair side).imports))
  side_unreserved side all =
      mapped_all IsUnreserved IsUnreserved (linked_import (side_instance pair side)) (λ i h. h)
      (host_imports side (module_of pair side).imports)
      (filtered_all IsUnreserved (λ i. not (is_from_other side i)) (module_of pair side).imports all)

  reserved : (hooked : Bool) → reserved_imports hooked pair.left ≡ [] → reserved_imports hooked pair.right ≡ []
      → reserved_imports hooked whole ≡ []
  reserved true left right = refl
  reserved false left right =
      none_reserved 0 whole.imports
      (joined_all IsUnreserved _ _ (side_unreserved Left (unreserved 0 pair.left.imports left))
      (side_unreserved Right (unreserved 0 pair.right.imports right)))

  -- a module in which nothing is refused, part by part
  abbrev AreUnrefusedParts : Bool → Module → Type 0
  AreUnrefusedParts hooked m =
      (refused_instructions m ≡ []) × (quantities_past hooked m ≡ []) × (reserved_imports hooked m ≡ [])

  parts : (hooked : Bool) (m : Module) → refusals hooked m ≡ [] → AreUnrefusedParts hooked m
  parts hooked m h =
      let all : (refused_instructions m ++ quantities_past hooked m) ++ reserved_imports hooked m ≡ [] = h in
      let a = nil_parts (refused_instructions m ++ quantities_past hooked m) (reserved_imports hooked m) all in
      let b = nil_parts (refused_instructions m) (quantities_past hooked m) a.0 in
      (b.0, b.1, a.1)

  none_refused : (hooked : Bool) → refusals hooked pair.left ≡ [] → refusals hooked pair.right ≡ []
      → refusals hooked whole ≡ []
  none_refused hooked left right =
      let a = parts hooked pair.left left in
      let b = parts hooked pair.right right in
      let first = instructions a.0 b.0 in
      let second = quantities hooked a.1 b.1 in
      let third = reserved hooked a.2 b.2 in
      (λ j. (first j ++ second j) ++ third j)

pub linked_are_accepted : LinkedAreValid → LinkedAreAccepted
linked_are_accepted valid hooked pair left right none few =
    record {
      valid = valid pair (record { left = left.valid; right = right.valid; no_fault = none }) few;
      none_refused = none_refused pair hooked left.none_refused right.none_refused;
    }

pub linked_are_supported : LinkedAreSupported
linked_are_supported pair left right =
    record {
      instructions = instructions pair left.instructions right.instructions;
      quantities = quantities pair true left.quantities right.quantities;
    }
