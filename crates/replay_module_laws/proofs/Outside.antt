-- The replay module is valid but for the bodies of its functions.
use Rattle.std.proofs.Common.{◌≡◌, ℕ, ◌^◌, ◌<◌, ◌≤◌, List, [], ◌∷◌, ◌++◌, length, Option, Some, None, true, cond, option_map, refl, sym, ap, ◌∙◌, subst, arith, slice_get}
use Rattle.std.specs.Prelude.{◌&&◌, map, min, nat_le, IsTrue, IfSome, All, unwrap_or, option_to_list}
use Rattle.std.specs.List.{AllByRecursion, cons_option, zip}
use Rattle.std.proofs.lemmas.Bool.Decides.{nat_tests}
use Rattle.std.proofs.lemmas.List.Elements.{All-cons, All-head, All-nil}
use Rattle.std.proofs.lemmas.Option.{slice_get-map}
use Rattle.base.proofs.Booleans.{and_parts}
use Rattle.base.proofs.Lists.{all_at}
use Rattle.base.proofs.Options.{and_then_some}
use Rattle.wasm_syntax.specs.declared.limits.TheConstants.{MAX_DECLARED_PAGES, MAX_ENTRIES, MAX_PAGES}
use Rattle.wasm_syntax.specs.declared.values.Val.{Val}
use Rattle.wasm_syntax.specs.declared.values.ValType.{ValType}
use Rattle.wasm_syntax.specs.declared.values.ValType.TheVariants.{I32, I64, F32, F64, FuncRef}
use Rattle.wasm_syntax.specs.declared.signatures.GlobalType.{GlobalType}
use Rattle.wasm_syntax.specs.declared.signatures.Limits.{Limits}
use Rattle.wasm_syntax.specs.declared.instructions.Instr.{Instr}
use Rattle.wasm_syntax.specs.declared.instructions.Instr.TheVariants.{Const, End, GlobalGet}
use Rattle.wasm_syntax.specs.declared.modules.Import.{Import}
use Rattle.wasm_syntax.specs.declared.modules.ImportKind.{ImportKind}
use Rattle.wasm_syntax.specs.declared.modules.ImportKind.TheVariants as import
use Rattle.wasm_syntax.specs.declared.modules.Global.{Global}
use Rattle.wasm_syntax.specs.declared.modules.Module.{Module}
use Rattle.wasm_syntax.specs.Index.{func_import, global_import, imported_globals, of_kind}
use Rattle.wasm_syntax.specs.Typing.{is_constant, is_number}
use Rattle.wasm_syntax.specs.Validity.{IsConstant, IsGlobal, IsImport, IsMemory, IsTable, constant_type, immutable_type, single}
use Rattle.wasm_syntax.proofs.ValidParts.{single_is}
use Rattle.host_script.specs.Supply.{is_within, keeps_max, limits_match}
use Rattle.history_spec.specs.Code.{zero_of}
use Rattle.history_spec.specs.Instantiation.{constant, limits_of}
use Rattle.type_safety.specs.Supplies.{Match}
use Rattle.type_safety.specs.Values.{AreValues, IsValue, count_of}
use Rattle.type_safety.proofs.Values.{value_at}
use Rattle.type_safety.proofs.NewStores.{immutable}
use Rattle.replay_module_spec.specs.Merge.{constant_body, constant_global, memory_written, supplied_global}
use Rattle.replay_module_laws.specs.Laws.{StatesMaximum}

-- ---- limits

record IsGiven (given : Limits) (most : ℕ) : Type 0 where
  within : is_within given.min given.max ≡ true
  small : given.min ≤ most

given_limits : (most : ℕ) (given wanted : Limits) → limits_match most given wanted ≡ true → IsGiven given most
given_limits most given wanted h =
    let p = and_parts (nat_le wanted.min given.min && keeps_max given.max wanted.max && is_within given.min given.max)
    (nat_le given.min most) h in
    let q = and_parts (nat_le wanted.min given.min && keeps_max given.max wanted.max) (is_within given.min given.max)
    p.0 in
    let last = p.1 in
    record { within = q.1; small = grind (arith, nat_tests, last) }

table_max : (least : ℕ) (max : Option ℕ) → is_within least max ≡ true → IfSome max (λ max. max ≤ 2 ^ 32)
    → IfSome max (λ max. (max ≤ 2 ^ 32) × (least ≤ max))
table_max least None within stated = tt
table_max least (Some max) within stated = (stated, grind (arith, nat_tests, within))

memory_max : (least : ℕ) (max : Option ℕ) → is_within least max ≡ true → least ≤ MAX_DECLARED_PAGES
    → IfSome (option_map (λ max. min max MAX_DECLARED_PAGES) max) (λ max. (max ≤ 2 ^ 16) × (least ≤ max))
memory_max least None within small = tt
memory_max least (Some max) within small =
    let below : least ≤ max = grind (arith, nat_tests, within) in (omega arith, omega (arith, below, small))

pub tables_valid : (imports defined : List Limits) (supplied : Option Limits) → Match MAX_ENTRIES imports supplied
    → StatesMaximum supplied → All IsTable defined → All IsTable (option_to_list (limits_of imports supplied defined))
tables_valid [] [] supplied match' stated valid = All-nil IsTable
tables_valid [] (own ∷ more) supplied match' stated valid =
    All-cons IsTable own [] (All-head IsTable own more valid) (All-nil IsTable)
tables_valid (wanted ∷ imports) defined None match' stated valid = absurd match'
tables_valid (wanted ∷ imports) defined (Some given) match' stated valid =
    let g = given_limits MAX_ENTRIES given wanted match' in
    let small = g.small in
    All-cons IsTable given []
    (record { min = omega (arith, small); max = table_max given.min given.max g.within stated }) (All-nil IsTable)

own_memory : (least : ℕ) (max : Option ℕ) → least ≤ 2 ^ 16 → IfSome max (λ max. (max ≤ 2 ^ 16) × (least ≤ max))
    → IfSome (option_map (λ max. min max MAX_DECLARED_PAGES) max) (λ max. (max ≤ 2 ^ 16) × (least ≤ max))
own_memory least None small valid = tt
own_memory least (Some max) small valid = let below = valid.1 in (omega arith, omega (arith, below, small))

pub memories_valid : (imports defined : List Limits) (supplied : Option Limits) → Match MAX_PAGES imports supplied
    → All IsMemory defined
    → All IsMemory (option_to_list (option_map memory_written (limits_of imports supplied defined)))
memories_valid [] [] supplied match' valid = All-nil IsMemory
memories_valid [] (own ∷ more) supplied match' valid =
    let v = All-head IsMemory own more valid in
    All-cons IsMemory (memory_written own) [] (record { min = v.min; max = own_memory own.min own.max v.min v.max })
    (All-nil IsMemory)
memories_valid (wanted ∷ imports) defined None match' valid = absurd match'
memories_valid (wanted ∷ imports) defined (Some given) match' valid =
    let g = given_limits MAX_PAGES given wanted match' in
    let small = g.small in
    All-cons IsMemory (memory_written given) []
    (record { min = omega (arith, small); max = memory_max given.min given.max g.within (omega (arith, small)) })
    (All-nil IsMemory)

-- a table or a memory of the original exists
pub limits_there : (most : ℕ) (imports defined : List Limits) (supplied : Option Limits) (place : ℕ)
    → Match most imports supplied → length (imports ++ defined) ≤ 1 → place < length (imports ++ defined)
    → place < length (option_to_list (limits_of imports supplied defined))
limits_there most [] [] supplied place match' one there = absurd (omega (arith, there))
limits_there most [] (own ∷ more) supplied place match' one there = omega (arith, one, there)
limits_there most (wanted ∷ imports) defined None place match' one there = absurd match'
limits_there most (wanted ∷ imports) defined (Some given) place match' one there = omega (arith, one, there)

pub mapped_length : {X Y : Type 0} (f : X → Y) (o : Option X)
    → length (option_to_list (option_map f o)) ≡ length (option_to_list o)
mapped_length f None = refl
mapped_length f (Some x) = refl

pub at_most_one : {X : Type 0} (o : Option X) → length (option_to_list o) ≤ 1
at_most_one None = omega arith
at_most_one (Some x) = omega arith

-- ---- what is imported

-- imported globals are of number types
pub numbers_imported : (m : Module) (imports : List Import) → AllByRecursion (λ i. IsImport m i.kind) imports
    → AllByRecursion (λ (g : GlobalType). IsTrue (is_number g.ty)) (of_kind global_import imports)
numbers_imported m [] h = tt
numbers_imported m (i ∷ is) h = go i.kind h.0 (numbers_imported m is h.1)
  where
    go : (kind : ImportKind) → IsImport m kind
        → AllByRecursion (λ (g : GlobalType). IsTrue (is_number g.ty)) (of_kind global_import is)
        → AllByRecursion (λ (g : GlobalType). IsTrue (is_number g.ty))
        (cons_option (global_import kind) (of_kind global_import is))
    go (import.Func ty) own later = later
    go (import.Table limits) own later = later
    go (import.Memory limits) own later = later
    go (import.Global ty) own later = (own, later)

-- imported functions have types of the module's
pub types_imported : (m : Module) (imports : List Import) → AllByRecursion (λ i. IsImport m i.kind) imports
    → AllByRecursion (λ ty. ty < length m.types) (of_kind func_import imports)
types_imported m [] h = tt
types_imported m (i ∷ is) h = go i.kind h.0 (types_imported m is h.1)
  where
    go : (kind : ImportKind) → IsImport m kind
        → AllByRecursion (λ ty. ty < length m.types) (of_kind func_import is)
        → AllByRecursion (λ ty. ty < length m.types) (cons_option (func_import kind) (of_kind func_import is))
    go (import.Func ty) own later = (own, later)
    go (import.Table limits) own later = later
    go (import.Memory limits) own later = later
    go (import.Global ty) own later = later

-- ---- constants

pub number_constant : (ty : ValType) (bits funcs : ℕ) → IsTrue (is_number ty) → bits < count_of funcs ty
    → is_constant (record { ty = ty; bits = bits }) ≡ true
number_constant I32 bits funcs number small = grind (arith, nat_tests, small)
number_constant I64 bits funcs number small = grind (arith, nat_tests, small)
number_constant F32 bits funcs number small = grind (arith, nat_tests, small)
number_constant F64 bits funcs number small = grind (arith, nat_tests, small)
number_constant FuncRef bits funcs number small = absurd (cc number)

-- a value of a number type is a constant of that type in any module
value_constant : (other : Module) (funcs : ℕ) (ty : ValType) (value : Val) → IsTrue (is_number ty)
    → IsValue funcs ty value → IsConstant other ty (constant_body value)
value_constant other funcs ty value number is =
    let same = is.typed in
    let constant' : is_constant value ≡ true =
    number_constant value.ty value.bits funcs (subst (λ t. IsTrue (is_number t)) (sym same) number)
    (subst (λ t. value.bits < count_of funcs t) (sym same) is.in_range) in
    ap (λ b. cond b (Some value.ty) None) constant' ∙ ap (λ t. Some t) same

module _ (m other : Module) (funcs : ℕ) (imported : List Val)
    (values : AreValues funcs (map (λ (g : GlobalType). g.ty) (imported_globals m)) imported)
    (numbers : All (λ (g : GlobalType). IsTrue (is_number g.ty)) (imported_globals m)) where
  instr_constant : (i : Instr) (ty : ValType) (zero' : Val) → constant_type m i ≡ Some ty
      → IsConstant other ty (constant_body (constant imported zero' (i ∷ End ∷ [])))
  instr_constant (Const value) ty zero' h = h
  instr_constant (GlobalGet x) ty zero' h =
      let g = and_then_some (slice_get (imported_globals m) x) immutable_type ty h in
      let own : g.0.ty ≡ ty = immutable g.0 ty g.2 in
      let v = value_at funcs (map (λ (g : GlobalType). g.ty) (imported_globals m)) imported x g.0.ty values
      (slice_get-map (λ (g : GlobalType). g.ty) (imported_globals m) x ∙ ap (option_map (λ (g : GlobalType). g.ty)) g.1) in
      let number = all_at (λ (g : GlobalType). IsTrue (is_number g.ty)) (imported_globals m) x g.0 numbers g.1 in
      subst (λ o. IsConstant other ty (constant_body (unwrap_or o zero'))) (sym v.1)
      (subst (λ t. IsConstant other t (constant_body v.0)) own (value_constant other funcs g.0.ty v.0 number v.2))
  instr_constant i ty zero' h = cc

  -- the value of a constant expression is a constant
  pub constant_kept : (ty : ValType) (body : List Instr) (zero' : Val) → IsConstant m ty body
      → IsConstant other ty (constant_body (constant imported zero' body))
  constant_kept ty body zero' h =
      let i = and_then_some (single body) (constant_type m) ty h in
      subst (λ l. IsConstant other ty (constant_body (constant imported zero' l))) (sym (single_is body i.0 i.1))
      (instr_constant i.0 ty zero' i.2)

  pub global_kept : (g : Global) → IsGlobal m g → IsGlobal other (constant_global imported g)
  global_kept g is = record { number = is.number; init = constant_kept g.ty.ty g.init (zero_of g.ty.ty) is.init }

-- imported globals are defined with the values that are supplied
pub supplied_kept : (other : Module) (funcs : ℕ) (types : List GlobalType) (values : List Val)
    → AreValues funcs (map (λ (g : GlobalType). g.ty) types) values
    → AllByRecursion (λ (g : GlobalType). IsTrue (is_number g.ty)) types
    → AllByRecursion (IsGlobal other) (map supplied_global (zip types values))
supplied_kept other funcs [] [] h numbers = tt
supplied_kept other funcs [] (value ∷ values) h numbers = absurd h
supplied_kept other funcs (ty ∷ types) [] h numbers = absurd h
supplied_kept other funcs (ty ∷ types) (value ∷ values) h numbers = (
  record { number = numbers.0; init = value_constant other funcs ty.ty value numbers.0 h.0 },
  supplied_kept other funcs types values h.1 numbers.1,
)
