-- The plain tests decide the conditions of validity.
use Rattle.std.proofs.Common.{◌≡◌, ◌≢◌, ℕ, suc, ◌^◌, ◌≤◌, List, [], ◌∷◌, length, reverse, Option, Some, None, Bool, true, not, ◌&&◌, IsTrue, IfSome, nat_lt, nat_le, bytes_eq, option_and_then, All, AllPairs, Decides, refl, ap, ◌∙◌, subst, arith}
use Rattle.std.specs.List.{list_all}
use Rattle.std.specs.Cmp.Lexicographic.{bytes_decides}
use Rattle.std.proofs.lemmas.Bool.Decides.{Decides-and, Decides-by_and, Decides-like, Decides-not, Decides-ltb, nat_tests}
use Rattle.std.proofs.lemmas.List.Kept.{AllPairs-cons}
use Rattle.wasm_syntax.proofs.ValTypes.{type_same, type_own}
use Rattle.wasm_syntax.specs.declared.values.ValType.{ValType}
use Rattle.wasm_syntax.specs.declared.values.ValType.TheVariants.{I32}
use Rattle.wasm_syntax.specs.declared.signatures.FuncType.{FuncType}
use Rattle.wasm_syntax.specs.declared.signatures.Limits.{Limits}
use Rattle.wasm_syntax.specs.declared.instructions.Instr.{Instr}
use Rattle.wasm_syntax.specs.declared.modules.Module.{Module}
use Rattle.wasm_syntax.specs.declared.modules.ImportKind.{ImportKind}
use Rattle.wasm_syntax.specs.declared.modules.ImportKind.TheVariants as import
use Rattle.wasm_syntax.specs.declared.modules.Export.{Export}
use Rattle.wasm_syntax.specs.declared.modules.ExportKind.{ExportKind}
use Rattle.wasm_syntax.specs.declared.modules.ExportKind.TheVariants.{Func, Table, Memory, Global}
use Rattle.wasm_syntax.specs.declared.modules.Func.{Func as Function}
use Rattle.wasm_syntax.specs.declared.modules.Global.{Global as Variable}
use Rattle.wasm_syntax.specs.declared.modules.ElemSeg.{ElemSeg}
use Rattle.wasm_syntax.specs.declared.modules.ElemSeg.TheVariants.{Active, Declared}
use Rattle.wasm_syntax.specs.declared.modules.DataSeg.{DataSeg}
use Rattle.wasm_syntax.specs.Nest.{Nest, nest_of}
use Rattle.wasm_syntax.specs.Index.{func_indices, type_at, func_type, all_tables, all_memories, all_globals}
use Rattle.wasm_syntax.specs.Typing.{is_number}
use Rattle.wasm_syntax.specs.Validity.{AreNumbers, IsFuncType, IsLimits, IsTable, IsMemory, IsThere, IsImport, constant_type, single, IsConstant, IsDeclaredFunc, IsGlobal, IsStart, AreFuncs, IsElem, IsData, IsValidOutside, body_context, IsTypedFunc}
use Rattle.wasm_syntax.specs.KnownStacks.{same_type}
use Rattle.wasm_syntax.specs.ValidityTests.{are_numbers, is_func_type, is_maximum, is_limits, is_table, is_memory, is_there, is_import, is_wanted, is_constant_of, is_declared_func, is_global, is_nil, is_start_type, is_start, are_funcs, is_elem, is_data, names_differ, is_valid_outside, nest_ends, body_ends, is_typed_func}
use Rattle.wasm_syntax.proofs.Nests.{nest_of_body, body_of_nest}
use Rattle.wasm_syntax.proofs.NestTypes.{typed_from_ends, ends_from_typed}

-- a test that is the fact
itself : (b : Bool) → Decides b (IsTrue b)
itself b = (λ h. h, λ h. h)

-- a test of each item
of_all : {X : Type 0} (p : X → Bool) (P : X → Type 0) → ((x : X) → Decides (p x) (P x)) → (xs : List X)
    → Decides (list_all p xs) (All P xs)
of_all p P each xs = Decides-by_and p P (list_all p) each refl (λ _ _. refl) xs

at_most : (a b : ℕ) → Decides (nat_le a b) (a ≤ b)
at_most a b = (λ h. grind (arith, nat_tests), λ h. grind (arith, nat_tests))

numbers : (types : List ValType) → Decides (are_numbers types) (AreNumbers types)
numbers types = of_all is_number (λ t. IsTrue (is_number t)) (λ t. itself (is_number t)) types

func_types : (ty : FuncType) → Decides (is_func_type ty) (IsFuncType ty)
func_types ty = Decides-like (is_func_type ty)
    (λ h. record { params = h.0; results = h.1.0; one_result = h.1.1 })
    (λ h. (h.params, (h.results, h.one_result)))
    (Decides-and (are_numbers ty.params) (are_numbers ty.results && nat_le (length ty.results) 1) (numbers ty.params)
    (Decides-and (are_numbers ty.results) (nat_le (length ty.results) 1) (numbers ty.results) (at_most (length ty.results) 1)))

maxima : (range min : ℕ) (max : Option ℕ)
    → Decides (is_maximum range min max) (IfSome max (λ max. (max ≤ range) × (min ≤ max)))
maxima range min None = (λ _. tt, λ _. refl)
maxima range min (Some max) = Decides-and (nat_le max range) (nat_le min max) (at_most max range) (at_most min max)

limits_decide : (range : ℕ) (limits : Limits) → Decides (is_limits range limits) (IsLimits range limits)
limits_decide range limits = Decides-like (is_limits range limits)
    (λ h. record { min = h.0; max = h.1 }) (λ h. (h.min, h.max))
    (Decides-and (nat_le limits.min range) (is_maximum range limits.min limits.max) (at_most limits.min range) (maxima range limits.min limits.max))

there : (m : Module) (kind : ExportKind) → Decides (is_there m kind) (IsThere m kind)
there m (Func x) = Decides-ltb x (length (func_indices m))
there m (Table x) = Decides-ltb x (length (all_tables m))
there m (Memory x) = Decides-ltb x (length (all_memories m))
there m (Global x) = Decides-ltb x (length (all_globals m))

imports_decide : (m : Module) (kind : ImportKind) → Decides (is_import m kind) (IsImport m kind)
imports_decide m (import.Func ty) = Decides-ltb ty (length m.types)
imports_decide m (import.Table limits) = limits_decide (2 ^ 32) limits
imports_decide m (import.Memory limits) = limits_decide (2 ^ 16) limits
imports_decide m (import.Global ty) = itself (is_number ty.ty)

wanted : (t : ValType) (o : Option ValType) → Decides (is_wanted t o) (o ≡ Some t)
wanted t None = (λ h. cc, λ h. cc)
wanted t (Some u) =
    (λ h. ap Some (type_same u t h), λ h. let e : u ≡ t = cc in subst (λ v. same_type u v ≡ true) e (type_own u))

constants : (m : Module) (ty : ValType) (body : List Instr) → Decides (is_constant_of m ty body) (IsConstant m ty body)
constants m ty body = wanted ty (option_and_then (constant_type m) (single body))

declared_funcs_decide : (m : Module) (f : Function) → Decides (is_declared_func m f) (IsDeclaredFunc m f)
declared_funcs_decide m f = Decides-like (is_declared_func m f)
    (λ h. record { type_there = h.0; locals = h.1 }) (λ h. (h.type_there, h.locals))
    (Decides-and (nat_lt f.ty (length m.types)) (list_all (λ run. is_number run.ty) f.locals) (Decides-ltb f.ty (length m.types))
    (of_all (λ run. is_number run.ty) (λ run. IsTrue (is_number run.ty)) (λ run. itself (is_number run.ty)) f.locals))

globals_decide : (m : Module) (g : Variable) → Decides (is_global m g) (IsGlobal m g)
globals_decide m g = Decides-like (is_global m g)
    (λ h. record { number = h.0; init = h.1 }) (λ h. (h.number, h.init))
    (Decides-and (is_number g.ty.ty) (is_constant_of m g.ty.ty g.init) (itself (is_number g.ty.ty)) (constants m g.ty.ty g.init))

nils : (types : List ValType) → Decides (is_nil types) (types ≡ [])
nils [] = (λ _. refl, λ _. refl)
nils (t ∷ types) = (λ h. cc, λ h. cc)

-- the type of a start function
abbrev IsStartType : Option FuncType → Type 0
IsStartType o = (ty : FuncType) × (o ≡ Some ty) × (ty.params ≡ []) × (ty.results ≡ [])

start_types : (o : Option FuncType) → Decides (is_start_type o) (IsStartType o)
start_types None = (λ h. cc, λ h. let e = h.1 in cc)
start_types (Some ty) =
    let both = Decides-and (is_nil ty.params) (is_nil ty.results) (nils ty.params) (nils ty.results) in (
      λ h. (ty, refl, (both.0 h).0, (both.0 h).1),
      λ h. let e : h.0 ≡ ty = (let had = h.1 in cc) in both.1 (subst (λ (t : FuncType). (t.params ≡ []) × (t.results ≡ [])) e (h.2, h.3)),
    )

starts : (m : Module) (start : Option ℕ) → Decides (is_start m start) (IfSome start (IsStart m))
starts m None = (λ _. tt, λ _. refl)
starts m (Some f) = Decides-like (is_start_type (func_type m f))
    (λ h. record { ty = h.0; has_type = h.1; params = h.2; results = h.3 }) (λ h. (h.ty, h.has_type, h.params, h.results))
    (start_types (func_type m f))

funcs_there : (m : Module) (funcs : List ℕ) → Decides (are_funcs m funcs) (AreFuncs m funcs)
funcs_there m funcs = of_all (λ f. is_there m (Func f)) (λ f. IsThere m (Func f)) (λ f. there m (Func f)) funcs

elems_decide : (m : Module) (seg : ElemSeg) → Decides (is_elem m seg) (IsElem m seg)
elems_decide m (Active table offset funcs) = Decides-like (is_elem m (Active table offset funcs))
    (λ h. (h.0, h.1.0, h.1.1)) (λ h. (h.0, (h.1, h.2)))
    (Decides-and (is_there m (Table table)) (is_constant_of m I32 offset && are_funcs m funcs) (there m (Table table))
    (Decides-and (is_constant_of m I32 offset) (are_funcs m funcs) (constants m I32 offset) (funcs_there m funcs)))
elems_decide m (Declared funcs) = funcs_there m funcs

datas_decide : (m : Module) (seg : DataSeg) → Decides (is_data m seg) (IsData m seg)
datas_decide m seg = Decides-like (is_data m seg)
    (λ h. record { memory = h.0; offset = h.1 }) (λ h. (h.memory, h.offset))
    (Decides-and (is_there m (Memory seg.memory)) (is_constant_of m I32 seg.offset) (there m (Memory seg.memory)) (constants m I32 seg.offset))

-- the first of a list and each later one; and those of the rest
pairs_head : {X : Type 0} (R : X → X → Type 0) (x : X) (xs : List X) → AllPairs R (x ∷ xs) → All (R x) xs
pairs_head R x xs h k d below = h 0 (suc k) d (omega arith) (omega arith)

pairs_tail : {X : Type 0} (R : X → X → Type 0) (x : X) (xs : List X) → AllPairs R (x ∷ xs) → AllPairs R xs
pairs_tail R x xs h i j d before below = h (suc i) (suc j) d (omega arith) (omega arith)

names_decide : (exports : List Export)
    → Decides (names_differ exports) (AllPairs (λ (e later : Export). e.name ≢ later.name) exports)
names_decide [] = (λ _ i j d before below. absurd (omega arith), λ _. refl)
names_decide (e ∷ exports) = Decides-like (names_differ (e ∷ exports))
    (λ h. AllPairs-cons (λ (a b : Export). a.name ≢ b.name) e exports h.0 h.1)
    (λ h. (pairs_head (λ (a b : Export). a.name ≢ b.name) e exports h, pairs_tail (λ (a b : Export). a.name ≢ b.name) e exports h))
    (Decides-and (list_all (λ (later : Export). not (bytes_eq e.name later.name)) exports) (names_differ exports)
    (of_all (λ (later : Export). not (bytes_eq e.name later.name)) (λ (later : Export). e.name ≢ later.name)
    (λ later. Decides-not (bytes_eq e.name later.name) (bytes_decides e.name later.name)) exports)
    (names_decide exports))

pub outside_decides : (m : Module) → Decides (is_valid_outside m) (IsValidOutside m)
outside_decides m =
    let types = of_all is_func_type IsFuncType func_types m.types in
    let imports = of_all (λ i. is_import m i.kind) (λ i. IsImport m i.kind) (λ i. imports_decide m i.kind) m.imports in
    let funcs = of_all (is_declared_func m) (IsDeclaredFunc m) (declared_funcs_decide m) m.funcs in
    let tables = of_all is_table IsTable (limits_decide (2 ^ 32)) m.tables in
    let memories = of_all is_memory IsMemory (limits_decide (2 ^ 16)) m.memories in
    let globals = of_all (is_global m) (IsGlobal m) (globals_decide m) m.globals in
    let exports = of_all (λ e. is_there m e.kind) (λ e. IsThere m e.kind) (λ e. there m e.kind) m.exports in
    let names = names_decide m.exports in
    let start = starts m m.start in
    let elems = of_all (is_elem m) (IsElem m) (elems_decide m) m.elems in
    let datas = of_all (is_data m) (IsData m) (datas_decide m) m.datas in
    let one_table = at_most (length (all_tables m)) 1 in
    let one_memory = at_most (length (all_memories m)) 1 in
    Decides-like (is_valid_outside m)
    (λ h. record {
      types = h.0.0;
      imports = h.0.1.0;
      funcs = h.0.1.1.0;
      tables = h.0.1.1.1.0;
      memories = h.0.1.1.1.1.0;
      globals = h.0.1.1.1.1.1;
      exports = h.1.0;
      names_differ = h.1.1.0;
      start = h.1.1.1.0;
      elems = h.1.1.1.1.0;
      datas = h.1.1.1.1.1.0;
      one_table = h.1.1.1.1.1.1.0;
      one_memory = h.1.1.1.1.1.1.1;
    })
    (λ h. (
      (h.types, (h.imports, (h.funcs, (h.tables, (h.memories, h.globals))))),
      (h.exports, (h.names_differ, (h.start, (h.elems, (h.datas, (h.one_table, h.one_memory)))))),
    ))
    (Decides-and _ _
    (Decides-and _ _ types (Decides-and _ _ imports (Decides-and _ _ funcs (Decides-and _ _ tables
    (Decides-and _ _ memories globals)))))
    (Decides-and _ _ exports (Decides-and _ _ names (Decides-and _ _ start (Decides-and _ _ elems
    (Decides-and _ _ datas (Decides-and _ _ one_table one_memory)))))))

-- a body's typing, by the nest that is read and the type that is found
typed_if_ends : (m : Module) (f : Function) (ty : FuncType) (nest : Option Nest) → nest_of f.body ≡ nest
    → type_at m f.ty ≡ Some ty
    → nest_ends (body_context m ty f) (reverse ty.results) nest ≡ true → IsTypedFunc m f
typed_if_ends m f ty None is_nest has_type h = cc
typed_if_ends m f ty (Some nest) is_nest has_type h = record {
  ty = ty;
  nest = nest;
  has_type = has_type;
  is_body = body_of_nest nest f.body is_nest;
  typed = typed_from_ends (body_context m ty f) nest (reverse ty.results) h;
}

typed_if : (m : Module) (f : Function) (ty : Option FuncType) → type_at m f.ty ≡ ty → body_ends m f ty ≡ true
    → IsTypedFunc m f
typed_if m f None has_type h = cc
typed_if m f (Some ty) has_type h = typed_if_ends m f ty (nest_of f.body) refl has_type h

pub bodies_decide : (m : Module) (f : Function) → Decides (is_typed_func m f) (IsTypedFunc m f)
bodies_decide m f = (
  typed_if m f (type_at m f.ty) refl,
  λ h.
      ap (body_ends m f) h.has_type
      ∙ ap (nest_ends (body_context m h.ty f) (reverse h.ty.results)) (nest_of_body h.nest f.body h.is_body)
      ∙ ends_from_typed (body_context m h.ty f) h.nest (reverse h.ty.results) h.typed,
)
