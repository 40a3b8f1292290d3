-- A script that was read fits the module.
use Rattle.std.proofs.Common.{◌≡◌, ℕ, zero, suc, List, [], ◌∷◌, map, codes, filter, All, Contains, get_or, Option, Some, None, IfSome, is_some, option_and_then, Result, Ok, Err, IsTrue, true, cond, refl, sym, subst, ◌∙◌, arith}
use Rattle.std.specs.List.{cons_option, AllZip}
use Rattle.std.specs.Result.{result_ok}
use Rattle.std.specs.Str.{bytes_eq, is_utf8}
use Rattle.std.proofs.lemmas.List.{length-map}
use Rattle.std.proofs.lemmas.List.Elements.{All-contains}
use Rattle.std.proofs.lemmas.Option.{slice_get-get_or}
use Rattle.std.proofs.lemmas.Slice.Eq.{bytes_eq-Decides}
use Rattle.wasm_syntax.specs.declared.values.Val.{Val}
use Rattle.wasm_syntax.specs.declared.signatures.FuncType.{FuncType}
use Rattle.wasm_syntax.specs.declared.modules.Module.{Module}
use Rattle.wasm_syntax.specs.declared.modules.Import.{Import}
use Rattle.wasm_syntax.specs.declared.modules.ImportKind.{ImportKind}
use Rattle.wasm_syntax.specs.declared.modules.ImportKind.TheVariants.{Func, Table, Memory, Global}
use Rattle.wasm_syntax.specs.Index.{of_kind, func_import, global_import, type_at}
use Rattle.wasm_syntax.specs.Typing.{is_constant}
use Rattle.wasm_syntax.specs.Validity.{IsImport, IsValid}
use Rattle.host_script.specs.declared.scripts.Answer.{Answer}
use Rattle.host_script.specs.Fits.{FitsImport, Fits}
use Rattle.serde_json.specs.Data.{Data}
use Rattle.serde_json.specs.Find.{get}
use Rattle.serde_json.specs.Read.{read}
use Rattle.script_text.specs.declared.faults.ScriptFault.{ScriptFault}
use Rattle.script_text.specs.declared.faults.ScriptFault.TheVariants.{NotJson}
use Rattle.script_text.specs.Walk.{only, under_or, under_if_there}
use Rattle.script_text.specs.Values.{value_of, limits_of}
use Rattle.module_names.specs.Names.{is_kind, imports_with, is_named, import_type, func_types_named}
use Rattle.script_text.specs.Actions.{InMain, actions_under}
use Rattle.script_text.specs.Texts.{each_import, look_value, look_answer, member_for, value_for, answer_of, answer_for, script_of, script_in}
use Rattle.module_names.proofs.Spaces.{length-of_kind}
use Rattle.script_text.specs.FittingScripts.{ValuesFit, TextsFit}
use Rattle.script_text.proofs.Steps.{ok_one, both_ok, passed}
use Rattle.script_text.proofs.Tests.{Among, contained, among_kept, among_found}
use Rattle.script_text.proofs.FittingValues.{value_in_range}
use Rattle.script_text.proofs.FittingActions.{serves_main, actions_fit}
use Rattle.script_text.proofs.Answers.{answer_fits}

-- ---- the imports of one kind

-- a relation of each import of a kind with what is made of it
each_of_kind : {K B : Type 0} (pick : ImportKind → Option K) (make : Import → B) (R : K → B → Type 0) (imports : List Import)
    → ((x : Import) (k : K) → Contains imports x → pick x.kind ≡ Some k → R k (make x))
    → AllZip R (of_kind pick imports) (map make (filter (is_kind pick) imports))
each_of_kind pick make R [] h = tt
each_of_kind {K} pick make R (x ∷ xs) h =
    by (pick x.kind) refl (each_of_kind pick make R xs (λ y k there is. h y k (suc there.0, omega (arith, there.1), there.2) is))
  where
    by : (o : Option K) → pick x.kind ≡ o → AllZip R (of_kind pick xs) (map make (filter (is_kind pick) xs))
        → AllZip R (cons_option o (of_kind pick xs)) (map make (cond (is_some o) (x ∷ filter (is_kind pick) xs) (filter (is_kind pick) xs)))
    by None is rest = rest
    by (Some k) is rest = (h x k (0, omega arith, refl) is, rest)

-- ---- the answers to an import

own_name : (x : Import) → is_named x.«module» x.name x ≡ true
own_name x = rw (own x.«module», own x.name) refl
  where
    own : (bytes : List ℕ) → bytes_eq bytes bytes ≡ true
    own bytes = (bytes_eq-Decides bytes bytes).1 refl

-- the type of an imported function is among those of its names
among_types : (m : Module) (x : Import) (t : ℕ) (ty : FuncType) → Contains m.imports x → func_import x.kind ≡ Some t
    → type_at m t ≡ Some ty
    → Among ty (func_types_named m x.«module» x.name)
among_types m x t ty there is typed =
    among_found (import_type m) x ty (filter (is_named x.«module» x.name) (imports_with func_import m)) (rw (is, typed) refl)
    (among_kept (is_named x.«module» x.name) x (imports_with func_import m) (own_name x)
    (among_kept (is_kind func_import) x m.imports (rw is refl) (contained x m.imports there)))

-- the type of an import of a valid module exists
type_there : (m : Module) (kind : ImportKind) (t : ℕ) → IsImport m kind → func_import kind ≡ Some t
    → (ty : FuncType) × (type_at m t ≡ Some ty)
type_there m (Func i) t there is =
    let same : i ≡ t = cc is in
    let d : FuncType = record { params = []; results = [] } in
    subst (λ t. (ty : FuncType) × (type_at m t ≡ Some ty)) same (get_or m.types i d, slice_get-get_or m.types i d there)
type_there m (Table limits) t there is = cc is
type_there m (Memory limits) t there is = cc is
type_there m (Global ty) t there is = cc is

answer_for_fits : (m : Module) (d : Option Data) (x : Import) (t : ℕ) → IsValid m → Contains m.imports x
    → func_import x.kind ≡ Some t → FitsImport m t (answer_for m d x)
answer_for_fits m d x t valid there is = by (member_for d x)
  where
    typed : (ty : FuncType) × (type_at m t ≡ Some ty)
    typed = type_there m x.kind t (All-contains (λ i. IsImport m i.kind) m.imports x valid.outside.imports there) is

    fits : (a : Data) (r : Result Answer ScriptFault) → answer_of m x.name (func_types_named m x.«module» x.name) a ≡ r
        → FitsImport m t (result_ok r)
    fits a (Ok answer) read = (
      typed.0,
      typed.1,
      answer_fits m valid x.name (func_types_named m x.«module» x.name) typed.0
          (among_types m x t typed.0 there is typed.1) a answer read,
    )
    fits a (Err fault) read = tt

    by : (o : Option Data)
        → FitsImport m t
        (option_and_then (λ a. result_ok (answer_of m x.name (func_types_named m x.«module» x.name) a)) o)
    by None = tt
    by (Some a) = fits a (answer_of m x.name (func_types_named m x.«module» x.name) a) refl

-- ---- the values of globals

value_for_fits : (d : Option Data) (x : Import) → IfSome (value_for d x) (λ v. IsTrue (is_constant v))
value_for_fits d x = by (member_for d x)
  where
    fits : (a : Data) (r : Result Val ScriptFault) → value_of a ≡ r → IfSome (result_ok r) (λ v. IsTrue (is_constant v))
    fits a (Ok v) read = value_in_range a v read
    fits a (Err fault) read = tt

    by : (o : Option Data) → IfSome (option_and_then (λ a. result_ok (value_of a)) o) (λ v. IsTrue (is_constant v))
    by None = tt
    by (Some a) = fits a (value_of a) refl

all_mapped : {A B : Type 0} (P : B → Type 0) (make : A → B) (xs : List A) → ((a : A) → P (make a)) → All P (map make xs)
all_mapped P make [] h k d lt = absurd (omega (arith, lt))
all_mapped P make (x ∷ xs) h zero d lt = h x
all_mapped P make (x ∷ xs) h (suc k) d lt = all_mapped P make xs h k d (omega (arith, lt))

-- ---- scripts

pub script_fits : ValuesFit
unfolding script_of
script_fits m d script valid h =
    let listed = both_ok (only (codes "memory" ∷ codes "table" ∷ codes "globals" ∷ codes "imports" ∷ codes "main" ∷ []) d) _ script h in
    let memory = both_ok (under_if_there (codes "memory") (limits_of (codes "pages")) d) _ script listed.2 in
    let table = both_ok (under_if_there (codes "table") (limits_of (codes "size")) d) _ script memory.2 in
    let globals = both_ok (under_or (codes "globals") tt (each_import global_import m look_value) d) _ script table.2 in
    let imports = both_ok (under_or (codes "imports") tt (each_import func_import m (look_answer m)) d) _ script globals.2 in
    let main = both_ok (actions_under m InMain (codes "main") d) _ script imports.2 in
    let given = map (value_for (get (codes "globals") d)) (imports_with global_import m) in
    let answers = map (answer_for m (get (codes "imports") d)) (imports_with func_import m) in
    subst (Fits m) (ok_one (record { memory = memory.0; table = table.0; globals = given; imports = answers; main = main.0 }) script main.2) (record {
      globals = length-map (imports_with global_import m) (value_for (get (codes "globals") d)) ∙ sym (length-of_kind global_import m.imports);
      values =
          all_mapped (λ given. IfSome given (λ v. IsTrue (is_constant v))) (value_for (get (codes "globals") d))
          (imports_with global_import m) (value_for_fits (get (codes "globals") d));
      imports =
          each_of_kind func_import (answer_for m (get (codes "imports") d)) (FitsImport m) m.imports
          (λ x t there is. answer_for_fits m (get (codes "imports") d) x t valid there is);
      main = actions_fit m InMain [] valid serves_main (codes "main") d main.0 main.1;
    })

pub text_fits : TextsFit
text_fits m bytes script valid h = by (read bytes) (passed (is_utf8 bytes) (script_in m (read bytes)) NotJson script h).1
  where
    by : (o : Option Data) → script_in m o ≡ Ok script → Fits m script
    by None h = cc h
    by (Some d) h = script_fits m d script valid h
