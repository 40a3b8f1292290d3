-- The functions that a module defines, as its code has them, and those of its instrumented module.
use Rattle.std.proofs.Common.{◌≡◌, ℕ, zero, suc, ◌+◌, ◌-◌, List, [], ◌∷◌, ◌++◌, length, map, Option, Some, None, false, cond, nat_lt, slice_get, option_map, option_and_then, unwrap_or, refl, sym, ap, ◌∙◌, arith}
use Rattle.std.proofs.lemmas.Bool.Decides.{nat_tests}
use Rattle.std.proofs.lemmas.Option.{same_Some, slice_get-map}
use Rattle.base.proofs.Lists.{get_after_by}
use Rattle.base.proofs.Options.{map_some, and_then_some, cond_none_some}
use Rattle.wasm_syntax.specs.declared.values.ValType.TheVariants.{I32, I64, F32, F64}
use Rattle.wasm_syntax.specs.declared.signatures.FuncType.{FuncType}
use Rattle.wasm_syntax.specs.declared.instructions.Instr.TheVariants.{End}
use Rattle.wasm_syntax.specs.declared.modules.Func.{Func}
use Rattle.wasm_syntax.specs.declared.modules.Module.{Module}
use Rattle.wasm_syntax.specs.Index.{of_kind, func_import, func_indices, imported_funcs, type_at}
use Rattle.wasm_syntax.specs.Nest.{Nest, IsBody, flat, nest_of}
use Rattle.wasm_syntax.specs.Validity.{each_local}
use Rattle.wasm_syntax.proofs.Nests.{body_of_nest, nest_of_body}
use Rattle.history_spec.specs.Code.{Definition, definition_of, code_of, signature, definition}
use Rattle.record_replay_spec.specs.Hooks.{hook_count, renumber}
use Rattle.record_replay_spec.specs.Instrumented.{instrumented_body, site_of, instrumented_func, each_func, instrumented_module}
use Rattle.record_replay_spec.specs.HookLaws.{BodiesAreInstrumented, InstrumentedKeepsIndices}
use Rattle.instrumented_run_laws.proofs.Relation.{type_of, site_at}

-- the item made of a function, by its place
pub each_at : {X : Type 0} (m : Module) (make : ℕ → Func → Option FuncType → Option Nest → X) (index : ℕ)
    (funcs : List Func) (place : ℕ) (func : Func) → slice_get funcs place ≡ Some func
    → slice_get (each_func m make index funcs) place
    ≡ Some (make (index + place) func (type_at m func.ty) (nest_of func.body))
each_at m make index [] place func h = cc
each_at m make index (f ∷ funcs) zero func h =
    let at : index ≡ index + 0 = omega arith in
    let same : f ≡ func = same_Some f func h in
    (λ i. Some (make (at i) (same i) (type_at m (same i).ty) (nest_of (same i).body)))
each_at m make index (f ∷ funcs) (suc place) func h =
    let at : index + 1 + place ≡ index + suc place = omega arith in
    each_at m make (index + 1) funcs place func h
    ∙ ap (λ k. Some (make k func (type_at m func.ty) (nest_of func.body))) at

-- a defined function of a module: its place among these, its syntax and nested body
pub record IsDefined (m : Module) (index : ℕ) (ty : FuncType) (d : Definition) : Type 0 where
  pub place : ℕ
  pub index_is : index ≡ imported_funcs m + place
  pub func : Func
  pub there : slice_get m.funcs place ≡ Some func
  pub has_type : type_at m func.ty ≡ Some ty
  pub nested : nest_of func.body ≡ Some d.body
  pub locals : each_local func.locals ≡ d.locals

pub is_defined : (m : Module) (index : ℕ) (ty : FuncType) (d : Definition) → signature (code_of m) index ≡ Some ty
    → definition (code_of m) index ≡ Some d → IsDefined m index ty d
is_defined m index ty d signed defined =
    let test = cond_none_some (nat_lt index (imported_funcs m))
    (option_and_then (λ d. d) (slice_get (map definition_of m.funcs) (index - imported_funcs m))) d defined in
    let past = test.0 in
    let at = index - imported_funcs m in
    let index_is : index ≡ imported_funcs m + at = grind (arith, nat_tests, past) in
    let found = and_then_some (slice_get (map definition_of m.funcs) at) (λ d. d) d test.1 in
    let func = map_some definition_of (slice_get m.funcs at) found.0
    (sym (slice_get-map definition_of m.funcs at) ∙ found.1) in
    let nest = map_some (λ nest. record { locals = each_local func.0.locals; body = nest }) (nest_of func.0.body) d
    (func.2 ∙ found.2) in
    let type_index : slice_get (func_indices m) index ≡ Some func.0.ty =
    get_after_by (of_kind func_import m.imports) (map (λ (f : Func). f.ty) m.funcs) index at index_is
    ∙ slice_get-map (λ (f : Func). f.ty) m.funcs at
    ∙ ap (option_map (λ (f : Func). f.ty)) func.1 in
    record {
      place = at;
      index_is = index_is;
      func = func.0;
      there = func.1;
      has_type = sym (ap (option_and_then (λ t. slice_get m.types t)) type_index) ∙ signed;
      nested = nest.1 ∙ ap (λ (x : Definition). Some x.body) nest.2;
      locals = ap (λ (x : Definition). x.locals) nest.2;
    }

-- the site of a function's body, by its type and locals
pub site_is : (m : Module) (index : ℕ) (ty : FuncType) (d : Definition) → signature (code_of m) index ≡ Some ty
    → definition (code_of m) index ≡ Some d
    → site_at m index ≡ record { m = m; func = index; locals = length ty.params + length d.locals }
site_is m index ty d signed defined =
    (λ i. record {
      m = m;
      func = index;
      locals = length (unwrap_or (signed i) (record { params = []; results = [] })).params
          + length (unwrap_or (option_map (λ (x : Definition). x.locals) (defined i)) []);
    })

pub type_is : (m : Module) (index : ℕ) (ty : FuncType) → signature (code_of m) index ≡ Some ty → type_of m index ≡ ty
type_is m index ty signed = ap (λ o. unwrap_or o (record { params = []; results = [] })) signed

-- the definition of an instrumented function
abbrev pub hooked_definition : Module → (index : ℕ) → FuncType → Definition → Definition
hooked_definition m index ty d =
    record {
      locals = d.locals ++ I32 ∷ I32 ∷ I64 ∷ F32 ∷ F64 ∷ [];
      body = instrumented_body (site_at m index) ty d.body;
    }

module _ (m : Module) (index : ℕ) (ty : FuncType) (d : Definition) (signed : signature (code_of m) index ≡ Some ty)
    (defined : definition (code_of m) index ≡ Some d) where
  abbrev known : IsDefined m index ty d
  known = is_defined m index ty d signed defined

  pub site_same : site_of m index ty known.func ≡ site_at m index
  site_same =
      let locals = known.locals in
      ap (λ types. record { m = m; func = index; locals = length ty.params + length types }) locals
      ∙ sym (site_is m index ty d signed defined)

  pub renumbered_is : renumber (imported_funcs m) index ≡ index + hook_count
  renumbered_is =
      let at = known.index_is in
      let past : nat_lt index (imported_funcs m) ≡ false = grind (arith, nat_tests, at) in
      ap (λ b. cond b index (index + hook_count)) past

  module _ (digest : List ℕ) (keeps : InstrumentedKeepsIndices m digest) (bodies : BodiesAreInstrumented) where
    made : slice_get (instrumented_module m digest).funcs known.place
        ≡ Some (instrumented_func m index known.func (Some ty) (Some d.body))
    made =
        let own = known in
        let at : imported_funcs m + own.place ≡ index = sym own.index_is in
        each_at m (instrumented_func m) (imported_funcs m) m.funcs own.place own.func own.there
        ∙ (λ i. Some (instrumented_func m (at i) own.func (own.has_type i) (own.nested i)))

    made_definition : definition_of (instrumented_func m index known.func (Some ty) (Some d.body))
        ≡ Some (hooked_definition m index ty d)
    made_definition =
        let own = known in
        let s = site_of m index ty own.func in
        let body = instrumented_body s ty d.body in
        let nested = bodies.nested s ty d.body (body_of_nest d.body own.func.body own.nested).nested in
        let whole : IsBody body (flat body ++ End ∷ []) = record { nested = nested; written = refl } in
        ap (option_map (λ nest. record { locals = _; body = nest })) (nest_of_body body (flat body ++ End ∷ []) whole)
        ∙ (λ i. Some (record {
          locals = (bodies.locals own.func.locals ∙ ap (λ types. types ++ I32 ∷ I32 ∷ I64 ∷ F32 ∷ F64 ∷ []) own.locals)
              i;
          body = instrumented_body (site_same i) ty d.body;
        }))

    -- an instrumented function is defined
    pub hooked_defined : definition (code_of (instrumented_module m digest)) (renumber (imported_funcs m) index)
        ≡ Some (hooked_definition m index ty d)
    hooked_defined =
        let at = known.index_is in
        let imports = keeps.imports in
        let number = renumbered_is in
        let past : nat_lt (renumber (imported_funcs m) index) (imported_funcs (instrumented_module m digest)) ≡ false =
        grind (arith, nat_tests, at, imports, number) in
        let place : renumber (imported_funcs m) index - imported_funcs (instrumented_module m digest) ≡ known.place =
        omega (arith, at, imports, number) in
        ap
        (λ b. cond b None
        (option_and_then (λ d. d)
        (slice_get (map definition_of (instrumented_module m digest).funcs)
        (renumber (imported_funcs m) index - imported_funcs (instrumented_module m digest)))))
        past
        ∙ ap
        (λ k. option_and_then (λ d. d) (slice_get (map definition_of (instrumented_module m digest).funcs) k)) place
        ∙ ap (option_and_then (λ d. d))
        (slice_get-map definition_of (instrumented_module m digest).funcs known.place
        ∙ ap (option_map definition_of) made
        ∙ ap Some made_definition)
