-- What the bodies of a guarded module may name.
use Rattle.std.proofs.Common.{◌≡◌, ℕ, suc, ◌+◌, ◌-◌, ◌<◌, ◌≤◌, List, [], ◌∷◌, ◌++◌, length, map, Some, true, slice_get, option_and_then, option_map, refl, sym, ap, ◌∙◌, arith, length-append}
use Rattle.std.specs.Prelude.{flat_map, is_some}
use Rattle.std.proofs.lemmas.List.{append_assoc, length-map, map-append}
use Rattle.std.proofs.lemmas.Option.{get_or_from_slice_get, slice_get-map, slice_get_within}
use Rattle.std.specs.List.{AllByRecursion}
use Rattle.base.proofs.Lists.{get_after_by, get_front, item_there}
use Rattle.wasm_syntax.specs.declared.signatures.FuncType.{FuncType}
use Rattle.wasm_syntax.specs.declared.signatures.GlobalType.{GlobalType}
use Rattle.wasm_syntax.specs.declared.signatures.Limits.{Limits}
use Rattle.wasm_syntax.specs.declared.instructions.Instr.{Instr}
use Rattle.wasm_syntax.specs.declared.modules.Func.{Func}
use Rattle.wasm_syntax.specs.declared.modules.Global.{Global}
use Rattle.wasm_syntax.specs.declared.modules.Module.{Module}
use Rattle.wasm_syntax.specs.Index.{of_kind, global_import, memory_import, func_indices, func_type, type_at, all_globals, all_memories, imported_globals}
use Rattle.wasm_syntax.specs.Nest.{Nest, flat, IsBody}
use Rattle.wasm_syntax.specs.Validity.{body_context, declared_funcs, each_local, elem_funcs}
use Rattle.history_spec.specs.Projection.{Layout}
use Rattle.replay_module_spec.specs.Functions.{start_type}
use Rattle.type_safety.proofs.Wider.{IsKnown, Widens}
use Rattle.guarded_module_spec.specs.declared.numbers.Numbers.{Numbers}
use Rattle.guarded_module_spec.specs.Numbers.{digest_count, numbers_of, start_place, digest_place}
use Rattle.guarded_module_spec.specs.GuardedModules.{own_funcs, own_globals, own_types, type_in, guarded_module}
use Rattle.guarded_module_spec.specs.Forms.{IsGuardable}
use Rattle.guarded_module_laws.proofs.Indices.{types_length, types_of, indices_of, indices_are, fronted, fronted_long, digest_type}
use Rattle.guarded_module_laws.proofs.Known.{RefersElsewhere, exported_is, nest_known}
use Rattle.guarded_module_laws.proofs.TypedFronts.{gives_word}

memory_is : (memories : List Limits) (more : ℕ) → digest_count memories ≡ suc more
    → (is_some (slice_get memories 0) ≡ true) × (digest_count memories ≡ 1)
memory_is [] more h = absurd (cc h)
memory_is (memory ∷ memories) more h = (refl, refl)

module _ (m : Module) (layout : Layout) (entry : ℕ) (words : List ℕ) (guardable : IsGuardable m layout entry) where
  abbrev n : Numbers
  n = numbers_of m layout

  abbrev guarded : Module
  guarded = guarded_module m layout entry words

  pub alone : m.imports ≡ []
  alone = guardable.form.alone

  pub within : layout.imports + layout.defined ≤ length m.funcs
  within =
      let long = ap length (indices_of m alone) in
      let many = types_length m.funcs in
      let all = guardable.form.laid.within in omega (arith, long, many, all)

  pub more_funcs : length (func_indices m) ≤ length (func_indices guarded)
  more_funcs =
      let own = ap length (indices_of m alone) in
      let all = ap length (indices_are m layout entry words alone within) in
      let both = length-append (types_of m.funcs) (fronted m layout entry words ++ types_of (own_funcs n entry words)) in omega (arith, own, all, both)

  -- the function that the guarded module exports is there
  pub start_there : start_place n < length (func_indices guarded)
  start_there =
      let all = ap length (indices_are m layout entry words alone within) in
      let own = types_length m.funcs in
      let both = length-append (types_of m.funcs) (fronted m layout entry words ++ types_of (own_funcs n entry words)) in
      let second = length-append (fronted m layout entry words) (types_of (own_funcs n entry words)) in
      let front = fronted_long m layout entry words alone within in omega (arith, all, own, both, second, front)

  -- ---- globals

  pub globals_are : all_globals guarded ≡ all_globals m ++ map (λ (g : Global). g.ty) (own_globals (length words))
  globals_are =
      ap (λ l. imported_globals m ++ l) (map-append (λ (g : Global). g.ty) m.globals (own_globals (length words)))
      ∙ sym (append_assoc (imported_globals m) (map (λ (g : Global). g.ty) m.globals)
      (map (λ (g : Global). g.ty) (own_globals (length words))))

  pub globals_long : length (all_globals m) ≡ length m.globals
  globals_long =
      ap (λ imports. length (of_kind global_import imports ++ map (λ (g : Global). g.ty) m.globals)) alone
      ∙ length-map m.globals (λ (g : Global). g.ty)

  pub own_global : (x j : ℕ) → x ≡ length m.globals + j
      → slice_get (all_globals guarded) x ≡ slice_get (map (λ (g : Global). g.ty) (own_globals (length words))) j
  own_global x j is =
      let long = globals_long in
      ap (λ l. slice_get l x) globals_are
      ∙ get_after_by (all_globals m) (map (λ (g : Global). g.ty) (own_globals (length words))) x j (omega (arith, is, long))

  pub global_kept : (x : ℕ) (g : GlobalType) → slice_get (all_globals m) x ≡ Some g
      → slice_get (all_globals guarded) x ≡ Some g
  global_kept x g h =
      ap (λ l. slice_get l x) globals_are
      ∙ get_front (all_globals m) (map (λ (g : Global). g.ty) (own_globals (length words))) x
      (slice_get_within (all_globals m) x g h) ∙ h

  -- ---- the memory

  pub memory_there : (more : ℕ) → n.digests ≡ suc more
      → (is_some (slice_get (all_memories guarded) 0) ≡ true)
      × (func_type guarded (digest_place n) ≡ Some gives_word)
  memory_there more h =
      let is = memory_is m.memories more h in (
        ap (λ imports. is_some (slice_get (of_kind memory_import imports ++ m.memories) 0)) alone ∙ is.0,
        digest_type m layout entry words alone within is.1,
      )

  -- ---- a type that is there

  pub type_is : (ty : ℕ) → ty < length m.types → slice_get m.types ty ≡ Some (type_in m.types ty)
  type_is ty there =
      let t = item_there m.types ty there in
      t.1 ∙ ap (λ x. Some x) (sym (get_or_from_slice_get m.types ty t.0 start_type t.1))

  pub func_at_place : (x : ℕ) (f : Func) → slice_get m.funcs x ≡ Some f → f.ty < length m.types
      → func_type m x ≡ Some (type_in m.types f.ty)
  func_at_place x f found there =
      ap (λ l. option_and_then (type_at m) (slice_get l x)) (indices_of m alone)
      ∙ ap (option_and_then (type_at m)) (slice_get-map (λ (f : Func). f.ty) m.funcs x)
      ∙ ap (λ o. option_and_then (type_at m) (option_map (λ (f : Func). f.ty) o)) found
      ∙ type_is f.ty there

  -- ---- bodies with other numbers

  abbrev in_elems : List ℕ
  in_elems = flat_map elem_funcs m.elems

  declared_is : declared_funcs m ≡ in_elems ++ entry ∷ []
  declared_is = ap (λ l. in_elems ++ l) (exported_is m.exports entry guardable.only)

  -- numbers by which functions have their types
  abbrev pub KeepsFuncs : (ℕ → ℕ) → Type 0
  KeepsFuncs to = (f : ℕ) (ty : FuncType) → func_type m f ≡ Some ty → func_type guarded (to f) ≡ Some ty

  module _ (to : ℕ → ℕ) (keeps : KeepsFuncs to) (ty : FuncType) (f other : Func) (locals : other.locals ≡ f.locals) where
    pub widens : Widens to (body_context m ty f) (body_context guarded ty other)
    widens =
        record {
          types = λ t ty h. get_front m.types own_types t (slice_get_within m.types t ty h) ∙ h;
          funcs = keeps;
          tables = λ x. refl;
          memory = refl;
          globals = global_kept;
          locals = λ x t h. ap (λ l. slice_get (ty.params ++ each_local l) x) locals ∙ h;
          labels = λ l x h. h;
          results = refl;
        }

    pub body_known : (nest : Nest) (body : List Instr) → IsBody nest body
        → AllByRecursion (RefersElsewhere entry) body
        → AllByRecursion (IsKnown (body_context m ty f) (body_context guarded ty other)) (flat nest)
    body_known nest body is elsewhere =
        nest_known entry (body_context m ty f) (body_context guarded ty other) (start_place n) in_elems declared_is refl
        more_funcs nest body is elsewhere
