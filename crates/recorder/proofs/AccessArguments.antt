-- What accesses and globals observe, by the arguments that the order reads.
use Rattle.std.proofs.Common.{◌≡◌, ℕ, ◌+◌, ◌%◌, List, [], ◌∷◌, Option, Some, None, replicate, slice_get, option_map, refl, sym, ap, ◌∙◌}
use Rattle.std.proofs.lemmas.Option.{slice_get-map}
use Rattle.wasm_syntax.specs.declared.values.Val.{Val}
use Rattle.wasm_syntax.specs.declared.values.ValType.TheVariants.{I32}
use Rattle.wasm_syntax.specs.declared.signatures.GlobalType.{GlobalType}
use Rattle.history_spec.specs.Store.{Store, bytes_of}
use Rattle.history_spec.specs.Instruction.{bits_at}
use Rattle.record_replay_spec.specs.Observations.{Observation, ReadsGlobal, WritesGlobal, load_observations, store_observations, copy_observations}
use Rattle.record_replay_spec.specs.declared.hooks.Hook.TheVariants.{Gget, Gset}
use Rattle.record_replay_spec.specs.Hooks.{on}
use Rattle.record_replay_spec.specs.Logs.{observed_by, value_of_global}
use Rattle.hook_order.specs.Args.{AreArgs}
use Rattle.hook_order.specs.Orders.{OrderParts, IsAccess, IsGlobal}
use Rattle.hook_order.specs.Shapes.{shape_from}
use Rattle.hook_order.specs.declared.access.Access.{Access}
use Rattle.recorder.specs.Known.{HaveTypes}

module _ {args : List Val} (view : Store) where
  pub load_is : {access : Access} → IsAccess args access
      → on view.memory (load_observations (access.base + access.offset) access.width)
      ≡ on view.memory (load_observations (bits_at args 0 + bits_at args 1) (bits_at args 2))
  load_is {access} is =
      ap (λ base. on view.memory (load_observations (base + access.offset) access.width)) (sym is.base)
      ∙ ap (λ offset. on view.memory (load_observations (bits_at args 0 + offset) access.width)) (sym is.offset)
      ∙ ap (λ width. on view.memory (load_observations (bits_at args 0 + bits_at args 1) width)) (sym is.width)

  pub store_is : {access : Access} {bits : ℕ} → IsAccess args access → bits_at args 3 ≡ bits
      → on view.memory
      (store_observations (access.base + access.offset) access.width (bytes_of access.width bits))
      ≡ on view.memory
      (store_observations (bits_at args 0 + bits_at args 1) (bits_at args 2)
      (bytes_of (bits_at args 2) (bits_at args 3)))
  store_is {access} {bits} is reported =
      ap
      (λ base. on view.memory (store_observations (base + access.offset) access.width (bytes_of access.width bits)))
      (sym is.base)
      ∙ ap
      (λ offset. on view.memory
      (store_observations (bits_at args 0 + offset) access.width (bytes_of access.width bits)))
      (sym is.offset)
      ∙ ap
      (λ width. on view.memory
      (store_observations (bits_at args 0 + bits_at args 1) width (bytes_of width bits)))
      (sym is.width)
      ∙ ap
      (λ b. on view.memory
      (store_observations (bits_at args 0 + bits_at args 1) (bits_at args 2) (bytes_of (bits_at args 2) b)))
      (sym reported)

  pub copy_is : {a b c : ℕ} → AreArgs (I32 ∷ I32 ∷ I32 ∷ []) args (a ∷ b ∷ c ∷ [])
      → on view.memory (copy_observations a b c)
      ≡ on view.memory (copy_observations (bits_at args 0) (bits_at args 1) (bits_at args 2))
  copy_is {a} {b} {c} is =
      ap (λ x. on view.memory (copy_observations x b c)) (sym is.reported.0)
      ∙ ap (λ x. on view.memory (copy_observations (bits_at args 0) x c)) (sym is.reported.1.0)
      ∙ ap (λ x. on view.memory (copy_observations (bits_at args 0) (bits_at args 1) x)) (sym is.reported.1.1.0)

  pub fill_is : {a b c : ℕ} → AreArgs (I32 ∷ I32 ∷ I32 ∷ []) args (a ∷ b ∷ c ∷ [])
      → on view.memory (store_observations a c (replicate c (b % 256)))
      ≡ on view.memory
      (store_observations (bits_at args 0) (bits_at args 2) (replicate (bits_at args 2) (bits_at args 1 % 256)))
  fill_is {a} {b} {c} is =
      ap (λ x. on view.memory (store_observations x c (replicate c (b % 256)))) (sym is.reported.0)
      ∙ ap (λ x. on view.memory (store_observations (bits_at args 0) c (replicate c (x % 256)))) (sym is.reported.1.0)
      ∙ ap (λ x. on view.memory (store_observations (bits_at args 0) x (replicate x (bits_at args 1 % 256))))
      (sym is.reported.1.1.0)

module _ {args : List Val} {parts : OrderParts} {global : ℕ} {value : Val} (is : IsGlobal parts args global value) where
  -- the global has this type
  typed : (ty : GlobalType) × (slice_get parts.shape.globals global ≡ Some ty)
      × (value_of_global ty (bits_at args 1) ≡ value)
  typed = go (slice_get parts.shape.globals global) refl is.reported
    where
      go : (found : Option GlobalType) → slice_get parts.shape.globals global ≡ found
          → option_map (λ ty. value_of_global ty (bits_at args 1)) found ≡ Some value
          → (ty : GlobalType) × (slice_get parts.shape.globals global ≡ Some ty)
          × (value_of_global ty (bits_at args 1) ≡ value)
      go None e h = cc
      go (Some ty) e h = (ty, e, cc)

  of_global : (make : ℕ → Val → Observation)
      → on (slice_get parts.shape.globals (bits_at args 0)) (λ ty.
      make (bits_at args 0) (value_of_global ty (bits_at args 1)) ∷ [])
      ≡ make global value ∷ []
  of_global make =
      ap (λ g. on (slice_get parts.shape.globals g) (λ ty. make g (value_of_global ty (bits_at args 1)) ∷ [])) is.index
      ∙ ap (λ o. on o (λ ty. make global (value_of_global ty (bits_at args 1)) ∷ [])) typed.1
      ∙ ap (λ v. make global v ∷ []) typed.2

  pub read_is : (view : Store) → ReadsGlobal global value ∷ [] ≡ observed_by (shape_from parts.shape) Gget args view
  read_is view = sym (of_global ReadsGlobal)

  pub write_is : (view : Store) → WritesGlobal global value ∷ [] ≡ observed_by (shape_from parts.shape) Gset args view
  write_is view = sym (of_global WritesGlobal)

  -- what is known of the global has its type
  pub known_typed : (values : List Val) → HaveTypes parts.shape.globals values
      → option_map (λ known. known.ty) (slice_get values global) ≡ Some value.ty
  known_typed values types =
      sym (slice_get-map (λ known. known.ty) values global)
      ∙ ap (λ found. slice_get found global) types
      ∙ slice_get-map (λ ty. ty.ty) parts.shape.globals global
      ∙ ap (option_map (λ ty. ty.ty)) typed.1
      ∙ ap (λ v. Some v.ty) typed.2
