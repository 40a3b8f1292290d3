-- The lists of linked modules.
use Rattle.std.proofs.Common.{◌≡◌, ℕ, ◌+◌, ◌≤◌, ◌<◌, List, map, length, true, not, All, sym, ap, subst, arith, length-append}
use Rattle.std.proofs.lemmas.List.{length-map}
use Rattle.std.proofs.lemmas.List.Elements.{All-append, All-map, All-weaker}
use Rattle.wasm_syntax.specs.declared.signatures.FuncType.{FuncType}
use Rattle.wasm_syntax.specs.declared.modules.Module.{Module}
use Rattle.wasm_syntax.specs.declared.modules.Func.{Func}
use Rattle.wasm_syntax.specs.declared.modules.Import.{Import}
use Rattle.wasm_syntax.specs.Index.{func_indices}
use Rattle.wasm_flat.specs.Sizes.{list_limit}
use Rattle.instance_spec.specs.declared.sides.Side.{Side}
use Rattle.instance_spec.specs.declared.sides.Side.TheVariants.{Left, Right}
use Rattle.instance_spec.specs.Instances.{Instance, resolved_instr}
use Rattle.pair_spec.specs.Pairs.{ModulePair, module_of, is_from_other, host_imports, Funcs, is_in, imports_in}
use Rattle.pair_spec.specs.Numbers.{count_in, host_count, side_instance}
use Rattle.pair_spec.specs.Linked.{linked, linked_func, linked_import}
use Rattle.pair_laws.specs.SizeLaws.{CountsAreWithin, LinkedAreShort, LinkedHaveListsWithin}
use Rattle.pair_laws.proofs.Lists.{filter_fewer}
use Rattle.pair_laws.proofs.LinkedAccepted.{quantities}
use Rattle.pair_laws.proofs.LinkedItems.{items_counted, linked_counted}
use Rattle.pair_laws.proofs.LinkedSpaces.{func_space, funcs_whole, types_of_side}

module _ (pair : ModulePair) where
  abbrev whole : Module
  whole = linked pair

  abbrev i : Side → Instance
  i side = side_instance pair side

  indices_count : length (func_indices whole) ≡ count_in pair Funcs
  indices_count =
      let same = ap length (funcs_whole pair) in
      let long = linked_counted ℕ Funcs func_space pair (types_of_side pair) in omega (arith, same, long)

  hosts_fewer : (side : Side) → host_count pair Funcs side ≤ length (imports_in Funcs (module_of pair side))
  hosts_fewer side = filter_fewer (λ i. not (is_from_other side i)) (imports_in Funcs (module_of pair side))

  types_count : length whole.types ≡ length pair.left.types + length pair.right.types
  types_count = length-append pair.left.types pair.right.types

  imports_count : length whole.imports ≤ length pair.left.imports + length pair.right.imports
  imports_count =
      let left = host_imports Left pair.left.imports in
      let right = host_imports Right pair.right.imports in
      let all = length-append (map (linked_import (i Left)) left) (map (linked_import (i Right)) right) in
      let a = length-map left (linked_import (i Left)) in
      let b = length-map right (linked_import (i Right)) in
      let few_left = filter_fewer (λ i. not (is_from_other Left i)) pair.left.imports in
      let few_right = filter_fewer (λ i. not (is_from_other Right i)) pair.right.imports in
      omega (arith, all, a, b, few_left, few_right)

  funcs_count : length whole.funcs ≡ length pair.left.funcs + length pair.right.funcs
  funcs_count =
      let all = length-append (map (linked_func (i Left)) pair.left.funcs) (map (linked_func (i Right)) pair.right.funcs) in
      let a = length-map pair.left.funcs (linked_func (i Left)) in
      let b = length-map pair.right.funcs (linked_func (i Right)) in omega (arith, all, a, b)

  -- a property of all functions that linking keeps
  funcs_all : (P : Func → Type 0) → ((side : Side) (f : Func) → P f → P (linked_func (i side) f)) → All P pair.left.funcs
      → All P pair.right.funcs → All P whole.funcs
  funcs_all P kept left right =
      All-append P (map (linked_func (i Left)) pair.left.funcs) (map (linked_func (i Right)) pair.right.funcs)
      (All-map P (linked_func (i Left)) pair.left.funcs
      (All-weaker P (λ f. P (linked_func (i Left) f)) (kept Left) pair.left.funcs left))
      (All-map P (linked_func (i Right)) pair.right.funcs
      (All-weaker P (λ f. P (linked_func (i Right) f)) (kept Right) pair.right.funcs right))

  -- a property of the number of instructions, of all functions
  bodies_all : (P : ℕ → Type 0) → All (λ (f : Func). P (length f.body)) pair.left.funcs
      → All (λ (f : Func). P (length f.body)) pair.right.funcs → All (λ (f : Func). P (length f.body)) whole.funcs
  bodies_all P left right =
      funcs_all (λ (f : Func). P (length f.body))
      (λ side f h. subst P (sym (length-map f.body (resolved_instr (i side)))) h) left right

pub counts_are_within : CountsAreWithin
counts_are_within pair space =
    let left = hosts_within Left in
    let right = hosts_within Right in omega (arith, left, right)
  where
    hosts_within : (side : Side) → host_count pair space side ≤ length (module_of pair side).imports
    hosts_within side =
        let m = module_of pair side in
        let hosts = filter_fewer (λ i. not (is_from_other side i)) (imports_in space m) in
        let imports = filter_fewer (λ (i : Import). is_in space i.kind) m.imports in omega (arith, hosts, imports)

-- a property of all items that follows from a stronger one
weaker : {X : Type 0} (size : X → ℕ) (most larger : ℕ) → most ≤ larger → (xs : List X) → All (λ x. size x ≤ most) xs
    → All (λ x. size x ≤ larger) xs
weaker size most larger more xs all =
    All-weaker (λ x. size x ≤ most) (λ x. size x ≤ larger) (λ x h. omega (arith, h, more)) xs all

pub linked_have_lists_within : LinkedHaveListsWithin
linked_have_lists_within pair left right a b =
    let all = left + right in
    let more : left ≤ left + right = omega arith in
    let too : right ≤ left + right = omega arith in
    let parts_a = a.parts in
    let parts_b = b.parts in
    let types = types_count pair in
    let imports = imports_count pair in
    let funcs = funcs_count pair in
    let funcs_a = a.funcs in
    let funcs_b = b.funcs in
    let indices = indices_count pair in
    let items_a = items_counted ℕ Funcs func_space pair.left in
    let items_b = items_counted ℕ Funcs func_space pair.right in
    let hosts_a = hosts_fewer pair Left in
    let hosts_b = hosts_fewer pair Right in
    record {
      parts = omega (arith, parts_a, parts_b, types, imports, funcs);
      funcs = omega (arith, funcs_a, funcs_b, indices, items_a, items_b, hosts_a, hosts_b);
      params =
          All-append (λ (ty : FuncType). length ty.params ≤ all) pair.left.types pair.right.types
          (weaker (λ (ty : FuncType). length ty.params) left all more pair.left.types a.params)
          (weaker (λ (ty : FuncType). length ty.params) right all too pair.right.types b.params);
      locals =
          funcs_all pair (λ (f : Func). length f.locals ≤ all) (λ side f h. h)
          (weaker (λ (f : Func). length f.locals) left all more pair.left.funcs a.locals)
          (weaker (λ (f : Func). length f.locals) right all too pair.right.funcs b.locals);
      bodies =
          bodies_all pair (λ k. k ≤ all) (weaker (λ (f : Func). length f.body) left all more pair.left.funcs a.bodies)
          (weaker (λ (f : Func). length f.body) right all too pair.right.funcs b.bodies);
    }

pub linked_are_short : LinkedAreShort
linked_are_short pair left right few_types few_funcs =
    let types = types_count pair in
    let indices = indices_count pair in
    record {
      types = omega (arith, types, few_types);
      funcs = omega (arith, indices, few_funcs);
      params =
          All-append (λ (ty : FuncType). length ty.params < list_limit) pair.left.types pair.right.types left.params
          right.params;
      bodies = bodies_all pair (λ k. k < list_limit) left.bodies right.bodies;
      quantities = quantities pair true left.quantities right.quantities;
    }
