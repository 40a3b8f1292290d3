-- The module of these tests links if its bytes end within its memory.
use Rattle.std.proofs.Common.{◌≡◌, ℕ, ◌+◌, ◌*◌, ◌≤◌, List, [], ◌∷◌, length, true, nat_le, IsOk, refl, sym, subst, arith}
use Rattle.std.proofs.lemmas.Bool.{le-leb}
use Rattle.std.proofs.lemmas.List.{length-replicate}
use Rattle.wasm_syntax.specs.declared.limits.TheConstants.{PAGE_SIZE}
use Rattle.history_spec.specs.Store.{zeros}
use Rattle.history_spec.specs.Instantiation.{first_false, instantiate, new_store, store_unless, with_segments}
use Rattle.tests_shadows.specs.Modules.{module_with, nothing}

module _ (pages entries offset : ℕ) (bytes : List ℕ) (fits : offset + length bytes ≤ pages * PAGE_SIZE) where
  long : length (zeros (pages * PAGE_SIZE)) ≡ pages * PAGE_SIZE
  long = length-replicate {A = ℕ} (pages * PAGE_SIZE) 0

  test : nat_le (offset + length bytes) (length (zeros (pages * PAGE_SIZE))) ≡ true
  test = le-leb (offset + length bytes) (length (zeros (pages * PAGE_SIZE))) (omega (arith, long, fits))

  pub links : IsOk (instantiate (module_with pages entries offset bytes) nothing)
  links =
      let m = module_with pages entries offset bytes in
      let store = with_segments m nothing.globals (new_store m nothing) in
      subst (λ b. IsOk (store_unless (first_false 0 (b ∷ [])) store)) (sym test) refl
