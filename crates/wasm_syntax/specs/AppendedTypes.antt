-- Function types that are appended to the types of a module.
use Rattle.std.specs.Prelude.{◌≡◌, ◌≢◌, ℕ, ◌+◌, List, [], ◌∷◌, ◌++◌, Some, slice_get, Contains, AllPairs}
use Rattle.wasm_syntax.specs.declared.signatures.FuncType.{FuncType}

-- the number of types before the appended ones, and the appended types by their places
pub record AppendedTypes : Type 0 where
  pub count : ℕ
  pub types : List FuncType

-- no type is appended twice
abbrev pub AreDistinct : List FuncType → Type 0
AreDistinct types = AllPairs (λ (ty later : FuncType). ty ≢ later) types

-- an appended type has this index
pub record HasNumber (appended : AppendedTypes) (ty : FuncType) (number : ℕ) : Type 0 where
  pub place : ℕ
  pub at_place : slice_get appended.types place ≡ Some ty
  pub behind : number ≡ appended.count + place

-- the effect of a request for a type's index: the type is among the appended ones already, or is added last
pub data Asks (ty : FuncType) (old new : AppendedTypes) : Type 0 where
  Stays : (there : Contains old.types ty) (same : new ≡ old) → Asks ty old new
  Grows : (absent : ¬ Contains old.types ty) (added : new ≡ record { count = old.count; types = old.types ++ ty ∷ [] })
      → Asks ty old new
