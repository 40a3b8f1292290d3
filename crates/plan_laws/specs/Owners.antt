-- The activations of the host, and which of some things belong to each.
use Rattle.std.specs.Prelude.{ℕ, List, [], ◌∷◌, map, filter, zip, nat_eq, Bool, true, false, ◌&&◌}
use Rattle.std.specs.List.{range_with_len}

-- an activation of the host: its own work, which begins the run; or a call of an import, by its number among the calls
-- of that import in the order in which they begin, counted from 0
pub data Owner : Type 0 where
  Beginning : Owner
  CallOf : (import number : ℕ) → Owner

-- two activations are one
abbrev pub same_owner : Owner → Owner → Bool
same_owner Beginning Beginning = true
same_owner (CallOf import number) (CallOf other place) = nat_eq import other && nat_eq number place
same_owner owner other = false

-- the innermost activation, if these calls of imports are open, the innermost first: the host's own work if none is
abbrev pub innermost_owner : List Owner → Owner
innermost_owner [] = Beginning
innermost_owner (owner ∷ around) = owner

-- those of some things that have this owner, in order, if these are the owners of the things
abbrev pub share_of : {A : Type 0} → Owner → (owners : List Owner) → List A → List A
share_of {A} owner owners things =
    map (λ (own : Owner × A). own.1) (filter (λ (own : Owner × A). same_owner owner own.0) (zip owners things))

-- what each call of each import has, by import and in the order in which the calls begin, given the number of calls of
-- an import and what each activation has
abbrev pub by_calls : {X : Type 0} → (imports : ℕ) → (count : ℕ → ℕ) → (Owner → X) → List (List X)
by_calls imports count has =
    map (λ import. map (λ number. has (CallOf import number)) (range_with_len 0 (count import)))
    (range_with_len 0 imports)
