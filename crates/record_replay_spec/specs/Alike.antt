-- Tests of values, origins and ends of the host's activities for equality.
use Rattle.std.specs.Prelude.{List, [], ◌∷◌, Option, Some, None, Bool, true, false, ◌&&◌, nat_eq}
use Rattle.wasm_syntax.specs.declared.values.Val.{Val}
use Rattle.wasm_syntax.specs.Alike.{same_type}
use Rattle.trace_model.specs.declared.tapes.Origin.{Origin}
use Rattle.trace_model.specs.declared.tapes.Origin.TheVariants.{Begin, Import, Back}
use Rattle.trace_model.specs.declared.tapes.Next.{Next}
use Rattle.trace_model.specs.declared.tapes.Next.TheVariants.{Call, Return, End, Trap}

-- two options are both empty, or both hold a value and the values pass the test
abbrev pub same_option : {X : Type 0} → (X → X → Bool) → Option X → Option X → Bool
same_option same None None = true
same_option same None (Some b) = false
same_option same (Some a) None = false
same_option same (Some a) (Some b) = same a b

-- two values have one type and equal bits
abbrev pub same_value : Val → Val → Bool
same_value a b = same_type a.ty b.ty && nat_eq a.bits b.bits

-- two lists have equal items
abbrev pub same_list : {X : Type 0} → (X → X → Bool) → List X → List X → Bool
same_list same [] [] = true
same_list same [] (b ∷ bs) = false
same_list same (a ∷ rest) [] = false
same_list same (a ∷ rest) (b ∷ bs) = same a b && same_list same rest bs

-- two lists of values have equal values
abbrev pub same_values : List Val → List Val → Bool
same_values values others = same_list same_value values others

-- two origins of the host's activities are equal
abbrev pub same_origin : Origin → Origin → Bool
same_origin Begin Begin = true
same_origin (Import a) (Import b) = nat_eq a b
same_origin Back Back = true
same_origin a b = false

-- two ends of the host's activities are equal
abbrev pub same_next : Next → Next → Bool
same_next (Call func args) (Call other given) = nat_eq func other && same_values args given
same_next (Return result) (Return other) = same_option same_value result other
same_next End End = true
same_next Trap Trap = true
same_next a b = false
