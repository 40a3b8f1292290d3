-- A plain program beside the typing of instructions: what is known of the operand stack from instruction to
-- instruction (Core 1.0, appendix, "Validation Algorithm", on nested bodies).
use Rattle.std.specs.Prelude.{◌≡◌, ℕ, List, [], ◌∷◌, ◌++◌, map, Option, Some, None, Bool, true, false, cond, ◌&&◌, IsTrue, slice_get, option_and_then}
use Rattle.std.specs.List.{list_all}
use Rattle.std.specs.Cmp.Lexicographic.{pointwise}
use Rattle.wasm_syntax.specs.declared.values.ValType.{ValType}
use Rattle.wasm_syntax.specs.declared.values.ValType.TheVariants.{I32}
pub use Rattle.wasm_syntax.specs.Alike.{same_type}
use Rattle.wasm_syntax.specs.Nest.{Nest, Empty, Plain, InBlock, InLoop, InIf, InIfElse}
use Rattle.wasm_syntax.specs.Typing.{Context, InstrType, Moves, Drops, Selects, Leaves, Switches, instr_type, is_number, is_block_type, results_of, inside}

-- what is known of a stack, the top first: for each operand its type, or else that it is a number; and whether
-- anything, or nothing, may be below these
pub record Known : Type 0 where
  pub slots : List (Option ValType)
  pub free : Bool

abbrev pub known_stack : List (Option ValType) → Bool → Known
known_stack slots free = record { slots = slots; free = free }

-- nothing is known: any operands may be on the stack
abbrev pub anything : Known
anything = known_stack [] true

abbrev pub nothing : Known
nothing = known_stack [] false

-- an operand that is known in this way has the type
abbrev pub IsSlot : Option ValType → ValType → Type 0
IsSlot None t = IsTrue (is_number t)
IsSlot (Some u) t = t ≡ u

-- a stack fits what is known of it
abbrev pub AreSlots : List (Option ValType) → Bool → List ValType → Type 0
AreSlots [] true types = Unit {0}
AreSlots [] false types = types ≡ []
AreSlots (slot ∷ slots) free [] = ⊥
AreSlots (slot ∷ slots) free (t ∷ types) = IsSlot slot t × AreSlots slots free types

abbrev pub Fits : Known → List ValType → Type 0
Fits stack types = AreSlots stack.slots stack.free types

-- whether an operand may have the type
abbrev pub may_be : ValType → Option ValType → Bool
may_be t None = is_number t
may_be t (Some u) = same_type u t

-- operands of these types on top
abbrev pub push_types : List ValType → Known → Known
push_types types stack = known_stack (map Some types ++ stack.slots) stack.free

-- what is known below an operand of this type
abbrev pub pop_from : ValType → List (Option ValType) → Bool → Option Known
pop_from t [] free = cond free (Some anything) None
pop_from t (slot ∷ slots) free = cond (may_be t slot) (Some (known_stack slots free)) None

abbrev pub pop : ValType → Known → Option Known
pop t stack = pop_from t stack.slots stack.free

-- what is known below operands of these types
abbrev pub pops : List ValType → Known → Option Known
pops [] stack = Some stack
pops (t ∷ types) stack = option_and_then (λ below. pops types below) (pop t stack)

-- what is known below one operand of any type
abbrev pub drop_any : List (Option ValType) → Bool → Option Known
drop_any [] free = cond free (Some anything) None
drop_any (slot ∷ slots) free = Some (known_stack slots free)

-- a number that both operands may be
abbrev pub common_slot : Option ValType → Option ValType → Option (Option ValType)
common_slot None None = Some None
common_slot None (Some u) = cond (is_number u) (Some (Some u)) None
common_slot (Some t) other = cond (is_number t && may_be t other) (Some (Some t)) None

-- what is known after one of two numbers of one type is selected
abbrev pub select_slot : List (Option ValType) → Bool → Option Known
select_slot [] free = cond free (Some (known_stack (None ∷ []) true)) None
select_slot (one ∷ []) free =
    cond free (option_and_then (λ slot. Some (known_stack (slot ∷ []) true)) (common_slot one None)) None
select_slot (one ∷ other ∷ slots) free =
    option_and_then (λ slot. Some (known_stack (slot ∷ slots) free)) (common_slot one other)

-- whether the label takes these types
abbrev pub takes : List ValType → Option (List ValType) → Bool
takes label None = false
takes label (Some other) = pointwise same_type label other

-- the types that all of the labels take
abbrev pub common_label : List (List ValType) → List ℕ → Option (List ValType)
common_label labels [] = Some []
common_label labels (l ∷ ls) =
    option_and_then (λ label. cond (list_all (λ k. takes label (slice_get labels k)) ls) (Some label) None)
    (slice_get labels l)

-- what is known after an instruction of this type
abbrev pub after_instr : Context → Option InstrType → Known → Option Known
after_instr ctx None stack = None
after_instr ctx (Some (Moves operands results)) stack =
    option_and_then (λ below. Some (push_types results below)) (pops operands stack)
after_instr ctx (Some Drops) stack = drop_any stack.slots stack.free
after_instr ctx (Some Selects) stack = option_and_then (λ below. select_slot below.slots below.free) (pop I32 stack)
after_instr ctx (Some (Leaves operands)) stack = option_and_then (λ below. Some anything) (pops operands stack)
after_instr ctx (Some (Switches targets)) stack =
    option_and_then (λ label. option_and_then (λ below. Some anything) (pops (I32 ∷ label) stack))
    (common_label ctx.labels targets)

-- whether no operand is known to be on the stack
abbrev pub none_left : List (Option ValType) → Bool
none_left [] = true
none_left (slot ∷ slots) = false

abbrev pub is_over : Option Known → Bool
is_over None = false
is_over (Some stack) = none_left stack.slots

-- whether these operands may be all that there are
abbrev pub ends : List ValType → Option Known → Bool
ends types stack = is_over (option_and_then (λ s. pops types s) stack)

-- what is known after a sequence
abbrev pub known_after : Context → Nest → Known → Option Known
known_after ctx Empty stack = Some stack
known_after ctx (Plain i rest) stack =
    option_and_then (λ next. known_after ctx rest next) (after_instr ctx (instr_type ctx i) stack)
known_after ctx (InBlock ty body rest) stack =
    cond (is_block_type ty && ends (results_of ty) (known_after (inside (results_of ty) ctx) body nothing))
    (known_after ctx rest (push_types (results_of ty) stack)) None
known_after ctx (InLoop ty body rest) stack =
    cond (is_block_type ty && ends (results_of ty) (known_after (inside [] ctx) body nothing))
    (known_after ctx rest (push_types (results_of ty) stack)) None
known_after ctx (InIf ty body rest) stack =
    cond (is_block_type ty && ends (results_of ty) (known_after (inside (results_of ty) ctx) body nothing)
    && ends (results_of ty) (Some nothing))
    (option_and_then (λ below. known_after ctx rest (push_types (results_of ty) below)) (pop I32 stack)) None
known_after ctx (InIfElse ty body other rest) stack =
    cond (is_block_type ty && ends (results_of ty) (known_after (inside (results_of ty) ctx) body nothing)
    && ends (results_of ty) (known_after (inside (results_of ty) ctx) other nothing))
    (option_and_then (λ below. known_after ctx rest (push_types (results_of ty) below)) (pop I32 stack)) None
