-- What is known after a sequence holds of exactly the stacks to which its typing leads.
use Rattle.std.proofs.Common.{◌≡◌, List, [], ◌∷◌, ◌++◌, Option, Some, true, ◌&&◌, option_and_then, refl, sym, subst}
use Rattle.base.proofs.Booleans.{and_parts, and_true}
use Rattle.base.proofs.Options.{and_then_some, cond_some}
use Rattle.wasm_syntax.specs.declared.values.ValType.{ValType}
use Rattle.wasm_syntax.specs.declared.values.ValType.TheVariants.{I32}
use Rattle.wasm_syntax.specs.Nest.{Nest, Empty, Plain, InBlock, InLoop, InIf, InIfElse}
use Rattle.wasm_syntax.specs.Typing.{Context, instr_type, is_block_type, results_of, inside, IsTyped}
use Rattle.wasm_syntax.specs.KnownStacks.{Known, nothing, Fits, push_types, pop, after_instr, ends, known_after}
use Rattle.wasm_syntax.proofs.KnownStacks.{pop_fits, pop_from_fits, pushed_fits, below_pushed, ends_fits, fits_from_ends}
use Rattle.wasm_syntax.proofs.InstrTypes.{behind_fits, behind_from}

-- a stack that fits `nothing` is empty
none_there : (types : List ValType) → Fits nothing types → types ≡ []
none_there types h = h

-- what is known at the end of a body that leaves these types
ends_at : (types : List ValType) (o : Option Known) → (next : Known) × (o ≡ Some next) × Fits next types
    → ends types o ≡ true
ends_at types o p = rw p.1 (ends_fits types p.0 p.2)

-- what is known after a typed sequence holds of the stack after it
pub checked_fits : (ctx : Context) (nest : Nest) (stack : Known) (before after : List ValType) → Fits stack before
    → IsTyped ctx nest before after
    → (next : Known) × (known_after ctx nest stack ≡ Some next) × Fits next after
checked_fits ctx Empty stack before after fits typed = (stack, refl, subst (Fits stack) typed fits)
checked_fits ctx (Plain i rest) stack before after fits typed =
    let p = behind_fits ctx (instr_type ctx i) stack before typed.0 fits typed.1 in
    let q = checked_fits ctx rest p.0 typed.0 after p.2 typed.2 in
    (q.0, rw p.1 q.1, q.2)
checked_fits ctx (InBlock ty body rest) stack before after fits typed =
    let types = results_of ty in
    let it = known_after (inside types ctx) body nothing in
    let over : ends types it ≡ true = ends_at types it (checked_fits (inside types ctx) body nothing [] types refl typed.1) in
    let q = checked_fits ctx rest (push_types types stack) (types ++ before) after (pushed_fits types stack before fits) typed.2 in
    (q.0, rw (and_true (is_block_type ty) (ends types it) typed.0 over) q.1, q.2)
checked_fits ctx (InLoop ty body rest) stack before after fits typed =
    let types = results_of ty in
    let it = known_after (inside [] ctx) body nothing in
    let over : ends types it ≡ true = ends_at types it (checked_fits (inside [] ctx) body nothing [] types refl typed.1) in
    let q = checked_fits ctx rest (push_types types stack) (types ++ before) after (pushed_fits types stack before fits) typed.2 in
    (q.0, rw (and_true (is_block_type ty) (ends types it) typed.0 over) q.1, q.2)
checked_fits ctx (InIf ty body rest) stack before after fits typed =
    let types = results_of ty in
    let it = known_after (inside types ctx) body nothing in
    let over : ends types it ≡ true = ends_at types it (checked_fits (inside types ctx) body nothing [] types refl typed.3) in
    let none : ends types (Some nothing) ≡ true = ends_fits types nothing (sym typed.4) in
    let both = and_true (is_block_type ty && ends types it) (ends types (Some nothing)) (and_true (is_block_type ty) (ends types it) typed.2 over) none in
    let p = pop_fits I32 stack.slots stack.free typed.0 (subst (Fits stack) typed.1 fits) in
    let q = checked_fits ctx rest (push_types types p.0) (types ++ typed.0) after (pushed_fits types p.0 typed.0 p.2) typed.5 in
    (q.0, rw both (rw p.1 q.1), q.2)
checked_fits ctx (InIfElse ty body other rest) stack before after fits typed =
    let types = results_of ty in
    let it = known_after (inside types ctx) body nothing in
    let it' = known_after (inside types ctx) other nothing in
    let over : ends types it ≡ true = ends_at types it (checked_fits (inside types ctx) body nothing [] types refl typed.3) in
    let over' : ends types it' ≡ true = ends_at types it' (checked_fits (inside types ctx) other nothing [] types refl typed.4) in
    let both = and_true (is_block_type ty && ends types it) (ends types it') (and_true (is_block_type ty) (ends types it) typed.2 over) over' in
    let p = pop_fits I32 stack.slots stack.free typed.0 (subst (Fits stack) typed.1 fits) in
    let q = checked_fits ctx rest (push_types types p.0) (types ++ typed.0) after (pushed_fits types p.0 typed.0 p.2) typed.5 in
    (q.0, rw both (rw p.1 q.1), q.2)

-- a body that may leave these types leaves them from an empty stack
body_typed : (ctx : Context) (body : Nest) (types : List ValType)
    → ((next : Known) → known_after ctx body nothing ≡ Some next → Fits next types
    → (before : List ValType) × Fits nothing before × IsTyped ctx body before types)
    → ends types (known_after ctx body nothing) ≡ true → IsTyped ctx body [] types
body_typed ctx body types each over =
    let p = fits_from_ends types (known_after ctx body nothing) over in
    let q = each p.0 p.1 p.2 in
    subst (λ l. IsTyped ctx body l types) q.1 q.2

-- the rest of a body after a block is typed from the block's results and the stack below
behind_block : (ctx : Context) (rest : Nest) (types : List ValType) (stack : Known) (after : List ValType)
    → (before : List ValType) × Fits (push_types types stack) before × IsTyped ctx rest before after
    → (below : List ValType) × Fits stack below × IsTyped ctx rest (types ++ below) after
behind_block ctx rest types stack after q =
    let r = below_pushed types stack q.0 q.1 in
    (r.0, r.2, subst (λ l. IsTyped ctx rest l after) r.1 q.2)

-- a missing `else` leaves nothing
empty_else : (types : List ValType) → ends types (Some nothing) ≡ true → [] ≡ types
empty_else types over =
    let none = fits_from_ends types (Some nothing) over in
    let is_none : nothing ≡ none.0 = cc in
    sym (none_there types (subst (λ k. Fits k types) (sym is_none) none.2))

-- a stack that fits what is known after a sequence is one to which the sequence is typed
pub checked_from : (ctx : Context) (nest : Nest) (stack next : Known) (after : List ValType)
    → known_after ctx nest stack ≡ Some next → Fits next after
    → (before : List ValType) × Fits stack before × IsTyped ctx nest before after
checked_from ctx Empty stack next after e fits =
    let is_next : stack ≡ next = cc in
    (after, subst (λ k. Fits k after) (sym is_next) fits, refl)
checked_from ctx (Plain i rest) stack next after e fits =
    let p = and_then_some (after_instr ctx (instr_type ctx i) stack) (λ s. known_after ctx rest s) next e in
    let q = checked_from ctx rest p.0 next after p.2 fits in
    let r = behind_from ctx (instr_type ctx i) stack p.0 q.0 p.1 q.1 in
    (r.0, r.1, (q.0, r.2, q.2))
checked_from ctx (InBlock ty body rest) stack next after e fits =
    let types = results_of ty in
    let p = cond_some (is_block_type ty && ends types (known_after (inside types ctx) body nothing)) (known_after ctx rest (push_types types stack)) next e in
    let tests = and_parts (is_block_type ty) (ends types (known_after (inside types ctx) body nothing)) p.0 in
    let inner = body_typed (inside types ctx) body types (λ s e' f. checked_from (inside types ctx) body nothing s types e' f) tests.1 in
    let r = behind_block ctx rest types stack after (checked_from ctx rest (push_types types stack) next after p.1 fits) in
    (r.0, r.1, (tests.0, inner, r.2))
checked_from ctx (InLoop ty body rest) stack next after e fits =
    let types = results_of ty in
    let p = cond_some (is_block_type ty && ends types (known_after (inside [] ctx) body nothing)) (known_after ctx rest (push_types types stack)) next e in
    let tests = and_parts (is_block_type ty) (ends types (known_after (inside [] ctx) body nothing)) p.0 in
    let inner = body_typed (inside [] ctx) body types (λ s e' f. checked_from (inside [] ctx) body nothing s types e' f) tests.1 in
    let r = behind_block ctx rest types stack after (checked_from ctx rest (push_types types stack) next after p.1 fits) in
    (r.0, r.1, (tests.0, inner, r.2))
checked_from ctx (InIf ty body rest) stack next after e fits =
    let types = results_of ty in
    let it = known_after (inside types ctx) body nothing in
    let p = cond_some (is_block_type ty && ends types it && ends types (Some nothing))
    (option_and_then (λ below. known_after ctx rest (push_types types below)) (pop I32 stack)) next e in
    let tests = and_parts (is_block_type ty && ends types it) (ends types (Some nothing)) p.0 in
    let tests' = and_parts (is_block_type ty) (ends types it) tests.0 in
    let inner = body_typed (inside types ctx) body types (λ s e' f. checked_from (inside types ctx) body nothing s types e' f) tests'.1 in
    let popped = and_then_some (pop I32 stack) (λ below. known_after ctx rest (push_types types below)) next p.1 in
    let r = behind_block ctx rest types popped.0 after (checked_from ctx rest (push_types types popped.0) next after popped.2 fits) in
    (I32 ∷ r.0, pop_from_fits I32 stack.slots stack.free popped.0 r.0 popped.1 r.1, (r.0, refl, tests'.0, inner, empty_else types tests.1, r.2))
checked_from ctx (InIfElse ty body other rest) stack next after e fits =
    let types = results_of ty in
    let it = known_after (inside types ctx) body nothing in
    let it' = known_after (inside types ctx) other nothing in
    let p = cond_some (is_block_type ty && ends types it && ends types it')
    (option_and_then (λ below. known_after ctx rest (push_types types below)) (pop I32 stack)) next e in
    let tests = and_parts (is_block_type ty && ends types it) (ends types it') p.0 in
    let tests' = and_parts (is_block_type ty) (ends types it) tests.0 in
    let inner = body_typed (inside types ctx) body types (λ s e' f. checked_from (inside types ctx) body nothing s types e' f) tests'.1 in
    let inner' = body_typed (inside types ctx) other types (λ s e' f. checked_from (inside types ctx) other nothing s types e' f) tests.1 in
    let popped = and_then_some (pop I32 stack) (λ below. known_after ctx rest (push_types types below)) next p.1 in
    let r = behind_block ctx rest types popped.0 after (checked_from ctx rest (push_types types popped.0) next after popped.2 fits) in
    (I32 ∷ r.0, pop_from_fits I32 stack.slots stack.free popped.0 r.0 popped.1 r.1, (r.0, refl, tests'.0, inner, inner', r.2))

-- the plain program decides the typing of bodies
pub typed_from_ends : (ctx : Context) (body : Nest) (types : List ValType)
    → ends types (known_after ctx body nothing) ≡ true → IsTyped ctx body [] types
typed_from_ends ctx body types over =
    body_typed ctx body types (λ s e f. checked_from ctx body nothing s types e f) over

pub ends_from_typed : (ctx : Context) (body : Nest) (types : List ValType) → IsTyped ctx body [] types
    → ends types (known_after ctx body nothing) ≡ true
ends_from_typed ctx body types typed =
    ends_at types (known_after ctx body nothing) (checked_fits ctx body nothing [] types refl typed)
