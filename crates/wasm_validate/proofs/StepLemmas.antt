-- One instruction of the pass over a body.
use Rattle.std.proofs.Common.{◌≡◌, List, [], ◌∷◌, Option, false, refl, sym, ap, ◌∙◌}
use Rattle.std.specs.Prelude.{option_map}
use Rattle.wasm_syntax.specs.declared.values.ValType.{ValType}
use Rattle.wasm_syntax.specs.declared.instructions.Instr.{Instr}
use Rattle.wasm_syntax.specs.declared.instructions.Instr.TheVariants.{Block, Loop, If, Else, End}
use Rattle.wasm_syntax.specs.Typing.{Context, instr_type}
use Rattle.wasm_validate.specs.declared.changes.Change.{Change}
use Rattle.wasm_validate.specs.Changes.{after_change}
use Rattle.wasm_validate.specs.Flat.{Level, State, state, within, state_after, after_plain, if_open, is_closed, after_step}
use Rattle.wasm_validate.specs.Scopes.{Gives}

changed-other : (ctx : Context) (i : Instr) (s : State) → ((ty : Option ValType) → i ≡ Block ty → ⊥)
    → ((ty : Option ValType) → i ≡ Loop ty → ⊥) → ((ty : Option ValType) → i ≡ If ty → ⊥) → (i ≡ Else → ⊥)
    → (i ≡ End → ⊥) → state_after ctx i s ≡ after_plain (instr_type (within ctx s.levels) i) (within ctx s.levels) s
changed-other ctx (Block ty) s b l f e d = absurd (b ty refl)
changed-other ctx (Loop ty) s b l f e d = absurd (l ty refl)
changed-other ctx (If ty) s b l f e d = absurd (f ty refl)
changed-other ctx Else s b l f e d = absurd (e refl)
changed-other ctx End s b l f e d = absurd (d refl)
changed-other ctx i s b l f e d = refl

open-next : {A : Type 0} (levels : List Level) (o : Option A) → is_closed levels ≡ false → o ≡ if_open levels o
open-next [] o h = cc
open-next (l ∷ levels) o h = refl

-- a plain instruction
pub next-other : (ctx : Context) (i : Instr) (s : State) (change : Option Change) → is_closed s.levels ≡ false
    → ((ty : Option ValType) → i ≡ Block ty → ⊥) → ((ty : Option ValType) → i ≡ Loop ty → ⊥)
    → ((ty : Option ValType) → i ≡ If ty → ⊥) → (i ≡ Else → ⊥) → (i ≡ End → ⊥) → Gives change (within ctx s.levels) i
    → option_map (state s.levels) (after_change change s.here) ≡ after_step ctx i s
next-other ctx i s change h b l f e d gives =
    ap (option_map (state s.levels)) (gives s.here)
    ∙ sym (changed-other ctx i s b l f e d)
    ∙ open-next s.levels (state_after ctx i s) h
