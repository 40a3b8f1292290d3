-- The projection of two parts of a history.
use Rattle.std.proofs.Common.{◌≡◌, List, [], ◌∷◌, ◌++◌, refl, sym, ap, ◌∙◌}
use Rattle.std.proofs.lemmas.List.{append_assoc}
use Rattle.history_spec.specs.declared.entries.Entry.{Entry}
use Rattle.history_spec.specs.declared.entries.Entry.TheVariants.{HostCall, HostReturn, ImportCall, ImportReturn, Enter, Exit, Step, Trap, HostTrap}
use Rattle.history_spec.specs.Projection.{side, caller_side, call_args, shown_call, shown_return, shown_step, shown_trap, without_innermost}
use Rattle.replay_run_spec.specs.Laws.{ProjectionsRunAlong}

-- entries in front of a whole are in front of its first part
abbrev in_front : (shown whole first second : List Entry) → whole ≡ first ++ second
    → shown ++ whole ≡ (shown ++ first) ++ second
in_front shown whole first second e = ap (λ later. shown ++ later) e ∙ sym (append_assoc shown first second)

pub shown_along : ProjectionsRunAlong
shown_along layout inside args [] second = refl
shown_along layout inside args (HostCall func given ∷ first) second =
    in_front (shown_call (caller_side layout inside) (side layout func) func given) _ _ _
    (shown_along layout (func ∷ inside) given first second)
shown_along layout inside args (HostReturn func results ∷ first) second =
    in_front (shown_return (caller_side layout (without_innermost inside)) (side layout func) func results) _ _ _
    (shown_along layout (without_innermost inside) args first second)
shown_along layout inside args (Enter func ∷ first) second =
    in_front (shown_call (caller_side layout inside) (side layout func) func args) _ _ _
    (shown_along layout (func ∷ inside) args first second)
shown_along layout inside args (Exit func results ∷ first) second =
    in_front (shown_return (caller_side layout (without_innermost inside)) (side layout func) func results) _ _ _
    (shown_along layout (without_innermost inside) args first second)
shown_along layout inside args (Step func number operands results found ∷ first) second =
    in_front (shown_step (side layout func) (Step func number operands results found)) _ _ _
    (shown_along layout inside (call_args operands found) first second)
shown_along layout inside args (Trap func number kind operands found ∷ first) second =
    ap (λ later. shown_trap (side layout func) (Trap func number kind operands found) ∷ later)
    (shown_along layout inside args first second)
shown_along layout inside args (ImportCall import given ∷ first) second =
    shown_along layout inside args first second
shown_along layout inside args (ImportReturn import results ∷ first) second =
    shown_along layout inside args first second
shown_along layout inside args (HostTrap ∷ first) second = shown_along layout inside args first second
