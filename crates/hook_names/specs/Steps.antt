-- Hook calls one after another.
use Rattle.std.specs.Prelude.{◌≡◌, List, [], ◌∷◌, Result, Ok, Err, ⊤, ◌⊎◌}
use Rattle.record_replay_spec.specs.Hooks.{HookCall}
use Rattle.hook_names.specs.declared.hooks.HookFault.{HookFault}

-- a call that is never refused and changes nothing
abbrev pub IsAccepted : {H : Type 0} → (before : H) → HookCall → Result ⊤ HookFault → (after : H) → Type 0
IsAccepted before call answer after = (answer ≡ Ok tt) × (before ≡ after)

-- a relation for the steps of hooks: before a call, the call, its answer, and after it
abbrev pub Steps : Type 0 → Type 1
Steps H = H → HookCall → Result ⊤ HookFault → H → Type 0

-- a run of calls leads from some hooks to others with this answer: each call that is made is accepted, except
-- for the last if it is refused; after a refused call no call is made
abbrev pub IsRun : {H : Type 0} → Steps H → (before : H) → List HookCall → Result ⊤ HookFault → (after : H) → Type 0
IsRun is_step before [] answer after = (answer ≡ Ok tt) × (before ≡ after)
IsRun {H} is_step before (call ∷ calls) answer after =
    ((between : H) × is_step before call (Ok tt) between × IsRun is_step between calls answer after)
    ⊎ ((fault : HookFault) × (answer ≡ Err fault) × is_step before call answer after)
