-- The open functions and calls of a run, beside its activations.
use Rattle.std.proofs.Common.{◌≡◌, ℕ, List, [], ◌∷◌, Option, Some, None, Bool, true, false, nat_lt, refl, ap, ◌∙◌}
use Rattle.wasm_syntax.specs.declared.values.Val.{Val}
use Rattle.history_spec.specs.Configuration.{Activation, InModule, InMain, InImport}
use Rattle.tape_laws.proofs.Trails.{Level, AtFunction, AtCall, at_host, with_top_entered}

-- a function is the topmost level
pub record OpenFunction (func : ℕ) (levels : List Level) (rest : List Level → Type 0) : Type 0 where
  pub below : List Level
  pub stands : levels ≡ AtFunction func ∷ below
  pub mirrors : rest below

-- a call that a function waits for is the topmost level; a defined callee was entered
pub record OpenCall (n callee func : ℕ) (levels : List Level) (rest : List Level → Type 0) : Type 0 where
  pub direct : Bool
  pub entered : Bool
  pub args : List Val
  pub below : List Level
  pub stands : levels ≡ AtCall direct callee entered args ∷ AtFunction func ∷ below
  pub own : nat_lt callee n ≡ false → entered ≡ true
  pub mirrors : rest below

-- The open levels by the activations, the topmost first: an activation of the module has its function, and above it,
-- if a callee is given, the call for which it waits; an activation of the host has none.
abbrev pub Mirrors : (n : ℕ) → (callee : Option ℕ) → List Activation → List Level → Type 0
Mirrors n callee [] levels = ⊥
Mirrors n None (InModule frame ∷ below) levels = OpenFunction frame.func levels (Mirrors n (Some frame.func) below)
Mirrors n (Some callee) (InModule frame ∷ below) levels =
    OpenCall n callee frame.func levels (Mirrors n (Some frame.func) below)
Mirrors n callee (InMain actions ∷ below) levels = levels ≡ []
Mirrors n callee (InImport import args actions «end» ∷ InModule frame ∷ below) levels =
    OpenCall n import frame.func levels (Mirrors n (Some frame.func) below) × (nat_lt import n ≡ true)
Mirrors n callee (InImport import args actions «end» ∷ below) levels = ⊥

-- an activation of the host
abbrev pub IsHost : List Activation → Type 0
IsHost [] = ⊥
IsHost (InModule frame ∷ below) = ⊥
IsHost stack = Unit {0}

module _ (n : ℕ) where
  pub host_on_top : (callee : Option ℕ) (stack : List Activation) (levels : List Level) → IsHost stack
      → Mirrors n callee stack levels → at_host n levels ≡ true
  host_on_top callee [] levels host h = absurd host
  host_on_top callee (InModule frame ∷ below) levels host h = absurd host
  host_on_top None (InMain actions ∷ below) levels host h = ap (at_host n) h
  host_on_top (Some callee) (InMain actions ∷ below) levels host h = ap (at_host n) h
  host_on_top None (InImport import args actions «end» ∷ InModule frame ∷ below) levels host h =
      ap (at_host n) h.0.stands ∙ h.1
  host_on_top (Some callee) (InImport import args actions «end» ∷ InModule frame ∷ below) levels host h =
      ap (at_host n) h.0.stands ∙ h.1
  host_on_top callee (InImport import args actions «end» ∷ []) levels host h = absurd h
  host_on_top callee (InImport import args actions «end» ∷ InMain more ∷ below) levels host h = absurd h
  host_on_top callee (InImport import args actions «end» ∷ InImport i a more e ∷ below) levels host h = absurd h

  -- an activation of the host mirrors the levels for any callee
  pub any_callee : (callee other : Option ℕ) (stack : List Activation) (levels : List Level) → IsHost stack
      → Mirrors n callee stack levels → Mirrors n other stack levels
  any_callee callee other [] levels host h = absurd host
  any_callee callee other (InModule frame ∷ below) levels host h = absurd host
  any_callee callee other (InMain actions ∷ below) levels host h = h
  any_callee callee other (InImport import args actions «end» ∷ InModule frame ∷ below) levels host h = h
  any_callee callee other (InImport import args actions «end» ∷ []) levels host h = absurd h
  any_callee callee other (InImport import args actions «end» ∷ InMain more ∷ below) levels host h = absurd h
  any_callee callee other (InImport import args actions «end» ∷ InImport i a more e ∷ below) levels host h = absurd h

  -- the host calls a function
  pub host_enters : (callee : Option ℕ) (stack : List Activation) (levels : List Level) → IsHost stack
      → Mirrors n callee stack levels → Mirrors n callee stack (with_top_entered levels)
  host_enters callee [] levels host h = absurd host
  host_enters callee (InModule frame ∷ below) levels host h = absurd host
  host_enters callee (InMain actions ∷ below) levels host h = ap with_top_entered h
  host_enters callee (InImport import args actions «end» ∷ InModule frame ∷ below) levels host h = (
    record {
      direct = h.0.direct;
      entered = true;
      args = h.0.args;
      below = h.0.below;
      stands = ap with_top_entered h.0.stands;
      own = λ e. refl;
      mirrors = h.0.mirrors;
    },
    h.1,
  )
  host_enters callee (InImport import args actions «end» ∷ []) levels host h = absurd h
  host_enters callee (InImport import args actions «end» ∷ InMain more ∷ below) levels host h = absurd h
  host_enters callee (InImport import args actions «end» ∷ InImport i a more e ∷ below) levels host h = absurd h
