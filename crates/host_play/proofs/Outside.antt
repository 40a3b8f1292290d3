-- The host's activations of a stack are those from the topmost of the host on.
use Rattle.std.proofs.Common.{◌≡◌, List, [], ◌∷◌, sym, subst}
use Rattle.host_script.specs.declared.scripts.Script.{Script}
use Rattle.history_spec.specs.Configuration.{Activation, InModule, InMain, InImport}
use Rattle.flat_steps.specs.Follows.{AwaitsHost, outside_of}
use Rattle.host_play.specs.declared.play_state.Host.{Host}
use Rattle.host_play.specs.Hosts.{Plays}

pub plays_outside : (script : Script) (stack : List Activation) (hosts : List Host) → Plays script stack hosts → Plays script (outside_of stack) hosts
plays_outside script [] hosts p = p
plays_outside script (InModule frame ∷ below) hosts p = plays_outside script below hosts p
plays_outside script (InMain actions ∷ below) hosts p = p
plays_outside script (InImport import args actions «end» ∷ below) hosts p = p

pub plays_whole : (script : Script) (stack : List Activation) (hosts : List Host) → Plays script (outside_of stack) hosts → Plays script stack hosts
plays_whole script [] hosts p = p
plays_whole script (InModule frame ∷ below) hosts p = plays_whole script below hosts p
plays_whole script (InMain actions ∷ below) hosts p = p
plays_whole script (InImport import args actions «end» ∷ below) hosts p = p

-- two stacks with the same activations from the topmost of the host on
pub plays_same : (script : Script) (stack other : List Activation) (hosts : List Host)
    → outside_of other ≡ outside_of stack → Plays script stack hosts → Plays script other hosts
plays_same script stack other hosts same p =
    plays_whole script other hosts (subst (λ outside. Plays script outside hosts) (sym same) (plays_outside script stack hosts p))

-- a stack that awaits the host has a topmost activation of the host
pub awaits_outside : (script : Script) (stack : List Activation) (hosts : List Host) → Plays script stack hosts → AwaitsHost (outside_of stack)
awaits_outside script [] hosts p = absurd p
awaits_outside script (InModule frame ∷ below) hosts p = awaits_outside script below hosts p
awaits_outside script (InMain actions ∷ below) hosts p = tt
awaits_outside script (InImport import args actions «end» ∷ below) hosts p = tt
