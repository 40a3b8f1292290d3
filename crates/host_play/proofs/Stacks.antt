-- The last item of a list, which is the first of its reverse.
use Rattle.std.proofs.Common.{◌≡◌, ℕ, ◌+◌, List, ◌∷◌, length, sym, ap, ◌∙◌}
use Rattle.std.specs.Prelude.{reverse, slice_set}
use Rattle.base.proofs.Lists.{last_set, last_is}
use Rattle.host_play.specs.declared.play_state.Host.{Host}
use Rattle.host_play.specs.Hosts.{below_of}

-- the last item replaced by another
pub last_put : (xs : List Host) (n : ℕ) (y : Host) → n + 1 ≡ length xs → reverse (slice_set xs n y) ≡ y ∷ below_of (reverse xs)
last_put xs n y is =
    last_set xs n y is ∙ ap (λ hosts. y ∷ below_of hosts) (sym (last_is xs n y is))
