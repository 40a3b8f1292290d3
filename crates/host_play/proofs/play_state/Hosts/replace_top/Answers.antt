-- The topmost activation is the last item.
use Rattle.std.proofs.Common.{◌∷◌, ap, ◌∙◌, arith}
use Rattle.host_play.specs.Hosts.{below_of}
use Rattle.host_play.proofs.Stacks.{last_put}
use Rattle.host_play.proofs.play_state.Hosts.replace_top.Goals as goal

pub returns-then-count-gt0 : goal.returns-then-count-gt0
returns-then-count-gt0 c =
    last_put c.self.inside.items.items _ c.args.host (omega arith)
    ∙ ap (λ hosts. c.args.host ∷ below_of hosts) c.self.view_is
