use Rattle.std.proofs.Common.{◌≡◌, ◌++◌, drop}
use Rattle.record_replay_spec.specs.Insertions.{reports_params}
use Rattle.hook_insert.proofs.sites.BodySite.push_params.Given as goal

-- the instructions appended and those still to append are all
abbrev pub invariant-params : goal.invariant-params
invariant-params l =
    l.code.items ++ reports_params l.self l.local (drop l.local l.params)
    ≡ l.initial.code.items ++ reports_params l.self 0 l.params
