use Rattle.std.proofs.Common.{◌≡◌, ◌≤◌, ◌++◌, drop, filter}
use Rattle.pair_spec.specs.Pairs.{imports_in, is_in, module_of}
use Rattle.pair_ends.specs.Spaces.{space}
use Rattle.pair_ends.specs.Numbers.{hosts_before_each, hosts_with}
use Rattle.pair_ends.proofs.numbers.Hosts.of.Given as goal

-- what is counted and what is still to be counted are all
abbrev pub invariant-imports : goal.invariant-imports
invariant-imports l =
    (l.before.items ++ hosts_before_each l.side l.count (filter (λ i. is_in (space l.space) i.kind) (drop l.import-index l.import-items))
    ≡ hosts_before_each l.side 0 (imports_in (space l.space) (module_of l.pair l.side)))
    × (hosts_with l.side l.count (filter (λ i. is_in (space l.space) i.kind) (drop l.import-index l.import-items))
    ≡ hosts_with l.side 0 (imports_in (space l.space) (module_of l.pair l.side)))
    × (l.count ≤ l.import-index)
