use Rattle.std.proofs.Common.{◌≡◌, ◌++◌, ◌+◌, length}
use Rattle.replay_module_spec.specs.Effects.{store_widths, stores_code}
use Rattle.replay_gen.proofs.stores.push_stores.Given as goal

-- the instructions appended and those still to append are all
abbrev pub invariant-stores : goal.invariant-stores
invariant-stores l =
    (l.code.items ++ stores_code (store_widths (length l.rest)) l.at l.rest
    ≡ l.fn.code.items ++ stores_code (store_widths (length l.bytes)) l.address l.bytes)
    × (l.at + length l.rest ≡ l.address + length l.bytes)

abbrev pub decreases-stores : goal.decreases-stores
decreases-stores l = length l.rest
