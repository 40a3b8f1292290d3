-- The order of a segment's effects.
use Rattle.std.specs.Prelude.{◌+◌, List, [], ◌∷◌, length, Bool, true, false, ◌&&◌, nat_lt, IsTrue}
use Rattle.trace_model.specs.declared.tapes.Effect.{Effect}
use Rattle.trace_model.specs.declared.tapes.Effect.TheVariants.{Grow, Table, Bytes, Entry, Global}

-- an effect may come directly before another: a growth of the memory before one of the table, then bytes,
-- entries, globals; bytes ascend and neither overlap nor touch; entries and globals ascend
abbrev pub is_before : Effect → Effect → Bool
is_before (Grow pages) (Grow other) = false
is_before (Grow pages) effect = true
is_before (Table size) (Grow pages) = false
is_before (Table size) (Table other) = false
is_before (Table size) effect = true
is_before (Bytes addr bytes) (Bytes other more) = nat_lt (addr + length bytes) other
is_before (Bytes addr bytes) (Entry index func) = true
is_before (Bytes addr bytes) (Global global value) = true
is_before (Bytes addr bytes) effect = false
is_before (Entry index func) (Entry other callee) = nat_lt index other
is_before (Entry index func) (Global global value) = true
is_before (Entry index func) effect = false
is_before (Global global value) (Global other given) = nat_lt global other
is_before (Global global value) effect = false

-- each effect may come directly before the next
abbrev pub are_ordered_after : Effect → List Effect → Bool
are_ordered_after effect [] = true
are_ordered_after effect (next ∷ effects) = is_before effect next && are_ordered_after next effects

abbrev pub are_ordered : List Effect → Bool
are_ordered [] = true
are_ordered (effect ∷ effects) = are_ordered_after effect effects

abbrev pub AreOrdered : List Effect → Type 0
AreOrdered effects = IsTrue (are_ordered effects)
