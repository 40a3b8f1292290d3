-- The tapes of the examples: what the host does in each of these runs that its module observes.
use Rattle.std.specs.Prelude.{ℕ, List, [], ◌∷◌, ◌++◌, drop, flat_map, Some, None}
use Rattle.std.specs.List.{range_with_len}
use Rattle.trace_model.specs.declared.tapes.Origin.{Origin}
use Rattle.trace_model.specs.declared.tapes.Origin.TheVariants.{Begin, Import, Back}
use Rattle.trace_model.specs.declared.tapes.Effect.{Effect}
use Rattle.trace_model.specs.declared.tapes.Effect.TheVariants.{Bytes}
use Rattle.trace_model.specs.declared.tapes.Next.{Next}
use Rattle.trace_model.specs.declared.tapes.Next.TheVariants.{Call, Return, End, Trap}
use Rattle.trace_model.specs.declared.tapes.Segment.{Segment}
use Rattle.trace_model.specs.declared.tapes.Tape.{Tape}
use Rattle.worked_histories.specs.Build.{i32}

-- a segment, by its parts
abbrev pub segment : Origin → List Effect → Next → Segment
segment origin effects next = record { origin = origin; effects = effects; next = next }

-- a tape with these segments
abbrev pub tape : List Segment → Tape
tape segments = record { segments = segments }

-- the host calls function 1
abbrev pub calls_one : Segment
calls_one = segment Begin [] (Call 1 [])

-- the host's work ends
abbrev pub ends_work : Segment
ends_work = segment Back [] End

-- a call of import 0 has these effects, and returns nothing
abbrev pub returns_after : List Effect → Segment
returns_after effects = segment (Import 0) effects (Return None)

-- a call of import 0 returns a number
abbrev pub five : Segment
five = segment (Import 0) [] (Return (Some (i32 5)))

-- a call of import 0 returns 7
abbrev pub seven : Segment
seven = segment (Import 0) [] (Return (Some (i32 7)))

-- one call of function 1, which calls the import twice
abbrev pub two_answers_tape : Tape
two_answers_tape = tape (calls_one ∷ five ∷ seven ∷ ends_work ∷ [])

-- the tape of a run without calls
abbrev pub idle_tape : Tape
idle_tape = tape (segment Begin [] End ∷ [])

-- one call of function 1, which calls the import once
abbrev pub one_return : List Effect → Tape
one_return effects = tape (calls_one ∷ returns_after effects ∷ ends_work ∷ [])

-- one call of function 1, which calls the import once and then traps
abbrev pub one_return_then_trap : List Effect → Tape
one_return_then_trap effects = tape (calls_one ∷ returns_after effects ∷ [])

-- fifteen bytes, which take a store of each width
abbrev pub fifteen_bytes : List Effect
fifteen_bytes =
    Bytes 100 (1 ∷ 2 ∷ 3 ∷ 4 ∷ 5 ∷ 6 ∷ 7 ∷ 0xF8 ∷ 9 ∷ 10 ∷ 11 ∷ 0xFC ∷ 13 ∷ 14 ∷ 15 ∷ []) ∷ []

-- the host calls function 2 within the call of the import, writes, and returns
abbrev pub calls_two : Segment
calls_two = segment (Import 0) [] (Call 2 [])

-- a call of import 0 returns 2
abbrev pub two : Segment
two = segment (Import 0) [] (Return (Some (i32 2)))

-- after a nested call the host writes a byte, and the import returns 1
abbrev pub four_then_one : Segment
four_then_one = segment Back (Bytes 0 (4 ∷ []) ∷ []) (Return (Some (i32 1)))

-- a nested call, with a write after it
abbrev pub nested_call_tape : Tape
nested_call_tape = tape (calls_one ∷ calls_two ∷ two ∷ four_then_one ∷ ends_work ∷ [])

-- the effects come before the nested call
abbrev pub early_effects_tape : Tape
early_effects_tape =
    tape
    (calls_one
    ∷ record calls_two { effects = four_then_one.effects }
    ∷ two
    ∷ record four_then_one { effects = [] }
    ∷ ends_work ∷ [])

-- the tape of a run in which function 2 traps
abbrev pub nested_trap_tape : Tape
nested_trap_tape = tape (calls_one ∷ calls_two ∷ [])

-- one call of function 1, whose call of the import traps
abbrev pub host_trap_tape : Tape
host_trap_tape = tape (calls_one ∷ segment (Import 0) [] Trap ∷ [])

-- one call of function 0, which calls no import
abbrev pub calls_zero_tape : Tape
calls_zero_tape = tape (segment Begin [] (Call 0 []) ∷ ends_work ∷ [])

-- the tape of a run that reads into buffers on a stack
abbrev pub c_buffers_tape : Tape
c_buffers_tape =
    tape
    (calls_one
    ∷ segment (Import 0) (Bytes 66544 (0x68 ∷ 0x69 ∷ 0x0A ∷ []) ∷ Bytes 66552 (3 ∷ []) ∷ [])
    (Return (Some (i32 0)))
    ∷ ends_work ∷ [])

-- the segments of one call of function 2, whose import answers with its number
abbrev pub counted_call : ℕ → List Segment
counted_call number = segment Back [] (Call 2 []) ∷ segment (Import 0) [] (Return (Some (i32 number))) ∷ []

-- the tape of `count` calls of the import, each answered with its number
abbrev pub counted_tape : ℕ → Tape
counted_tape count =
    tape
    (segment Begin [] (Call 2 []) ∷ drop 1 (flat_map counted_call (range_with_len 0 count)) ++ ends_work ∷ [])
