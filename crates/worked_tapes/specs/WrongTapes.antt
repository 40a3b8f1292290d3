-- Tapes that the runs of the example modules do not need, and the runs of these tapes.
use Rattle.std.specs.Prelude.{ℕ, List, [], ◌∷◌, ◌++◌, Some, None}
use Rattle.host_script.specs.declared.scripts.Script.{Script}
use Rattle.host_script.specs.declared.scripts.Address.TheVariants.{Fixed}
use Rattle.host_script.specs.declared.scripts.Action.TheVariants.{Write}
use Rattle.base.specs.declared.outcomes.Outcome.TheVariants.{Ended}
use Rattle.trace_model.specs.declared.tapes.Origin.TheVariants.{Begin, Import, Back}
use Rattle.trace_model.specs.declared.tapes.Next.TheVariants.{Call, Return, End}
use Rattle.trace_model.specs.declared.tapes.Effect.TheVariants.{Grow, Table, Bytes, Entry as SetEntry}
use Rattle.trace_model.specs.declared.tapes.Segment.{Segment}
use Rattle.history_spec.specs.declared.entries.Entry.{Entry}
use Rattle.history_spec.specs.declared.entries.Entry.TheVariants.{HostCall, HostReturn, ImportCall, ImportReturn, Step}
use Rattle.record_replay_spec.specs.TapeRun.{Over, Disagrees, NoRule}
use Rattle.worked_histories.specs.Build.{i32}
use Rattle.worked_histories.specs.Modules.{two_answers, overwrite, nested_call, table_entry}
use Rattle.worked_histories.specs.Scripts.{five_seven, does, does_nothing, calls_back}
use Rattle.worked_tapes.specs.TapeBuild.{segment, changes, Comes, IsNotNeededOf, Replays}

-- ---- bytes

-- the host writes four bytes, and the module reads the last two
abbrev pub writes_four : Script
writes_four = does (Write (Fixed 8) (0xAA ∷ 0xBB ∷ 0xCC ∷ 0xDD ∷ []))

-- the entries up to the call of the import
abbrev pub before_import : List Entry
before_import = HostCall 1 [] ∷ Step 1 0 [] [] None ∷ ImportCall 0 [] ∷ []

-- the entries of a run in which the load gives these bits
abbrev pub loads : ℕ → List Entry
loads bits =
    before_import
    ++ ImportReturn 0 []
    ∷ Step 1 1 [] (i32 8 ∷ []) None
    ∷ Step 1 2 [] (i32 1 ∷ []) None
    ∷ Step 1 3 (i32 8 ∷ i32 1 ∷ []) [] None
    ∷ Step 1 4 [] (i32 8 ∷ []) None
    ∷ Step 1 5 (i32 8 ∷ []) (i32 bits ∷ []) None
    ∷ HostReturn 1 (i32 bits ∷ [])
    ∷ []

-- a tape with a wrong byte, with which the load gives other bits than in the scripted run
abbrev pub wrong_byte_tape : List Segment
wrong_byte_tape = changes (Bytes 10 (0xCC ∷ 0xDE ∷ []) ∷ [])

-- with the wrong byte, the load gives other bits than in the scripted run
abbrev pub WrongByte : Type 0
WrongByte = Comes overwrite writes_four wrong_byte_tape (loads 0xDECC0001) (Over Ended)

-- without bytes, the load gives other bits than in the scripted run
abbrev pub BytesLeftOut : Type 0
BytesLeftOut = Comes overwrite writes_four (changes []) (loads 1) (Over Ended)

-- the tape with a wrong byte is not the needed one
abbrev pub WrongByteNotNeeded : Type 0
WrongByteNotNeeded = IsNotNeededOf overwrite writes_four wrong_byte_tape

-- the tape without bytes is not the needed one
abbrev pub BytesLeftOutNotNeeded : Type 0
BytesLeftOutNotNeeded = IsNotNeededOf overwrite writes_four (changes [])

-- a tape with one more byte, which the module does not read, and which is not needed
abbrev pub one_byte_more : List Segment
one_byte_more = changes (Bytes 10 (0xCC ∷ 0xDD ∷ []) ∷ Bytes 100 (0xFF ∷ []) ∷ [])

-- the tape with one more byte replays the run
abbrev pub ByteMore : Type 0
ByteMore = Replays overwrite writes_four one_byte_more Ended

-- the tape with one more byte is not the needed one
abbrev pub ByteMoreNotNeeded : Type 0
ByteMoreNotNeeded = IsNotNeededOf overwrite writes_four one_byte_more

-- a tape with the needed bytes, but not in one run
abbrev pub bytes_apart : List Segment
bytes_apart = changes (Bytes 10 (0xCC ∷ []) ∷ Bytes 11 (0xDD ∷ []) ∷ [])

-- the tape with the bytes in two runs is not the needed one
abbrev pub BytesApartNotNeeded : Type 0
BytesApartNotNeeded = IsNotNeededOf overwrite writes_four bytes_apart

-- ---- segments

-- a call within the call of an import, without the answer to the import's second call: the next segment begins
-- elsewhere
abbrev pub MissingSegment : Type 0
MissingSegment =
    Comes nested_call calls_back
    (segment Begin [] (Call 1 []) ∷ segment (Import 0) [] (Call 2 [])
    ∷ segment Back (Bytes 0 (4 ∷ []) ∷ []) (Return (Some (i32 1))) ∷ segment Back [] End ∷ [])
    (before_import ++ HostCall 2 [] ∷ Step 2 0 [] [] None ∷ ImportCall 0 [] ∷ []) Disagrees

-- all entries of two answers
abbrev pub two_answers_entries : List Entry
two_answers_entries =
    before_import
    ++ ImportReturn 0 (i32 5 ∷ [])
    ∷ Step 1 1 [] [] None
    ∷ ImportCall 0 []
    ∷ ImportReturn 0 (i32 7 ∷ [])
    ∷ Step 1 2 (i32 5 ∷ i32 7 ∷ []) (i32 12 ∷ []) None
    ∷ HostReturn 1 (i32 12 ∷ [])
    ∷ []

-- the segments of the call and of its answers
abbrev pub two_answers_segments : List Segment
two_answers_segments =
    segment Begin [] (Call 1 []) ∷ segment (Import 0) [] (Return (Some (i32 5)))
    ∷ segment (Import 0) [] (Return (Some (i32 7))) ∷ []

-- a third answer, although control comes back from the call
abbrev pub SegmentMore : Type 0
SegmentMore =
    Comes two_answers five_seven
    (two_answers_segments ++ segment (Import 0) [] (Return (Some (i32 9))) ∷ segment Back [] End ∷ [])
    two_answers_entries Disagrees

-- the last segment is missing
abbrev pub LastMissing : Type 0
LastMissing = Comes two_answers five_seven two_answers_segments two_answers_entries Disagrees

-- a segment after the end is not played, and not needed
abbrev pub segment_after_end : List Segment
segment_after_end = two_answers_segments ++ segment Back [] End ∷ segment Back [] End ∷ []

-- the tape with a segment after the end replays the run
abbrev pub SegmentAfterEnd : Type 0
SegmentAfterEnd = Replays two_answers five_seven segment_after_end Ended

-- the tape with a segment after the end is not the needed one
abbrev pub SegmentAfterEndNotNeeded : Type 0
SegmentAfterEndNotNeeded = IsNotNeededOf two_answers five_seven segment_after_end

-- an end although an import is to be answered: no rule applies
abbrev pub EndInImport : Type 0
EndInImport =
    Comes two_answers five_seven (segment Begin [] (Call 1 []) ∷ segment (Import 0) [] End ∷ []) before_import NoRule

-- ---- effects that cannot be performed

-- bytes past the memory
abbrev pub BytesPast : Type 0
BytesPast = Comes overwrite does_nothing (changes (Bytes 65535 (1 ∷ 2 ∷ []) ∷ [])) before_import Disagrees

-- a growth to fewer pages than the memory has
abbrev pub FewerPages : Type 0
FewerPages = Comes overwrite does_nothing (changes (Grow 0 ∷ [])) before_import Disagrees

-- a growth to more pages than any memory may have
abbrev pub TooManyPages : Type 0
TooManyPages = Comes overwrite does_nothing (changes (Grow 4097 ∷ [])) before_import Disagrees

-- an entry past the table
abbrev pub EntryPast : Type 0
EntryPast = Comes table_entry does_nothing (changes (SetEntry 2 None ∷ [])) before_import Disagrees

-- a growth to fewer entries than the table has
abbrev pub FewerEntries : Type 0
FewerEntries = Comes table_entry does_nothing (changes (Table 1 ∷ [])) before_import Disagrees

-- a growth to more entries than any table may have
abbrev pub TooManyEntries : Type 0
TooManyEntries = Comes table_entry does_nothing (changes (Table 1000001 ∷ [])) before_import Disagrees

-- a growth of a memory that does not exist
abbrev pub NoMemory : Type 0
NoMemory = Comes table_entry does_nothing (changes (Grow 1 ∷ [])) before_import Disagrees

-- all wrong tapes
pub record WrongTapes : Type 0 where
  pub wrong_byte : WrongByte
  pub bytes_left_out : BytesLeftOut
  pub wrong_byte_not_needed : WrongByteNotNeeded
  pub bytes_left_out_not_needed : BytesLeftOutNotNeeded
  pub byte_more : ByteMore
  pub byte_more_not_needed : ByteMoreNotNeeded
  pub bytes_apart_not_needed : BytesApartNotNeeded
  pub missing_segment : MissingSegment
  pub segment_more : SegmentMore
  pub last_missing : LastMissing
  pub segment_after_end : SegmentAfterEnd
  pub segment_after_end_not_needed : SegmentAfterEndNotNeeded
  pub end_in_import : EndInImport
  pub bytes_past : BytesPast
  pub fewer_pages : FewerPages
  pub too_many_pages : TooManyPages
  pub entry_past : EntryPast
  pub fewer_entries : FewerEntries
  pub too_many_entries : TooManyEntries
  pub no_memory : NoMemory
