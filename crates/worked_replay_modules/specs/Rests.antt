-- Rests of runs from a top-level call on: what is left of histories and of tapes, what is known before the call, and
-- the modules that begin in the known state.
use Rattle.std.specs.Prelude.{◌≡◌, ℕ, ◌-◌, List, [], ◌∷◌, ◌++◌, map, Option, Some, None, Result, Ok, Err, true, false, codes, cond, nat_eq, slice_get, option_map}
use Rattle.base.specs.declared.opcodes.TheConstants.{I32_STORE8}
use Rattle.wasm_syntax.specs.declared.limits.TheConstants.{PAGE_SIZE}
use Rattle.wasm_syntax.specs.declared.values.ValType.TheVariants.{I32, F32}
use Rattle.wasm_syntax.specs.declared.instructions.Instr.TheVariants.{End, Call as CallInstr, Const, GlobalGet, Store as StoreTo}
use Rattle.wasm_syntax.specs.declared.modules.DataSeg.{DataSeg}
use Rattle.wasm_syntax.specs.declared.modules.ElemSeg.TheVariants.{Active}
use Rattle.wasm_syntax.specs.declared.modules.Module.{Module}
use Rattle.host_script.specs.declared.scripts.Address.TheVariants.{Fixed}
use Rattle.host_script.specs.declared.scripts.Action.TheVariants.{Call as CallAction, Write}
use Rattle.host_script.specs.declared.scripts.LinkFault.{LinkFault}
use Rattle.host_script.specs.declared.scripts.Script.{Script}
use Rattle.host_script.specs.Supply.{supply_for}
use Rattle.trace_model.specs.declared.tapes.Effect.TheVariants.{Bytes}
use Rattle.trace_model.specs.declared.tapes.Origin.TheVariants.{Import, Back}
use Rattle.trace_model.specs.declared.tapes.Next.TheVariants.{Call, Return}
use Rattle.trace_model.specs.declared.tapes.Segment.{Segment}
use Rattle.history_spec.specs.declared.entries.Entry.{Entry}
use Rattle.history_spec.specs.Line.{entry_text}
use Rattle.history_spec.specs.Run.{all_one, program_of, start_in_store, run_from}
use Rattle.history_spec.specs.Store.{Store, zeros}
use Rattle.record_replay_spec.specs.Known.{Known, opening_known}
use Rattle.record_replay_spec.specs.Needed.{opening_store}
use Rattle.record_replay_spec.specs.NeededTest.{are_needed_segments}
use Rattle.record_replay_spec.specs.Observations.{Observation, run_observations}
use Rattle.rest_spec.specs.Rests.{rest_of, calls_in}
use Rattle.rest_spec.specs.KnownBefore.{known_before}
use Rattle.rest_spec.specs.KnownStates.{KnownState, bytes_below, state_of_known}
use Rattle.rest_spec.specs.Cuts.{cut_of, tape_calls}
use Rattle.rest_spec.specs.StateSegments.{data_segments, elem_segments}
use Rattle.rest_spec.specs.StateModules.{state_module_of, state_supply_of}
use Rattle.replay_module_spec.specs.Merge.{replay_module}
use Rattle.worked_histories.specs.Build.{value, i32, limits, global_type, memory_arg, func, global, returns, calls, script}
use Rattle.worked_histories.specs.Modules.{two_answers, overwrite, grow_access, imported_offset}
use Rattle.worked_histories.specs.RunLines.{print_replay}
use Rattle.worked_replay_modules.specs.Tapes.{segment, tape, calls_one, ends_work, returns_after, five, seven, two}
use Rattle.worked_replay_modules.specs.Tests.{fragment_for, layout_of, entry_of, lines_of_result}

-- ---- runs

-- what is computed from the store in which a run begins, if its module links
abbrev pub from_store : {X : Type 0} → (Store → X) → Result Store LinkFault → Option X
from_store compute (Ok store) = Some (compute store)
from_store compute (Err fault) = None

-- the history of a run from a store; no run of an example has more than 100 steps
abbrev pub history_from : Module → Script → Store → List Entry
history_from m script store = (run_from (program_of m script) all_one (start_in_store m script store) 100).history

-- the observations of a run from a store
abbrev pub observations_from : Module → Script → Store → List Observation
observations_from m script store = run_observations (program_of m script) (start_in_store m script store) 100

-- ---- cases

-- a module, a script for it, the tape that the run needs, the number of a top-level call, the cut of the tape there,
-- and, if there is a memory, the first 16 bytes of the state; it has zeros behind them
pub record RestCase : Type 0 where
  pub original : Module
  pub script : Script
  pub segments : List Segment
  pub number : ℕ
  pub cut : List Segment
  pub front : List ℕ

-- the state of a case with a memory of one page
abbrev pub state_of : RestCase → KnownState
state_of c = record { bytes = c.front ++ zeros (PAGE_SIZE - 16); entries = []; globals = [] }

-- the module of a case in a known state
abbrev pub state_module : RestCase → KnownState → Module
state_module c state = state_module_of c.original state

-- the lines of what the replay module of a cut tape shows, from a state
abbrev pub print_rest : RestCase → KnownState → List (List ℕ)
print_rest c state =
    lines_of_result
    (print_replay
    (replay_module (state_module c state) (state_supply_of (supply_for c.original c.script) state)
    (fragment_for (state_module c state) (tape c.cut)))
    (layout_of c.original) (entry_of c.original) 100)

-- the run needs the tape; the tape has this cut, and the history this rest; the replay module of the cut tape, from the
-- state of the case, shows just the rest
pub record HasRest (c : RestCase) (state : KnownState) (lines : List (List ℕ)) : Type 0 where
  pub needed : from_store
      (λ store. are_needed_segments (opening_known store) (observations_from c.original c.script store) c.segments)
      (opening_store c.original c.script) ≡ Some true
  pub cut : cut_of c.number 0 c.segments ≡ Some c.cut
  pub rest : from_store
      (λ store. option_map (map entry_text) (rest_of (history_from c.original c.script store) c.number 0))
      (opening_store c.original c.script) ≡ Some (Some lines)
  pub shows : print_rest c state ≡ lines ++ codes "ended" ∷ []

-- what the search of a case's observations finds before the call
abbrev pub known_of : RestCase → Option (Option Known)
known_of c =
    from_store (λ store. known_before c.number 0 (opening_known store) [] (observations_from c.original c.script store))
    (opening_store c.original c.script)

-- the first 16 bytes and the pages that are known before the call are those of the case; the module in the state of the
-- case has these data segments and no start function
pub record HasState (c : RestCase) (segments : List DataSeg) : Type 0 where
  pub bytes : option_map (option_map (bytes_below 16)) (known_of c) ≡ Some (Some c.front)
  pub pages : option_map (option_map (λ (known : Known). known.pages)) (known_of c) ≡ Some (Some 1)
  pub memories : (state_module c (state_of c)).memories ≡ limits 1 None ∷ []
  pub datas : (state_module c (state_of c)).datas ≡ segments
  pub start : (state_module c (state_of c)).start ≡ None

-- a run has this number of top-level calls, and so has its tape; from this number on there is no rest and no cut
pub record HasCalls (c : RestCase) (count : ℕ) : Type 0 where
  pub of_history : from_store (λ store. calls_in (history_from c.original c.script store) 0)
      (opening_store c.original c.script) ≡ Some count
  pub of_tape : tape_calls c.segments 0 ≡ count
  pub no_rest : from_store (λ store. rest_of (history_from c.original c.script store) count 0)
      (opening_store c.original c.script) ≡ Some None
  pub no_cut : cut_of count 0 c.segments ≡ None

-- ---- the modules

-- a script that answers the import so, and calls function 1 twice
abbrev pub twice : Script → Script
twice s = record s { main = CallAction 1 [] ∷ CallAction 1 [] ∷ [] }

-- after a call, the host calls function 1 again
abbrev pub calls_again : Segment
calls_again = segment Back [] (Call 1 [])

-- four answers, of which the second call gets the last two
abbrev pub answers_case : RestCase
answers_case =
    record {
      original = two_answers;
      script = twice
          (script
          (calls (returns [] (Some (i32 5)) ∷ returns [] (Some (i32 7)) ∷ returns [] (Some (i32 1))
          ∷ returns [] (Some (i32 2)) ∷ []) ∷ []) []);
      segments = calls_one ∷ five ∷ seven ∷ calls_again ∷ segment (Import 0) [] (Return (Some (i32 1))) ∷ two
          ∷ ends_work ∷ [];
      number = 1;
      cut = calls_one ∷ segment (Import 0) [] (Return (Some (i32 1))) ∷ two ∷ ends_work ∷ [];
      front = [];
    }

-- the host writes four bytes in the first call alone; the module overwrites two of them and reads all
abbrev pub bytes_case : RestCase
bytes_case =
    record {
      original = overwrite;
      script = twice
          (script
          (calls (returns (Write (Fixed 8) (0xAA ∷ 0xBB ∷ 0xCC ∷ 0xDD ∷ []) ∷ []) None ∷ returns [] None ∷ []) ∷ [])
          []);
      segments = calls_one ∷ returns_after (Bytes 10 (0xCC ∷ 0xDD ∷ []) ∷ []) ∷ calls_again ∷ returns_after []
          ∷ ends_work ∷ [];
      number = 1;
      cut = calls_one ∷ returns_after [] ∷ ends_work ∷ [];
      front = 0 ∷ 0 ∷ 0 ∷ 0 ∷ 0 ∷ 0 ∷ 0 ∷ 0 ∷ 1 ∷ 0 ∷ 0xCC ∷ 0xDD ∷ 0 ∷ 0 ∷ 0 ∷ 0 ∷ [];
    }

-- a module whose start function calls the import and stores a byte
abbrev pub with_start : Module
with_start =
    record grow_access {
      funcs = func 0 []
          (CallInstr 0 ∷ Const (i32 8) ∷ Const (i32 9) ∷ StoreTo (memory_arg I32_STORE8 0 0) ∷ End ∷ []) ∷ [];
      start = Some 1;
    }

-- the call of the start function, after which the host calls the function once
abbrev pub start_case : RestCase
start_case =
    record {
      original = with_start;
      script = script (calls (returns [] None ∷ returns [] None ∷ []) ∷ []) (CallAction 1 [] ∷ []);
      segments = calls_one ∷ returns_after [] ∷ calls_again ∷ returns_after [] ∷ ends_work ∷ [];
      number = 0;
      cut = calls_one ∷ returns_after [] ∷ calls_again ∷ returns_after [] ∷ ends_work ∷ [];
      front = zeros 16;
    }

-- the call after that of the start function
abbrev pub after_start_case : RestCase
after_start_case =
    record start_case {
      number = 1;
      cut = calls_one ∷ returns_after [] ∷ ends_work ∷ [];
      front = 0 ∷ 0 ∷ 0 ∷ 0 ∷ 0 ∷ 0 ∷ 0 ∷ 0 ∷ 9 ∷ 0 ∷ 0 ∷ 0 ∷ 0 ∷ 0 ∷ 0 ∷ 0 ∷ [];
    }

-- ---- lines

-- the second call's two answers
abbrev pub answers_lines : List (List ℕ)
answers_lines =
    codes "host-call 1" ∷ codes "step 1 0 ->" ∷ codes "import-call 0" ∷ codes "import-return 0 i32:00000001"
    ∷ codes "step 1 1 ->" ∷ codes "import-call 0" ∷ codes "import-return 0 i32:00000002"
    ∷ codes "step 1 2 i32:00000001 i32:00000002 -> i32:00000003" ∷ codes "host-return 1 i32:00000003" ∷ []

-- the second call reads what the first left
abbrev pub bytes_lines : List (List ℕ)
bytes_lines =
    codes "host-call 1" ∷ codes "step 1 0 ->" ∷ codes "import-call 0" ∷ codes "import-return 0"
    ∷ codes "step 1 1 -> i32:00000008" ∷ codes "step 1 2 -> i32:00000001"
    ∷ codes "step 1 3 i32:00000008 i32:00000001 ->" ∷ codes "step 1 4 -> i32:00000008"
    ∷ codes "step 1 5 i32:00000008 -> i32:ddcc0001" ∷ codes "host-return 1 i32:ddcc0001" ∷ []

-- one call of the start function's function
abbrev pub start_lines : List (List ℕ)
start_lines =
    codes "host-call 1" ∷ codes "step 1 0 ->" ∷ codes "import-call 0" ∷ codes "import-return 0"
    ∷ codes "step 1 1 -> i32:00000008" ∷ codes "step 1 2 -> i32:00000009"
    ∷ codes "step 1 3 i32:00000008 i32:00000009 ->" ∷ codes "host-return 1" ∷ []

-- ---- state modules

-- a data segment
abbrev pub data_at : ℕ → List ℕ → DataSeg
data_at address bytes = record { memory = 0; offset = Const (i32 address) ∷ End ∷ []; bytes = bytes }

-- two bytes on both sides of a block's end are two segments; a block of zeros is none
abbrev pub BlockSegments : Type 0
BlockSegments =
    data_segments (zeros 4095 ++ 6 ∷ 7 ∷ zeros 8191) ≡ data_at 4095 (6 ∷ []) ∷ data_at 4096 (7 ∷ []) ∷ []

-- two runs of entries around an empty one
abbrev pub EntrySegments : Type 0
EntrySegments =
    elem_segments (Some 2 ∷ Some 3 ∷ None ∷ Some 1 ∷ None ∷ [])
    ≡ Active 0 (Const (i32 0) ∷ End ∷ []) (2 ∷ 3 ∷ []) ∷ Active 0 (Const (i32 3) ∷ End ∷ []) (1 ∷ []) ∷ []

-- a module with an imported global, an immutable one of its value, and two mutable ones
abbrev pub with_globals : Module
with_globals =
    record imported_offset {
      globals = global (global_type I32 false) (GlobalGet 0 ∷ End ∷ [])
          ∷ global (global_type I32 true) (GlobalGet 0 ∷ End ∷ [])
          ∷ global (global_type F32 true) (Const (value F32 0) ∷ End ∷ []) ∷ [];
    }

-- mutable globals begin with their known values, whose bits are kept; the immutable one keeps its initial value
abbrev pub StateGlobals : Type 0
StateGlobals =
    (state_module_of with_globals
    (record {
      bytes = [];
      entries = [];
      globals = i32 16 ∷ i32 16 ∷ i32 7 ∷ value F32 2141192193 ∷ [];
    })).globals
    ≡ global (global_type I32 false) (GlobalGet 0 ∷ End ∷ []) ∷ global (global_type I32 true) (Const (i32 7) ∷ End ∷ [])
    ∷ global (global_type F32 true) (Const (value F32 2141192193) ∷ End ∷ []) ∷ []

-- an imported memory and an imported table begin with the known sizes and keep their maxima
abbrev pub StateSupply : Type 0
StateSupply =
    state_supply_of
    (record { memory = Some (limits 0 (Some 3)); table = Some (limits 1 None); globals = i32 16 ∷ [] })
    (record { bytes = zeros PAGE_SIZE; entries = None ∷ Some 1 ∷ []; globals = i32 16 ∷ i32 7 ∷ [] })
    ≡ record { memory = Some (limits 1 (Some 3)); table = Some (limits 2 None); globals = i32 16 ∷ [] }

-- entries and globals below the known sizes
abbrev pub TableState : Type 0
TableState =
    state_of_known 2
    (record {
      byte = λ at. 7;
      entry = λ at. cond (nat_eq at 1) (Some 3) None;
      global = slice_get (i32 16 ∷ i32 7 ∷ []);
      pages = 0;
      entries = 3;
    })
    ≡ record { bytes = []; entries = None ∷ Some 3 ∷ None ∷ []; globals = i32 16 ∷ i32 7 ∷ [] }

-- all statements on rests hold
pub record WorkedRests : Type 0 where
  pub answers : HasRest answers_case (record { bytes = []; entries = []; globals = [] }) answers_lines
  pub answers_calls : HasCalls answers_case 2
  pub bytes : HasRest bytes_case (state_of bytes_case) bytes_lines
  pub bytes_state : HasState bytes_case (data_at 8 (1 ∷ 0 ∷ 0xCC ∷ 0xDD ∷ []) ∷ [])
  pub bytes_calls : HasCalls bytes_case 2
  pub start : HasRest start_case (state_of start_case) (start_lines ++ start_lines)
  pub start_state : HasState start_case []
  pub after_start : HasRest after_start_case (state_of after_start_case) start_lines
  pub after_start_state : HasState after_start_case (data_at 8 (9 ∷ []) ∷ [])
  pub after_start_calls : HasCalls after_start_case 2
  pub block_segments : BlockSegments
  pub entry_segments : EntrySegments
  pub table_state : TableState
  pub state_globals : StateGlobals
  pub state_supply : StateSupply
