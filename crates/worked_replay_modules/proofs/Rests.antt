-- The rests of the examples, computed.
use Rattle.std.proofs.Common.{refl}
use Rattle.std.specs.Fmt.{digits}
use Rattle.worked_replay_modules.specs.Rests.{WorkedRests}

pub worked_rests : WorkedRests
unfolding digits
worked_rests =
    record {
      answers = record { needed = refl; cut = refl; rest = refl; shows = refl };
      answers_calls = record { of_history = refl; of_tape = refl; no_rest = refl; no_cut = refl };
      bytes = record { needed = refl; cut = refl; rest = refl; shows = refl };
      bytes_state = record { bytes = refl; pages = refl; memories = refl; datas = refl; start = refl };
      bytes_calls = record { of_history = refl; of_tape = refl; no_rest = refl; no_cut = refl };
      start = record { needed = refl; cut = refl; rest = refl; shows = refl };
      start_state = record { bytes = refl; pages = refl; memories = refl; datas = refl; start = refl };
      after_start = record { needed = refl; cut = refl; rest = refl; shows = refl };
      after_start_state = record { bytes = refl; pages = refl; memories = refl; datas = refl; start = refl };
      after_start_calls = record { of_history = refl; of_tape = refl; no_rest = refl; no_cut = refl };
      block_segments = refl;
      entry_segments = refl;
      table_state = refl;
      state_globals = refl;
      state_supply = refl;
    }
