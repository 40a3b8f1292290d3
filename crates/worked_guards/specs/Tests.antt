-- What is computed of the guarded modules of worked replay modules.
use Rattle.std.specs.Prelude.{ℕ, ◌+◌, ◌/◌, ◌%◌, List, [], ◌∷◌, ◌++◌, length, map, flat_map, drop, cond, nat_lt, option_map, option_to_list, Result, Ok, Err}
use Rattle.wasm_syntax.specs.declared.values.Val.{Val}
use Rattle.wasm_syntax.specs.declared.modules.Func.{Func}
use Rattle.wasm_syntax.specs.declared.modules.Module.{Module}
use Rattle.wasm_syntax.specs.Encoding.Shortest.{instr_bytes}
use Rattle.host_script.specs.declared.scripts.LinkFault.{LinkFault}
use Rattle.base.specs.declared.outcomes.Outcome.TheVariants.{Ended}
use Rattle.history_spec.specs.Line.{entry_text, outcome_text}
use Rattle.history_spec.specs.Step.{StepResult}
use Rattle.history_spec.specs.Store.{pages}
use Rattle.history_spec.specs.Replay.{run_start_alone}
use Rattle.worked_histories.specs.RunLines.{PrintResult, print_replay}
use Rattle.worked_replay_modules.specs.Cases.{ReplayCase}
use Rattle.worked_replay_modules.specs.Tests.{replay_of, layout_of, entry_of}
use Rattle.guarded_module_spec.specs.Numbers.{numbers_of, start_place}
use Rattle.guarded_module_spec.specs.Words.{words_of}
use Rattle.guarded_module_spec.specs.GuardedModules.{guarded_module}
use Rattle.guarded_module_spec.specs.Runs.{run_alone, shown, store_alone, words_after}
use Rattle.guarded_module_spec.specs.Differences.{with_originals}

-- the replay module of a case
abbrev pub replay : ReplayCase → Module
replay c = replay_of c.original c.script c.tape

-- what is computed of a run, from its start
abbrev pub from_start : {X : Type 0} → X → (StepResult → X) → Result StepResult LinkFault → X
from_start none of_start (Ok initial) = of_start initial
from_start none of_start (Err fault) = none

-- the words of the run of a case's replay module
abbrev pub words : ReplayCase → List ℕ
words c =
    from_start [] (λ initial. words_after (replay c) (layout_of c.original) initial 100)
    (run_start_alone (replay c) (entry_of c.original))

-- those among them before the digest: of its history, and the size of the memory
abbrev pub words_before_digest : ReplayCase → List ℕ
words_before_digest c =
    from_start []
    (λ initial. words_of (shown (layout_of c.original) (run_alone (replay c) initial 100))
    ++ option_to_list (option_map pages (store_alone (replay c) initial 100).memory))
    (run_start_alone (replay c) (entry_of c.original))

-- the guarded module of a case for given words
abbrev pub guard_for : ReplayCase → List ℕ → Module
guard_for c given = guarded_module (replay c) (layout_of c.original) (entry_of c.original) given

-- the guarded module of a case
abbrev pub guard : ReplayCase → Module
guard c = guard_for c (words c)

-- the function that it exports
abbrev pub start_of : ReplayCase → ℕ
start_of c = start_place (numbers_of (replay c) (layout_of c.original))

-- what a module with the functions of a case's guarded module shows
abbrev pub print_guard : ReplayCase → Module → (steps : ℕ) → PrintResult
print_guard c m steps = print_replay m (layout_of c.original) (start_of c) steps

-- the lines of what such a module has shown after some steps, and that of the end
abbrev pub lines_before_end : ReplayCase → Module → (steps : ℕ) → List (List ℕ)
lines_before_end c m steps =
    from_start []
    (λ initial. map entry_text (shown (layout_of c.original) (run_alone m initial steps)) ++ outcome_text Ended ∷ [])
    (run_start_alone m (start_of c))

-- the last of the globals that the run of such a module leaves: how many checks have begun, how many are passed, and
-- how many there are
abbrev pub counts : ReplayCase → Module → (steps : ℕ) → List Val
counts c m steps =
    from_start [] (λ initial. drop (length (replay c).globals) (store_alone m initial steps).globals)
    (run_start_alone m (start_of c))

-- the guarded module with other functions in the originals' places
abbrev pub with_others : ReplayCase → List Func → Module
with_others c others = with_originals (layout_of c.original) others (guard c)

-- ---- bytes as text

-- a digit of a number in base 16, as the code of a character
abbrev pub hex_digit : ℕ → ℕ
hex_digit digit = cond (nat_lt digit 10) (48 + digit) (87 + digit)

-- bytes as text, two digits each
abbrev pub hex_text : List ℕ → List ℕ
hex_text bytes = flat_map (λ byte. hex_digit (byte / 16) ∷ hex_digit (byte % 16) ∷ []) bytes

-- the bytes of the bodies of functions as text
abbrev pub bodies_text : List Func → List (List ℕ)
bodies_text funcs = map (λ (f : Func). hex_text (flat_map instr_bytes f.body)) funcs
