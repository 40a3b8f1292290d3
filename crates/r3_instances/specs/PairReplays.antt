-- The replay module of a pair's run, or why none is made, by the bytes of files.
use Rattle.std.specs.Prelude.{◌≡◌, ℕ, ◌+◌, List, length}
use Rattle.host_script.specs.declared.scripts.Script.{Script}
use Rattle.history_spec.specs.Projection.{Layout, projection}
use Rattle.generated_code_laws.specs.Playable.{replay_of}
use Rattle.instance_spec.specs.declared.sides.Side.{Side}
use Rattle.pair_spec.specs.Pairs.{ModulePair, module_of, Funcs}
use Rattle.pair_spec.specs.Numbers.{all_hosts, defined_before, side_instance}
use Rattle.pair_spec.specs.Linked.{linked, linked_func}
use Rattle.pair_spec.specs.SideHistories.{side_history}
use Rattle.r3_faults.specs.declared.faults.Fault.{Fault}
use Rattle.r3_instances.specs.PairInputs.{pair_run, pair_source}
use Rattle.r3_instances.specs.Sources.{AreReplayable, HasNoReplay, HasReplay}
use Rattle.r3_instances.specs.WorldReplays.{KeepsChanged, IsWorldReplayFor}

-- the layout of a replay module of a pair's run: the functions that the modules import from the host come first, then
-- those that the left module defines, then those that the right one defines
abbrev pub pair_layout : ModulePair → Layout
pair_layout modules =
    record { imports = all_hosts modules Funcs; defined = length modules.left.funcs + length modules.right.funcs }

-- The run of the pair has an outcome within the turns, and the printed bytes encode its replay module, whose run shows
-- exactly the history and the outcome of the run. So what it shows has for each side the history that the run has for
-- this side. The replay module keeps the functions that both modules define, at their numbers and with all indices in
-- their bodies resolved.
pub record IsPairReplayFor (modules : ModulePair) (script : Script) (turns : ℕ) (printed : List ℕ) : Type 0 where
  pub replay : IsWorldReplayFor (linked modules) script (pair_run modules script) turns (pair_layout modules) printed
  pub sides : (side : Side) → side_history modules side
      (projection (pair_layout modules) replay.shows.run.history replay.shows.own).history
      ≡ side_history modules side replay.made.needed.run.history
  pub keeps : (side : Side) → KeepsChanged (linked_func (side_instance modules side)) (module_of modules side).funcs
      (defined_before modules Funcs side) (replay_of (linked modules) replay.made.supply replay.made.tape)

-- `pair` prints this for the bytes of two modules and of a script
abbrev pub IsPairPrinted : (left_bytes right_bytes script_bytes : List ℕ) → (turns : ℕ) → (printed : List ℕ) → Type 0
IsPairPrinted left_bytes right_bytes script_bytes turns printed =
    HasReplay (pair_source left_bytes right_bytes) script_bytes
    (λ modules script. IsPairReplayFor modules script turns printed)

-- the bytes are two modules that link, and a script for the linked module, whose run has an outcome within the turns
-- and needs a tape that is light enough
abbrev pub ArePairReplayable : (left_bytes right_bytes script_bytes : List ℕ) → (turns : ℕ) → Type 0
ArePairReplayable left_bytes right_bytes script_bytes turns =
    AreReplayable (pair_source left_bytes right_bytes) script_bytes turns

-- a module or the script is refused, or the modules do not link, or the run of the pair has no replay module
abbrev pub IsPairRefusal : (left_bytes right_bytes script_bytes : List ℕ) → (turns : ℕ) → Fault → Type 0
IsPairRefusal left_bytes right_bytes script_bytes turns fault =
    HasNoReplay (pair_source left_bytes right_bytes) script_bytes turns fault
