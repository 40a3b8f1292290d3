-- The run of a module that realises a world has the outcomes of the run in the world.
use Rattle.std.proofs.Common.{◌≡◌, ℕ, List, subst}
use Rattle.wasm_syntax.specs.declared.modules.Module.{Module}
use Rattle.host_script.specs.declared.scripts.Script.{Script}
use Rattle.base.specs.declared.outcomes.Outcome.{Outcome}
use Rattle.history_spec.specs.Projection.{Layout}
use Rattle.history_spec.specs.Replay.{Replays}
use Rattle.history_spec.specs.Run.{Run, all_one, program_of, run_start}
use Rattle.replay_module_spec.specs.Fragments.{start_index}
use Rattle.replay_module_spec.specs.Merge.{layout_of}
use Rattle.generated_code_laws.specs.Playable.{replay_of}
use Rattle.instance_spec.specs.Outcomes.{DoOutcomesFollow}
use Rattle.accepted_runs.specs.Runs as runs
use Rattle.accepted_runs.specs.Runs.{HasOutcome, HasNoOutcome}
use Rattle.accepted_runs.specs.Unlinked.{IsUnlinkedFor}
use Rattle.r3_faults.specs.declared.faults.Fault.{Fault}
use Rattle.r3_history.specs.Histories as histories
use Rattle.r3_history.specs.Histories.{IsHistoryOf, IsUnprinted}
use Rattle.r3_make.specs.Printed.{IsReplayFor}
use Rattle.r3_make.specs.Refusals as refusals
use Rattle.r3_make.specs.Refusals.{IsUnmade}
use Rattle.r3_instances.specs.WorldReplays as replays
use Rattle.r3_instances.specs.WorldReplays.{IsWorldReplayFor, IsWorldUnmade}
use Rattle.r3_instances.specs.WorldRuns as worlds
use Rattle.r3_instances.specs.WorldRuns.{WorldRun, HasNoWorldOutcome, HasWorldOutcome, IsWorldHistory, IsWorldUnlinked, IsWorldUnprinted}

-- the run of a module under a script has the outcomes of a run in a world
abbrev pub DoesFollow : (m : Module) (script : Script) (r : WorldRun) → Type 0
DoesFollow m script r = DoOutcomesFollow r.world (program_of m script) all_one r.begun (run_start m script)

module _ (m : Module) (script : Script) (r : WorldRun) (follow : DoesFollow m script r) where
  -- ---- links and outcomes

  to_unlinked : (fault : Fault) → IsUnlinkedFor m script fault → IsWorldUnlinked r fault
  to_unlinked fault u =
      record { found = u.found; named = u.named; differs = u.differs; unopened = (follow.unlinked u.found).1 u.unopened }

  from_unlinked : (fault : Fault) → IsWorldUnlinked r fault → IsUnlinkedFor m script fault
  from_unlinked fault u =
      record { found = u.found; named = u.named; differs = u.differs; unopened = (follow.unlinked u.found).0 u.unopened }

  module _ (turns : ℕ) where
    to_outcome : (run : Run) (outcome : Outcome) → HasOutcome m script turns run outcome
        → HasWorldOutcome r turns run outcome
    to_outcome run outcome is =
        (follow.outcomes turns run outcome).1
        (record { initial = is.initial; starts = is.starts; within = is.within; ends = is.ends })

    from_outcome : (run : Run) (outcome : Outcome) → HasWorldOutcome r turns run outcome
        → HasOutcome m script turns run outcome
    from_outcome run outcome is =
        let own = (follow.outcomes turns run outcome).0 is in
        record { initial = own.initial; starts = own.starts; within = own.within; ends = own.ends }

    to_none : (fault : Fault) → HasNoOutcome m script turns fault → HasNoWorldOutcome r turns fault
    to_none fault (runs.OfScript u) = worlds.OfScript (record {
      turn = u.turn;
      kind = u.kind;
      named = u.named;
      faulty = (follow.faults turns u.turn u.kind).1 (record {
        initial = u.initial;
        starts = u.starts;
        run = u.faulty.run;
        within = u.faulty.within;
        kind_is = u.faulty.kind_is;
        turn_is = u.faulty.turn_is;
      });
    })
    to_none fault (runs.OfTurns u) = worlds.OfTurns (record {
      named = u.named;
      spent = (follow.spent turns).1 (record { initial = u.initial; starts = u.starts; spent = u.spent });
    })

    from_none : (fault : Fault) → HasNoWorldOutcome r turns fault → HasNoOutcome m script turns fault
    from_none fault (worlds.OfScript u) =
        let own = (follow.faults turns u.turn u.kind).0 u.faulty in
        runs.OfScript (record {
          turn = u.turn;
          kind = u.kind;
          named = u.named;
          initial = own.initial;
          starts = own.starts;
          faulty = record { run = own.run; within = own.within; kind_is = own.kind_is; turn_is = own.turn_is };
        })
    from_none fault (worlds.OfTurns u) =
        let own = (follow.spent turns).0 u.spent in
        runs.OfTurns (record { named = u.named; initial = own.initial; starts = own.starts; spent = own.spent })

    -- ---- replay modules

    pub to_unmade : (fault : Fault) → IsUnmade m script turns fault → IsWorldUnmade m script r turns fault
    to_unmade fault (refusals.OfLink u) = replays.OfLink (to_unlinked fault u)
    to_unmade fault (refusals.OfRun u) = replays.OfOutcome (to_none fault u)
    to_unmade fault (refusals.OfWeight u) = replays.OfWeight u

    pub from_unmade : (fault : Fault) → IsWorldUnmade m script r turns fault → IsUnmade m script turns fault
    from_unmade fault (replays.OfLink u) = refusals.OfLink (from_unlinked fault u)
    from_unmade fault (replays.OfOutcome u) = refusals.OfRun (from_none fault u)
    from_unmade fault (replays.OfWeight u) = refusals.OfWeight u

    pub to_replay : (layout : Layout) → layout_of m ≡ layout → (printed : List ℕ)
        → IsReplayFor m script turns printed → IsWorldReplayFor m script r turns layout printed
    to_replay layout same printed is = record {
      made = is;
      ends = to_outcome is.needed.run is.needed.outcome is.needed.ends;
      shows =
          subst (λ (layout : Layout).
          Replays (replay_of m is.supply is.tape) layout (start_index m) is.needed.run.history is.needed.outcome)
          same is.shows;
    }

    -- ---- histories

    pub to_unprinted : (fault : Fault) → IsUnprinted m script turns fault → IsWorldUnprinted r turns fault
    to_unprinted fault (histories.OfLink u) = worlds.OfLink (to_unlinked fault u)
    to_unprinted fault (histories.OfOutcome u) = worlds.OfOutcome (to_none fault u)

    pub from_unprinted : (fault : Fault) → IsWorldUnprinted r turns fault → IsUnprinted m script turns fault
    from_unprinted fault (worlds.OfLink u) = histories.OfLink (from_unlinked fault u)
    from_unprinted fault (worlds.OfOutcome u) = histories.OfOutcome (from_none fault u)

    pub to_history : (text : List ℕ) → IsHistoryOf m script turns text → IsWorldHistory r turns text
    to_history text is =
        record { run = is.run; outcome = is.outcome; ends = to_outcome is.run is.outcome is.ends; lines = is.lines }

    pub from_history : (text : List ℕ) → IsWorldHistory r turns text → IsHistoryOf m script turns text
    from_history text is =
        record { run = is.run; outcome = is.outcome; ends = from_outcome is.run is.outcome is.ends; lines = is.lines }
