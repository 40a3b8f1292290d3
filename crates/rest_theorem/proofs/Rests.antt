-- The replay module of a cut shows the rest of the run.
use Rattle.std.proofs.Common.{◌∙◌, ap, subst}
use Rattle.history_spec.specs.Replay.{Replays}
use Rattle.record_replay_spec.specs.TapeRun.{TapeResult, tape_run}
use Rattle.replay_module_spec.specs.Fragments.{start_index}
use Rattle.replay_module_spec.specs.Merge.{layout_of}
use Rattle.generated_code_laws.specs.Laws.{ReplaysShowOutcomes}
use Rattle.generated_code_laws.specs.Playable.{replay_of}
use Rattle.rest_laws.specs.Replays.{CutTapesReplayRests}
use Rattle.rest_theorem.specs.Cuts.{CutsArePlayable}
use Rattle.rest_theorem.specs.Laws.{RestsAreReplayed}

pub rests_are_replayed : CutTapesReplayRests → CutsArePlayable → ReplaysShowOutcomes → RestsAreReplayed
rests_are_replayed replay playable show m script supply store tape count outcome number rest can fits links needed ends
    is =
    let r = replay m script supply store tape.segments count outcome number rest can.runnable fits links can.begins
    needed ends is in
    record {
      known = r.known;
      is_known = r.is_known;
      cut = r.cut;
      is_cut = r.is_cut;
      shows = λ other other_supply first begins maxima holds.
          let replays = r.replays first maxima holds in
          let run = ap (λ code. tape_run code first r.cut replays.count) begins.code ∙ replays.shows in
          let shown = show other other_supply first (record { segments = r.cut }) replays.count outcome
          (playable m other supply other_supply store first tape number r.cut can begins r.is_cut)
          (ap (λ (t : TapeResult). t.next) run) in
          let replayed = replay_of other other_supply (record { segments = r.cut }) in
          subst (λ layout. Replays replayed layout (start_index m) rest outcome) begins.layout
          (subst (λ entry. Replays replayed (layout_of other) entry rest outcome) begins.start_index
          (subst (λ entries. Replays replayed (layout_of other) (start_index other) entries outcome)
          (ap (λ (t : TapeResult). t.entries) run) shown));
    }
