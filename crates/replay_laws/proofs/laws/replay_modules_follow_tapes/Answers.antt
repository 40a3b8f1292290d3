use Rattle.replay_laws.proofs.laws.replay_modules_follow_tapes.Goals as goal

pub returns : goal.returns
returns c = λ m supply store tape playable. record {
  begins = c.replays_begin.ensures m supply store tape playable;
  histories = λ initial k starts.
      c.replays_show_runs.ensures.histories m supply store tape initial k playable starts;
  outcomes = λ k outcome over. c.replays_show_runs.ensures.outcomes m supply store tape k outcome playable over;
  effects = λ initial count grows over.
      c.replays_show_runs.ensures.effects m supply store tape initial count playable grows over;
  steps = λ initial count over. c.replays_are_within_bound.ensures m supply store tape initial count playable over;
}
