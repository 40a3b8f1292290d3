use Rattle.std.proofs.Common.{◌≡◌, ◌∷◌, ap, ◌∙◌, sym}
use Rattle.std.specs.Prelude.{slice_index}
use Rattle.std.proofs.lemmas.Grind.{get_or_default_zero}
use Rattle.host_play.specs.declared.play_state.Host.TheVariants.{Answer}
use Rattle.host_play.specs.Replies.{response_in}
use Rattle.host_play.proofs.modules.begin_answer.Goals as goal

here : (c : goal.After-count_call) → slice_index c.args.counts.now.items c.args.index ≡ c.index-number.result.now
here c = sym (c.index-number.ensures ∙ get_or_default_zero c.args.counts.now.items c.args.index c.index-number.result.now c.requires)

pub returns : goal.returns
returns c = record {
  response = response_in c.in-Some._reply;
  chosen = λ count is. c.in-Some.ensures.kept count (is ∙ here c);
  pushed = c.in_ok-push.ensures.ok ∙ ap (λ n. Answer c.args.index n 0 ∷ c.args.hosts.now) (sym (here c));
  counted = c.count_call.ensures;
}
