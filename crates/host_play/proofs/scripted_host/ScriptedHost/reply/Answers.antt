use Rattle.std.proofs.Common.{◌≡◌, ap, sym, ◌∙◌, subst}
use Rattle.host_script.specs.declared.scripts.Script.{Script}
use Rattle.record_replay_spec.specs.HookedRuns.{hooked_script}
use Rattle.host_play.specs.Replies.{IsReply}
use Rattle.host_play.specs.ScriptedHosts.{script_of}
use Rattle.host_play.proofs.HookAnswers.{replies, replies_kept}
use Rattle.host_play.proofs.scripted_host.ScriptedHost.reply.Goals as goal

script_is : (c : goal.After-hook_reply) → c.args.self.now ≡ hooked_script c.in-Some.imports c.self.inside.script.now
script_is c = sym c.self.view_is ∙ ap (λ after. script_of after c.self.inside.script.now) c.in-Some.is

pub returns-else-import-imports : goal.returns-else-import-imports
returns-else-import-imports c =
    let script : Script = c.self.inside.script.now in
    subst (λ (script : Script). IsReply script c.args.import c.args.number c.hook_reply.result) (sym (script_is c))
    (record {
      own = replies c.in-Some.imports c.args.import c.args.number script c.if-import-imports.false c.hook_reply.result c.hook_reply.ensures;
      kept = replies_kept c.in-Some.imports c.args.import c.args.number script c.if-import-imports.false c.hook_reply.result c.hook_reply.ensures;
    })
