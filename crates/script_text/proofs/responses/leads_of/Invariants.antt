use Rattle.std.proofs.Common.{◌≡◌, filter, take, is_some}
use Rattle.serde_json.specs.Find.{get}
use Rattle.serde_json.specs.View.{view}
use Rattle.script_text.specs.Actions.{key_of}
use Rattle.script_text.proofs.responses.leads_of.Given as goal

abbrev pub invariant-leads : goal.invariant-leads
invariant-leads l = l.found.items ≡ filter (λ lead. is_some (get (key_of lead) (view l.value))) (take l.lead-index l.lead-items)
