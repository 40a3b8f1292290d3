use Rattle.std.proofs.Common.{◌≡◌, map, take, option_map}
use Rattle.serde_json.specs.View.{view}
use Rattle.script_text.specs.Texts.{answer_for}
use Rattle.script_text.proofs.scripts.answers_by.Given as goal

abbrev pub invariant-imports : goal.invariant-imports
invariant-imports l =
    l.answers.items ≡ map (answer_for l.names (option_map (λ v. view v.now) l.texts))
    (map (λ import. import.now) (take l.import-index l.imports))
