use Rattle.std.proofs.Common.{List, ℕ, Option, option_map, option_and_then, slice_get, ap, ◌∙◌}
use Rattle.std.specs.Result.{result_ok}
use Rattle.host_script.specs.declared.scripts.Answer.{Answer}
use Rattle.serde_json.specs.Data.{Data}
use Rattle.serde_json.specs.Find.{get}
use Rattle.serde_json.specs.View.{view}
use Rattle.wasm_syntax.specs.declared.modules.Module.{Module}
use Rattle.module_names.specs.Names.{func_types_named}
use Rattle.script_text.specs.Texts.{answer_of}
use Rattle.module_names.specs.Indexes.{under_names}
use Rattle.script_text.proofs.SameNames.{found_before}
use Rattle.script_text.proofs.scripts.answers_by.Goals as goal

-- the answers under two names
abbrev answer_at : Module → Option Data → (from name : List ℕ) → Option Answer
answer_at m d from name =
    option_and_then (λ a. result_ok (answer_of m name (func_types_named m from name) a))
    (option_and_then (get name) (option_and_then (get from) d))

pub answer_or_copy-requires : goal.answer_or_copy-requires
answer_or_copy-requires c =
    let x = c.import-item.result.now in
    let place = under_names x.«module» x.name c.args.firsts.now.entries in
    found_before (answer_at c.args.names.now (option_map (λ v. view v.now) c.args.texts)) c.args.imports.now
    c.imports.import-index x c.imports.answers.items place c.earlier_answer-before.result
    (c.requires.holds x.«module» x.name) c.imports.invariant
    (c.earlier_answer-before.ensures ∙ ap (λ l. option_and_then (slice_get l) place) c.as_slice.ensures.value)
