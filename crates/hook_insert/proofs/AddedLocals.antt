-- Added locals after the last of a function's own.
use Rattle.std.proofs.Common.{◌≡◌, ◌+◌, List, [], ◌∷◌, ◌++◌, Bool, true, false, cond, refl, ap, sym, ◌∙◌}
use Rattle.std.proofs.lemmas.List.{append_assoc}
use Rattle.wasm_syntax.specs.declared.values.ValType.TheVariants.{I32}
use Rattle.wasm_syntax.specs.declared.modules.Run.{Run}
use Rattle.wasm_syntax.specs.Alike.{same_type}
use Rattle.record_replay_spec.specs.Instrumented.{locals_of, other_locals, with_added_locals}
use Rattle.hook_insert.specs.AddedLocals.{last_with_numbers, with_numbers}

-- the runs made from the last run
parts_of : (b : Bool) (last : Run)
    → cond b (locals_of (last.count + 2) I32 ∷ other_locals) (last ∷ locals_of 2 I32 ∷ other_locals)
    ≡ cond b (locals_of (last.count + 2) I32 ∷ []) (last ∷ locals_of 2 I32 ∷ []) ++ other_locals
parts_of true last = refl
parts_of false last = refl

-- the two parts
pub added_locals : (runs : List Run) → with_added_locals runs ≡ with_numbers runs ++ other_locals
added_locals [] = refl
added_locals (last ∷ []) = parts_of (same_type last.ty I32) last
added_locals (run ∷ next ∷ runs) = ap (λ added. run ∷ added) (added_locals (next ∷ runs))

-- the last run comes after the others
numbers_at_end : (before : List Run) (last : Run)
    → with_numbers (before ++ last ∷ []) ≡ before ++ last_with_numbers last
numbers_at_end [] last = refl
numbers_at_end (run ∷ []) last = refl
numbers_at_end (run ∷ next ∷ before) last = ap (λ added. run ∷ added) (numbers_at_end (next ∷ before) last)

-- the runs appended: those before the last, and those made from the last
pub appended : (was extended after before own : List Run) (last : Run) → own ≡ before ++ last ∷ []
    → extended ≡ was ++ before → after ≡ extended ++ last_with_numbers last → after ≡ was ++ with_numbers own
appended was extended after before own last is more made =
    made ∙ ap (λ runs. runs ++ last_with_numbers last) more ∙ append_assoc was before (last_with_numbers last)
    ∙ ap (λ runs. was ++ runs) (sym (numbers_at_end before last)) ∙ ap (λ runs. was ++ with_numbers runs) (sym is)
