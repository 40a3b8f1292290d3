-- Indices of functions and answers of imports in an instrumented module.
use Rattle.std.proofs.Common.{◌≡◌, ℕ, zero, suc, ◌+◌, ◌-◌, ◌<◌, List, [], ◌∷◌, length, Option, Some, None, Bool, true, false, cond, nat_lt, slice_get, replicate, option_and_then, refl, sym, ap, ◌∙◌, arith}
use Rattle.std.proofs.lemmas.Bool.Decides.{nat_tests}
use Rattle.base.proofs.Lists.{get_front, get_after_by}
use Rattle.host_script.specs.declared.scripts.Answer.{Answer}
use Rattle.history_spec.specs.Step.{response_of}
use Rattle.record_replay_spec.specs.declared.hooks.Hook.{Hook}
use Rattle.record_replay_spec.specs.declared.hooks.Hook.TheVariants.{Arg, Enter, Leave, Pre, Post, Ipre, Ipost, Load, Store, Size, Grow, Gget, Gset, Copy, Fill}
use Rattle.record_replay_spec.specs.Hooks.{hooks, hook_count, hook_place, renumber, original}
use Rattle.record_replay_spec.specs.HookedRuns.{hook_answer, first_answers}
use Rattle.record_replay_spec.specs.HookLaws.{IndicesAreRenumbered, HooksAreAnswered}

-- the answers of the hooks
abbrev hook_answers : List (Option Answer)
hook_answers = replicate hook_count (Some hook_answer)

-- the hook and its answer are at the hook's place
record IsAtPlace (kind : Hook) : Type 0 where
  hook : slice_get hooks (hook_place kind) ≡ Some kind
  within : nat_lt (hook_place kind) hook_count ≡ true
  answer : slice_get hook_answers (hook_place kind) ≡ Some (Some hook_answer)

is_at_place : (kind : Hook) → IsAtPlace kind
is_at_place Arg = record { hook = refl; within = refl; answer = refl }
is_at_place Enter = record { hook = refl; within = refl; answer = refl }
is_at_place Leave = record { hook = refl; within = refl; answer = refl }
is_at_place Pre = record { hook = refl; within = refl; answer = refl }
is_at_place Post = record { hook = refl; within = refl; answer = refl }
is_at_place Ipre = record { hook = refl; within = refl; answer = refl }
is_at_place Ipost = record { hook = refl; within = refl; answer = refl }
is_at_place Load = record { hook = refl; within = refl; answer = refl }
is_at_place Store = record { hook = refl; within = refl; answer = refl }
is_at_place Size = record { hook = refl; within = refl; answer = refl }
is_at_place Grow = record { hook = refl; within = refl; answer = refl }
is_at_place Gget = record { hook = refl; within = refl; answer = refl }
is_at_place Gset = record { hook = refl; within = refl; answer = refl }
is_at_place Copy = record { hook = refl; within = refl; answer = refl }
is_at_place Fill = record { hook = refl; within = refl; answer = refl }

-- ---- indices

-- an import of the original keeps its index
original_import : (n func : ℕ) → nat_lt func n ≡ true → original n func ≡ Some func
original_import n func h =
    ap (λ b. cond b (Some func) (cond (nat_lt func (n + 15)) None (Some (func - 15)))) h

original_after : (n func : ℕ) → nat_lt func n ≡ false → nat_lt func (n + 15) ≡ false
    → original n func ≡ Some (func - 15)
original_after n func h k =
    ap (λ b. cond b (Some func) (cond (nat_lt func (n + 15)) None (Some (func - 15)))) h
    ∙ ap (λ b. cond b None (Some (func - 15))) k

-- imports of the original are imports of the instrumented module, and no other functions of the original are
pub below_renumbered : (n func : ℕ) → nat_lt (renumber n func) (n + 15) ≡ nat_lt func n
below_renumbered n func = by (nat_lt func n) refl
  where
    by : (b : Bool) → nat_lt func n ≡ b → nat_lt (cond b func (func + 15)) (n + 15) ≡ b
    by true h = grind (arith, nat_tests, h)
    by false h = grind (arith, nat_tests, h)

back_by : (n func : ℕ) (b : Bool) → nat_lt func n ≡ b → original n (cond b func (func + 15)) ≡ Some func
back_by n func true h = original_import n func h
back_by n func false h =
    let a : nat_lt (func + 15) n ≡ false = grind (arith, nat_tests, h) in
    let b : nat_lt (func + 15) (n + 15) ≡ false = grind (arith, nat_tests, h) in
    let c : func + 15 - 15 ≡ func = omega arith in
    original_after n (func + 15) a b ∙ ap Some c

renumbered_by : (n func origin : ℕ) (a b : Bool) → nat_lt func n ≡ a → nat_lt func (n + 15) ≡ b
    → cond a (Some func) (cond b None (Some (func - 15))) ≡ Some origin → renumber n origin ≡ func
renumbered_by n func origin true b h k same =
    let e : func ≡ origin = cc in
    let t : nat_lt origin n ≡ true = ap (λ x. nat_lt x n) (sym e) ∙ h in
    ap (λ x. cond x origin (origin + 15)) t ∙ sym e
renumbered_by n func origin false true h k same = cc
renumbered_by n func origin false false h k same =
    let e : func - 15 ≡ origin = cc in
    let t : nat_lt origin n ≡ false = grind (arith, nat_tests, k, e) in
    let f : origin + 15 ≡ func = grind (arith, nat_tests, k, e) in
    ap (λ x. cond x origin (origin + 15)) t ∙ f

none_original : (n place : ℕ) → nat_lt place 15 ≡ true → original n (n + place) ≡ None
none_original n place h =
    let a : nat_lt (n + place) n ≡ false = grind (arith, nat_tests) in
    let b : nat_lt (n + place) (n + 15) ≡ true = grind (arith, nat_tests, h) in
    ap (λ x. cond x (Some (n + place)) (cond (nat_lt (n + place) (n + 15)) None (Some (n + place - 15)))) a
    ∙ ap (λ x. cond x None (Some (n + place - 15))) b

pub indices_are_renumbered : IndicesAreRenumbered
indices_are_renumbered =
    record {
      place = λ kind. (is_at_place kind).hook;
      of_renumbered = λ n func. back_by n func (nat_lt func n) refl;
      of_original = λ n func origin. renumbered_by n func origin (nat_lt func n) (nat_lt func (n + 15)) refl refl;
      of_hook = λ n kind. none_original n (hook_place kind) (is_at_place kind).within;
    }

-- ---- answers

first_length : (n : ℕ) (answers : List (Option Answer)) → length (first_answers n answers) ≡ n
first_length zero answers = refl
first_length (suc n) [] = ap suc (first_length n [])
first_length (suc n) (answer ∷ answers) = ap suc (first_length n answers)

-- the answer, if there is one
abbrev there : Option (Option Answer) → Option Answer
there found = option_and_then (λ answer. answer) found

first_there : (n import : ℕ) (answers : List (Option Answer)) → import < n
    → there (slice_get (first_answers n answers) import) ≡ there (slice_get answers import)
first_there zero import answers h = absurd (omega (arith, h))
first_there (suc n) zero [] h = refl
first_there (suc n) zero (answer ∷ answers) h = refl
first_there (suc n) (suc import) [] h = first_there n import [] (omega (arith, h))
first_there (suc n) (suc import) (answer ∷ answers) h = first_there n import answers (omega (arith, h))

pub hooks_are_answered : HooksAreAnswered
hooks_are_answered = record {
  own = λ n import number answers h.
      let e = first_length n answers in
      let within : import < length (first_answers n answers) = omega (arith, h, e) in
      ap (λ found. option_and_then (λ answer. response_of answer number) (there found))
      (get_front (first_answers n answers) hook_answers import within)
      ∙ ap (λ found. option_and_then (λ answer. response_of answer number) found) (first_there n import answers h);
  hook = λ n kind number answers.
      let e : n + hook_place kind ≡ length (first_answers n answers) + hook_place kind =
      ap (λ count. count + hook_place kind) (sym (first_length n answers))
      in
      ap (λ found. option_and_then (λ answer. response_of answer number) (there found))
      (get_after_by (first_answers n answers) hook_answers (n + hook_place kind) (hook_place kind) e
      ∙ (is_at_place kind).answer);
}
