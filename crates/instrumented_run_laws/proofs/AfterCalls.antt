-- The code inserted after a call passes the results to hooks, and reports the end of the call.
use Rattle.std.proofs.Common.{◌≡◌, ℕ, ◌≤◌, List, [], ◌∷◌, ◌++◌, length, Option, Some, None, true, refl, sym, ap, ◌∙◌, subst, arith}
use Rattle.std.specs.List.{AllByRecursion}
use Rattle.wasm_syntax.specs.declared.values.ValType.{ValType}
use Rattle.wasm_syntax.specs.declared.values.Val.{Val}
use Rattle.wasm_syntax.specs.declared.instructions.Instr.{Instr}
use Rattle.wasm_syntax.specs.Typing.{is_number}
use Rattle.history_spec.specs.Store.{Store}
use Rattle.history_spec.specs.Code.{i32_value}
use Rattle.history_spec.specs.Configuration.{Frame, Activation, push_all}
use Rattle.history_spec.specs.Step.{Program}
use Rattle.history_spec.specs.Run.{Meter}
use Rattle.type_safety.specs.Values.{AreValues}
use Rattle.record_replay_spec.specs.declared.hooks.Hook.{Hook}
use Rattle.record_replay_spec.specs.declared.hooks.Hook.TheVariants.{Arg, Post, Ipost}
use Rattle.record_replay_spec.specs.Hooks.{HookCall, renumbered_view}
use Rattle.record_replay_spec.specs.Insertions.{Site, imports_at, after_call}
use Rattle.record_replay_spec.specs.ReportedCalls.{reported, reported_values, reported_over}
use Rattle.instrumented_run_laws.proofs.Leads as leads
use Rattle.instrumented_run_laws.proofs.PieceSteps.{typed, pop_none}
use Rattle.instrumented_run_laws.proofs.Relation.{over_piece}
use Rattle.instrumented_run_laws.proofs.Scratch.{Scratch, with_value, IsNumber}
use Rattle.instrumented_run_laws.proofs.Pieces as pieces
use Rattle.instrumented_run_laws.proofs.Pieces.{HasHooks}
use Rattle.instrumented_run_laws.proofs.Before as before
use Rattle.instrumented_run_laws.proofs.Before.{number_type}

module _ (s : Site) (program : Program) (meter : Meter) (has : HasHooks (imports_at s) program meter) (store : Store)
    (below : List Activation) (outer : Frame) (own : List Val) (whole : s.locals ≡ length own) where
  abbrev n : ℕ
  n = imports_at s

  abbrev Reports : List ℕ → Scratch → List Val → List Instr → List HookCall → Type 0
  Reports = before.Reports s program meter has store below outer own whole

  abbrev Makes : (counts : List ℕ) (x : Scratch) (values : List Val) (is : List Instr) (calls : List HookCall)
      (after : List ℕ) (y : Scratch) (left : List Val) → Type 0
  Makes = pieces.Makes s program meter has (renumbered_view n store) below outer own whole

  abbrev counted : List ℕ → Hook → List ℕ
  counted = leads.counted n program meter

  -- the hook that reports the end of a call, by its callee
  abbrev over_hook : Option ℕ → Hook
  over_hook (Some func) = Post
  over_hook None = Ipost

  abbrev over_args : Option ℕ → List Val
  over_args (Some func) = i32_value func ∷ []
  over_args None = []

  over_makes : (callee : Option ℕ) (counts : List ℕ) (x : Scratch) (values : List Val)
      → Makes counts x values (over_piece s callee)
      (reported (over_hook callee) (over_args callee) (renumbered_view n store)) (counted counts (over_hook callee)) x
      values
  over_makes (Some func) counts x values =
      pieces.reports_one s program meter has (renumbered_view n store) below outer own whole Post refl counts x values
      func
  over_makes None counts x values =
      pieces.calls_hook s program meter has (renumbered_view n store) below outer own whole Ipost counts x values values
      [] (pop_none values)

  reported_none : (callee : Option ℕ) (counts : List ℕ) (x : Scratch) (values : List Val)
      → Reports counts x values (over_piece s callee) (reported_over callee store)
  reported_none (Some func) counts x values =
      record {
        after = counted counts Post;
        scratch = x;
        makes = over_makes (Some func) counts x values;
        counted = before.counted_alike s program meter has store below outer own whole counts Post;
      }
  reported_none None counts x values =
      record {
        after = counted counts Ipost;
        scratch = x;
        makes = over_makes None counts x values;
        counted = before.counted_alike s program meter has store below outer own whole counts Ipost;
      }

  reported_one : (callee : Option ℕ) (counts : List ℕ) (x : Scratch) (values : List Val) (ty : ValType) (bits : ℕ)
      → IsNumber ty
      → Reports counts x (typed ty bits ∷ values) (after_call s (over_piece s callee) (ty ∷ []))
      (reported_values store (typed ty bits ∷ []) ++ reported_over callee store)
  reported_one (Some func) counts x values ty bits number =
      record {
        after = counted (counted counts Arg) Post;
        scratch = with_value ty x bits;
        makes = pieces.reports_result s program meter has (renumbered_view n store) below outer own whole
            (over_piece s (Some func)) Post (i32_value func ∷ []) (over_makes (Some func)) counts x values ty bits
            number;
        counted = λ import less.
            before.counted_alike s program meter has store below outer own whole (counted counts Arg) Post import less
            ∙ before.counted_alike s program meter has store below outer own whole counts Arg import less;
      }
  reported_one None counts x values ty bits number =
      record {
        after = counted (counted counts Arg) Ipost;
        scratch = with_value ty x bits;
        makes = pieces.reports_result s program meter has (renumbered_view n store) below outer own whole
            (over_piece s None) Ipost [] (over_makes None) counts x values ty bits number;
        counted = λ import less.
            before.counted_alike s program meter has store below outer own whole (counted counts Arg) Ipost import less
            ∙ before.counted_alike s program meter has store below outer own whole counts Arg import less;
      }

  -- the code after a call of a function with these results, at most one, makes the hook calls of the call's end
  pub over_reported : (counts : List ℕ) (x : Scratch) (callee : Option ℕ) (types : List ValType) (results values : List Val)
      (funcs : ℕ) → length types ≤ 1 → AllByRecursion (λ ty. is_number ty ≡ true) types
      → AreValues funcs types results
      → Reports counts x (push_all results values) (after_call s (over_piece s callee) types)
      (reported_values store results ++ reported_over callee store)
  over_reported counts x callee [] [] values funcs one numbers are = reported_none callee counts x values
  over_reported counts x callee [] (v ∷ results) values funcs one numbers are = absurd are
  over_reported counts x callee (ty ∷ types) [] values funcs one numbers are = absurd are
  over_reported counts x callee (ty ∷ []) (v ∷ []) values funcs one numbers are =
      let is : typed ty v.bits ≡ v = ap (λ t. typed t v.bits) (sym are.0.typed) in
      subst
      (λ u. Reports counts x (u ∷ values) (after_call s (over_piece s callee) (ty ∷ []))
      (reported_values store (u ∷ []) ++ reported_over callee store))
      is (reported_one callee counts x values ty v.bits (number_type ty numbers.0))
  over_reported counts x callee (ty ∷ []) (v ∷ w ∷ results) values funcs one numbers are = absurd are.1
  over_reported counts x callee (ty ∷ other ∷ types) (v ∷ results) values funcs one numbers are =
      absurd (omega (arith, one))
