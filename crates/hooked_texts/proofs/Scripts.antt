-- A script's text for a module and for its instrumented module.
use Rattle.std.proofs.Common.{◌≡◌, ◌≢◌, ◌⊎◌, inl, inr, ℕ, suc, List, [], ◌∷◌, ◌++◌, length, map, filter, replicate, codes, Option, Some, None, option_map, option_and_then, Result, Ok, Err, Bool, true, false, cond, refl, sym, ap, ◌∙◌, subst}
use Rattle.std.specs.Prelude.{⊤}
use Rattle.std.specs.List.{AllByRecursion, AllZip}
use Rattle.std.specs.Result.{result_ok}
use Rattle.std.specs.Str.{is_utf8}
use Rattle.std.proofs.lemmas.List.{length-map, map-append}
use Rattle.wasm_syntax.specs.declared.values.Val.{Val}
use Rattle.wasm_syntax.specs.declared.signatures.Limits.{Limits}
use Rattle.wasm_syntax.specs.declared.modules.Import.{Import}
use Rattle.wasm_syntax.specs.declared.modules.Module.{Module}
use Rattle.wasm_syntax.specs.Index.{func_import, global_import, imported_funcs, of_kind}
use Rattle.wasm_syntax.specs.Validity.{IsValid}
use Rattle.host_script.specs.declared.scripts.Action.{Action}
use Rattle.host_script.specs.declared.scripts.Answer.{Answer}
use Rattle.host_script.specs.declared.scripts.Script.{Script}
use Rattle.host_script.specs.Fits.{Fits, FitsImport}
use Rattle.serde_json.specs.Data.{Data}
use Rattle.serde_json.specs.Find.{get}
use Rattle.serde_json.specs.Read.{read}
use Rattle.module_names.specs.Names.{func_types_named, imports_with, is_kind}
use Rattle.script_text.specs.declared.faults.ScriptFault.{ScriptFault}
use Rattle.script_text.specs.declared.faults.ScriptFault.TheVariants.{NotJson, UnknownName}
use Rattle.script_text.specs.Walk.{◌>>=◌, below, only, read_any, under_if_there, under_or}
use Rattle.script_text.specs.Values.{limits_of}
use Rattle.script_text.specs.Actions.{InMain, actions_under}
use Rattle.script_text.specs.Texts.{answer_for, answer_of, each_import, look_answer, look_value, member_for, script_in, script_of, script_of_text, value_for}
use Rattle.record_replay_spec.specs.declared.hooks.Hook.{Hook}
use Rattle.record_replay_spec.specs.Hooks.{hook_count, hook_module, hooks}
use Rattle.record_replay_spec.specs.HookedForm.{is_from_hooks}
use Rattle.record_replay_spec.specs.HookedRuns.{first_answers, hook_answer, renumbered_action, renumbered_answer, renumbered_script}
use Rattle.record_replay_spec.specs.Instrumented.{hook_import, instrumented_module}
use Rattle.record_replay_spec.specs.HookLaws.{InstrumentedKeepIndices}
use Rattle.hooked_texts.specs.Laws.{HooksAreUnanswered, ImportsNoHooks, MeansTheSame, TextsAreRenumbered, unanswered_script}
use Rattle.hooked_texts.proofs.Actions.{actions_alike}
use Rattle.hooked_texts.proofs.Answers.{answer_alike}
use Rattle.hooked_texts.proofs.Names.{differ, each_fails, funcs_with_hooks, globals_imported, types_kept}
use Rattle.hooked_texts.proofs.Steps.{mapped}
use Rattle.hooked_texts.proofs.Walks.{globals_walk, hooks_unnamed, imports_step}

-- the parts of a script's text
abbrev top_keys : List (List ℕ)
top_keys = codes "memory" ∷ codes "table" ∷ codes "globals" ∷ codes "imports" ∷ codes "main" ∷ []

abbrev memory_text : Data → Result (Option Limits) ScriptFault
memory_text d = under_if_there (codes "memory") (limits_of (codes "pages")) d

abbrev table_text : Data → Result (Option Limits) ScriptFault
table_text d = under_if_there (codes "table") (limits_of (codes "size")) d

abbrev globals_text : Module → Data → Result ⊤ ScriptFault
globals_text m d = under_or (codes "globals") tt (each_import global_import m look_value) d

abbrev imports_text : Module → Data → Result ⊤ ScriptFault
imports_text m d = under_or (codes "imports") tt (each_import func_import m (look_answer m)) d

-- the values of imported globals in a text
abbrev given : Data → List Import → List (Option Val)
given d list = map (value_for (get (codes "globals") d)) list

-- a script of its parts
abbrev written : Option Limits → Option Limits → List (Option Val) → List (Option Answer) → List Action → Script
written memory table globals imports main =
    record { memory = memory; table = table; globals = globals; imports = imports; main = main }

-- the second reading is the first with a function applied, unless the first meets the module of the hooks
abbrev AreAlike : {A B : Type 0} → (A → B) → Result A ScriptFault → Result B ScriptFault → Type 0
AreAlike f r other = (r ≡ Err (UnknownName hook_module)) ⊎ (other ≡ mapped f r)

err_same : {A : Type 0} (a b : ScriptFault) → ◌≡◌ {A = Result A ScriptFault} (Err a) (Err b) → a ≡ b
err_same a b h = cc h

ok_no_err : {A : Type 0} (a : A) (fault : ScriptFault) → ◌≡◌ {A = Result A ScriptFault} (Ok a) (Err fault) → ⊥
ok_no_err a fault h = cc h

then_same : {A B C : Type 0} (f : B → C) (r other_r : Result A ScriptFault) (next : A → Result B ScriptFault)
    (other : A → Result C ScriptFault) → other_r ≡ r → ((a : A) → r ≡ Ok a → AreAlike f (next a) (other a))
    → AreAlike f (r >>= next) (other_r >>= other)
then_same {A} f r other_r next other is h =
    subst (λ (x : Result A ScriptFault). AreAlike f (r >>= next) (x >>= other)) (sym is) (go r refl)
  where
    go : (x : Result A ScriptFault) → r ≡ x → AreAlike f (x >>= next) (x >>= other)
    go (Ok a) e = h a e
    go (Err fault) e = inr refl

then_either : {A B C : Type 0} (f : B → C) (r other_r : Result A ScriptFault) (next : A → Result B ScriptFault)
    (other : A → Result C ScriptFault) → (r ≡ Err (UnknownName hook_module)) ⊎ (other_r ≡ r)
    → ((a : A) → r ≡ Ok a → AreAlike f (next a) (other a)) → AreAlike f (r >>= next) (other_r >>= other)
then_either {A} f r other_r next other (inl e) h = inl (ap (λ (x : Result A ScriptFault). x >>= next) e)
then_either f r other_r next other (inr e) h = then_same f r other_r next other e h

then_alike : {A D B C : Type 0} (g : A → D) (f : B → C) (r : Result A ScriptFault) (other_r : Result D ScriptFault)
    (next : A → Result B ScriptFault) (other : D → Result C ScriptFault) → other_r ≡ mapped g r
    → ((a : A) → AreAlike f (next a) (other (g a))) → AreAlike f (r >>= next) (other_r >>= other)
then_alike {A} {D} g f r other_r next other is h =
    subst (λ (x : Result D ScriptFault). AreAlike f (r >>= next) (x >>= other)) (sym is) (go r)
  where
    go : (x : Result A ScriptFault) → AreAlike f (x >>= next) (mapped g x >>= other)
    go (Ok a) = h a
    go (Err fault) = inr refl

module _ (keep : InstrumentedKeepIndices) (m : Module) (digest : List ℕ) (valid : IsValid m) (none : ImportsNoHooks m) where
  abbrev hooked : Module
  hooked = instrumented_module m digest

  abbrev n : ℕ
  n = imported_funcs m

  -- ---- answers

  abbrev renumbered : Option Answer → Option Answer
  renumbered = option_map (renumbered_answer n)

  ok_mapped : {A B : Type 0} (f : A → B) (r : Result A ScriptFault) → result_ok (mapped f r) ≡ option_map f (result_ok r)
  ok_mapped f (Ok a) = refl
  ok_mapped f (Err fault) = refl

  own_answer : (d : Option Data) (i : Import) → is_from_hooks i ≡ false → answer_for hooked d i ≡ renumbered (answer_for m d i)
  own_answer d i other = go (member_for d i)
    where
      types : func_types_named hooked i.«module» i.name ≡ func_types_named m i.«module» i.name
      types = types_kept m digest i.«module» (differ i.«module» hook_module other) valid i.name

      go : (o : Option Data)
          → option_and_then (λ a. result_ok (answer_of hooked i.name (func_types_named hooked i.«module» i.name) a)) o
          ≡ renumbered (option_and_then (λ a. result_ok (answer_of m i.name (func_types_named m i.«module» i.name) a)) o)
      go None = refl
      go (Some a) =
          ap (λ ts. result_ok (answer_of hooked i.name ts a)) types
          ∙ ap (λ (r : Result Answer ScriptFault). result_ok r)
          (answer_alike keep m digest valid i.name (func_types_named m i.«module» i.name) a)
          ∙ ok_mapped (renumbered_answer n) (answer_of m i.name (func_types_named m i.«module» i.name) a)

  own_answers : (d : Option Data) (list : List Import) → AllByRecursion (λ i. is_from_hooks i ≡ false) list
      → map (answer_for hooked d) list ≡ map renumbered (map (answer_for m d) list)
  own_answers d [] others = refl
  own_answers d (i ∷ list) others = (λ j. own_answer d i others.0 j ∷ own_answers d list others.1 j)

  hook_answers : (d : Option Data) → option_and_then (get hook_module) d ≡ None → (kinds : List Hook)
      → map (answer_for hooked d) (map (hook_import m) kinds) ≡ replicate (length kinds) None
  hook_answers d unnamed [] = refl
  hook_answers d unnamed (kind ∷ kinds) = (λ j. first j ∷ hook_answers d unnamed kinds j)
    where
      first : answer_for hooked d (hook_import m kind) ≡ None
      first =
          ap (λ (o : Option Data).
          option_and_then (λ a. result_ok (answer_of hooked (hook_import m kind).name (func_types_named hooked hook_module (hook_import m kind).name) a))
          (option_and_then (get (hook_import m kind).name) o)) unnamed

  kept_fails : (list : List Import) → AllByRecursion (λ i. is_from_hooks i ≡ false) list
      → AllByRecursion (λ i. is_from_hooks i ≡ false) (filter (is_kind func_import) list)
  kept_fails [] others = tt
  kept_fails (i ∷ list) others = by (is_kind func_import i) (kept_fails list others.1)
    where
      by : (b : Bool) → AllByRecursion (λ x. is_from_hooks x ≡ false) (filter (is_kind func_import) list)
          → AllByRecursion (λ x. is_from_hooks x ≡ false)
          (cond b (i ∷ filter (is_kind func_import) list) (filter (is_kind func_import) list))
      by true later = (others.0, later)
      by false later = later

  answers : (d : Option Data) → option_and_then (get hook_module) d ≡ None
      → map (answer_for hooked d) (imports_with func_import hooked)
      ≡ map renumbered (map (answer_for m d) (imports_with func_import m)) ++ replicate 15 None
  answers d unnamed =
      ap (map (answer_for hooked d)) (funcs_with_hooks m digest)
      ∙ map-append (answer_for hooked d) (imports_with func_import m) (map (hook_import m) hooks)
      ∙ (λ j.
      own_answers d (imports_with func_import m) (kept_fails m.imports (each_fails is_from_hooks m.imports none)) j
      ++ hook_answers d unnamed hooks j)

  -- ---- scripts

  abbrev made : Script → Script
  made = unanswered_script m

  script_alike : (d : Data) → AreAlike made (script_of m d) (script_of hooked d)
  unfolding script_of
  script_alike d =
      then_same made (only top_keys d) (only top_keys d) _ _ refl (λ a is.
      then_same made (memory_text d) (memory_text d) _ _ refl (λ memory is.
      then_same made (table_text d) (table_text d) _ _ refl (λ table is.
      then_same made (globals_text m d) (globals_text hooked d) _ _ (globals_step (get (codes "globals") d)) (λ a is.
      then_either made (imports_text m d) (imports_text hooked d) _ _
      (imports_step keep m digest valid none (get (codes "imports") d)) (λ a walked.
      then_alike (map (renumbered_action n)) made (actions_under m InMain (codes "main") d)
      (actions_under hooked InMain (codes "main") d) _ _ (actions_alike keep m digest valid InMain (codes "main") d) (λ main.
      inr (ap Ok (same_script memory table main (hooks_unnamed keep m digest valid none (get (codes "imports") d) walked)))))))))
    where
      globals_step : (o : Option Data)
          → read_any (codes "globals") tt (each_import global_import hooked look_value) o
          ≡ read_any (codes "globals") tt (each_import global_import m look_value) o
      globals_step None = refl
      globals_step (Some e) = ap (below (codes "globals")) (globals_walk keep m digest valid none e)

      same_script : (memory table : Option Limits) (main : List Action)
          → option_and_then (get hook_module) (get (codes "imports") d) ≡ None
          → written memory table (given d (imports_with global_import hooked))
          (map (answer_for hooked (get (codes "imports") d)) (imports_with func_import hooked)) (map (renumbered_action n) main)
          ≡ made (written memory table (given d (imports_with global_import m))
          (map (answer_for m (get (codes "imports") d)) (imports_with func_import m)) main)
      same_script memory table main unnamed =
          ap (λ (list : List Import). written memory table (given d list)
          (map (answer_for hooked (get (codes "imports") d)) (imports_with func_import hooked)) (map (renumbered_action n) main))
          (globals_imported m digest)
          ∙ ap (λ (list : List (Option Answer)). written memory table (given d (imports_with global_import m)) list
          (map (renumbered_action n) main)) (answers (get (codes "imports") d) unnamed)

  in_alike : (o : Option Data) → AreAlike made (script_in m o) (script_in hooked o)
  in_alike None = inr refl
  in_alike (Some d) = script_alike d

  text_alike : (bytes : List ℕ) → AreAlike made (script_of_text m bytes) (script_of_text hooked bytes)
  text_alike bytes = go (is_utf8 bytes)
    where
      go : (b : Bool) → AreAlike made (cond b (script_in m (read bytes)) (Err NotJson)) (cond b (script_in hooked (read bytes)) (Err NotJson))
      go true = in_alike (read bytes)
      go false = inr refl

  means_the_same : (bytes : List ℕ) → MeansTheSame m digest bytes
  means_the_same bytes = record {
    script = λ script is. taken script (script_of_text m bytes) is (text_alike bytes);
    fault = λ fault is other. refused fault (script_of_text m bytes) is other (text_alike bytes);
  }
    where
      taken : (script : Script) (r : Result Script ScriptFault) → r ≡ Ok script
          → AreAlike made r (script_of_text hooked bytes) → script_of_text hooked bytes ≡ Ok (made script)
      taken script r is (inl e) = absurd (ok_no_err script (UnknownName hook_module) (sym is ∙ e))
      taken script r is (inr e) = e ∙ ap (mapped made) is

      refused : (fault : ScriptFault) (r : Result Script ScriptFault) → r ≡ Err fault → fault ≢ UnknownName hook_module
          → AreAlike made r (script_of_text hooked bytes) → script_of_text hooked bytes ≡ Err fault
      refused fault r is other (inl e) = absurd (other (err_same fault (UnknownName hook_module) (sym is ∙ e)))
      refused fault r is other (inr e) = e ∙ ap (mapped made) is

module _ (keep : InstrumentedKeepIndices) where
  pub texts_are_renumbered : TextsAreRenumbered
  texts_are_renumbered m digest bytes valid none = means_the_same keep m digest valid none bytes

-- ---- with the answers of the hooks

first_front : (list more : List (Option Answer)) → first_answers (length list) (list ++ more) ≡ first_answers (length list) list
first_front [] more = refl
first_front (answer ∷ list) more = ap (λ (rest : List (Option Answer)). answer ∷ rest) (first_front list more)

-- each imported function has an answer
pub answers_counted : (m : Module) (types : List ℕ) (answers : List (Option Answer)) → AllZip (FitsImport m) types answers
    → length answers ≡ length types
answers_counted m [] [] fit = refl
answers_counted m [] (answer ∷ answers) fit = absurd fit
answers_counted m (ty ∷ types) [] fit = absurd fit
answers_counted m (ty ∷ types) (answer ∷ answers) fit = ap suc (answers_counted m types answers fit.1)

-- a script's own answers, renumbered
abbrev own_of : Module → Script → List (Option Answer)
own_of m script = map (option_map (renumbered_answer (imported_funcs m))) script.imports

own_counted : (m : Module) (script : Script) → Fits m script → length (own_of m script) ≡ imported_funcs m
own_counted m script fits =
    length-map script.imports (option_map (renumbered_answer (imported_funcs m)))
    ∙ answers_counted m (of_kind func_import m.imports) script.imports fits.imports

pub hooks_are_unanswered : HooksAreUnanswered
hooks_are_unanswered m script fits =
    ap (λ (list : List (Option Answer)).
    record (renumbered_script (imported_funcs m) script) { imports = list ++ replicate hook_count (Some hook_answer) })
    (subst (λ count. first_answers count (own_of m script ++ replicate hook_count None) ≡ first_answers count (own_of m script))
    (own_counted m script fits) (first_front (own_of m script) (replicate hook_count None)))
