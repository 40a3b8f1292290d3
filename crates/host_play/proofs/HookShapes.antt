-- A module whose last imported functions are the hooks: their types, and that a script that fits it still fits it with
-- the hooks answered by doing nothing.
use Rattle.std.proofs.Common.{◌≡◌, ℕ, zero, suc, ◌+◌, ◌-◌, List, [], ◌∷◌, ◌++◌, length, drop, take, Option, Some, None, Bool, true, false, refl, sym, ap, ◌∙◌, subst, arith}
use Rattle.std.specs.Prelude.{cond, filter, map, nat_eq, option_and_then, replicate, slice_get, IsTrue, ◌&&◌, bytes_eq}
use Rattle.std.specs.List.{AllZip, cons_option}
use Rattle.std.proofs.lemmas.List.{length-drop}
use Rattle.std.proofs.lemmas.Option.{slice_get_within}
use Rattle.std.proofs.lemmas.List.Elements.{All-nil}
use Rattle.base.proofs.Booleans.{and_left, and_right}
use Rattle.base.proofs.Lists.{get_front}
use Rattle.wasm_syntax.specs.declared.values.Val.{Val}
use Rattle.wasm_syntax.specs.declared.signatures.FuncType.{FuncType}
use Rattle.wasm_syntax.specs.declared.modules.Import.{Import}
use Rattle.wasm_syntax.specs.declared.modules.ImportKind.{ImportKind}
use Rattle.wasm_syntax.specs.declared.modules.ImportKind.TheVariants.{Func, Table, Memory, Global}
use Rattle.wasm_syntax.specs.declared.modules.Module.{Module}
use Rattle.wasm_syntax.specs.Index.{func_import, imported_funcs, of_kind, type_at}
use Rattle.wasm_syntax.specs.Typing.{is_constant}
use Rattle.wasm_syntax.proofs.ValTypes.{signature_same}
use Rattle.host_script.specs.declared.scripts.Answer.{Answer}
use Rattle.host_script.specs.declared.scripts.Script.{Script}
use Rattle.host_script.specs.Fits.{Fits, FitsAction, FitsImport, FitsResponse}
use Rattle.history_spec.specs.Code.{code_of, signature}
use Rattle.wasm_flat.specs.Meters.{FitsMeter}
use Rattle.record_replay_spec.specs.declared.hooks.Hook.{Hook}
use Rattle.record_replay_spec.specs.Hooks.{hooks, hook_count, hook_name, hook_type}
use Rattle.record_replay_spec.specs.HookedForm.{HookedForm, are_hooks, brings, digest_length, form_of_sections, func_imports, hooked_sections, imports_hooks, is_from_hooks, is_func_kind, is_hook, is_of_type, own_imports}
use Rattle.record_replay_spec.specs.Instrumented.{section_bytes}
use Rattle.wasm_syntax.specs.declared.modules.Custom.{Custom}
use Rattle.record_replay_spec.specs.HookedRuns.{first_answers, hook_answer, hooked_script}
use Rattle.host_play.specs.HookedResults.{FormsHaveHooks, HasHooksAfter}
use Rattle.host_play.specs.declared.hooked_plays.RunSettings.{RunSettings}
use Rattle.host_play.specs.HooksSoFar.{CanPlay, HasHooks}
use Rattle.host_play.proofs.HookAnswers.{hook_answered}

-- ---- lists item by item

zip_drop : {A B : Type 0} (P : A → B → Type 0) (xs : List A) (ys : List B) (k : ℕ) → AllZip P xs ys → AllZip P (drop k xs) (drop k ys)
zip_drop P xs ys zero all = all
zip_drop P [] [] (suc k) all = all
zip_drop P [] (y ∷ ys) (suc k) all = absurd all
zip_drop P (x ∷ xs) [] (suc k) all = absurd all
zip_drop P (x ∷ xs) (y ∷ ys) (suc k) all = zip_drop P xs ys k all.1

pub zip_length : {A B : Type 0} (P : A → B → Type 0) (xs : List A) (ys : List B) → AllZip P xs ys → length xs ≡ length ys
zip_length P [] [] all = refl
zip_length P [] (y ∷ ys) all = absurd all
zip_length P (x ∷ xs) [] all = absurd all
zip_length P (x ∷ xs) (y ∷ ys) all = ap suc (zip_length P xs ys all.1)

-- the item beside another
zip_at : {A B : Type 0} (P : A → B → Type 0) (xs : List A) (ys : List B) (i : ℕ) (x : A) → AllZip P xs ys
    → slice_get xs i ≡ Some x → (y : B) × (slice_get ys i ≡ Some y) × P x y
zip_at P [] ys i x all is = cc
zip_at P (z ∷ xs) [] i x all is = absurd all
zip_at P (z ∷ xs) (y ∷ ys) zero x all is = let same : z ≡ x = cc in (y, refl, subst (λ z. P z y) same all.0)
zip_at P (z ∷ xs) (y ∷ ys) (suc i) x all is = zip_at P xs ys i x all.1 is

get_drop : {A : Type 0} (xs : List A) (k i : ℕ) → slice_get (drop k xs) i ≡ slice_get xs (k + i)
get_drop xs zero i = let same : i ≡ 0 + i = omega arith in ap (slice_get xs) same
get_drop [] (suc k) i = refl
get_drop (x ∷ xs) (suc k) i = let same : suc (k + i) ≡ suc k + i = omega arith in get_drop xs k i ∙ ap (slice_get (x ∷ xs)) same

-- ---- the imported functions and their types

abbrev IsOfType : Import → ℕ → Type 0
IsOfType import t = import.kind ≡ Func t

kinds_align : (imports : List Import) → AllZip IsOfType (filter (λ import. is_func_kind import.kind) imports) (of_kind func_import imports)
kinds_align [] = tt
kinds_align (import ∷ imports) = go (kinds_align imports) import.kind refl
  where
    go : AllZip IsOfType (filter (λ import. is_func_kind import.kind) imports) (of_kind func_import imports) → (kind : ImportKind) → import.kind ≡ kind
        → AllZip IsOfType (cond (is_func_kind kind) (import ∷ filter (λ import. is_func_kind import.kind) imports)
        (filter (λ import. is_func_kind import.kind) imports))
        (cons_option (func_import kind) (of_kind func_import imports))
    go later (Func t) is = (is, later)
    go later (Table limits) is = later
    go later (Memory limits) is = later
    go later (Global ty) is = later

-- a hook has its type
abbrev HasHookType : Module → Hook → ℕ → Type 0
HasHookType m kind t = type_at m t ≡ Some (hook_type kind)

typed_as : (wanted : FuncType) (found : Option FuncType) → is_of_type wanted found ≡ true → found ≡ Some wanted
typed_as wanted None is = cc
typed_as wanted (Some ty) is = ap (λ t. Some t) (signature_same ty wanted is)

hook_typed : (m : Module) (kind : Hook) (import : Import) (t : ℕ) → is_hook m kind import ≡ true → import.kind ≡ Func t → HasHookType m kind t
hook_typed m kind import t is func =
    let brought : brings m (hook_type kind) import.kind ≡ true = and_right
    (is_from_hooks import && bytes_eq import.name (hook_name kind)) (brings m (hook_type kind) import.kind) is in
    typed_as (hook_type kind) (type_at m t) (subst (λ k. brings m (hook_type kind) k ≡ true) func brought)

hooks_typed : (m : Module) (kinds : List Hook) (imports : List Import) (types : List ℕ)
    → are_hooks m kinds imports ≡ true → AllZip IsOfType imports types → AllZip (HasHookType m) kinds types
hooks_typed m [] [] [] are all = tt
hooks_typed m [] [] (t ∷ types) are all = absurd all
hooks_typed m [] (import ∷ imports) types are all = cc
hooks_typed m (kind ∷ kinds) [] types are all = cc
hooks_typed m (kind ∷ kinds) (import ∷ imports) [] are all = absurd all
hooks_typed m (kind ∷ kinds) (import ∷ imports) (t ∷ types) are all = (
  hook_typed m kind import t (and_left (is_hook m kind import) (are_hooks m kinds imports) are) all.0,
  hooks_typed m kinds imports types (and_right (is_hook m kind import) (are_hooks m kinds imports) are) all.1,
)

-- ---- answers

hook_fits : (m : Module) (kind : Hook) (t : ℕ) → HasHookType m kind t → FitsImport m t (Some hook_answer)
hook_fits m kind t typed = (
  hook_type kind,
  typed,
  record {
    calls = All-nil (FitsResponse m (hook_type kind));
    rest = record {
      actions = All-nil (FitsAction m (hook_type kind).params);
      «end» = record { in_range = All-nil (λ (value : Val). IsTrue (is_constant value)); typed = refl };
    };
  },
)

hooks_fit : (m : Module) (kinds : List Hook) (types : List ℕ) → AllZip (HasHookType m) kinds types
    → AllZip (FitsImport m) types (replicate (length kinds) (Some hook_answer))
hooks_fit m [] [] all = tt
hooks_fit m [] (t ∷ types) all = absurd all
hooks_fit m (kind ∷ kinds) [] all = absurd all
hooks_fit m (kind ∷ kinds) (t ∷ types) all = (hook_fits m kind t all.0, hooks_fit m kinds types all.1)

answers_fit : (m : Module) (n : ℕ) (types : List ℕ) (answers : List (Option Answer))
    → AllZip (HasHookType m) hooks (drop n types) → AllZip (FitsImport m) types answers
    → AllZip (FitsImport m) types (first_answers n answers ++ replicate hook_count (Some hook_answer))
answers_fit m zero types answers typed fit = hooks_fit m hooks types typed
answers_fit m (suc n) [] answers typed fit = absurd typed
answers_fit m (suc n) (t ∷ types) [] typed fit = absurd fit
answers_fit m (suc n) (t ∷ types) (answer ∷ answers) typed fit = (fit.0, answers_fit m n types answers typed fit.1)

-- ---- what a run with hooks rests on

module _ (m : Module) (n : ℕ) (has : HasHooksAfter m n) where
  abbrev types : List ℕ
  types = of_kind func_import m.imports

  typed : AllZip (HasHookType m) hooks (drop n types)
  typed =
      subst (λ k. AllZip (HasHookType m) hooks (drop k types)) has.before
      (hooks_typed m hooks (drop (own_imports m) (func_imports m)) (drop (own_imports m) types)
      (and_left (are_hooks m hooks (drop (own_imports m) (func_imports m)))
      (nat_eq (length (filter is_from_hooks m.imports)) hook_count) has.hooks)
      (zip_drop IsOfType (func_imports m) types (own_imports m) (kinds_align m.imports)))

  imported : imported_funcs m ≡ n + hook_count
  imported =
      let left : length hooks ≡ length (drop n types) = zip_length (HasHookType m) hooks (drop n types) typed in
      let less : length (drop n types) ≡ length types - n = length-drop n types in
      let before : length types - hook_count ≡ n = has.before in
      omega (arith, left, less, before)

  has_type : (place : ℕ) (kind : Hook) → slice_get hooks place ≡ Some kind → signature (code_of m) (n + place) ≡ Some (hook_type kind)
  has_type place kind is =
      let there = zip_at (HasHookType m) hooks (drop n types) place kind typed is in
      let found : slice_get types (n + place) ≡ Some there.0 = sym (get_drop types n place) ∙ there.1 in
      ap (λ index. option_and_then (λ ty. slice_get m.types ty) index)
      (get_front types (map (λ f. f.ty) m.funcs) (n + place) (slice_get_within types (n + place) there.0 found) ∙ found)
      ∙ there.2

  pub has_hooks : (script : Script) → HasHooks m (hooked_script n script) n
  has_hooks script = record {
    imported = imported;
    has_type = has_type;
    answered = λ import number past below. hook_answered n import number script.imports past (omega (arith, imported, past, below));
  }

  pub hooked_fits : (script : Script) → Fits m script → Fits m (hooked_script n script)
  hooked_fits script fits = record {
    globals = fits.globals;
    values = fits.values;
    imports = answers_fit m n types script.imports typed fits.imports;
    main = fits.main;
  }

pub can_play : (m : Module) (script : Script) (settings : RunSettings) → HasHooksAfter m settings.imports
    → FitsMeter m settings.meter.now → CanPlay m (hooked_script settings.imports script) settings
can_play m script settings has fits = record { fits = fits; hooks = has_hooks m settings.imports has script }

-- ---- modules in the hooked form

form_imports : (imports defined : ℕ) (sections : List Custom) (form : HookedForm)
    → form_of_sections imports defined sections ≡ Some form → form.imports ≡ imports
form_imports imports defined [] form is = cc
form_imports imports defined (custom ∷ next ∷ later) form is = cc
form_imports imports defined (custom ∷ []) form is =
    go (nat_eq (length (take digest_length custom.bytes)) digest_length
    && bytes_eq custom.bytes (section_bytes (take digest_length custom.bytes) imports defined)) is
  where
    go : (b : Bool)
        → cond b (Some (record { digest = take digest_length custom.bytes; imports = imports; defined = defined })) None
        ≡ Some form → form.imports ≡ imports
    go true is =
        let same : record { digest = take digest_length custom.bytes; imports = imports; defined = defined } ≡ form =
        cc in
        ap (λ (f : HookedForm). f.imports) (sym same)
    go false is = cc

pub forms_have_hooks : FormsHaveHooks
forms_have_hooks m form is = go (imports_hooks m) refl
  where
    go : (b : Bool) → imports_hooks m ≡ b → HasHooksAfter m form.imports
    go true hooks =
        record {
          hooks = hooks;
          before =
              sym (form_imports (own_imports m) (length m.funcs) (hooked_sections m) form (subst (λ b. cond b
              (form_of_sections (own_imports m) (length m.funcs) (hooked_sections m)) None ≡ Some form) hooks is));
        }
    go false hooks =
        let none : None ≡ Some form =
        subst (λ b. cond b (form_of_sections (own_imports m) (length m.funcs) (hooked_sections m)) None ≡ Some form)
        hooks is in
        cc
