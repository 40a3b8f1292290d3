-- The walk over the names of imports, for a module and for its instrumented module.
use Rattle.std.proofs.Common.{◌≡◌, ◌⊎◌, inl, inr, ℕ, List, codes, Option, Some, None, option_and_then, Result, Ok, Err, Bool, true, false, cond, refl, sym, ap, ◌∙◌}
use Rattle.std.specs.Prelude.{⊤}
use Rattle.std.specs.Ordering.{match_ordering, nat_cmp}
use Rattle.std.specs.Cmp.Lexicographic.{slice_cmp}
use Rattle.std.specs.declared.cmp.Ordering.{Ordering}
use Rattle.std.specs.declared.cmp.Ordering.TheVariants.{Less, Equal, Greater}
use Rattle.std.specs.Str.{bytes_eq}
use Rattle.std.proofs.lemmas.Map.Lookups.{exact_bytes}
use Rattle.std.proofs.lemmas.Slice.Eq.{bytes_eq-Decides}
use Rattle.wasm_syntax.specs.declared.modules.Import.{Import}
use Rattle.wasm_syntax.specs.declared.modules.Module.{Module}
use Rattle.wasm_syntax.specs.Index.{func_import, global_import, imported_funcs}
use Rattle.wasm_syntax.specs.Validity.{IsValid}
use Rattle.serde_json.specs.Data.{Data, Members, array, boolean, member, no_members, null, number, object, string}
use Rattle.serde_json.specs.Find.{as_object, get, get_member}
use Rattle.module_names.specs.Names.{func_types_named, imports_from, imports_named, is_from, is_named}
use Rattle.std.specs.List.{list_any}
use Rattle.script_text.specs.declared.faults.ScriptFault.{ScriptFault}
use Rattle.script_text.specs.declared.faults.ScriptFault.TheVariants.{UnknownName}
use Rattle.script_text.specs.Walk.{◌>>=◌, below, read_any}
use Rattle.script_text.specs.Texts.{answer_of, each_import, each_in, each_name, in_order, look_answer, look_value}
use Rattle.record_replay_spec.specs.Hooks.{hook_module}
use Rattle.record_replay_spec.specs.HookedRuns.{renumbered_answer}
use Rattle.record_replay_spec.specs.Instrumented.{instrumented_module}
use Rattle.record_replay_spec.specs.HookLaws.{InstrumentedKeepIndices}
use Rattle.hooked_texts.specs.Laws.{ImportsNoHooks}
use Rattle.hooked_texts.proofs.Answers.{answer_alike}
use Rattle.hooked_texts.proofs.Names.{from_kept, globals_imported, hooks_unknown, named_kept, types_kept}
use Rattle.hooked_texts.proofs.Steps.{mapped}

abbrev Known : Type 0
Known = List ℕ → Bool

abbrev Look : Type 0
Look = List ℕ → Data → Result ⊤ ScriptFault

-- the fault of a text that names the module of the hooks
abbrev pub names_hooks : Result ⊤ ScriptFault
names_hooks = Err (UnknownName hook_module)

-- the reading of the value under a name
abbrev first_step : Known → Look → List ℕ → Data → Result ⊤ ScriptFault
first_step known look name d = cond (known name) (below name (look name d)) (Err (UnknownName name))

-- ---- walks with equal tests

each_same : (known others : Known) (look other_look : Look) → ((name : List ℕ) → others name ≡ known name)
    → ((name : List ℕ) (d : Data) → other_look name d ≡ look name d) → (ms : Members)
    → each_name others other_look ms ≡ each_name known look ms
unfolding each_name
each_same known others look other_look same looks no_members = refl
each_same known others look other_look same looks (member name d ms) =
    (λ i. cond (same name i) (below name (looks name d i)) (Err (UnknownName name))
    >>= λ a. each_same known others look other_look same looks ms i)

in_same : (known others : Known) (look other_look : Look) → ((name : List ℕ) → others name ≡ known name)
    → ((name : List ℕ) (d : Data) → other_look name d ≡ look name d) → (ms : Option Members)
    → each_in others other_look ms ≡ each_in known look ms
in_same known others look other_look same looks None = refl
in_same known others look other_look same looks (Some ms) = each_same known others look other_look same looks ms

-- ---- walks with equal tests but for the module of the hooks, which the first walk does not know

module _ (known others : Known) (look other_look : Look) (unknown : known hook_module ≡ false)
    (same : (name : List ℕ) → bytes_eq hook_module name ≡ false → others name ≡ known name)
    (looks : (name : List ℕ) (d : Data) → bytes_eq hook_module name ≡ false → other_look name d ≡ look name d) where
  each_alike : (ms : Members)
      → (each_name known look ms ≡ names_hooks) ⊎ (each_name others other_look ms ≡ each_name known look ms)
  unfolding each_name
  each_alike no_members = inr refl
  each_alike (member name d ms) = by (bytes_eq hook_module name) refl (each_alike ms)
    where
      go : (r : Result ⊤ ScriptFault)
          → (each_name known look ms ≡ names_hooks) ⊎ (each_name others other_look ms ≡ each_name known look ms)
          → ((r >>= λ a. each_name known look ms) ≡ names_hooks)
          ⊎ ((r >>= λ a. each_name others other_look ms) ≡ (r >>= λ a. each_name known look ms))
      go (Ok a) later = later
      go (Err fault) later = inr refl

      by : (b : Bool) → bytes_eq hook_module name ≡ b
          → (each_name known look ms ≡ names_hooks) ⊎ (each_name others other_look ms ≡ each_name known look ms)
          → ((first_step known look name d >>= λ a. each_name known look ms) ≡ names_hooks)
          ⊎ ((first_step others other_look name d >>= λ a. each_name others other_look ms)
          ≡ (first_step known look name d >>= λ a. each_name known look ms))
      by true e later =
          let is : hook_module ≡ name = (bytes_eq-Decides hook_module name).0 e in
          inl (ap (λ b. cond b (below name (look name d)) (Err (UnknownName name)) >>= λ a. each_name known look ms)
          (ap known (sym is) ∙ unknown)
          ∙ ap (λ (text : List ℕ). Err (UnknownName text)) (sym is))
      by false e later = elim (go (first_step known look name d) later) [
        | inl h ↦ inl h
        | inr h ↦ inr (ap (λ (r : Result ⊤ ScriptFault). r >>= λ a. each_name others other_look ms)
            (λ i. cond (same name e i) (below name (looks name d e i)) (Err (UnknownName name))) ∙ h)
      ]

  pub walk_alike : (ms : Option Members)
      → (each_in known look ms ≡ names_hooks) ⊎ (each_in others other_look ms ≡ each_in known look ms)
  walk_alike None = inr refl
  walk_alike (Some ms) = each_alike ms

-- a walk without a fault has met no unknown name
module _ (known : Known) (look : Look) (unknown : known hook_module ≡ false) where
  not_member : (ms : Members) → each_name known look ms ≡ Ok tt → get_member hook_module ms ≡ None
  unfolding each_name
  not_member no_members h = refl
  not_member (member name d ms) h = by (known name) refl (λ later. not_member ms later) h
    where
      step : (r : Result ⊤ ScriptFault) → (each_name known look ms ≡ Ok tt → get_member hook_module ms ≡ None)
          → (r >>= λ a. each_name known look ms) ≡ Ok tt → get_member hook_module ms ≡ None
      step (Ok a) later h = later h
      step (Err fault) later h = cc

      by : (b : Bool) → known name ≡ b → (each_name known look ms ≡ Ok tt → get_member hook_module ms ≡ None)
          → (cond b (below name (look name d)) (Err (UnknownName name)) >>= λ a. each_name known look ms) ≡ Ok tt
          → match_ordering (slice_cmp nat_cmp hook_module name) (get_member hook_module ms) (Some d) (get_member hook_module ms) ≡ None
      by false e later h = cc
      by true e later h = go (slice_cmp nat_cmp hook_module name) refl (step (below name (look name d)) later h)
        where
          go : (o : Ordering) → slice_cmp nat_cmp hook_module name ≡ o → get_member hook_module ms ≡ None
              → match_ordering o (get_member hook_module ms) (Some d) (get_member hook_module ms) ≡ None
          go Less is none = none
          go Greater is none = none
          go Equal is none =
              let same : hook_module ≡ name = exact_bytes hook_module name is in
              absurd (no (sym e ∙ ap known (sym same) ∙ unknown))
            where
              no : true ≡ false → ⊥
              no h = cc

  not_in : (d : Data) → each_in known look (as_object d) ≡ Ok tt → get hook_module d ≡ None
  not_in null h = refl
  not_in (boolean b) h = refl
  not_in (number x) h = refl
  not_in (string s) h = refl
  not_in (array ds) h = refl
  not_in (object ms) h = not_member ms h

-- ---- the walks of a script

module _ (keep : InstrumentedKeepIndices) (m : Module) (digest : List ℕ) (valid : IsValid m) (none : ImportsNoHooks m) where
  abbrev hooked : Module
  hooked = instrumented_module m digest

  pub globals_walk : (d : Data) → each_import global_import hooked look_value d ≡ each_import global_import m look_value d
  globals_walk d =
      ap (λ (list : List Import). each_in (λ from. list_any (is_from from) list)
      (λ from names. each_in (λ name. list_any (is_named from name) list) (look_value from) (as_object names)) (as_object d))
      (globals_imported m digest)

  ordered : {A B : Type 0} (f : A → B) (r : Result A ScriptFault) → in_order (mapped f r) ≡ in_order r
  ordered f (Ok a) = refl
  ordered f (Err fault) = refl

  look_same : (from : List ℕ) → bytes_eq hook_module from ≡ false → (name : List ℕ) (d : Data)
      → look_answer hooked from name d ≡ look_answer m from name d
  look_same from other name d =
      ap (λ types. in_order (answer_of hooked name types d)) (types_kept m digest from other valid name)
      ∙ ap in_order (answer_alike keep m digest valid name (func_types_named m from name) d)
      ∙ ordered (renumbered_answer (imported_funcs m)) (answer_of m name (func_types_named m from name) d)

  pub imports_walk : (d : Data)
      → (each_import func_import m (look_answer m) d ≡ names_hooks)
      ⊎ (each_import func_import hooked (look_answer hooked) d ≡ each_import func_import m (look_answer m) d)
  imports_walk d =
      walk_alike (imports_from func_import m) (imports_from func_import hooked)
      (λ from names. each_in (imports_named func_import m from) (look_answer m from) (as_object names))
      (λ from names. each_in (imports_named func_import hooked from) (look_answer hooked from) (as_object names))
      (hooks_unknown m digest none) (from_kept m digest)
      (λ from names other.
      in_same (imports_named func_import m from) (imports_named func_import hooked from) (look_answer m from) (look_answer hooked from)
      (named_kept m digest from other) (look_same from other) (as_object names))
      (as_object d)

  -- the value under the key of the walk has no member with the name of the hooks' module
  pub hooks_unnamed : (o : Option Data)
      → read_any (codes "imports") tt (each_import func_import m (look_answer m)) o ≡ Ok tt
      → option_and_then (get hook_module) o ≡ None
  hooks_unnamed None h = refl
  hooks_unnamed (Some d) h =
      not_in (imports_from func_import m)
      (λ from names. each_in (imports_named func_import m from) (look_answer m from) (as_object names))
      (hooks_unknown m digest none) d (inside (each_import func_import m (look_answer m) d) h)
    where
      inside : (r : Result ⊤ ScriptFault) → below (codes "imports") r ≡ Ok tt → r ≡ Ok tt
      inside (Ok a) h = refl
      inside (Err fault) h = cc

  pub imports_step : (o : Option Data)
      → (read_any (codes "imports") tt (each_import func_import m (look_answer m)) o ≡ names_hooks)
      ⊎ (read_any (codes "imports") tt (each_import func_import hooked (look_answer hooked)) o
      ≡ read_any (codes "imports") tt (each_import func_import m (look_answer m)) o)
  imports_step None = inr refl
  imports_step (Some d) = elim (imports_walk d) [
    | inl h ↦ inl (ap (below (codes "imports")) h)
    | inr h ↦ inr (ap (below (codes "imports")) h)
  ]
