-- What the hooked form of a module implies for its imports.
use Rattle.std.proofs.Common.{◌≡◌, ℕ, ◌&&◌, List, [], ◌∷◌, length, take, Some, nat_eq, ap}
use Rattle.std.specs.Prelude.{bytes_eq}
use Rattle.base.proofs.Options.{cond_some}
use Rattle.wasm_syntax.specs.declared.modules.Custom.{Custom}
use Rattle.wasm_syntax.specs.declared.modules.Module.{Module}
use Rattle.record_replay_spec.specs.HookedForm.{HookedForm, digest_length, form_of_sections, hooked_form, hooked_sections, imports_hooks, own_imports}
use Rattle.record_replay_spec.specs.Instrumented.{section_bytes}
use Rattle.host_play.specs.HookedResults.{HasHooksAfter}

some_same : (a b : HookedForm) → Some a ≡ Some b → a ≡ b
some_same a b e = cc e

imports_reported : (imports defined : ℕ) (customs : List Custom) (form : HookedForm)
    → form_of_sections imports defined customs ≡ Some form → imports ≡ form.imports
imports_reported imports defined [] form is = absurd (cc is)
imports_reported imports defined (custom ∷ []) form is =
    let digest = take digest_length custom.bytes in
    let reported : HookedForm = record { digest = digest; imports = imports; defined = defined } in
    let found = cond_some
    (nat_eq (length digest) digest_length && bytes_eq custom.bytes (section_bytes digest imports defined))
    (Some reported) form is in
    ap (λ (form : HookedForm). form.imports) (some_same reported form found.1)
imports_reported imports defined (custom ∷ other ∷ customs) form is = absurd (cc is)

pub hooks_after : (m : Module) (form : HookedForm) → hooked_form m ≡ Some form → HasHooksAfter m form.imports
hooks_after m form is =
    let found = cond_some (imports_hooks m)
    (form_of_sections (own_imports m) (length m.funcs) (hooked_sections m)) form is in
    record {
      hooks = found.0;
      before = imports_reported (own_imports m) (length m.funcs) (hooked_sections m) form found.1;
    }
