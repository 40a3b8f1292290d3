-- A replay module with one export has the same entry with and without the mark of a guarded replay.
use Rattle.std.proofs.Common.{◌≡◌, ◌↔◌, ℕ, List, [], ◌∷◌, length, refl}
use Rattle.std.specs.Prelude.{Bool, Some, cond, false, true}
use Rattle.wasm_syntax.specs.declared.modules.Export.{Export}
use Rattle.history_spec.specs.Replay.{func_of_exports}
use Rattle.replay_form.specs.Forms.{entry_exports, is_no_global}

kept_alone : (export : Export) (entry : ℕ) (kept : Bool) → func_of_exports (cond kept (export ∷ []) []) ≡ Some entry
    → func_of_exports (export ∷ []) ≡ Some entry
kept_alone export entry true is = is
kept_alone export entry false is = cc

pub entry_alone : (guarded : Bool) (exports : List Export) (entry : ℕ)
    → func_of_exports (entry_exports guarded exports) ≡ Some entry → length exports ≡ 1
    → func_of_exports exports ≡ Some entry
entry_alone false exports entry is one = is
entry_alone true [] entry is one = cc
entry_alone true (export ∷ []) entry is one = kept_alone export entry (is_no_global export.kind) is
entry_alone true (export ∷ other ∷ exports) entry is one = cc

pub one_export : (exports : List Export) (entry : ℕ) → func_of_exports exports ≡ Some entry → length exports ≡ 1
one_export [] entry is = cc
one_export (export ∷ []) entry is = refl
one_export (export ∷ other ∷ exports) entry is = cc
