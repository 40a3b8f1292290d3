-- Calls among the entries of a run, and that what follows without a turn calls nothing.
use Rattle.std.proofs.Common.{◌≡◌, ℕ, List, [], ◌∷◌, length, Option, Some, None, Bool, true, false, refl, ◌∙◌}
use Rattle.std.specs.Prelude.{filter}
use Rattle.wasm_syntax.specs.declared.values.Val.{Val}
use Rattle.wasm_syntax.specs.declared.signatures.FuncType.{FuncType}
use Rattle.host_script.specs.declared.scripts.ResponseEnd.TheVariants.{Return, Trap}
use Rattle.history_spec.specs.declared.entries.Entry.{Entry}
use Rattle.history_spec.specs.declared.entries.Entry.TheVariants.{HostCall, ImportCall}
use Rattle.history_spec.specs.Store.{Store}
use Rattle.history_spec.specs.Code.{Definition, signature, definition}
use Rattle.history_spec.specs.Configuration.{Activation, InModule, InMain, InImport, with_results}
use Rattle.history_spec.specs.Settle.{AtEnd, Within, Gives, TooFew, at_end, return_entry, return_from, deliver}
use Rattle.history_spec.specs.Step.{Program, enter_function, enter_defined, frame_of}

-- a call by the host
abbrev pub is_host_call : Entry → Bool
is_host_call (HostCall func args) = true
is_host_call entry = false

-- a call of an import or by the host
abbrev pub is_call : Entry → Bool
is_call (ImportCall import args) = true
is_call (HostCall func args) = true
is_call entry = false

-- the number of calls among entries
abbrev pub all_calls : List Entry → ℕ
all_calls entries = length (filter is_call entries)

-- ---- what follows without a turn calls nothing

pub returns_none : (func : ℕ) (results : List Val) (below : List Activation) (rest : List Entry)
    → all_calls (return_entry func results below ∷ rest) ≡ all_calls rest
returns_none func results [] rest = refl
returns_none func results (InModule frame ∷ below) rest = refl
returns_none func results (InMain actions ∷ below) rest = refl
returns_none func results (InImport import args actions end ∷ below) rest = refl

pub delivers_none : (stack : List Activation) (results : List Val) → all_calls (deliver stack results).entries ≡ 0
delivers_none [] results = refl
delivers_none (InModule frame ∷ below) results = go (delivers_none below) (at_end (with_results frame results))
  where
    go : ((rs : List Val) → all_calls (deliver below rs).entries ≡ 0) → (e : AtEnd)
        → all_calls (return_from e (with_results frame results) below (deliver below)).entries ≡ 0
    go later Within = refl
    go later (Gives rs) = returns_none frame.func rs below (deliver below rs).entries ∙ later rs
    go later TooFew = refl
delivers_none (InMain [] ∷ below) results = refl
delivers_none (InMain (action ∷ actions) ∷ below) results = refl
delivers_none (InImport import args [] (Return None) ∷ below) results = delivers_none below []
delivers_none (InImport import args [] (Return (Some value)) ∷ below) results = delivers_none below (value ∷ [])
delivers_none (InImport import args [] Trap ∷ below) results = refl
delivers_none (InImport import args (action ∷ actions) end ∷ below) results = refl

pub enters_none : (program : Program) (store : Store) (counts : List ℕ) (func : ℕ) (args : List Val)
    (stack : List Activation) → all_calls (enter_function program.code store counts func args stack).entries ≡ 0
enters_none program store counts func args stack = go (signature program.code func) (definition program.code func)
  where
    go : (ty : Option FuncType) (d : Option Definition) → all_calls (enter_defined ty d store counts func args stack).entries ≡ 0
    go None d = refl
    go (Some ty) None = refl
    go (Some ty) (Some d) = delivers_none (InModule (frame_of func ty d args) ∷ stack) []
