-- The rest of a history from a top-level call on. A call of the host is top-level where no call of an import is open;
-- top-level calls are numbered from 0, and the call of the start function is one of them.
use Rattle.std.specs.Prelude.{ℕ, zero, suc, List, [], ◌∷◌, Option, Some, None}
use Rattle.history_spec.specs.declared.entries.Entry.{Entry}
use Rattle.history_spec.specs.declared.entries.Entry.TheVariants.{HostCall, ImportCall, ImportReturn}

-- the number of open calls of imports after one of them returns
abbrev pub without_one : ℕ → ℕ
without_one zero = zero
without_one (suc opened) = opened

-- at a call of the host, where `opened` calls of imports are open: this is the call of the number that is looked for,
-- or the search goes on, for a number less by one if the call is top-level
abbrev pub by_call : {X : Type 0} → (opened number : ℕ) → (this : X) → (later : (number : ℕ) → X) → X
by_call zero zero this later = this
by_call zero (suc number) this later = later number
by_call (suc opened) number this later = later number

-- the entries from the top-level call of this number on, if there is one, with `opened` calls of imports open before
-- the entries
abbrev pub rest_of : List Entry → (number opened : ℕ) → Option (List Entry)
rest_of [] number opened = None
rest_of (HostCall func args ∷ later) number opened =
    by_call opened number (Some (HostCall func args ∷ later)) (λ n. rest_of later n opened)
rest_of (ImportCall import args ∷ later) number opened = rest_of later number (suc opened)
rest_of (ImportReturn import results ∷ later) number opened = rest_of later number (without_one opened)
rest_of (entry ∷ later) number opened = rest_of later number opened

-- the number of top-level calls with one more call of the host, which is top-level if no call of an import is open
abbrev pub with_call : (opened calls : ℕ) → ℕ
with_call zero calls = suc calls
with_call (suc opened) calls = calls

-- the number of top-level calls among entries, with `opened` calls of imports open before them
abbrev pub calls_in : List Entry → (opened : ℕ) → ℕ
calls_in [] opened = 0
calls_in (HostCall func args ∷ later) opened = with_call opened (calls_in later opened)
calls_in (ImportCall import args ∷ later) opened = calls_in later (suc opened)
calls_in (ImportReturn import results ∷ later) opened = calls_in later (without_one opened)
calls_in (entry ∷ later) opened = calls_in later opened
