-- What is inserted before an access does not depend on its sign.
use Rattle.std.proofs.Common.{◌≡◌, List, ◌++◌, Bool, Option, Some, None, Result, Ok, Err, ap, sym, ◌∙◌, IfOk, OnOk}
use Rattle.std.specs.Option.{option_map}
use Rattle.wasm_syntax.specs.declared.instructions.Instr.{Instr}
use Rattle.wasm_syntax.specs.Opcodes.{Access, access}
use Rattle.module_index.specs.declared.opcodes.Transfer.{Transfer}
use Rattle.module_index.specs.Tables.{Reach, reach_of, reach_of_transfer}
use Rattle.record_replay_spec.specs.Hooks.{on}

pub reported : (before : List Instr) (found : Option Access) (looked : Option Transfer) (transfer : Transfer)
    (make : Access → List Instr) (after : List Instr)
    → looked ≡ Some transfer → option_map reach_of_transfer looked ≡ option_map reach_of found
    → ((signed : Bool) → after ≡ before ++ make (access transfer.ty transfer.width signed))
    → after ≡ before ++ on found make
reported before None looked transfer make after is same given =
    absurd (none (ap (option_map reach_of_transfer) (sym is) ∙ same))
  where
    none : Some (reach_of_transfer transfer) ≡ None → ⊥
    none e = cc e
reported before (Some a) looked transfer make after is same given =
    let reaches : reach_of_transfer transfer ≡ reach_of a = cc (ap (option_map reach_of_transfer) (sym is) ∙ same) in
    given a.signed ∙ ap (λ (r : Reach). before ++ make (access r.ty r.width a.signed)) reaches

-- a consequence of what holds after success
pub on_ok : {X E P Q : Type 0} (r : Result X E) → (P → Q) → OnOk r P → OnOk r Q
on_ok (Ok x) leads holds = leads holds
on_ok (Err e) leads holds = holds

-- a piece that was appended for each sign of an access is that of the access
pub reported_on_ok : {X E : Type 0} (r : Result X E) (before : List Instr) (found : Option Access)
    (looked : Option Transfer) (transfer : Transfer) (make : Access → List Instr) (after : List Instr)
    → looked ≡ Some transfer → option_map reach_of_transfer looked ≡ option_map reach_of found
    → OnOk r ((signed : Bool) → after ≡ before ++ make (access transfer.ty transfer.width signed))
    → OnOk r (after ≡ before ++ on found make)
reported_on_ok r before found looked transfer make after is same given =
    on_ok r (reported before found looked transfer make after is same) given

-- two things that hold after success
pub if_ok_both : {X E : Type 0} {P Q R : X → Type 0} (r : Result X E) → ((x : X) → P x → Q x → R x)
    → IfOk r P → IfOk r Q → IfOk r R
if_ok_both (Ok x) leads first second = leads x first second
if_ok_both (Err e) leads first second = first

pub if_ok : {X E : Type 0} {P Q : X → Type 0} (r : Result X E) → ((x : X) → P x → Q x) → IfOk r P → IfOk r Q
if_ok (Ok x) leads holds = leads x holds
if_ok (Err e) leads holds = holds
