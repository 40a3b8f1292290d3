-- Two executions of an instruction show the same, or their first entries differ.
use Rattle.std.proofs.Common.{◌≡◌, ℕ, List, [], ◌∷◌, ◌++◌, Option, Bool, true, false, nat_eq, refl, sym, ap, ◌∙◌, subst, inl, inr}
use Rattle.std.specs.Prelude.{◌⊎◌, ◌≢◌}
use Rattle.std.specs.List.{slice_index_or}
use Rattle.std.proofs.lemmas.Bool.{eqb-true}
use Rattle.base.proofs.Booleans.{and_true, own_number}
use Rattle.wasm_syntax.specs.declared.values.Val.{Val}
use Rattle.history_spec.specs.declared.entries.Entry.{Entry}
use Rattle.history_spec.specs.declared.entries.Entry.TheVariants.{Step, Trap}
use Rattle.history_spec.specs.declared.entries.TrapKind.{TrapKind}
use Rattle.history_spec.specs.declared.entries.TrapKind.TheVariants.{Unreachable, DivideByZero, Overflow, Memory, Table, Empty, Signature}
use Rattle.history_spec.specs.Configuration.{Frame, Activation, Config}
use Rattle.history_spec.specs.Instruction.{Execution, Did, Traps, NoRule}
use Rattle.history_spec.specs.Step.{Program, after_control, after_instruction}
use Rattle.record_replay_spec.specs.Alike.{same_option, same_values}
use Rattle.record_replay_spec.proofs.Alike.{values_same, own_option, own_value}
use Rattle.record_replay_spec.specs.ShownStepLaws.{shown}
use Rattle.record_replay_spec.proofs.Alike.{option_same}
use Rattle.type_safety.specs.Frames.{Scope}
use Rattle.type_safety.specs.Results.{HasRule}

-- two values are equal or differ
abbrev IsDecided : {X : Type 0} → X → X → Type 0
IsDecided a b = (a ≡ b) ⊎ (a ≢ b)

decided : {X : Type 0} (same : X → X → Bool) → ((a b : X) → same a b ≡ true → a ≡ b)
    → ((a : X) → same a a ≡ true) → (a b : X) → IsDecided a b
decided same is own a b = go (same a b) refl
  where
    go : (t : Bool) → same a b ≡ t → IsDecided a b
    go true e = inl (is a b e)
    go false e = inr (λ h. apart (sym e ∙ subst (λ x. same a x ≡ true) h (own a)))
      where
        apart : false ≡ true → ⊥
        apart h = cc

own_values : (values : List Val) → same_values values values ≡ true
own_values [] = refl
own_values (v ∷ values) = and_true _ (same_values values values) (own_value v) (own_values values)

values_decided : (a b : List Val) → IsDecided a b
values_decided = decided same_values values_same own_values

found_decided : (a b : Option ℕ) → IsDecided a b
found_decided =
    decided (same_option nat_eq) (option_same nat_eq eqb-true) (own_option nat_eq own_number)

-- ---- kinds of traps, by number

kind_number : TrapKind → ℕ
kind_number Unreachable = 0
kind_number DivideByZero = 1
kind_number Overflow = 2
kind_number Memory = 3
kind_number Table = 4
kind_number Empty = 5
kind_number Signature = 6

kinds : List TrapKind
kinds = Unreachable ∷ DivideByZero ∷ Overflow ∷ Memory ∷ Table ∷ Empty ∷ Signature ∷ []

kind_of : ℕ → TrapKind
kind_of n = slice_index_or kinds n Unreachable

kind_again : (kind : TrapKind) → kind_of (kind_number kind) ≡ kind
unfolding kinds kind_of kind_number
kind_again Unreachable = refl
kind_again DivideByZero = refl
kind_again Overflow = refl
kind_again Memory = refl
kind_again Table = refl
kind_again Empty = refl
kind_again Signature = refl

kind_decided : (a b : TrapKind) → IsDecided a b
kind_decided =
    decided (λ a b. nat_eq (kind_number a) (kind_number b))
    (λ a b h. sym (kind_again a) ∙ ap kind_of (eqb-true (kind_number a) (kind_number b) h) ∙ kind_again b)
    (λ a. own_number (kind_number a))

-- ---- entries

-- two lists of entries are equal, or each consists of one entry and these differ
pub data AreShown (first second : List Entry) : Type 0 where
  Same : (is : second ≡ first) → AreShown first second
  Apart : (entry other : Entry) (is : first ≡ entry ∷ []) (has : second ≡ other ∷ []) (apart : other ≢ entry)
      → AreShown first second

-- entries of three parts are equal if their parts are
module _ {A B C : Type 0} (entry : A → B → C → Entry) (a a' : A) (b b' : B) (c c' : C)
    (parts : entry a' b' c' ≡ entry a b c → (a' ≡ a) × (b' ≡ b) × (c' ≡ c)) where
  parts_shown : IsDecided a' a → IsDecided b' b → IsDecided c' c
      → AreShown (entry a b c ∷ []) (entry a' b' c' ∷ [])
  parts_shown (inl p) (inl q) (inl r) = Same (λ i. entry (p i) (q i) (r i) ∷ [])
  parts_shown (inr p) q r = Apart _ _ refl refl (λ h. p (parts h).0)
  parts_shown (inl p) (inr q) r = Apart _ _ refl refl (λ h. q (parts h).1)
  parts_shown (inl p) (inl q) (inr r) = Apart _ _ refl refl (λ h. r (parts h).2)

step_parts : (func number : ℕ) (operands others results gives : List Val) (found finds : Option ℕ)
    → Step func number others gives finds ≡ Step func number operands results found
    → (others ≡ operands) × (gives ≡ results) × (finds ≡ found)
step_parts func number operands others results gives found finds h = (cc, cc, cc)

trap_parts : (func number : ℕ) (kind traps : TrapKind) (operands others : List Val) (found finds : Option ℕ)
    → Trap func number traps others finds ≡ Trap func number kind operands found
    → (traps ≡ kind) × (others ≡ operands) × (finds ≡ found)
trap_parts func number kind traps operands others found finds h = (cc, cc, cc)

module _ (frame : Frame) where
  -- two executions that have rules show the same, or their entries differ
  pub rules_shown : (s : Scope) (first second : Execution) → HasRule s first → HasRule s second
      → AreShown (shown frame first) (shown frame second)
  rules_shown s NoRule second h k = absurd h
  rules_shown s first NoRule h k = absurd k
  rules_shown s (Did operands results found control) (Did others gives finds goes) h k =
      parts_shown (λ o r f. Step frame.func frame.at.number o r f) operands others results gives found finds
      (step_parts frame.func frame.at.number operands others results gives found finds)
      (values_decided others operands) (values_decided gives results) (found_decided finds found)
  rules_shown s (Traps kind operands found) (Traps traps others finds) h k =
      parts_shown (λ k o f. Trap frame.func frame.at.number k o f) kind traps operands others found finds
      (trap_parts frame.func frame.at.number kind traps operands others found finds) (kind_decided traps kind)
      (values_decided others operands) (found_decided finds found)
  rules_shown s (Did operands results found control) (Traps traps others finds) h k =
      Apart _ _ refl refl (λ h. cc)
  rules_shown s (Traps kind operands found) (Did others gives finds goes) h k =
      Apart _ _ refl refl (λ h. cc)

  -- the entry that an execution shows comes first
  pub entry_first : (program : Program) (config : Config) (below : List Activation) (e : Execution) (entry : Entry)
      → shown frame e ≡ entry ∷ []
      → (more : List Entry) × ((after_instruction program config frame below e).entries ≡ entry ∷ more)
  entry_first program config below (Did operands results found control) entry h =
      let more = (after_control program config frame below control).entries in
      (more, ap (λ (l : List Entry). l ++ more) h)
  entry_first program config below (Traps kind operands found) entry h = ([], h)
  entry_first program config below NoRule entry h = cc
