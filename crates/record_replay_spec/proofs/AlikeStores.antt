-- Alike executions, composed of their parts.
use Rattle.std.proofs.Common.{◌≡◌, ℕ, zero, suc, List, [], Option, Some, None, refl, sym, ap, subst}
use Rattle.wasm_syntax.specs.declared.values.Val.{Val}
use Rattle.wasm_syntax.specs.declared.values.ValType.{ValType}
use Rattle.history_spec.specs.Store.{Store}
use Rattle.history_spec.specs.Code.{Code}
use Rattle.history_spec.specs.Configuration.{Place, Frame}
use Rattle.history_spec.specs.Instruction.{Goes, Calls, Execution, Operands, Did, on, pop, takes, frame_after, choice}
use Rattle.record_replay_spec.specs.Observations.{Observation, on as observed_on}
use Rattle.record_replay_spec.specs.StoreAnswers.{BothOrNeither, AnswersAll}
use Rattle.record_replay_spec.specs.Changes.{IsChangedAs}
use Rattle.record_replay_spec.specs.Executions.{IsSameActivation, IsCallOf, IsExecutedAlike}
use Rattle.record_replay_spec.proofs.Operands.{AreOperands, popped}

pub same_activation : (frame : Frame) (next : Place) (values : List Val)
    → IsSameActivation frame (frame_after frame next values)
same_activation frame next values = record { func = refl; arity = refl }

-- two executions that begin with operands are alike if they do alike with these operands
abbrev pub TakesAlike : Frame → (Execution → Execution → Type 0) → Type 0
TakesAlike frame AreAlike =
    (types : List ValType) (go go' : List Val → List Val → Execution)
    → ((operands rest : List Val) → AreOperands types frame.values operands
    → AreAlike (go operands rest) (go' operands rest))
    → AreAlike (takes frame types go) (takes frame types go')

pub taken_alike : (frame : Frame) (AreAlike : Execution → Execution → Type 0)
    → ((o : Option Operands) (go go' : Operands → Execution)
    → ((p : Operands) → o ≡ Some p → AreAlike (go p) (go' p)) → AreAlike (on o go) (on o go'))
    → TakesAlike frame AreAlike
taken_alike frame AreAlike one types go go' k =
    one (pop types frame.values) (λ p. go p.operands p.rest) (λ p. go' p.operands p.rest)
    (λ p is. k p.operands p.rest (popped types frame.values p is))

module _ (code : Code) (store other : Store) (frame : Frame) where
  abbrev pub Alike : List Observation → Execution → Execution → Type 0
  Alike seen first second = IsExecutedAlike code store other seen frame first second

  -- ---- parts that exist

  pub on_alike : {X : Type 0} (seen : List Observation) (o o' : Option X) (go go' : X → Execution)
      → ((x : X) → o ≡ Some x → o' ≡ Some x) → ((x : X) → o ≡ Some x → Alike seen (go x) (go' x))
      → Alike seen (on o go) (on o' go')
  on_alike seen None o' go go' there k = tt
  on_alike seen (Some x) o' go go' there k =
      subst (λ o. Alike seen (go x) (on o go')) (sym (there x refl)) (k x refl)

  -- two executions use one part of the one store
  pub one_alike : {X : Type 0} (seen : List Observation) (o : Option X) (go go' : X → Execution)
      → ((x : X) → o ≡ Some x → Alike seen (go x) (go' x)) → Alike seen (on o go) (on o go')
  one_alike seen o go go' k = on_alike seen o o go go' (λ x e. e) k

  -- two executions use one part of the one store, with what is observed of it
  pub observed_alike : {X : Type 0} (o : Option X) (observe : X → List Observation) (go go' : X → Execution)
      → ((x : X) → o ≡ Some x → AnswersAll other (observe x) → Alike (observe x) (go x) (go' x))
      → AnswersAll other (observed_on o observe) → Alike (observed_on o observe) (on o go) (on o go')
  observed_alike None observe go go' k answers = tt
  observed_alike (Some x) observe go go' k answers = k x refl answers

  -- two executions use a memory or a table that both stores have or neither has, with what is observed of it
  pub parts_alike : {X : Type 0} (R : X → X → Type 0) (o o' : Option X) (observe : X → List Observation)
      (go go' : X → Execution) → BothOrNeither R o o'
      → ((x x' : X) → o ≡ Some x → o' ≡ Some x' → R x x' → AnswersAll other (observe x)
      → Alike (observe x) (go x) (go' x'))
      → AnswersAll other (observed_on o observe) → Alike (observed_on o observe) (on o go) (on o' go')
  parts_alike R None o' observe go go' both k answers = tt
  parts_alike R (Some x) None observe go go' both k answers = absurd both
  parts_alike R (Some x) (Some x') observe go go' both k answers = k x x' refl refl both answers

  pub takes_alike : (seen : List Observation) → TakesAlike frame (Alike seen)
  takes_alike seen = taken_alike frame (Alike seen) (one_alike seen)

  pub choice_alike : (seen : List Observation) (bits : ℕ) (a a' b b' : Execution) → Alike seen a a' → Alike seen b b'
      → Alike seen (choice bits a b) (choice bits a' b')
  choice_alike seen zero a a' b b' p q = q
  choice_alike seen (suc n) a a' b b' p q = p

  -- ---- control

  -- control goes on in the activation, in stores that are changed as observed
  pub goes_alike : (seen : List Observation) (operands results : List Val) (found : Option ℕ) (next : Frame)
      (after other_after : Store) → IsChangedAs store seen after → IsChangedAs other seen other_after
      → IsSameActivation frame next
      → Alike seen (Did operands results found (Goes after next)) (Did operands results found (Goes other_after next))
  goes_alike seen operands results found next after other_after c c' same =
      record {
        first_store = c;
        second_store = record { possible = c'.possible; changed = refl };
        same = ap (λ s. Did operands results found (Goes s next)) c'.changed;
        kept = same;
      }

  -- a function is called, and no store is changed
  pub calls_alike : (seen : List Observation) (operands : List Val) (found : Option ℕ) (waiting : Frame) (func : ℕ)
      (args : List Val) → IsChangedAs store seen store → IsChangedAs other seen other
      → IsSameActivation frame waiting → IsCallOf code operands found func args
      → Alike seen (Did operands [] found (Calls waiting func args)) (Did operands [] found (Calls waiting func args))
  calls_alike seen operands found waiting func args c c' same call =
      record { first_store = c; second_store = c'; same = refl; kept = (same, call) }
