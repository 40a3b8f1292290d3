-- Plain instructions of a function outside the original, one after the other, and what they do.
use Rattle.std.proofs.Common.{◌≡◌, ℕ, ◌+◌, List, [], ◌∷◌, ◌++◌, Option, None, true, false, refl, sym, ap, subst}
use Rattle.std.specs.Prelude.{map}
use Rattle.wasm_syntax.specs.declared.values.Val.{Val}
use Rattle.wasm_syntax.specs.declared.instructions.Instr.{Instr}
use Rattle.wasm_syntax.specs.declared.instructions.Instr.TheVariants.{Const}
use Rattle.wasm_syntax.specs.Nest.{Nest, Plain}
use Rattle.trace_model.specs.declared.tapes.Effect.{Effect}
use Rattle.history_spec.specs.Store.{Store}
use Rattle.history_spec.specs.Configuration.{Label, point, at_point}
use Rattle.history_spec.specs.Instruction.{Did, Goes, execute}
use Rattle.replay_module_spec.specs.Dispatch.{sequence}
use Rattle.record_replay_spec.specs.Observations.{plain_observations}
use Rattle.replay_run_spec.specs.Items.{Item, Changes, Steps, changes_of}
use Rattle.generated_code_laws.specs.Leads.{Watched, Leads, IsOutside, Standing, standing}
use Rattle.generated_code_laws.proofs.Along.{along}
use Rattle.generated_code_laws.proofs.One.{begins, did}

-- ---- sequences

pub sequence_over : (first second : List Instr) (rest : Nest)
    → sequence (first ++ second) rest ≡ sequence first (sequence second rest)
sequence_over [] second rest = refl
sequence_over (i ∷ first) second rest = ap (λ nest. Plain i nest) (sequence_over first second rest)

pub begins_sequence : (code : List Instr) (rest : Nest) → begins rest ≡ true → begins (sequence code rest) ≡ true
begins_sequence [] rest b = b
begins_sequence (i ∷ code) rest b = refl

-- ---- what code does

-- control reaches the end of the code, with these items
pub record Comes (w : Watched) (s : Standing) (store after : Store) (values next : List Val) (code : List Instr)
    (items : List Item) (labels : List Label) (rest : Nest) (number : ℕ) : Type 0 where
  pub at : ℕ
  pub leads : Leads w (standing s store values labels (sequence code rest) number) items
      (standing s after next labels rest at)

-- the code leads from one store and values to others, at any place in a body before another instruction
abbrev pub Does : Watched → Standing → (store after : Store) → (values next : List Val) → List Instr → List Item
    → Type 0
Does w s store after values next code items =
    (labels : List Label) (rest : Nest) (number : ℕ) → begins rest ≡ true
    → Comes w s store after values next code items labels rest number

-- no code leads to the same store and values
pub does_nothing : (w : Watched) (s : Standing) (store : Store) (values : List Val)
    → Does w s store store values values [] []
does_nothing w s store values labels rest number b =
    record {
      at = number;
      leads = record { count = 0; comes = λ meter. refl; shown = λ args. refl; inside = refl };
    }

-- one sequence of code and then another
pub does_both : (w : Watched) (s : Standing) (store between after : Store) (values middle next : List Val)
    (first second : List Instr) (items more : List Item)
    → Does w s store between values middle first items → Does w s between after middle next second more
    → Does w s store after values next (first ++ second) (items ++ more)
does_both w s store between after values middle next first second items more one two labels rest number b =
    let r = one labels (sequence second rest) number (begins_sequence second rest b) in
    let t = two labels rest r.at b in
    record {
      at = t.at;
      leads = subst
          (λ nest. Leads w (standing s store values labels nest number) (items ++ more)
          (standing s after next labels rest t.at))
          (sym (sequence_over first second rest)) (along w _ _ _ items more r.leads t.leads);
    }

module _ (w : Watched) (s : Standing) (outside : IsOutside w.layout s.frame.func) where
  -- one instruction
  pub does_one : (store after : Store) (values next : List Val) (i : Instr) (operands results : List Val)
      (found : Option ℕ) (changes : List Effect)
      → ((labels : List Label) (rest : Nest) (number : ℕ)
      → execute w.program.code store (at_point s.frame (point values labels (Plain i rest) number))
      ≡ Did operands results found (Goes after (at_point s.frame (point next labels rest (number + 1)))))
      → changes_of w.globals (plain_observations store values i) ≡ changes
      → Does w s store after values next (i ∷ []) (Steps false ∷ map Changes changes)
  does_one store after values next i operands results found changes executed changed labels rest number b =
      record {
        at = number + 1;
        leads =
            did w s outside store after values next labels labels (Plain i rest) rest number (number + 1) s.frame
            operands results found changes (executed labels rest number) b changed;
      }

  -- a constant
  pub does_const : (store : Store) (values : List Val) (value : Val)
      → Does w s store store values (value ∷ values) (Const value ∷ []) (Steps false ∷ [])
  does_const store values value =
      does_one store store values (value ∷ values) (Const value) [] (value ∷ []) None []
      (λ labels rest number. refl) refl
