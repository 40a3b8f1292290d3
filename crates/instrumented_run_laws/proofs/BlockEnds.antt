-- Control that comes to the end of blocks leaves equally many in an instrumented body, and at the end of the
-- original's body the inserted block too.
use Rattle.std.proofs.Common.{◌≡◌, ℕ, List, [], ◌∷◌, ◌++◌, refl}
use Rattle.wasm_syntax.specs.declared.values.Val.{Val}
use Rattle.wasm_syntax.specs.declared.signatures.FuncType.{FuncType}
use Rattle.wasm_syntax.specs.declared.instructions.Instr.{Instr}
use Rattle.wasm_syntax.specs.Nest.{Nest, Empty, Plain, InBlock, InLoop, InIf, InIfElse}
use Rattle.history_spec.specs.Configuration.{Label, Point, point, leave}
use Rattle.history_spec.specs.Run.{Meter}
use Rattle.type_safety.specs.Configurations.{IsGoing}
use Rattle.type_safety.proofs.SettleEnds.{leaves_none}
use Rattle.record_replay_spec.specs.Insertions.{Site, inserted_before, inserted_at_end}
use Rattle.record_replay_spec.specs.Instrumented.{before_nest, instrumented_nest}
use Rattle.instrumented_run_laws.proofs.Relation.{hooked_labels, IsWeighed, AreWeighed}

-- a body with instructions in front is not at its end
on_before : (is : List Instr) (nest : Nest) → IsGoing nest → IsGoing (before_nest is nest)
on_before [] nest h = h
on_before (i ∷ is) nest h = tt

pub on_instrumented : (s : Site) (nest : Nest) → IsGoing nest → IsGoing (instrumented_nest s nest)
on_instrumented s Empty h = absurd h
on_instrumented s (Plain i rest) h = on_before (inserted_before s i) _ tt
on_instrumented s (InBlock ty body rest) h = tt
on_instrumented s (InLoop ty body rest) h = tt
on_instrumented s (InIf ty body rest) h = tt
on_instrumented s (InIfElse ty body other rest) h = tt

module _ (meter : Meter) (s : Site) (ty : FuncType) (last : ℕ) where
  -- if the original goes on before an instruction, so does the instrumented body, at places that have their weights
  pub record GoesOn (p q : Point) : Type 0 where
    pub numbers : List (ℕ × ℕ)
    pub number : ℕ
    pub labels : AreWeighed meter s p.labels numbers
    pub at : IsWeighed meter s p.at.rest number
    pub is : q ≡ point p.values (hooked_labels s ty p.labels numbers last) (instrumented_nest s p.at.rest) number

  -- at the end of the original's body, the instrumented body is before the end of the inserted block
  abbrev pub IsLeft : Nest → Point → Point → Type 0
  IsLeft Empty p q = q ≡ point (p.values ++ []) [] (before_nest (inserted_at_end s) Empty) last
  IsLeft rest p q = GoesOn p q

  goes_on : (labels : List Label) (numbers : List (ℕ × ℕ)) (values : List Val) (rest : Nest) (at number : ℕ)
      → IsGoing rest → AreWeighed meter s labels numbers → IsWeighed meter s rest number
      → GoesOn (point values labels rest at)
      (leave (hooked_labels s ty labels numbers last) values (instrumented_nest s rest) number)
  goes_on labels numbers values rest at number on weighed weights =
      record {
        numbers = numbers;
        number = number;
        labels = weighed;
        at = weights;
        is = leaves_none (hooked_labels s ty labels numbers last) values (instrumented_nest s rest) number
            (on_instrumented s rest on);
      }

  abbrev IsLeftBy : List Label → List (ℕ × ℕ) → List Val → Nest → ℕ → ℕ → Type 0
  IsLeftBy labels numbers values rest at number =
      let p = leave labels values rest at in
      IsLeft p.at.rest p (leave (hooked_labels s ty labels numbers last) values (instrumented_nest s rest) number)

  pub leaves : (labels : List Label) (numbers : List (ℕ × ℕ)) (values : List Val) (rest : Nest) (at number : ℕ)
      → AreWeighed meter s labels numbers → IsWeighed meter s rest number
      → IsLeftBy labels numbers values rest at number
  leaves [] [] values Empty at number weighed weights = refl
  leaves [] (first ∷ numbers) values Empty at number weighed weights = absurd weighed
  leaves (label ∷ labels) [] values Empty at number weighed weights = absurd weighed
  leaves (label ∷ labels) (first ∷ numbers) values Empty at number weighed weights =
      leaves labels numbers (values ++ label.below) label.after_block.rest label.after_block.number first.1 weighed.2
      weighed.1
  leaves [] numbers values (Plain i rest) at number weighed weights =
      goes_on [] numbers values (Plain i rest) at number tt weighed weights
  leaves (label ∷ labels) numbers values (Plain i rest) at number weighed weights =
      goes_on (label ∷ labels) numbers values (Plain i rest) at number tt weighed weights
  leaves [] numbers values (InBlock t body rest) at number weighed weights =
      goes_on [] numbers values (InBlock t body rest) at number tt weighed weights
  leaves (label ∷ labels) numbers values (InBlock t body rest) at number weighed weights =
      goes_on (label ∷ labels) numbers values (InBlock t body rest) at number tt weighed weights
  leaves [] numbers values (InLoop t body rest) at number weighed weights =
      goes_on [] numbers values (InLoop t body rest) at number tt weighed weights
  leaves (label ∷ labels) numbers values (InLoop t body rest) at number weighed weights =
      goes_on (label ∷ labels) numbers values (InLoop t body rest) at number tt weighed weights
  leaves [] numbers values (InIf t body rest) at number weighed weights =
      goes_on [] numbers values (InIf t body rest) at number tt weighed weights
  leaves (label ∷ labels) numbers values (InIf t body rest) at number weighed weights =
      goes_on (label ∷ labels) numbers values (InIf t body rest) at number tt weighed weights
  leaves [] numbers values (InIfElse t body other rest) at number weighed weights =
      goes_on [] numbers values (InIfElse t body other rest) at number tt weighed weights
  leaves (label ∷ labels) numbers values (InIfElse t body other rest) at number weighed weights =
      goes_on (label ∷ labels) numbers values (InIfElse t body other rest) at number tt weighed weights
