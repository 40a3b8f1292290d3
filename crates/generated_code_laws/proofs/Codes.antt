-- Constants, drops and operands of generated code.
use Rattle.std.proofs.Common.{◌≡◌, ℕ, zero, suc, ◌+◌, List, [], ◌∷◌, ◌++◌, length, take, drop, reverse, Some, None, true, false, nat_le, replicate, refl, sym, ap, ◌∙◌, subst, arith, length-append}
use Rattle.std.specs.Prelude.{cond, map}
use Rattle.std.proofs.lemmas.Bool.Decides.{nat_tests}
use Rattle.std.proofs.lemmas.List.{append_assoc, length-map, length-reverse, reverse-append, reverse-reverse}
use Rattle.wasm_syntax.specs.declared.values.Val.{Val}
use Rattle.wasm_syntax.specs.declared.values.ValType.{ValType}
use Rattle.wasm_syntax.specs.declared.instructions.Instr.TheVariants.{Const, Drop}
use Rattle.wasm_syntax.specs.Alike.{same_types}
use Rattle.wasm_syntax.specs.Nest.{Plain}
use Rattle.wasm_syntax.proofs.ValTypes.{types_own}
use Rattle.history_spec.specs.Code.{types_of}
use Rattle.history_spec.specs.Store.{Store}
use Rattle.history_spec.specs.Configuration.{place, point, at_point, topmost}
use Rattle.history_spec.specs.Instruction.{Operands, on, gives, operands_if, operands_as, pop}
use Rattle.replay_run_spec.specs.Items.{Steps}
use Rattle.generated_code_laws.specs.Leads.{Watched, IsOutside, Standing}
use Rattle.generated_code_laws.proofs.Does.{Does, does_nothing, does_both, does_one, does_const}
use Rattle.generated_code_laws.proofs.WrittenItems.{take_front, drop_front}

-- ---- operands

-- the first item comes last in the reversed list
pub reverse_first : {X : Type 0} (x : X) (xs : List X) → reverse (x ∷ xs) ≡ reverse xs ++ x ∷ []
reverse_first x xs = reverse-append (x ∷ []) xs

-- values that were pushed are the topmost
pub topmost_pushed : (values below : List Val) (count : ℕ) → count ≡ length values
    → topmost count (reverse values ++ below) ≡ Some values
topmost_pushed values below count e =
    let own : length (reverse values) ≡ length values = length-reverse values in
    let all = length-append (reverse values) below in
    let enough : nat_le count (length (reverse values ++ below)) ≡ true = grind (arith, nat_tests, e, own, all) in
    ap (λ b. cond b (Some (reverse (take count (reverse values ++ below)))) None) enough
    ∙ ap (λ l. Some (reverse l)) (take_front (reverse values) below count (e ∙ sym own))
    ∙ ap (λ l. Some l) (reverse-reverse values)

-- pushed operands of given types are popped
pub pops_pushed : (types : List ValType) (values below : List Val) → types_of values ≡ types
    → pop types (reverse values ++ below) ≡ Some (record { operands = values; rest = below })
pops_pushed types values below e =
    let count : length types ≡ length values =
    ap length (sym e) ∙ length-map values (λ (v : Val). v.ty) in
    let own : length (reverse values) ≡ length values = length-reverse values in
    ap (operands_as types (reverse values ++ below)) (topmost_pushed values below (length types) count)
    ∙ ap (λ ts. operands_if (same_types types ts) (record {
      operands = values;
      rest = drop (length types) (reverse values ++ below);
    })) e
    ∙ ap (λ b. operands_if b (record { operands = values; rest = drop (length types) (reverse values ++ below) }))
    (types_own types)
    ∙ ap (λ l. Some (record { operands = values; rest = l }))
    (drop_front (reverse values) below (length types) (count ∙ sym own))

module _ (w : Watched) (s : Standing) (outside : IsOutside w.layout s.frame.func) (store : Store) where
  -- ---- constants

  -- constants are pushed in their order
  pub does_consts : (values args : List Val)
      → Does w s store store values (reverse args ++ values) (map Const args) (replicate (length args) (Steps false))
  does_consts values [] = does_nothing w s store values
  does_consts values (value ∷ args) =
      let later = does_consts (value ∷ values) args in
      let same : reverse args ++ value ∷ values ≡ reverse (value ∷ args) ++ values =
      sym (append_assoc (reverse args) (value ∷ []) values) ∙ ap (λ l. l ++ values) (sym (reverse_first value args)) in
      subst (λ next. Does w s store store values next (map Const (value ∷ args))
      (replicate (length (value ∷ args)) (Steps false)))
      same
      (does_both w s store store store values (value ∷ values) (reverse args ++ value ∷ values) (Const value ∷ [])
      (map Const args) (Steps false ∷ []) (replicate (length args) (Steps false))
      (does_const w s outside store values value)
      later)

  -- ---- drops

  drops_one : (value : Val) (values : List Val)
      → Does w s store store (value ∷ values) values (Drop ∷ []) (Steps false ∷ [])
  drops_one value values =
      does_one w s outside store store (value ∷ values) values Drop (value ∷ []) [] None []
      (λ labels rest number.
      ap (λ o. on o (λ (p : Operands). gives store
      (at_point s.frame (point (value ∷ values) labels (Plain Drop rest) number)) (place rest (number + 1)) p.operands
      p.rest []))
      (pops_pushed (value.ty ∷ []) (value ∷ []) values refl))
      refl

  pub does_drops : (values : List Val) (count : ℕ) → length values ≡ count
      → Does w s store store values [] (replicate count Drop) (replicate count (Steps false))
  does_drops [] zero e = does_nothing w s store []
  does_drops [] (suc count) e = absurd (omega (arith, e))
  does_drops (value ∷ values) zero e = absurd (omega (arith, e))
  does_drops (value ∷ values) (suc count) e =
      does_both w s store store store (value ∷ values) values [] (Drop ∷ []) (replicate count Drop) (Steps false ∷ [])
      (replicate count (Steps false)) (drops_one value values) (does_drops values count (omega (arith, e)))
