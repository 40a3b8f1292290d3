-- A flat list of instructions is a body if and only if blocks close one another until no block is open at its end.
use Rattle.std.proofs.Common.{◌≡◌, ◌⊎◌, List, [], ◌∷◌, ◌++◌, Bool, true, false, Option, Some, None, refl, ap, sym, ◌∙◌, subst, append_assoc, inl, inr}
use Rattle.std.specs.Prelude.{IsTrue}
use Rattle.wasm_syntax.specs.declared.values.ValType.{ValType}
use Rattle.wasm_syntax.specs.declared.instructions.Instr.{Instr}
use Rattle.wasm_syntax.specs.declared.instructions.Instr.TheVariants.{Block, Loop, If, Else, End}
use Rattle.wasm_syntax.specs.Nest.{Nest, Empty, Plain, InBlock, InLoop, InIf, InIfElse, is_plain, IsNest, flat, IsBody}
use Rattle.wasm_syntax.specs.Encoding.Readers.{open_after}

-- the instructions close these blocks, the last one with their last
abbrev pub closes : List Bool → List Instr → Bool
closes [] [] = true
closes [] (i ∷ is) = false
closes (b ∷ blocks) [] = false
closes (b ∷ blocks) (i ∷ is) = elim (open_after i (b ∷ blocks)) [ None ↦ false | Some still ↦ closes still is ]

-- ---- a body closes its block

plain_open : (i : Instr) (b : Bool) (blocks : List Bool) → IsTrue (is_plain i)
    → open_after i (b ∷ blocks) ≡ Some (b ∷ blocks)
plain_open (Block ty) b blocks h = absurd cc
plain_open (Loop ty) b blocks h = absurd cc
plain_open (If ty) b blocks h = absurd cc
plain_open Else b blocks h = absurd cc
plain_open End b blocks h = absurd cc
plain_open i b blocks h = refl

regroup : (a b c : List Instr) → (a ++ End ∷ b) ++ c ≡ a ++ End ∷ (b ++ c)
regroup a b c = append_assoc a (End ∷ b) c

closes_flat : (t : Nest) → IsNest t → (b : Bool) (blocks : List Bool) (is : List Instr)
    → closes (b ∷ blocks) (flat t ++ is) ≡ closes (b ∷ blocks) is
closes_flat Empty n b blocks is = refl
closes_flat (Plain i rest) n b blocks is =
    ap (λ (o : Option (List Bool)). elim o as (λ x. Bool) [ None ↦ false | Some still ↦ closes still (flat rest ++ is) ]) (plain_open i b blocks n.0)
    ∙ closes_flat rest n.1 b blocks is
closes_flat (InBlock ty body rest) n b blocks is =
    ap (closes (false ∷ b ∷ blocks)) (regroup (flat body) (flat rest) is)
    ∙ closes_flat body n.0 false (b ∷ blocks) (End ∷ (flat rest ++ is))
    ∙ closes_flat rest n.1 b blocks is
closes_flat (InLoop ty body rest) n b blocks is =
    ap (closes (false ∷ b ∷ blocks)) (regroup (flat body) (flat rest) is)
    ∙ closes_flat body n.0 false (b ∷ blocks) (End ∷ (flat rest ++ is))
    ∙ closes_flat rest n.1 b blocks is
closes_flat (InIf ty body rest) n b blocks is =
    ap (closes (true ∷ b ∷ blocks)) (regroup (flat body) (flat rest) is)
    ∙ closes_flat body n.0 true (b ∷ blocks) (End ∷ (flat rest ++ is))
    ∙ closes_flat rest n.1 b blocks is
closes_flat (InIfElse ty body other rest) n b blocks is =
    ap (closes (true ∷ b ∷ blocks)) (append_assoc (flat body) (Else ∷ (flat other ++ End ∷ flat rest)) is)
    ∙ closes_flat body n.0 true (b ∷ blocks) (Else ∷ ((flat other ++ End ∷ flat rest) ++ is))
    ∙ ap (closes (false ∷ b ∷ blocks)) (regroup (flat other) (flat rest) is)
    ∙ closes_flat other n.1 false (b ∷ blocks) (End ∷ (flat rest ++ is))
    ∙ closes_flat rest n.2 b blocks is

pub body_closes : (nest : Nest) (body : List Instr) → IsBody nest body → closes (false ∷ []) body ≡ true
body_closes nest body h = ap (closes (false ∷ [])) (sym h.written) ∙ closes_flat nest h.nested false [] (End ∷ [])

-- ---- what closes its block is a body

-- the rest of a block: its instructions, and the `End`, or the `Else` of an `if` before it
abbrev Ending : Bool → Nest → List Instr → List Instr → Type 0
Ending b t rest is =
    (flat t ++ End ∷ rest ≡ is)
    ⊎ ((b ≡ true) × (other : Nest) × IsNest other × (flat t ++ Else ∷ (flat other ++ End ∷ rest) ≡ is))

abbrev Ends : List Bool → List Instr → Type 0
Ends [] is = is ≡ []
Ends (b ∷ blocks) is = (t : Nest) × IsNest t × (rest : List Instr) × Ends blocks rest × Ending b t rest is

-- more instructions in front of the innermost block's
in_front : (b : Bool) (blocks : List Bool) (before is : List Instr) (wrap : Nest → Nest)
    → ((t : Nest) → IsNest t → IsNest (wrap t)) → ((t : Nest) → flat (wrap t) ≡ before ++ flat t)
    → Ends (b ∷ blocks) is → Ends (b ∷ blocks) (before ++ is)
in_front b blocks before is wrap nested written h =
    let ending : Ending b (wrap h.0) h.2 (before ++ is) = elim h.4 [
      | inl e ↦ inl (ap (λ (x : List Instr). x ++ End ∷ h.2) (written h.0) ∙ append_assoc before (flat h.0) (End ∷ h.2)
          ∙ ap (λ (x : List Instr). before ++ x) e)
      | inr e ↦ inr (
        e.0,
        e.1,
        e.2,
        ap (λ (x : List Instr). x ++ Else ∷ (flat e.1 ++ End ∷ h.2)) (written h.0)
            ∙ append_assoc before (flat h.0) (Else ∷ (flat e.1 ++ End ∷ h.2)) ∙ ap (λ (x : List Instr). before ++ x) e.3,
      )
    ] in
    (wrap h.0, nested h.0 h.1, h.2, h.3, ending)

-- a block after its opening
block_front : (b : Bool) (blocks : List Bool) (first : Instr) (is : List Instr) (body : Nest) (rest : List Instr) (wrap : Nest → Nest)
    → ((t : Nest) → IsNest t → IsNest (wrap t)) → ((t : Nest) → flat (wrap t) ≡ first ∷ (flat body ++ End ∷ flat t))
    → flat body ++ End ∷ rest ≡ is → Ends (b ∷ blocks) rest → Ends (b ∷ blocks) (first ∷ is)
block_front b blocks first is body rest wrap nested written e h =
    let before : List Instr = first ∷ (flat body ++ End ∷ []) in
    let same : (t : List Instr) → before ++ t ≡ first ∷ (flat body ++ End ∷ t) =
    λ t. ap (λ (x : List Instr). first ∷ x) (append_assoc (flat body) (End ∷ []) t) in
    subst (λ (x : List Instr). Ends (b ∷ blocks) x) (same rest ∙ ap (λ (x : List Instr). first ∷ x) e)
    (in_front b blocks before rest wrap nested (λ t. written t ∙ sym (same (flat t))) h)

-- an `if` with both its parts after its opening
parts_front : (b : Bool) (blocks : List Bool) (ty : Option ValType) (is : List Instr) (body other : Nest) (rest : List Instr)
    → IsNest body → IsNest other → flat body ++ Else ∷ (flat other ++ End ∷ rest) ≡ is → Ends (b ∷ blocks) rest
    → Ends (b ∷ blocks) (If ty ∷ is)
parts_front b blocks ty is body other rest n m e h =
    let before : List Instr = If ty ∷ (flat body ++ Else ∷ (flat other ++ End ∷ [])) in
    let same : (t : List Instr) → before ++ t ≡ If ty ∷ (flat body ++ Else ∷ (flat other ++ End ∷ t)) = λ t.
    ap (λ (x : List Instr). If ty ∷ x) (append_assoc (flat body) (Else ∷ (flat other ++ End ∷ [])) t
    ∙ ap (λ (x : List Instr). flat body ++ Else ∷ x) (append_assoc (flat other) (End ∷ []) t)) in
    subst (λ (x : List Instr). Ends (b ∷ blocks) x) (same rest ∙ ap (λ (x : List Instr). If ty ∷ x) e)
    (in_front b blocks before rest (InIfElse ty body other) (λ t k. (n, m, k)) (λ t. sym (same (flat t))) h)

ends : (blocks : List Bool) (is : List Instr) → closes blocks is ≡ true → Ends blocks is
ends [] [] h = refl
ends [] (i ∷ is) h = absurd cc
ends (b ∷ blocks) [] h = absurd cc
ends (b ∷ blocks) (End ∷ is) h = (Empty, tt, is, ends blocks is h, inl refl)
ends (true ∷ blocks) (Else ∷ is) h =
    let r = ends (false ∷ blocks) is h in
    elim r.4 [
      | inl e ↦ (Empty, tt, r.2, r.3, inr (refl, r.0, r.1, ap (λ (x : List Instr). Else ∷ x) e))
      | inr e ↦ absurd cc
    ]
ends (false ∷ blocks) (Else ∷ is) h = absurd cc
ends (b ∷ blocks) (Block ty ∷ is) h =
    let r = ends (false ∷ b ∷ blocks) is h in
    elim r.4 [
      | inl e ↦ block_front b blocks (Block ty) is r.0 r.2 (InBlock ty r.0) (λ t n. (r.1, n)) (λ t. refl) e r.3
      | inr e ↦ absurd cc
    ]
ends (b ∷ blocks) (Loop ty ∷ is) h =
    let r = ends (false ∷ b ∷ blocks) is h in
    elim r.4 [
      | inl e ↦ block_front b blocks (Loop ty) is r.0 r.2 (InLoop ty r.0) (λ t n. (r.1, n)) (λ t. refl) e r.3
      | inr e ↦ absurd cc
    ]
ends (b ∷ blocks) (If ty ∷ is) h =
    let r = ends (true ∷ b ∷ blocks) is h in
    elim r.4 [
      | inl e ↦ block_front b blocks (If ty) is r.0 r.2 (InIf ty r.0) (λ t n. (r.1, n)) (λ t. refl) e r.3
      | inr e ↦ parts_front b blocks ty is r.0 e.1 r.2 r.1 e.2 e.3 r.3
    ]
ends (b ∷ blocks) (i ∷ is) h =
    in_front b blocks (i ∷ []) is (Plain i) (λ t n. (refl, n)) (λ t. refl) (ends (b ∷ blocks) is h)

pub closes_body : (body : List Instr) → closes (false ∷ []) body ≡ true → (nest : Nest) × IsBody nest body
closes_body body h =
    let r = ends (false ∷ []) body h in
    elim r.4 [
      | inl e ↦ (r.0, record { nested = r.1; written = ap (λ (x : List Instr). flat r.0 ++ End ∷ x) (sym r.3) ∙ e })
      | inr e ↦ absurd cc
    ]
