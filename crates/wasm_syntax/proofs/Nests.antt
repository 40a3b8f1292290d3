-- Reading a flat list from its end gives the one tree whose flat list it is.
use Rattle.std.proofs.Common.{◌≡◌, List, [], ◌∷◌, ◌++◌, Some, IsTrue, refl, sym, ap, ◌∙◌, subst, append_assoc}
use Rattle.wasm_syntax.specs.declared.instructions.Instr.{Instr}
use Rattle.wasm_syntax.specs.declared.instructions.Instr.TheVariants.{Block, Loop, If, Else, End}
use Rattle.wasm_syntax.specs.Nest.{Nest, Empty, Plain, InBlock, InLoop, InIf, InIfElse, is_plain, IsNest, flat, IsBody, Open, Outside, InEnd, InElse, OpenNest, NoNest, Within, in_front, open_nest, closed_nest, nest_of}

-- ---- the tree's flat list is read back

pub plain_in_front : (i : Instr) (first : Nest) (around : Open) → IsTrue (is_plain i)
    → in_front i (Within first around) ≡ Within (Plain i first) around
plain_in_front (Block ty) first around h = cc
plain_in_front (Loop ty) first around h = cc
plain_in_front (If ty) first around h = cc
plain_in_front Else first around h = cc
plain_in_front End first around h = cc
plain_in_front i first around h = refl

pub reading_flat : (nest : Nest) (is : List Instr) (around : Open) → IsNest nest → open_nest is ≡ Within Empty around
    → open_nest (flat nest ++ is) ≡ Within nest around
reading_flat Empty is around h e = e
reading_flat (Plain i rest) is around h e =
    ap (in_front i) (reading_flat rest is around h.1 e) ∙ plain_in_front i rest around h.0
reading_flat (InBlock ty body rest) is around h e =
    let behind = ap (in_front End) (reading_flat rest is around h.1 e) in
    ap (λ l. in_front (Block ty) (open_nest l)) (append_assoc (flat body) (End ∷ flat rest) is)
    ∙ ap (in_front (Block ty)) (reading_flat body (End ∷ (flat rest ++ is)) (InEnd around rest) h.0 behind)
reading_flat (InLoop ty body rest) is around h e =
    let behind = ap (in_front End) (reading_flat rest is around h.1 e) in
    ap (λ l. in_front (Loop ty) (open_nest l)) (append_assoc (flat body) (End ∷ flat rest) is)
    ∙ ap (in_front (Loop ty)) (reading_flat body (End ∷ (flat rest ++ is)) (InEnd around rest) h.0 behind)
reading_flat (InIf ty body rest) is around h e =
    let behind = ap (in_front End) (reading_flat rest is around h.1 e) in
    ap (λ l. in_front (If ty) (open_nest l)) (append_assoc (flat body) (End ∷ flat rest) is)
    ∙ ap (in_front (If ty)) (reading_flat body (End ∷ (flat rest ++ is)) (InEnd around rest) h.0 behind)
reading_flat (InIfElse ty body other rest) is around h e =
    let behind = ap (in_front End) (reading_flat rest is around h.2 e) in
    let parted = ap (in_front Else) (reading_flat other (End ∷ (flat rest ++ is)) (InEnd around rest) h.1 behind) in
    ap (λ l. in_front (If ty) (open_nest l)) (append_assoc (flat body) (Else ∷ (flat other ++ End ∷ flat rest)) is
    ∙ ap (λ l. flat body ++ Else ∷ l) (append_assoc (flat other) (End ∷ flat rest) is))
    ∙ ap (in_front (If ty)) (reading_flat body (Else ∷ (flat other ++ End ∷ (flat rest ++ is))) (InElse around other rest) h.0 parted)

-- a body's tree is the one that is read
pub nest_of_body : (nest : Nest) (body : List Instr) → IsBody nest body → nest_of body ≡ Some nest
nest_of_body nest body h =
    ap nest_of (sym h.written) ∙ ap closed_nest (reading_flat nest (End ∷ []) (InEnd Outside Empty) h.nested refl)

-- ---- what is read is a tree of the list

-- the open sequences as a flat list
abbrev text : Open → List Instr
text Outside = []
text (InEnd outer rest) = End ∷ (flat rest ++ text outer)
text (InElse outer other rest) = Else ∷ (flat other ++ End ∷ (flat rest ++ text outer))

abbrev AreNests : Open → Type 0
AreNests Outside = Unit {0}
AreNests (InEnd outer rest) = IsNest rest × AreNests outer
AreNests (InElse outer other rest) = IsNest other × IsNest rest × AreNests outer

-- what is read, as a flat list
abbrev Stood : OpenNest → List Instr → Type 0
Stood NoNest is = Unit {0}
Stood (Within first around) is = IsNest first × AreNests around × (flat first ++ text around ≡ is)

module _ (i : Instr) (is : List Instr) where
  stood_plain : (first : Nest) (around : Open) → IsTrue (is_plain i) → Stood (Within first around) is
      → Stood (Within (Plain i first) around) (i ∷ is)
  stood_plain first around p h = ((p, h.0), h.1, ap (λ l. i ∷ l) h.2)

stood_in_front : (i : Instr) (r : OpenNest) (is : List Instr) → Stood r is → Stood (in_front i r) (i ∷ is)
stood_in_front i NoNest is h = tt
stood_in_front End (Within first around) is h = (tt, (h.0, h.1), ap (λ l. End ∷ l) h.2)
stood_in_front Else (Within first (InEnd outer rest)) is h = (tt, (h.0, h.1.0, h.1.1), ap (λ l. Else ∷ l) h.2)
stood_in_front Else (Within first Outside) is h = tt
stood_in_front Else (Within first (InElse outer other rest)) is h = tt
stood_in_front (Block ty) (Within first (InEnd outer rest)) is h =
    ((h.0, h.1.0), h.1.1, ap (λ l. Block ty ∷ l) (append_assoc (flat first) (End ∷ flat rest) (text outer) ∙ h.2))
stood_in_front (Block ty) (Within first Outside) is h = tt
stood_in_front (Block ty) (Within first (InElse outer other rest)) is h = tt
stood_in_front (Loop ty) (Within first (InEnd outer rest)) is h =
    ((h.0, h.1.0), h.1.1, ap (λ l. Loop ty ∷ l) (append_assoc (flat first) (End ∷ flat rest) (text outer) ∙ h.2))
stood_in_front (Loop ty) (Within first Outside) is h = tt
stood_in_front (Loop ty) (Within first (InElse outer other rest)) is h = tt
stood_in_front (If ty) (Within first (InEnd outer rest)) is h =
    ((h.0, h.1.0), h.1.1, ap (λ l. If ty ∷ l) (append_assoc (flat first) (End ∷ flat rest) (text outer) ∙ h.2))
stood_in_front (If ty) (Within first (InElse outer other rest)) is h = (
  (h.0, h.1.0, h.1.1),
  h.1.2,
  ap (λ l. If ty ∷ l) (append_assoc (flat first) (Else ∷ (flat other ++ End ∷ flat rest)) (text outer)
      ∙ ap (λ l. flat first ++ Else ∷ l) (append_assoc (flat other) (End ∷ flat rest) (text outer)) ∙ h.2),
)
stood_in_front (If ty) (Within first Outside) is h = tt
stood_in_front i (Within first around) is h = stood_plain i is first around refl h

stood_reading : (is : List Instr) → Stood (open_nest is) is
stood_reading [] = (tt, tt, refl)
stood_reading (i ∷ is) = stood_in_front i (open_nest is) is (stood_reading is)

-- the tree that is read is the body's
pub body_of_nest : (nest : Nest) (body : List Instr) → nest_of body ≡ Some nest → IsBody nest body
body_of_nest nest body h = by (open_nest body) h (stood_reading body)
  where
    by : (r : OpenNest) → closed_nest r ≡ Some nest → Stood r body → IsBody nest body
    by (Within first (InEnd Outside Empty)) e s =
        let is_first : first ≡ nest = cc in
        record { nested = subst IsNest is_first s.0; written = ap (λ n. flat n ++ End ∷ []) (sym is_first) ∙ s.2 }
    by r e s = cc
