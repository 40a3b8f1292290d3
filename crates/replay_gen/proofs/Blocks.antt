-- Laws on arms: the code around them, and the sequence in which they are appended.
use Rattle.std.proofs.Common.{◌≡◌, ◌∙◌, refl, ap, sym, append_assoc, ℕ, suc, ◌+◌, List, [], ◌∷◌, ◌++◌, length, map, reverse, replicate, flat_map, None, arith}
use Rattle.std.specs.List.{range_with_len}
use Rattle.std.proofs.lemmas.List.{flat_map_more, reverse-append, reverse-reverse, length-reverse}
use Rattle.std.proofs.lemmas.List.{map-id}
use Rattle.std.proofs.lemmas.List.FromFn.{map-range_with_len_more}
use Rattle.wasm_syntax.specs.declared.instructions.Instr.{Instr}
use Rattle.wasm_syntax.specs.declared.instructions.Instr.TheVariants.{Block, End, Unreachable, BrTable}
use Rattle.wasm_syntax.specs.Nest.{Nest, Empty, flat}
use Rattle.replay_module_spec.specs.Dispatch.{sequence, nested, dispatch, body_of}
use Rattle.replay_gen.specs.Pieces.{dispatch_start, ended}

nothing_after : (is : List Instr) → is ++ [] ≡ is
nothing_after [] = refl
nothing_after (i ∷ is) = ap (λ l. i ∷ l) (nothing_after is)

-- plain instructions in front of a sequence
pub sequence_code : (is : List Instr) (rest : Nest) → flat (sequence is rest) ≡ is ++ flat rest
sequence_code [] rest = refl
sequence_code (i ∷ is) rest = ap (λ l. i ∷ l) (sequence_code is rest)

pub alone_code : (is : List Instr) → flat (sequence is Empty) ≡ is
alone_code is = sequence_code is Empty ∙ nothing_after is

arm_more : (arms : List (List Instr)) (arm : List Instr)
    → flat_map ended arms ++ ended arm ≡ flat_map ended (arms ++ arm ∷ [])
arm_more arms arm = flat_map_more ended [] arms arm

reversed_more : (arms : List (List Instr)) (arm : List Instr) → reverse (arm ∷ arms) ≡ reverse arms ++ arm ∷ []
reversed_more arms arm = reverse-append (arm ∷ []) arms

nested_code : (inner : Nest) (arms : List (List Instr))
    → flat (nested inner arms)
    ≡ replicate (length arms) (Block None) ++ (flat inner ++ flat_map ended (reverse arms))
nested_code inner [] = sym (nothing_after (flat inner))
nested_code inner (arm ∷ arms) =
    let blocks : List Instr = replicate (length arms) (Block None) in
    let before : List Instr = flat_map ended (reverse arms) in
    let arms-are : before ++ ended arm ≡ flat_map ended (reverse (arm ∷ arms)) =
    arm_more (reverse arms) arm ∙ ap (flat_map ended) (sym (reversed_more arms arm)) in
    ap (λ l. Block None ∷ (l ++ End ∷ flat (sequence arm Empty))) (nested_code inner arms)
    ∙ (ap (λ l. Block None ∷ ((blocks ++ (flat inner ++ before)) ++ End ∷ l)) (alone_code arm)
    ∙ ap (λ l. Block None ∷ l) (append_assoc blocks (flat inner ++ before) (ended arm)
    ∙ ap (λ l. blocks ++ l) (append_assoc (flat inner) before (ended arm) ∙ ap (λ l. flat inner ++ l) arms-are)))

all_arms : (arms : List (List Instr))
    → flat_map ended (reverse ((Unreachable ∷ []) ∷ reverse arms)) ≡ flat_map ended arms ++ End ∷ Unreachable ∷ []
all_arms arms =
    ap (flat_map ended) (reversed_more (reverse arms) (Unreachable ∷ []) ∙ ap (λ l. l ++ (Unreachable ∷ []) ∷ []) (reverse-reverse arms))
    ∙ sym (arm_more arms (Unreachable ∷ []))

-- arms that a branch table leads to
pub dispatch_code : (selector : List Instr) (arms : List (List Instr)) (count : ℕ) → length arms ≡ count
    → flat (dispatch selector arms) ≡ dispatch_start selector count ++ (flat_map ended arms ++ End ∷ Unreachable ∷ [])
dispatch_code selector arms count many =
    let inner : List Instr = selector ++ BrTable (range_with_len 0 (length arms)) (length arms) ∷ [] in
    let rest : List Instr = flat_map ended arms ++ End ∷ Unreachable ∷ [] in
    let blocks : suc (length (reverse arms)) ≡ length arms + 1 = omega (arith, length-reverse arms) in
    nested_code (sequence inner Empty) ((Unreachable ∷ []) ∷ reverse arms)
    ∙ (ap (λ k. replicate k (Block None) ++ (flat (sequence inner Empty) ++ flat_map ended (reverse ((Unreachable ∷ []) ∷ reverse arms)))) blocks
    ∙ (ap (λ l. replicate (length arms + 1) (Block None) ++ (l ++ flat_map ended (reverse ((Unreachable ∷ []) ∷ reverse arms)))) (alone_code inner)
    ∙ (ap (λ l. replicate (length arms + 1) (Block None) ++ (inner ++ l)) (all_arms arms)
    ∙ (sym (append_assoc (replicate (length arms + 1) (Block None)) inner rest)
    ∙ ap (λ k. dispatch_start selector k ++ rest) many))))

-- a body of arms in the sequence in which it is appended
pub dispatch_body : (front selector : List Instr) (arms : List (List Instr)) (count : ℕ) (started armed now : List Instr)
    → length arms ≡ count → started ≡ front ++ dispatch_start selector count
    → armed ≡ started ++ flat_map ended arms → now ≡ armed ++ End ∷ Unreachable ∷ End ∷ []
    → now ≡ body_of (sequence front (dispatch selector arms))
dispatch_body front selector arms count started armed now many start-written arms-written end-written =
    let start : List Instr = dispatch_start selector count in
    let middle : List Instr = flat_map ended arms in
    end-written
    ∙ (ap (λ l. l ++ End ∷ Unreachable ∷ End ∷ []) (arms-written ∙ ap (λ l. l ++ middle) start-written)
    ∙ (append_assoc (front ++ start) middle (End ∷ Unreachable ∷ End ∷ [])
    ∙ (append_assoc front start (middle ++ End ∷ Unreachable ∷ End ∷ [])
    ∙ (ap (λ l. front ++ (start ++ l)) (sym (append_assoc middle (End ∷ Unreachable ∷ []) (End ∷ [])))
    ∙ (ap (λ l. front ++ l) (sym (append_assoc start (middle ++ End ∷ Unreachable ∷ []) (End ∷ [])))
    ∙ (ap (λ l. front ++ (l ++ End ∷ [])) (sym (dispatch_code selector arms count many))
    ∙ (sym (append_assoc front (flat (dispatch selector arms)) (End ∷ []))
    ∙ ap (λ l. l ++ End ∷ []) (sym (sequence_code front (dispatch selector arms))))))))))

-- ---- ranges

-- one more number of a range
pub label_more : (n : ℕ) (before now : List ℕ) → before ≡ range_with_len 0 n → now ≡ before ++ n ∷ []
    → now ≡ range_with_len 0 (n + 1)
label_more n before now invariant written =
    written ∙ (ap (λ l. l ++ n ∷ []) (invariant ∙ sym (map-id (range_with_len 0 n)))
    ∙ (sym (map-range_with_len_more (λ (x : ℕ). x) 0 n n (omega arith)) ∙ map-id (range_with_len 0 (n + 1))))

-- one more arm, of the next number of a range
pub range_arm_more : (arm : ℕ → List Instr) (first n : ℕ) (start before now : List Instr)
    → before ≡ start ++ flat_map ended (map arm (range_with_len first n)) → now ≡ before ++ ended (arm (first + n))
    → now ≡ start ++ flat_map ended (map arm (range_with_len first (n + 1)))
range_arm_more arm first n start before now invariant written =
    written ∙ (ap (λ l. l ++ ended (arm (first + n))) invariant
    ∙ (flat_map_more ended start (map arm (range_with_len first n)) (arm (first + n))
    ∙ ap (λ l. start ++ flat_map ended l) (sym (map-range_with_len_more arm first n (first + n) refl))))
