-- Lemmas on the operand stack and the control stack.
use Rattle.std.proofs.Common.{◌≡◌, ℕ, ◌-◌, ◌+◌, ◌<◌, ◌≤◌, suc, List, [], ◌∷◌, ◌++◌, length, reverse, take, drop, map, get_or, Option, Some, None, true, cond, ◌&&◌, refl, sym, ap, subst, ◌∙◌, arith, leb, eqb, inl, inr}
use Rattle.std.specs.Prelude.{slice_get, slice_set, option_map}
use Rattle.std.proofs.lemmas.Bool.{cases_lt, le-leb, lt-leb}
use Rattle.std.proofs.lemmas.Bool.Decides.{eqb_tells}
use Rattle.std.proofs.lemmas.List.{length-reverse, length-drop, reverse-append, take_more, take_all, drop_all, set_split, get_or-reverse}
use Rattle.std.proofs.lemmas.Option.{slice_get-map, slice_get-get_or, slice_get_past}
use Rattle.wasm_syntax.specs.declared.values.ValType.{ValType}
use Rattle.wasm_syntax.specs.Typing.{results_of}
use Rattle.wasm_syntax.specs.KnownStacks.{Known, known_stack, anything, nothing, none_left, pops, ends}
use Rattle.wasm_validate.specs.declared.stacks.Kind.TheVariants.{Block}
use Rattle.wasm_validate.specs.declared.stacks.Frame.{Frame}
use Rattle.wasm_validate.specs.Flat.{Level, level, state, label_of, label_of_kind, is_if, is_closed, after_else}
use Rattle.wasm_validate.specs.Stacks.{levels_of, AreHeights}

none_left-length : (slots : List (Option ValType)) → leb (length slots) 0 ≡ none_left slots
none_left-length [] = refl
none_left-length (slot ∷ slots) = lt-leb (suc (length slots)) 0 (omega arith)

same-test : (a b c d : ℕ) → (a ≤ b → c ≤ d) → (b < a → d < c) → leb a b ≡ leb c d
same-test a b c d f g =
    elim (cases_lt b a) [ inl h ↦ lt-leb a b h ∙ sym (lt-leb c d (g h)) | inr h ↦ le-leb a b h ∙ sym (le-leb c d (f h)) ]

-- no operand is above the height
pub none_left-above : (count height : ℕ) (slots : List (Option ValType)) → count ≡ length slots
    → leb count height ≡ none_left (reverse (drop height slots))
none_left-above count height slots e =
    same-test count height (length (reverse (drop height slots))) 0
    (λ h. omega (arith, e, length-reverse (drop height slots), length-drop height slots))
    (λ h. omega (arith, e, length-reverse (drop height slots), length-drop height slots))
    ∙ none_left-length (reverse (drop height slots))

-- any operands can be popped if anything may be on the stack
pub pops-anything : (types : List ValType) → pops types anything ≡ Some anything
pops-anything [] = refl
pops-anything (t ∷ types) = pops-anything types

pub pops-where_anything : (types all : List ValType) (here before : Known) → here ≡ anything
    → pops types here ≡ pops all before → Some here ≡ pops all before
pops-where_anything types all here before e h = ap Some e ∙ sym (pops-anything types) ∙ ap (pops types) (sym e) ∙ h

-- ---- the control stack

pub closed-frames : (frames : List Frame) (outer : List (Option ValType))
    → is_closed (levels_of frames outer) ≡ eqb (length frames) 0
closed-frames [] outer = refl
closed-frames (f ∷ frames) outer = elim (eqb_tells (suc (length frames)) 0) [ inl h ↦ absurd (omega (arith, h.1)) | inr h ↦ sym h.0 ]

pub closed-reversed : (frames : List Frame) (outer : List (Option ValType))
    → is_closed (levels_of (reverse frames) outer) ≡ eqb (length frames) 0
closed-reversed frames outer = closed-frames (reverse frames) outer ∙ ap (λ n. eqb n 0) (length-reverse frames)

abbrev frame_label : Frame → List ValType
frame_label f = label_of_kind f.kind f.result

labels-frames : (frames : List Frame) (outer : List (Option ValType))
    → map label_of (levels_of frames outer) ≡ map frame_label frames
labels-frames [] outer = refl
labels-frames (f ∷ frames) outer = ap (λ ls. frame_label f ∷ ls) (labels-frames frames (take f.height outer))

labels-at : (frames : List Frame) (outer : List (Option ValType)) (index : ℕ)
    → slice_get (map label_of (levels_of (reverse frames) outer)) index ≡ option_map frame_label (slice_get (reverse frames) index)
labels-at frames outer index = ap (λ ls. slice_get ls index) (labels-frames (reverse frames) outer) ∙ slice_get-map frame_label (reverse frames) index

-- the label of a block that is open
pub label-there : (frames : List Frame) (outer : List (Option ValType)) (count index place : ℕ) (f : Frame)
    → count ≡ length frames → place + (1 + index) ≡ count → f ≡ get_or frames place f
    → Some (label_of_kind f.kind f.result) ≡ slice_get (map label_of (levels_of (reverse frames) outer)) index
label-there frames outer count index place f e p is =
    let within : index < length frames = omega arith in
    let at : length frames - 1 - index ≡ place = omega arith in
    let found : slice_get (reverse frames) index ≡ Some f =
    slice_get-get_or (reverse frames) index f (omega (arith, length-reverse frames))
    ∙ ap Some (get_or-reverse frames index f within ∙ ap (λ n. get_or frames n f) at ∙ sym is)
    in
    sym (labels-at frames outer index ∙ ap (option_map frame_label) found)

pub label-missing : (frames : List Frame) (outer : List (Option ValType)) (index : ℕ) → length frames < 1 + index
    → None ≡ slice_get (map label_of (levels_of (reverse frames) outer)) index
label-missing frames outer index h =
    sym (labels-at frames outer index ∙ ap (option_map frame_label) (slice_get_past (reverse frames) index (omega (arith, length-reverse frames))))

-- the last block
last-frame : (frames : List Frame) (last : ℕ) (f : Frame) → length frames ≡ last + 1 → f ≡ get_or frames last f
    → reverse frames ≡ f ∷ reverse (take last frames)
last-frame frames last f e is =
    ap reverse (sym (take_all (last + 1) frames (omega arith)) ∙ take_more frames last f (omega arith) ∙ ap (λ x. take last frames ++ x ∷ []) (sym is))
    ∙ reverse-append (take last frames) (f ∷ [])

last-set : (frames : List Frame) (last : ℕ) (f : Frame) → length frames ≡ last + 1
    → reverse (slice_set frames last f) ≡ f ∷ reverse (take last frames)
last-set frames last f e =
    ap reverse (set_split frames last f (omega arith) ∙ ap (λ rest. take last frames ++ f ∷ rest) (drop_all (suc last) frames (omega arith)))
    ∙ reverse-append (take last frames) (f ∷ [])

pub heights-set : (frames : List Frame) (last : ℕ) (f g : Frame) (outer : List (Option ValType))
    → length frames ≡ last + 1 → f ≡ get_or frames last f → g.height ≡ f.height → AreHeights (reverse frames) outer
    → AreHeights (reverse (slice_set frames last g)) outer
heights-set frames last f g outer e is same h =
    let before = subst (λ fs. AreHeights fs outer) (last-frame frames last f e is) h in
    subst (λ fs. AreHeights fs outer) (sym (last-set frames last g e))
    (omega (arith, before.0), subst (λ n. AreHeights (reverse (take last frames)) (take n outer)) (sym same) before.1)

pub parted-frames : (frames : List Frame) (last : ℕ) (f : Frame) (outer : List (Option ValType)) (here : Known)
    → length frames ≡ last + 1 → f ≡ get_or frames last f → is_if f.kind ≡ true
    → ends (results_of f.result) (Some here) ≡ true
    → Some (state (levels_of (reverse (slice_set frames last (record f { kind = Block }))) outer) nothing)
    ≡ after_else (levels_of (reverse frames) outer) here
parted-frames frames last f outer here e is if may =
    let pass : (is_if f.kind && ends (results_of f.result) (Some here)) ≡ true = ap (λ b. b && ends (results_of f.result) (Some here)) if ∙ may in
    let l : Level = level f.kind f.result (known_stack (reverse (drop f.height outer)) f.free) in
    let rest : List Level = levels_of (reverse (take last frames)) (take f.height outer) in
    ap (λ fs. Some (state (levels_of fs outer) nothing)) (last-set frames last (record f { kind = Block }) e)
    ∙ ap (λ b. cond b (Some (state (level Block l.result l.below ∷ rest) nothing)) None) (sym pass)
    ∙ ap (λ fs. after_else (levels_of fs outer) here) (sym (last-frame frames last f e is))
