-- What holds of each instruction of a body's list holds of those of its tree, and no instruction of the tree is
-- refused if no instruction of the list is.
use Rattle.std.proofs.Common.{◌≡◌, ℕ, suc, zero, ◌+◌, List, [], ◌∷◌, ◌++◌, Some, None, Bool, true, false, cond, option_map, slice_get, refl, sym, subst}
use Rattle.std.specs.Prelude.{filter, filter_map, flat_map}
use Rattle.std.specs.List.{AllByRecursion, enumerate_from}
use Rattle.std.proofs.lemmas.List.{append_assoc}
use Rattle.base.proofs.Lists.{nil_parts}
use Rattle.wasm_syntax.proofs.JoinedLists.{nil_option_of}
use Rattle.wasm_syntax.specs.declared.instructions.Instr.{Instr}
use Rattle.wasm_syntax.specs.declared.instructions.Instr.TheVariants.{Else, End, Numeric}
use Rattle.wasm_syntax.specs.declared.modules.Func.{Func}
use Rattle.wasm_syntax.specs.Nest.{Nest, Empty, Plain, InBlock, InLoop, InIf, InIfElse, flat, IsBody}
use Rattle.wasm_syntax.specs.Profile.{Unsupported, refused_feature, is_numbered, refused_in}
use Rattle.type_safety.specs.Frames.{AllPlain, HasNoneRefused}

-- what holds of each instruction of a list holds of the plain ones of its tree, and of the instructions after it
abbrev HoldsIn : (P : Instr → Type 0) → Nest → Type 0
HoldsIn P t =
    (more : List Instr) → AllByRecursion P (flat t ++ more) → AllPlain P t × AllByRecursion P more

all_in_block : (P : Instr → Type 0) (body rest : Nest) → HoldsIn P body → HoldsIn P rest → (more : List Instr)
    → AllByRecursion P ((flat body ++ End ∷ flat rest) ++ more)
    → (AllPlain P body × AllPlain P rest) × AllByRecursion P more
all_in_block P body rest in_body in_rest more h =
    let p = in_body (End ∷ (flat rest ++ more))
    (subst (AllByRecursion P) (append_assoc (flat body) (End ∷ flat rest) more) h) in
    let q = in_rest more p.1.1 in
    ((p.0, q.0), q.1)

all_in_nest : (P : Instr → Type 0) (t : Nest) → HoldsIn P t
all_in_nest P Empty more h = (tt, h)
all_in_nest P (Plain i rest) more h = let p = all_in_nest P rest more h.1 in ((h.0, p.0), p.1)
all_in_nest P (InBlock ty body rest) more h =
    all_in_block P body rest (λ m g. all_in_nest P body m g) (λ m g. all_in_nest P rest m g) more h.1
all_in_nest P (InLoop ty body rest) more h =
    all_in_block P body rest (λ m g. all_in_nest P body m g) (λ m g. all_in_nest P rest m g) more h.1
all_in_nest P (InIf ty body rest) more h =
    all_in_block P body rest (λ m g. all_in_nest P body m g) (λ m g. all_in_nest P rest m g) more h.1
all_in_nest P (InIfElse ty body other rest) more h =
    let p = all_in_nest P body (Else ∷ ((flat other ++ End ∷ flat rest) ++ more))
    (subst (AllByRecursion P) (append_assoc (flat body) (Else ∷ (flat other ++ End ∷ flat rest)) more) h.1) in
    let q = all_in_block P other rest (λ m g. all_in_nest P other m g) (λ m g. all_in_nest P rest m g) more p.1.1 in
    ((p.0, q.0.0, q.0.1), q.1)

-- what holds of each instruction of a body holds of the plain ones of its tree
pub all_in_body : (P : Instr → Type 0) (t : Nest) (body : List Instr) → AllByRecursion P body → IsBody t body
    → AllPlain P t
all_in_body P t body all is = (all_in_nest P t (End ∷ []) (subst (AllByRecursion P) (sym is.written) all)).0

-- no instruction of the list is refused
abbrev NoneIn : List Instr → Type 0
NoneIn = AllByRecursion (λ i. refused_feature i ≡ None)

unnumbered : (i : Instr) → is_numbered i ≡ false → refused_feature i ≡ None
unnumbered Else h = refl
unnumbered End h = refl
unnumbered (Numeric op) h = cc
unnumbered i h = refl

none_in_body : (func start : ℕ) (body : List Instr)
    → filter_map (λ (i : ℕ × Instr). option_map (Unsupported func i.0) (refused_feature i.1))
    (enumerate_from start (filter is_numbered body)) ≡ [] → NoneIn body
none_in_body func start [] h = tt
none_in_body func start (i ∷ is) h = by (is_numbered i) refl (λ k g. none_in_body func k is g)
  where
    by : (b : Bool) → is_numbered i ≡ b
        → ((k : ℕ) → filter_map (λ (j : ℕ × Instr). option_map (Unsupported func j.0) (refused_feature j.1))
        (enumerate_from k (filter is_numbered is)) ≡ [] → NoneIn is)
        → NoneIn (i ∷ is)
    by true e later =
        let own : filter_map (λ (j : ℕ × Instr). option_map (Unsupported func j.0) (refused_feature j.1))
        (enumerate_from start (cond true (i ∷ filter is_numbered is) (filter is_numbered is))) ≡ [] =
        subst (λ b. filter_map (λ (j : ℕ × Instr). option_map (Unsupported func j.0) (refused_feature j.1))
        (enumerate_from start (cond b (i ∷ filter is_numbered is) (filter is_numbered is))) ≡ []) e h in
        let p = nil_option_of (Unsupported func start) (refused_feature i)
        (filter_map (λ (j : ℕ × Instr). option_map (Unsupported func j.0) (refused_feature j.1))
        (enumerate_from (start + 1) (filter is_numbered is))) own in
        (p.0, later (start + 1) p.1)
    by false e later =
        let own : filter_map (λ (j : ℕ × Instr). option_map (Unsupported func j.0) (refused_feature j.1))
        (enumerate_from start (cond false (i ∷ filter is_numbered is) (filter is_numbered is))) ≡ [] =
        subst (λ b. filter_map (λ (j : ℕ × Instr). option_map (Unsupported func j.0) (refused_feature j.1))
        (enumerate_from start (cond b (i ∷ filter is_numbered is) (filter is_numbered is))) ≡ []) e h in
        (unnumbered i e, later start own)

-- if no instruction of a module is refused, no instruction of any function is
none_at : (start : ℕ) (funcs : List Func) (k : ℕ) (func : Func)
    → flat_map (λ (f : ℕ × Func). refused_in f.0 f.1) (enumerate_from start funcs) ≡ []
    → slice_get funcs k ≡ Some func → (index : ℕ) × (refused_in index func ≡ [])
none_at start [] k func h is = cc
none_at start (f ∷ funcs) zero func h is =
    let here : f ≡ func = cc in
    let p = nil_parts (refused_in start f)
    (flat_map (λ (g : ℕ × Func). refused_in g.0 g.1) (enumerate_from (start + 1) funcs)) h in
    (start, subst (λ g. refused_in start g ≡ []) here p.0)
none_at start (f ∷ funcs) (suc k) func h is =
    let p = nil_parts (refused_in start f)
    (flat_map (λ (g : ℕ × Func). refused_in g.0 g.1) (enumerate_from (start + 1) funcs)) h in
    none_at (start + 1) funcs k func p.1 is

pub body_supported : (start : ℕ) (funcs : List Func) (k : ℕ) (func : Func) (t : Nest)
    → flat_map (λ (f : ℕ × Func). refused_in f.0 f.1) (enumerate_from start funcs) ≡ []
    → slice_get funcs k ≡ Some func → IsBody t func.body → HasNoneRefused t
body_supported start funcs k func t h is body =
    let p = none_at start funcs k func h is in
    all_in_body (λ i. refused_feature i ≡ None) t func.body (none_in_body p.0 0 func.body p.1) body
