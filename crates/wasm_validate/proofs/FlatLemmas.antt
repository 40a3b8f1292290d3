-- One pass over a flat body agrees with the checker on the body's tree.
use Rattle.std.proofs.Common.{◌≡◌, List, [], ◌∷◌, ◌++◌, Option, Some, None, Bool, true, false, cond, ◌&&◌, option_map, IsTrue, refl, sym, ap, ◌∙◌, append_assoc, ◌↔◌}
use Rattle.std.specs.Option.{option_and_then}
use Rattle.std.proofs.lemmas.Bool.{false≢true}
use Rattle.std.proofs.lemmas.Option.{none-some}
use Rattle.base.proofs.Booleans.{and_left}
use Rattle.wasm_syntax.specs.declared.values.ValType.{ValType}
use Rattle.wasm_syntax.specs.declared.values.ValType.TheVariants.{I32}
use Rattle.wasm_syntax.specs.declared.instructions.Instr.{Instr}
use Rattle.wasm_syntax.specs.declared.instructions.Instr.TheVariants as instr
use Rattle.wasm_syntax.specs.Nest.{Nest, Empty, Plain, InBlock, InLoop, InIf, InIfElse, is_plain, IsNest, flat, IsBody, Open, Outside, InEnd, InElse, Within, in_front, open_nest, closed_nest, nest_of}
use Rattle.wasm_syntax.specs.Typing.{Context, instr_type, is_block_type, results_of, inside}
use Rattle.wasm_syntax.specs.KnownStacks.{Known, nothing, push_types, pop, ends, after_instr, known_after}
use Rattle.wasm_syntax.specs.ValidityTests.{nest_ends}
use Rattle.wasm_syntax.proofs.Nests.{plain_in_front}
use Rattle.wasm_validate.specs.declared.stacks.Kind.{Kind}
use Rattle.wasm_validate.specs.declared.stacks.Kind.TheVariants.{Block, Loop, If}
use Rattle.wasm_validate.specs.Flat.{Level, level, State, state, within, after_open, may_leave, is_if, may_close, after_plain, state_after, on_some, scan, body_start}

-- ---- the tests

changed-plain : (ctx : Context) (i : Instr) (s : State) → IsTrue (is_plain i)
    → state_after ctx i s ≡ after_plain (instr_type (within ctx s.levels) i) (within ctx s.levels) s
changed-plain ctx (instr.Block ty) s h = cc
changed-plain ctx (instr.Loop ty) s h = cc
changed-plain ctx (instr.If ty) s h = cc
changed-plain ctx instr.Else s h = cc
changed-plain ctx instr.End s h = cc
changed-plain ctx i s h = refl

-- what the checker knows, in the innermost block
abbrev then : Context → List Instr → List Level → Option Known → Bool
then ctx is levels None = false
then ctx is levels (Some k) = scan ctx is (state levels k)

then-moved : (ctx : Context) (is : List Instr) (levels : List Level) (o : Option Known)
    → on_some (λ s. scan ctx is s) (option_map (state levels) o) ≡ then ctx is levels o
then-moved ctx is levels None = refl
then-moved ctx is levels (Some k) = refl

-- the end of a block
then-end : (ctx : Context) (is : List Instr) (l : Level) (levels : List Level) (o : Option Known)
    → then ctx (instr.End ∷ is) (l ∷ levels) o ≡ cond (may_close l.kind l.result && ends (results_of l.result) o)
    (scan ctx is (state levels (push_types (results_of l.result) l.below))) false
then-end ctx is l levels None =
    elim (may_close l.kind l.result) as
    (λ b. false ≡ cond (b && false) (scan ctx is (state levels (push_types (results_of l.result) l.below))) false)
    [ true ↦ refl | false ↦ refl ]
then-end ctx is l levels (Some k) =
    elim (may_close l.kind l.result && ends (results_of l.result) (Some k)) as
    (λ b. on_some (λ s. scan ctx is s) (cond b (Some (state levels (push_types (results_of l.result) l.below))) None) ≡
    cond b (scan ctx is (state levels (push_types (results_of l.result) l.below))) false) [ true ↦ refl | false ↦ refl ]

-- the second part of an `if`
then-else : (ctx : Context) (is : List Instr) (result : Option ValType) (below : Known) (levels : List Level) (o : Option Known)
    → then ctx (instr.Else ∷ is) (level If result below ∷ levels) o
    ≡ cond (ends (results_of result) o) (scan ctx is (state (level Block result below ∷ levels) nothing)) false
then-else ctx is result below levels None = refl
then-else ctx is result below levels (Some k) =
    elim (ends (results_of result) (Some k)) as
    (λ b. on_some (λ s. scan ctx is s) (cond b (Some (state (level Block result below ∷ levels) nothing)) None)
    ≡ cond b (scan ctx is (state (level Block result below ∷ levels) nothing)) false) [ true ↦ refl | false ↦ refl ]

-- ---- a nested sequence

on_some-cond : (f : State → Bool) (b : Bool) (s : State) → on_some f (cond b (Some s) None) ≡ cond b (f s) false
on_some-cond f true s = refl
on_some-cond f false s = refl

on_some-opened : (f : State → Bool) (ty : Option ValType) (levels : List Level)
    → on_some f (after_open If ty levels None) ≡ false
on_some-opened f ty levels = elim (is_block_type ty) as (λ b. on_some f (cond b None None) ≡ false) [ true ↦ refl | false ↦ refl ]

-- a block that is checked, then the rest of the body
then-block : (ctx : Context) (is : List Instr) (levels : List Level) (b e : Bool) (next : Option Known) (a : Bool)
    → (b ≡ true → a ≡ cond e (then ctx is levels next) false)
    → cond b a false ≡ then ctx is levels (cond (b && e) next None)
then-block ctx is levels true true next a h = h refl
then-block ctx is levels true false next a h = h refl
then-block ctx is levels false e next a h = refl

-- the instructions of a block and the rest of the body
block-scanned : (ctx : Context) (front tail is : List Instr) (kind : Kind) (ty : Option ValType) (here : Known) (outer : List Level) (inner next : Option Known)
    → may_close kind ty ≡ true
    → scan ctx front (state (level kind ty here ∷ outer) nothing) ≡ then ctx (instr.End ∷ tail) (level kind ty here ∷ outer) inner
    → scan ctx tail (state outer (push_types (results_of ty) here)) ≡ then ctx is outer next
    → on_some (λ s. scan ctx front s) (after_open kind ty outer (Some here))
    ≡ then ctx is outer (cond (is_block_type ty && ends (results_of ty) inner) next None)
block-scanned ctx front tail is kind ty here outer inner next may body rest =
    on_some-cond (λ s. scan ctx front s) (is_block_type ty) (state (level kind ty here ∷ outer) nothing)
    ∙ then-block ctx is outer (is_block_type ty) (ends (results_of ty) inner) next _
    (λ e. body
    ∙ then-end ctx tail (level kind ty here) outer inner
    ∙ ap (λ b. cond (b && ends (results_of ty) inner) (scan ctx tail (state outer (push_types (results_of ty) here))) false) may
    ∙ ap (λ a. cond (ends (results_of ty) inner) a false) rest)

-- an `if` without a second part, and one with it
then-if : (ctx : Context) (is : List Instr) (levels : List Level) (b e e0 : Bool) (next : Option Known) (a : Bool)
    → (b ≡ true → a ≡ cond (e0 && e) (then ctx is levels next) false)
    → cond b a false ≡ then ctx is levels (cond (b && e && e0) next None)
then-if ctx is levels true true true next a h = h refl
then-if ctx is levels true true false next a h = h refl
then-if ctx is levels true false true next a h = h refl
then-if ctx is levels true false false next a h = h refl
then-if ctx is levels false e e0 next a h = refl

then-parts : (ctx : Context) (is : List Instr) (levels : List Level) (b e e1 : Bool) (next : Option Known) (a : Bool)
    → (b ≡ true → a ≡ cond e (cond e1 (then ctx is levels next) false) false)
    → cond b a false ≡ then ctx is levels (cond (b && e && e1) next None)
then-parts ctx is levels true true true next a h = h refl
then-parts ctx is levels true true false next a h = h refl
then-parts ctx is levels true false e1 next a h = h refl
then-parts ctx is levels false e e1 next a h = refl

then-none : (ctx : Context) (is : List Instr) (levels : List Level) (b : Bool)
    → false ≡ then ctx is levels (cond b None None)
then-none ctx is levels true = refl
then-none ctx is levels false = refl

pub scan-flat : (ctx : Context) (nest : Nest) (is : List Instr) (l : Level) (levels : List Level) (here : Known)
    → IsNest nest
    → scan ctx (flat nest ++ is) (state (l ∷ levels) here) ≡ then ctx is (l ∷ levels) (known_after (within ctx (l ∷ levels)) nest here)
scan-flat ctx Empty is l levels here h = refl
scan-flat ctx (Plain i rest) is l levels here h =
    let outer = within ctx (l ∷ levels) in
    ap (on_some (λ s. scan ctx (flat rest ++ is) s)) (changed-plain ctx i (state (l ∷ levels) here) h.0)
    ∙ then-moved ctx (flat rest ++ is) (l ∷ levels) (after_instr outer (instr_type outer i) here)
    ∙ elim (after_instr outer (instr_type outer i) here) as
    (λ o. then ctx (flat rest ++ is) (l ∷ levels) o ≡ then ctx is (l ∷ levels)
    (option_and_then (λ k. known_after outer rest k) o)) [ None ↦ refl | Some k ↦ scan-flat ctx rest is l levels k h.1 ]
scan-flat ctx (InBlock ty body rest) is l levels here h =
    let outer = within ctx (l ∷ levels) in
    let tail = flat rest ++ is in
    ap (λ is. scan ctx (instr.Block ty ∷ is) (state (l ∷ levels) here)) (append_assoc (flat body) (instr.End ∷ flat rest) is)
    ∙ block-scanned ctx (flat body ++ instr.End ∷ tail) tail is Block ty here (l ∷ levels) (known_after (inside (results_of ty) outer) body nothing)
    (known_after outer rest (push_types (results_of ty) here)) refl
    (scan-flat ctx body (instr.End ∷ tail) (level Block ty here) (l ∷ levels) nothing h.0)
    (scan-flat ctx rest is l levels (push_types (results_of ty) here) h.1)
scan-flat ctx (InLoop ty body rest) is l levels here h =
    let outer = within ctx (l ∷ levels) in
    let tail = flat rest ++ is in
    ap (λ is. scan ctx (instr.Loop ty ∷ is) (state (l ∷ levels) here)) (append_assoc (flat body) (instr.End ∷ flat rest) is)
    ∙ block-scanned ctx (flat body ++ instr.End ∷ tail) tail is Loop ty here (l ∷ levels) (known_after (inside [] outer) body nothing)
    (known_after outer rest (push_types (results_of ty) here)) refl
    (scan-flat ctx body (instr.End ∷ tail) (level Loop ty here) (l ∷ levels) nothing h.0)
    (scan-flat ctx rest is l levels (push_types (results_of ty) here) h.1)
scan-flat ctx (InIf ty body rest) is l levels here h =
    let outer = within ctx (l ∷ levels) in
    let inner = known_after (inside (results_of ty) outer) body nothing in
    let e = ends (results_of ty) inner in
    let e0 = ends (results_of ty) (Some nothing) in
    ap (λ is. scan ctx (instr.If ty ∷ is) (state (l ∷ levels) here)) (append_assoc (flat body) (instr.End ∷ flat rest) is)
    ∙ elim (pop I32 here) as (λ o. on_some (λ s. scan ctx (flat body ++ instr.End ∷ (flat rest ++ is)) s)
    (after_open If ty (l ∷ levels) o) ≡ then ctx is (l ∷ levels) (cond (is_block_type ty && e && e0)
    (option_and_then (λ below. known_after outer rest (push_types (results_of ty) below)) o) None)) [
      | None ↦ on_some-opened (λ s. scan ctx (flat body ++ instr.End ∷ (flat rest ++ is)) s) ty (l ∷ levels)
          ∙ then-none ctx is (l ∷ levels) (is_block_type ty && e && e0)
      | Some below ↦
          on_some-cond (λ s. scan ctx (flat body ++ instr.End ∷ (flat rest ++ is)) s) (is_block_type ty) (state (level If ty below ∷ l ∷ levels) nothing)
          ∙ then-if ctx is (l ∷ levels) (is_block_type ty) e e0 (known_after outer rest (push_types (results_of ty) below)) _
          (λ b. scan-flat ctx body (instr.End ∷ (flat rest ++ is)) (level If ty below) (l ∷ levels) nothing h.0
          ∙ then-end ctx (flat rest ++ is) (level If ty below) (l ∷ levels) inner
          ∙ ap (λ a. cond (e0 && e) a false) (scan-flat ctx rest is l levels (push_types (results_of ty) below) h.1))
    ]
scan-flat ctx (InIfElse ty body other rest) is l levels here h =
    let outer = within ctx (l ∷ levels) in
    let inner = known_after (inside (results_of ty) outer) body nothing in
    let second = known_after (inside (results_of ty) outer) other nothing in
    let e = ends (results_of ty) inner in
    let e1 = ends (results_of ty) second in
    let text = instr.Else ∷ (flat other ++ instr.End ∷ (flat rest ++ is)) in
    ap (λ is. scan ctx (instr.If ty ∷ is) (state (l ∷ levels) here))
    (append_assoc (flat body) (instr.Else ∷ (flat other ++ instr.End ∷ flat rest)) is
    ∙ ap (λ l. flat body ++ instr.Else ∷ l) (append_assoc (flat other) (instr.End ∷ flat rest) is))
    ∙ elim (pop I32 here) as (λ o. on_some (λ s. scan ctx (flat body ++ text) s) (after_open If ty (l ∷ levels) o)
    ≡ then ctx is (l ∷ levels) (cond (is_block_type ty && e && e1)
    (option_and_then (λ below. known_after outer rest (push_types (results_of ty) below)) o) None)) [
      | None ↦ on_some-opened (λ s. scan ctx (flat body ++ text) s) ty (l ∷ levels) ∙ then-none ctx is (l ∷ levels) (is_block_type ty && e && e1)
      | Some below ↦
          on_some-cond (λ s. scan ctx (flat body ++ text) s) (is_block_type ty) (state (level If ty below ∷ l ∷ levels) nothing)
          ∙ then-parts ctx is (l ∷ levels) (is_block_type ty) e e1 (known_after outer rest (push_types (results_of ty) below)) _
          (λ b. scan-flat ctx body text (level If ty below) (l ∷ levels) nothing h.0
          ∙ then-else ctx (flat other ++ instr.End ∷ (flat rest ++ is)) ty below (l ∷ levels) inner
          ∙ ap (λ a. cond e a false)
          (scan-flat ctx other (instr.End ∷ (flat rest ++ is)) (level Block ty below) (l ∷ levels) nothing h.1
          ∙ then-end ctx (flat rest ++ is) (level Block ty below) (l ∷ levels) second
          ∙ ap (λ a. cond e1 a false) (scan-flat ctx rest is l levels (push_types (results_of ty) below) h.2)))
    ]

-- ---- what is typed is nested

-- the open sequences are in the open blocks; nothing comes after the body
abbrev AreOpen : List Level → Open → Type 0
AreOpen [] around = ⊥
AreOpen (l ∷ []) Outside = ⊥
AreOpen (l ∷ []) (InEnd around rest) = (around ≡ Outside) × (rest ≡ Empty)
AreOpen (l ∷ []) (InElse around other rest) = (is_if l.kind ≡ true) × (around ≡ Outside) × (rest ≡ Empty)
AreOpen (l ∷ outer ∷ levels) Outside = ⊥
AreOpen (l ∷ outer ∷ levels) (InEnd around rest) = AreOpen (outer ∷ levels) around
AreOpen (l ∷ outer ∷ levels) (InElse around other rest) = (is_if l.kind ≡ true) × AreOpen (outer ∷ levels) around

-- what is read of a list, within these blocks
record IsRead (levels : List Level) (is : List Instr) : Type 0 where
  first : Nest
  around : Open
  read : open_nest is ≡ Within first around
  blocks : AreOpen levels around

-- a block without `else`
reads-open : (i : Instr) (block : Nest → Nest → Nest)
    → ((first rest : Nest) (around : Open) → in_front i (Within first (InEnd around rest)) ≡ Within (block first rest) around)
    → (inner l : Level) (levels : List Level) (is : List Instr) (first : Nest) (around : Open)
    → is_if inner.kind ≡ false → open_nest is ≡ Within first around → AreOpen (inner ∷ l ∷ levels) around
    → IsRead (l ∷ levels) (i ∷ is)
reads-open i block opens inner l levels is first Outside not r b = absurd b
reads-open i block opens inner l levels is first (InEnd around rest) not r b =
    record { first = block first rest; around = around; read = ap (in_front i) r ∙ opens first rest around; blocks = b }
reads-open i block opens inner l levels is first (InElse around other rest) not r b = absurd (false≢true (sym not ∙ b.0))

reads-if : (inner l : Level) (levels : List Level) (is : List Instr) (ty : Option ValType) (first : Nest) (around : Open)
    → open_nest is ≡ Within first around → AreOpen (inner ∷ l ∷ levels) around → IsRead (l ∷ levels) (instr.If ty ∷ is)
reads-if inner l levels is ty first Outside r b = absurd b
reads-if inner l levels is ty first (InEnd around rest) r b =
    record { first = InIf ty first rest; around = around; read = ap (in_front (instr.If ty)) r; blocks = b }
reads-if inner l levels is ty first (InElse around other rest) r b =
    record { first = InIfElse ty first other rest; around = around; read = ap (in_front (instr.If ty)) r; blocks = b.1 }

reads-else : (inner l : Level) (levels : List Level) (is : List Instr) (first : Nest) (around : Open)
    → is_if inner.kind ≡ false → is_if l.kind ≡ true → open_nest is ≡ Within first around
    → AreOpen (inner ∷ levels) around → IsRead (l ∷ levels) (instr.Else ∷ is)
reads-else inner l [] is first Outside not if r b = absurd b
reads-else inner l [] is first (InEnd around rest) not if r b = record {
  first = Empty;
  around = InElse around first rest;
  read = ap (in_front instr.Else) r;
  blocks = (if, b.0, b.1);
}
reads-else inner l [] is first (InElse around other rest) not if r b = absurd (false≢true (sym not ∙ b.0))
reads-else inner l (outer ∷ levels) is first Outside not if r b = absurd b
reads-else inner l (outer ∷ levels) is first (InEnd around rest) not if r b =
    record { first = Empty; around = InElse around first rest; read = ap (in_front instr.Else) r; blocks = (if, b) }
reads-else inner l (outer ∷ levels) is first (InElse around other rest) not if r b = absurd (false≢true (sym not ∙ b.0))

reads-end : (l outer : Level) (levels : List Level) (is : List Instr) → IsRead (outer ∷ levels) is
    → IsRead (l ∷ outer ∷ levels) (instr.End ∷ is)
reads-end l outer levels is r = record { first = Empty; around = InEnd r.around r.first; read = ap (in_front instr.End) r.read; blocks = r.blocks }

-- nothing is typed after the end of a body
reads-last : (ctx : Context) (l : Level) (is : List Instr) (here : Known) → scan ctx is (state [] here) ≡ true
    → IsRead (l ∷ []) (instr.End ∷ is)
reads-last ctx l [] here h = record { first = Empty; around = InEnd Outside Empty; read = refl; blocks = (refl, refl) }
reads-last ctx l (i ∷ is) here h = absurd (false≢true h)

reads-plain : (i : Instr) (levels : List Level) (is : List Instr) → IsTrue (is_plain i) → IsRead levels is
    → IsRead levels (i ∷ is)
reads-plain i levels is h r = record {
  first = Plain i r.first;
  around = r.around;
  read = ap (in_front i) r.read ∙ plain_in_front i r.first r.around h;
  blocks = r.blocks;
}

cond-left : (b x : Bool) → cond b x false ≡ true → b ≡ true
cond-left true x h = refl
cond-left false x h = absurd (false≢true h)

cond-right : (b x : Bool) → cond b x false ≡ true → x ≡ true
cond-right true x h = h
cond-right false x h = absurd (false≢true h)

-- something is known after a plain instruction
then-some : (ctx : Context) (is : List Instr) (levels : List Level) (o : Option Known) → then ctx is levels o ≡ true
    → (k : Known) × (scan ctx is (state levels k) ≡ true)
then-some ctx is levels None h = absurd (false≢true h)
then-some ctx is levels (Some k) h = (k, h)

on_some-popped : (f : State → Bool) (ty : Option ValType) (levels : List Level) (o : Option Known)
    → on_some f (after_open If ty levels o) ≡ true → (k : Known) × (f (state (level If ty k ∷ levels) nothing) ≡ true)
on_some-popped f ty levels None h = absurd (false≢true (sym (on_some-opened f ty levels) ∙ h))
on_some-popped f ty levels (Some k) h = (
  k,
  cond-right (is_block_type ty) _
      (sym (on_some-cond f (is_block_type ty) (state (level If ty k ∷ levels) nothing)) ∙ h),
)

typed-after : (ctx : Context) (i : Instr) (is : List Instr) (l : Level) (levels : List Level) (here : Known)
    → IsTrue (is_plain i) → scan ctx (i ∷ is) (state (l ∷ levels) here) ≡ true
    → (k : Known) × (scan ctx is (state (l ∷ levels) k) ≡ true)
typed-after ctx i is l levels here p h =
    let outer = within ctx (l ∷ levels) in
    then-some ctx is (l ∷ levels) (after_instr outer (instr_type outer i) here)
    (sym (ap (on_some (λ s. scan ctx is s)) (changed-plain ctx i (state (l ∷ levels) here) p)
    ∙ then-moved ctx is (l ∷ levels) (after_instr outer (instr_type outer i) here)) ∙ h)

scan-read : (ctx : Context) (is : List Instr) (l : Level) (levels : List Level) (here : Known)
    → scan ctx is (state (l ∷ levels) here) ≡ true → IsRead (l ∷ levels) is
scan-read ctx [] l levels here h = absurd (false≢true h)
scan-read ctx (instr.Block ty ∷ is) l levels here h =
    let r = scan-read ctx is (level Block ty here) (l ∷ levels) nothing (cond-right (is_block_type ty) _ (sym
    (on_some-cond (λ s. scan ctx is s) (is_block_type ty) (state (level Block ty here ∷ l ∷ levels) nothing)) ∙ h)) in
    reads-open (instr.Block ty) (InBlock ty) (λ first rest around. refl) (level Block ty here) l levels is r.first r.around refl r.read r.blocks
scan-read ctx (instr.Loop ty ∷ is) l levels here h =
    let r = scan-read ctx is (level Loop ty here) (l ∷ levels) nothing (cond-right (is_block_type ty) _ (sym
    (on_some-cond (λ s. scan ctx is s) (is_block_type ty) (state (level Loop ty here ∷ l ∷ levels) nothing)) ∙ h)) in
    reads-open (instr.Loop ty) (InLoop ty) (λ first rest around. refl) (level Loop ty here) l levels is r.first r.around refl r.read r.blocks
scan-read ctx (instr.If ty ∷ is) l levels here h =
    let p = on_some-popped (λ s. scan ctx is s) ty (l ∷ levels) (pop I32 here) h in
    let r = scan-read ctx is (level If ty p.0) (l ∷ levels) nothing p.1 in
    reads-if (level If ty p.0) l levels is ty r.first r.around r.read r.blocks
scan-read ctx (instr.Else ∷ is) l levels here h =
    let lv = level Block l.result l.below in
    let c = sym (on_some-cond (λ s. scan ctx is s) (is_if l.kind && may_leave l here) (state (lv ∷ levels) nothing)) ∙ h in
    let r = scan-read ctx is lv levels nothing (cond-right (is_if l.kind && may_leave l here) _ c) in
    reads-else lv l levels is r.first r.around refl
    (and_left (is_if l.kind) (may_leave l here) (cond-left (is_if l.kind && may_leave l here) _ c)) r.read r.blocks
scan-read ctx (instr.End ∷ is) l [] here h =
    let after = push_types (results_of l.result) l.below in
    reads-last ctx l is after (cond-right (may_close l.kind l.result && may_leave l here) _
    (sym (on_some-cond (λ s. scan ctx is s) (may_close l.kind l.result && may_leave l here) (state [] after)) ∙ h))
scan-read ctx (instr.End ∷ is) l (outer ∷ levels) here h =
    let after = push_types (results_of l.result) l.below in
    reads-end l outer levels is (scan-read ctx is outer levels after
    (cond-right (may_close l.kind l.result && may_leave l here) _ (sym (on_some-cond (λ s. scan ctx is s)
    (may_close l.kind l.result && may_leave l here) (state (outer ∷ levels) after)) ∙ h)))
scan-read ctx (i ∷ is) l levels here h =
    let k = typed-after ctx i is l levels here refl h in
    reads-plain i (l ∷ levels) is refl (scan-read ctx is l levels k.0 k.1)

whole-body : (result : Option ValType) (body : List Instr) (first : Nest) (around : Open)
    → open_nest body ≡ Within first around → AreOpen (level Block result nothing ∷ []) around → nest_of body ≡ Some first
whole-body result body first Outside r b = absurd b
whole-body result body first (InEnd around rest) r b =
    ap closed_nest (r ∙ ap (λ o. Within first (InEnd o rest)) b.0 ∙ ap (λ n. Within first (InEnd Outside n)) b.1)
whole-body result body first (InElse around other rest) r b = absurd (false≢true b.0)

-- ---- a whole body

cond-same : (b : Bool) → cond b true false ≡ b
cond-same true = refl
cond-same false = refl

true-or-false : (b : Bool) → (b ≡ true → ⊥) → b ≡ false
true-or-false true h = absurd (h refl)
true-or-false false h = refl

scan-nest : (ctx : Context) (result : Option ValType) (nest : Nest) (body : List Instr) → IsBody nest body
    → scan ctx body (body_start result) ≡ ends (results_of result) (known_after (within ctx (body_start result).levels) nest nothing)
scan-nest ctx result nest body b =
    let l = level Block result nothing in
    let known = known_after (within ctx (l ∷ [])) nest nothing in
    ap (λ is. scan ctx is (body_start result)) (sym b.written)
    ∙ scan-flat ctx nest (instr.End ∷ []) l [] nothing b.nested
    ∙ then-end ctx [] l [] known
    ∙ cond-same (ends (results_of result) known)

scan-cases : (ctx : Context) (result : Option ValType) (body : List Instr)
    (read : (nest : Nest) → nest_of body ≡ Some nest → IsBody nest body) (o : Option Nest)
    → nest_of body ≡ o
    → scan ctx body (body_start result) ≡ nest_ends (within ctx (body_start result).levels) (results_of result) o
scan-cases ctx result body read (Some nest) e = scan-nest ctx result nest body (read nest e)
scan-cases ctx result body read None e =
    true-or-false _ (λ h.
    let r = scan-read ctx body (level Block result nothing) [] nothing h in
    none-some r.first (sym e ∙ whole-body result body r.first r.around r.read r.blocks))

-- one pass over a body is the check of its tree
pub scan-body : (ctx : Context) (result : Option ValType) (body : List Instr)
    → ((nest : Nest) (body : List Instr) → IsBody nest body ↔ (nest_of body ≡ Some nest))
    → scan ctx body (body_start result) ≡ nest_ends (within ctx (body_start result).levels) (results_of result) (nest_of body)
scan-body ctx result body law = scan-cases ctx result body (λ nest. (law nest body).1) (nest_of body) refl
