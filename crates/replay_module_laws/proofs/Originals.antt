-- The original's functions have the typings in the replay module that they have in the original.
use Rattle.std.proofs.Common.{List, [], ◌∷◌, ◌++◌, refl, subst}
use Rattle.std.specs.Prelude.{IsTrue}
use Rattle.std.specs.List.{AllByRecursion}
use Rattle.wasm_syntax.specs.declared.values.ValType.{ValType}
use Rattle.wasm_syntax.specs.declared.instructions.Instr.{Instr}
use Rattle.wasm_syntax.specs.declared.instructions.Instr.TheVariants.{Block, If, Loop, Else, End}
use Rattle.wasm_syntax.specs.Nest.{IsNest, is_plain, Nest, Empty, Plain, InBlock, InLoop, InIf, InIfElse, flat}
use Rattle.wasm_syntax.specs.Typing.{Context, IsTyped, Leads, inside, instr_type, results_of}
use Rattle.wasm_syntax.proofs.JoinedLists.{both_parts}
use Rattle.type_safety.proofs.Wider.{IsKnown, Widens, calling_same, inside_wider, leads_wider}

-- the wider context knows what the first one knows
abbrev pub Extends : Context → Context → Type 0
Extends = Widens (λ f. f)

leads_known : (ctx wider : Context) (w : Extends ctx wider) (i : Instr) (before after : List ValType)
    → IsKnown ctx wider i → Leads ctx (instr_type ctx i) before after → Leads wider (instr_type wider i) before after
leads_known ctx wider w i before after known leads =
    subst (λ j. Leads wider (instr_type wider j) before after) (calling_same i)
    (leads_wider (λ f. f) ctx wider w i before after known leads)

inside_known : (label : List ValType) (ctx wider : Context) → Extends ctx wider
    → Extends (inside label ctx) (inside label wider)
inside_known = inside_wider (λ f. f)

-- a nest keeps its types if the wider context knows everything to which the nest refers
abbrev pub KeepsTypes : Nest → Type 0
KeepsTypes nest =
    (ctx wider : Context) (before after : List ValType) → Extends ctx wider
    → AllByRecursion (IsKnown ctx wider) (flat nest) → IsTyped ctx nest before after → IsTyped wider nest before after

-- a body, and the instructions after its end
block_known : (body rest : Nest) → KeepsTypes body → KeepsTypes rest → (label results : List ValType)
    → (ctx wider : Context) (before after : List ValType) → Extends ctx wider
    → AllByRecursion (IsKnown ctx wider) (flat body ++ End ∷ flat rest)
    → IsTyped (inside label ctx) body [] results × IsTyped ctx rest before after
    → IsTyped (inside label wider) body [] results × IsTyped wider rest before after
block_known body rest keeps keeps_rest label results ctx wider before after w known h =
    let parts = both_parts (IsKnown ctx wider) (flat body) (End ∷ flat rest) known in (
      keeps (inside label ctx) (inside label wider) [] results (inside_known label ctx wider w) parts.0 h.0,
      keeps_rest ctx wider before after w parts.1.1 h.1,
    )

pub typed_known : (nest : Nest) → KeepsTypes nest
typed_known Empty ctx wider before after w known h = h
typed_known (Plain i rest) ctx wider before after w known h = (
  h.0,
  leads_known ctx wider w i before h.0 known.0 h.1,
  typed_known rest ctx wider h.0 after w known.1 h.2,
)
typed_known (InBlock ty body rest) ctx wider before after w known h =
    let both =
    block_known body rest (typed_known body) (typed_known rest) (results_of ty) (results_of ty) ctx wider
    (results_of ty ++ before) after w known.1 (h.1, h.2)
    in
    (h.0, both.0, both.1)
typed_known (InLoop ty body rest) ctx wider before after w known h =
    let both =
    block_known body rest (typed_known body) (typed_known rest) [] (results_of ty) ctx wider (results_of ty ++ before)
    after w known.1 (h.1, h.2)
    in
    (h.0, both.0, both.1)
typed_known (InIf ty body rest) ctx wider before after w known h =
    let parts = both_parts (IsKnown ctx wider) (flat body) (End ∷ flat rest) known.1 in (
      h.0,
      h.1,
      h.2,
      typed_known body (inside (results_of ty) ctx) (inside (results_of ty) wider) [] (results_of ty)
          (inside_known (results_of ty) ctx wider w) parts.0 h.3,
      h.4,
      typed_known rest ctx wider (results_of ty ++ h.0) after w parts.1.1 h.5,
    )
typed_known (InIfElse ty body other rest) ctx wider before after w known h =
    let parts = both_parts (IsKnown ctx wider) (flat body) (Else ∷ (flat other ++ End ∷ flat rest)) known.1 in
    let later = both_parts (IsKnown ctx wider) (flat other) (End ∷ flat rest) parts.1.1 in (
      h.0,
      h.1,
      h.2,
      typed_known body (inside (results_of ty) ctx) (inside (results_of ty) wider) [] (results_of ty)
          (inside_known (results_of ty) ctx wider w) parts.0 h.3,
      typed_known other (inside (results_of ty) ctx) (inside (results_of ty) wider) [] (results_of ty)
          (inside_known (results_of ty) ctx wider w) later.0 h.4,
      typed_known rest ctx wider (results_of ty ++ h.0) after w later.1.1 h.5,
    )

-- ---- nests

plain_typed : (ctx : Context) (i : Instr) (before after : List ValType) → Leads ctx (instr_type ctx i) before after
    → IsTrue (is_plain i)
plain_typed ctx (Block ty) before after leads = absurd leads
plain_typed ctx (Loop ty) before after leads = absurd leads
plain_typed ctx (If ty) before after leads = absurd leads
plain_typed ctx Else before after leads = absurd leads
plain_typed ctx End before after leads = absurd leads
plain_typed ctx i before after leads = refl

-- the plain instructions of a typed nest are instructions that open no block
pub typed_nest : (ctx : Context) (nest : Nest) (before after : List ValType) → IsTyped ctx nest before after
    → IsNest nest
typed_nest ctx Empty before after h = tt
typed_nest ctx (Plain i rest) before after h = (plain_typed ctx i before h.0 h.1, typed_nest ctx rest h.0 after h.2)
typed_nest ctx (InBlock ty body rest) before after h = (
  typed_nest (inside (results_of ty) ctx) body [] (results_of ty) h.1,
  typed_nest ctx rest (results_of ty ++ before) after h.2,
)
typed_nest ctx (InLoop ty body rest) before after h = (
  typed_nest (inside [] ctx) body [] (results_of ty) h.1,
  typed_nest ctx rest (results_of ty ++ before) after h.2,
)
typed_nest ctx (InIf ty body rest) before after h = (
  typed_nest (inside (results_of ty) ctx) body [] (results_of ty) h.3,
  typed_nest ctx rest (results_of ty ++ h.0) after h.5,
)
typed_nest ctx (InIfElse ty body other rest) before after h = (
  typed_nest (inside (results_of ty) ctx) body [] (results_of ty) h.3,
  typed_nest (inside (results_of ty) ctx) other [] (results_of ty) h.4,
  typed_nest ctx rest (results_of ty ++ h.0) after h.5,
)
