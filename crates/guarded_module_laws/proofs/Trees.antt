-- The trees of bodies whose calls are by other numbers.
use Rattle.std.proofs.Common.{◌≡◌, ℕ, List, [], ◌∷◌, ◌++◌, map, IsTrue, refl, sym, ap, ◌∙◌, subst}
use Rattle.std.proofs.lemmas.List.{map-append}
use Rattle.wasm_syntax.specs.declared.instructions.Instr.{Instr}
use Rattle.wasm_syntax.specs.declared.instructions.Instr.TheVariants.{End}
use Rattle.wasm_syntax.specs.declared.instructions.Instr.TheVariants as instrs
use Rattle.wasm_syntax.specs.Nest.{Nest, Empty, Plain, InBlock, InLoop, InIf, InIfElse, IsNest, is_plain, flat, IsBody}
use Rattle.guarded_module_laws.specs.Moved.{called_by, moved_nest}

flat_moved : (to : ℕ → ℕ) (nest : Nest) (more : List Instr)
    → flat (moved_nest to nest) ++ map (called_by to) more ≡ map (called_by to) (flat nest ++ more)
flat_moved to nest more =
    ap (λ is. is ++ map (called_by to) more) (by nest) ∙ sym (map-append (called_by to) (flat nest) more)
  where
    by : (nest : Nest) → flat (moved_nest to nest) ≡ map (called_by to) (flat nest)
    by Empty = refl
    by (Plain instr rest) = ap (λ is. called_by to instr ∷ is) (by rest)
    by (InBlock ty body rest) =
        (λ j. called_by to (instrs.Block ty)
        ∷ (by body j ++ End ∷ by rest j))
        ∙ ap (λ is. called_by to (instrs.Block ty) ∷ is)
        (sym (map-append (called_by to) (flat body) (End ∷ flat rest)))
    by (InLoop ty body rest) =
        (λ j. called_by to (instrs.Loop ty)
        ∷ (by body j ++ End ∷ by rest j))
        ∙ ap (λ is. called_by to (instrs.Loop ty) ∷ is)
        (sym (map-append (called_by to) (flat body) (End ∷ flat rest)))
    by (InIf ty body rest) =
        (λ j. called_by to (instrs.If ty)
        ∷ (by body j ++ End ∷ by rest j))
        ∙ ap (λ is. called_by to (instrs.If ty) ∷ is)
        (sym (map-append (called_by to) (flat body) (End ∷ flat rest)))
    by (InIfElse ty body other rest) =
        (λ j. called_by to (instrs.If ty)
        ∷ (by body j ++ instrs.Else ∷ (by other j ++ End ∷ by rest j)))
        ∙ ap
        (λ is. called_by to (instrs.If ty)
        ∷ (map (called_by to) (flat body) ++ instrs.Else ∷ is))
        (sym (map-append (called_by to) (flat other) (End ∷ flat rest)))
        ∙ ap (λ is. called_by to (instrs.If ty) ∷ is)
        (sym (map-append (called_by to) (flat body)
        (instrs.Else ∷ (flat other ++ End ∷ flat rest))))

plain_kept : (to : ℕ → ℕ) (instr : Instr) → is_plain (called_by to instr) ≡ is_plain instr
plain_kept to (instrs.Call x) = refl
plain_kept to instr = refl

nested_kept : (to : ℕ → ℕ) (nest : Nest) → IsNest nest → IsNest (moved_nest to nest)
nested_kept to Empty h = h
nested_kept to (Plain instr rest) h = (subst IsTrue (sym (plain_kept to instr)) h.0, nested_kept to rest h.1)
nested_kept to (InBlock ty body rest) h = (nested_kept to body h.0, nested_kept to rest h.1)
nested_kept to (InLoop ty body rest) h = (nested_kept to body h.0, nested_kept to rest h.1)
nested_kept to (InIf ty body rest) h = (nested_kept to body h.0, nested_kept to rest h.1)
nested_kept to (InIfElse ty body other rest) h =
    (nested_kept to body h.0, nested_kept to other h.1, nested_kept to rest h.2)

pub body_kept : (to : ℕ → ℕ) (nest : Nest) (body : List Instr) → IsBody nest body
    → IsBody (moved_nest to nest) (map (called_by to) body)
body_kept to nest body h =
    record {
      nested = nested_kept to nest h.nested;
      written = flat_moved to nest (End ∷ []) ∙ ap (map (called_by to)) h.written;
    }
