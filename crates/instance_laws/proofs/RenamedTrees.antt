-- The trees of renamed bodies.
use Rattle.std.proofs.Common.{◌≡◌, List, [], ◌∷◌, ◌++◌, map, IsTrue, refl, sym, ap, ◌∙◌, subst}
use Rattle.std.proofs.lemmas.List.{map-append}
use Rattle.wasm_syntax.specs.declared.instructions.Instr.{Instr}
use Rattle.wasm_syntax.specs.declared.instructions.Instr.TheVariants.{End}
use Rattle.wasm_syntax.specs.declared.instructions.Instr.TheVariants as instrs
use Rattle.wasm_syntax.specs.Nest.{Nest, Empty, Plain, InBlock, InLoop, InIf, InIfElse, IsNest, is_plain, flat, IsBody}
use Rattle.instance_spec.specs.Instances.{Instance, resolved_instr}
use Rattle.instance_spec.specs.Renamed.{renamed_nest}

flat_renamed : (i : Instance) (nest : Nest) (more : List Instr)
    → flat (renamed_nest i nest) ++ map (resolved_instr i) more ≡ map (resolved_instr i) (flat nest ++ more)
flat_renamed i nest more =
    ap (λ is. is ++ map (resolved_instr i) more) (by nest) ∙ sym (map-append (resolved_instr i) (flat nest) more)
  where
    by : (nest : Nest) → flat (renamed_nest i nest) ≡ map (resolved_instr i) (flat nest)
    by Empty = refl
    by (Plain instr rest) = ap (λ is. resolved_instr i instr ∷ is) (by rest)
    by (InBlock ty body rest) =
        (λ j. resolved_instr i (instrs.Block ty)
        ∷ (by body j ++ End ∷ by rest j))
        ∙ ap (λ is. resolved_instr i (instrs.Block ty) ∷ is)
        (sym (map-append (resolved_instr i) (flat body) (End ∷ flat rest)))
    by (InLoop ty body rest) =
        (λ j. resolved_instr i (instrs.Loop ty)
        ∷ (by body j ++ End ∷ by rest j))
        ∙ ap (λ is. resolved_instr i (instrs.Loop ty) ∷ is)
        (sym (map-append (resolved_instr i) (flat body) (End ∷ flat rest)))
    by (InIf ty body rest) =
        (λ j. resolved_instr i (instrs.If ty)
        ∷ (by body j ++ End ∷ by rest j))
        ∙ ap (λ is. resolved_instr i (instrs.If ty) ∷ is)
        (sym (map-append (resolved_instr i) (flat body) (End ∷ flat rest)))
    by (InIfElse ty body other rest) =
        (λ j. resolved_instr i (instrs.If ty)
        ∷ (by body j ++ instrs.Else ∷ (by other j ++ End ∷ by rest j)))
        ∙ ap
        (λ is. resolved_instr i (instrs.If ty)
        ∷ (map (resolved_instr i) (flat body) ++ instrs.Else ∷ is))
        (sym (map-append (resolved_instr i) (flat other) (End ∷ flat rest)))
        ∙ ap (λ is. resolved_instr i (instrs.If ty) ∷ is)
        (sym (map-append (resolved_instr i) (flat body)
        (instrs.Else ∷ (flat other ++ End ∷ flat rest))))

plain_kept : (i : Instance) (instr : Instr) → is_plain (resolved_instr i instr) ≡ is_plain instr
plain_kept i (instrs.Call x) = refl
plain_kept i (instrs.CallIndirect x) = refl
plain_kept i (instrs.GlobalGet x) = refl
plain_kept i (instrs.GlobalSet x) = refl
plain_kept i (instrs.RefFunc x) = refl
plain_kept i instr = refl

nested_kept : (i : Instance) (nest : Nest) → IsNest nest → IsNest (renamed_nest i nest)
nested_kept i Empty h = h
nested_kept i (Plain instr rest) h = (subst IsTrue (sym (plain_kept i instr)) h.0, nested_kept i rest h.1)
nested_kept i (InBlock ty body rest) h = (nested_kept i body h.0, nested_kept i rest h.1)
nested_kept i (InLoop ty body rest) h = (nested_kept i body h.0, nested_kept i rest h.1)
nested_kept i (InIf ty body rest) h = (nested_kept i body h.0, nested_kept i rest h.1)
nested_kept i (InIfElse ty body other rest) h =
    (nested_kept i body h.0, nested_kept i other h.1, nested_kept i rest h.2)

pub body_kept : (i : Instance) (nest : Nest) (body : List Instr) → IsBody nest body
    → IsBody (renamed_nest i nest) (map (resolved_instr i) body)
body_kept i nest body h =
    record {
      nested = nested_kept i nest h.nested;
      written = flat_renamed i nest (End ∷ []) ∙ ap (map (resolved_instr i)) h.written;
    }
