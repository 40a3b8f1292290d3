-- Flat bodies, renamed instruction by instruction.
use Rattle.std.proofs.Common.{◌≡◌, List, [], ◌∷◌, map, option_map, refl, ap, ◌∙◌}
use Rattle.wasm_syntax.specs.declared.instructions.Instr.{Instr}
use Rattle.wasm_syntax.specs.declared.instructions.Instr.TheVariants.{Block, Loop, If, Else, End}
use Rattle.wasm_syntax.specs.Nest.{Empty, Plain, InBlock, InLoop, InIf, InIfElse, Open, Outside, InEnd, InElse, OpenNest, NoNest, Within, in_front, open_nest, closed_nest}
use Rattle.instance_spec.specs.Instances.{Instance, resolved_instr}
use Rattle.instance_spec.specs.Renamed.{renamed_nest}
use Rattle.instance_laws.specs.Typings.{BodiesAreRenamed}

module _ (i : Instance) where
  abbrev renamed_open : Open → Open
  renamed_open Outside = Outside
  renamed_open (InEnd outer rest) = InEnd (renamed_open outer) (renamed_nest i rest)
  renamed_open (InElse outer other rest) = InElse (renamed_open outer) (renamed_nest i other) (renamed_nest i rest)

  abbrev renamed_read : OpenNest → OpenNest
  renamed_read NoNest = NoNest
  renamed_read (Within first around) = Within (renamed_nest i first) (renamed_open around)

  front : (instr : Instr) (read : OpenNest)
      → in_front (resolved_instr i instr) (renamed_read read) ≡ renamed_read (in_front instr read)
  front instr NoNest = by instr
    where
      by : (instr : Instr) → in_front (resolved_instr i instr) NoNest ≡ NoNest
      by instr = refl
  front End (Within first around) = refl
  front Else (Within first Outside) = refl
  front Else (Within first (InEnd outer rest)) = refl
  front Else (Within first (InElse outer other rest)) = refl
  front (Block ty) (Within first Outside) = refl
  front (Block ty) (Within first (InEnd outer rest)) = refl
  front (Block ty) (Within first (InElse outer other rest)) = refl
  front (Loop ty) (Within first Outside) = refl
  front (Loop ty) (Within first (InEnd outer rest)) = refl
  front (Loop ty) (Within first (InElse outer other rest)) = refl
  front (If ty) (Within first Outside) = refl
  front (If ty) (Within first (InEnd outer rest)) = refl
  front (If ty) (Within first (InElse outer other rest)) = refl
  front instr (Within first around) = refl

  read_alike : (body : List Instr) → open_nest (map (resolved_instr i) body) ≡ renamed_read (open_nest body)
  read_alike [] = refl
  read_alike (instr ∷ body) =
      ap (in_front (resolved_instr i instr)) (read_alike body) ∙ front instr (open_nest body)

  closed_alike : (read : OpenNest) → closed_nest (renamed_read read) ≡ option_map (renamed_nest i) (closed_nest read)
  closed_alike NoNest = refl
  closed_alike (Within first Outside) = refl
  closed_alike (Within first (InEnd Outside Empty)) = refl
  closed_alike (Within first (InEnd Outside (Plain instr rest))) = refl
  closed_alike (Within first (InEnd Outside (InBlock ty body rest))) = refl
  closed_alike (Within first (InEnd Outside (InLoop ty body rest))) = refl
  closed_alike (Within first (InEnd Outside (InIf ty body rest))) = refl
  closed_alike (Within first (InEnd Outside (InIfElse ty body other rest))) = refl
  closed_alike (Within first (InEnd (InEnd outer more) rest)) = refl
  closed_alike (Within first (InEnd (InElse outer other more) rest)) = refl
  closed_alike (Within first (InElse outer other rest)) = refl

pub bodies_are_renamed : BodiesAreRenamed
bodies_are_renamed i body = ap closed_nest (read_alike i body) ∙ closed_alike i (open_nest body)
