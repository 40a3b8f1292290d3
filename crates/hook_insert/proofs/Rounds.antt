-- An instrumented body is a pass over the flat one.
use Rattle.std.proofs.Common.{◌≡◌, ℕ, List, [], ◌∷◌, ◌++◌, true, cond, refl, ap, sym, ◌∙◌}
use Rattle.std.proofs.lemmas.List.{append-nil, append_assoc}
use Rattle.std.proofs.lemmas.List.Concat.{flat_map-append}
use Rattle.std.specs.Prelude.{flat_map, slice_get}
use Rattle.wasm_syntax.specs.declared.signatures.FuncType.{FuncType}
use Rattle.wasm_syntax.specs.declared.instructions.Instr.{Instr}
use Rattle.wasm_syntax.specs.declared.instructions.Instr.TheVariants.{Block, Loop, If, Else, End}
use Rattle.wasm_syntax.specs.Nest.{Nest, Empty, Plain, InBlock, InLoop, InIf, InIfElse, is_plain, IsNest, flat}
use Rattle.wasm_syntax.specs.Profile.{is_numbered}
use Rattle.record_replay_spec.specs.Insertions.{Site, imports_at, inserted_after, inserted_at_end, inserted_at_enter, inserted_before}
use Rattle.record_replay_spec.specs.Instrumented.{before_nest, instrumented_nest, instrumented_body, renumbered, weightless, weights_of_nest, weights_of_body}
use Rattle.hook_insert.specs.Rounds.{round, weights_round, instrumented_code, code_weights}

flat_before : (is : List Instr) (nest : Nest) → flat (before_nest is nest) ≡ is ++ flat nest
flat_before [] nest = refl
flat_before (i ∷ is) nest = ap (λ l. i ∷ l) (flat_before is nest)

-- a plain instruction has a number
numbered : (i : Instr) → is_plain i ≡ true → is_numbered i ≡ true
numbered End plain = cc
numbered Else plain = cc
numbered i plain = refl

module _ (s : Site) where
  -- two passes, separated by an instruction around which none is inserted
  parted : (first second : List Instr) (i : Instr) (rest : List Instr) (made others : List Instr)
      → round s i ≡ i ∷ [] → made ≡ flat_map (round s) first → others ≡ flat_map (round s) rest
      → made ++ i ∷ others ≡ flat_map (round s) (first ++ i ∷ rest)
  parted first second i rest made others alone is are =
      ap (λ l. made ++ i ∷ l) are ∙ ap (λ l. l ++ i ∷ flat_map (round s) rest) is
      ∙ ap (λ l. flat_map (round s) first ++ (l ++ flat_map (round s) rest)) (sym alone)
      ∙ sym (flat_map-append (round s) first (i ∷ rest))

  flat_rounds : (nest : Nest) → flat (instrumented_nest s nest) ≡ flat_map (round s) (flat nest)
  flat_rounds Empty = refl
  flat_rounds (Plain i rest) =
      flat_before (inserted_before s i) _
      ∙ ap (λ l. inserted_before s i ++ renumbered (imports_at s) i ∷ l)
      (flat_before (inserted_after s i) (instrumented_nest s rest)
      ∙ ap (λ l. inserted_after s i ++ l) (flat_rounds rest))
      ∙ sym (append_assoc (inserted_before s i) (renumbered (imports_at s) i ∷ inserted_after s i) (flat_map (round s) (flat rest)))
  flat_rounds (InBlock ty body rest) =
      ap (λ l. Block ty ∷ l) (parted (flat body) [] End (flat rest) _ _ refl (flat_rounds body) (flat_rounds rest))
  flat_rounds (InLoop ty body rest) =
      ap (λ l. Loop ty ∷ l) (parted (flat body) [] End (flat rest) _ _ refl (flat_rounds body) (flat_rounds rest))
  flat_rounds (InIf ty body rest) =
      ap (λ l. If ty ∷ l) (parted (flat body) [] End (flat rest) _ _ refl (flat_rounds body) (flat_rounds rest))
  flat_rounds (InIfElse ty body other rest) =
      ap (λ l. If ty ∷ l) (parted (flat body) [] Else (flat other ++ End ∷ flat rest) _ _ refl (flat_rounds body)
      (parted (flat other) [] End (flat rest) _ _ refl (flat_rounds other) (flat_rounds rest)))

  -- the code of a body
  pub code_of_body : (ty : FuncType) (nest : Nest)
      → flat (instrumented_body s ty nest) ++ End ∷ [] ≡ instrumented_code s ty (flat nest ++ End ∷ [])
  code_of_body ty nest =
      let enter : List Instr = inserted_at_enter s ty.params in
      let block : Instr = Block (slice_get ty.results 0) in
      let left : List Instr = inserted_at_end s in
      let made : List Instr = flat (instrumented_nest s nest) in
      ap (λ l. l ++ End ∷ []) (flat_before enter (InBlock (slice_get ty.results 0) (instrumented_nest s nest) (before_nest left Empty)))
      ∙ append_assoc enter (block ∷ (made ++ End ∷ left)) (End ∷ [])
      ∙ ap (λ l. enter ++ block ∷ l)
      (append_assoc made (End ∷ left) (End ∷ [])
      ∙ ap (λ l. l ++ End ∷ (left ++ End ∷ [])) (flat_rounds nest)
      ∙ sym (append_assoc (flat_map (round s) (flat nest)) (End ∷ []) (left ++ End ∷ []))
      ∙ ap (λ l. l ++ (left ++ End ∷ [])) (sym (flat_map-append (round s) (flat nest) (End ∷ []))))

  -- the weights of two passes, separated by an instruction without a number
  weights_parted : (first : List Instr) (i : Instr) (rest : List Instr) (made others : List ℕ)
      → weights_round s i ≡ [] → made ≡ flat_map (weights_round s) first → others ≡ flat_map (weights_round s) rest
      → made ++ others ≡ flat_map (weights_round s) (first ++ i ∷ rest)
  weights_parted first i rest made others none is are =
      ap (λ l. made ++ l) are ∙ ap (λ l. l ++ flat_map (weights_round s) rest) is
      ∙ ap (λ l. flat_map (weights_round s) first ++ (l ++ flat_map (weights_round s) rest)) (sym none)
      ∙ sym (flat_map-append (weights_round s) first (i ∷ rest))

  weights_rounds : (nest : Nest) → IsNest nest → weights_of_nest s nest ≡ flat_map (weights_round s) (flat nest)
  weights_rounds Empty nested = refl
  weights_rounds (Plain i rest) nested =
      ap (λ l. weightless (inserted_before s i) ++ 1 ∷ (weightless (inserted_after s i) ++ l)) (weights_rounds rest nested.1)
      ∙ sym (append_assoc (weightless (inserted_before s i)) (1 ∷ weightless (inserted_after s i)) _)
      ∙ ap (λ b. cond b (weightless (inserted_before s i) ++ 1 ∷ weightless (inserted_after s i)) [] ++ flat_map (weights_round s) (flat rest))
      (sym (numbered i nested.0))
  weights_rounds (InBlock ty body rest) nested =
      ap (λ l. 1 ∷ l) (weights_parted (flat body) End (flat rest) _ _ refl (weights_rounds body nested.0) (weights_rounds rest nested.1))
  weights_rounds (InLoop ty body rest) nested =
      ap (λ l. 1 ∷ l) (weights_parted (flat body) End (flat rest) _ _ refl (weights_rounds body nested.0) (weights_rounds rest nested.1))
  weights_rounds (InIf ty body rest) nested =
      ap (λ l. 1 ∷ l) (weights_parted (flat body) End (flat rest) _ _ refl (weights_rounds body nested.0) (weights_rounds rest nested.1))
  weights_rounds (InIfElse ty body other rest) nested =
      ap (λ l. 1 ∷ l) (weights_parted (flat body) Else (flat other ++ End ∷ flat rest) _ _ refl (weights_rounds body nested.0)
      (weights_parted (flat other) End (flat rest) _ _ refl (weights_rounds other nested.1) (weights_rounds rest nested.2)))

  -- the weights of a body
  pub weights_of_code : (ty : FuncType) (nest : Nest) → IsNest nest
      → weights_of_body s ty nest ≡ code_weights s ty (flat nest ++ End ∷ [])
  weights_of_code ty nest nested =
      ap (λ l. weightless (inserted_at_enter s ty.params) ++ 0 ∷ (l ++ weightless (inserted_at_end s)))
      (weights_rounds nest nested ∙ sym (append-nil _) ∙ sym (flat_map-append (weights_round s) (flat nest) (End ∷ [])))
