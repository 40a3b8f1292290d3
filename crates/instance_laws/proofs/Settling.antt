-- Settling, if all indices are resolved beforehand.
use Rattle.std.proofs.Common.{◌≡◌, ℕ, List, [], ◌∷◌, ◌++◌, map, Some, None, refl, ap, ◌∙◌}
use Rattle.wasm_syntax.specs.declared.values.Val.{Val}
use Rattle.wasm_syntax.specs.Nest.{Nest, Empty, Plain, InBlock, InLoop, InIf, InIfElse}
use Rattle.host_script.specs.declared.scripts.ResponseEnd.TheVariants.{Return, Trap}
use Rattle.history_spec.specs.Configuration.{Label, Frame, Activation, InModule, InMain, InImport, leave, with_results, push_all}
use Rattle.history_spec.specs.Settle.{AtEnd, Within, Gives, TooFew, after_entry, return_entry, at_end, at_end_of, return_from, deliver}
use Rattle.instance_spec.specs.Instances.{Instance, World}
use Rattle.instance_spec.specs.Renamed.{renamed_nest, renamed_label, renamed_point, renamed_frame_in, renamed_stack, renamed_settle_result}

pub left_alike : (i : Instance) (labels : List Label) (values : List Val) (rest : Nest) (number : ℕ)
    → leave (map (renamed_label i) labels) values (renamed_nest i rest) number
    ≡ renamed_point i (leave labels values rest number)
left_alike i [] values rest number = refl
left_alike i (label ∷ labels) values Empty number =
    left_alike i labels (values ++ label.below) label.after_block.rest label.after_block.number
left_alike i (label ∷ labels) values (Plain instr rest) number = refl
left_alike i (label ∷ labels) values (InBlock ty body rest) number = refl
left_alike i (label ∷ labels) values (InLoop ty body rest) number = refl
left_alike i (label ∷ labels) values (InIf ty body rest) number = refl
left_alike i (label ∷ labels) values (InIfElse ty body other rest) number = refl

given_alike : (i : Instance) (frame : Frame) (results : List Val)
    → with_results (renamed_frame_in i frame) results ≡ renamed_frame_in i (with_results frame results)
given_alike i frame results =
    ap (λ p. record frame { values = p.values; labels = p.labels; at = p.at })
    (left_alike i frame.labels (push_all results frame.values) frame.at.rest frame.at.number)

end_alike : (i : Instance) (frame : Frame) (rest : Nest) → at_end_of (renamed_nest i rest) (renamed_frame_in i frame) ≡ at_end_of rest frame
end_alike i frame Empty = refl
end_alike i frame (Plain instr rest) = refl
end_alike i frame (InBlock ty body rest) = refl
end_alike i frame (InLoop ty body rest) = refl
end_alike i frame (InIf ty body rest) = refl
end_alike i frame (InIfElse ty body other rest) = refl

module _ (w : World) where
  pub entry_alike : (func : ℕ) (results : List Val) (below : List Activation)
      → return_entry func results (renamed_stack w below) ≡ return_entry func results below
  entry_alike func results [] = refl
  entry_alike func results (InModule frame ∷ below) = refl
  entry_alike func results (InMain actions ∷ below) = refl
  entry_alike func results (InImport import args actions end ∷ below) = refl

  returned : (e : AtEnd) (frame : Frame) (below : List Activation)
      → ((results : List Val) → deliver (renamed_stack w below) results ≡ renamed_settle_result w (deliver below results))
      → return_from e (renamed_frame_in (w.instance_of frame.func) frame) (renamed_stack w below) (deliver (renamed_stack w below))
      ≡ renamed_settle_result w (return_from e frame below (deliver below))
  returned Within frame below h = refl
  returned (Gives results) frame below h =
      ap (λ entry. after_entry entry (deliver (renamed_stack w below) results)) (entry_alike frame.func results below)
      ∙ ap (after_entry (return_entry frame.func results below)) (h results)
  returned TooFew frame below h = refl

  pub delivered : (stack : List Activation) (results : List Val)
      → deliver (renamed_stack w stack) results ≡ renamed_settle_result w (deliver stack results)
  delivered [] results = refl
  delivered (InModule frame ∷ below) results =
      let i = w.instance_of frame.func in
      let after = with_results frame results in
      ap
      (λ (f : Frame). return_from (at_end f) f (renamed_stack w below) (deliver (renamed_stack w below)))
      (given_alike i frame results)
      ∙ ap
      (λ e. return_from e (renamed_frame_in i after) (renamed_stack w below) (deliver (renamed_stack w below)))
      (end_alike i after after.at.rest)
      ∙ returned (at_end after) after below (delivered below)
  delivered (InMain [] ∷ below) results = refl
  delivered (InMain (action ∷ actions) ∷ below) results = refl
  delivered (InImport import args [] (Return None) ∷ below) results = ap (after_entry _) (delivered below [])
  delivered (InImport import args [] (Return (Some value)) ∷ below) results =
      ap (after_entry _) (delivered below (value ∷ []))
  delivered (InImport import args [] Trap ∷ below) results = refl
  delivered (InImport import args (action ∷ actions) end ∷ below) results = refl
