-- Items that are written into lists behind others.
use Rattle.std.proofs.Common.{◌≡◌, ℕ, suc, ◌+◌, List, [], ◌∷◌, ◌++◌, length, take, drop, sym, ap, ◌∙◌, arith}
use Rattle.std.proofs.Math.Seq.{take-append_seam, drop-append_seam, drop-append-add}
use Rattle.std.proofs.lemmas.List.{append_assoc, length-append}
use Rattle.history_spec.specs.Store.{with_items_at}

module _ {X : Type 0} where
  -- items that are written behind others
  pub written_after : (front behind news : List X) (at : ℕ) → at ≡ length front
      → with_items_at (front ++ behind) at news ≡ front ++ (news ++ drop (length news) behind)
  written_after front behind news at here =
      ap (λ n. take n (front ++ behind) ++ (news ++ drop (n + length news) (front ++ behind))) here
      ∙ ap (λ l. l ++ (news ++ drop (length front + length news) (front ++ behind))) (take-append_seam front behind)
      ∙ ap (λ l. front ++ (news ++ l)) (drop-append-add front behind (length news))

  -- items that are written over as many others
  pub written_between : (front old news behind : List X) (at : ℕ) → at ≡ length front → length old ≡ length news
      → with_items_at (front ++ (old ++ behind)) at news ≡ front ++ (news ++ behind)
  written_between front old news behind at here same =
      written_after front (old ++ behind) news at here
      ∙ ap (λ l. front ++ (news ++ l))
      (ap (λ n. drop n (old ++ behind)) (sym same) ∙ drop-append_seam old behind)

  -- an item that is written together with those after it, or by itself before them
  pub written_next : (front rest news : List X) (old new : X) (at : ℕ) → at ≡ length front
      → with_items_at (front ++ old ∷ rest) at (new ∷ news)
      ≡ with_items_at ((front ++ new ∷ []) ++ rest) (suc at) news
  written_next front rest news old new at here =
      let longer : suc at ≡ length (front ++ new ∷ []) = omega (arith, here, length-append front (new ∷ [])) in
      written_after front (old ∷ rest) (new ∷ news) at here
      ∙ sym (append_assoc front (new ∷ []) (news ++ drop (length news) rest))
      ∙ sym (written_after (front ++ new ∷ []) rest news (suc at) longer)
