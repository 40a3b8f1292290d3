-- The imports of one kind, and the first part of an index space.
use Rattle.std.proofs.Common.{◌≡◌, ℕ, zero, suc, ◌-◌, ◌<◌, ◌≤◌, List, [], ◌∷◌, ◌++◌, map, length, filter, Option, Some, None, option_and_then, option_map, is_some, cond, slice_get, get_or, Bor, sym, ap, refl, ◌∙◌, arith}
use Rattle.std.specs.List.{cons_option}
use Rattle.std.proofs.lemmas.List.{length-map}
use Rattle.std.proofs.lemmas.Option.{slice_get-map, slice_get-get_or}
use Rattle.base.proofs.Lists.{get_after, get_front}
use Rattle.wasm_syntax.specs.declared.modules.Import.{Import}
use Rattle.wasm_syntax.specs.declared.modules.ImportKind.{ImportKind}
use Rattle.wasm_syntax.specs.Index.{of_kind}
use Rattle.module_names.specs.Names.{is_kind}

module _ {K : Type 0} (pick : ImportKind → Option K) where
  pub length-of_kind : (imports : List Import) → length (of_kind pick imports) ≡ length (filter (is_kind pick) imports)
  length-of_kind [] = refl
  length-of_kind (x ∷ xs) = by (pick x.kind) (length-of_kind xs)
    where
      by : (k : Option K) → length (of_kind pick xs) ≡ length (filter (is_kind pick) xs)
          → length (cons_option k (of_kind pick xs)) ≡ length (cond (is_some k) (x ∷ filter (is_kind pick) xs) (filter (is_kind pick) xs))
      by None h = h
      by (Some k) h = ap suc h

  pub get-of_kind : (imports : List Import) (i : ℕ)
      → slice_get (of_kind pick imports) i ≡ option_and_then (λ x. pick x.kind)
      (slice_get (filter (is_kind pick) imports) i)
  get-of_kind [] i = refl
  get-of_kind (x ∷ xs) i = by i (pick x.kind) refl (get-of_kind xs)
    where
      by : (i : ℕ) (k : Option K) → pick x.kind ≡ k
          →
          ((j : ℕ) → slice_get (of_kind pick xs) j ≡ option_and_then (λ y. pick y.kind) (slice_get (filter (is_kind pick) xs) j))
          → slice_get (cons_option k (of_kind pick xs)) i ≡ option_and_then (λ y. pick y.kind)
          (slice_get (cond (is_some k) (x ∷ filter (is_kind pick) xs) (filter (is_kind pick) xs)) i)
      by i None e h = h i
      by zero (Some k) e h = sym e
      by (suc i) (Some k) e h = h i

module _ {K : Type 0} (pick : ImportKind → Option K) where
  same_length : (found : List (Bor Import)) (imports : List Import)
      → map (λ import. import.now) found ≡ filter (is_kind pick) imports → length found ≡ length (of_kind pick imports)
  same_length found imports h = sym (length-map found (λ import. import.now)) ∙ ap length h ∙ sym (length-of_kind pick imports)

  pub at_import : (found : List (Bor Import)) (imports : List Import) (rest : List K) (i : ℕ) (x : Bor Import)
      → map (λ import. import.now) found ≡ filter (is_kind pick) imports → i < length found → x ≡ get_or found i x
      → slice_get (of_kind pick imports ++ rest) i ≡ pick x.now.kind
  at_import found imports rest i x h lt is =
      let lt' : i < length (of_kind pick imports) = omega (arith, same_length found imports h) in
      let here : slice_get found i ≡ Some x = slice_get-get_or found i x lt ∙ ap Some (sym is) in
      get_front (of_kind pick imports) rest i lt' ∙ get-of_kind pick imports i
      ∙ ap (λ l. option_and_then (λ (y : Import). pick y.kind) (slice_get l i)) (sym h)
      ∙ ap (option_and_then (λ (y : Import). pick y.kind)) (slice_get-map (λ import. import.now) found i ∙ ap (option_map (λ import. import.now)) here)

  pub past_imports : (found : List (Bor Import)) (imports : List Import) (rest : List K) (i : ℕ)
      → map (λ import. import.now) found ≡ filter (is_kind pick) imports → length found ≤ i
      → slice_get (of_kind pick imports ++ rest) i ≡ slice_get rest (i - length found)
  past_imports found imports rest i h le =
      let same = same_length found imports h in
      let le' : length (of_kind pick imports) ≤ i = omega (arith, same) in
      get_after (of_kind pick imports) rest i le' ∙ ap (λ n. slice_get rest (i - n)) (sym same)
