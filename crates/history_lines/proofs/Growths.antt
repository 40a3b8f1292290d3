-- How growths by parts of a text compose.
use Rattle.std.proofs.Common.{◌≡◌, ℕ, List, [], ◌++◌, Result, Ok, Err, OnErr, refl, sym, ◌∙◌, ap, append_assoc, append-nil}
use Rattle.history_lines.specs.Growth.{GrewByFirstPart}

-- a growth by a text, then by a first part of what follows
pub grew-after : (old between new first second : List ℕ) → between ≡ old ++ first → GrewByFirstPart between new second
    → GrewByFirstPart old new (first ++ second)
grew-after old between new first second p q = record {
  part = first ++ q.part;
  rest = q.rest;
  whole = append_assoc first q.part q.rest ∙ ap (λ l. first ++ l) q.whole;
  grew = q.grew ∙ ap (λ l. l ++ q.part) p ∙ append_assoc old first q.part;
}

-- a growth by a first part, of a longer text too
pub grew-longer : (old new first second : List ℕ) → GrewByFirstPart old new first → GrewByFirstPart old new (first ++ second)
grew-longer old new first second p = record {
  part = p.part;
  rest = p.rest ++ second;
  whole = sym (append_assoc p.part p.rest second) ∙ ap (λ l. l ++ second) p.whole;
  grew = p.grew;
}

-- what holds of any answer, at a refusal
pub at-exit : {T E P : Type 0} (r : Result T E) → P → OnErr r P
at-exit (Ok x) p = tt
at-exit (Err e) p = p

-- at a refusal, what follows from what held there
pub at-refusal : {T E P Q : Type 0} (r : Result T E) → (P → Q) → OnErr r P → OnErr r Q
at-refusal (Ok x) f p = tt
at-refusal (Err e) f p = f p

-- a growth by nothing
pub grew-nothing : (old new text : List ℕ) → new ≡ old → GrewByFirstPart old new text
grew-nothing old new text same = record {
  part = [];
  rest = text;
  whole = refl;
  grew = same ∙ sym (append-nil old);
}
