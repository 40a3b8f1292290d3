-- How a file is read piece by piece.
use Rattle.std.proofs.Common.{◌≡◌, ℕ, ◌+◌, ◌≤◌, List, ◌++◌, length, take, drop, sym, ◌∙◌, ap}
use Rattle.std.proofs.Math.Seq.{take-add}
use Rattle.std.proofs.lemmas.List.{take-append-le, length-take-le}
use Rattle.r3_outside.specs.Contents.{IsPiece}

-- how many bytes of a piece are taken from the front of a longer buffer
pub length-piece : (into rest : List ℕ) (count : ℕ) → count ≤ length into → length (take count (into ++ rest)) ≡ count
length-piece into rest count fits = ap length (take-append-le count into rest fits) ∙ length-take-le count into fits

-- the first bytes of a file, with the piece after them from the front of a longer buffer
pub take-piece : (file bytes into rest : List ℕ) (done at count now : ℕ) → bytes ≡ take done file → at ≡ done
    → IsPiece file at count into → count ≤ length into → now ≡ done + count
    → bytes ++ take count (into ++ rest) ≡ take now file
take-piece file bytes into rest done at count now read follows piece fits more =
    ap (λ l. l ++ take count (into ++ rest)) read
    ∙ ap (λ l. take done file ++ l)
    (take-append-le count into rest fits ∙ piece.head ∙ ap (λ n. take count (drop n file)) follows)
    ∙ sym (take-add done count file)
    ∙ ap (λ n. take n file) (sym more)
