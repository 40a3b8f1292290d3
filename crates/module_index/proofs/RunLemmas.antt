-- Lemmas on the ends of runs.
use Rattle.std.proofs.Common.{◌≡◌, ℕ, zero, suc, ◌-◌, ◌+◌, ◌^◌, ◌<◌, ◌≤◌, List, [], ◌∷◌, ◌++◌, length, replicate, take, drop, get_or, Some, refl, sym, ap, ◌∙◌, arith, append_assoc}
use Rattle.std.specs.Prelude.{slice_get, option_map}
use Rattle.std.proofs.lemmas.List.{append-nil, length-append, length-replicate, get_or-replicate, get_or_append_left, take_more, take_all, length-drop, take-append-drop}
use Rattle.std.proofs.lemmas.Grind.{flat_map-append}
use Rattle.std.proofs.lemmas.Option.{slice_get-get_or}
use Rattle.base.proofs.Lists.{get_after, get_front}
use Rattle.wasm_syntax.specs.declared.values.ValType.{ValType}
use Rattle.wasm_syntax.specs.declared.modules.Run.{Run}
use Rattle.wasm_syntax.specs.Validity.{each_local}
use Rattle.module_index.specs.declared.locals.RunEnd.{RunEnd}
use Rattle.module_index.specs.Runs.{locals_from, last_end, AreEnds, AreEndsOf, IsEnough}

-- ---- one more run

pub locals_from-push : (start : ℕ) (ends : List RunEnd) (e : RunEnd)
    → locals_from start (ends ++ e ∷ []) ≡ locals_from start ends ++ replicate (e.end - last_end start ends) e.ty
locals_from-push start [] e = append-nil (replicate (e.end - start) e.ty)
locals_from-push start (x ∷ ends) e =
    ap (λ l. replicate (x.end - start) x.ty ++ l) (locals_from-push x.end ends e) ∙ sym (append_assoc
    (replicate (x.end - start) x.ty) (locals_from x.end ends) (replicate (e.end - last_end x.end ends) e.ty))

pub last_end-push : (start : ℕ) (ends : List RunEnd) (e : RunEnd) → last_end start (ends ++ e ∷ []) ≡ e.end
last_end-push start [] e = refl
last_end-push start (x ∷ ends) e = last_end-push x.end ends e

pub AreEnds-push : (start : ℕ) (ends : List RunEnd) (e : RunEnd) → AreEnds start ends → last_end start ends ≤ e.end
    → AreEnds start (ends ++ e ∷ [])
AreEnds-push start [] e h le = (le, tt)
AreEnds-push start (x ∷ ends) e h le = (h.0, AreEnds-push x.end ends e h.1 le)

pub each_local-more : (runs : List Run) (count : ℕ) (run default : Run) → count < length runs
    → run ≡ get_or runs count default
    → each_local (take (count + 1) runs) ≡ each_local (take count runs) ++ replicate run.count run.ty
each_local-more runs count run default h is =
    ap each_local (take_more runs count default h ∙ ap (λ r. take count runs ++ r ∷ []) (sym is))
    ∙ flat_map-append (λ (run : Run). replicate run.count run.ty) (take count runs) (run ∷ [])
    ∙ ap (λ l. each_local (take count runs) ++ l) (append-nil (replicate run.count run.ty))

pub locals_from-more : (runs : List Run) (ends : List RunEnd) (count : ℕ) (run default : Run) (e : RunEnd)
    → count < length runs → run ≡ get_or runs count default → e.end ≡ last_end 0 ends + run.count → e.ty ≡ run.ty
    → locals_from 0 ends ≡ each_local (take count runs)
    → locals_from 0 (ends ++ e ∷ []) ≡ each_local (take (count + 1) runs)
locals_from-more runs ends count run default e h is end ty each =
    let n : e.end - last_end 0 ends ≡ run.count = omega arith in
    locals_from-push 0 ends e
    ∙ ap (λ l. l ++ replicate (e.end - last_end 0 ends) e.ty) each
    ∙ ap (λ n. each_local (take count runs) ++ replicate n e.ty) n
    ∙ ap (λ t. each_local (take count runs) ++ replicate run.count t) ty
    ∙ sym (each_local-more runs count run default h is)

-- ---- the run over a place

length-locals_from : (start : ℕ) (ends : List RunEnd) → AreEnds start ends
    → length (locals_from start ends) + start ≡ last_end start ends
length-locals_from start [] h = omega arith
length-locals_from start (e ∷ ends) h =
    let rest = length-locals_from e.end ends h.1 in
    let low : start ≤ e.end = h.0 in
    omega (arith, rest, low, length-append (replicate (e.end - start) e.ty) (locals_from e.end ends), length-replicate (e.end - start) e.ty)

ends-above : (start : ℕ) (ends : List RunEnd) (j : ℕ) (d : RunEnd) → AreEnds start ends → j < length ends
    → start ≤ (get_or ends j d).end
ends-above start [] j d h lt = absurd (omega arith)
ends-above start (e ∷ ends) zero d h lt = h.0
ends-above start (e ∷ ends) (suc j) d h lt = let low : start ≤ e.end = h.0 in omega (arith, low, ends-above e.end ends j d h.1 (omega arith))

pub ends-rise : (start : ℕ) (ends : List RunEnd) (i j : ℕ) (d : RunEnd) → AreEnds start ends → i ≤ j → j < length ends
    → (get_or ends i d).end ≤ (get_or ends j d).end
ends-rise start [] i j d h le lt = absurd (omega arith)
ends-rise start (e ∷ ends) zero zero d h le lt = omega arith
ends-rise start (e ∷ ends) zero (suc j) d h le lt = ends-above e.end ends j d h.1 (omega arith)
ends-rise start (e ∷ ends) (suc i) zero d h le lt = absurd (omega arith)
ends-rise start (e ∷ ends) (suc i) (suc j) d h le lt = ends-rise e.end ends i j d h.1 (omega arith) (omega arith)

in-first : (n i : ℕ) (t : ValType) (rest : List ValType) → i < n → slice_get (replicate n t ++ rest) i ≡ Some t
in-first n i t rest lt =
    slice_get-get_or (replicate n t ++ rest) i t (omega (arith, length-append (replicate n t) rest, length-replicate n t))
    ∙ ap Some (get_or_append_left (replicate n t) rest t i (omega (arith, length-replicate n t)) ∙ get_or-replicate n i t t lt)

pub run-over : (start : ℕ) (ends : List RunEnd) (place at : ℕ) → AreEnds start ends → start ≤ place
    → ((k : ℕ) (d : RunEnd) → k < at → k < length ends → (get_or ends k d).end ≤ place)
    → ((k : ℕ) (d : RunEnd) → at ≤ k → k < length ends → place < (get_or ends k d).end)
    → option_map (λ (e : RunEnd). e.ty) (slice_get ends at) ≡ slice_get (locals_from start ends) (place - start)
run-over start [] place at h low before behind = refl
run-over start (e ∷ ends) place zero h low before behind =
    let here : place < e.end = behind 0 e (omega arith) (omega arith) in
    sym (in-first (e.end - start) (place - start) e.ty (locals_from e.end ends) (omega arith))
run-over start (e ∷ ends) place (suc at) h low before behind =
    let passed : e.end ≤ place = before 0 e (omega arith) (omega arith) in
    let first : start ≤ e.end = h.0 in
    run-over e.end ends place at h.1 passed (λ k d lt le. before (suc k) d (omega arith) (omega arith))
    (λ k d le lt. behind (suc k) d (omega arith) (omega arith))
    ∙ ap (slice_get (locals_from e.end ends)) (omega (arith, length-replicate (e.end - start) e.ty))
    ∙ sym (get_after (replicate (e.end - start) e.ty) (locals_from e.end ends) (place - start) (omega (arith, length-replicate (e.end - start) e.ty)))

-- no local is out of reach of an index, if runs after it are left
kept-front : (kept : List ValType) (rest : List Run) (place : ℕ) → (0 < length rest → place < length kept)
    → slice_get kept place ≡ slice_get (kept ++ each_local rest) place
kept-front kept [] place h = ap (λ l. slice_get l place) (sym (append-nil kept))
kept-front kept (run ∷ rest) place h = sym (get_front kept (each_local (run ∷ rest)) place (h (omega arith)))

-- all runs, a given number of them kept
pub kept-and_rest : (params : List ValType) (ends : List RunEnd) (count : ℕ) (runs : List Run)
    → AreEndsOf ends count runs
    → params ++ (locals_from 0 ends ++ each_local (take (length runs - count) (drop count runs))) ≡ params ++ each_local runs
kept-and_rest params ends count runs h =
    let rest : take (length runs - count) (drop count runs) ≡ drop count runs =
    take_all (length runs - count) (drop count runs) (omega (arith, length-drop count runs)) in
    ap (λ l. params ++ (locals_from 0 ends ++ each_local l)) rest
    ∙ ap (λ l. params ++ (l ++ each_local (drop count runs))) h.each
    ∙ ap (λ l. params ++ l)
    (sym (flat_map-append (λ (run : Run). replicate run.count run.ty) (take count runs) (drop count runs))
    ∙ ap each_local (take-append-drop count runs))

-- a local after the parameters
pub local-after : (params : List ValType) (ends : List RunEnd) (rest : List Run) (index place : ℕ)
    → length params + place ≡ index → index < 2 ^ 32 → IsEnough ends rest
    → slice_get (locals_from 0 ends) place ≡ slice_get (params ++ (locals_from 0 ends ++ each_local rest)) index
local-after params ends rest index place e small h =
    let count : length (locals_from 0 ends) + 0 ≡ last_end 0 ends = length-locals_from 0 ends h.rising in
    let at : index - length params ≡ place = omega arith in
    kept-front (locals_from 0 ends) rest place (λ some. let far : 2 ^ 32 ≤ last_end 0 ends = h.enough some in omega (arith, count, far))
    ∙ sym (get_after params (locals_from 0 ends ++ each_local rest) index (omega arith) ∙ ap (slice_get (locals_from 0 ends ++ each_local rest)) at)
