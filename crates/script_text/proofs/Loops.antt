-- Reading the items of a list one after the other, as a loop does.
use Rattle.std.proofs.Common.{◌≡◌, ℕ, ◌+◌, ◌≤◌, ◌<◌, List, [], ◌∷◌, ◌++◌, length, drop, get_or, Result, Ok, Err, refl, sym, ap, ◌∙◌, append_assoc, drop-cons, add-one, suc}
use Rattle.std.proofs.lemmas.List.{append-nil, drop_all}
use Rattle.serde_json.specs.Data.{Data, item}
use Rattle.serde_json.specs.declared.value.Value.{Value}
use Rattle.serde_json.specs.View.{view, items_view}
use Rattle.script_text.specs.declared.faults.ScriptFault.{ScriptFault}
use Rattle.script_text.specs.Walk.{◌>>=◌, Fails, at_index, items_from}

-- what was read before, and what is still read
abbrev pub with_front : {A : Type 0} → List A → Result (List A) ScriptFault → Result (List A) ScriptFault
with_front front read = read >>= λ others. Ok (front ++ others)

regroup : {A : Type 0} (front : List A) (a : A) (read : Result (List A) ScriptFault)
    → with_front front (read >>= λ others. Ok (a ∷ others)) ≡ with_front (front ++ a ∷ []) read
regroup front a (Ok others) = ap Ok (simp append_assoc)
regroup front a (Err fault) = refl

-- the item at an index, and those after it
pub at : (vs : List Value) (i : ℕ) (v : Value) → i < length vs → v ≡ get_or vs i v
    → items_view (drop i vs) ≡ item (view v) (items_view (drop (i + 1) vs))
at vs i v lt is =
    let e : drop i vs ≡ get_or vs i v ∷ drop (suc i) vs = drop-cons vs i v lt in
    let f : drop i vs ≡ v ∷ drop (suc i) vs = rw (sym is) at e in
    rw (f, add-one) refl

pub goes_on : {A : Type 0} (read : Data → Result A ScriptFault) (front : List A) (vs : List Value) (i : ℕ) (v : Value)
    (a : A) (total : Result (List A) ScriptFault)
    → i < length vs → v ≡ get_or vs i v → at_index i read (view v) ≡ Ok a
    → with_front front (items_from read i (items_view (drop i vs))) ≡ total
    → with_front (front ++ a ∷ []) (items_from read (i + 1) (items_view (drop (i + 1) vs))) ≡ total
unfolding items_from
goes_on read front vs i v a total lt is h so_far =
    let one : with_front front (items_from read i (items_view (drop i vs)))
    ≡ with_front (front ++ a ∷ []) (items_from read (i + 1) (items_view (drop (i + 1) vs)))
    = rw (at vs i v lt is, h) (regroup front a (items_from read (i + 1) (items_view (drop (i + 1) vs)))) in
    sym one ∙ so_far

pub ends : {A : Type 0} (read : Data → Result A ScriptFault) (e : ScriptFault) (front : List A) (vs : List Value)
    (i : ℕ) (v : Value) (total : Result (List A) ScriptFault)
    → i < length vs → v ≡ get_or vs i v → Fails e (at_index i read (view v))
    → with_front front (items_from read i (items_view (drop i vs))) ≡ total → Fails e total
unfolding items_from
ends read e front vs i v total lt is h so_far no_memory =
    let one : with_front front (items_from read i (items_view (drop i vs))) ≡ Err e = rw (at vs i v lt is, h no_memory) refl in
    sym so_far ∙ one

pub is_done : {A : Type 0} (read : Data → Result A ScriptFault) (front : List A) (vs : List Value) (i : ℕ) (total : Result (List A) ScriptFault)
    → length vs ≤ i → with_front front (items_from read i (items_view (drop i vs))) ≡ total → total ≡ Ok front
unfolding items_from
is_done read front vs i total le so_far =
    let e : drop i vs ≡ [] = drop_all i vs le in
    let one : with_front front (items_from read i (items_view (drop i vs))) ≡ Ok front = rw e (ap Ok (append-nil front)) in
    sym so_far ∙ one
