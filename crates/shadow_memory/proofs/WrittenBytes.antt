-- The byte at an address, among bytes that were written from another address on.
use Rattle.std.proofs.Common.{◌≡◌, ℕ, ◌+◌, ◌-◌, ◌≤◌, ◌<◌, List, ◌++◌, length, take, drop, Option, Some, None, Bool, true, false, cond, nat_le, slice_get, slice_index, refl, sym, ap, ◌∙◌, arith, length-append, length-take-le}
use Rattle.std.specs.Prelude.{unwrap_or}
use Rattle.std.proofs.lemmas.Bool.{eqb-true}
use Rattle.std.proofs.lemmas.Bool.Decides.{nat_tests}
use Rattle.std.proofs.lemmas.List.{get_or-drop, get_or-take, get_or_append_left, get_or-append_right, length-drop, length-take}
use Rattle.std.proofs.lemmas.Option.{slice_get-get_or}
pub use Rattle.history_spec.proofs.PlacedBytes.{byte_below as among_below, byte_past as among_past}
use Rattle.shadow_memory.specs.Runs.{is_known}
use Rattle.shadow_memory.specs.Shadow.{byte_among, AreWritten}

pub among_there : (address : ℕ) (bytes : List ℕ) (at : ℕ) → address ≤ at → at < address + length bytes
    → byte_among address bytes at ≡ Some (slice_index bytes (at - address))
among_there address bytes at from to =
    let e : nat_le address at ≡ true = grind (arith, nat_tests) in
    ap (λ b. cond b (slice_get bytes (at - address)) None) e ∙ slice_get-get_or bytes (at - address) 0 (omega arith)

-- an address is within the bytes, below them or past them
pub data Among (address : ℕ) (bytes : List ℕ) (at : ℕ) : Type 0 where
  Below : at < address → Among address bytes at
  There : address ≤ at → at < address + length bytes → Among address bytes at
  Past : address + length bytes ≤ at → Among address bytes at

pub where_among : (address : ℕ) (bytes : List ℕ) (at : ℕ) → Among address bytes at
where_among address bytes at = go (nat_le address at) refl (nat_le (address + length bytes) at) refl
  where
    go : (b : Bool) → nat_le address at ≡ b → (c : Bool) → nat_le (address + length bytes) at ≡ c
        → Among address bytes at
    go false p c q = Below (grind (arith, nat_tests, p))
    go true p true q = Past (grind (arith, nat_tests, q))
    go true p false q = There (grind (arith, nat_tests, p)) (grind (arith, nat_tests, q))

-- a list with a part replaced is as long as before
pub replaced_length : (items : List ℕ) (address : ℕ) (bytes : List ℕ) → address + length bytes ≤ length items
    → length (take address items ++ (bytes ++ drop (address + length bytes) items)) ≡ length items
replaced_length items address bytes fits =
    let rest = drop (address + length bytes) items in
    omega (
      arith,
      fits,
      length-append (take address items) (bytes ++ rest),
      length-append bytes rest,
      length-drop (address + length bytes) items,
      length-take-le address items (omega arith),
    )

-- a list with a part replaced has the new bytes in that part, and the old ones elsewhere
pub replaced_part : (items : List ℕ) (address : ℕ) (bytes : List ℕ) → address + length bytes ≤ length items
    → AreWritten items address bytes (take address items ++ (bytes ++ drop (address + length bytes) items))
replaced_part items address bytes fits at = go (where_among address bytes at)
  where
    rest : List ℕ
    rest = drop (address + length bytes) items

    front : length (take address items) ≡ address
    front = length-take-le address items (omega arith)

    or_old : Option ℕ → ℕ
    or_old o = unwrap_or o (slice_index items at)

    go : Among address bytes at
        → slice_index (take address items ++ (bytes ++ rest)) at ≡ or_old (byte_among address bytes at)
    go (Below below) =
        get_or_append_left (take address items) (bytes ++ rest) 0 at (omega (arith, front))
        ∙ get_or-take address items at 0 below
        ∙ sym (ap or_old (among_below address bytes at below))
    go (There from to) =
        get_or-append_right (take address items) (bytes ++ rest) address at 0 front from
        ∙ get_or_append_left bytes rest 0 (at - address) (omega (arith, from, to))
        ∙ sym (ap or_old (among_there address bytes at from to))
    go (Past past) =
        let here : address + length bytes + (at - address - length bytes) ≡ at = omega (arith, past) in
        get_or-append_right (take address items) (bytes ++ rest) address at 0 front (omega (arith, past))
        ∙ get_or-append_right bytes rest (length bytes) (at - address) 0 refl (omega (arith, past))
        ∙ get_or-drop (address + length bytes) items (at - address - length bytes) 0
        ∙ ap (slice_index items) here
        ∙ sym (ap or_old (among_past address bytes at past))

-- known bytes before the bytes that are taken need not be taken
module _ (before after : List ℕ) (address : ℕ) (bytes : List ℕ) (start count : ℕ)
    (fits : start + count ≤ length bytes) (known : (k : ℕ) → k < start → is_known before address bytes k ≡ true)
    (written : AreWritten before (address + start) (take count (take (length bytes - start) (drop start bytes))) after)
  where
    abbrev run : List ℕ
    run = take count (take (length bytes - start) (drop start bytes))

    size : length run ≡ count
    size =
        omega (
          arith,
          fits,
          length-take count (take (length bytes - start) (drop start bytes)),
          length-take (length bytes - start) (drop start bytes),
          length-drop start bytes,
        )

    is : (k : ℕ) → k < count → slice_index run k ≡ slice_index bytes (start + k)
    is k below =
        get_or-take count (take (length bytes - start) (drop start bytes)) k 0 below
        ∙ get_or-take (length bytes - start) (drop start bytes) k 0 (omega (arith, fits, below))
        ∙ get_or-drop start bytes k 0

    abbrev whole : List ℕ
    whole = take (start + count) bytes

    whole_length : length whole ≡ start + count
    whole_length = length-take-le (start + count) bytes fits

    whole_item : (k : ℕ) → k < start + count → slice_index whole k ≡ slice_index bytes k
    whole_item k below = get_or-take (start + count) bytes k 0 below

    pub taken_whole : AreWritten before address whole after
    taken_whole at = go (where_among address whole at) (where_among (address + start) run at)
      where
        or_old : Option ℕ → ℕ
        or_old o = unwrap_or o (slice_index before at)

        go : Among address whole at → Among (address + start) run at
            → slice_index after at ≡ or_old (byte_among address whole at)
        go (Below below) other =
            written at
            ∙ ap or_old (among_below (address + start) run at (omega (arith, below)))
            ∙ sym (ap or_old (among_below address whole at below))
        go (Past past) other =
            written at
            ∙ ap or_old (among_past (address + start) run at (omega (arith, past, size, whole_length)))
            ∙ sym (ap or_old (among_past address whole at past))
        go (There from to) (Below earlier) =
            let e : address + (at - address) ≡ at = omega (arith, from) in
            let same : slice_index before (address + (at - address)) ≡ slice_index bytes (at - address) =
            eqb-true (slice_index before (address + (at - address))) (slice_index bytes (at - address))
            (known (at - address) (omega (arith, earlier, from))) in
            written at
            ∙ ap or_old (among_below (address + start) run at earlier)
            ∙ sym (ap (slice_index before) e)
            ∙ same
            ∙ sym (whole_item (at - address) (omega (arith, from, to, whole_length)))
            ∙ sym (ap or_old (among_there address whole at from to))
        go (There from to) (There later until) =
            let e : start + (at - (address + start)) ≡ at - address = omega (arith, later) in
            written at
            ∙ ap or_old (among_there (address + start) run at later until)
            ∙ is (at - (address + start)) (omega (arith, later, until, size))
            ∙ ap (slice_index bytes) e
            ∙ sym (whole_item (at - address) (omega (arith, from, to, whole_length)))
            ∙ sym (ap or_old (among_there address whole at from to))
        go (There from to) (Past past) = absurd (omega (arith, to, past, size, whole_length))
