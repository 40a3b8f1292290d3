-- The parts that readers are made of. A reader is a plain program that takes what a front of the bytes encodes, and
-- gives it with the bytes after it.
use Rattle.std.specs.Prelude.{ℕ, zero, suc, List, [], ◌∷◌, length, take, drop, Option, Some, None, option_map, option_and_then, nat_eq, nat_lt, cond}
use Rattle.leb_bytes.specs.Unsigned.{first_u32}

abbrev pub Reader : Type 0 → Type 0
Reader A = List ℕ → Option (A × List ℕ)

-- a reader of no bytes
abbrev pub always : {A : Type 0} → A → Reader A
always x bytes = Some (x, bytes)

-- a reader of what another reads, made into something else
abbrev pub map_read : {A B : Type 0} → (A → B) → Reader A → Reader B
map_read make read bytes = option_map (λ first. (make first.0, first.1)) (read bytes)

-- a reader of one thing and then of another
abbrev pub first_then : {A B : Type 0} → Reader A → Reader B → Reader (A × B)
first_then read other bytes =
    option_and_then (λ first. option_map (λ second. ((first.0, second.0), second.1)) (other first.1)) (read bytes)

-- a reader of just these bytes
abbrev pub first_exactly : List ℕ → Reader (Unit {0})
first_exactly [] bytes = Some (tt, bytes)
first_exactly (b ∷ word) [] = None
first_exactly (b ∷ word) (c ∷ bytes) = cond (nat_eq b c) (first_exactly word bytes) None

-- the reader that the first byte chooses, on the bytes after it
abbrev pub by_mark : {A : Type 0} → (ℕ → Option (Reader A)) → Reader A
by_mark choose [] = None
by_mark choose (mark ∷ rest) = option_and_then (λ read. read rest) (choose mark)

-- the reader that the number at the front chooses, on the bytes after it
abbrev pub by_number : {A : Type 0} → (ℕ → Option (Reader A)) → Reader A
by_number choose bytes =
    option_and_then (λ number. option_and_then (λ read. read number.1) (choose number.0)) (first_u32 bytes)

-- the first of the rows with this mark
abbrev pub Rows : Type 0 → Type 0
Rows A = List (ℕ × Reader A)

abbrev pub row_at : {A : Type 0} → Rows A → ℕ → Option (Reader A)
row_at [] mark = None
row_at (row ∷ rows) mark = cond (nat_eq row.0 mark) (Some row.1) (row_at rows mark)

-- a reader of a given number of items
abbrev pub first_items : {A : Type 0} → Reader A → ℕ → Reader (List A)
first_items read zero bytes = Some ([], bytes)
first_items read (suc more) bytes =
    option_and_then (λ first. option_map (λ others. (first.0 ∷ others.0, others.1)) (first_items read more first.1))
    (read bytes)

abbrev pub first_vector : {A : Type 0} → Reader A → Reader (List A)
first_vector read bytes = option_and_then (λ count. first_items read count.0 count.1) (first_u32 bytes)

-- a value, if all of the bytes are read
abbrev pub if_at_end : {A : Type 0} → A → List ℕ → Option A
if_at_end x [] = Some x
if_at_end x (b ∷ rest) = None

abbrev pub whole : {A : Type 0} → Reader A → List ℕ → Option A
whole read bytes = option_and_then (λ first. if_at_end first.0 first.1) (read bytes)

-- a reader of as many bytes as the number at their front gives; all of these are read
abbrev pub first_sized : {A : Type 0} → (List ℕ → Option A) → Reader A
first_sized read bytes = option_and_then (λ size.
    cond (nat_lt (length size.1) size.0) None
    (option_map (λ x. (x, drop size.0 size.1)) (read (take size.0 size.1)))) (first_u32 bytes)
