-- The text of a history while it is printed.
use Rattle.std.specs.Prelude.{◌≡◌, ℕ, ◌+◌, List, ◌++◌, length}
use Rattle.std.specs.List.{flat_map}
use Rattle.history_spec.specs.declared.entries.Entry.{Entry}
use Rattle.history_spec.specs.Line.{line, entry_text}

-- the lines of entries
abbrev pub lines : List Entry → List ℕ
lines entries = flat_map (λ entry. line (entry_text entry)) entries

-- the lines so far, and the number of their entries
pub record PrintedLines : Type 0 where
  pub text : List ℕ
  pub entries : ℕ

-- the lines of entries were printed after the earlier ones
pub record Prints (old new : PrintedLines) (entries : List Entry) : Type 0 where
  pub lines_are : new.text ≡ old.text ++ lines entries
  pub count_is : new.entries ≡ old.entries + length entries

-- all entries of a history are printed
pub record HasPrinted (printed : PrintedLines) (history : List Entry) : Type 0 where
  pub text_is : printed.text ≡ lines history
  pub entries_are : printed.entries ≡ length history
