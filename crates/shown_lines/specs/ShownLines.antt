-- The lines of a replay module's run, while they are written.
use Rattle.std.specs.Prelude.{◌≡◌, ℕ, ◌+◌, List, [], ◌∷◌, ◌++◌, length, All}
use Rattle.std.specs.List.{flat_map}
use Rattle.wasm_syntax.specs.declared.values.Val.{Val}
use Rattle.history_spec.specs.declared.entries.Entry.{Entry}
use Rattle.history_spec.specs.declared.entries.Entry.TheVariants.{Exit, HostCall, HostReturn, Step, Trap}
use Rattle.history_spec.specs.Line.{line, entry_text}
use Rattle.history_spec.specs.Projection.{Layout, shown_entries}
use Rattle.replay_run_spec.specs.Inside.{inside_after_all}

-- the lines of entries
abbrev pub lines : List Entry → List ℕ
lines entries = flat_map (λ entry. line (entry_text entry)) entries

-- the lines so far, the number of their entries, and the functions that control is in, the innermost first
pub record ShownLines : Type 0 where
  pub layout : Layout
  pub text : List ℕ
  pub entries : ℕ
  pub inside : List ℕ

-- no lines yet, and control is outside all functions
abbrev pub nothing_shown : Layout → ShownLines
nothing_shown layout = record { layout = layout; text = []; entries = 0; inside = [] }

-- the lines of what entries show were appended; `args` are the arguments of the latest call
pub record Shows (old new : ShownLines) (args : List Val) (entries : List Entry) : Type 0 where
  pub same_layout : new.layout ≡ old.layout
  pub lines_are : new.text ≡ old.text ++ lines (shown_entries old.layout old.inside args entries)
  pub count_is : new.entries ≡ old.entries + length (shown_entries old.layout old.inside args entries)
  pub inside_is : new.inside ≡ inside_after_all old.inside entries

-- all lines of what a history shows are written
pub record HasShown (shown : ShownLines) (history : List Entry) : Type 0 where
  pub text_is : shown.text ≡ lines (shown_entries shown.layout [] [] history)
  pub entries_are : shown.entries ≡ length (shown_entries shown.layout [] [] history)
  pub inside_is : shown.inside ≡ inside_after_all [] history

-- an entry is not a trap; no entry of a list is a trap
abbrev pub IsNoTrap : Entry → Type 0
IsNoTrap (Trap func number kind operands found) = ⊥
IsNoTrap entry = Unit {0}

abbrev pub AreNoTraps : List Entry → Type 0
AreNoTraps entries = All IsNoTrap entries

-- an entry is a return
abbrev pub IsReturn : Entry → Type 0
IsReturn (Exit func results) = Unit {0}
IsReturn (HostReturn func results) = Unit {0}
IsReturn entry = ⊥

-- the entries show the same for any arguments of the latest call before them: they are returns, or they begin
-- with an instruction or a call by the host
abbrev pub SetArguments : List Entry → Type 0
SetArguments (Step func number operands results found ∷ later) = Unit {0}
SetArguments (HostCall func args ∷ later) = Unit {0}
SetArguments (Trap func number kind operands found ∷ later) = later ≡ []
SetArguments entries = All IsReturn entries
