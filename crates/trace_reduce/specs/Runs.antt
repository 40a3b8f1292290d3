-- The effects of what is found first, in the order of a tape.
use Rattle.std.specs.Prelude.{ℕ, ◌+◌, List, [], ◌∷◌, ◌++◌, length, map, Option, Some, None, cond, nat_eq}
use Rattle.std.specs.Ordering.{nat_cmp}
use Rattle.std.specs.BTreeMap.{IsOrdered}
use Rattle.wasm_syntax.specs.declared.values.Val.{Val}
use Rattle.trace_model.specs.declared.tapes.Effect.{Effect}
use Rattle.trace_model.specs.declared.tapes.Effect.TheVariants.{Grow, Table, Bytes, Entry, Global}
use Rattle.trace_reduce.specs.ByteGroups.{AreInOrder, bytes_of, merged_groups}
use Rattle.trace_reduce.specs.declared.first_values.Firsts.{Firsts}

-- a run as an effect, if it has bytes
abbrev pub run_effects : (start : ℕ) → (run : List ℕ) → List Effect
run_effects start [] = []
run_effects start (byte ∷ bytes) = Bytes start (byte ∷ bytes) ∷ []

-- a run and the bytes after it, by ascending addresses: a byte directly after the run joins it
abbrev pub runs_from : (start : ℕ) → (run : List ℕ) → List (ℕ × ℕ) → List Effect
runs_from start run [] = run_effects start run
runs_from start run (byte ∷ later) =
    cond (nat_eq (start + length run) byte.0) (runs_from start (run ++ byte.1 ∷ []) later)
    (run_effects start run ++ runs_from byte.0 (byte.1 ∷ []) later)

-- the effect of a table entry; the effect of a global
abbrev pub entry_effect : ℕ × Option ℕ → Effect
entry_effect entry = Entry entry.0 entry.1

abbrev pub global_effect : ℕ × Val → Effect
global_effect global = Global global.0 global.1

-- the effect of a size, if a size is found
abbrev pub size_effects : (ℕ → Effect) → Option ℕ → List Effect
size_effects effect None = []
size_effects effect (Some size) = effect size ∷ []

-- the effects of all first finds
abbrev pub firsts_effects : Firsts → List Effect
firsts_effects firsts =
    (((size_effects Grow firsts.pages ++ size_effects Table firsts.size)
    ++ runs_from 0 [] (bytes_of (merged_groups firsts.bytes.items)))
    ++ map entry_effect firsts.entries.entries)
    ++ map global_effect firsts.globals.entries

-- the numbers of groups do not decrease, and indices ascend
pub record AreSorted (firsts : Firsts) : Type 0 where
  pub bytes : AreInOrder 0 firsts.bytes.items
  pub entries : IsOrdered nat_cmp firsts.entries
  pub globals : IsOrdered nat_cmp firsts.globals
