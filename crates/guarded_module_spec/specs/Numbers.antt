-- The numbers of functions, types and globals of a guarded module.
use Rattle.std.specs.Prelude.{ℕ, ◌+◌, List, [], ◌∷◌, length, cond, nat_lt}
use Rattle.wasm_syntax.specs.declared.signatures.Limits.{Limits}
use Rattle.wasm_syntax.specs.declared.modules.Module.{Module}
use Rattle.history_spec.specs.Projection.{Layout}
use Rattle.guarded_module_spec.specs.declared.numbers.Numbers.{Numbers}

-- one function for the digest of the memory, if there is a memory
abbrev pub digest_count : List Limits → ℕ
digest_count [] = 0
digest_count (memory ∷ more) = 1

-- the numbers of a replay module with a layout
abbrev pub numbers_of : Module → Layout → Numbers
numbers_of m layout =
    record {
      funcs = length m.funcs;
      types = length m.types;
      globals = length m.globals;
      imports = layout.imports;
      past = layout.imports + layout.defined;
      digests = digest_count m.memories;
    }

-- the function by which functions outside the original call a function: what was in an import's place, the front of an
-- original, or an appended function itself
abbrev pub behind : Numbers → ℕ → ℕ
behind n func = cond (nat_lt func n.past) (n.funcs + func) func

-- ---- functions of its own

-- the function that a guarded module exports
abbrev pub start_place : Numbers → ℕ
start_place n = n.funcs + n.past

-- the function that gives the digest of the memory
abbrev pub digest_place : Numbers → ℕ
digest_place n = start_place n + 1

-- the function that takes a word and compares it
abbrev pub check_place : Numbers → ℕ
check_place n = start_place n + n.digests + 1

-- the function that gives the next of the given words
abbrev pub next_place : Numbers → ℕ
next_place n = start_place n + n.digests + 2

-- the function of the first group of words
abbrev pub first_group : Numbers → ℕ
first_group n = start_place n + n.digests + 3

-- ---- types and globals of its own

-- the type of a function without parameters and results
abbrev pub start_type_place : Numbers → ℕ
start_type_place n = n.types

-- the type of a function that takes a word
abbrev pub check_type_place : Numbers → ℕ
check_type_place n = n.types + 1

-- the type of a function that gives a word
abbrev pub word_type_place : Numbers → ℕ
word_type_place n = n.types + 2

-- the type of a function that takes the number of a word and gives the word
abbrev pub group_type_place : Numbers → ℕ
group_type_place n = n.types + 3

-- the global that counts the checks that have begun
abbrev pub begun : Numbers → ℕ
begun n = n.globals

-- the global that counts the checks that are passed
abbrev pub passed : Numbers → ℕ
passed n = n.globals + 1

-- the global that has the number of all checks
abbrev pub checks : Numbers → ℕ
checks n = n.globals + 2
