use Rattle.std.proofs.Common.{length, refl, ap, ◌∙◌}
use Rattle.wasm_syntax.specs.declared.modules.Module.{Module}
use Rattle.linked_pair.proofs.PairParts.{funcs_countable, globals_countable, left_types, on_each}
use Rattle.linked_pair.proofs.pair_numbers.PairNumbers.of.Goals as goal

pub type_count-types-requires : goal.type_count-types-requires
type_count-types-requires c = left_types c.args.modules.now c.«module».result.now c.«module».ensures c.requires.few

pub numbers_in-requires-clause-countable : goal.numbers_in-requires-clause-countable
numbers_in-requires-clause-countable c = funcs_countable c.args.modules.now c.requires.linkable c.requires.few

pub numbers_in-requires-2-clause-countable : goal.numbers_in-requires-2-clause-countable
numbers_in-requires-2-clause-countable c = globals_countable c.args.modules.now c.requires.linkable c.requires.few

pub of-requires : goal.of-requires
of-requires c =
    record {
      imports = c.requires.few.imports;
      ends = c.requires.ends.globals;
      numbers = on_each c.args.modules.now c.in_ok-globals.globals c.in_ok-globals.ensures.left c.in_ok-globals.ensures.right;
    }

pub returns-clause-left : goal.returns-clause-left
returns-clause-left c =
    record {
      types = refl;
      funcs = c.in_ok-funcs.ensures.left;
      globals = c.in_ok-globals.ensures.left;
      constants = c.in_ok-constants.ensures.left;
    }

pub returns-clause-right : goal.returns-clause-right
returns-clause-right c =
    record {
      types = c.type_count-types.ensures ∙ ap (λ (m : Module). length m.types) c.«module».ensures;
      funcs = c.in_ok-funcs.ensures.right;
      globals = c.in_ok-globals.ensures.right;
      constants = c.in_ok-constants.ensures.right;
    }
