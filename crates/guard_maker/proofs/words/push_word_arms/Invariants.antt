use Rattle.std.proofs.Common.{◌≡◌, ◌++◌, drop, map, flat_map}
use Rattle.replay_gen.specs.Pieces.{ended}
use Rattle.guarded_module_spec.specs.Functions.{word_arm}
use Rattle.guard_maker.proofs.words.push_word_arms.Given as goal

-- the instructions appended and those still to append are all
abbrev pub invariant-words : goal.invariant-words
invariant-words l =
    l.code.items ++ flat_map ended (map word_arm (drop l.word-index l.words))
    ≡ l.fn.code.items ++ flat_map ended (map word_arm l.words)
