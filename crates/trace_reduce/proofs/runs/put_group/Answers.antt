use Rattle.std.proofs.Common.{rules, ◌≡◌, ◌*◌, ◌++◌, ℕ, List, length, OnOk, sym, subst, arith}
use Rattle.std.proofs.lemmas.List.{take_all}
use Rattle.trace_reduce.specs.ByteGroups.{slot_bytes}
use Rattle.trace_reduce.specs.Runs.{runs_from}
use Rattle.trace_reduce.specs.declared.byte_groups.TheConstants.{GROUP}
use Rattle.trace_reduce.proofs.runs.put_group.Goals as goal

pub returns : goal.returns
returns c =
    let long : length c.args.slots.now ≡ GROUP = search rules in
    subst
    (λ slots. OnOk c.put_slots.result ((later : List (ℕ × ℕ))
    → c.args.runs.now.effects.items
    ++ runs_from c.args.runs.now.start c.args.runs.now.run.items (slot_bytes (c.args.number * GROUP) slots ++ later)
    ≡ c.put_slots.new.runs.effects.items
    ++ runs_from c.put_slots.new.runs.start c.put_slots.new.runs.run.items later))
    (sym (take_all GROUP c.args.slots.now (omega (arith, long)))) c.put_slots.ensures
