use Rattle.std.proofs.Common.{◌≡◌, ℕ, List, Bool, Result, Ok, Err, IfOk, Vec, Global, map, sym, subst}
use Rattle.std.specs.List.{list_all, range_with_len}
use Rattle.base.specs.declared.no_memory.NoMemory.{NoMemory}
use Rattle.wasm_syntax.specs.declared.signatures.FuncType.{FuncType}
use Rattle.script_text.specs.Actions.{takes_i32}
use Rattle.script_text.specs.CommonTypes.{HoldsFlags}
use Rattle.script_text.proofs.CommonTypes.{kept_for_first}
use Rattle.script_text.proofs.common_types.common_flags.Goals as goal

pub returns : goal.returns
returns c = by c.flags_up_to.result c.flags_up_to.ensures
  where
    types : List FuncType
    types = map (λ ty. ty.now) c.args.types.now

    -- for each number below a count, whether all types have the parameter as an i32
    flags : ℕ → List Bool
    flags count = map (λ number. list_all (takes_i32 number) types) (range_with_len 0 count)

    by : (r : Result (Vec Bool Global) NoMemory) → IfOk r (λ found. found.items ≡ flags c.count_of_first.result)
        → IfOk r (λ found. HoldsFlags found.items types)
    by (Ok found) h =
        subst (λ (items : List Bool). HoldsFlags items types) (sym h)
        (subst (λ (n : ℕ). HoldsFlags (flags n) types) (sym c.count_of_first.ensures) (kept_for_first types))
    by (Err e) h = h
