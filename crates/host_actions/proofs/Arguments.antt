-- Arguments that an action names.
use Rattle.wasm_syntax.specs.declared.values.ValType.TheVariants.{I32}
use Rattle.host_script.specs.declared.scripts.Address.TheVariants.{Fixed, Arg}
use Rattle.host_script.specs.declared.scripts.Action.TheVariants.{Write, Copy, SetTable, SetGlobal, Grow, GrowTable, Call, CallTable}
use Rattle.type_safety.specs.Stores.{func_count}
use Rattle.type_safety.proofs.Values.{value_at}
use Rattle.host_actions.specs.Ready.{FittingArgumentIsThere, FittingArgumentsAreThere}

pub argument_there : FittingArgumentIsThere
argument_there funcs params args (Fixed address) are fits = tt
argument_there funcs params args (Arg number plus) are fits =
    let found = value_at funcs params args number I32 are fits in
    (found.0, found.1, found.2.in_range)

pub arguments_there : FittingArgumentsAreThere
arguments_there m params args (Write to bytes) are fits = argument_there (func_count m) params args to are fits.1
arguments_there m params args (Copy to source count) are fits = (
  argument_there (func_count m) params args to are fits.1,
  argument_there (func_count m) params args source are
      fits.2,
)
arguments_there m params args (SetTable index func) are fits = tt
arguments_there m params args (SetGlobal global value) are fits = tt
arguments_there m params args (Grow by) are fits = tt
arguments_there m params args (GrowTable by) are fits = tt
arguments_there m params args (Call func given) are fits = tt
arguments_there m params args (CallTable index given) are fits = tt
