-- Example modules have the form Core.
use Rattle.std.proofs.Common.{List}
use Rattle.wasm_syntax.specs.declared.instructions.Instr.{Instr}
use Rattle.wasm_syntax.specs.Encoding.Forms.{AreCoreInstrs, IsCoreModule}
use Rattle.worked_histories.specs.Modules.{overwrite, grow_access, nested_call, table_funcs, table_entry, table_growth, float_global}

pub overwrite_core : IsCoreModule overwrite
overwrite_core = record { funcs = ((tt, (tt, (tt, (tt, (tt, (tt, (tt, tt))))))), tt); globals = tt; elems = tt; datas = tt }

pub grow_access_core : IsCoreModule grow_access
grow_access_core = record { funcs = ((tt, (tt, (tt, (tt, (tt, tt))))), tt); globals = tt; elems = tt; datas = tt }

pub nested_call_core : IsCoreModule nested_call
nested_call_core = record { funcs = ((tt, (tt, (tt, (tt, (tt, tt))))), ((tt, (tt, tt)), tt)); globals = tt; elems = tt; datas = tt }

-- a module like `table_entry`, with another body of its first function
table_core : (body : List Instr) → AreCoreInstrs body → IsCoreModule (record table_entry { funcs = table_funcs body })
table_core body core = record { funcs = (core, ((tt, (tt, tt)), ((tt, tt), tt))); globals = tt; elems = ((tt, (tt, tt)), tt); datas = tt }

pub table_entry_core : IsCoreModule table_entry
table_entry_core = table_core _ (tt, (tt, (tt, (tt, tt))))

pub table_growth_core : IsCoreModule table_growth
table_growth_core = table_core _ (tt, (tt, (tt, (tt, tt))))

pub float_global_core : IsCoreModule float_global
float_global_core = record { funcs = ((tt, (tt, (tt, tt))), tt); globals = ((tt, (tt, tt)), tt); elems = tt; datas = tt }
