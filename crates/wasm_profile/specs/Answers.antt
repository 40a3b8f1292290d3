-- What the results of this crate mean.
use Rattle.std.specs.Prelude.{ℕ, List, Option, Some, None, Result, Ok, Err, flat_map}
use Rattle.wasm_profile.specs.declared.faults.ProfileFault.{ProfileFault}
use Rattle.wasm_profile.specs.declared.faults.ProfileFault.TheVariants as faults
use Rattle.wasm_syntax.specs.Profile.{Refusal, Unsupported, Limit, Reserved, past, refused_in}
use Rattle.wasm_syntax.specs.Index.{table_import, memory_import}
use Rattle.wasm_syntax.specs.declared.modules.Func.{Func}
use Rattle.wasm_syntax.specs.declared.modules.ImportKind.{ImportKind}
use Rattle.wasm_syntax.specs.declared.signatures.Limits.{Limits}
use Rattle.wasm_syntax.specs.declared.profile.Which.{Which}
use Rattle.wasm_syntax.specs.declared.profile.Which.TheVariants.{Table, Memory}

-- the refusal that a fault names
abbrev pub refusal_of : ProfileFault → Refusal
refusal_of (faults.Unsupported func number feature) = Unsupported func number feature
refusal_of (faults.Limit which value) = Limit which value
refusal_of (faults.Reserved import) = Reserved import

-- the refusal that a result names, if it is one
abbrev pub refusal_in : Result (Unit {0}) ProfileFault → Option Refusal
refusal_in (Ok taken) = None
refusal_in (Err fault) = Some (refusal_of fault)

-- the limits that an import declares, of a table or of a memory
abbrev pub limits_import : Which → ImportKind → Option Limits
limits_import Table = table_import
limits_import Memory = memory_import
limits_import other = λ kind. None

-- the refusal of a minimum that is more than the most that is allowed
abbrev pub past_minimum : (most : ℕ) → Which → Limits → Option Refusal
past_minimum most which limits = past most which limits.min

-- the refusal of each refused instruction of functions with their indices
abbrev pub refused_of_all : List (ℕ × Func) → List Refusal
refused_of_all = flat_map (λ (f : ℕ × Func). refused_in f.0 f.1)
