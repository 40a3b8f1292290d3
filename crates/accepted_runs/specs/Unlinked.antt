-- Why a module does not link with a script, as the fault of a call.
use Rattle.std.specs.Prelude.{◌≡◌, ◌≢◌, Err}
use Rattle.wasm_syntax.specs.declared.modules.Module.{Module}
use Rattle.host_script.specs.declared.scripts.Script.{Script}
use Rattle.host_script.specs.declared.scripts.LinkFault.{LinkFault}
use Rattle.host_script.specs.declared.scripts.LinkFault.TheVariants as link
use Rattle.history_spec.specs.Run.{run_start}
use Rattle.r3_faults.specs.declared.faults.Fault.{Fault}
use Rattle.r3_faults.specs.declared.faults.Fault.TheVariants.{Missing, Mismatch, Segment, Memory}

-- the fault that names why a module does not link
abbrev pub link_fault : LinkFault → Fault
link_fault (link.Missing import) = Missing import
link_fault (link.Mismatch import) = Mismatch import
link_fault (link.Segment number) = Segment number
link_fault link.Memory = Memory

-- the module does not link
pub record IsUnlinkedFor (m : Module) (script : Script) (fault : Fault) : Type 0 where
  pub found : LinkFault
  pub named : fault ≡ link_fault found
  pub differs : found ≢ link.Memory
  pub unopened : run_start m script ≡ Err found
