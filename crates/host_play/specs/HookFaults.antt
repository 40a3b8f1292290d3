-- Why hooks refuse a call, as the result of a run.
use Rattle.hook_names.specs.declared.hooks.HookFault.{HookFault}
use Rattle.hook_names.specs.declared.hooks.HookFault.TheVariants as hook
use Rattle.host_play.specs.declared.results.PlayFault.{PlayFault}
use Rattle.host_play.specs.declared.results.PlayFault.TheVariants as refusal

abbrev pub fault_of_hook : HookFault → PlayFault
fault_of_hook (hook.Order number) = refusal.Hook number
fault_of_hook hook.Memory = refusal.Memory
