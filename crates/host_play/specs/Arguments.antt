-- Addresses that name arguments of the call that is answered, as the machine has them.
use Rattle.std.specs.Prelude.{◌≡◌, ℕ, ◌+◌, ◌^◌, ◌<◌, Some}
use Rattle.wasm_syntax.specs.declared.values.Val.{Val}
use Rattle.host_script.specs.declared.scripts.Address.{Address}
use Rattle.host_script.specs.declared.scripts.Address.TheVariants.{Fixed, Arg}
use Rattle.host_script.specs.declared.scripts.Action.{Action}
use Rattle.host_script.specs.declared.scripts.Action.TheVariants.{Write, Copy}
use Rattle.host_actions.specs.declared.addresses.Addresses.{Addresses}
use Rattle.wasm_interp.specs.Frames.{argument_of}
use Rattle.wasm_interp.specs.State.{State, IsWaiting}

-- the machine waits at a call that has this argument, of 32 bits
pub record HasArgument (machine : State) (number : ℕ) : Type 0 where
  pub waits : IsWaiting machine.flat machine.frames
  pub value : Val
  pub there : argument_of machine.flat machine.frames machine.slots number ≡ Some value
  pub small : value.bits < 2 ^ 32

-- an address is a fixed one, or the argument that it names exists
abbrev pub IsKnown : State → Address → Type 0
IsKnown machine (Fixed at) = Unit {0}
IsKnown machine (Arg number plus) = HasArgument machine number

abbrev pub AreKnown : State → Action → Type 0
AreKnown machine (Write to bytes) = IsKnown machine to
AreKnown machine (Copy to source count) = IsKnown machine to × IsKnown machine source
AreKnown machine other = Unit {0}

-- the address that an address of a script denotes, by that argument
abbrev pub IsRead : State → Address → (at : ℕ) → Type 0
IsRead machine (Fixed address) at = at ≡ address
IsRead machine (Arg number plus) at =
    (value : Val) → argument_of machine.flat machine.frames machine.slots number ≡ Some value → at ≡ value.bits + plus

abbrev pub AreRead : State → Action → Addresses → Type 0
AreRead machine (Write to bytes) addresses = IsRead machine to addresses.to
AreRead machine (Copy to source count) addresses =
    IsRead machine to addresses.to × IsRead machine source addresses.source
AreRead machine other addresses = Unit {0}
