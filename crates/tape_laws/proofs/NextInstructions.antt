-- The next instruction of a body, and when it may trap or call.
use Rattle.std.proofs.Common.{◌≡◌, ℕ, List, [], Option, Some, None, refl, ap, inl, inr}
use Rattle.std.specs.Prelude.{◌⊎◌}
use Rattle.std.proofs.lemmas.Option.{none-some, same_Some}
use Rattle.wasm_syntax.specs.declared.values.Val.{Val}
use Rattle.wasm_syntax.specs.declared.instructions.Instr.{Instr}
use Rattle.wasm_syntax.specs.declared.instructions.Instr.TheVariants as instrs
use Rattle.wasm_syntax.specs.Nest.{Nest, Plain}
use Rattle.history_spec.specs.Store.{Store, Table}
use Rattle.record_replay_spec.specs.Observations.{nest_observations, plain_observations}
use Rattle.record_replay_spec.specs.Known.{entry_of}
use Rattle.record_replay_spec.specs.ReportedCalls.{next_of_nest}
use Rattle.tape_laws.proofs.CoreFrames.{IsNoCall, IsNotDirect}

-- an instruction that traps is a call by the table or calls nothing
pub trap_kind : (o : Option Instr) → IsNotDirect o → ((t : ℕ) × (o ≡ Some (instrs.CallIndirect t))) ⊎ IsNoCall o
trap_kind None h = inr tt
trap_kind (Some (instrs.Call func)) h = absurd h
trap_kind (Some (instrs.CallIndirect t)) h = inl (t, refl)
trap_kind (Some i) h = inr tt

pub call_silent : (store : Store) (values : List Val) (nest : Nest) (callee : ℕ)
    → next_of_nest nest ≡ Some (instrs.Call callee) → nest_observations store values nest ≡ []
call_silent store values (Plain i rest) callee h =
    ap (plain_observations store values) (same_Some i (instrs.Call callee) h)
call_silent store values nest callee h = absurd (none-some (instrs.Call callee) h)

pub indirect_nest : (nest : Nest) (t : ℕ) → next_of_nest nest ≡ Some (instrs.CallIndirect t)
    → (rest : Nest) × (nest ≡ Plain (instrs.CallIndirect t) rest)
indirect_nest (Plain i rest) t h = (rest, ap (λ j. Plain j rest) (same_Some i (instrs.CallIndirect t) h))
indirect_nest nest t h = absurd (none-some (instrs.CallIndirect t) h)

pub table_there : (o : Option Table) (index callee : ℕ) → entry_of o index ≡ Some callee → (table : Table) × (o ≡ Some table)
table_there None index callee h = absurd (none-some callee h)
table_there (Some table) index callee h = (table, refl)
