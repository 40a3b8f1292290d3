-- An instrumented activation calls the renumbered function if the original's calls a function.
use Rattle.std.proofs.Common.{◌≡◌, ℕ, List, [], ◌∷◌, ◌++◌, length, take, Option, Some, None, Bool, true, false, slice_get, option_map, refl, sym, ap, subst}
use Rattle.std.proofs.lemmas.Option.{slice_get-map}
use Rattle.wasm_syntax.specs.declared.values.ValType.{ValType}
use Rattle.wasm_syntax.specs.declared.values.ValType.TheVariants.{I32}
use Rattle.wasm_syntax.specs.declared.values.Val.{Val}
use Rattle.wasm_syntax.specs.declared.signatures.FuncType.{FuncType}
use Rattle.wasm_syntax.specs.declared.instructions.Instr.{Instr}
use Rattle.wasm_syntax.specs.declared.instructions.Instr.TheVariants as instrs
use Rattle.wasm_syntax.specs.declared.modules.Module.{Module}
use Rattle.wasm_syntax.specs.Alike.{same_signature}
use Rattle.host_script.specs.declared.scripts.Script.{Script}
use Rattle.history_spec.specs.Store.{Store, Table}
use Rattle.history_spec.specs.Code.{signature}
use Rattle.history_spec.specs.Configuration.{Place, Frame}
use Rattle.history_spec.specs.Instruction.{Execution, Operands, on, pop, bits_at, takes, calls, calls_if, calls_entry, execute_plain}
use Rattle.record_replay_spec.specs.Hooks.{renumber, renumbered_table, renumbered_view}
use Rattle.record_replay_spec.specs.Instrumented.{renumbered}
use Rattle.instrumented_run_laws.proofs.FoundAlike as found
use Rattle.instrumented_run_laws.proofs.HookedProgram.{codes, HookedFacts}
use Rattle.instrumented_run_laws.proofs.Straight as straight
use Rattle.instrumented_run_laws.proofs.PieceFacts.{IsCallInstr, IsCalledAlike}

module _ (m : Module) (digest : List ℕ) (script : Script) (facts : HookedFacts m digest script) (outer : Frame)
    (more : List Val) (store : Store) (frame : Frame) (next here after : Place) where
  open (codes m digest script) use {n, code, hooked}

  abbrev second : Frame
  second = straight.larger n outer more frame here

  abbrev AreAlike : Execution → Execution → Type 0
  AreAlike = IsCalledAlike n outer more after

  -- two executions are alike if what the first looks up is found by the second
  found_alike : {X Y : Type 0} (o : Option X) (other : Option Y) (f : X → Y) (go : X → Execution)
      (go_other : Y → Execution) → ((x : X) → o ≡ Some x → other ≡ Some (f x))
      → ((x : X) → AreAlike (go x) (go_other (f x))) → AreAlike (on o go) (on other go_other)
  found_alike o other f go go_other there alike =
      found.found_alike AreAlike (λ o. on o go) (λ o. on o go_other) f o other there tt alike

  taken_alike : (types : List ValType) (go go_other : List Val → List Val → Execution)
      → ((operands rest : List Val) → AreAlike (go operands rest) (go_other operands rest))
      → AreAlike (takes frame types go) (takes second types go_other)
  taken_alike types go go_other alike = by (pop types frame.values)
    where
      by : (o : Option Operands) → AreAlike (on o (λ p. go p.operands p.rest)) (on o (λ p. go_other p.operands p.rest))
      by None = tt
      by (Some p) = alike p.operands p.rest

  direct : (func : ℕ)
      → AreAlike (execute_plain code store frame next (instrs.Call func))
      (execute_plain hooked (renumbered_view n store) second after (instrs.Call (renumber n func)))
  direct func =
      found_alike (signature code func) (signature hooked (renumber n func)) (λ ty. ty) _ _ (facts.signed func) (λ ty.
      taken_alike ty.params (λ operands rest. calls frame next operands rest None func operands)
      (λ operands rest. calls second after operands rest None (renumber n func) operands)
      (λ operands rest. (None, refl)))

  typed : (operands rest : List Val) (func : ℕ) (args : List Val) (b : Bool)
      → AreAlike (calls_if b frame next operands rest func args)
      (calls_if b second after operands rest (renumber n func) args)
  typed operands rest func args true = (Some (renumber n func), refl)
  typed operands rest func args false = (Some (renumber n func), refl)

  entered : (ty : FuncType) (table : Table) (operands rest : List Val) (o : Option (Option ℕ))
      → AreAlike (calls_entry code ty frame next table operands rest o)
      (calls_entry hooked ty second after (renumbered_table n table) operands rest
      (option_map (option_map (renumber n)) o))
  entered ty table operands rest None = (Some (length (renumbered_table n table).entries), refl)
  entered ty table operands rest (Some None) = (None, refl)
  entered ty table operands rest (Some (Some func)) =
      found_alike (signature code func) (signature hooked (renumber n func)) (λ ty. ty) _ _ (facts.signed func) (λ
      found.
      typed operands rest func (take (length ty.params) operands) (same_signature ty found))

  at_index : (ty : FuncType) (table : Table) (operands rest : List Val)
      → AreAlike
      (calls_entry code ty frame next table operands rest
      (slice_get table.entries (bits_at operands (length ty.params))))
      (calls_entry hooked ty second after (renumbered_table n table) operands rest
      (slice_get (renumbered_table n table).entries (bits_at operands (length ty.params))))
  at_index ty table operands rest =
      let index = bits_at operands (length ty.params) in
      subst
      (λ o. AreAlike (calls_entry code ty frame next table operands rest (slice_get table.entries index))
      (calls_entry hooked ty second after (renumbered_table n table) operands rest o))
      (sym (slice_get-map (option_map (renumber n)) table.entries index))
      (entered ty table operands rest (slice_get table.entries index))

  by_table : (t : ℕ)
      → AreAlike (execute_plain code store frame next (instrs.CallIndirect t))
      (execute_plain hooked (renumbered_view n store) second after (instrs.CallIndirect t))
  by_table t =
      found_alike (slice_get code.types t) (slice_get hooked.types t) (λ ty. ty) _ _ (facts.types t) (λ ty.
      found_alike store.table (option_map (renumbered_table n) store.table) (renumbered_table n) _ _
      (λ table there. ap (option_map (renumbered_table n)) there) (λ table.
      taken_alike (ty.params ++ I32 ∷ []) _ _ (λ operands rest. at_index ty table operands rest)))

  pub called_alike : (i : Instr) → IsCallInstr i
      → AreAlike (execute_plain code store frame next i)
      (execute_plain hooked (renumbered_view n store) second after (renumbered n i))
  called_alike (instrs.Call func) is = direct func
  called_alike (instrs.CallIndirect t) is = by_table t
  called_alike i is = absurd is
