-- The hook calls that examples make, which are those of their originals' runs.
use Rattle.std.specs.Prelude.{◌≡◌, ℕ, List, [], ◌∷◌, map, Option, Some, None}
use Rattle.wasm_syntax.specs.declared.modules.Module.{Module}
use Rattle.host_script.specs.declared.scripts.Script.{Script}
use Rattle.history_spec.specs.Store.{Store}
use Rattle.record_replay_spec.specs.declared.hooks.Hook.TheVariants.{Arg, Enter, Leave, Pre, Post, Ipre, Ipost, Load, Store as ToStore, Size, Grow, Gget, Gset, Copy, Fill}
use Rattle.record_replay_spec.specs.Hooks.{HookCall, renumbered_call}
use Rattle.record_replay_spec.specs.Order.{shape_of, order_start, first_disorder}
use Rattle.worked_histories.specs.Build.{i32, script}
use Rattle.worked_histories.specs.Modules.{two_answers}
use Rattle.worked_histories.specs.Scripts.{five_seven}
use Rattle.host_script.specs.declared.scripts.Action.TheVariants.{Call}
use Rattle.worked_hooks.specs.Examples.{i64, hooked_two_answers, damaged, every_kind, hooked_every_kind, small_store}
use Rattle.worked_hooks.specs.Recordings.{calls_made, calls_reported, shown, shown_calls}

-- a store without memory, table and globals
abbrev pub empty_store : Store
empty_store = record { memory = None; table = None; globals = [] }

-- the host calls only the start function, and then function 1; the import is never called
abbrev pub calls_one : Script
calls_one = script [] (Call 1 [] ∷ [])

-- ---- the calls of the instrumented modules

-- the hook calls of two answers
abbrev pub TwoAnswersCalls : Type 0
TwoAnswersCalls =
    shown_calls (calls_made hooked_two_answers five_seven empty_store)
    ≡ shown Enter (i32 1 ∷ [])
    ∷ shown Pre (i32 0 ∷ []) ∷ shown Arg (i32 127 ∷ i64 5 ∷ []) ∷ shown Post (i32 0 ∷ [])
    ∷ shown Pre (i32 0 ∷ []) ∷ shown Arg (i32 127 ∷ i64 7 ∷ []) ∷ shown Post (i32 0 ∷ [])
    ∷ shown Leave (i32 1 ∷ []) ∷ []

-- the hook calls of `every_kind`
abbrev pub EveryKindCalls : Type 0
EveryKindCalls =
    shown_calls (calls_made hooked_every_kind calls_one (small_store 17))
    ≡ shown Enter (i32 2 ∷ []) ∷ shown Leave (i32 2 ∷ [])
    ∷ shown Enter (i32 1 ∷ [])
    ∷ shown ToStore (i32 8 ∷ i32 4 ∷ i32 8 ∷ i64 0x1122 ∷ [])
    ∷ shown Copy (i32 0 ∷ i32 12 ∷ i32 4 ∷ [])
    ∷ shown Fill (i32 3 ∷ i32 7 ∷ i32 2 ∷ [])
    ∷ shown Gget (i32 0 ∷ i64 0x7FC00001 ∷ [])
    ∷ shown Gset (i32 0 ∷ i64 0x7FC00001 ∷ [])
    ∷ shown Grow (i32 0 ∷ [])
    ∷ shown Size []
    ∷ shown Load (i32 0 ∷ i32 2 ∷ i32 4 ∷ [])
    ∷ shown Ipre (i32 0 ∷ [])
    ∷ shown Enter (i32 2 ∷ []) ∷ shown Leave (i32 2 ∷ [])
    ∷ shown Arg (i32 127 ∷ i64 7 ∷ []) ∷ shown Ipost []
    ∷ shown Leave (i32 1 ∷ []) ∷ []

-- ---- the calls, with their views, are those of the originals' runs

-- the hook calls of two answers are those of the original's run
abbrev pub TwoAnswersReported : Type 0
TwoAnswersReported =
    calls_made hooked_two_answers five_seven empty_store
    ≡ map (renumbered_call 1) (calls_reported two_answers five_seven empty_store)

-- the hook calls of `every_kind` are those of the original's run
abbrev pub EveryKindReported : Type 0
EveryKindReported =
    calls_made hooked_every_kind calls_one (small_store 17)
    ≡ map (renumbered_call 1) (calls_reported every_kind calls_one (small_store 2))

-- ---- order: the number of the first call out of order

-- the first call out of order of a module whose table has this number of entries
abbrev pub disorder : Module → (entries : ℕ) → List HookCall → Option ℕ
disorder hooked entries calls = first_disorder (shape_of 1 hooked) (order_start entries) 0 calls

-- the hook calls of two answers are in order
abbrev pub TwoAnswersInOrder : Type 0
TwoAnswersInOrder = disorder hooked_two_answers 0 (calls_made hooked_two_answers five_seven empty_store) ≡ None

-- the hook calls of `every_kind` are in order
abbrev pub EveryKindInOrder : Type 0
EveryKindInOrder = disorder hooked_every_kind 1 (calls_made hooked_every_kind calls_one (small_store 17)) ≡ None

-- the function is entered again at its end
abbrev pub EntersAtEnd : Type 0
EntersAtEnd = disorder (damaged 127 2) 0 (calls_made (damaged 127 2) five_seven empty_store) ≡ Some 7

-- a hook reports the byte of a reference's type for the first answer
abbrev pub ReportsReference : Type 0
ReportsReference = disorder (damaged 111 3) 0 (calls_made (damaged 111 3) five_seven empty_store) ≡ Some 2

-- a call by the table, whose entry is this function of the instrumented module
abbrev pub calls_by_table : (func : ℕ) → List HookCall
calls_by_table func =
    record { kind = Enter; args = i32 1 ∷ []; view = small_store func }
    ∷ record { kind = Ipre; args = i32 0 ∷ []; view = small_store func } ∷ []

-- the entry is a function of the module
abbrev pub FunctionInTable : Type 0
FunctionInTable = disorder hooked_every_kind 1 (calls_by_table 17) ≡ None

-- the entry is a hook
abbrev pub HookInTable : Type 0
HookInTable = disorder hooked_every_kind 1 (calls_by_table 15) ≡ Some 1

-- the entry is a function that the module does not have
abbrev pub NoFunctionInTable : Type 0
NoFunctionInTable = disorder hooked_every_kind 1 (calls_by_table 18) ≡ Some 1

-- the table is smaller than before
abbrev pub TableSmaller : Type 0
TableSmaller = disorder hooked_every_kind 2 (calls_by_table 17) ≡ Some 1

-- the examples make these hook calls, in order or out of it
pub record HookCallExamples : Type 0 where
  pub two_answers_calls : TwoAnswersCalls
  pub every_kind_calls : EveryKindCalls
  pub two_answers_reported : TwoAnswersReported
  pub every_kind_reported : EveryKindReported
  pub two_answers_in_order : TwoAnswersInOrder
  pub every_kind_in_order : EveryKindInOrder
  pub enters_at_end : EntersAtEnd
  pub reports_reference : ReportsReference
  pub function_in_table : FunctionInTable
  pub hook_in_table : HookInTable
  pub no_function_in_table : NoFunctionInTable
  pub table_smaller : TableSmaller
