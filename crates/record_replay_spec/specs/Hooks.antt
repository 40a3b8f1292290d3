-- Hooks: functions that an instrumented module imports, to which it reports what it does.
use Rattle.std.specs.Prelude.{ℕ, ◌+◌, ◌-◌, List, [], ◌∷◌, length, map, Option, Some, None, cond, nat_lt, option_map, codes}
use Rattle.wasm_syntax.specs.declared.values.ValType.{ValType}
use Rattle.wasm_syntax.specs.declared.values.ValType.TheVariants.{I32, I64}
use Rattle.wasm_syntax.specs.declared.values.Val.{Val}
use Rattle.wasm_syntax.specs.declared.signatures.FuncType.{FuncType}
use Rattle.history_spec.specs.Store as stores
use Rattle.record_replay_spec.specs.declared.hooks.Hook.{Hook}
use Rattle.record_replay_spec.specs.declared.hooks.Hook.TheVariants.{Arg, Enter, Leave, Pre, Post, Ipre, Ipost, Load, Store, Size, Grow, Gget, Gset, Copy, Fill}

-- the hooks in the order of their imports
abbrev pub hooks : List Hook
hooks = Arg ∷ Enter ∷ Leave ∷ Pre ∷ Post ∷ Ipre ∷ Ipost ∷ Load ∷ Store ∷ Size ∷ Grow ∷ Gget ∷ Gset ∷ Copy ∷ Fill ∷ []

-- the number of hooks
abbrev pub hook_count : ℕ
hook_count = length hooks

-- the place of a hook in the order of imports
abbrev pub hook_place : Hook → ℕ
hook_place Arg = 0
hook_place Enter = 1
hook_place Leave = 2
hook_place Pre = 3
hook_place Post = 4
hook_place Ipre = 5
hook_place Ipost = 6
hook_place Load = 7
hook_place Store = 8
hook_place Size = 9
hook_place Grow = 10
hook_place Gget = 11
hook_place Gset = 12
hook_place Copy = 13
hook_place Fill = 14

-- the name by which a hook is imported
abbrev pub hook_name : Hook → List ℕ
hook_name Arg = codes "arg"
hook_name Enter = codes "enter"
hook_name Leave = codes "leave"
hook_name Pre = codes "pre"
hook_name Post = codes "post"
hook_name Ipre = codes "ipre"
hook_name Ipost = codes "ipost"
hook_name Load = codes "load"
hook_name Store = codes "store"
hook_name Size = codes "size"
hook_name Grow = codes "grow"
hook_name Gget = codes "gget"
hook_name Gset = codes "gset"
hook_name Copy = codes "copy"
hook_name Fill = codes "fill"

-- the module from which hooks are imported
abbrev pub hook_module : List ℕ
hook_module = codes "r3"

-- The types of a hook's parameters: a type's byte and bits; a function, an index or a result; base, offset and width,
-- and for a store its bits too; a global and its bits; target, source or value, and count.
abbrev pub hook_params : Hook → List ValType
hook_params Arg = I32 ∷ I64 ∷ []
hook_params Enter = I32 ∷ []
hook_params Leave = I32 ∷ []
hook_params Pre = I32 ∷ []
hook_params Post = I32 ∷ []
hook_params Ipre = I32 ∷ []
hook_params Ipost = []
hook_params Load = I32 ∷ I32 ∷ I32 ∷ []
hook_params Store = I32 ∷ I32 ∷ I32 ∷ I64 ∷ []
hook_params Size = []
hook_params Grow = I32 ∷ []
hook_params Gget = I32 ∷ I64 ∷ []
hook_params Gset = I32 ∷ I64 ∷ []
hook_params Copy = I32 ∷ I32 ∷ I32 ∷ []
hook_params Fill = I32 ∷ I32 ∷ I32 ∷ []

-- the type of a hook, which has no results
abbrev pub hook_type : Hook → FuncType
hook_type kind = record { params = hook_params kind; results = [] }

-- ---- indices of functions, if the original imports `n`: the hooks are between imports and defined functions

-- the index of a hook in the instrumented module
abbrev pub hook_func : (n : ℕ) → Hook → ℕ
hook_func n kind = n + hook_place kind

-- the index in the instrumented module of a function of the original
abbrev pub renumber : (n func : ℕ) → ℕ
renumber n func = cond (nat_lt func n) func (func + hook_count)

-- the index in the original of a function of the instrumented module; a hook has none
abbrev pub original : (n func : ℕ) → Option ℕ
original n func = cond (nat_lt func n) (Some func) (cond (nat_lt func (n + hook_count)) None (Some (func - hook_count)))

-- ---- calls

-- a hook call: the hook, its arguments, and the store at the time of the call, its view
pub record HookCall : Type 0 where
  pub kind : Hook
  pub args : List Val
  pub view : stores.Store

-- a table with its functions renumbered
abbrev pub renumbered_table : (n : ℕ) → stores.Table → stores.Table
renumbered_table n table = record table { entries = map (option_map (renumber n)) table.entries }

-- a view of the original's store, as the instrumented module has it
abbrev pub renumbered_view : (n : ℕ) → stores.Store → stores.Store
renumbered_view n store = record store { table = option_map (renumbered_table n) store.table }

-- a hook call of the original's run, as the instrumented module makes it
abbrev pub renumbered_call : (n : ℕ) → HookCall → HookCall
renumbered_call n call = record call { view = renumbered_view n call.view }

-- ---- lists made from optional values

-- the list made from an optional value, empty if there is no value
abbrev pub on : {X Y : Type 0} → Option X → (X → List Y) → List Y
on None make = []
on (Some x) make = make x
