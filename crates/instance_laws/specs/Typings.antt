-- Laws of renamed bodies: their trees, and their types.
use Rattle.std.specs.Prelude.{◌≡◌, ℕ, List, map, Some, true, option_map, slice_get}
use Rattle.wasm_syntax.specs.declared.values.ValType.{ValType}
use Rattle.wasm_syntax.specs.declared.signatures.FuncType.{FuncType}
use Rattle.wasm_syntax.specs.declared.signatures.GlobalType.{GlobalType}
use Rattle.wasm_syntax.specs.declared.instructions.Instr.{Instr}
use Rattle.wasm_syntax.specs.Nest.{Nest, nest_of}
use Rattle.wasm_syntax.specs.Typing.{Context, func_at, has_memory, has_table, is_declared, IsTyped}
use Rattle.instance_spec.specs.Instances.{Instance, resolved_instr}
use Rattle.instance_spec.specs.Renamed.{renamed_nest}

-- the context of a body whose indices are resolved: its own locals, labels and results, and all else that the numbers
-- name
abbrev pub context_in : (ctx outer : Context) → Context
context_in ctx outer = record outer { locals = ctx.locals; labels = ctx.labels; results = ctx.results }

-- what a body may name in the first context has in the second, under the number that the instance gives it, the type
-- that it has in the first
pub record KeepsTypes (i : Instance) (ctx outer : Context) : Type 0 where
  pub funcs : (f : ℕ) (ty : FuncType) → func_at ctx f ≡ Some ty → func_at outer (i.funcs f) ≡ Some ty
  pub types : (t : ℕ) (ty : FuncType) → slice_get ctx.types t ≡ Some ty
      → slice_get outer.types (i.types t) ≡ Some ty
  pub globals : (x : ℕ) (g : GlobalType) → slice_get ctx.globals x ≡ Some g
      → slice_get outer.globals (i.globals x) ≡ Some g
  pub tables : (x : ℕ) → has_table ctx x ≡ true → has_table outer x ≡ true
  pub memories : has_memory ctx ≡ true → has_memory outer ≡ true
  pub declared : (f : ℕ) → is_declared ctx f ≡ true → is_declared outer (i.funcs f) ≡ true

-- typings are kept if indices are resolved beforehand
abbrev pub TypingsAreKept : Type 0
TypingsAreKept =
    (i : Instance) (ctx outer : Context) (nest : Nest) (before after : List ValType)
    → KeepsTypes i ctx outer → IsTyped ctx nest before after
    → IsTyped (context_in ctx outer) (renamed_nest i nest) before after

-- a flat body whose instructions are resolved has the renamed tree of the body, if it has one
abbrev pub BodiesAreRenamed : Type 0
BodiesAreRenamed =
    (i : Instance) (body : List Instr)
    → nest_of (map (resolved_instr i) body) ≡ option_map (renamed_nest i) (nest_of body)
