-- The code of a replay module: the original's functions at their indices, and the generated ones.
use Rattle.std.specs.Prelude.{◌≡◌, ℕ, zero, suc, ◌+◌, ◌<◌, ◌≤◌, List, [], ◌∷◌, length, Some, slice_get}
use Rattle.std.specs.List.{slice_index_or}
use Rattle.wasm_syntax.specs.declared.values.ValType.{ValType}
use Rattle.wasm_syntax.specs.declared.values.ValType.TheVariants.{I32}
use Rattle.wasm_syntax.specs.declared.signatures.FuncType.{FuncType}
use Rattle.wasm_syntax.specs.declared.modules.Module.{Module}
use Rattle.wasm_syntax.specs.Nest.{Nest, Empty}
use Rattle.wasm_syntax.specs.Index.{imported_funcs, all_globals}
use Rattle.trace_model.specs.declared.tapes.Segment.{Segment}
use Rattle.history_spec.specs.Code.{Code, Definition, code_of, signature, definition}
use Rattle.record_replay_spec.specs.Executions.{Shares}
use Rattle.replay_module_spec.specs.declared.plans.Plan.{Plan}
use Rattle.replay_module_spec.specs.Dispatch.{sequence}
use Rattle.replay_module_spec.specs.Segments.{segments_code}
use Rattle.replay_module_spec.specs.Functions.{start_type, group_type, group_count, groups, group_nest, import_nest}
use Rattle.replay_module_spec.specs.Fragments.{start_index}

-- the index of the first group's function of an import, by the calls of the imports, if the first import's groups
-- begin at `first`
abbrev pub first_group : (first : ℕ) → List (List (List Segment)) → (import : ℕ) → ℕ
first_group first [] import = first
first_group first (calls ∷ more) zero = first
first_group first (calls ∷ more) (suc import) = first_group (first + group_count (length calls)) more import

-- a function has this type, these locals and this body
pub record IsDefined (code : Code) (func : ℕ) (ty : FuncType) (locals : List ValType) (body : Nest) : Type 0 where
  pub has_type : signature code func ≡ Some ty
  pub is : definition code func ≡ Some (record { locals = locals; body = body })

-- the function in an import's place, and those of its groups of calls, are defined in the code
pub record IsAnswered (m : Module) (plan : Plan) (code : Code) (import : ℕ) (ty : FuncType)
    (calls : List (List Segment)) : Type 0 where
  pub body : IsDefined code import ty (I32 ∷ [])
      (import_nest (length (all_globals m) + import) (length ty.params)
      (first_group (start_index m + 1) plan.imports import) (group_count (length calls)))
  pub group : (number : ℕ) (group : List (List Segment)) → slice_get (groups calls) number ≡ Some group
      → IsDefined code (first_group (start_index m + 1) plan.imports import + number) (group_type ty.results) []
      (group_nest m group)

-- the definition of the function in an import's place
abbrev pub import_definition : Module → Plan → (import : ℕ) → FuncType → Definition
import_definition m plan import ty =
    record {
      locals = I32 ∷ [];
      body =
          import_nest (length (all_globals m) + import) (length ty.params)
          (first_group (start_index m + 1) plan.imports import)
          (group_count (length (slice_index_or plan.imports import [])));
    }

-- the code of the replay module of a plan: it shares the original's functions, at their indices, and has the generated
-- ones
pub record IsReplayCode (m : Module) (plan : Plan) (code : Code) : Type 0 where
  pub shares : Shares (code_of m) code
  pub imported : code.imported ≡ 0
  pub originals : (func : ℕ) → imported_funcs m ≤ func → func < start_index m
      → definition code func ≡ definition (code_of m) func
  pub start : IsDefined code (start_index m) start_type [] (sequence (segments_code m plan.begin) Empty)
  pub answers : (import : ℕ) (ty : FuncType) → import < imported_funcs m → signature (code_of m) import ≡ Some ty
      → IsAnswered m plan code import ty (slice_index_or plan.imports import [])
