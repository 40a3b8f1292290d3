-- Configurations that are well typed for a module (Core 1.0, appendix 7.5, "Configuration Validity").
use Rattle.std.specs.Prelude.{◌≡◌, ℕ, ◌<◌, ◌≤◌, List, [], ◌∷◌, length, reverse, Some}
use Rattle.wasm_syntax.specs.declared.values.ValType.{ValType}
use Rattle.wasm_syntax.specs.declared.signatures.FuncType.{FuncType}
use Rattle.wasm_syntax.specs.declared.modules.Module.{Module}
use Rattle.wasm_syntax.specs.Nest.{Nest, Empty, Plain, InBlock, InLoop, InIf, InIfElse}
use Rattle.wasm_syntax.specs.Index.{imported_funcs}
use Rattle.host_script.specs.Fits.{FitActions, FitsEnd, FitAnswers}
use Rattle.history_spec.specs.Code.{Definition, code_of, signature, definition}
use Rattle.history_spec.specs.Configuration.{place, Activation, InModule, InMain, InImport, Config}
use Rattle.history_spec.specs.Step.{Program, Progress, Running, Finished, Faulted, Stuck}
use Rattle.type_safety.specs.Values.{AreValues}
use Rattle.type_safety.specs.Stores.{func_count, IsStore}
use Rattle.type_safety.specs.Heights.{Heights}
use Rattle.type_safety.specs.Frames.{Scope, IsCode, IsFrame}

-- a function of a module with its heights
abbrev pub scope : Module → Heights → ℕ → FuncType → Definition → Scope
scope m heights func ty body =
    record { m = m; func = func; ty = ty; body = body; heights = heights func }

-- each function has a type, and the body of each defined one is typed with these heights
pub record IsTypedCode (m : Module) (heights : Heights) : Type 0 where
  pub has_type : (func : ℕ) → func < func_count m → (ty : FuncType) × (signature (code_of m) func ≡ Some ty)
  pub bodies : (func : ℕ) (ty : FuncType) → imported_funcs m ≤ func → signature (code_of m) func ≡ Some ty
      → (body : Definition) × (definition (code_of m) func ≡ Some body)
      × IsCode (scope m heights func ty body) [] (place body.body 0) 0 [] (reverse ty.results)

-- an imported function, with its type
pub record IsImportCall (m : Module) (import : ℕ) (ty : FuncType) : Type 0 where
  pub imported : import < imported_funcs m
  pub has_type : signature (code_of m) import ≡ Some ty

-- activations, the topmost first, that accept results of these types, or that go on without results if there are no
-- types: the module accepts exactly these, the host any
abbrev pub Accept : Module → Heights → List Activation → List ValType → Type 0
Accept m heights [] results = ⊥
Accept m heights (InModule frame ∷ below) results =
    (ty : FuncType) × (body : Definition)
    × IsFrame (scope m heights frame.func ty body) results frame × Accept m heights below ty.results
Accept m heights (InMain actions ∷ below) results = FitActions m [] actions × (below ≡ [])
Accept m heights (InImport import args actions «end» ∷ below) results =
    (ty : FuncType) × IsImportCall m import ty × AreValues (func_count m) ty.params args
    × FitActions m ty.params actions × FitsEnd ty.results «end» × Accept m heights below ty.results

-- the sequence begins with an instruction
abbrev pub IsGoing : Nest → Type 0
IsGoing Empty = ⊥
IsGoing (Plain i rest) = Unit {0}
IsGoing (InBlock ty body rest) = Unit {0}
IsGoing (InLoop ty body rest) = Unit {0}
IsGoing (InIf ty body rest) = Unit {0}
IsGoing (InIfElse ty body other rest) = Unit {0}

-- control is before an instruction or an action of the topmost activation
abbrev pub IsAtStep : List Activation → Type 0
IsAtStep [] = ⊥
IsAtStep (InModule frame ∷ below) = IsGoing frame.at.rest
IsAtStep (InMain actions ∷ below) = 0 < length actions
IsAtStep (InImport import args actions «end» ∷ below) = 0 < length actions

-- a configuration from which a run goes on is well typed (Core 1.0, 7.5)
pub record IsConfig (m : Module) (heights : Heights) (config : Config) : Type 0 where
  pub store : IsStore m config.store
  pub stack : Accept m heights config.stack []
  pub at_step : IsAtStep config.stack
  pub counts : length config.counts ≡ imported_funcs m

-- a run goes on from a well-typed configuration, or it is over and not stuck
abbrev pub IsSafe : Module → Heights → Progress → Type 0
IsSafe m heights (Running config) = IsConfig m heights config
IsSafe m heights (Finished outcome) = Unit {0}
IsSafe m heights (Faulted kind) = Unit {0}
IsSafe m heights Stuck = ⊥

-- a program that consists of the module's code and answers of the host that fit the module
pub record IsProgram (m : Module) (program : Program) : Type 0 where
  pub code : program.code ≡ code_of m
  pub answers : FitAnswers m program.answers
