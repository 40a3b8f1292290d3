-- The contexts of generated code, and the typing of single instructions in them.
use Rattle.std.proofs.Common.{◌≡◌, ℕ, ◌^◌, ◌<◌, List, [], ◌∷◌, ◌++◌, length, Some, true, refl, sym, ap, ◌∙◌, subst, arith}
use Rattle.std.specs.Prelude.{map, replicate, reverse, slice_get}
use Rattle.std.specs.List.{AllByRecursion}
use Rattle.std.proofs.lemmas.Bool.Decides.{nat_tests}
use Rattle.std.proofs.lemmas.List.{append_assoc, reverse-append}
use Rattle.wasm_syntax.specs.declared.values.Val.{Val}
use Rattle.wasm_syntax.specs.declared.values.ValType.{ValType}
use Rattle.wasm_syntax.specs.declared.signatures.FuncType.{FuncType}
use Rattle.wasm_syntax.specs.declared.signatures.GlobalType.{GlobalType}
use Rattle.wasm_syntax.specs.declared.instructions.Instr.{Instr}
use Rattle.wasm_syntax.specs.declared.instructions.Instr.TheVariants.{Const, Drop}
use Rattle.wasm_syntax.specs.declared.modules.Module.{Module}
use Rattle.wasm_syntax.specs.Nest.{Nest, Plain}
use Rattle.wasm_syntax.specs.Index.{all_globals, all_memories, all_tables, func_indices, func_type}
use Rattle.wasm_syntax.specs.Typing.{Context, InstrType, IsTyped, Leads, Moves, func_at, has_memory, has_table, if_true, instr_type, is_constant, is_declared}
use Rattle.trace_model.specs.Fitting.{types_of}
use Rattle.history_spec.specs.Code.{i32_value}
use Rattle.replay_module_spec.specs.Dispatch.{sequence}

-- a context contains what the original contains, and declares the original's functions
pub record Serves (m : Module) (ctx : Context) : Type 0 where
  pub funcs : (func : ℕ) (ty : FuncType) → func_type m func ≡ Some ty → func_at ctx func ≡ Some ty
  pub table : 0 < length (all_tables m) → has_table ctx 0 ≡ true
  pub memory : 0 < length (all_memories m) → has_memory ctx ≡ true
  pub globals : (x : ℕ) (g : GlobalType) → slice_get (all_globals m) x ≡ Some g → slice_get ctx.globals x ≡ Some g
  pub declared : (func : ℕ) → func < length (func_indices m) → is_declared ctx func ≡ true

pub number_typed : (number : ℕ) → number < 2 ^ 32 → is_constant (i32_value number) ≡ true
number_typed number small = grind (arith, nat_tests, small)

-- the stack after values are pushed
abbrev pub stacked : List Val → List ValType → List ValType
stacked [] before = before
stacked (value ∷ values) before = stacked values (value.ty ∷ before)

pub stacked_is : (values : List Val) (before : List ValType)
    → stacked values before ≡ reverse (types_of values) ++ before
stacked_is [] before = refl
stacked_is (value ∷ values) before =
    stacked_is values (value.ty ∷ before)
    ∙ sym (append_assoc (reverse (types_of values)) (value.ty ∷ []) before)
    ∙ ap (λ l. l ++ before) (sym (reverse-append (value.ty ∷ []) (types_of values)))

module _ (ctx : Context) where
  -- an instruction of a type, and the instructions after it
  pub led : (i : Instr) (ty : InstrType) (rest : Nest) (before middle after : List ValType)
      → instr_type ctx i ≡ Some ty → Leads ctx (Some ty) before middle → IsTyped ctx rest middle after
      → IsTyped ctx (Plain i rest) before after
  led i ty rest before middle after e leads later =
      (middle, subst (λ o. Leads ctx o before middle) (sym e) leads, later)

  pub moved : (i : Instr) (operands results below : List ValType) (rest : Nest) (after : List ValType)
      → instr_type ctx i ≡ Some (Moves operands results) → IsTyped ctx rest (results ++ below) after
      → IsTyped ctx (Plain i rest) (operands ++ below) after
  moved i operands results below rest after e later =
      led i (Moves operands results) rest (operands ++ below) (results ++ below) after e
      (record { below = below; had = refl; left = refl }) later

  pub constant_typed : (value : Val) (below : List ValType) (rest : Nest) (after : List ValType)
      → is_constant value ≡ true → IsTyped ctx rest (value.ty ∷ below) after
      → IsTyped ctx (Plain (Const value) rest) below after
  constant_typed value below rest after is later =
      moved (Const value) [] (value.ty ∷ []) below rest after (ap (λ b. if_true b (Moves [] (value.ty ∷ []))) is) later

  pub dropped : (ty : ValType) (below : List ValType) (rest : Nest) (after : List ValType) → IsTyped ctx rest below after
      → IsTyped ctx (Plain Drop rest) (ty ∷ below) after
  dropped ty below rest after later = (below, record { ty = ty; had = refl }, later)

  pub constants_typed : (values : List Val) (code : List Instr) (rest : Nest) (before after : List ValType)
      → AllByRecursion (λ v. is_constant v ≡ true) values → IsTyped ctx (sequence code rest) (stacked values before) after
      → IsTyped ctx (sequence (map Const values ++ code) rest) before after
  constants_typed [] code rest before after are later = later
  constants_typed (value ∷ values) code rest before after are later =
      constant_typed value before (sequence (map Const values ++ code) rest) after are.0
      (constants_typed values code rest (value.ty ∷ before) after are.1 later)

  pub drops_typed : (types : List ValType) (code : List Instr) (rest : Nest) (before after : List ValType)
      → IsTyped ctx (sequence code rest) before after
      → IsTyped ctx (sequence (replicate (length types) Drop ++ code) rest) (types ++ before) after
  drops_typed [] code rest before after later = later
  drops_typed (ty ∷ types) code rest before after later =
      dropped ty (types ++ before) (sequence (replicate (length types) Drop ++ code) rest) after
      (drops_typed types code rest before after later)
