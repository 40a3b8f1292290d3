-- The calls of a typed body are of functions that exist.
use Rattle.std.proofs.Common.{◌≡◌, ℕ, ◌<◌, ◌≤◌, List, [], ◌∷◌, ◌++◌, length, Option, Some, None, IsTrue, All, refl, arith}
use Rattle.std.specs.Prelude.{slice_get, option_map, option_and_then}
use Rattle.std.proofs.lemmas.Bool.{lt-ltb}
use Rattle.std.proofs.lemmas.List.Elements.{All-nil, All-cons, All-append}
use Rattle.std.proofs.lemmas.Option.{slice_get_within}
use Rattle.wasm_syntax.specs.declared.values.ValType.{ValType}
use Rattle.wasm_syntax.specs.declared.signatures.FuncType.{FuncType}
use Rattle.wasm_syntax.specs.declared.instructions.Instr.{Instr}
use Rattle.wasm_syntax.specs.declared.instructions.Instr.TheVariants.{Block, Loop, If, Else, End, Call}
use Rattle.wasm_syntax.specs.Nest.{Nest, Empty, Plain, InBlock, InLoop, InIf, InIfElse, flat}
use Rattle.wasm_syntax.specs.Typing.{Context, Leads, IsTyped, call_of, func_at, inside, instr_type, results_of}
use Rattle.hook_insert.specs.Rounds.{is_call_within}

module _ (count : ℕ) where
  abbrev Within : Instr → Type 0
  Within i = IsTrue (is_call_within count i)

  -- a block's instructions and what follows it
  closed : (opening : Instr) (first : List Instr) (close : Instr) (rest : List Instr)
      → Within opening → Within close → All Within first → All Within rest → All Within (opening ∷ (first ++ close ∷ rest))
  closed opening first close rest a b firsts rests =
      All-cons Within opening (first ++ close ∷ rest) a
      (All-append Within first (close ∷ rest) firsts (All-cons Within close rest b rests))

  -- a function that has a type exists
  func_there : (ctx : Context) (func : ℕ) (index : Option ℕ) (ty : FuncType) → slice_get ctx.funcs func ≡ index
      → option_and_then (slice_get ctx.types) index ≡ Some ty → func < length ctx.funcs
  func_there ctx func None ty is found = cc
  func_there ctx func (Some at) ty is found = slice_get_within ctx.funcs func at is

  call_within : (ctx : Context) (before after : List ValType) (func : ℕ) (found : Option FuncType)
      → length ctx.funcs ≤ count → func_at ctx func ≡ found → Leads ctx (option_map call_of found) before after
      → Within (Call func)
  call_within ctx before after func None few is leads = absurd leads
  call_within ctx before after func (Some ty) few is leads =
      let there : func < length ctx.funcs = func_there ctx func (slice_get ctx.funcs func) ty refl is in
      lt-ltb func count (omega (arith, there, few))

  instr_within : (ctx : Context) (before after : List ValType) (i : Instr) → length ctx.funcs ≤ count
      → Leads ctx (instr_type ctx i) before after → Within i
  instr_within ctx before after (Call func) few leads = call_within ctx before after func (func_at ctx func) few refl leads
  instr_within ctx before after i few leads = refl

  pub calls_within : (ctx : Context) (nest : Nest) (before after : List ValType) → length ctx.funcs ≤ count
      → IsTyped ctx nest before after → All Within (flat nest)
  calls_within ctx Empty before after few typed = All-nil Within
  calls_within ctx (Plain i rest) before after few typed =
      All-cons Within i (flat rest) (instr_within ctx before typed.0 i few typed.1)
      (calls_within ctx rest typed.0 after few typed.2)
  calls_within ctx (InBlock ty body rest) before after few typed =
      closed (Block ty) (flat body) End (flat rest) refl refl
      (calls_within (inside (results_of ty) ctx) body [] (results_of ty) few typed.1)
      (calls_within ctx rest (results_of ty ++ before) after few typed.2)
  calls_within ctx (InLoop ty body rest) before after few typed =
      closed (Loop ty) (flat body) End (flat rest) refl refl
      (calls_within (inside [] ctx) body [] (results_of ty) few typed.1)
      (calls_within ctx rest (results_of ty ++ before) after few typed.2)
  calls_within ctx (InIf ty body rest) before after few typed =
      closed (If ty) (flat body) End (flat rest) refl refl
      (calls_within (inside (results_of ty) ctx) body [] (results_of ty) few typed.3)
      (calls_within ctx rest (results_of ty ++ typed.0) after few typed.5)
  calls_within ctx (InIfElse ty body other rest) before after few typed =
      closed (If ty) (flat body) Else (flat other ++ End ∷ flat rest) refl refl
      (calls_within (inside (results_of ty) ctx) body [] (results_of ty) few typed.3)
      (All-append Within (flat other) (End ∷ flat rest)
      (calls_within (inside (results_of ty) ctx) other [] (results_of ty) few typed.4)
      (All-cons Within End (flat rest) refl
      (calls_within ctx rest (results_of ty ++ typed.0) after few typed.5)))
