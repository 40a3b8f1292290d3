-- Numbers of instructions.
use Rattle.std.proofs.Common.{ℕ, List}
use Rattle.std.specs.Prelude.{filter, filter_map, option_map}
use Rattle.std.specs.List.{enumerate_from}
use Rattle.wasm_syntax.specs.Profile.{Refusal, Unsupported, is_numbered, refused_feature}
use Rattle.wasm_syntax.specs.declared.instructions.Instr.{Instr}

-- what is refused of instructions from a number on
abbrev pub refused_from : ℕ → ℕ → List Instr → List Refusal
refused_from func n instrs =
    filter_map (λ (i : ℕ × Instr). option_map (Unsupported func i.0) (refused_feature i.1)) (enumerate_from n (filter is_numbered instrs))
