use Rattle.std.proofs.Common.{◌≡◌, ◌≢◌, ◌-◌, [], ◌∷◌, false, length, reverse}
use Rattle.wasm_syntax.specs.Encoding.Readers.{first_instrs}
use Rattle.wasm_decode.proofs.ItemLemmas.{with_front}
use Rattle.wasm_decode.proofs.expressions.first_expr.Given as goal

abbrev pub invariant-loop : goal.invariant-loop
invariant-loop l =
    record {
      read : with_front l.instrs.items
          (first_instrs l.fn.form (length l.bytes - l.counter) (reverse l.open_blocks.items) l.rest)
          ≡ first_instrs l.fn.form (length l.bytes) (false ∷ []) l.bytes;
      some : [] ≢ reverse l.open_blocks.items;
    }
