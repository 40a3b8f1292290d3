use Rattle.std.proofs.Common.{◌≡◌, length, drop}
use Rattle.std.specs.Vec.Iter.{into_iter_items, into_iter_len}
use Rattle.wasm_syntax.specs.Encoding.ReadModules.{funcs_of}
use Rattle.wasm_decode.proofs.FuncLemmas.{with_front}
use Rattle.wasm_decode.proofs.funcs.funcs_of.Given as goal

abbrev pub invariant-loop-ty : goal.invariant-loop-ty
invariant-loop-ty l = record {
  types : l.ty-items ≡ l.fn.types;
  left : into_iter_len l.codes ≡ length (into_iter_items l.codes);
  all : with_front l.funcs.items (drop l.ty-index l.ty-items) (into_iter_items l.codes)
      ≡ funcs_of l.fn.types l.fn.codes;
}
