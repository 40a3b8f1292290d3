use Rattle.wasm_syntax.proofs.encoding_laws.number_encoding.Goals as goal

pub returns : goal.returns
returns c = record {
  u32 = c.u32_encoding.ensures.encoding.read;
  i32 = c.i32_encoding.ensures.encoding.read;
  i64 = c.i64_encoding.ensures.encoding.read;
  u32_range = c.u32_encoding.ensures.range;
  u32_shortest = c.u32_encoding.ensures.encoding.shortest;
  i32_shortest = c.i32_encoding.ensures.encoding.shortest;
  i64_shortest = c.i64_encoding.ensures.encoding.shortest;
}
