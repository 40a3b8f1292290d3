use Rattle.std.proofs.Common.{◌≡◌, length, ap, sym, ◌∙◌, arith}
use Rattle.std.proofs.lemmas.List.{nil_from_length}
use Rattle.std.specs.Vec.Iter.{into_iter_items}
use Rattle.wasm_syntax.specs.Encoding.ReadModules.{funcs_of}
use Rattle.wasm_decode.proofs.FuncLemmas.{one_more, codes_end}
use Rattle.wasm_decode.proofs.funcs.funcs_of.Goals as goal

pub returns-in_default : goal.returns-in_default
returns-in_default c =
    let nothing : length (into_iter_items c.loop-ty.codes) ≡ 0 = sym c.loop-ty.invariant.left
    ∙ c.in_default.ensures.cases.0 in
    codes_end c.loop-ty.funcs.items c.as_slice-ty-items.result.now c.loop-ty.ty-index
    (into_iter_items c.loop-ty.codes) (funcs_of c.args.types c.args.codes)
    c.loop-ty-test.true (nil_from_length (into_iter_items c.loop-ty.codes) nothing) c.loop-ty.invariant.all

pub loop-ty-preserved : goal.loop-ty-preserved
loop-ty-preserved c = record {
  types = c.loop-ty.invariant.types;
  left = omega (arith, c.loop-ty.invariant.left, ap length c.in-Some.ensures.items, c.in-Some.ensures.len);
  all =
      one_more c.loop-ty.funcs.items c.push.new.self.items c.as_slice-ty-items.result.now c.loop-ty.ty-index
      c.in-Some.code
      (into_iter_items c.next.new.self) (into_iter_items c.loop-ty.codes) (funcs_of c.args.types c.args.codes)
      c.loop-ty-test.true c.in-Some.ensures.items
      (rw (c.into_parts-locals.ensures.locals, c.into_parts-locals.ensures.body) at c.in_ok-push.ensures.items)
      c.loop-ty.invariant.all;
}
