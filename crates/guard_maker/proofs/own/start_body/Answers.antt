use Rattle.std.proofs.Common.{rules, ◌≡◌, ◌∙◌, ap, sym, List, [], ◌∷◌, ◌++◌}
use Rattle.wasm_syntax.specs.declared.instructions.Instr.{Instr}
use Rattle.wasm_syntax.specs.declared.instructions.Instr.TheVariants.{End}
use Rattle.replay_gen.proofs.Blocks.{alone_code}
use Rattle.guarded_module_spec.specs.Functions.{start_code}
use Rattle.guard_maker.proofs.own.start_body.Goals as goal

pub returns : goal.returns
returns c =
    let code : List Instr = start_code c.args.n c.args.entry in
    let written : c.from_vec.result ≡ code ++ End ∷ [] = search rules in
    written ∙ ap (λ l. l ++ End ∷ []) (sym (alone_code code))
