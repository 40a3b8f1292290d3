use Rattle.wasm_syntax.proofs.Encoding.Modules.{one_module, module_is_read, module_is_encoded}
use Rattle.wasm_syntax.proofs.encoding_laws.module_encoding.Goals as goal

pub returns : goal.returns
returns c =
    let laws = c.number_encoding.ensures in
    record { one = one_module laws; read = module_is_read laws; encoded = module_is_encoded laws }
