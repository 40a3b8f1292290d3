use Rattle.r3_instances.proofs.FileFacts.{all_from_file}
use Rattle.r3_instances.proofs.file_modules.file_module.Goals as goal

pub returns-clause-file : goal.returns-clause-file
returns-clause-file c =
    all_from_file c.args.bytes.now c.module_of.result c.requires c.shortest_encoding.ensures.encodable
    c.shortest_encoding.ensures.least c.module_of.ensures.taken c.module_of.ensures.supported c.module_of.ensures.short
    c.module_of.ensures.bytes c.module_of.ensures.within
