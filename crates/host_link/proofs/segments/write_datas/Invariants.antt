use Rattle.std.proofs.Common.{◌≡◌, take}
use Rattle.history_spec.specs.Instantiation.{memory_length}
use Rattle.host_link.specs.Link.{with_datas_in}
use Rattle.host_link.proofs.segments.write_datas.Given as goal

abbrev pub invariant-datas : goal.invariant-datas
invariant-datas l = record {
  written : l.store ≡ with_datas_in l.imported (take l.segment-index l.datas) l.initial.store;
  size : memory_length l.store.memory ≡ memory_length l.initial.store.memory;
}
