use Rattle.std.proofs.Common.{◌≡◌, take}
use Rattle.history_spec.specs.Instantiation.{table_length}
use Rattle.host_link.specs.Link.{with_elems_in}
use Rattle.host_link.proofs.segments.write_elems.Given as goal

abbrev pub invariant-elems : goal.invariant-elems
invariant-elems l = record {
  written : l.store ≡ with_elems_in l.imported (take l.elem-index l.elems) l.initial.store;
  size : table_length l.store.table ≡ table_length l.initial.store.table;
}
