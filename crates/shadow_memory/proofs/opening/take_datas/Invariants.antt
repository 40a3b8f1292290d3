use Rattle.std.proofs.Common.{◌≡◌, ℕ, List, length, take}
use Rattle.shadow_memory.specs.Shadow.{AreSame}
use Rattle.shadow_memory.specs.Opening.{with_all, EndWithin}
use Rattle.shadow_memory.proofs.opening.take_datas.Given as goal

abbrev pub invariant-datas : goal.invariant-datas
invariant-datas l = record {
  taken : (bytes : List ℕ) → AreSame bytes l.initial.kept.bytes → EndWithin l.imported (length bytes) l.datas
      → AreSame (with_all l.imported bytes (take l.segment-index l.datas)) l.kept.bytes;
  frozen : l.kept.frozen ≡ l.initial.kept.frozen;
}
