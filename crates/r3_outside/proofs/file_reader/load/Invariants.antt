use Rattle.std.proofs.Common.{◌≡◌, ℕ, ◌+◌, ◌-◌, ◌<◌, ◌≤◌, List, length, take, vec_len}
use Rattle.std.specs.Option.{ForSome}
use Rattle.r3_outside.specs.Count.{Took, NoneFell}
use Rattle.r3_outside.specs.Contents.{file_bytes}
use Rattle.r3_outside.proofs.file_reader.load.Given as goal

abbrev pub invariant-pieces : goal.invariant-pieces
invariant-pieces g l = record {
  within : vec_len l.bytes ≤ l.most;
  some : 0 < length l.piece;
  contents_unchanged : g.F.Files.contents l.files ≡ g.F.Files.contents l.initial.files;
  failed_none : (other : List ℕ) → g.F.Files.faults l.files other ≡ g.F.Files.faults l.initial.files other;
  faults_never_fall : NoneFell (g.F.Files.faults l.initial.files) (g.F.Files.faults l.files);
  taken_never_falls : NoneFell (g.F.Files.taken l.initial.files) (g.F.Files.taken l.files);
  took : Took (g.F.Files.taken l.initial.files l.name) (g.F.Files.taken l.files l.name) (vec_len l.bytes);
  loaded : ForSome (g.F.Files.contents l.files)
      (λ known. l.bytes.items ≡ take (vec_len l.bytes) (file_bytes known l.name));
}

abbrev pub decreases-pieces : goal.decreases-pieces
decreases-pieces g l = l.most + 1 - vec_len l.bytes
