use Rattle.shadow_memory.proofs.Frozen.{AreCopied}
use Rattle.shadow_memory.proofs.known_bytes.copied_places.Given as goal

abbrev pub invariant-places : goal.invariant-places
invariant-places l = AreCopied l.places l.initial.arena l.place l.copies.items l.arena
