use Rattle.std.proofs.Common.{◌≡◌, ◌+◌, drop}
use Rattle.std.specs.Prelude.{filter_map}
use Rattle.std.specs.List.{enumerate_from}
use Rattle.wasm_syntax.specs.Profile.{reserved_import}
use Rattle.wasm_profile.proofs.reserved.refuse_reserved.Given as goal

abbrev pub invariant-imports : goal.invariant-imports
invariant-imports l =
    filter_map reserved_import (enumerate_from 0 l.«module».imports)
    ≡ filter_map reserved_import (enumerate_from (0 + l.place) (drop l.place l.«module».imports))
