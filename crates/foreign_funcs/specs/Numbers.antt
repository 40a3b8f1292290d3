-- The numbers of a module's functions by the number of its imports.
use Rattle.std.specs.Prelude.{ℕ}
use Rattle.instance_spec.specs.Instances.{Instance}
use Rattle.instance_spec.specs.ForeignRuns.{number_of_func}

-- the numbers in a run with a number of declared functions, for a module that imports a number of functions
abbrev pub foreign_numbers : (imports declared : ℕ) → Instance
foreign_numbers imports declared =
    record { types = λ ty. ty; funcs = number_of_func imports declared; globals = λ global. global }
