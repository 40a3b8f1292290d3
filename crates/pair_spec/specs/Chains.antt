-- What an index of a module in a pair is: an import from the other side is what the other side's export of its name
-- names, which may again be an import from the other side, and so on.
use Rattle.std.specs.Prelude.{ℕ, zero, suc, ◌+◌, Option, Some, None, cond, length, slice_get, option_and_then}
use Rattle.wasm_syntax.specs.declared.modules.Module.{Module}
use Rattle.wasm_syntax.specs.declared.modules.Import.{Import}
use Rattle.instance_spec.specs.declared.sides.Side.{Side}
use Rattle.pair_spec.specs.Pairs.{ModulePair, module_of, other_side, is_from_other, Space, imports_in, exported_index}

-- the end of a chain of imports, by its index in the module of a side: a definition, or an import that is the host's
pub data ChainEnd : Type 0 where
  Defined : (side : Side) (index : ℕ) → ChainEnd
  HostImport : (side : Side) (index : ℕ) → ChainEnd

-- the module that an end is in, and its index in that module
abbrev pub end_module : ModulePair → ChainEnd → Module
end_module pair (Defined side index) = module_of pair side
end_module pair (HostImport side index) = module_of pair side

abbrev pub end_index : ChainEnd → ℕ
end_index (Defined side index) = index
end_index (HostImport side index) = index

-- the end of the chain from an index, given the import that has this index, if it is one; `later` gives the ends of
-- chains from the indices of the other side
abbrev pub end_by
    : (later : Side → ℕ → Option ChainEnd) → ModulePair → Space → Side → (index : ℕ) → Option Import → Option ChainEnd
end_by later pair space side index None = Some (Defined side index)
end_by later pair space side index (Some i) =
    cond (is_from_other side i)
    (option_and_then (later (other_side side)) (exported_index space (module_of pair (other_side side)) i.name))
    (Some (HostImport side index))

-- the end of the chain from an index, if it is among a number of indices
abbrev pub end_after : ℕ → ModulePair → Space → Side → (index : ℕ) → Option ChainEnd
end_after zero pair space side index = None
end_after (suc k) pair space side index =
    end_by (end_after k pair space) pair space side index (slice_get (imports_in space (module_of pair side)) index)

-- the end of the chain from an index, if no export is missing on it and it does not come back to itself; a chain that
-- has more imports than both modules together comes back to itself
abbrev pub end_of : ModulePair → Space → Side → (index : ℕ) → Option ChainEnd
end_of pair space side index =
    end_after (length pair.left.imports + length pair.right.imports + 1) pair space side index
