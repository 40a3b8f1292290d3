-- Element segments within a table.
use Rattle.std.specs.Prelude.{ℕ, ◌+◌, List, All, Bool, true, IsTrue, length, nat_le}
use Rattle.wasm_syntax.specs.declared.values.Val.{Val}
use Rattle.wasm_syntax.specs.declared.modules.ElemSeg.{ElemSeg}
use Rattle.wasm_syntax.specs.declared.modules.ElemSeg.TheVariants.{Active, Declared}
use Rattle.history_spec.specs.Instantiation.{offset_of}

-- an element segment ends within `size` entries; a declared segment has no place in the table
abbrev pub is_within : List Val → (size : ℕ) → ElemSeg → Bool
is_within imported size (Active table offset funcs) = nat_le (offset_of imported offset + length funcs) size
is_within imported size (Declared funcs) = true

abbrev pub AreWithin : List Val → (size : ℕ) → List ElemSeg → Type 0
AreWithin imported size elems = All (λ elem. IsTrue (is_within imported size elem)) elems
