-- What is known at the beginning of a run: the memory that the module is instantiated with.
use Rattle.std.specs.Prelude.{◌≡◌, ℕ, ◌+◌, ◌≤◌, List, length, fold}
use Rattle.std.specs.List.{All}
use Rattle.wasm_syntax.specs.declared.values.Val.{Val}
use Rattle.wasm_syntax.specs.declared.modules.DataSeg.{DataSeg}
use Rattle.history_spec.specs.Store.{Store}
use Rattle.history_spec.specs.Instantiation.{offset_of, with_data}
use Rattle.wasm_store.specs.Calls.{bytes_in, pages_in}
use Rattle.shadow_memory.specs.Shadow.{Shadow, AreSame}

-- the bytes of the store's memory are known, with zeros past its end, and its size is known and noticed
pub record IsOpening (store : Store) (shadow : Shadow) : Type 0 where
  pub bytes : AreSame (bytes_in store) shadow.bytes
  pub known : shadow.known ≡ pages_in store
  pub noticed : shadow.noticed ≡ pages_in store

-- data segments end within a size
abbrev pub EndWithin : List Val → (size : ℕ) → List DataSeg → Type 0
EndWithin imported size datas =
    All (λ segment. offset_of imported segment.offset + length segment.bytes ≤ size) datas

-- bytes after data segments are written one after another
abbrev pub with_all : List Val → List ℕ → List DataSeg → List ℕ
with_all imported bytes datas = fold (with_data imported) bytes datas

-- data segments are written into kept bytes as into any memory that had the same bytes before and that all
-- segments fit into
abbrev pub HoldDatas : List Val → List DataSeg → (before after : List ℕ) → Type 0
HoldDatas imported datas before after =
    (bytes : List ℕ) → AreSame bytes before → EndWithin imported (length bytes) datas
    → AreSame (with_all imported bytes datas) after
