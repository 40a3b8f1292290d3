-- Which bytes encode a module, and the place of a fault (Core 1.0, 5.5.15).
use Rattle.std.specs.Prelude.{◌≡◌, ℕ, ◌<◌, ◌≤◌, ◌⊎◌, List, [], ◌∷◌, ◌++◌, length, take, map, flat_map, option_to_list}
use Rattle.wasm_syntax.specs.Encoding.Grammar.{Each}
use Rattle.wasm_syntax.specs.Encoding.Sections.{Code, Section, CustomSection, TypeSection, ImportSection, FunctionSection, TableSection, MemorySection, GlobalSection, ExportSection, StartSection, ElementSection, CodeSection, DataSection, id_of, EncodesSection}
use Rattle.wasm_syntax.specs.declared.forms.Form.{Form}
use Rattle.wasm_syntax.specs.declared.signatures.FuncType.{FuncType}
use Rattle.wasm_syntax.specs.declared.signatures.Limits.{Limits}
use Rattle.wasm_syntax.specs.declared.modules.Import.{Import}
use Rattle.wasm_syntax.specs.declared.modules.Export.{Export}
use Rattle.wasm_syntax.specs.declared.modules.Func.{Func}
use Rattle.wasm_syntax.specs.declared.modules.Global.{Global}
use Rattle.wasm_syntax.specs.declared.modules.ElemSeg.{ElemSeg}
use Rattle.wasm_syntax.specs.declared.modules.DataSeg.{DataSeg}
use Rattle.wasm_syntax.specs.declared.modules.Custom.{Custom}
use Rattle.wasm_syntax.specs.declared.modules.Module.{Module}

-- the magic and the version (Core 1.0, 5.5.15)
abbrev pub preamble : List ℕ
preamble = 0x00 ∷ 0x61 ∷ 0x73 ∷ 0x6D ∷ 0x01 ∷ 0x00 ∷ 0x00 ∷ 0x00 ∷ []

-- The sections may follow a section of this id, or the preamble if it is 0: custom sections are anywhere, the others
-- at most once and by ascending ids (Core 1.0, 5.5.2 and 5.5.15).
abbrev pub AreInOrder : ℕ → List Section → Type 0
AreInOrder last [] = Unit {0}
AreInOrder last (CustomSection custom ∷ rest) = AreInOrder last rest
AreInOrder last (section ∷ rest) = (last < id_of section) × AreInOrder (id_of section) rest

-- the bytes are the preamble and these sections, in a lawful order
pub record EncodesSections (form : Form) (bytes : List ℕ) (sections : List Section) : Type 0 where
  pub behind : List ℕ
  pub begins : bytes ≡ preamble ++ behind
  pub each : Each (EncodesSection form) behind sections
  pub in_order : AreInOrder 0 sections

-- ---- what all sections of one kind hold

abbrev pub customs_in : Section → List Custom
customs_in (CustomSection custom) = custom ∷ []
customs_in other = []

abbrev pub types_in : Section → List FuncType
types_in (TypeSection types) = types
types_in other = []

abbrev pub imports_in : Section → List Import
imports_in (ImportSection imports) = imports
imports_in other = []

abbrev pub functions_in : Section → List ℕ
functions_in (FunctionSection types) = types
functions_in other = []

abbrev pub tables_in : Section → List Limits
tables_in (TableSection tables) = tables
tables_in other = []

abbrev pub memories_in : Section → List Limits
memories_in (MemorySection memories) = memories
memories_in other = []

abbrev pub globals_in : Section → List Global
globals_in (GlobalSection globals) = globals
globals_in other = []

abbrev pub exports_in : Section → List Export
exports_in (ExportSection exports) = exports
exports_in other = []

abbrev pub starts_in : Section → List ℕ
starts_in (StartSection func) = func ∷ []
starts_in other = []

abbrev pub elems_in : Section → List ElemSeg
elems_in (ElementSection elems) = elems
elems_in other = []

abbrev pub codes_in : Section → List Code
codes_in (CodeSection codes) = codes
codes_in other = []

abbrev pub datas_in : Section → List DataSeg
datas_in (DataSection datas) = datas
datas_in other = []

-- what the code section has of a function (Core 1.0, 5.5.13)
abbrev pub code_of : Func → Code
code_of func = record { locals = func.locals; body = func.body }

-- What a module has is what its sections hold. A section that is absent is an empty list. The function section has
-- the types of the functions and the code section the rest of them, so both have as many items (Core 1.0, 5.5.15).
pub record AreSectionsOf (m : Module) (sections : List Section) : Type 0 where
  pub types : m.types ≡ flat_map types_in sections
  pub imports : m.imports ≡ flat_map imports_in sections
  pub functions : map (λ func. func.ty) m.funcs ≡ flat_map functions_in sections
  pub codes : map code_of m.funcs ≡ flat_map codes_in sections
  pub tables : m.tables ≡ flat_map tables_in sections
  pub memories : m.memories ≡ flat_map memories_in sections
  pub globals : m.globals ≡ flat_map globals_in sections
  pub exports : m.exports ≡ flat_map exports_in sections
  pub start : option_to_list m.start ≡ flat_map starts_in sections
  pub elems : m.elems ≡ flat_map elems_in sections
  pub datas : m.datas ≡ flat_map datas_in sections
  pub customs : m.customs ≡ flat_map customs_in sections

-- the bytes encode the module in the form (Core 1.0, 5.5.15)
pub record Encodes (form : Form) (bytes : List ℕ) (m : Module) : Type 0 where
  pub sections : List Section
  pub encoded : EncodesSections form bytes sections
  pub hold : AreSectionsOf m sections

-- ---- the place of a fault

-- the first `count` bytes are the preamble and whole sections in a lawful order
pub record IsLawfulUpTo (form : Form) (bytes : List ℕ) (count : ℕ) : Type 0 where
  pub within : count ≤ length bytes
  pub sections : List Section
  pub encoded : EncodesSections form (take count bytes) sections

abbrev pub BeginsAsModule : List ℕ → Type 0
BeginsAsModule bytes = (rest : List ℕ) × (bytes ≡ preamble ++ rest)

-- The place of a fault: the end of the longest lawful front, or 0 if the preamble is absent. It is the length of
-- the bytes if all sections are lawful but the function and the code section differ in number.
abbrev pub IsFaultPlace : Form → List ℕ → ℕ → Type 0
IsFaultPlace form bytes at =
    ((BeginsAsModule bytes → ⊥) × (at ≡ 0))
    ⊎ (IsLawfulUpTo form bytes at × ((count : ℕ) → IsLawfulUpTo form bytes count → count ≤ at))
