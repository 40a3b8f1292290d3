-- A module under construction: what the sections that were read so far hold.
use Rattle.std.specs.Prelude.{ℕ, List, [], ◌∷◌, ◌++◌, Option, Some, option_map}
use Rattle.wasm_syntax.specs.EmptyModule.{empty_module}
use Rattle.wasm_syntax.specs.Encoding.Sections as grammar
use Rattle.wasm_syntax.specs.Encoding.Sections.{CustomSection, TypeSection, ImportSection, FunctionSection, TableSection, MemorySection, GlobalSection, ExportSection, StartSection, ElementSection, CodeSection, DataSection}
use Rattle.wasm_syntax.specs.Encoding.ReadModules.{funcs_of}
use Rattle.wasm_syntax.specs.declared.modules.Func.{Func}
use Rattle.wasm_syntax.specs.declared.modules.Module.{Module}
use Rattle.wasm_decode.specs.declared.sections.Section.{Section}
use Rattle.wasm_decode.specs.declared.sections.Section.TheVariants as read
use Rattle.wasm_decode.specs.declared.draft.Draft.{Draft}

-- a section that was read, as the grammar has it
abbrev pub section_of : Section → grammar.Section
section_of (read.Custom custom) = CustomSection custom
section_of (read.Type types) = TypeSection types
section_of (read.Import imports) = ImportSection imports
section_of (read.Function types) = FunctionSection types
section_of (read.Table tables) = TableSection tables
section_of (read.Memory memories) = MemorySection memories
section_of (read.Global globals) = GlobalSection globals
section_of (read.Export exports) = ExportSection exports
section_of (read.Start func) = StartSection func
section_of (read.Element elems) = ElementSection elems
section_of (read.Code codes) = CodeSection codes
section_of (read.Data datas) = DataSection datas

-- the draft before any section
abbrev pub empty_draft : Draft
empty_draft = record { parts = empty_module; functions = []; codes = [] }

-- a draft with other parts beside the functions
abbrev with_parts : Draft → Module → Draft
with_parts draft parts = record draft { parts = parts }

-- a draft with one more section: a custom one after the others, any other in its place
abbrev pub draft_with : grammar.Section → Draft → Draft
draft_with (CustomSection custom) draft =
    with_parts draft (record draft.parts { customs = draft.parts.customs ++ custom ∷ [] })
draft_with (TypeSection types) draft = with_parts draft (record draft.parts { types = types })
draft_with (ImportSection imports) draft = with_parts draft (record draft.parts { imports = imports })
draft_with (FunctionSection types) draft = record draft { functions = types }
draft_with (TableSection tables) draft = with_parts draft (record draft.parts { tables = tables })
draft_with (MemorySection memories) draft = with_parts draft (record draft.parts { memories = memories })
draft_with (GlobalSection globals) draft = with_parts draft (record draft.parts { globals = globals })
draft_with (ExportSection exports) draft = with_parts draft (record draft.parts { exports = exports })
draft_with (StartSection func) draft = with_parts draft (record draft.parts { start = Some func })
draft_with (ElementSection elems) draft = with_parts draft (record draft.parts { elems = elems })
draft_with (CodeSection codes) draft = record draft { codes = codes }
draft_with (DataSection datas) draft = with_parts draft (record draft.parts { datas = datas })

-- a draft with sections, one after another
abbrev pub draft_with_all : List grammar.Section → Draft → Draft
draft_with_all [] draft = draft
draft_with_all (section ∷ sections) draft = draft_with_all sections (draft_with section draft)

-- the module of a draft with these functions
abbrev pub module_from : Draft → List Func → Module
module_from draft funcs = record draft.parts { funcs = funcs }

abbrev pub module_of_draft : Draft → Option Module
module_of_draft draft = option_map (module_from draft) (funcs_of draft.functions draft.codes)

-- a draft with sections that were read, and the bytes that are left after them
abbrev pub draft_with_read : Draft → List grammar.Section × List ℕ → Draft × List ℕ
draft_with_read draft read = (draft_with_all read.0 draft, read.1)
