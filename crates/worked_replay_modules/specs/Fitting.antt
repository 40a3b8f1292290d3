-- Generated parts of the examples fit their modules.
use Rattle.replay_module_spec.specs.Fits.{FitsModule}
use Rattle.worked_replay_modules.specs.Cases.{ReplayCase, two_answers_case, nested_call_case, table_entry_case, table_growth_case, imported_offset_case, c_buffers_case}
use Rattle.worked_replay_modules.specs.Tests.{fragment_for}

-- the generated part of an example fits its module
abbrev pub Fits : ReplayCase → Type 0
Fits c = FitsModule c.original (fragment_for c.original c.tape)

-- the generated parts fit, also one that puts a function into the table, and one with an imported global
pub record FragmentsFit : Type 0 where
  pub two_answers : Fits two_answers_case
  pub nested_call : Fits nested_call_case
  pub table_entry : Fits table_entry_case
  pub table_growth : Fits table_growth_case
  pub imported_offset : Fits imported_offset_case
  pub c_buffers : Fits c_buffers_case
