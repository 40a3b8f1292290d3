use Rattle.std.proofs.Common.{◌≡◌, Ok, None, cond, is_some, List, Option, sym, ap, ◌∙◌}
use Rattle.std.specs.List.{list_any}
use Rattle.wasm_syntax.specs.declared.signatures.Limits.{Limits}
use Rattle.wasm_syntax.specs.declared.modules.Import.{Import}
use Rattle.wasm_syntax.specs.declared.modules.ImportKind.{ImportKind}
use Rattle.wasm_syntax.specs.Index.{memory_import, of_kind, table_import}
use Rattle.host_script.specs.Supply.{first_fault, given_values, if_imported, supply_for, supply_unless}
use Rattle.host_supply.proofs.Imported.{imported_by_test}
use Rattle.host_supply.proofs.supply.supply_of.Goals as goal

pub returns-clause-ok : goal.returns-clause-ok
returns-clause-ok c =
    let m = c.args.«module».now in
    let script = c.args.script.now in
    let tested : (pick : ImportKind → Option Limits) (limits : Option Limits)
    → if_imported (of_kind pick m.imports) limits
    ≡ cond (list_any (λ import. is_some (pick import.kind)) c.as_slice-imports.result.now) limits None =
    λ pick limits. imported_by_test pick m.imports limits
    ∙ ap (λ (list : List Import). cond (list_any (λ import. is_some (pick import.kind)) list) limits None) (sym c.as_slice-imports.ensures) in
    let memory = tested memory_import script.memory ∙ ap (λ b. cond b script.memory None) (sym c.imports_memory.ensures) ∙ sym c.limits_if.ensures in
    let table = tested table_import script.table ∙ ap (λ b. cond b script.table None) (sym c.imports_table.ensures) ∙ sym c.limits_if-2.ensures in
    let globals = ap given_values (sym c.as_slice.ensures) ∙ sym c.in-Ok.ensures in
    ap (λ (list : List Import). supply_unless (first_fault script list 0 0) (supply_for m script)) (sym c.as_slice-imports.ensures)
    ∙ ap (λ fault. supply_unless fault (supply_for m script)) c.in_ok-check_imports.ensures.ok
    ∙ (λ i. Ok (record { memory = memory i; table = table i; globals = globals i }))
