use Rattle.std.proofs.Common.{◌≡◌, ℕ, List, ◌++◌, Some, None, subst}
use Rattle.leb_bytes.specs.Unsigned.{u32_bytes}
use Rattle.hook_insert.proofs.Sections.{form, form_none, form_of_bytes, form_there}
use Rattle.hook_insert.proofs.forms.form_of_section.Goals as goal

pub returns-then-has_numbers : goal.returns-then-has_numbers
returns-then-has_numbers c =
    let first = c.in-Some.ensures.cases in
    let numbers = u32_bytes c.args.imports ++ u32_bytes c.args.defined in
    subst (λ (bytes : List ℕ). Some (form c.in-Some.digest.now c.args.imports c.args.defined)
    ≡ form_of_bytes bytes numbers c.args.imports c.args.defined) c.as_slice-bytes.ensures
    (form_there c.as_slice-bytes.result.now numbers c.args.imports c.args.defined first.enough c.in-Some.digest.now _
    first.same c.has_numbers.ensures c.if-has_numbers.true)

pub returns-else-has_numbers : goal.returns-else-has_numbers
returns-else-has_numbers c =
    let first = c.in-Some.ensures.cases in
    let numbers = u32_bytes c.args.imports ++ u32_bytes c.args.defined in
    subst (λ (bytes : List ℕ). None ≡ form_of_bytes bytes numbers c.args.imports c.args.defined)
    c.as_slice-bytes.ensures
    (form_none c.as_slice-bytes.result.now numbers c.args.imports c.args.defined first.enough _
    c.has_numbers.ensures c.if-has_numbers.false)
