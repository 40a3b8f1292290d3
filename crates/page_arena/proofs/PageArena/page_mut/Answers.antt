use Rattle.std.proofs.Common.{ap, ◌∙◌, ◌≡◌, length, refl, sym, List, ℕ}
use Rattle.raw_page.specs.declared.RawPage.{RawPage}
use Rattle.page_arena.proofs.Mapped.{read_mapped, written_mapped}
use Rattle.page_arena.specs.Pages.{page_at}
use Rattle.page_arena.proofs.PageArena.page_mut.Goals as goal

pub returns : goal.returns
returns c =
    let pages = c.self.inside.pages.items in
    let n = c.args.id.number in
    let bytes_of : RawPage → List ℕ = λ page. page.bytes in
    let lent : c.get_mut.result.now ≡ page_at c.args.self.now n =
    c.get_mut.ensures.value
    ∙ read_mapped bytes_of pages _ n _ _ c.self.view_is c.requires c.index_mut-page.ensures.value in
    let read : c.as_slice-length.result.now ≡ page_at c.args.self.now n =
    c.as_slice-length.ensures.value ∙ read_mapped bytes_of pages _ n _ _ c.self.view_is c.requires c.index.ensures in
    let value : c.as_mut_slice.result.now ≡ page_at c.args.self.now n = c.as_mut_slice.ensures.value ∙ lent in (
      (refl, λ w. written_mapped bytes_of pages _ n _ c.self.view_is),
      record {
        value = value;
        size = ap length (value ∙ sym read) ∙ c.as_slice-length.ensures.size;
        writes_back = tt;
      },
    )
