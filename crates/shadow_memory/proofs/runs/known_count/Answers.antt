use Rattle.shadow_memory.proofs.Counting.{counted_last, counted_more, counted_within}
use Rattle.shadow_memory.proofs.runs.known_count.Goals as goal

pub returns-then-leading-part : goal.returns-then-leading-part
returns-then-leading-part c =
    let part = c.count_in_page-part in
    let leading = c.leading_count-leading in
    counted_last c.args.kept.now.bytes c.args.addr c.args.bytes.now c.page.result.now c.pages.count part.result
    c.page.ensures part.ensures.page part.ensures.most c.args.known leading.result leading.ensures
    c.pages.invariant.within c.if-leading-part.true c.pages.invariant.alike

pub pages-preserved : goal.pages-preserved
pages-preserved c =
    let part = c.count_in_page-part in
    let leading = c.leading_count-leading in
    record {
      within = counted_within c.args.kept.now.bytes c.args.addr c.args.bytes.now c.page.result.now c.pages.count part.result
          c.page.ensures part.ensures.page part.ensures.most c.args.known leading.result leading.ensures
          c.pages.invariant.within;
      alike = counted_more c.args.kept.now.bytes c.args.addr c.args.bytes.now c.page.result.now c.pages.count part.result
          c.page.ensures part.ensures.page part.ensures.most c.args.known leading.result leading.ensures
          c.pages.invariant.alike;
    }
