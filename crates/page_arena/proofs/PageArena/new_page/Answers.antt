use Rattle.std.proofs.Common.{OnOk, ◌≡◌, ◌++◌, ◌∷◌, [], subst, List, ℕ}
use Rattle.page_arena.proofs.PageArena.new_page.Goals as goal

pub returns-clause-ok : goal.returns-clause-ok
returns-clause-ok c =
    let Ends : List ℕ → Type 0 = λ bytes. OnOk c.push.result (c.push.new.self ≡ c.args.self.now ++ bytes ∷ []) in
    subst Ends c.in_ok-page.ensures c.push.ensures.ok
