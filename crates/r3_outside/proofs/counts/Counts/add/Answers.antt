use Rattle.std.proofs.Common.{◌≡◌, ◌∙◌, ap, subst, refl, inl, inr, Some, None, IsSome, arith}
use Rattle.r3_outside.specs.NameCounts.{listed_under, with_unlisted}
use Rattle.r3_outside.proofs.CountLemmas.{listed_under-found, not_listed, counts_from, with_number, with_number-updates, IsCountedFor-count, IsCountedFor-none_fell}
use Rattle.r3_outside.proofs.counts.Counts.add.Goals as goal

pub returns-in-Some-clause-counted : goal.returns-in-Some-clause-counted
returns-in-Some-clause-counted c =
    let under : listed_under c.args.self.now c.args.name.now ≡ c.in-Some.count.now =
    listed_under-found c.args.self.now c.self.inside.listed c.self.inside.unlisted c.args.name.now c.self.view_is
    (Some c.in-Some.count.now) c.in-Some.ensures.value
    in
    inl
    (with_number-updates c.args.self.now c.self.inside.listed c.self.inside.unlisted c.args.name.now c.self.view_is
    (c.get_mut.follows.lender c.saturating_add.result) c.args.name.now c.saturating_add.result refl
    ((c.get_mut.follows.holds c.saturating_add.result).3 (subst IsSome c.in-Some.ensures.value refl))
    ∙ ap (with_number c.args.self.now c.args.name.now) (omega (arith, under, c.saturating_add.ensures)))

pub returns-in-Some-clause-count : goal.returns-in-Some-clause-count
returns-in-Some-clause-count c = IsCountedFor-count _ _ _ _ (returns-in-Some-clause-counted c)

pub returns-in-Some-clause-none_fell : goal.returns-in-Some-clause-none_fell
returns-in-Some-clause-none_fell c = IsCountedFor-none_fell _ _ _ _ (returns-in-Some-clause-counted c)

pub returns-in-Ok-clause-counted : goal.returns-in-Ok-clause-counted
returns-in-Ok-clause-counted c =
    let under : listed_under c.args.self.now c.args.name.now ≡ 0 =
    listed_under-found c.args.self.now c.self.inside.listed c.self.inside.unlisted c.args.name.now c.self.view_is
    None c.in-None.ensures.value
    in
    inl
    (c.in-Ok.ensures.ok
    ∙ ap (λ m. with_number (counts_from m c.self.inside.unlisted) c.args.name.now c.args.more) c.get_mut.follows.holds-at-none
    ∙ ap (λ counts. with_number counts c.args.name.now c.args.more) c.self.view_is
    ∙ ap (with_number c.args.self.now c.args.name.now) (omega (arith, under, c.ranges.more.fits)))

pub returns-in-Ok-clause-count : goal.returns-in-Ok-clause-count
returns-in-Ok-clause-count c = IsCountedFor-count _ _ _ _ (returns-in-Ok-clause-counted c)

pub returns-in-Ok-clause-none_fell : goal.returns-in-Ok-clause-none_fell
returns-in-Ok-clause-none_fell c = IsCountedFor-none_fell _ _ _ _ (returns-in-Ok-clause-counted c)

pub returns-in-Err-clause-counted : goal.returns-in-Err-clause-counted
returns-in-Err-clause-counted c =
    inr (
      not_listed c.args.self.now c.self.inside.listed c.self.inside.unlisted c.args.name.now c.self.view_is
          c.in-None.ensures.value,
      ap (counts_from c.self-in-None.inside.listed) c.saturating_add-self-inside.ensures
          ∙ ap (λ counts. with_unlisted counts c.args.more)
          (c.self-in-None.view_is
          ∙ c.in-Err.ensures.err
          ∙ ap (λ m. counts_from m c.self.inside.unlisted) c.get_mut.follows.holds-at-none
          ∙ c.self.view_is),
    )

pub returns-in-Err-clause-count : goal.returns-in-Err-clause-count
returns-in-Err-clause-count c = IsCountedFor-count _ _ _ _ (returns-in-Err-clause-counted c)

pub returns-in-Err-clause-none_fell : goal.returns-in-Err-clause-none_fell
returns-in-Err-clause-none_fell c = IsCountedFor-none_fell _ _ _ _ (returns-in-Err-clause-counted c)
