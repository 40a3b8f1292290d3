use Rattle.std.proofs.Common.{◌≡◌, ◌++◌, ◌∙◌, subst, Result, Ok, Err, OnErr}
use Rattle.std.specs.List.{flat_map}
use Rattle.r3_outside.specs.Growth.{GrewByPrefix}
use Rattle.r3_faults.specs.Lines.{escaped}
use Rattle.r3_outside.proofs.GrowthLemmas.{GrewByPrefix-after, GrewByPrefix-longer, OnErr-always}
use Rattle.r3_faults.proofs.lines.put_name.Goals as goal

pub returns-in_err-put_all-clause-wrote_prefix : goal.returns-in_err-put_all-clause-wrote_prefix
returns-in_err-put_all-clause-wrote_prefix g c =
    OnErr-always c.from_residual.result
    (GrewByPrefix-longer _ _ c.args.before.now _ c.in_err-put_all.ensures.wrote_prefix)

pub returns-in_err-put_escaped-clause-wrote_prefix : goal.returns-in_err-put_escaped-clause-wrote_prefix
returns-in_err-put_escaped-clause-wrote_prefix g c =
    let before = g.E.Sink.written c.args.err.now in
    let now = g.E.Sink.written c.put_escaped.new.err in
    let after = flat_map (λ part. part.now) c.args.after.now in
    let name : c.as_bytes.result.now ≡ c.args.name.now = c.as_bytes.ensures.value ∙ c.as_str.ensures in
    OnErr-always c.from_residual-in_err-put_escaped.result
    (subst (λ name. GrewByPrefix before now (c.args.before.now ++ (escaped name ++ after))) name
    (GrewByPrefix-after _ _ _ c.args.before.now _ c.in_ok-put_all.ensures.wrote
    (GrewByPrefix-longer _ _ (escaped c.as_bytes.result.now) after c.in_err-put_escaped.ensures.wrote_prefix)))

at-error : {T E P Q : Type 0} (r : Result T E) → (P → Q) → OnErr r P → OnErr r Q
at-error (Ok x) f p = tt
at-error (Err e) f p = f p

pub returns-clause-wrote_prefix : goal.returns-clause-wrote_prefix
returns-clause-wrote_prefix g c =
    let before = g.E.Sink.written c.args.err.now in
    let now = g.E.Sink.written c.put_parts.new.sink in
    let after = flat_map (λ part. part.now) c.args.after.now in
    let name : c.as_bytes.result.now ≡ c.args.name.now = c.as_bytes.ensures.value ∙ c.as_str.ensures in
    at-error c.put_parts.result
    (λ part.
    subst (λ name. GrewByPrefix before now (c.args.before.now ++ (escaped name ++ after))) name
    (GrewByPrefix-after _ _ _ c.args.before.now _ c.in_ok-put_all.ensures.wrote
    (GrewByPrefix-after _ _ _ (escaped c.as_bytes.result.now) after c.in_ok-put_escaped.ensures.wrote part)))
    c.put_parts.ensures.wrote_prefix
