use Rattle.std.proofs.Common.{map, ap, ◌∙◌}
use Rattle.recorder.proofs.Entries.{is_below, types_stay}
use Rattle.recorder.proofs.AccessArguments.{known_typed}
use Rattle.recorder.proofs.Steps.{take_gset}
use Rattle.recorder.proofs.recording.Recording.gset.Goals as goal

pub take_global-requires : goal.take_global-requires
take_global-requires g c =
    is_below c.args.self.now.tables.globals c.in-Some.reported.global c.in-Some.reported.value
    (known_typed c.in-Some.ensures.0 c.args.self.now.tables.globals c.args.self.now.typed)

pub invariant_of-self : goal.invariant_of-self
invariant_of-self g c =
    record {
      typed =
          ap (λ t. map (λ value. value.ty) t.globals) c.take_global.ensures
          ∙ types_stay c.args.self.now.tables.globals c.in-Some.reported.global c.in-Some.reported.value
          (known_typed c.in-Some.ensures.0 c.args.self.now.tables.globals c.args.self.now.typed)
          ∙ c.args.self.now.typed;
    }

pub returns-clause-ok : goal.returns-clause-ok
returns-clause-ok g c = take_gset c.args.self.now.typed c.in-Some.ensures.0 c.in-Some.ensures.1 c.take_global.ensures
