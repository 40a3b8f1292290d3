use Rattle.std.proofs.Common.{◌≡◌, ◌∷◌, [], refl, ap, ◌∙◌}
use Rattle.std.specs.Prelude.{map, replicate}
use Rattle.std.proofs.lemmas.List.{length-replicate}
use Rattle.wasm_syntax.specs.Index.{imported_funcs}
use Rattle.history_spec.specs.Configuration.{InMain}
use Rattle.history_spec.specs.Run.{program_of}
use Rattle.type_safety.specs.Configurations.{IsTypedCode}
use Rattle.wasm_flat.specs.declared.code.Flat.{Flat}
use Rattle.wasm_interp.specs.Calls.{IsRun}
use Rattle.host_play.specs.Hosts.{kept}
use Rattle.host_play.specs.Starts.{LeadsFirst, Starts}
use Rattle.host_play.proofs.RunStarts.{IsFirst, can_start, if_ok, is_first, kept_zeros, start_leads}
use Rattle.host_play.proofs.starts.start.Goals as goal

pub with_first_step-requires : goal.with_first_step-requires
with_first_step-requires c =
    let found = c.typed_code.ensures.heights c.args.play.code.now c.requires.valid in
    let first = c.in_ok-playing.playing in
    let begun : IsFirst c.args.play.code.now found.0 c.args.script.now c.args.play.store first =
    is_first c.args.play.code.now found.0 c.args.script.now c.args.play.store c.args.play.flat first
    (c.hosts_go_on.ensures.begins c.args.play.code.now found.0 c.args.play.store c.args.script.now.main c.requires.store
    c.requires.fits.main) c.requires.flat c.in_ok-playing.ensures.machine c.in_ok-playing.ensures.functions in
    can_start c.args.play.code.now first begun.functions
    (c.calls_are_ready.ensures.host c.args.play.code.now found.0 (InMain c.args.script.now.main ∷ []) first.machine begun.stands tt)
    (λ func ty args. c.calls_are_ready.ensures.callable c.args.play.code.now found.0
    (InMain c.args.script.now.main ∷ []) first.machine func ty args begun.stands)
    c.args.play.code.now.start c.requires.valid.outside.start

pub returns : goal.returns
returns c =
    let found = c.typed_code.ensures.heights c.args.play.code.now c.requires.valid in
    let typed : IsTypedCode c.args.play.code.now found.0 =
    c.typed_code.ensures.code c.args.play.code.now found.0 c.requires.valid c.requires.supported found.1 in
    let is_run : IsRun c.args.play.code.now found.0 (program_of c.args.play.code.now c.args.script.now)
    (replicate (imported_funcs c.args.play.code.now) 0) = record {
      valid = c.requires.valid;
      code = typed;
      fits = record { code = refl; answers = c.requires.fits.imports };
      counted = length-replicate (imported_funcs c.args.play.code.now) 0;
    } in
    let first = c.in_ok-playing.playing in
    let begun : IsFirst c.args.play.code.now found.0 c.args.script.now c.args.play.store first =
    is_first c.args.play.code.now found.0 c.args.script.now c.args.play.store c.args.play.flat first
    (c.hosts_go_on.ensures.begins c.args.play.code.now found.0 c.args.play.store c.args.script.now.main c.requires.store
    c.requires.fits.main) c.requires.flat c.in_ok-playing.ensures.machine c.in_ok-playing.ensures.functions in
    let counted : first.counts.items ≡ map kept (replicate (imported_funcs c.args.play.code.now) 0) =
    c.in_ok-playing.ensures.counts ∙ ap (λ (flat : Flat). replicate flat.imported 0) c.requires.flat ∙ kept_zeros (imported_funcs c.args.play.code.now) in
    if_ok c.with_first_step.result
    (λ started. Starts c.args.play.code.now.start first started.1 started.0)
    (λ started. LeadsFirst c.args.play.code.now c.args.script.now c.args.play.store started.1 started.0)
    (λ started starts.
    start_leads c.args.play.code.now c.args.script.now c.args.play.store found.0 is_run first begun.stands
    begun.same_store begun.functions c.in_ok-playing.ensures.hosts counted started.1 started.0
    c.args.play.code.now.start c.requires.valid.outside.start starts)
    c.with_first_step.ensures
