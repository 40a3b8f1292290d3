use Rattle.std.proofs.Common.{ℕ, ◌≤◌, List, length, sym, ◌∙◌, ap, subst, arith}
use Rattle.wasm_syntax.specs.declared.forms.Form.TheVariants.{Replay}
use Rattle.wasm_syntax.specs.declared.modules.Module.{Module}
use Rattle.wasm_syntax.specs.Encoding.Encodable.{IsEncodable}
use Rattle.wasm_syntax.specs.Encoding.Modules.{Encodes}
use Rattle.wasm_syntax.specs.Encoding.Shortest.{encoding_of}
use Rattle.wasm_syntax.specs.Validity.{IsValid}
use Rattle.trace_model.specs.Weight.{tape_weight}
use Rattle.replay_module_spec.specs.Size.{max_bytes}
use Rattle.replay_laws.proofs.Playable.{playable}
use Rattle.replay_laws.proofs.encoded_replays.encoded_replay.Goals as goal

pub encode-requires : goal.encode-requires
encode-requires c =
    subst (IsEncodable Replay) (sym (c.module.ensures.same ∙ c.in_ok-replay.ensures.replay)) c.requires.can.encodable

pub returns-in-Ok-clause-printed : goal.returns-in-Ok-clause-printed
returns-in-Ok-clause-printed c = λ store begins.
    let m = c.args.checked in
    let supply = c.args.supply.now in
    let tape = c.args.tape in
    let same = c.module.ensures.same ∙ c.in_ok-replay.ensures.replay in
    let shortest = c.in-Ok.ensures.shortest ∙ ap encoding_of same in
    let taken = c.requires.can.taken in
    record {
      shortest = shortest;
      encoded = subst (λ (r : Module). Encodes Replay c.in-Ok.printed.items r) same c.in-Ok.ensures.encodes;
      valid = subst IsValid same c.module.ensures.valid;
      stands = c.replay_modules_of_tapes_stand.ensures m supply tape c.requires.runnable.valid;
      follows = c.in_ok-replay.ensures.follows store
          (playable m supply store tape c.requires.runnable c.requires.can.supplied.matches begins taken.fits
          taken.constants taken.weight);
      most = subst (λ (bytes : List ℕ). length bytes ≤ max_bytes m (tape_weight tape)) (sym shortest)
          (c.replay_modules_are_short.ensures.short m supply tape c.requires.runnable.valid c.requires.core);
    }

pub unreachable-requires : goal.unreachable-requires
unreachable-requires c =
    let m = c.args.checked in
    let supply = c.args.supply.now in
    let tape = c.args.tape in
    let same = ap (λ (r : Module). length (encoding_of r)) (c.module.ensures.same ∙ c.in_ok-replay.ensures.replay) in
    let long = c.in-Err-TooLong.ensures.too_long c.in-Err-TooLong.field-0-is in
    let within = c.replay_modules_are_short.ensures.short m supply tape c.requires.runnable.valid c.requires.core in
    let below = c.requires.can.short in
    omega (arith, same, long, within, below)
