-- A replay module can be made from a cut if one can be made from its tape.
use Rattle.std.proofs.Common.{◌∙◌, arith}
use Rattle.std.proofs.lemmas.List.Elements.{All-from_recursion, recursion_from_All}
use Rattle.replay_module_laws.specs.Written.{IsConstantSegment}
use Rattle.generated_code_laws.specs.Playable.{AllWriteBytes}
use Rattle.rest_laws.specs.FittingCuts.{CutsAreLast, CutsAreLight, CutsFit}
use Rattle.rest_laws.proofs.LastSegments.{last_keep}
use Rattle.rest_theorem.specs.Cuts.{CutsAreConstant, CutsArePlayable}

pub cuts_are_constant : CutsAreLast → CutsAreConstant
cuts_are_constant last tape number opened cut constants is =
    last_keep IsConstantSegment (λ segment own. record { effects = own.effects; next = own.next }) tape.segments cut
    (last tape.segments cut number opened is) constants

pub cuts_are_playable : CutsAreLast → CutsAreLight → CutsFit → CutsArePlayable
cuts_are_playable last light fit m other supply other_supply store first tape number cut can begins is =
    let part = last tape.segments cut number 0 is in
    let weight = light tape cut number 0 is in
    let most = can.weight in
    record {
      runnable = begins.runnable;
      supplied = begins.supplied;
      begins = begins.begins;
      fits = begins.fits (record { segments = cut }) ∙ fit m tape number cut can.fits is;
      bytes =
          All-from_recursion AllWriteBytes cut
          (last_keep AllWriteBytes (λ segment writes. writes) tape.segments cut part
          (recursion_from_All AllWriteBytes tape.segments can.bytes));
      weight = omega (arith, weight, most);
    }
