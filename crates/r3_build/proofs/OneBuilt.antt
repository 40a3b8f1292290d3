-- A tape has at most one replay module for a module and a script, and otherwise one fault.
use Rattle.std.proofs.Common.{◌≡◌, ℕ, List, sym, ◌∙◌, ap}
use Rattle.wasm_syntax.specs.declared.modules.Module.{Module}
use Rattle.wasm_syntax.specs.Encoding.Shortest.{encoding_of}
use Rattle.host_script.specs.declared.scripts.Script.{Script}
use Rattle.trace_format.specs.Laws.{TapesAreDistinguished}
use Rattle.generated_code_laws.specs.Playable.{replay_of}
use Rattle.accepted_runs.proofs.OneResult.{linked-unlinked, one-supply, unlinked-one}
use Rattle.r3_faults.specs.declared.faults.Fault.{Fault}
use Rattle.r3_build.specs.BuildRefusals.{IsUnbuilt, OfLink, OfTape}
use Rattle.r3_build.specs.BuiltReplays.{IsBuilt}
use Rattle.r3_build.proofs.OneTape.{taken_one, taken_untaken, untaken_one}

module _ (m : Module) (script : Script) where
  module _ (tapes : TapesAreDistinguished) (digest bytes : List ℕ) where
    pub unbuilt_one : (f g : Fault) → IsUnbuilt m script digest bytes f → IsUnbuilt m script digest bytes g → f ≡ g
    unbuilt_one f g (OfLink u) (OfLink v) = unlinked-one m script f g u v
    unbuilt_one f g (OfLink u) (OfTape links v) = absurd (linked-unlinked m script links.supply links.store f links.linked u)
    unbuilt_one f g (OfTape links u) (OfLink v) = absurd (linked-unlinked m script links.supply links.store g links.linked v)
    unbuilt_one f g (OfTape links u) (OfTape other v) = untaken_one tapes m digest bytes f g u v

    pub built_unbuilt : (text : List ℕ) (fault : Fault) → IsBuilt m script digest bytes text
        → IsUnbuilt m script digest bytes fault → ⊥
    built_unbuilt text fault is (OfLink u) = linked-unlinked m script is.supply is.store fault is.linked u
    built_unbuilt text fault is (OfTape links u) = taken_untaken tapes m digest bytes is.tape fault is.taken u

    pub built_one : (a b : List ℕ) → IsBuilt m script digest bytes a → IsBuilt m script digest bytes b → a ≡ b
    built_one a b x y =
        let supply = one-supply m script x.supply y.supply x.store y.store x.linked y.linked in
        let tape = taken_one tapes m digest bytes x.tape y.tape x.taken y.taken in
        x.replay.shortest ∙ ap (λ s. encoding_of (replay_of m s x.tape)) supply
        ∙ ap (λ t. encoding_of (replay_of m y.supply t)) tape ∙ sym y.replay.shortest
