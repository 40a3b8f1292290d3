use Rattle.std.proofs.Common.{◌≡◌, ◌∷◌, [], sym, subst, ap, ◌∙◌}
use Rattle.std.specs.Prelude.{false}
use Rattle.wasm_syntax.specs.Validity.{IsValid}
use Rattle.type_safety.specs.Configurations.{IsTypedCode}
use Rattle.wasm_flat.specs.FlatCode.{flat_of}
use Rattle.wasm_interp.specs.State.{StandsFor, State, state}
use Rattle.bench_machine.specs.Positions.{IsIdle, host}
use Rattle.bench_machine.proofs.Positions.{idle, no_actions, on_ok}
use Rattle.bench_machine.proofs.instances.machine_in.Goals as goal

pub returns-clause-idle : goal.returns-clause-idle
returns-clause-idle c =
    let m = c.args.checked.now in
    let valid : IsValid m = subst IsValid c.module-module.ensures.same c.module-module.ensures.valid in
    let found = c.typed_code.ensures.heights m valid in
    let code : IsTypedCode m found.0 = c.typed_code.ensures.code m found.0 valid c.requires.supported found.1 in
    let stands : StandsFor m found.0 host (state (flat_of m) c.args.store [] [] false) =
    c.hosts_go_on.ensures.begins m found.0 c.args.store [] c.requires.typed (no_actions m) in
    on_ok c.new.result (λ machine. machine ≡ state c.in_ok-flat.flat c.args.store [] [] false) (λ machine. IsIdle m machine)
    (λ machine is.
    let same : machine ≡ state (flat_of m) c.args.store [] [] false = is ∙ ap (λ flat. state flat c.args.store [] [] false) c.in_ok-flat.ensures.code in
    idle m c.args.script.now found.0 machine valid code c.requires.fits (subst (StandsFor m found.0 host) (sym same) stands))
    c.new.ensures
