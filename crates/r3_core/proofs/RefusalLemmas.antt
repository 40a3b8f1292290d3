-- The statuses of refused bytes: no other cause has one of them.
use Rattle.std.proofs.Common.{◌≡◌, ℕ, ◌-◌, ◌^◌, min, List, refl, sym, ◌∙◌, ap, subst, Option, Some, None, inl, inr, Bool, true, false, not, ◌||◌, ◌==◌, true≢false}
use Rattle.r3_faults.specs.Lines.{status_of}
use Rattle.r3_faults.specs.declared.faults.Fault.{Fault}
use Rattle.r3_faults.specs.declared.faults.Fault.TheVariants as faults
use Rattle.wasm_syntax.specs.Profile as profile
use Rattle.wasm_syntax.specs.declared.limits.TheConstants.{LOAD_TURNS}
use Rattle.wasm_syntax.specs.Profile.{Refusal}
use Rattle.script_text.specs.declared.faults.ScriptFault.{ScriptFault}
use Rattle.script_text.specs.declared.faults.ScriptFault.TheVariants as script
use Rattle.r3_inputs.specs.Inputs.{invalid_fault, refusal_fault, script_fault, IsRefusedIn, ByBytes, ByRules, ByProfile, AreRefused, ByModule, ByScript}
use Rattle.accepted_runs.specs.Unlinked as unlinked
use Rattle.accepted_runs.specs.Runs as runs
use Rattle.rest_spec.specs.Rests.{calls_in}
use Rattle.r3_make.specs.RestRefusals as rests
use Rattle.r3_make.specs.RestRefusals.{HasNoRest, IsRestRefusal}
use Rattle.r3_make.specs.Refusals as refusals
use Rattle.r3_make.specs.Refusals.{IsMakeRefusal, IsUnmade, OfInputs, OfModule}
use Rattle.wasm_syntax.specs.declared.modules.Module.{Module}
use Rattle.host_script.specs.declared.scripts.Script.{Script}
use Rattle.host_script.specs.declared.scripts.LinkFault.{LinkFault}
use Rattle.host_script.specs.declared.scripts.LinkFault.TheVariants as link
use Rattle.r3_history.specs.Histories as histories
use Rattle.r3_history.specs.Histories.{IsHistoryRefusal, IsUnprinted, OfRun, OfLink}
use Rattle.r3_inputs.specs.declared.module_files.ModuleFile.{ModuleFile}
use Rattle.r3_inputs.specs.declared.module_files.ModuleFile.TheVariants.{Original, Instrumented, Replay as ReplayModule}
use Rattle.r3_replay.specs.ReplayTexts as texts
use Rattle.r3_replay.specs.ReplayTexts.{IsReplayRefusal, replay_fault}
use Rattle.r3_replay.proofs.FaultCases.{by_cause as of_replay}
use Rattle.trace_format.specs.declared.files.FormatFault.{FormatFault}
use Rattle.trace_format.specs.declared.files.FormatFault.TheVariants as format
use Rattle.r3_show.specs.FileLines.{IsShowRefusal, fault_of}
use Rattle.sha2.specs.Sha256.{sha256}
use Rattle.r3_instrument.specs.InstrumentedBytes as hooked
use Rattle.r3_instrument.specs.InstrumentedBytes.{IsHookedRefusal}
use Rattle.r3_record.specs.LogFiles as logs
use Rattle.r3_record.specs.LogFiles.{HasNoModuleLog, IsLogRefusal}
use Rattle.accepted_runs.specs.Runs.{run_fault}
use Rattle.accepted_runs.proofs.FaultCases.{by_cause as of_record}
use Rattle.trace_model.specs.Weight.{tape_weight}
use Rattle.r3_reduce.specs.TapeFiles.{IsReduceRefusal}
use Rattle.r3_build.specs.BuildRefusals as tapes
use Rattle.r3_build.specs.BuildRefusals.{IsBuildRefusal, IsUntaken}
use Rattle.decl_text.specs.declared.faults.DeclFault.{DeclFault}
use Rattle.decl_text.specs.declared.faults.DeclFault.TheVariants as decl
use Rattle.pair_spec.specs.declared.faults.PairFault.{PairFault}
use Rattle.pair_spec.specs.declared.faults.PairFault.TheVariants as pair
use Rattle.r3_instances.specs.ForeignInputs as foreign
use Rattle.r3_instances.specs.ForeignInputs.{foreign_source, AreUndeclared}
use Rattle.r3_instances.specs.PairInputs as pairs
use Rattle.r3_instances.specs.PairInputs.{pair_source, AreRefusedPairBytes}
use Rattle.r3_instances.specs.Sources as sources
use Rattle.r3_instances.specs.Sources.{Source, AreRefusedWithScript, HasNoHistory, HasNoReplay}
use Rattle.r3_instances.specs.WorldReplays as world_replays
use Rattle.r3_instances.specs.WorldReplays.{IsWorldUnmade}
use Rattle.r3_instances.specs.WorldRuns as worlds
use Rattle.r3_instances.specs.WorldRuns.{WorldRun}
use Rattle.load_maker.specs.Loads.{load_script}
use Rattle.load_maker.specs.declared.load_module.TheConstants.{LOAD_MODULE}
use Rattle.r3_core.specs.declared.jobs.Job.{Job}
use Rattle.r3_core.specs.declared.jobs.Job.TheVariants.{Make, Instrument, Record, Reduce, Build, History, Replay, Show, Load, Foreign, ForeignHistory, Pair, PairHistory, From}
use Rattle.r3_core.specs.Meanings.{IsRefusal}

-- ---- bytes that are refused

-- a status that no other cause has
abbrev IsOther : ℕ → Type 0
IsOther status = (status ≡ 2 → ⊥) × (status ≡ 3 → ⊥) × (status ≡ 4 → ⊥) × (status ≡ 13 → ⊥) × (status ≡ 14 → ⊥)

-- a test of such a status
abbrev is_other : ℕ → Bool
is_other status = not ((status == 2) || ((status == 3) || ((status == 4) || ((status == 13) || (status == 14)))))

IsOther-from : (status : ℕ) → is_other status ≡ true → IsOther status
IsOther-from status h = (differs 2 refl, differs 3 refl, differs 4 refl, differs 13 refl, differs 14 refl)
  where
    differs : (n : ℕ) → is_other n ≡ false → status ≡ n → ⊥
    differs n none e = true≢false (sym h ∙ ap is_other e ∙ none)

-- a fault that is named
named-other : (fault other : Fault) → fault ≡ other → is_other (status_of other) ≡ true → IsOther (status_of fault)
named-other fault other e is = subst (λ f. IsOther (status_of f)) (sym e) (IsOther-from (status_of other) is)

invalid-other : (place : Option ℕ) → is_other (status_of (invalid_fault place)) ≡ true
invalid-other None = refl
invalid-other (Some func) = refl

profile-other : (refusal : Refusal) → is_other (status_of (refusal_fault refusal)) ≡ true
profile-other (profile.Unsupported func number feature) = refl
profile-other (profile.Limit which value) = refl
profile-other (profile.Reserved import) = refl

script-other : (found : ScriptFault) → (found ≡ script.Memory → ⊥) → is_other (status_of (script_fault found)) ≡ true
script-other script.NotJson differs = refl
script-other (script.Shape path) differs = refl
script-other (script.UnknownName name) differs = refl
script-other (script.WrongType name) differs = refl
script-other (script.NoAccess name) differs = refl
script-other (script.CallsOwn name) differs = refl
script-other script.Memory differs = absurd (differs refl)

module-other : (file : ModuleFile) (bytes : List ℕ) (fault : Fault) → IsRefusedIn file bytes fault → IsOther (status_of fault)
module-other file bytes fault (ByBytes malformed) = named-other fault (faults.Malformed malformed.at) malformed.named refl
module-other file bytes fault (ByRules m encoded invalid) = named-other fault (invalid_fault invalid.place) invalid.named (invalid-other invalid.place)
module-other file bytes fault (ByProfile m encoded valid refused) =
    named-other fault (refusal_fault refused.refusal) refused.named (profile-other refused.refusal)

inputs-other : (module_bytes script_bytes : List ℕ) (fault : Fault) → AreRefused module_bytes script_bytes fault
    → IsOther (status_of fault)
inputs-other module_bytes script_bytes fault (ByModule refused) = module-other Original module_bytes fault refused
inputs-other module_bytes script_bytes fault (ByScript m is refused) =
    named-other fault (script_fault refused.found) refused.named (script-other refused.found refused.differs)

link-other : (found : LinkFault) → (found ≡ link.Memory → ⊥) → is_other (status_of (unlinked.link_fault found)) ≡ true
link-other (link.Missing import) differs = refl
link-other (link.Mismatch import) differs = refl
link-other (link.Segment number) differs = refl
link-other link.Memory differs = absurd (differs refl)

unmade-status : (m : Module) (played : Script) (turns : ℕ) (fault : Fault) → IsUnmade m played turns fault
    → IsOther (status_of fault)
unmade-status m played turns fault (refusals.OfLink u) = named-other fault (unlinked.link_fault u.found) u.named (link-other u.found u.differs)
unmade-status m played turns fault (refusals.OfRun (runs.OfScript u)) = named-other fault (faults.Script u.turn u.kind) u.named refl
unmade-status m played turns fault (refusals.OfRun (runs.OfTurns u)) = named-other fault (faults.Spent turns) u.named refl
unmade-status m played turns fault (refusals.OfWeight u) =
    named-other fault (faults.TapeLimit (min (tape_weight u.tape) (2 ^ 64 - 1))) u.named refl

make-status : (module_bytes script_bytes : List ℕ) (turns : ℕ) (fault : Fault)
    → IsMakeRefusal module_bytes script_bytes turns fault → IsOther (status_of fault)
make-status m s turns fault (OfInputs refused) = inputs-other m s fault refused
make-status m s turns fault (OfModule n played inputs unmade) = unmade-status n played turns fault unmade

no_rest-status : (m : Module) (played : Script) (turns number : ℕ) (fault : Fault)
    → HasNoRest m played turns number fault → IsOther (status_of fault)
no_rest-status m played turns number fault (rests.OfLink u) = unmade-status m played turns fault (refusals.OfLink u)
no_rest-status m played turns number fault (rests.OfRun u) = unmade-status m played turns fault (refusals.OfRun u)
no_rest-status m played turns number fault (rests.OfCalls u) =
    named-other fault (faults.NoCall number (min (calls_in u.run.history 0) (2 ^ 64 - 1))) u.named refl
no_rest-status m played turns number fault (rests.OfWeight u) = unmade-status m played turns fault (refusals.OfWeight u.heavy)

rest-status : (module_bytes script_bytes : List ℕ) (turns number : ℕ) (fault : Fault)
    → IsRestRefusal module_bytes script_bytes turns number fault → IsOther (status_of fault)
rest-status m s turns number fault (rests.OfInputs refused) = inputs-other m s fault refused
rest-status m s turns number fault (rests.OfModule n played inputs none) = no_rest-status n played turns number fault none

unreported-status : (m : Module) (played : Script) (turns : ℕ) (fault : Fault) → IsUnprinted m played turns fault
    → IsOther (status_of fault)
unreported-status m played turns fault (OfLink u) = named-other fault (unlinked.link_fault u.found) u.named (link-other u.found u.differs)
unreported-status m played turns fault (histories.OfOutcome (runs.OfScript u)) = named-other fault (faults.Script u.turn u.kind) u.named refl
unreported-status m played turns fault (histories.OfOutcome (runs.OfTurns u)) = named-other fault (faults.Spent turns) u.named refl

history-status : (module_bytes script_bytes : List ℕ) (turns : ℕ) (fault : Fault)
    → IsHistoryRefusal module_bytes script_bytes turns fault → IsOther (status_of fault)
history-status m s turns fault (histories.OfInputs refused) = inputs-other m s fault refused
history-status m s turns fault (OfRun original played inputs unreported) = unreported-status original played turns fault unreported

replay-status : (binary : List ℕ) (turns : ℕ) (fault : Fault) → IsReplayRefusal binary turns fault → IsOther (status_of fault)
replay-status binary turns fault (texts.OfModule refused) = module-other ReplayModule binary fault refused
replay-status binary turns fault (texts.OfRun m is_module u) = named-other fault (replay_fault turns u.found) u.named
    (of_replay (λ fault. is_other (status_of fault) ≡ true) turns refl refl refl (λ segment. refl) refl u.found u.differs)

trace-other : (found : FormatFault) → (found ≡ format.Memory → ⊥) → is_other (status_of (fault_of found)) ≡ true
trace-other (format.Version found) differs = refl
trace-other (format.Bad at) differs = refl
trace-other format.Memory differs = absurd (differs refl)

show-status : (trace : List ℕ) (fault : Fault) → IsShowRefusal trace fault → IsOther (status_of fault)
show-status trace fault u = named-other fault (fault_of u.found) u.named (trace-other u.found u.differs)

hooked-status : (bytes : List ℕ) (fault : Fault) → IsHookedRefusal bytes fault → IsOther (status_of fault)
hooked-status bytes fault (hooked.OfModule refused) = module-other Original bytes fault refused
hooked-status bytes fault (hooked.OfLength m is_module long) = named-other fault faults.HookedLimit long.named refl

unlogged-status : (m : Module) (script : List ℕ) (turns : ℕ) (fault : Fault) → HasNoModuleLog m script turns fault → IsOther (status_of fault)
unlogged-status m script turns fault (logs.OfForm none named) = named-other fault faults.NotHooked named refl
unlogged-status m script turns fault (logs.OfScript form has_form refused) =
    named-other fault (script_fault refused.found) refused.named (script-other refused.found refused.differs)
unlogged-status m script turns fault (logs.OfLog form has_form played is_script (logs.OfLink u)) =
    named-other fault (unlinked.link_fault u.found) u.named (link-other u.found u.differs)
unlogged-status m script turns fault (logs.OfLog form has_form played is_script (logs.OfRun supply store links u)) =
    named-other fault (run_fault turns u.found) u.named
    (of_record (λ fault. is_other (status_of fault) ≡ true) turns (λ turn kind. refl) refl (λ number. refl) u.found u.differs)

record-status : (h s : List ℕ) (turns : ℕ) (fault : Fault) → IsLogRefusal h s turns fault → IsOther (status_of fault)
record-status h s turns fault (logs.OfModule refused) = module-other Instrumented h fault refused
record-status h s turns fault (logs.OfModuleLog m is_module none) = unlogged-status m s turns fault none

reduce-status : (log : List ℕ) (fault : Fault) → IsReduceRefusal log fault → IsOther (status_of fault)
reduce-status log fault (inl u) = named-other fault (fault_of u.found) u.named (trace-other u.found u.differs)
reduce-status log fault (inr u) = named-other fault (faults.Unbalanced u.unbalanced.event) u.unbalanced.named refl

untaken-status : (m : Module) (digest bytes : List ℕ) (fault : Fault) → IsUntaken m digest bytes fault → IsOther (status_of fault)
untaken-status m digest bytes fault (tapes.ByBytes u) = named-other fault (fault_of u.found) u.named (trace-other u.found u.differs)
untaken-status m digest bytes fault (tapes.ByDigest u) = named-other fault (faults.OtherModule u.other digest) u.named refl
untaken-status m digest bytes fault (tapes.ByForm u) = named-other fault (faults.Unfit u.unfit.segment) u.unfit.named refl
untaken-status m digest bytes fault (tapes.ByWeight u) = named-other fault (faults.TapeLimit (min (tape_weight u.tape) (2 ^ 64 - 1))) u.named refl

unbuilt-status : (m : Module) (played : Script) (digest tape : List ℕ) (fault : Fault) → tapes.IsUnbuilt m played digest tape fault
    → IsOther (status_of fault)
unbuilt-status m played digest tape fault (tapes.OfLink u) = named-other fault (unlinked.link_fault u.found) u.named (link-other u.found u.differs)
unbuilt-status m played digest tape fault (tapes.OfTape links u) = untaken-status m digest tape fault u

build-status : (m s t : List ℕ) (fault : Fault) → IsBuildRefusal m s t fault → IsOther (status_of fault)
build-status m s t fault (tapes.OfInputs refused) = inputs-other m s fault refused
build-status m s t fault (tapes.OfModule n played inputs u) = unbuilt-status n played (sha256 m) t fault u

decl-other : (found : DeclFault) → (found ≡ decl.Memory → ⊥) → is_other (status_of (foreign.decl_fault found)) ≡ true
decl-other decl.NotJson differs = refl
decl-other (decl.Shape path) differs = refl
decl-other (decl.Reserved import) differs = refl
decl-other (decl.Taken name) differs = refl
decl-other decl.Memory differs = absurd (differs refl)

undeclared-other : (m d : List ℕ) (fault : Fault) → AreUndeclared m d fault → IsOther (status_of fault)
undeclared-other m d fault (foreign.NoModule refused) = module-other Original m fault refused
undeclared-other m d fault (foreign.NoDecls n is_module refused) =
    named-other fault (foreign.decl_fault refused.found) refused.named (decl-other refused.found refused.differs)

pair-other : (found : PairFault) → (found ≡ pair.Memory → ⊥) → is_other (status_of (pairs.pair_fault found)) ≡ true
pair-other (pair.Unresolved side import) differs = refl
pair-other (pair.Mismatch side import) differs = refl
pair-other pair.TwoMemories differs = refl
pair-other pair.TwoTables differs = refl
pair-other pair.TwoStarts differs = refl
pair-other pair.Memory differs = absurd (differs refl)

unlinked-other : (l r : List ℕ) (fault : Fault) → AreRefusedPairBytes l r fault → IsOther (status_of fault)
unlinked-other l r fault (pairs.NoLeft refused) = module-other Original l fault refused
unlinked-other l r fault (pairs.NoRight m is_left refused) = module-other Original r fault refused
unlinked-other l r fault (pairs.NoLink modules is_left is_right refused) =
    named-other fault (pairs.pair_fault refused.found) refused.named (pair-other refused.found refused.differs)

-- the run of what files are read as
module _ {X : Type 0} (source : Source X) (script_bytes : List ℕ) (turns : ℕ) (fault : Fault)
    (unread-other : source.IsUnread fault → IsOther (status_of fault)) where
  script_inputs-other : AreRefusedWithScript source script_bytes fault → IsOther (status_of fault)
  script_inputs-other (sources.ByFiles unread) = unread-other unread
  script_inputs-other (sources.ByScript x read refused) =
      named-other fault (script_fault refused.found) refused.named (script-other refused.found refused.differs)

  module _ (run : WorldRun) where
    world_link-status : worlds.IsWorldUnlinked run fault → IsOther (status_of fault)
    world_link-status u = named-other fault (unlinked.link_fault u.found) u.named (link-other u.found u.differs)

    world_none-status : worlds.HasNoWorldOutcome run turns fault → IsOther (status_of fault)
    world_none-status (worlds.OfScript u) = named-other fault (faults.Script u.turn u.kind) u.named refl
    world_none-status (worlds.OfTurns u) = named-other fault (faults.Spent turns) u.named refl

    world_unmade-status : (m : Module) (played : Script) → IsWorldUnmade m played run turns fault
        → IsOther (status_of fault)
    world_unmade-status m played (world_replays.OfLink u) = world_link-status u
    world_unmade-status m played (world_replays.OfOutcome u) = world_none-status u
    world_unmade-status m played (world_replays.OfWeight u) =
        named-other fault (faults.TapeLimit (min (tape_weight u.tape) (2 ^ 64 - 1))) u.named refl

    world_unprinted-status : worlds.IsWorldUnprinted run turns fault → IsOther (status_of fault)
    world_unprinted-status (worlds.OfLink u) = world_link-status u
    world_unprinted-status (worlds.OfOutcome u) = world_none-status u

  no_replay-status : HasNoReplay source script_bytes turns fault → IsOther (status_of fault)
  no_replay-status (sources.OfBytes refused) = script_inputs-other refused
  no_replay-status (sources.OfModule x played inputs unmade) =
      world_unmade-status (source.run x played) (source.recorded x) played unmade

  no_history-status : HasNoHistory source script_bytes turns fault → IsOther (status_of fault)
  no_history-status (sources.OfInputs refused) = script_inputs-other refused
  no_history-status (sources.OfRun x played inputs unprinted) = world_unprinted-status (source.run x played) unprinted

pub refusal-status : (job : Job (List ℕ)) (fault : Fault) → IsRefusal job fault → IsOther (status_of fault)
refusal-status (Make m s turns) fault c = make-status m s turns fault c
refusal-status (Instrument m) fault c = hooked-status m fault c
refusal-status (Record hooked s turns) fault c = record-status hooked s turns fault c
refusal-status (Reduce log) fault c = reduce-status log fault c
refusal-status (Build m s tape) fault c = build-status m s tape fault c
refusal-status (History m s turns) fault c = history-status m s turns fault c
refusal-status (Replay binary turns) fault c = replay-status binary turns fault c
refusal-status (Show trace) fault c = show-status trace fault c
refusal-status (Load calls) fault c = make-status LOAD_MODULE (load_script calls) LOAD_TURNS fault c
refusal-status (Foreign m decls s turns) fault c =
    no_replay-status (foreign_source m decls) s turns fault (undeclared-other m decls fault) c
refusal-status (ForeignHistory m decls s turns) fault c =
    no_history-status (foreign_source m decls) s turns fault (undeclared-other m decls fault) c
refusal-status (Pair left right s turns) fault c =
    no_replay-status (pair_source left right) s turns fault (unlinked-other left right fault) c
refusal-status (PairHistory left right s turns) fault c =
    no_history-status (pair_source left right) s turns fault (unlinked-other left right fault) c
refusal-status (From m s turns call) fault c = rest-status m s turns call fault c
