-- The commands `foreign` and `pair` in the form of the commands that read files and a script.
use Rattle.std.proofs.Common.{ℕ, List}
use Rattle.instance_spec.specs.Outcomes.{WidenedOutcomesFollow}
use Rattle.pair_laws.specs.Laws.{LinkedOutcomesFollow}
use Rattle.r3_inputs.proofs.TextStages.{AreTextStages}
use Rattle.r3_make.specs.Printed.{IsReplayFor}
use Rattle.r3_make.specs.Refusals.{IsUnmade}
use Rattle.r3_instances.specs.ForeignInputs.{foreign_source}
use Rattle.r3_instances.specs.ForeignReplays.{IsForeignPrinted, IsForeignRefusal, IsForeignReplayFor}
use Rattle.r3_instances.specs.PairInputs.{pair_source}
use Rattle.r3_instances.specs.PairReplays.{IsPairPrinted, IsPairRefusal, IsPairReplayFor}
use Rattle.r3_instances.specs.RecordedModules.{AreRunInputs}
use Rattle.r3_instances.specs.Sources.{AreRefusedWithScript}
use Rattle.r3_instances.proofs.ReplayFunctions.{foreign_follow, foreign_replay, pair_follow, pair_replay}
use Rattle.r3_instances.proofs.SourceCommands.{replay_stages}

module _ (module_bytes decl_bytes script_bytes : List ℕ) (turns : ℕ) (law : WidenedOutcomesFollow) where
  pub foreign_stages : AreTextStages (AreRunInputs (foreign_source module_bytes decl_bytes) script_bytes)
      (λ fault. AreRefusedWithScript (foreign_source module_bytes decl_bytes) script_bytes fault)
      (λ inputs text. IsReplayFor inputs.checked inputs.script turns text)
      (λ inputs fault. IsUnmade inputs.checked inputs.script turns fault)
      (IsForeignPrinted module_bytes decl_bytes script_bytes turns)
      (IsForeignRefusal module_bytes decl_bytes script_bytes turns)
  foreign_stages =
      let follow = foreign_follow module_bytes decl_bytes law in
      replay_stages (foreign_source module_bytes decl_bytes) script_bytes turns follow
      (λ declared script printed. IsForeignReplayFor declared script turns printed)
      (λ declared script printed read made.
      foreign_replay declared script turns printed made (follow declared script read))

module _ (left_bytes right_bytes script_bytes : List ℕ) (turns : ℕ) (law : LinkedOutcomesFollow) where
  pub pair_stages : AreTextStages (AreRunInputs (pair_source left_bytes right_bytes) script_bytes)
      (λ fault. AreRefusedWithScript (pair_source left_bytes right_bytes) script_bytes fault)
      (λ inputs text. IsReplayFor inputs.checked inputs.script turns text)
      (λ inputs fault. IsUnmade inputs.checked inputs.script turns fault)
      (IsPairPrinted left_bytes right_bytes script_bytes turns) (IsPairRefusal left_bytes right_bytes script_bytes turns)
  pair_stages =
      let follow = pair_follow left_bytes right_bytes law in
      replay_stages (pair_source left_bytes right_bytes) script_bytes turns follow
      (λ modules script printed. IsPairReplayFor modules script turns printed)
      (λ modules script printed read made. pair_replay modules script turns printed made (follow modules script read))
