-- The replay module of a run with foreign functions, or of a pair's run, keeps the functions of the original modules.
use Rattle.std.proofs.Common.{◌≡◌, ℕ, ◌+◌, List, length, map, Some, option_map, slice_get, sym, ap, ◌∙◌, arith, length-append}
use Rattle.std.proofs.lemmas.List.{length-map}
use Rattle.std.proofs.lemmas.Option.{slice_get-map, slice_get_within}
use Rattle.base.proofs.Lists.{get_after_by, get_front}
use Rattle.wasm_syntax.specs.declared.modules.Func.{Func}
use Rattle.wasm_syntax.specs.declared.modules.Module.{Module}
use Rattle.wasm_syntax.specs.Index.{imported_funcs}
use Rattle.host_script.specs.declared.scripts.Script.{Script}
use Rattle.history_spec.specs.Projection.{Projection}
use Rattle.history_spec.specs.Run.{all_one}
use Rattle.replay_module_spec.specs.Merge.{layout_of}
use Rattle.generated_code_laws.specs.Playable.{replay_of}
use Rattle.instance_spec.specs.ForeignRuns.{numbers}
use Rattle.instance_spec.specs.Outcomes.{WidenedOutcomesFollow}
use Rattle.instance_spec.specs.Widened.{renamed_func}
use Rattle.instance_spec.specs.declared.sides.Side.{Side}
use Rattle.instance_spec.specs.declared.sides.Side.TheVariants.{Left, Right}
use Rattle.instance_laws.proofs.WidenedParts as widened
use Rattle.pair_spec.specs.Linked.{linked, linked_func}
use Rattle.pair_spec.specs.Numbers.{all_hosts, defined_before, side_instance}
use Rattle.pair_spec.specs.Pairs.{Funcs, ModulePair, module_of}
use Rattle.pair_spec.specs.SideHistories.{side_history}
use Rattle.pair_laws.specs.Laws.{LinkedOutcomesFollow}
use Rattle.pair_laws.proofs.LinkedCode as pairs
use Rattle.r3_make.specs.Printed.{IsReplayFor}
use Rattle.r3_instances.specs.ForeignInputs.{foreign_run, foreign_source, widened_of}
use Rattle.r3_instances.specs.ForeignReplays.{foreign_hosts, foreign_layout, IsForeignReplayFor}
use Rattle.r3_instances.specs.PairInputs.{pair_run, pair_source}
use Rattle.r3_instances.specs.PairReplays.{pair_layout, IsPairReplayFor}
use Rattle.r3_instances.specs.WorldReplays.{KeepsChanged}
use Rattle.r3_instances.specs.declared.declared_modules.DeclaredModule.{DeclaredModule}
use Rattle.r3_instances.proofs.SourceCommands.{DoRunsFollow}
use Rattle.r3_instances.proofs.WorldOutcomes.{DoesFollow, to_replay}

mapped_at : {A B : Type 0} (f : A → B) (xs : List A) (place : ℕ) (x : A) → slice_get xs place ≡ Some x
    → slice_get (map f xs) place ≡ Some (f x)
mapped_at f xs place x is = slice_get-map f xs place ∙ ap (option_map f) is

-- the functions of a recorded module are in its replay module behind the imports
module _ (m : Module) (script : Script) (turns : ℕ) (printed : List ℕ) (is : IsReplayFor m script turns printed) where
  kept_at : (hosts : ℕ) → imported_funcs m ≡ hosts → (place : ℕ) (func : Func) → slice_get m.funcs place ≡ Some func
      → slice_get (replay_of m is.supply is.tape).funcs (hosts + place) ≡ Some func
  kept_at hosts same place func there =
      sym (ap (λ n. slice_get (replay_of m is.supply is.tape).funcs (n + place)) same)
      ∙ is.replay.stands.originals.funcs place func there

-- ---- foreign functions

module _ (declared : DeclaredModule) (script : Script) (turns : ℕ) (printed : List ℕ) where
  abbrev named : Func → Func
  named = renamed_func (numbers declared.checked (length declared.decls))

  foreign_hosts_are : imported_funcs (widened_of declared) ≡ foreign_hosts declared
  foreign_hosts_are = widened.imported_is declared.checked declared.decls

  foreign_kept : (is : IsReplayFor (widened_of declared) script turns printed)
      → KeepsChanged named declared.checked.funcs (foreign_hosts declared)
      (replay_of (widened_of declared) is.supply is.tape)
  foreign_kept is place func there =
      kept_at (widened_of declared) script turns printed is (foreign_hosts declared) foreign_hosts_are place (named func)
      (mapped_at named declared.checked.funcs place func there)

  foreign_layout_is : layout_of (widened_of declared) ≡ foreign_layout declared
  foreign_layout_is =
      ap (λ n. record { imports = n; defined = length (widened_of declared).funcs }) foreign_hosts_are
      ∙ ap (λ n. record { imports = foreign_hosts declared; defined = n }) (length-map declared.checked.funcs named)

  pub foreign_replay : IsReplayFor (widened_of declared) script turns printed
      → DoesFollow (widened_of declared) script (foreign_run declared script)
      → IsForeignReplayFor declared script turns printed
  foreign_replay is follow =
      let replay =
      to_replay (widened_of declared) script (foreign_run declared script) follow turns (foreign_layout declared)
      foreign_layout_is printed is
      in
      record { replay = replay; keeps = foreign_kept replay.made }

-- the run of a widened module is that with foreign functions
pub foreign_follow : (module_bytes decl_bytes : List ℕ) → WidenedOutcomesFollow
    → DoRunsFollow (foreign_source module_bytes decl_bytes)
foreign_follow module_bytes decl_bytes follow declared script read =
    follow declared.checked declared.decls script all_one

-- ---- pairs

module _ (modules : ModulePair) (script : Script) (turns : ℕ) (printed : List ℕ) where
  abbrev of_side : Side → Func → Func
  of_side side = linked_func (side_instance modules side)

  abbrev own : Side → List Func
  own side = map (of_side side) (module_of modules side).funcs

  pair_hosts_are : imported_funcs (linked modules) ≡ all_hosts modules Funcs
  pair_hosts_are = pairs.imported_is modules

  left_at : (place : ℕ) (func : Func) → slice_get modules.left.funcs place ≡ Some func
      → slice_get (linked modules).funcs place ≡ Some (of_side Left func)
  left_at place func there =
      let within = slice_get_within modules.left.funcs place func there in
      let long = length-map modules.left.funcs (of_side Left) in
      get_front (own Left) (own Right) place (omega (arith, within, long))
      ∙ mapped_at (of_side Left) modules.left.funcs place func there

  right_at : (place : ℕ) (func : Func) → slice_get modules.right.funcs place ≡ Some func
      → slice_get (linked modules).funcs (length modules.left.funcs + place) ≡ Some (of_side Right func)
  right_at place func there =
      let long = length-map modules.left.funcs (of_side Left) in
      get_after_by (own Left) (own Right) (length modules.left.funcs + place) place (omega (arith, long))
      ∙ mapped_at (of_side Right) modules.right.funcs place func there

  abbrev hosts : ℕ
  hosts = all_hosts modules Funcs

  pair_kept : (is : IsReplayFor (linked modules) script turns printed) (side : Side)
      → KeepsChanged (of_side side) (module_of modules side).funcs (defined_before modules Funcs side)
      (replay_of (linked modules) is.supply is.tape)
  pair_kept is Left place func there =
      kept_at (linked modules) script turns printed is hosts pair_hosts_are place (of_side Left func)
      (left_at place func there)
  pair_kept is Right place func there =
      let sum : hosts + length modules.left.funcs + place ≡ hosts + (length modules.left.funcs + place) = omega arith in
      ap (slice_get (replay_of (linked modules) is.supply is.tape).funcs) sum
      ∙ kept_at (linked modules) script turns printed is hosts pair_hosts_are (length modules.left.funcs + place)
      (of_side Right func) (right_at place func there)

  funcs_long : length (linked modules).funcs ≡ length modules.left.funcs + length modules.right.funcs
  funcs_long =
      let both = length-append (own Left) (own Right) in
      let left = length-map modules.left.funcs (of_side Left) in
      let right = length-map modules.right.funcs (of_side Right) in
      omega (arith, both, left, right)

  pair_layout_is : layout_of (linked modules) ≡ pair_layout modules
  pair_layout_is =
      ap (λ n. record { imports = n; defined = length (linked modules).funcs }) pair_hosts_are
      ∙ ap (λ n. record { imports = hosts; defined = n }) funcs_long

  pub pair_replay : IsReplayFor (linked modules) script turns printed
      → DoesFollow (linked modules) script (pair_run modules script) → IsPairReplayFor modules script turns printed
  pair_replay is follow =
      let replay =
      to_replay (linked modules) script (pair_run modules script) follow turns (pair_layout modules) pair_layout_is
      printed is
      in
      record {
        replay = replay;
        sides = λ side. ap (λ (shown : Projection). side_history modules side shown.history) replay.shows.shows;
        keeps = pair_kept replay.made;
      }

-- the run of a linked module is that of the pair
pub pair_follow : (left_bytes right_bytes : List ℕ) → LinkedOutcomesFollow
    → DoRunsFollow (pair_source left_bytes right_bytes)
pair_follow left_bytes right_bytes follow modules script read =
    follow modules script all_one
    (record { left = read.is_left.accepted.valid; right = read.is_right.accepted.valid; no_fault = read.no_fault })
