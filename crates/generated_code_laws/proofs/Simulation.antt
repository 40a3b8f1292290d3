-- The run of a replay module follows that of its tape, step by step.
use Rattle.std.proofs.Common.{◌≡◌, ℕ, zero, suc, ◌+◌, ◌<◌, ◌^◌, List, [], ◌∷◌, ◌++◌, length, Option, Some, None, Bool, true, false, slice_index, refl, sym, ap, ◌∙◌, subst, append-nil}
use Rattle.std.specs.List.{slice_index_or}
use Rattle.wasm_syntax.specs.declared.modules.Module.{Module}
use Rattle.wasm_syntax.specs.Index.{imported_funcs}
use Rattle.host_script.specs.declared.scripts.ResponseEnd.TheVariants.{Trap as EndsInTrap}
use Rattle.base.specs.declared.outcomes.Outcome.{Outcome}
use Rattle.trace_model.specs.declared.tapes.Origin.{Origin}
use Rattle.trace_model.specs.declared.tapes.Origin.TheVariants.{Begin, Back, Import}
use Rattle.trace_model.specs.declared.tapes.Segment.{Segment}
use Rattle.trace_model.specs.Fitting.{came}
use Rattle.history_spec.specs.declared.entries.Entry.{Entry}
use Rattle.history_spec.specs.Code.{Code, code_of}
use Rattle.history_spec.specs.Store.{Store}
use Rattle.history_spec.specs.Configuration.{Activation, InModule, InMain, InImport, Config}
use Rattle.replay_module_spec.specs.declared.plans.Plan.{Plan}
use Rattle.replay_module_spec.specs.Plans.{Left, innermost, with_origin, with_segment, left_of}
use Rattle.record_replay_spec.specs.Alike.{same_origin}
use Rattle.record_replay_spec.proofs.Alike.{origin_same}
use Rattle.record_replay_spec.specs.TapeRun.{pause, store_after_effects, TapeConfig, TapeProgress, Plays, Over, Disagrees, NoRule, TapeResult, tape_result, tape_after, after_effects, after_segment, after_segment_if, tape_step, tape_step_of, tape_steps}
use Rattle.replay_run_spec.specs.Items.{entries_in}
use Rattle.replay_run_spec.specs.Stretches.{Stretches}
use Rattle.generated_code_laws.specs.Leads.{Place}
use Rattle.generated_code_laws.proofs.Along.{entries_over}
use Rattle.generated_code_laws.specs.EffectLaws.{AllGrowSizes}
use Rattle.host_script.specs.declared.scripts.Action.TheVariants.{Call}
use Rattle.replay_module_spec.specs.Fragments.{start_index}
use Rattle.generated_code_laws.specs.Laws.{AreEffectsOfFirst}
use Rattle.generated_code_laws.specs.Playable.{GrowsNext}
use Rattle.replay_module_laws.specs.Codes.{IsReplayCode}
use Rattle.replay_module_laws.proofs.FittingPlans.{left_length}
use Rattle.generated_code_laws.proofs.Relation.{own_place, AreBeside, Runs, AreLeft, imports_in, watched}
use Rattle.generated_code_laws.proofs.Sound.{IsSound}
use Rattle.generated_code_laws.proofs.Settled.{AreReturned}
use Rattle.generated_code_laws.proofs.Counted.{counted}
use Rattle.generated_code_laws.proofs.AnsweredCalls.{IsReached}
use Rattle.generated_code_laws.proofs.Together.{Claim, claim_at, Playing, AtHost, tape_config, AreFit, AreTogether, InOriginal, AtBegin, AtReturn, AtCall, IsHostOn, HasShown, at_call, IsEnded, Follows, FollowsTo}
use Rattle.generated_code_laws.proofs.Parts.{steps_stretches, follows_after, nothing_shown}
use Rattle.generated_code_laws.proofs.Reached.{begun_parts, reached_back, reached_begin, reached_call}
use Rattle.generated_code_laws.proofs.Settled.{HasOneResult}
use Rattle.generated_code_laws.proofs.Bounded.{arrives, most_before}
use Rattle.generated_code_laws.proofs.CallsLeft.{set_length}
use Rattle.generated_code_laws.proofs.Fitting.{came_back, came_begin, came_call, first_fits}
use Rattle.generated_code_laws.proofs.HostSteps.{host_follows}
use Rattle.generated_code_laws.proofs.ModuleSteps.{module_follows}
use Rattle.generated_code_laws.specs.Below.{FollowLaws}

-- the premise of the host's next segment
abbrev AsHost : Store → List Segment → Type 0
AsHost store [] = Unit {0}
AsHost store (segment ∷ later) = AllGrowSizes store segment.effects

module _ (laws : FollowLaws) (m : Module) (plan : Plan) (code : Code) (is : IsReplayCode m plan code)
    (short : (import : ℕ) → length (slice_index_or plan.imports import []) < 2 ^ 32) (one : HasOneResult m) where
  -- ---- the host's steps

  module _ (store : Store) (stack : List Activation) (counts : List ℕ) (origin : Origin) (p : Place)
      (before : List ℕ) (host : IsHostOn stack) (sound : IsSound m store) (many : length counts ≡ imported_funcs m)
      (opens : (at : ℕ) (opened : List ℕ) → came m at before origin ≡ Some opened → opened ≡ imports_in stack) where
    abbrev config : Config
    config = record { store = store; stack = stack; counts = counts }

    abbrev Reaches : Segment → List Segment → Type 0
    Reaches segment later =
        IsReached m code p store counts stack
        (with_segment segment segment.next (left_of (imported_funcs m) later).begun) (most_before plan origin)
        × AreLeft plan.imports counts (left_of (imported_funcs m) later).calls
        × ((import : ℕ) → origin ≡ Import import → import < imported_funcs m)

    segment_follows : (segment : Segment) (later : List Segment) → AreFit m before (segment ∷ later)
        → segment.origin ≡ origin → Reaches segment later
        → Follows m plan code (AllGrowSizes store segment.effects) (AtHost m plan origin (segment ∷ later)) p
        (after_effects (code_of m) config later origin segment.next (store_after_effects segment.effects store))
    segment_follows segment later fits same reached =
        go (store_after_effects segment.effects store) refl
      where
        go : (o : Option Store) → store_after_effects segment.effects store ≡ o
            → Follows m plan code (AllGrowSizes store segment.effects) (AtHost m plan origin (segment ∷ later)) p
            (after_effects (code_of m) config later origin segment.next o)
        go None e = nothing_shown laws.run m plan code p
        go (Some after) e =
            let f = first_fits m before segment later fits in
            let r = reached.0 in
            let t = after_effects (code_of m) config later origin segment.next (Some after) in
            follows_after laws.run m plan code (AllGrowSizes store segment.effects) (Playing m plan segment later)
            (AtHost m plan origin (segment ∷ later)) p _ r.items r.leads r.silent
            (λ grows rest c. subst
            (λ (s : Stretches). AreEffectsOfFirst (segment ∷ later) (s.here ∷ s.later))
            (sym (steps_stretches r.items rest r.silent r.unchanged)) c)
            (λ rest c. arrives plan (imported_funcs m) segment later r.items rest r.silent c origin same reached.2 r.few
            r.few_blocks) t.entries t.next
            (host_follows laws.run laws.effects m plan code is store counts segment.origin segment.effects later
            origin after
            sound many reached.1 f.effects f.bytes e one segment.next stack r.own r.inside fits.at before f
            (opens fits.at f.opened (ap (came m fits.at before) (sym same) ∙ f.comes)) host r.beside)

    host_step : (segments : List Segment) → AreFit m before segments
        → ((segment : Segment) (later : List Segment) → segments ≡ segment ∷ later → segment.origin ≡ origin
        → Reaches segment later)
        → Follows m plan code (AsHost store segments) (AtHost m plan origin segments) p
        (after_segment (code_of m) config segments origin)
    host_step [] fits reaches = nothing_shown laws.run m plan code p
    host_step (segment ∷ later) fits reaches = go (same_origin segment.origin origin) refl
      where
        go : (b : Bool) → same_origin segment.origin origin ≡ b
            → Follows m plan code (AllGrowSizes store segment.effects) (AtHost m plan origin (segment ∷ later)) p
            (after_segment_if b (code_of m) config segment later origin)
        go false e = nothing_shown laws.run m plan code p
        go true e =
            let same = origin_same segment.origin origin e in
            segment_follows segment later fits same (reaches segment later refl same)

  -- the step of the tape's run if the host is topmost
  host_takes : (stack : List Activation) (t : TapeConfig) → IsHostOn stack
      → tape_step_of (code_of m) stack t ≡ after_segment (code_of m) t.config t.left t.came
  host_takes [] t host = absurd host
  host_takes (InModule frame ∷ below) t host = absurd host
  host_takes (InMain actions ∷ below) t host = refl
  host_takes (InImport import args actions end ∷ below) t host = refl

  -- the remaining segments before the first one, by its origin
  module _ (segments : List Segment) (segment : Segment) (later : List Segment) (e : segments ≡ segment ∷ later) where
    abbrev rest : Left
    rest = left_of (imported_funcs m) later

    abbrev taken : List (List Segment)
    taken = with_segment segment segment.next rest.begun

    left_is : (origin : Origin) → segment.origin ≡ origin
        → left_of (imported_funcs m) segments ≡ with_origin origin taken rest.calls
    left_is origin o = ap (left_of (imported_funcs m)) e ∙ ap (λ origin. with_origin origin taken rest.calls) o

  -- if the host is topmost, premise and claim are those of its next segment
  as_host : (store : Store) (stack : List Activation) (segments : List Segment) (came : Origin) (p : Place)
      (r : TapeResult)
      → IsHostOn stack → Follows m plan code (AsHost store segments) (AtHost m plan came segments) p r
      → Follows m plan code (GrowsNext store stack segments) (claim_at m plan stack segments came) p r
  as_host store [] segments came p r host f = absurd host
  as_host store (InModule frame ∷ below) segments came p r host f = absurd host
  as_host store (InMain actions ∷ below) [] came p r host f = f
  as_host store (InMain actions ∷ below) (segment ∷ later) came p r host f = f
  as_host store (InImport import args actions end ∷ below) [] came p r host f = f
  as_host store (InImport import args actions end ∷ below) (segment ∷ later) came p r host f = f

  step_follows : (t : TapeConfig) (p : Place) → AreTogether m plan code t p
      → Follows m plan code (GrowsNext t.config.store t.config.stack t.left)
      (claim_at m plan t.config.stack t.left t.came)
      p (tape_step (code_of m) t)
  step_follows _ _ (InOriginal store _ _ counts segments origin _ _ played
      (Runs stack own inside frame ty typed arity past under)) =
      module_follows laws.run laws.instructions m plan code is store frame stack counts segments origin played own
      inside ty
      typed arity past under
  step_follows _ _ (AtBegin store counts segments played first) =
      as_host store (InMain (pause ∷ []) ∷ []) segments Begin
      (own_place store counts (InMain (Call (start_index m) [] ∷ []) ∷ []) [])
      (after_segment (code_of m) (record { store = store; stack = InMain (pause ∷ []) ∷ []; counts = counts }) segments
      Begin) tt
      (host_step store (InMain (pause ∷ []) ∷ []) counts Begin _ [] tt played.sound played.many
      (λ at opened h. sym (came_begin m at [] opened h)) segments played.fits
      (λ segment later e o.
      let l = left_is segments segment later e Begin o in (
        reached_begin laws.steps m plan code is store counts (taken segments segment later e)
            (ap (λ (l : Left). innermost l.begun) (sym l) ∙ first),
        subst (λ (l : Left). AreLeft plan.imports counts l.calls) l played.calls,
        λ import e. absurd (cc e),
      )))
  step_follows _ _ (AtReturn store stack counts segments own inside played host back) =
      subst
      (Follows m plan code (GrowsNext store stack segments) (claim_at m plan stack segments Back)
      (own_place store counts own inside))
      (sym (host_takes stack (tape_config store stack counts segments Back) host))
      (as_host store stack segments Back (own_place store counts own inside)
      (after_segment (code_of m) (record { store = store; stack = stack; counts = counts }) segments Back) host
      (host_step store stack counts Back _ (imports_in stack) host played.sound played.many
      (λ at opened h. sym (came_back m at (imports_in stack) opened h)) segments played.fits
      (λ segment later e o.
      let l = left_is segments segment later e Back o in (
        reached_back laws.steps m plan code is store counts stack own inside (taken segments segment later e) host
            (subst (λ (l : Left).
            AreReturned m l.begun stack own inside) l back),
        subst (λ (l : Left). AreLeft plan.imports counts l.calls) l played.calls,
        λ import e. absurd (cc e),
      ))))
  step_follows _ _
      (AtCall store import args ty caller stack before segments own inside played typed below given under) =
      as_host store (InImport import args (pause ∷ []) EndsInTrap ∷ InModule caller ∷ stack) segments (Import import)
      (at_call m plan store before import ty args own inside)
      (after_segment (code_of m)
      (record {
        store = store;
        stack = InImport import args (pause ∷ []) EndsInTrap ∷ InModule caller ∷ stack;
        counts = counted before import;
      }) segments (Import import)) tt
      (host_step store (InImport import args (pause ∷ []) EndsInTrap ∷ InModule caller ∷ stack) (counted before import)
      (Import import) _ (imports_in stack) tt played.sound
      (set_length before import (slice_index before import + 1) ∙ played.many)
      (λ at opened h. sym (came_call m at (imports_in stack) opened import h)) segments played.fits
      (λ segment later e o.
      let l = left_is segments segment later e (Import import) o in
      let all = taken segments segment later e in
      let reached =
      reached_call laws.steps m plan code is store import args ty caller stack before own inside all
      (left_of (imported_funcs m) later).calls typed below given played.many
      (left_length (imported_funcs m) later) played.sound
      (subst (λ (l : Left). AreLeft plan.imports before l.calls) l played.calls)
      (short import)
      (subst (λ (l : Left).
      AreBeside m ty.results (InModule caller ∷ stack) l.begun own inside) l under) in (
        subst
            (λ begun. IsReached m code (at_call m plan store before import ty args own inside) store
            (counted before import)
            (InImport import args (pause ∷ []) EndsInTrap ∷ InModule caller ∷ stack) begun
            (most_before plan (Import import)))
            (sym (begun_parts segment segment.next (left_of (imported_funcs m) later).begun)) reached.0,
        reached.1,
        λ other e. let same : import ≡ other = cc e in subst (λ i. i < imported_funcs m) same below,
      )))

  -- ---- a number of steps

  -- the entries of a result of the tape's run are shown, and if that run is over, so is the replay module's run
  pub record PlaysOut (premise : Type 0) (claim : Claim) (p : Place) (t : TapeResult) : Type 0 where
    pub shown : HasShown m code p t.entries
    pub over : (outcome : Outcome) → t.next ≡ Over outcome → IsEnded m code premise claim p t.entries outcome

  -- from a configuration of the tape's run on, effects that give a size give a greater one
  abbrev pub GrowsFrom : TapeConfig → Type 0
  GrowsFrom t =
      (k : ℕ) (next : TapeConfig) → (tape_steps (code_of m) k (Plays t)).next ≡ Plays next
      → GrowsNext next.config.store next.config.stack next.left

  over_still : (k : ℕ) (outcome : Outcome) → tape_steps (code_of m) k (Over outcome) ≡ tape_result [] (Over outcome)
  over_still zero outcome = refl
  over_still (suc k) outcome = refl

  disagrees_still : (k : ℕ) → tape_steps (code_of m) k Disagrees ≡ tape_result [] Disagrees
  disagrees_still zero = refl
  disagrees_still (suc k) = refl

  no_rule_still : (k : ℕ) → tape_steps (code_of m) k NoRule ≡ tape_result [] NoRule
  no_rule_still zero = refl
  no_rule_still (suc k) = refl

  last_shown : (p : Place) (entries : List Entry) → HasShown m code p entries → HasShown m code p (entries ++ [])
  last_shown p entries h = subst (HasShown m code p) (sym (append-nil entries)) h

  module _ (premise first : Type 0) (claim : Claim) (p : Place) (k : ℕ) (entries : List Entry)
      (begins : premise → first) where
    continues : (next : TapeProgress) → ((t : TapeConfig) → next ≡ Plays t → premise → GrowsFrom t)
        → ((t : TapeConfig) (q : Place) → AreTogether m plan code t q
        → PlaysOut (GrowsFrom t) (claim_at m plan t.config.stack t.left t.came) q (tape_steps (code_of m) k (Plays t)))
        → FollowsTo m plan code first claim p entries next
        → PlaysOut premise claim p (tape_after entries (tape_steps (code_of m) k next))
    continues (Plays t) onward more f =
        let r = more t f.next f.together in
        record {
          shown =
              record {
                items = f.items ++ r.shown.items;
                shows = laws.run.show_after (watched m code) p f.next f.items r.shown.items f.leads r.shown.shows;
                shown =
                    entries_over f.items r.shown.items
                    ∙ ap (λ l. l ++ entries_in r.shown.items) f.shown
                    ∙ ap (λ l. entries ++ l) r.shown.shown;
              };
          over = λ outcome e.
              let o = r.over outcome e in
              record {
                items = f.items ++ o.items;
                ends = laws.run.end_after (watched m code) p f.next f.items o.items outcome f.leads o.ends;
                shown =
                    entries_over f.items o.items
                    ∙ ap (λ l. l ++ entries_in o.items) f.shown ∙ ap (λ l. entries ++ l) o.shown;
                claimed = λ pr. f.claimed (begins pr) o.items (o.claimed (onward t refl pr));
                bounded = f.bounded o.items o.bounded;
              };
        }
    continues (Over outcome) onward more f =
        subst (λ t. PlaysOut premise claim p (tape_after entries t)) (sym (over_still k outcome))
        (record {
          shown =
              last_shown p entries
              (record {
                items = f.items;
                shows = record { count = f.ends.count; shown = f.ends.shown };
                shown = f.shown;
              });
          over = λ found e.
              let same : outcome ≡ found = cc in
              subst (IsEnded m code premise claim p (entries ++ [])) same
              (subst (λ l. IsEnded m code premise claim p l outcome) (sym (append-nil entries))
              (record {
                items = f.items;
                ends = f.ends;
                shown = f.shown;
                claimed = λ pr. f.claimed (begins pr);
                bounded = f.bounded;
              }));
        })
    continues Disagrees onward more f =
        subst (λ t. PlaysOut premise claim p (tape_after entries t)) (sym (disagrees_still k))
        (record { shown = last_shown p entries f; over = λ found e. absurd (cc e) })
    continues NoRule onward more f =
        subst (λ t. PlaysOut premise claim p (tape_after entries t)) (sym (no_rule_still k))
        (record { shown = last_shown p entries f; over = λ found e. absurd (cc e) })

  pub run_follows : (k : ℕ) (t : TapeConfig) (p : Place) → AreTogether m plan code t p
      → PlaysOut (GrowsFrom t) (claim_at m plan t.config.stack t.left t.came) p (tape_steps (code_of m) k (Plays t))
  run_follows zero t p together =
      record { shown = nothing_shown laws.run m plan code p; over = λ outcome e. absurd (cc e) }
  run_follows (suc k) t p together =
      continues (GrowsFrom t) (GrowsNext t.config.store t.config.stack t.left)
      (claim_at m plan t.config.stack t.left t.came)
      p k
      (tape_step (code_of m) t).entries (λ grows. grows 0 t refl) (tape_step (code_of m) t).next
      (λ next e grows j last h.
      grows (suc j) last (ap (λ n. (tape_steps (code_of m) j n).next) e ∙ h))
      (λ next q beside. run_follows k next q beside) (step_follows t p together)
