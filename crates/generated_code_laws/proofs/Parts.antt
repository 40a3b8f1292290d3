-- Parts of the proof that the run of a replay module follows that of its tape.
use Rattle.std.proofs.lemmas.List.{append_assoc}
use Rattle.std.proofs.Common.{◌≡◌, ℕ, List, [], ◌∷◌, ◌++◌, refl, sym, ap, ◌∙◌, subst, inl, inr}
use Rattle.std.specs.Prelude.{◌⊎◌, map}
use Rattle.wasm_syntax.specs.declared.values.Val.{Val}
use Rattle.wasm_syntax.specs.declared.modules.Module.{Module}
use Rattle.wasm_syntax.specs.Index.{imported_funcs}
use Rattle.trace_model.specs.declared.tapes.Effect.{Effect}
use Rattle.trace_model.specs.declared.tapes.Origin.{Origin}
use Rattle.trace_model.specs.declared.tapes.Origin.TheVariants.{Back, Import as FromImport}
use Rattle.trace_model.specs.declared.tapes.Segment.{Segment}
use Rattle.history_spec.specs.declared.entries.Entry.{Entry}
use Rattle.history_spec.specs.declared.entries.Entry.TheVariants.{HostCall, HostReturn, ImportCall, ImportReturn, Enter, Exit, Step, Trap, HostTrap}
use Rattle.history_spec.specs.Code.{Code}
use Rattle.history_spec.specs.Store.{Store}
use Rattle.history_spec.specs.Configuration.{Frame, Activation, InModule, InMain, InImport}
use Rattle.history_spec.specs.Settle.{SettleEnd, Continues, Finishes, NoRule as NoneHolds, SettleResult}
use Rattle.history_spec.specs.Step.{Stuck, step_result, after_entries, after_settling, progress_of, step}
use Rattle.history_spec.specs.Projection.{Original, side, shown_entries}
use Rattle.replay_module_spec.specs.declared.plans.Plan.{Plan}
use Rattle.replay_module_spec.specs.Plans.{left_of}
use Rattle.record_replay_spec.specs.TapeRun.{TapeConfig, TapeProgress, tape_progress, Plays, Over, Disagrees, NoRule, after_step, origin_after}
use Rattle.record_replay_spec.specs.ObservedStepLaws.{observed}
use Rattle.replay_run_spec.specs.Inside.{inside_after_all, args_after_all}
use Rattle.replay_run_spec.specs.Items.{Item, Makes, Changes, changes_of, is_block, Steps, entries_in}
use Rattle.replay_run_spec.specs.Stretches.{Stretches, at_entry, stretches_from}
use Rattle.replay_run_spec.proofs.Histories.{inside_over}
use Rattle.generated_code_laws.specs.Leads.{Place, Leads, IsOutside}
use Rattle.generated_code_laws.proofs.Along.{entries_over}
use Rattle.generated_code_laws.specs.Ends.{Shows}
use Rattle.generated_code_laws.specs.Single.{IsSingle, outside_step}
use Rattle.generated_code_laws.specs.Counts.{changes_in}
use Rattle.replay_module_spec.specs.Merge.{layout_of}
use Rattle.generated_code_laws.specs.Laws.{AreEffectsOfFirst}
use Rattle.replay_module_laws.specs.Stores.{counters, with_own}
use Rattle.generated_code_laws.proofs.Relation.{own_place, watched}
use Rattle.generated_code_laws.proofs.Settled.{ArePlaced, AreReturned, AreSettled, Settles, IsTurn, at_entries}
use Rattle.generated_code_laws.proofs.Together.{AreFit, IsHostOn, AreTogether, InOriginal, AtReturn, IsPlayed, IsMoved, HasShown, Follows, FollowsTo, tape_config, Claim, claim_at, AreBounded, AreWithin, AtHost, MakesFirst, Within, WithinBy}
use Rattle.generated_code_laws.proofs.Bounded.{AreWithinCalls}
use Rattle.generated_code_laws.specs.Below.{RunLaws}
use Rattle.generated_code_laws.proofs.Singles.{entries_made}

-- ---- lists of entries

origin_of_both : (came : Origin) (first second : List Entry)
    → origin_after (first ++ second) came ≡ origin_after second (origin_after first came)
origin_of_both came [] second = refl
origin_of_both came (ImportCall import args ∷ first) second = origin_of_both (FromImport import) first second
origin_of_both came (HostReturn func results ∷ first) second = origin_of_both Back first second
origin_of_both came (HostCall func args ∷ first) second = origin_of_both came first second
origin_of_both came (ImportReturn func results ∷ first) second = origin_of_both came first second
origin_of_both came (Enter func ∷ first) second = origin_of_both came first second
origin_of_both came (Exit func results ∷ first) second = origin_of_both came first second
origin_of_both came (Step func number operands results found ∷ first) second = origin_of_both came first second
origin_of_both came (Trap func number kind operands found ∷ first) second = origin_of_both came first second
origin_of_both came (HostTrap ∷ first) second = origin_of_both came first second

-- ---- stretches

made_stretches : (entries : List Entry) (rest : List Item)
    → stretches_from (map Makes entries ++ rest) ≡ at_entries entries (stretches_from rest)
made_stretches [] rest = refl
made_stretches (entry ∷ entries) rest = ap (at_entry entry) (made_stretches entries rest)

-- items that show no entry only change the present stretch
pub silent_stretches : (items rest : List Item) → entries_in items ≡ []
    → stretches_from (items ++ rest)
    ≡ record { here = changes_in items ++ (stretches_from rest).here; later = (stretches_from rest).later }
silent_stretches [] rest silent = refl
silent_stretches (Makes entry ∷ items) rest silent = absurd (cc silent)
silent_stretches (Changes change ∷ items) rest silent =
    ap (λ (s : Stretches). record { here = change ∷ s.here; later = s.later }) (silent_stretches items rest silent)
silent_stretches (Steps block ∷ items) rest silent = silent_stretches items rest silent

-- items of steps alone change no stretch
pub steps_stretches : (items rest : List Item) → entries_in items ≡ [] → changes_in items ≡ []
    → stretches_from (items ++ rest) ≡ stretches_from rest
steps_stretches items rest silent unchanged =
    silent_stretches items rest silent
    ∙ ap (λ l. record { here = l ++ (stretches_from rest).here; later = (stretches_from rest).later }) unchanged

at_both : (first second : List Entry) (s : Stretches)
    → at_entries (first ++ second) s ≡ at_entries first (at_entries second s)
at_both [] second s = refl
at_both (entry ∷ first) second s = ap (at_entry entry) (at_both first second s)

module _ (laws : RunLaws) (m : Module) (plan : Plan) (code : Code) where
  -- ---- after steps that show nothing

  pub follows_after : (premise : Type 0) (claim before : Claim) (a b : Place) (items : List Item)
      → Leads (watched m code) a items b → entries_in items ≡ []
      → (premise → (rest : List Item) → claim.effects rest → before.effects (items ++ rest))
      → ((rest : List Item) → claim.bound rest → before.bound (items ++ rest))
      → (entries : List Entry) (t : TapeProgress) → FollowsTo m plan code premise claim b entries t
      → FollowsTo m plan code premise before a entries t
  follows_after premise claim before a b items ab silent claimed bounded entries (Plays t) f =
      record {
        next = f.next;
        items = items ++ f.items;
        leads = laws.along (watched m code) a b f.next items f.items ab f.leads;
        shown = entries_over items f.items ∙ ap (λ l. l ++ entries_in f.items) silent ∙ f.shown;
        together = f.together;
        claimed = λ pr rest c.
            subst before.effects (sym (append_assoc items f.items rest))
            (claimed pr (f.items ++ rest) (f.claimed pr rest c));
        bounded = λ rest c.
            subst before.bound (sym (append_assoc items f.items rest)) (bounded (f.items ++ rest) (f.bounded rest c));
      }
  follows_after premise claim before a b items ab silent claimed bounded entries (Over outcome) f =
      record {
        items = items ++ f.items;
        ends = laws.end_after (watched m code) a b items f.items outcome ab f.ends;
        shown = entries_over items f.items ∙ ap (λ l. l ++ entries_in f.items) silent ∙ f.shown;
        claimed = λ pr. claimed pr f.items (f.claimed pr);
        bounded = bounded f.items f.bounded;
      }
  follows_after premise claim before a b items ab silent claimed bounded entries Disagrees f =
      record {
        items = items ++ f.items;
        shows = laws.show_after (watched m code) a b items f.items ab f.shows;
        shown = entries_over items f.items ∙ ap (λ l. l ++ entries_in f.items) silent ∙ f.shown;
      }
  follows_after premise claim before a b items ab silent claimed bounded entries NoRule f =
      record {
        items = items ++ f.items;
        shows = laws.show_after (watched m code) a b items f.items ab f.shows;
        shown = entries_over items f.items ∙ ap (λ l. l ++ entries_in f.items) silent ∙ f.shown;
      }

  -- no entry is to be shown
  pub nothing_shown : (p : Place) → HasShown m code p []
  nothing_shown p = record { items = []; shows = record { count = 0; shown = λ args. refl }; shown = refl }

  -- ---- a step that settles

  -- the function is outside the original, or a function of the original
  abbrev pub IsKnown : ℕ → Type 0
  IsKnown func = IsOutside (layout_of m) func ⊎ (side (layout_of m) func ≡ Original)

  -- a function outside the original shows a step of its own
  abbrev pub own_steps : (frame : Frame) → IsKnown frame.func → List Item
  own_steps frame (inl outside) = Steps (is_block frame.at.rest) ∷ []
  own_steps frame (inr original) = []

  -- one step of the replay module's run: its entries and where control is after them, before it settles
  pub record MakesStep (p : Place) (frame : Frame) (below : List Activation) (store : Store) (counts : List ℕ)
      (inside : List ℕ) (first own_first : List Entry) (own : SettleResult) (segments : List Segment) (extra : ℕ)
      (begun : List (List Segment)) : Type 0 where
    pub stands : p.config.stack ≡ InModule frame ∷ below
    pub makes : step (watched m code).program p.config
        ≡ after_entries own_first (after_settling (with_own (counters counts) store) [] own)
    pub shows : (args : List Val) → shown_entries (layout_of m) p.inside args own_first ≡ first
    pub control : inside_after_all p.inside own_first ≡ inside
    pub known : IsKnown frame.func
    pub quiet : IsOutside (layout_of m) frame.func
        → changes_of (watched m code).globals (observed p.config.store frame) ≡ []
    pub stretch : (s : Stretches) → s.here ≡ []
        → ((at_entries first s).here ≡ []) × ((at_entries first s).later ≡ s.later)
    pub bounded : (later : List Entry) → AreWithinCalls later → (rest : List Item)
        → (Within m plan segments).bound rest
        → AreBounded m plan extra begun segments (own_steps frame known ++ (map Makes (first ++ later) ++ rest))

  module _ (p : Place) (frame : Frame) (below : List Activation) (store : Store) (counts : List ℕ)
      (inside : List ℕ) (first own_first : List Entry) (tape own : SettleResult) (opened : List ℕ)
      (segments : List Segment) (came : Origin) (premise : Type 0) (extra : ℕ) (begun : List (List Segment))
      (made : MakesStep p frame below store counts inside first own_first own segments extra begun)
      (settles : Settles m (left_of (imported_funcs m) segments).begun opened inside tape own)
      (played : IsPlayed m plan store counts opened segments) where
    abbrev entries : List Entry
    entries = first ++ tape.entries

    abbrev own_changes : List Effect
    own_changes = changes_of (watched m code).globals (observed p.config.store frame)

    shows_all : (args : List Val) → shown_entries (layout_of m) p.inside args (own_first ++ own.entries) ≡ entries
    shows_all args =
        laws.projections (layout_of m) p.inside args own_first own.entries
        ∙ ap (λ l. l
        ++ shown_entries (layout_of m) (inside_after_all p.inside own_first) (args_after_all args own_first)
        own.entries) (made.shows args)
        ∙ ap (λ i. first ++ shown_entries (layout_of m) i (args_after_all args own_first) own.entries) made.control
        ∙ ap (λ l. first ++ l) (settles.shows (args_after_all args own_first))

    control_all : inside_after_all p.inside (own_first ++ own.entries) ≡ inside_after_all inside own.entries
    control_all =
        inside_over p.inside own_first own.entries ∙ ap (λ i. inside_after_all i own.entries) made.control

    outside_stretches : IsOutside (layout_of m) frame.func → (rest : List Item)
        → stretches_from (outside_step (watched m code) p frame entries ++ rest)
        ≡ at_entries entries (stretches_from rest)
    outside_stretches outside rest =
        ap (λ changes. stretches_from ((map Changes changes ++ map Makes entries) ++ rest)) (made.quiet outside)
        ∙ made_stretches entries rest

    -- a claim that holds where control settles holds here
    abbrev Closes : TapeConfig → Type 0
    Closes t =
        (rest : List Item) → (claim_at m plan t.config.stack t.left t.came).effects rest
        → AreWithin segments (at_entries entries (stretches_from rest))

    abbrev ClosesBound : TapeConfig → Type 0
    ClosesBound t =
        (rest : List Item) → (claim_at m plan t.config.stack t.left t.came).bound rest
        → (Within m plan segments).bound rest

    closes_within : ((s : Stretches) → at_entries tape.entries s ≡ s) → (rest : List Item)
        → (Within m plan segments).effects rest
        → AreWithin segments (at_entries entries (stretches_from rest))
    closes_within turn rest c =
        let s = stretches_from rest in
        let kept = made.stretch s c.0 in
        subst (AreWithin segments) (sym (at_both first tape.entries s ∙ ap (at_entries first) (turn s)))
        (kept.0, subst (AreEffectsOfFirst segments) (sym kept.1) c.1)

    closes_host : ((s : Stretches) → at_entries tape.entries s ≡ record { here = []; later = s.here ∷ s.later })
        → (rest : List Item) → MakesFirst segments rest → AreWithin segments (at_entries entries (stretches_from rest))
    closes_host turn rest c =
        let s = stretches_from rest in
        let begun : Stretches = record { here = []; later = s.here ∷ s.later } in
        let kept = made.stretch begun refl in
        subst (AreWithin segments) (sym (at_both first tape.entries s ∙ ap (at_entries first) (turn s)))
        (kept.0, subst (AreEffectsOfFirst segments) (sym kept.1) c)

    -- the step is a single step of the replay module, by how the run goes on
    single : (next : SettleEnd) → own.next ≡ next
        → IsSingle (watched m code) p frame below (own_first ++ own.entries) entries
        (progress_of (with_own (counters counts) store) [] next) (inside_after_all inside own.entries)
    single next is =
        record {
          stands = made.stands;
          makes =
              made.makes
              ∙ ap (λ n. step_result (own_first ++ own.entries)
              (progress_of (with_own (counters counts) store) [] n)) is;
          shows = shows_all;
          control = control_all;
        }

    -- the run goes on
    moved : (own_stack : List Activation) → own.next ≡ Continues own_stack
        → (t : TapeConfig)
        → AreTogether m plan code t (own_place store counts own_stack (inside_after_all inside own.entries))
        → Closes t → ClosesBound t → IsMoved m plan code premise (WithinBy m plan extra begun segments) p entries t
    moved own_stack is t together closes closes_bound =
        let end : Place = own_place store counts own_stack (inside_after_all inside own.entries) in
        let lead =
        laws.single.leads (watched m code) p frame below (own_first ++ own.entries) entries end
        (single (Continues own_stack) is) in
        go end lead made.known made.bounded together
      where
        go : (end : Place)
            → (IsOutside (layout_of m) frame.func
            → Leads (watched m code) p (outside_step (watched m code) p frame entries) end)
            × (side (layout_of m) frame.func ≡ Original → Leads (watched m code) p (map Makes entries) end)
            → (known : IsKnown frame.func)
            → ((later : List Entry) → AreWithinCalls later → (rest : List Item) → (Within m plan segments).bound rest
            → AreBounded m plan extra begun segments
            (own_steps frame known ++ (map Makes (first ++ later) ++ rest)))
            → ((together : AreTogether m plan code t end)
            → IsMoved m plan code premise (WithinBy m plan extra begun segments) p entries t)
        go end lead (inl outside) bounded =
            λ together. record {
              next = end;
              items = outside_step (watched m code) p frame entries;
              leads = lead.0 outside;
              shown = entries_made own_changes entries;
              together = together;
              claimed = λ pr rest c. subst (AreWithin segments) (sym (outside_stretches outside rest)) (closes rest c);
              bounded = λ rest c.
                  subst
                  (λ changes. AreBounded m plan extra begun segments
                  (Steps (is_block frame.at.rest) ∷ ((map Changes changes ++ map Makes entries) ++ rest)))
                  (sym (made.quiet outside)) (bounded tape.entries settles.keeps rest (closes_bound rest c));
            }
        go end lead (inr original) bounded =
            λ together. record {
              next = end;
              items = map Makes entries;
              leads = lead.1 original;
              shown = entries_made [] entries;
              together = together;
              claimed = λ pr rest c. subst (AreWithin segments) (sym (made_stretches entries rest)) (closes rest c);
              bounded = λ rest c. bounded tape.entries settles.keeps rest (closes_bound rest c);
            }

    -- no rule applies
    stuck : own.next ≡ NoneHolds → HasShown m code p entries
    stuck is =
        let shows =
        laws.single.shows (watched m code) p frame below (own_first ++ own.entries) entries Stuck
        (inside_after_all inside own.entries) (single NoneHolds is) in
        go shows made.known
      where
        go : (IsOutside (layout_of m) frame.func
            → Shows (watched m code) p (outside_step (watched m code) p frame entries))
            × (side (layout_of m) frame.func ≡ Original → Shows (watched m code) p (map Makes entries))
            → IsKnown frame.func → HasShown m code p entries
        go shows (inl outside) =
            record {
              items = outside_step (watched m code) p frame entries;
              shows = shows.0 outside;
              shown = entries_made own_changes entries;
            }
        go shows (inr original) =
            record { items = map Makes entries; shows = shows.1 original; shown = entries_made [] entries }

    -- what the tape's run does after the step
    pub follows_settled : Follows m plan code premise (WithinBy m plan extra begun segments) p
        (after_step segments came (after_entries first (after_settling store counts tape)))
    follows_settled = go tape.next own.next refl refl settles.ends
      where
        at_return : (stack own_stack : List Activation) → tape.next ≡ Continues stack → own.next ≡ Continues own_stack
            → IsHostOn stack
            → AreReturned m (left_of (imported_funcs m) segments).begun stack own_stack
            (inside_after_all inside own.entries)
            → ((came : Origin) → origin_after tape.entries came ≡ Back)
            → Closes (tape_config store stack counts segments (origin_after entries came))
            → ((rest : List Item) → (claim_at m plan stack segments (origin_after entries came)).bound rest
            → (AtHost m plan (origin_after entries came) segments).bound rest)
            → IsMoved m plan code premise (WithinBy m plan extra begun segments) p entries
            (tape_config store stack counts segments (origin_after entries came))
        at_return stack own_stack e f host returned back closes same =
            let here : origin_after entries came ≡ Back = origin_of_both came first tape.entries
            ∙ back (origin_after first came) in
            moved own_stack f (tape_config store stack counts segments (origin_after entries came))
            (subst
            (λ o. AreTogether m plan code (tape_config store stack counts segments o)
            (own_place store counts own_stack (inside_after_all inside own.entries))) (sym here)
            (AtReturn store stack counts segments own_stack (inside_after_all inside own.entries)
            (record {
              one = played.one;
              sound = played.sound;
              many = played.many;
              fits = subst (λ o. AreFit m o segments) (sym (settles.still stack e)) played.fits;
              calls = played.calls;
            }) host returned)) closes
            (λ rest c. subst (λ (o : Origin). (AtHost m plan o segments).bound rest) here (same rest c))

        placed : (stack own_stack : List Activation) → tape.next ≡ Continues stack → own.next ≡ Continues own_stack
            → ArePlaced m (left_of (imported_funcs m) segments).begun tape.entries stack own_stack
            (inside_after_all inside own.entries)
            → IsMoved m plan code premise (WithinBy m plan extra begun segments) p entries
            (tape_config store stack counts segments (origin_after entries came))
        placed [] own_stack e f at = absurd at
        placed (InModule top ∷ stack) own_stack e f at =
            moved own_stack f (tape_config store (InModule top ∷ stack) counts segments (origin_after entries came))
            (InOriginal store top stack counts segments (origin_after entries came) own_stack
            (inside_after_all inside own.entries)
            (record {
              one = played.one;
              sound = played.sound;
              many = played.many;
              fits = subst (λ o. AreFit m o segments) (sym (settles.still (InModule top ∷ stack) e)) played.fits;
              calls = played.calls;
            }) at) (closes_within (subst (λ n. IsTurn n tape.entries) e settles.turn)) (λ rest c. c)
        placed (InMain actions ∷ stack) own_stack e f at =
            at_return (InMain actions ∷ stack) own_stack e f tt at.0 at.1
            (closes_host (subst (λ n. IsTurn n tape.entries) e settles.turn)) (λ rest c. c)
        placed (InImport import args actions end ∷ stack) own_stack e f at =
            at_return (InImport import args actions end ∷ stack) own_stack e f tt at.0 at.1
            (closes_host (subst (λ n. IsTurn n tape.entries) e settles.turn)) (λ rest c. c)

        transported : {n own_n : SettleEnd} → tape.next ≡ n → own.next ≡ own_n
            → AreSettled m (left_of (imported_funcs m) segments).begun tape.entries tape.next own.next
            (inside_after_all inside own.entries)
            → AreSettled m (left_of (imported_funcs m) segments).begun tape.entries n own_n
            (inside_after_all inside own.entries)
        transported {n} {own_n} e f at =
            subst (λ n. AreSettled m (left_of (imported_funcs m) segments).begun tape.entries n own_n
            (inside_after_all inside own.entries)) e
            (subst (λ k. AreSettled m (left_of (imported_funcs m) segments).begun tape.entries tape.next k
            (inside_after_all inside own.entries)) f at)

        go : (n own_n : SettleEnd) → tape.next ≡ n → own.next ≡ own_n
            → AreSettled m (left_of (imported_funcs m) segments).begun tape.entries tape.next own.next
            (inside_after_all inside own.entries)
            → Follows m plan code premise (WithinBy m plan extra begun segments) p
            (after_step segments came (after_entries first (after_settling store counts tape)))
        go (Continues stack) (Continues own_stack) e f at =
            subst (λ n. FollowsTo m plan code premise (WithinBy m plan extra begun segments) p entries
            (tape_progress segments (origin_after entries came) (progress_of store counts n))) (sym e)
            (placed stack own_stack e f (transported e f at))
        go NoneHolds NoneHolds e f at =
            subst (λ n. FollowsTo m plan code premise (WithinBy m plan extra begun segments) p entries
            (tape_progress segments (origin_after entries came) (progress_of store counts n))) (sym e)
            (stuck f)
        go (Continues stack) (Finishes outcome) e f at = absurd (transported e f at)
        go (Continues stack) NoneHolds e f at = absurd (transported e f at)
        go (Finishes outcome) (Continues own_stack) e f at = absurd (transported e f at)
        go (Finishes outcome) (Finishes other) e f at = absurd (transported e f at)
        go (Finishes outcome) NoneHolds e f at = absurd (transported e f at)
        go NoneHolds (Continues own_stack) e f at = absurd (transported e f at)
        go NoneHolds (Finishes outcome) e f at = absurd (transported e f at)
