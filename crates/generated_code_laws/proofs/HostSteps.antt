-- A step of the host in the tape's run: its effects are performed, and control leaves it.
use Rattle.std.proofs.Common.{◌≡◌, ℕ, ◌+◌, ◌*◌, ◌≤◌, Option, None, List, [], ◌∷◌, ◌++◌, length, reverse, Some, true, false, replicate, sym, ap, ◌∙◌, subst, arith, option_to_list}
use Rattle.std.specs.Prelude.{map}
use Rattle.std.specs.List.{All, list_all}
use Rattle.std.proofs.lemmas.List.{append-nil, length-map}
use Rattle.wasm_syntax.specs.declared.values.Val.{Val}
use Rattle.wasm_syntax.specs.declared.signatures.FuncType.{FuncType}
use Rattle.wasm_syntax.specs.declared.instructions.Instr.{Instr}
use Rattle.wasm_syntax.specs.declared.instructions.Instr.TheVariants.{Call, Const, Drop, Return}
use Rattle.wasm_syntax.specs.declared.modules.Module.{Module}
use Rattle.wasm_syntax.specs.Nest.{Nest, Empty, Plain}
use Rattle.wasm_syntax.specs.Index.{func_type, imported_funcs}
use Rattle.host_script.specs.declared.scripts.ResponseEnd.TheVariants.{Trap as EndsInTrap}
use Rattle.trace_model.specs.declared.tapes.Effect.{Effect}
use Rattle.trace_model.specs.declared.tapes.Next.{Next}
use Rattle.trace_model.specs.declared.tapes.Next.TheVariants.{Call as Calls, Return as Gives, End as Ends, Trap as Traps}
use Rattle.trace_model.specs.declared.tapes.Origin.{Origin}
use Rattle.trace_model.specs.declared.tapes.Segment.{Segment}
use Rattle.trace_model.specs.Fitting.{effect_fits, left}
use Rattle.trace_model.specs.Weight.{next_weight}
use Rattle.history_spec.specs.Code.{Code, code_of, types_of}
use Rattle.history_spec.specs.Store.{Store}
use Rattle.history_spec.specs.Configuration.{Label, Frame, Activation, InModule, InMain, InImport}
use Rattle.replay_module_spec.specs.declared.plans.Plan.{Plan}
use Rattle.replay_module_spec.specs.Plans.{innermost, with_segment, left_of}
use Rattle.replay_module_spec.specs.Dispatch.{sequence}
use Rattle.replay_module_spec.specs.Segments.{drops, effects_code, next_code, segments_code}
use Rattle.replay_module_spec.specs.Fragments.{start_index}
use Rattle.record_replay_spec.specs.TapeRun.{TapeResult, pause, store_after_effects, after_next}
use Rattle.replay_run_spec.specs.Items.{Item, Steps, entries_in}
use Rattle.replay_run_spec.specs.Stretches.{AreSameChanges, Stretches, stretches_from}
use Rattle.generated_code_laws.specs.Leads.{Leads, IsOutside, Behind, Standing, standing}
use Rattle.generated_code_laws.specs.EffectLaws.{AllGrowSizes, AreItemsOf, EffectsAreMade}
use Rattle.generated_code_laws.specs.Counts.{changes_in}
use Rattle.generated_code_laws.proofs.Does.{sequence_over}
use Rattle.replay_module_spec.specs.Merge.{layout_of}
use Rattle.generated_code_laws.specs.Playable.{WritesBytes}
use Rattle.generated_code_laws.specs.Laws.{AreEffectsOfFirst}
use Rattle.replay_module_laws.specs.Stores.{counters, with_own}
use Rattle.replay_module_laws.specs.Codes.{IsReplayCode}
use Rattle.generated_code_laws.proofs.Relation.{AreBeside, Works, Runs, Answers, AreLeft, imports_in, own_place, waiting_frame, returning_frame, watched, host_standing}
use Rattle.generated_code_laws.proofs.Sides.{appended_side}
use Rattle.generated_code_laws.proofs.Sound.{IsSound, effects_writable, grow_beside}
use Rattle.generated_code_laws.proofs.EffectStores.{effects_beside}
use Rattle.generated_code_laws.proofs.Groups.{next_some}
use Rattle.generated_code_laws.proofs.AnsweredCalls.{same_steps}
use Rattle.generated_code_laws.proofs.Together.{AreWithin, MakesFirst, Playing, WithinBy, AreFit, IsHostOn, IsPlayed, Follows}
use Rattle.generated_code_laws.proofs.Settled.{HasOneResult}
use Rattle.generated_code_laws.proofs.Bounded.{bounded_before, segment_steps, steps_counted, with_next}
use Rattle.generated_code_laws.proofs.Parts.{silent_stretches, steps_stretches, follows_after, nothing_shown}
use Rattle.generated_code_laws.proofs.Fitting.{IsFit, leaves_call, leaves_return}
use Rattle.generated_code_laws.proofs.Plays.{ArePushed, calls_original, pushes}
use Rattle.generated_code_laws.proofs.Ends.{returns_result, traps, work_ends}
use Rattle.generated_code_laws.specs.Below.{RunLaws}

-- equal numbers are at least each other
at_least : {a b : ℕ} → a ≡ b → b ≤ a
at_least {a} {b} e = omega (arith, e)

module _ (laws : RunLaws) (effects_law : EffectsAreMade) (m : Module) (plan : Plan) (code : Code)
    (is : IsReplayCode m plan code) (store : Store) (counts : List ℕ) (origin : Origin) (effects : List Effect)
    (later : List Segment) (came : Origin) (after : Store) (sound : IsSound m store)
    (many : length counts ≡ imported_funcs m)
    (calls : AreLeft plan.imports counts (left_of (imported_funcs m) later).calls)
    (fits : list_all (effect_fits m) effects ≡ true) (bytes : All WritesBytes effects)
    (done : store_after_effects effects store ≡ Some after) (one : HasOneResult m) where
  abbrev begun : List (List Segment)
  begun = (left_of (imported_funcs m) later).begun

  -- ---- effects

  -- the code of a segment after its effects, which leaves the segment
  module _ (s : Standing) (outside : IsOutside (layout_of m) s.frame.func) (labels : List Label) (number : ℕ)
      (next : Next) (mine : List Segment) where
    abbrev leaving : List Instr
    leaving = next_code m next (segments_code m mine)

    record ComesToNext : Type 0 where
      pub at : ℕ
      pub items : List Item
      pub leads : Leads (watched m code)
          (standing s (with_own (counters counts) store) [] labels (sequence (effects_code effects ++ leaving) Empty)
          number) items (standing s (with_own (counters counts) after) [] labels (sequence leaving Empty) at)
      pub known : AreItemsOf store effects items

    to_next : ComesToNext
    to_next =
        let some = next_some m next (segments_code m mine) in
        let own = counters counts in
        let r =
        effects_law (watched m code) s (with_own own store) (with_own own after) effects labels some.first
        (sequence some.more Empty) number outside (effects_writable m own store after effects fits bytes sound done).0
        (effects_beside own store after effects done) in
        record {
          at = r.at;
          items = r.items;
          leads = subst
              (λ nest. Leads (watched m code) (standing s (with_own own store) [] labels nest number) r.items
              (standing s (with_own own after) [] labels (sequence leaving Empty) r.at))
              (sym (sequence_over (effects_code effects) leaving Empty))
              (subst
              (λ nest. Leads (watched m code)
              (standing s (with_own own store) [] labels (sequence (effects_code effects) nest) number) r.items
              (standing s (with_own own after) [] labels nest r.at))
              (ap (λ code. sequence code Empty) (sym some.is)) r.leads);
          known = record {
            silent = r.known.silent;
            changes = λ grows. r.known.changes (grow_beside own store after effects done grows);
            steps = r.known.steps;
            blocks = r.known.blocks;
          };
        }

    -- the segment
    abbrev segment : Segment
    segment = record { origin = origin; effects = effects; next = next }

    -- a claim that holds after a segment's effects holds at its beginning
    claimed_before : (items : List Item) → entries_in items ≡ [] → AreSameChanges (changes_in items) effects
        → (rest : List Item) → AreWithin later (stretches_from rest) → MakesFirst (segment ∷ later) (items ++ rest)
    claimed_before items silent same rest c =
        let first = c.1 in
        let s = stretches_from rest in
        subst (λ (s : Stretches). AreEffectsOfFirst (segment ∷ later) (s.here ∷ s.later))
        (sym (silent_stretches items rest silent
        ∙ ap (λ l. record { here = changes_in items ++ l; later = s.later }) c.0
        ∙ ap (λ l. record { here = l; later = s.later }) (append-nil (changes_in items))))
        (record {
          taken = segment ∷ first.taken;
          left = first.left;
          parts = ap (λ l. segment ∷ l) first.parts;
          effects = (same, first.effects);
        })

    -- a run that follows from the end of a segment's effects follows from its beginning
    after_effects_follows : (r : TapeResult)
        → ((at : ℕ) → Follows m plan code (AllGrowSizes store effects)
        (WithinBy m plan (7 * next_weight next) (with_next next begun) later)
        (standing s (with_own (counters counts) after) [] labels (sequence leaving Empty) at) r)
        → Follows m plan code (AllGrowSizes store effects) (Playing m plan segment later)
        (standing s (with_own (counters counts) store) [] labels
        (sequence (effects_code effects ++ leaving) Empty) number) r
    after_effects_follows r f =
        let t = to_next in
        follows_after laws m plan code (AllGrowSizes store effects)
        (WithinBy m plan (7 * next_weight next) (with_next next begun) later) (Playing m plan segment later) _ _ t.items
        t.leads t.known.silent (λ grows rest c. claimed_before t.items t.known.silent (t.known.changes grows) rest c)
        (λ rest c.
        let few = t.known.steps in
        bounded_before plan (with_next next begun) (left_of (imported_funcs m) later).calls (imported_funcs m)
        (7 * next_weight next) (segment_steps segment) t.items rest t.known.silent (omega (arith, few)) t.known.blocks
        c)
        r.entries r.next
        (f t.at)

  -- a run that follows after values are pushed follows before
  pushed_follows : (more : ℕ) (mine : List (List Segment)) (s : Standing)
      → IsOutside (layout_of m) s.frame.func → (labels : List Label) (number : ℕ)
      (values : List Val) (i : Instr) (rest : Nest) (nest : Nest) (r : TapeResult)
      → length values + 2 ≤ more
      → nest ≡ sequence (map Const values) (Plain i rest)
      → ((at : ℕ) → Follows m plan code (AllGrowSizes store effects) (WithinBy m plan 2 mine later)
      (standing s (with_own (counters counts) after) (reverse values ++ []) labels (Plain i rest) at) r)
      → Follows m plan code (AllGrowSizes store effects) (WithinBy m plan more mine later)
      (standing s (with_own (counters counts) after) [] labels nest number) r
  pushed_follows more mine s outside labels number values i rest nest r few e f =
      subst
      (λ nest. Follows m plan code (AllGrowSizes store effects) (WithinBy m plan more mine later)
      (standing s (with_own (counters counts) after) [] labels nest number) r)
      (sym e)
      (go (pushes laws m plan code is after counts s outside values labels i rest number))
    where
      go : ArePushed laws m plan code is after counts s outside values labels i rest number
          → Follows m plan code (AllGrowSizes store effects) (WithinBy m plan more mine later)
          (standing s (with_own (counters counts) after) [] labels
          (sequence (map Const values) (Plain i rest)) number) r
      go p =
          let steps = same_steps (length values) false in
          let items = replicate (length values) (Steps false) in
          follows_after laws m plan code (AllGrowSizes store effects) (WithinBy m plan 2 mine later)
          (WithinBy m plan more mine later) _ _ items p.leads
          steps.silent
          (λ grows rest c. subst (AreWithin later) (sym (steps_stretches items rest steps.silent steps.unchanged)) c)
          (λ rest c.
          let counted = steps_counted (length values) in
          let count = counted.0 in
          bounded_before plan mine (left_of (imported_funcs m) later).calls (imported_funcs m) 2 more items rest
          steps.silent (omega (arith, count, few)) counted.1 c)
          r.entries r.next (f p.at)

  sound_after : IsSound m after
  sound_after = (effects_writable m (counters counts) store after effects fits bytes sound done).1

  played : (opened : List ℕ) → AreFit m opened later → IsPlayed m plan after counts opened later
  played opened fit = record { one = one; sound = sound_after; many = many; fits = fit; calls = calls }

  -- ---- by how control leaves

  result_weighs : (result : Option Val) → length (option_to_list result) + 2 ≤ 7 * next_weight (Gives result)
  result_weighs None = omega arith
  result_weighs (Some value) = omega arith

  -- a call, from either kind of activation
  calls_follow : (base : Frame) (below : List Activation) (inside : List ℕ) (labels : List Label) (number : ℕ)
      (stack : List Activation) (func : ℕ) (args : List Val) (ty : FuncType) → start_index m ≤ base.func
      → func_type m func ≡ Some ty → imported_funcs m ≤ func → types_of args ≡ ty.params
      → ((labels : List Label) (number : ℕ)
      → AreBeside m ty.results stack begun
      (InModule (waiting_frame m ty.results (innermost begun) base labels number) ∷ below) (base.func ∷ inside))
      → AreFit m (imports_in stack) later
      → Follows m plan code (AllGrowSizes store effects)
      (Playing m plan (record { origin = origin; effects = effects; next = Calls func args }) later)
      (standing (record { frame = base; below = below; counts = []; inside = base.func ∷ inside })
      (with_own (counters counts) store) [] labels
      (sequence (effects_code effects ++ next_code m (Calls func args) (segments_code m (innermost begun))) Empty)
      number)
      (after_next (code_of m) after counts stack later came (Calls func args))
  calls_follow base below inside labels number stack func args ty past typed past_imports given again fit =
      let s = host_standing base below inside in
      let outside : IsOutside (layout_of m) base.func = Behind (appended_side m base.func past) in
      let r = after_next (code_of m) after counts stack later came (Calls func args) in
      let rest = sequence (replicate (length ty.results) Drop ++ segments_code m (innermost begun)) Empty in
      after_effects_follows s outside labels number (Calls func args) (innermost begun) r
      (λ at. pushed_follows (7 * next_weight (Calls func args)) begun s outside labels at args (Call func) rest _ r
      (omega arith)
      (sequence_over (map Const args)
      (Call func ∷ (drops (func_type m func) ++ segments_code m (innermost begun))) Empty
      ∙ ap (λ o. sequence (map Const args)
      (Plain (Call func) (sequence (drops o ++ segments_code m (innermost begun)) Empty))) typed)
      (λ at'. calls_original laws m plan code is after counts base below inside past stack later came
      (AllGrowSizes store effects) func args ty typed
      past_imports given again (played (imports_in stack) fit) labels at'))

  pub host_follows : (next : Next) (stack own : List Activation) (inside : List ℕ) (at : ℕ) (before : List ℕ)
      → (fit : IsFit m at before (record { origin = origin; effects = effects; next = next }) later)
      → fit.opened ≡ imports_in stack → IsHostOn stack
      → AreBeside m [] stack (with_segment (record { origin = origin; effects = effects; next = next }) next begun) own
      inside
      → Follows m plan code (AllGrowSizes store effects)
      (Playing m plan (record { origin = origin; effects = effects; next = next }) later)
      (own_place store counts own inside)
      (after_next (code_of m) after counts stack later came next)
  host_follows next _ _ _ at before fit opened host
      (Runs stack own inside frame ty typed arity past under) = absurd host
  host_follows (Calls func args) _ _ _ at before fit opened host (Works base labels number index arity) =
      let c = leaves_call m fit.is_last fit.opened fit.after func args fit.leaves in
      calls_follow base (InMain [] ∷ []) [] labels number (InMain (pause ∷ []) ∷ []) func args c.ty
      (at_least index) c.typed c.past c.given
      (λ labels' number'. Works base labels' number' index arity)
      (subst (λ o. AreFit m o later) (sym c.same ∙ opened) fit.rest)
  host_follows (Calls func args) _ _ _ at before fit opened host
      (Answers stack own inside import given ty caller base behind labels behind_labels number behind_number typed below
      past arity index behind_arity under) =
      let c = leaves_call m fit.is_last fit.opened fit.after func args fit.leaves in
      calls_follow base (InModule (returning_frame behind behind_labels behind_number) ∷ own)
      (behind.func ∷ inside) labels
      number (InImport import given (pause ∷ []) EndsInTrap ∷ InModule caller ∷ stack) func args c.ty
      (omega (arith, past)) c.typed c.past c.given
      (λ labels' number'. Answers stack own inside import given ty caller base behind labels' behind_labels number'
      behind_number typed below past arity index behind_arity under)
      (subst (λ o. AreFit m o later) (sym c.same ∙ opened) fit.rest)
  host_follows (Gives result) _ _ _ at before fit opened host (Works base labels number index arity) =
      nothing_shown laws m plan code _
  host_follows (Gives result) _ _ _ at before fit opened host
      (Answers stack own inside import given ty caller base behind labels behind_labels number behind_number typed below
      past arity index behind_arity under) =
      let l =
      leaves_return m fit.is_last import (imports_in stack) fit.after result
      (subst (λ o. left m fit.is_last o (Gives result) ≡ Some fit.after) opened fit.leaves) in
      let same : l.0 ≡ ty = (let e : Some l.0 ≡ Some ty = sym l.1 ∙ typed in cc) in
      let count : length (option_to_list result) ≡ length ty.results =
      sym (length-map (option_to_list result) (λ (v : Val). v.ty)) ∙ ap length l.2
      ∙ ap (λ (t : FuncType). length t.results) same in
      let s =
      host_standing base (InModule (returning_frame behind behind_labels behind_number) ∷ own) (behind.func ∷ inside)
      in
      let outside : IsOutside (layout_of m) base.func = Behind (appended_side m base.func (omega (arith, past))) in
      let r =
      after_next (code_of m) after counts
      (InImport import given (pause ∷ []) EndsInTrap ∷ InModule caller ∷ stack) later
      came (Gives result) in
      after_effects_follows s outside labels number (Gives result) [] r
      (λ place. pushed_follows (7 * next_weight (Gives result)) ([] ∷ begun) s outside labels place
      (option_to_list result) Return Empty _ r (result_weighs result)
      (sequence_over (map Const (option_to_list result)) (Return ∷ []) Empty)
      (λ place'. returns_result laws m plan code after counts import given ty caller base behind behind_labels
      behind_number stack own inside later came
      (AllGrowSizes store effects) result below past arity index behind_arity count under
      (played (imports_in stack) (subst (λ o. AreFit m o later) (sym l.3) fit.rest)) labels place'))
  host_follows Ends _ _ _ at before fit opened host (Works base labels number index arity) =
      after_effects_follows (host_standing base (InMain [] ∷ []) []) (Behind (appended_side m base.func (at_least index))) labels number Ends []
      (after_next (code_of m) after counts (InMain (pause ∷ []) ∷ []) later came Ends)
      (λ place. work_ends laws m plan code after counts later (AllGrowSizes store effects) base labels place
      (at_least index) arity)
  host_follows Ends _ _ _ at before fit opened host
      (Answers stack own inside import given ty caller base behind labels behind_labels number behind_number typed below
      past arity index behind_arity under) =
      nothing_shown laws m plan code _
  host_follows Traps _ _ _ at before fit opened host (Works base labels number index arity) =
      nothing_shown laws m plan code _
  host_follows Traps _ _ _ at before fit opened host
      (Answers stack own inside import given ty caller base behind labels behind_labels number behind_number typed below
      past arity index behind_arity under) =
      let s =
      host_standing base (InModule (returning_frame behind behind_labels behind_number) ∷ own) (behind.func ∷ inside)
      in
      after_effects_follows s (Behind (appended_side m base.func (omega (arith, past)))) labels number Traps []
      (after_next (code_of m) after counts
      (InImport import given (pause ∷ []) EndsInTrap ∷ InModule caller ∷ stack) later
      came Traps)
      (λ place. traps laws m plan code after counts base labels place
      (InModule (returning_frame behind behind_labels behind_number) ∷ own) (behind.func ∷ inside)
      (omega (arith, past)) later (AllGrowSizes store effects))
