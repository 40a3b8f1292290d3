-- A call of an import reaches the arm that answers it.
use Rattle.std.proofs.Common.{◌≡◌, ℕ, zero, suc, ◌+◌, ◌*◌, ◌/◌, ◌%◌, ◌^◌, ◌<◌, ◌≤◌, List, [], ◌∷◌, ◌++◌, length, drop, Some, None, Bool, true, false, nat_lt, min, slice_get, slice_index, replicate, refl, sym, ap, ◌∙◌, subst, arith, option_map}
use Rattle.std.specs.Prelude.{map}
use Rattle.std.specs.List.{range_with_len, slice_index_or}
use Rattle.std.proofs.lemmas.Bool.Decides.{nat_tests}
use Rattle.std.proofs.lemmas.List.{length-map, length-take}
use Rattle.std.proofs.lemmas.List.FromFn.{length-range_with_len}
use Rattle.std.proofs.lemmas.Option.{slice_get-map, slice_get_within}
use Rattle.base.proofs.Lists.{get_after_by, set_there}
use Rattle.base.specs.declared.opcodes.TheConstants.{I32_DIV_U, I32_REM_U}
use Rattle.wasm_syntax.specs.declared.values.Val.{Val}
use Rattle.wasm_syntax.specs.declared.values.ValType.{ValType}
use Rattle.wasm_syntax.specs.declared.values.ValType.TheVariants.{I32}
use Rattle.wasm_syntax.specs.declared.signatures.FuncType.{FuncType}
use Rattle.wasm_syntax.specs.declared.instructions.Instr.{Instr}
use Rattle.wasm_syntax.specs.declared.instructions.Instr.TheVariants.{Call, LocalGet, Return}
use Rattle.wasm_syntax.specs.declared.modules.Module.{Module}
use Rattle.wasm_syntax.specs.Nest.{Nest, Empty, Plain}
use Rattle.wasm_syntax.specs.Index.{all_globals, imported_funcs}
use Rattle.host_script.specs.declared.scripts.ResponseEnd.TheVariants.{Trap as EndsInTrap}
use Rattle.trace_model.specs.declared.tapes.Segment.{Segment}
use Rattle.trace_model.specs.declared.tapes.Origin.TheVariants.{Import as FromImport}
use Rattle.history_spec.specs.declared.entries.Entry.{Entry}
use Rattle.history_spec.specs.declared.entries.Entry.TheVariants.{Enter, Step}
use Rattle.history_spec.specs.Code.{Code, code_of, definition, i32_value, signature, types_of, zero_of}
use Rattle.history_spec.specs.Store.{Store}
use Rattle.history_spec.specs.Configuration.{place, Label, Frame, Activation, InModule, InImport, point, at_point}
use Rattle.history_spec.specs.Instruction.{on, gives, takes, calls, with_local}
use Rattle.history_spec.specs.Settle.{Continues, settle_result, deliver}
use Rattle.history_spec.specs.Step.{Running, step_result, after_entries, after_instruction, after_settling, call_function, enter_defined, frame_of, step}
use Rattle.history_spec.specs.Projection.{Side, Import, side, shown_entries, caller_side, shown_call, shown_step}
use Rattle.replay_module_spec.specs.declared.plans.Plan.{Plan}
use Rattle.replay_module_spec.specs.declared.groups.TheConstants.{GROUP_CALLS}
use Rattle.replay_module_spec.specs.Dispatch.{dispatch}
use Rattle.replay_module_spec.specs.Segments.{segments_code}
use Rattle.replay_module_spec.specs.Functions.{group_call, group_count, group_nest, group_type}
use Rattle.replay_module_spec.specs.Fragments.{start_index}
use Rattle.record_replay_spec.specs.TapeRun.{pause}
use Rattle.record_replay_spec.specs.Observations.{nest_observations, plain_observations}
use Rattle.replay_run_spec.specs.Items.{Item, Makes, Changes, Steps, changes_of, entries_in, is_block}
use Rattle.replay_run_spec.specs.Steps.{StepCount}
use Rattle.generated_code_laws.specs.Leads.{Watched, Place, Leads, IsOutside, InPlace, Behind, Standing, standing}
use Rattle.generated_code_laws.proofs.Along.{entries_over}
use Rattle.generated_code_laws.specs.Single.{outside_step}
use Rattle.generated_code_laws.specs.GeneratedStepLaws.{ReachesArm, selector}
use Rattle.generated_code_laws.proofs.One.{did}
use Rattle.generated_code_laws.specs.Counts.{changes_in, steps_in}
use Rattle.generated_code_laws.proofs.Bounded.{most_before}
use Rattle.generated_code_laws.proofs.DispatchSteps.{dispatch_items, dispatch_counted}
use Rattle.generated_code_laws.proofs.Items.{changes_of_both}
use Rattle.replay_module_spec.specs.Merge.{layout_of}
use Rattle.replay_module_laws.specs.Stores.{counters, with_own}
use Rattle.replay_module_laws.specs.Codes.{IsAnswered, IsDefined, IsReplayCode, first_group, import_definition}
use Rattle.generated_code_laws.proofs.Relation.{AreBeside, Answers, own_place, returning_frame, waiting_frame, watched}
use Rattle.generated_code_laws.proofs.Sides.{appended_side, import_side, none_imported}
use Rattle.generated_code_laws.proofs.Sound.{IsSound}
use Rattle.generated_code_laws.proofs.Counted.{counted, counter_moved, counter_there, counts_call}
use Rattle.replay_module_laws.proofs.Functions.{first_group_past}
use Rattle.generated_code_laws.proofs.Groups.{call_there, group_at, group_there, group_within, range_there, segments_some}
use Rattle.generated_code_laws.specs.Below.{StepLaws}

-- control passes from a place to an activation of the host that has these segments to play; the steps between show and
-- change nothing
pub record IsReached (m : Module) (code : Code) (start : Place) (store : Store) (counts : List ℕ)
    (stack : List Activation) (begun : List (List Segment)) (most : StepCount) : Type 0 where
  pub items : List Item
  pub own : List Activation
  pub inside : List ℕ
  pub leads : Leads (watched m code) start items (own_place store counts own inside)
  pub beside : AreBeside m [] stack begun own inside
  pub silent : entries_in items ≡ []
  pub unchanged : changes_in items ≡ []
  pub few : (steps_in items).steps ≤ most.steps
  pub few_blocks : (steps_in items).blocks ≤ most.blocks

-- ---- a call between functions outside the original

-- items that show and change nothing
pub record AreSteps (items : List Item) : Type 0 where
  pub silent : entries_in items ≡ []
  pub unchanged : changes_in items ≡ []

pub both_steps : (first second : List Item) → AreSteps first → AreSteps second → AreSteps (first ++ second)
both_steps first second f s =
    record {
      silent = entries_over first second ∙ ap (λ l. l ++ entries_in second) f.silent ∙ s.silent;
      unchanged = changes_of_both first second ∙ ap (λ l. l ++ changes_in second) f.unchanged ∙ s.unchanged;
    }

pub same_steps : (count : ℕ) (block : Bool) → AreSteps (replicate count (Steps block))
same_steps zero block = record { silent = refl; unchanged = refl }
same_steps (suc count) block =
    let later = same_steps count block in record { silent = later.silent; unchanged = later.unchanged }

-- an instruction that observes nothing shows its step and its entries alone
pub step_alone : (w : Watched) (start : Place) (frame : Frame) (i : Instr) (rest : Nest) (shown : List Entry)
    → frame.at.rest ≡ Plain i rest → plain_observations start.config.store frame.values i ≡ []
    → outside_step w start frame shown ≡ Steps false ∷ map Makes shown
step_alone w start frame i rest shown is none =
    ap (λ nest. Steps (is_block nest)
    ∷ (map Changes (changes_of w.globals (nest_observations start.config.store frame.values nest))
    ++ map Makes shown)) is
    ∙ ap (λ seen. Steps false ∷ (map Changes (changes_of w.globals seen) ++ map Makes shown)) none

module _ (laws : StepLaws) (m : Module) (plan : Plan) (code : Code) (is : IsReplayCode m plan code) where
  abbrev w : Watched
  w = watched m code

  -- the function in an import's place calls the function of a group, with the number of the call
  module _ (s : Standing) (store : Store) (func held : ℕ) (results : List ValType) (body : Nest)
      (outside : s.frame.func < imported_funcs m) (stands : (inside : List ℕ) × (s.inside ≡ s.frame.func ∷ inside))
      (past : start_index m ≤ func) (defined : IsDefined code func (group_type results) [] body)
      (settles : (below : List Activation)
      → deliver
      (InModule
      (frame_of func (group_type results) (record { locals = []; body = body }) (i32_value held ∷ [])) ∷ below) []
      ≡ settle_result [] (Continues
      (InModule
      (frame_of func (group_type results) (record { locals = []; body = body }) (i32_value held ∷ [])) ∷ below)))
    where
      abbrev group : Frame
      group = frame_of func (group_type results) (record { locals = []; body = body }) (i32_value held ∷ [])

      abbrev entered : (labels : List Label) (rest : Nest) (number : ℕ) → Place
      entered labels rest number =
          record {
            config =
                record {
                  store = store;
                  stack = InModule group ∷ InModule (at_point s.frame (point [] labels rest (number + 1))) ∷ s.below;
                  counts = s.counts;
                };
            inside = func ∷ s.inside;
          }

      calls_group : (labels : List Label) (rest : Nest) (number : ℕ)
          → Leads w (standing s store (i32_value held ∷ []) labels (Plain (Call func) rest) number) (Steps false ∷ [])
          (entered labels rest number)
      calls_group labels rest number =
          subst (λ items. Leads w here.0 items (entered labels rest number))
          (step_alone w here.0 frame (Call func) rest [] refl refl)
          ((laws.leads w here.0 frame s.below entries [] (entered labels rest number)
          (record { stands = refl; makes = made; shows = shown; control = refl })).0
          (InPlace (import_side m s.frame.func outside)))
        where
          frame : Frame
          frame = at_point s.frame (point (i32_value held ∷ []) labels (Plain (Call func) rest) number)

          here : Place × Frame
          here = (standing s store (i32_value held ∷ []) labels (Plain (Call func) rest) number, frame)

          entries : List Entry
          entries = Step s.frame.func number (i32_value held ∷ []) [] None ∷ Enter func ∷ []

          waiting : Frame
          waiting = at_point s.frame (point [] labels rest (number + 1))

          made : step w.program here.0.config ≡ step_result entries (Running (entered labels rest number).config)
          made =
              ap (λ o. after_instruction w.program here.0.config frame s.below (on o (λ (ty : FuncType).
              takes frame ty.params
              (λ operands below. calls frame (place rest (number + 1)) operands below None func operands))))
              defined.has_type
              ∙ ap (λ b. after_entries (Step s.frame.func number (i32_value held ∷ []) [] None ∷ [])
              (call_function w.program b store s.counts func (i32_value held ∷ []) (InModule waiting ∷ s.below)))
              (none_imported m plan code is func)
              ∙ ap (λ o. after_entries (Step s.frame.func number (i32_value held ∷ []) [] None ∷ [])
              (after_entries (Enter func ∷ [])
              (enter_defined o (definition code func) store s.counts func (i32_value held ∷ [])
              (InModule waiting ∷ s.below))))
              defined.has_type
              ∙ ap (λ o. after_entries (Step s.frame.func number (i32_value held ∷ []) [] None ∷ [])
              (after_entries (Enter func ∷ [])
              (enter_defined (Some (group_type results)) o store s.counts func (i32_value held ∷ [])
              (InModule waiting ∷ s.below)))) defined.is
              ∙ ap (λ r. after_entries (Step s.frame.func number (i32_value held ∷ []) [] None ∷ [])
              (after_entries (Enter func ∷ []) (after_settling store s.counts r)))
              (settles (InModule waiting ∷ s.below))

          shown : (args : List Val)
              → shown_entries (layout_of m) s.inside args entries ≡ []
          shown args =
              ap (λ (d : Side).
              shown_step d (Step s.frame.func number (i32_value held ∷ []) [] None)
              ++ (shown_call (caller_side (layout_of m) s.inside) (side (layout_of m) func) func
              (i32_value held ∷ []) ++ []))
              (import_side m s.frame.func outside)
              ∙ ap (λ inside. shown_call (caller_side (layout_of m) inside) (side (layout_of m) func) func
              (i32_value held ∷ []) ++ []) stands.1
              ∙ ap (λ d. shown_call d (side (layout_of m) func) func (i32_value held ∷ []) ++ [])
              (import_side m s.frame.func outside)
              ∙ ap (λ d. shown_call Import d func (i32_value held ∷ []) ++ []) (appended_side m func past)

  -- ---- all steps of a call

  module _ (import : ℕ) (ty : FuncType) (args : List Val) (caller : Frame) (stack own : List Activation)
      (inside : List ℕ) (around : List (List Segment)) (before : List ℕ) (store : Store) (playing : List Segment)
      (typed : signature (code_of m) import ≡ Some ty) (below : import < imported_funcs m)
      (given : types_of args ≡ ty.params) (many : length before ≡ imported_funcs m) (sound : IsSound m store)
      (there : slice_get (slice_index_or plan.imports import []) (slice_index before import) ≡ Some playing)
      (small : slice_index before import < 2 ^ 32)
      (under : AreBeside m ty.results (InModule caller ∷ stack) around own inside) where
    abbrev calls_of : List (List Segment)
    calls_of = slice_index_or plan.imports import []

    abbrev number : ℕ
    number = slice_index before import

    abbrev first : ℕ
    first = first_group (start_index m + 1) plan.imports import

    abbrev counter : ℕ
    counter = length (all_globals m) + import

    abbrev local : ℕ
    local = length ty.params

    abbrev start_store : Store
    start_store = with_own (counters before) store

    abbrev pub call_place : Place
    call_place = own_place store before
        (InModule (frame_of import ty (import_definition m plan import ty) args) ∷ own) (import ∷ inside)

    abbrev s0 : Standing
    s0 =
        record {
          frame = frame_of import ty (import_definition m plan import ty) args;
          below = own;
          counts = [];
          inside = import ∷ inside;
        }

    abbrev arms : List (List Instr)
    arms = map (group_call local) (range_with_len first (group_count (length calls_of)))

    answered : IsAnswered m plan code import ty calls_of
    answered = is.answers import ty below typed

    outside : IsOutside (layout_of m) import
    outside = InPlace (import_side m import below)

    held_there : slice_get start_store.globals counter ≡ Some (i32_value number)
    held_there =
        let within : number % 2 ^ 32 ≡ number = omega (arith, small) in
        counter_there m store sound before import (omega (arith, many, below)) ∙ ap (λ n. Some (i32_value n)) within

    free : slice_get (args ++ map zero_of (I32 ∷ [])) local
        ≡ Some (zero_of I32)
    free =
        let long : length ty.params ≡ length args = ap length (sym given) ∙ length-map args (λ (v : Val). v.ty) in
        get_after_by args (map zero_of (I32 ∷ [])) local 0 (omega (arith, long))

    past_globals : nat_lt counter (length (all_globals m)) ≡ false
    past_globals = grind (arith, nat_tests)

    call_within : number < length calls_of
    call_within = slice_get_within calls_of number playing there

    -- ---- the groups

    abbrev s1 : Standing
    s1 = record s0 { frame = with_local s0.frame local (i32_value number) }

    abbrev next_store : Store
    next_store = with_own (counters (counted before import)) store

    abbrev func : ℕ
    func = first + number / GROUP_CALLS

    counts_it : Leads w call_place (replicate 5 (Steps false))
        (standing s1 next_store [] [] (dispatch (selector local I32_DIV_U) arms) 5)
    counts_it =
        subst
        (λ st. Leads w call_place (replicate 5 (Steps false))
        (standing s1 st [] [] (dispatch (selector local I32_DIV_U) arms) 5))
        (counter_moved m store sound before import number (omega (arith, small)))
        (counts_call w s0 outside start_store counter local number held_there past_globals free []
        (dispatch (selector local I32_DIV_U) arms) 0 refl)

    arm_there : slice_get arms (number / GROUP_CALLS) ≡ Some (LocalGet local ∷ Call func ∷ Return ∷ [])
    arm_there =
        slice_get-map (group_call local) (range_with_len first (group_count (length calls_of))) (number / GROUP_CALLS)
        ∙ ap (option_map (group_call local))
        (range_there first (group_count (length calls_of)) (number / GROUP_CALLS)
        (group_within calls_of number call_within))

    local_there : slice_get s1.frame.locals local ≡ Some (i32_value number)
    local_there =
        set_there s0.frame.locals local (i32_value number) (slice_get_within s0.frame.locals local (zero_of I32) free)

    to_group : ReachesArm w s1 next_store [] local I32_DIV_U arms 5
        (LocalGet local ∷ Call func ∷ Return ∷ [])
    to_group =
        (laws.arms w s1 next_store [] local I32_DIV_U number (number / GROUP_CALLS) arms 5 outside
        (laws.selectors s1 local number local_there).0).0 (LocalGet local) (Call func ∷ Return ∷ []) arm_there

    abbrev call_return : Nest
    call_return = Plain (Call func) (Plain Return Empty)

    gets_number : Leads w
        (standing s1 next_store [] to_group.within (Plain (LocalGet local) call_return) to_group.at) (Steps false ∷ [])
        (standing s1 next_store (i32_value number ∷ []) to_group.within call_return (to_group.at + 1))
    gets_number =
        did w s1 outside next_store next_store [] (i32_value number ∷ []) to_group.within to_group.within
        (Plain (LocalGet local) call_return) call_return to_group.at (to_group.at + 1) s1.frame []
        (i32_value number ∷ []) None []
        (ap (λ o. on o (λ value. gives next_store
        (at_point s1.frame (point [] to_group.within (Plain (LocalGet local) call_return) to_group.at))
        (place call_return (to_group.at + 1)) [] [] (value ∷ []))) local_there) refl refl

    -- ---- the arm

    abbrev group_body : Nest
    group_body = group_nest m (group_at calls_of number call_within)

    abbrev group_frame : Frame
    group_frame =
        frame_of func (group_type ty.results) (record { locals = []; body = group_body }) (i32_value number ∷ [])

    abbrev s2 : Standing
    s2 =
        record {
          frame = group_frame;
          below =
              InModule (at_point s1.frame (point [] to_group.within (Plain Return Empty) (to_group.at + 1 + 1))) ∷ own;
          counts = [];
          inside = func ∷ import ∷ inside;
        }

    func_past : start_index m < func
    func_past =
        let late = first_group_past (start_index m + 1) plan.imports import in
        omega (arith, late)

    calls_it : Leads w (standing s1 next_store (i32_value number ∷ []) to_group.within call_return (to_group.at + 1))
        (Steps false ∷ []) (standing s2 next_store [] [] group_body 0)
    calls_it =
        calls_group s1 next_store func number ty.results group_body below (inside, refl) (omega (arith, func_past))
        (answered.group (number / GROUP_CALLS) (group_at calls_of number call_within)
        (group_there calls_of number call_within)) (λ others. refl) to_group.within (Plain Return Empty)
        (to_group.at + 1)

    abbrev group_arms : List (List Instr)
    group_arms = map (segments_code m) (group_at calls_of number call_within)

    to_arm : ReachesArm w s2 next_store [] 0 I32_REM_U group_arms 0
        (segments_code m playing)
    to_arm =
        let some = segments_some m playing in
        subst (ReachesArm w s2 next_store [] 0 I32_REM_U group_arms 0) (sym some.is)
        ((laws.arms w s2 next_store [] 0 I32_REM_U number (number % GROUP_CALLS) group_arms 0
        (Behind (appended_side m func (omega (arith, func_past)))) (laws.selectors s2 0 number refl).1).0
        some.first some.more
        (slice_get-map (segments_code m) (group_at calls_of number call_within) (number % GROUP_CALLS)
        ∙ ap (option_map (segments_code m)) (call_there calls_of number call_within ∙ there)
        ∙ ap (λ l. Some l) some.is))

    dispatch_steps : (steps_in (dispatch_items (length arms) (length group_arms))).steps ≤ 16
    dispatch_steps = let few = (dispatch_counted (length arms) (length group_arms)).0 in omega (arith, few)

    dispatch_blocks : (steps_in (dispatch_items (length arms) (length group_arms))).blocks
        ≤ 259 + length calls_of / 256
    dispatch_blocks =
        let sum = (dispatch_counted (length arms) (length group_arms)).1 in
        let groups : length arms ≡ (length calls_of + 255) / 256 =
        length-map (range_with_len first (group_count (length calls_of))) (group_call local)
        ∙ length-range_with_len first (group_count (length calls_of)) in
        let same : length group_arms ≡ length (group_at calls_of number call_within) =
        length-map (group_at calls_of number call_within) (segments_code m) in
        let most : length (group_at calls_of number call_within)
        ≡ min GROUP_CALLS (length (drop (GROUP_CALLS * (number / GROUP_CALLS)) calls_of)) =
        length-take GROUP_CALLS (drop (GROUP_CALLS * (number / GROUP_CALLS)) calls_of) in
        omega (arith, sum, groups, same, most)

    pub answers_call : IsReached m code call_place store (counted before import)
        (InImport import args (pause ∷ []) EndsInTrap ∷ InModule caller ∷ stack) (playing ∷ around)
        (most_before plan (FromImport import))
    answers_call =
        let blocks = replicate (suc (length arms)) (Steps true) in
        let more_blocks = replicate (suc (length group_arms)) (Steps true) in
        let four = replicate 4 (Steps false) in
        let last = more_blocks ++ four in
        let after_call = Steps false ∷ [] ++ last in
        let after_get = Steps false ∷ [] ++ after_call in
        let after_count = (blocks ++ four) ++ after_get in
        let steps =
        both_steps (replicate 5 (Steps false)) after_count (same_steps 5 false)
        (both_steps (blocks ++ four) after_get
        (both_steps blocks four (same_steps (suc (length arms)) true) (same_steps 4 false))
        (both_steps (Steps false ∷ []) after_call (same_steps 1 false)
        (both_steps (Steps false ∷ []) last (same_steps 1 false)
        (both_steps more_blocks four (same_steps (suc (length group_arms)) true) (same_steps 4 false))))) in
        record {
          items = replicate 5 (Steps false) ++ after_count;
          own =
              InModule (waiting_frame m [] playing group_frame to_arm.within to_arm.at)
              ∷ InModule (returning_frame s1.frame to_group.within (to_group.at + 1 + 1)) ∷ own;
          inside = func ∷ import ∷ inside;
          leads =
              laws.along w _ _ _ (replicate 5 (Steps false)) after_count counts_it
              (laws.along w _ _ _ (blocks ++ four) after_get to_group.leads
              (laws.along w _ _ _ (Steps false ∷ []) after_call gets_number
              (laws.along w _ _ _ (Steps false ∷ []) last calls_it to_arm.leads)));
          beside =
              Answers stack own inside import args ty caller group_frame s1.frame to_arm.within to_group.within
              to_arm.at
              (to_group.at + 1 + 1) typed below func_past refl refl refl under;
          silent = steps.silent;
          unchanged = steps.unchanged;
          few = dispatch_steps;
          few_blocks = dispatch_blocks;
        }
