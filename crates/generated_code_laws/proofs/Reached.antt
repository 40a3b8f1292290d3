-- If the host is topmost, control reaches the segments that its activation plays next.
use Rattle.std.proofs.Common.{◌≡◌, ℕ, zero, suc, ◌+◌, ◌<◌, ◌≤◌, ◌^◌, List, [], ◌∷◌, ◌++◌, length, drop, reverse, Some, true, false, slice_get, slice_set, slice_index, replicate, refl, sym, ap, ◌∙◌, subst, arith, append-nil}
use Rattle.std.specs.Prelude.{Bool, map, nat_eq}
use Rattle.std.specs.List.{slice_index_or}
use Rattle.std.proofs.lemmas.Bool.Decides.{nat_tests}
use Rattle.std.proofs.lemmas.List.{length-reverse}
use Rattle.std.proofs.lemmas.Option.{slice_get_within}
use Rattle.base.proofs.Lists.{first_item}
use Rattle.wasm_syntax.specs.declared.values.Val.{Val}
use Rattle.wasm_syntax.specs.declared.values.ValType.{ValType}
use Rattle.wasm_syntax.specs.declared.signatures.FuncType.{FuncType}
use Rattle.wasm_syntax.specs.declared.instructions.Instr.TheVariants.{Drop}
use Rattle.wasm_syntax.specs.declared.modules.Module.{Module}
use Rattle.wasm_syntax.specs.Nest.{Empty}
use Rattle.wasm_syntax.specs.Index.{imported_funcs}
use Rattle.host_script.specs.declared.scripts.Action.TheVariants.{Call}
use Rattle.host_script.specs.declared.scripts.ResponseEnd.TheVariants.{Trap as EndsInTrap}
use Rattle.trace_model.specs.declared.tapes.Next.{Next}
use Rattle.trace_model.specs.declared.tapes.Next.TheVariants.{Call as Calls, Return as Returns, End as Ends, Trap as Traps}
use Rattle.trace_model.specs.declared.tapes.Origin.TheVariants.{Begin, Back, Import}
use Rattle.trace_model.specs.declared.tapes.Segment.{Segment}
use Rattle.history_spec.specs.declared.entries.Entry.TheVariants.{HostCall}
use Rattle.history_spec.specs.Code.{Code, code_of, definition, signature, types_of}
use Rattle.history_spec.specs.Store.{Store}
use Rattle.history_spec.specs.Configuration.{place, Frame, Activation, InModule, InMain, InImport, Label}
use Rattle.history_spec.specs.Settle.{deliver}
use Rattle.history_spec.specs.Step.{Running, StepResult, step_result, after_entries, after_settling, enter_defined, frame_of, step}
use Rattle.history_spec.specs.Projection.{Appended, side, shown_call}
use Rattle.replay_module_spec.specs.declared.plans.Plan.{Plan}
use Rattle.replay_module_spec.specs.Plans.{innermost, around_innermost, with_segment}
use Rattle.replay_module_spec.specs.Dispatch.{sequence}
use Rattle.replay_module_spec.specs.Segments.{segments_code}
use Rattle.replay_module_spec.specs.Functions.{start_type}
use Rattle.replay_module_spec.specs.Fragments.{start_index}
use Rattle.record_replay_spec.specs.TapeRun.{pause}
use Rattle.replay_run_spec.specs.Items.{Makes, Steps, entries_in, shown_items}
use Rattle.replay_run_spec.specs.Inside.{inside_after_all}
use Rattle.generated_code_laws.specs.Leads.{Place, Leads, Behind, standing, items_from}
use Rattle.generated_code_laws.proofs.One.{begins}
use Rattle.generated_code_laws.proofs.Does.{sequence_over}
use Rattle.replay_module_spec.specs.Merge.{layout_of}
use Rattle.replay_module_laws.specs.Stores.{with_own, counters}
use Rattle.replay_module_laws.specs.Codes.{IsReplayCode}
use Rattle.generated_code_laws.proofs.Relation.{AreBeside, Works, Runs, Answers, AreLeft, own_place, waiting_frame, returning_frame, watched, with_values, host_standing}
use Rattle.generated_code_laws.proofs.Sides.{appended_side}
use Rattle.generated_code_laws.proofs.Sound.{IsSound}
use Rattle.generated_code_laws.proofs.Settled.{AreReturned, delivered, segments_going}
use Rattle.generated_code_laws.proofs.Codes.{does_drops}
use Rattle.generated_code_laws.proofs.Counted.{counted}
use Rattle.generated_code_laws.proofs.Bounded.{most_before, steps_counted}
use Rattle.generated_code_laws.proofs.CallsLeft.{set_is, set_other}
use Rattle.generated_code_laws.proofs.Groups.{segments_some}
use Rattle.generated_code_laws.proofs.AnsweredCalls.{IsReached, answers_call, same_steps}
use Rattle.generated_code_laws.proofs.Together.{IsHostOn, at_call}
use Rattle.generated_code_laws.specs.Below.{StepLaws}

-- a segment that is next, with what its activation plays after it
pub begun_parts : (segment : Segment) (next : Next) (begun : List (List Segment))
    → with_segment segment next begun
    ≡ innermost (with_segment segment next begun) ∷ around_innermost (with_segment segment next begun)
begun_parts segment (Calls func args) begun = refl
begun_parts segment (Returns result) begun = refl
begun_parts segment Ends begun = refl
begun_parts segment Traps begun = refl

-- ---- the remaining calls, if one begins

count_is : (xs : List ℕ) (i x : ℕ) → i < length xs → slice_index (slice_set xs i x) i ≡ x
count_is [] i x below = absurd (omega (arith, below))
count_is (y ∷ xs) zero x below = refl
count_is (y ∷ xs) (suc i) x below = count_is xs i x (omega (arith, below))

count_other : (xs : List ℕ) (i j x : ℕ) → (i ≡ j → ⊥) → slice_index (slice_set xs i x) j ≡ slice_index xs j
count_other [] i j x differ = refl
count_other (y ∷ xs) zero zero x differ = absurd (differ refl)
count_other (y ∷ xs) zero (suc j) x differ = refl
count_other (y ∷ xs) (suc i) zero x differ = refl
count_other (y ∷ xs) (suc i) (suc j) x differ = count_other xs i j x (λ e. differ (ap suc e))

-- the first of the remaining calls begins, and those after it remain once it is counted
module _ (whole calls : List (List (List Segment))) (before : List ℕ) (import : ℕ) (playing : List Segment)
    (left : AreLeft whole before (slice_set calls import (playing ∷ slice_index_or calls import [])))
    (within : import < length calls) (counts : import < length before) where
  first_left : drop (slice_index before import) (slice_index_or whole import [])
      ≡ playing ∷ slice_index_or calls import []
  first_left =
      left import ∙ set_is calls import (playing ∷ slice_index_or calls import []) [] within

  pub call_begins : slice_get (slice_index_or whole import []) (slice_index before import) ≡ Some playing
  call_begins =
      (first_item (slice_index_or whole import []) (slice_index before import) playing (slice_index_or calls import [])
      first_left).0

  pub left_after : AreLeft whole (counted before import) calls
  left_after other = go (nat_eq import other) refl
    where
      go : (b : Bool) → nat_eq import other ≡ b
          → drop (slice_index (counted before import) other) (slice_index_or whole other [])
          ≡ slice_index_or calls other []
      go true e =
          let same : import ≡ other = grind (arith, nat_tests, e) in
          subst (λ i. drop (slice_index (counted before import) i) (slice_index_or whole i [])
          ≡ slice_index_or calls i [])
          same
          (ap (λ n. drop n (slice_index_or whole import []))
          (count_is before import (slice_index before import + 1) counts)
          ∙ (first_item (slice_index_or whole import []) (slice_index before import) playing
          (slice_index_or calls import []) first_left).1)
      go false e =
          let differ : import ≡ other → ⊥ =
          (λ same. absurd (grind (arith, nat_tests, e, same))) in
          ap (λ n. drop n (slice_index_or whole other []))
          (count_other before import other (slice_index before import + 1) differ)
          ∙ left other
          ∙ set_other calls import other (playing ∷ slice_index_or calls import []) [] differ

-- ---- the three places

pub nest_begins : (m : Module) (segments : List Segment) → begins (sequence (segments_code m segments) Empty) ≡ true
nest_begins m segments =
    let some = segments_some m segments in ap (λ code. begins (sequence code Empty)) some.is

module _ (laws : StepLaws) (m : Module) (plan : Plan) (code : Code) (is : IsReplayCode m plan code) where
  -- results that are returned to the host are dropped
  pub reached_back : (store : Store) (counts : List ℕ) (stack own : List Activation) (inside : List ℕ)
      (begun : List (List Segment)) → IsHostOn stack → AreReturned m begun stack own inside
      → IsReached m code (own_place store counts own inside) store counts stack begun
      (most_before plan Back)
  reached_back store counts stack own inside begun on r =
      subst (λ own. IsReached m code (own_place store counts own inside) store counts stack begun
      (most_before plan Back)) (sym r.is)
      (go r.awaited r.waiting stack inside r.as_many r.few r.beside on)
    where
      -- the host's activation drops the results, above these activations
      dropped : (awaited : List ValType) → length r.results ≡ length awaited → length awaited ≤ 1 → (base : Frame)
          (labels : List Label) (number : ℕ) (others : List Activation) (inside : List ℕ)
          → side (layout_of m) base.func ≡ Appended → (stack : List Activation)
          → ((at : ℕ) → AreBeside m [] stack begun
          (InModule (waiting_frame m [] (innermost begun) base labels at) ∷ others) (base.func ∷ inside))
          → IsReached m code
          (own_place store counts
          (with_values (reverse r.results)
          (InModule (waiting_frame m awaited (innermost begun) base labels number) ∷ others)) (base.func ∷ inside))
          store counts stack begun (most_before plan Back)
      dropped awaited many one base labels number others inside own_side stack beside =
          let s = host_standing base others inside in
          let done =
          does_drops (watched m code) s (Behind own_side) (with_own (counters counts) store) (reverse r.results)
          (length awaited) (length-reverse r.results ∙ many) labels
          (sequence (segments_code m (innermost begun)) Empty) number (nest_begins m (innermost begun)) in
          let steps = same_steps (length awaited) false in
          let counted = steps_counted (length awaited) in
          let count = counted.0 in
          let none = counted.1 in
          record {
            items = replicate (length awaited) (Steps false);
            own = InModule (waiting_frame m [] (innermost begun) base labels done.at) ∷ others;
            inside = base.func ∷ inside;
            leads = subst
                (λ nest. Leads (watched m code)
                (standing s (with_own (counters counts) store) (reverse r.results) labels nest number)
                (replicate (length awaited) (Steps false))
                (standing s (with_own (counters counts) store) [] labels
                (sequence (segments_code m (innermost begun)) Empty) done.at))
                (sym (sequence_over (replicate (length awaited) Drop) (segments_code m (innermost begun)) Empty))
                done.leads;
            beside = beside done.at;
            silent = steps.silent;
            unchanged = steps.unchanged;
            few = omega (arith, count, one);
            few_blocks = omega (arith, none);
          }

      go : (awaited : List ValType) (waiting stack : List Activation) (inside : List ℕ)
          → length r.results ≡ length awaited → length awaited ≤ 1 → AreBeside m awaited stack begun waiting inside
          → IsHostOn stack
          → IsReached m code
          (own_place store counts (with_values (reverse r.results) waiting) inside) store counts stack
          begun (most_before plan Back)
      go awaited _ _ _ many one (Works base labels number func arity) host =
          dropped awaited many one base labels number (InMain [] ∷ []) []
          (ap (side (layout_of m)) func ∙ appended_side m (start_index m) (omega arith)) (InMain (pause ∷ []) ∷ [])
          (λ at. Works base labels at func arity)
      go awaited _ _ _ many one
          (Answers stack own inside import args ty caller base behind labels behind_labels number behind_number typed
          below past arity func behind_arity under) host =
          dropped awaited many one base labels number
          (InModule (returning_frame behind behind_labels behind_number) ∷ own) (behind.func ∷ inside)
          (appended_side m base.func (omega (arith, past)))
          (InImport import args (pause ∷ []) EndsInTrap ∷ InModule caller ∷ stack)
          (λ at.
          Answers stack own inside import args ty caller base behind labels behind_labels at behind_number typed below
          past arity func behind_arity under)
      go awaited _ _ _ many one (Runs stack own inside frame ty typed arity past under) host = absurd host

  -- the exported function begins
  pub reached_begin : (store : Store) (counts : List ℕ) (begun : List (List Segment)) → innermost begun ≡ plan.begin
      → IsReached m code (own_place store counts (InMain (Call (start_index m) [] ∷ []) ∷ []) []) store counts
      (InMain (pause ∷ []) ∷ []) begun (most_before plan Begin)
  reached_begin store counts begun first =
      record {
        items = [];
        own = InModule top ∷ InMain [] ∷ [];
        inside = start_index m ∷ [];
        leads =
            record {
              count = 1;
              comes = λ meter. ap (λ (r : StepResult). r.next) made;
              shown = λ args. ap (shown_items (layout_of m) [] args) items ∙ unseen args;
              inside = ap (λ l. inside_after_all [] (entries_in l)) items;
            };
        beside = Works top [] 0 refl refl;
        silent = refl;
        unchanged = refl;
        few = omega arith;
        few_blocks = omega arith;
      }
    where
      top : Frame
      top =
          record {
            func = start_index m;
            arity = 0;
            locals = [];
            values = [];
            labels = [];
            at = place (sequence (segments_code m (innermost begun)) Empty) 0;
          }

      here : Place
      here = own_place store counts (InMain (Call (start_index m) [] ∷ []) ∷ []) []

      end : Place
      end = own_place store counts (InModule top ∷ InMain [] ∷ []) (start_index m ∷ [])

      made : step (watched m code).program here.config
          ≡ step_result (HostCall (start_index m) [] ∷ []) (Running end.config)
      made =
          ap (λ o. after_entries (HostCall (start_index m) [] ∷ [])
          (enter_defined o (definition code (start_index m)) (with_own (counters counts) store) [] (start_index m) []
          (InMain [] ∷ []))) is.start.has_type
          ∙ ap (λ o. after_entries (HostCall (start_index m) [] ∷ [])
          (enter_defined (Some start_type) o (with_own (counters counts) store) [] (start_index m) [] (InMain [] ∷ [])))
          is.start.is
          ∙ ap (λ segments. after_entries (HostCall (start_index m) [] ∷ [])
          (after_settling (with_own (counters counts) store) []
          (deliver (InModule (frame_of (start_index m) start_type (record {
            locals = [];
            body = sequence (segments_code m segments) Empty;
          }) []) ∷ InMain [] ∷ []) []))) (sym first)
          ∙ ap (λ r. after_entries (HostCall (start_index m) [] ∷ [])
          (after_settling (with_own (counters counts) store) [] r))
          (delivered m top [] (sequence (segments_code m (innermost begun)) Empty) 0 [] (InMain [] ∷ [])
          (segments_going m (innermost begun)))

      items : items_from (watched m code) 1 here.config ≡ Makes (HostCall (start_index m) []) ∷ []
      items =
          append-nil (map Makes (step (watched m code).program here.config).entries)
          ∙ ap (λ (r : StepResult). map Makes r.entries) made

      unseen : (args : List Val) → shown_items (layout_of m) [] args (Makes (HostCall (start_index m) []) ∷ []) ≡ []
      unseen args =
          ap (λ d. map Makes (shown_call Appended d (start_index m) [] ++ []) ++ [])
          (appended_side m (start_index m) (omega arith))

  -- a call of an import begins
  pub reached_call : (store : Store) (import : ℕ) (args : List Val) (ty : FuncType) (caller : Frame)
      (stack : List Activation) (before : List ℕ) (own : List Activation) (inside : List ℕ)
      (begun : List (List Segment)) (calls : List (List (List Segment)))
      → signature (code_of m) import ≡ Some ty → import < imported_funcs m → types_of args ≡ ty.params
      → length before ≡ imported_funcs m → length calls ≡ imported_funcs m → IsSound m store
      → AreLeft plan.imports before (slice_set calls import (innermost begun ∷ slice_index_or calls import []))
      → length (slice_index_or plan.imports import []) < 2 ^ 32
      → AreBeside m ty.results (InModule caller ∷ stack) (around_innermost begun) own inside
      → IsReached m code (at_call m plan store before import ty args own inside) store (counted before import)
      (InImport import args (pause ∷ []) EndsInTrap ∷ InModule caller ∷ stack)
      (innermost begun ∷ around_innermost begun) (most_before plan (Import import))
      × AreLeft plan.imports (counted before import) calls
  reached_call store import args ty caller stack before own inside begun calls typed below given many as_many sound left
      short under =
      let there =
      call_begins plan.imports calls before import (innermost begun) left (omega (arith, as_many, below))
      (omega (arith, many, below)) in
      let within =
      slice_get_within (slice_index_or plan.imports import []) (slice_index before import) (innermost begun) there in
      let small : slice_index before import < 2 ^ 32 = omega (arith, within, short) in (
        answers_call laws m plan code is import ty args caller stack own inside (around_innermost begun) before store
            (innermost begun) typed below given many sound there small under,
        left_after plan.imports calls before import (innermost begun) left (omega (arith, as_many, below))
            (omega (arith, many, below)),
      )
