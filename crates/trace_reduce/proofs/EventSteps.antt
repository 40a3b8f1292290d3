-- What a balanced event does to the open functions and calls, and what it reports of the host.
use Rattle.std.proofs.Common.{◌≡◌, ℕ, List, [], ◌∷◌, Option, Some, None, Bool, true, false, cond, not, ◌&&◌, ◌||◌, nat_eq, nat_lt, nat_le, refl, sym, subst}
use Rattle.base.proofs.Options.{cond_some}
use Rattle.trace_model.specs.declared.balance.Frame.{Frame}
use Rattle.trace_model.specs.declared.balance.Frame.TheVariants.{Function, Call}
use Rattle.trace_model.specs.declared.balance.Balance.{Balance}
use Rattle.trace_model.specs.declared.events.Event.{Event}
use Rattle.trace_model.specs.declared.events.Event.TheVariants.{Enter, Leave, Pre, Post, Grow, Seen, Table, Bytes, Entry, Global}
use Rattle.trace_model.specs.declared.tapes.Origin.TheVariants.{Import, Back}
use Rattle.trace_model.specs.declared.tapes.Next.{Next}
use Rattle.trace_model.specs.declared.tapes.Next.TheVariants as nexts
use Rattle.trace_model.specs.Balance.{is_function, enter_frames, leave_frames, post_frames, with_frames, in_function, balanced_step}
use Rattle.wasm_syntax.specs.declared.values.Val.{Val}
use Rattle.record_replay_spec.specs.LogTapes.{Mark, Begins, Ends, Finds, LogFrame, frames_after, is_at_host, event_marks, mark_if}
use Rattle.trace_reduce.specs.Reducer.{log_frames, calls_stand}

-- an event is the beginning of a call
abbrev pub is_pre : Event → Bool
is_pre (Pre callee) = true
is_pre event = false

-- how an event's marks lead from or to the host
abbrev pub Moves : (was at_host : Bool) → List Mark → Type 0
Moves was at_host [] = was ≡ at_host
Moves was at_host (Begins origin ∷ []) = (was ≡ false) × (at_host ≡ true)
Moves was at_host (Ends next ∷ []) = (was ≡ true) × (at_host ≡ false)
Moves was at_host (Finds effect ∷ []) = (was ≡ false) × (at_host ≡ false)
Moves was at_host (mark ∷ other ∷ marks) = ⊥

pub record Follows (n size : ℕ) (frames : List Frame) (event : Event) (next : List Frame) : Type 0 where
  pub frames_same : frames_after (log_frames frames) event ≡ log_frames next
  pub stand : calls_stand next ≡ true
  pub moves : Moves (is_at_host n (log_frames frames)) (is_at_host n (log_frames next))
      (event_marks n (log_frames frames) (log_frames next) size event)

some_same : {X : Type 0} (x y : X) → Some x ≡ Some y → x ≡ y
some_same x y h = cc

-- from the host by a mark, or not
leaves : (was : Bool) (next : Next) → Moves was false (mark_if was (Ends next))
leaves true next = (refl, refl)
leaves false next = refl

module _ (n size : ℕ) where
  enters : (func : ℕ) (args : List Val) (frames next : List Frame) → calls_stand frames ≡ true
      → enter_frames n func frames ≡ Some next → Follows n size frames (Enter func args) next
  enters func args [] next stand h =
      subst (Follows n size [] (Enter func args)) (some_same _ _ h)
      (record { frames_same = refl; stand = refl; moves = (refl, refl) })
  enters func args (Function caller ∷ below) next stand h = cc
  enters func args (Call None entered ∷ below) next stand h = cc
  enters func args (Call (Some callee) entered ∷ below) next stand h =
      let p = cond_some (nat_lt callee n || (nat_eq callee func && not entered)) _ next h in
      subst (Follows n size (Call (Some callee) entered ∷ below) (Enter func args)) (some_same _ _ p.1)
      (record {
        frames_same = refl;
        stand = stand;
        moves = leaves (nat_lt callee n) (nexts.Call func args);
      })

  comes_back : (at_host : Bool) → Moves false at_host (mark_if at_host (Begins Back))
  comes_back true = (refl, refl)
  comes_back false = refl

  left : (func : ℕ) (frames next : List Frame) → calls_stand frames ≡ true
      → leave_frames func frames ≡ Some next → Follows n size frames (Leave func) next
  left func [] next stand h = cc
  left func (Call callee entered ∷ below) next stand h = cc
  left func (Function top ∷ below) next stand h =
      let p = cond_some (nat_eq top func) (Some below) next h in
      subst (Follows n size (Function top ∷ below) (Leave func)) (some_same _ _ p.1)
      (record {
        frames_same = refl;
        stand = stand;
        moves = comes_back (is_at_host n (log_frames below));
      })

  -- control does not reach a function by the end of a call
  function_stands : (below : List Frame) → cond (is_function below) (calls_stand below) false ≡ true
      → (calls_stand below ≡ true) × (is_at_host n (log_frames below) ≡ false)
  function_stands [] h = cc
  function_stands (Function func ∷ below) h = (h, refl)
  function_stands (Call callee entered ∷ below) h = cc

  ended : (result : Option Val) (frames next : List Frame) → calls_stand frames ≡ true
      → post_frames n frames ≡ Some next → Follows n size frames (Post result) next
  ended result [] next stand h = cc
  ended result (Function func ∷ below) next stand h = cc
  ended result (Call None entered ∷ below) next stand h = cc
  ended result (Call (Some callee) entered ∷ below) next stand h =
      let p = cond_some (nat_lt callee n || entered) (Some below) next h in
      let q = function_stands below stand in
      subst (Follows n size (Call (Some callee) entered ∷ below) (Post result)) (some_same _ _ p.1)
      (record {
        frames_same = refl;
        stand = q.0;
        moves =
            subst (λ at_host. Moves (nat_lt callee n) at_host (mark_if (nat_lt callee n) (Ends (nexts.Return result))))
            (sym q.1) (leaves (nat_lt callee n) (nexts.Return result));
      })

  calls_import : (callee : ℕ) (b : Bool) → Moves false b (mark_if b (Begins (Import callee)))
  calls_import callee true = (refl, refl)
  calls_import callee false = refl

  begun : (callee : Option ℕ) (frames : List Frame) → calls_stand frames ≡ true → is_function frames ≡ true
      → Follows n size frames (Pre callee) (Call callee false ∷ frames)
  begun callee [] stand h = cc
  begun callee (Call other entered ∷ below) stand h = cc
  begun None (Function func ∷ below) stand h = record { frames_same = refl; stand = stand; moves = refl }
  begun (Some callee) (Function func ∷ below) stand h =
      record { frames_same = refl; stand = stand; moves = calls_import callee (nat_lt callee n) }

  -- an event within a function that finds something, or a growth
  module _ (event : Event) (same : (frames : List LogFrame) → frames_after frames event ≡ frames)
      (finds : (before after : List LogFrame) → Moves false false (event_marks n before after size event)) where
    within : (frames : List Frame) → calls_stand frames ≡ true → is_function frames ≡ true
        → Follows n size frames event frames
    within [] stand h = cc
    within (Call other entered ∷ below) stand h = cc
    within (Function func ∷ below) stand h =
        record {
          frames_same = same (log_frames (Function func ∷ below));
          stand = stand;
          moves = finds (log_frames (Function func ∷ below)) (log_frames (Function func ∷ below));
        }

    within_function : (state next : Balance) (grew : Bool) → calls_stand state.frames ≡ true
        → in_function state grew ≡ Some next → Follows n size state.frames event next.frames × (next.called ≡ false)
    within_function state next grew stand h =
        let p = cond_some (is_function state.frames) _ next h in
        subst (λ now. Follows n size state.frames event now.frames × (now.called ≡ false)) (some_same _ _ p.1)
        (within state.frames stand p.0, refl)

  with_some : (state next : Balance) (o : Option (List Frame)) → with_frames state o ≡ Some next
      → (o ≡ Some next.frames) × (next.called ≡ false)
  with_some state next None h = cc
  with_some state next (Some frames) h =
      subst (λ now. (Some frames ≡ Some now.frames) × (now.called ≡ false)) (some_same _ _ h) (refl, refl)

  pub follows : (state : Balance) (event : Event) (next : Balance) → calls_stand state.frames ≡ true
      → balanced_step n state event ≡ Some next
      → Follows n size state.frames event next.frames × (next.called ≡ is_pre event)
  follows state (Enter func args) next stand h =
      let p = cond_some (nat_le n func) (with_frames state (enter_frames n func state.frames)) next h in
      let q = with_some state next (enter_frames n func state.frames) p.1 in
      (enters func args state.frames next.frames stand q.0, q.1)
  follows state (Leave func) next stand h =
      let q = with_some state next (leave_frames func state.frames) h in
      (left func state.frames next.frames stand q.0, q.1)
  follows state (Post result) next stand h =
      let q = with_some state next (post_frames n state.frames) h in
      (ended result state.frames next.frames stand q.0, q.1)
  follows state (Pre callee) next stand h =
      let p = cond_some (is_function state.frames) _ next h in
      subst (λ now. Follows n size state.frames (Pre callee) now.frames × (now.called ≡ true)) (some_same _ _ p.1)
      (begun callee state.frames stand p.0, refl)
  follows state (Grow pages) next stand h =
      within_function (Grow pages) (λ frames. refl) (λ before after. refl) state next true stand h
  follows state Seen next stand h =
      let p = cond_some state.grew (in_function state true) next h in
      within_function Seen (λ frames. refl) (λ before after. (refl, refl)) state next true stand p.1
  follows state (Table entries) next stand h =
      within_function (Table entries) (λ frames. refl) (λ before after. (refl, refl)) state next state.grew stand h
  follows state (Bytes addr bytes) next stand h =
      within_function (Bytes addr bytes) (λ frames. refl) (λ before after. (refl, refl)) state next state.grew stand h
  follows state (Entry index func) next stand h =
      within_function (Entry index func) (λ frames. refl) (λ before after. (refl, refl)) state next state.grew stand h
  follows state (Global global value) next stand h =
      within_function (Global global value) (λ frames. refl) (λ before after. (refl, refl)) state next state.grew
      stand h
