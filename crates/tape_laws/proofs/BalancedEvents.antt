-- Events that lead, in order, from some open levels to others.
use Rattle.std.proofs.Common.{◌≡◌, ℕ, suc, List, [], ◌∷◌, ◌++◌, Option, Some, None, Bool, true, false, cond, nat_eq, nat_le, nat_lt, refl, sym, ap, ◌∙◌, subst, arith, inl, inr}
use Rattle.std.specs.Prelude.{◌||◌, ◌&&◌, not}
use Rattle.std.specs.Option.{option_map_or}
use Rattle.std.proofs.lemmas.Bool.Decides.{nat_tests}
use Rattle.std.proofs.lemmas.List.{append_assoc}
use Rattle.wasm_syntax.specs.declared.values.Val.{Val}
use Rattle.base.specs.declared.outcomes.Outcome.{Outcome}
use Rattle.base.specs.declared.outcomes.Outcome.TheVariants.{Ended, Trapped}
use Rattle.base.proofs.Booleans.{own_number}
use Rattle.trace_model.specs.declared.events.Event.{Event}
use Rattle.trace_model.specs.declared.events.Event.TheVariants.{Enter, Leave, Pre, Post, Grow, Seen, Table, Bytes, Entry, Global}
use Rattle.trace_model.specs.Balance.{balance_start, is_function, enter_call, enter_frames, leave_frames, post_call, post_frames, with_frames, calls_import, balanced_step, ends_so, unbalanced_from}
use Rattle.history_spec.specs.Store.{Store}
use Rattle.record_replay_spec.specs.Known.{pages_of}
use Rattle.record_replay_spec.specs.Observations.{Observation}
use Rattle.record_replay_spec.specs.Logs.{LogState, unless, log_after_all, all_observed_events, grown_events}
use Rattle.tape_laws.proofs.Trails.{Level, AtFunction, AtImport, AtCall, at_host, with_top_entered, IsWithin}
use Rattle.tape_laws.proofs.CallOrder.{callee_may}
use Rattle.tape_laws.proofs.AllowedEvents.{CanSee, AreAllowed, all_allowed}
use Rattle.tape_laws.proofs.CallLogs.{noticing}

-- ---- open levels, as balance has them

abbrev type_of : (A : Type 0) → A → Type 0
type_of A a = A

abbrev element_of : (A : Type 0) → List A → Type 0
element_of A items = A

-- frames, whose type and constructors no other crate can name: they are known by what the definitions do with them
abbrev pub Frames : Type 0
Frames = type_of _ balance_start.frames

abbrev OneFrame : Type 0
OneFrame = element_of _ balance_start.frames

-- a frame is an open function
pub record IsFunction (func : ℕ) (frame : OneFrame) : Type 0 where
  pub is : (below : Frames) → is_function (frame ∷ below) ≡ true
  pub leaves : (below : Frames) → leave_frames func (frame ∷ below) ≡ Some below

-- a frame is an open call
pub record IsCall (n callee : ℕ) (entered : Bool) (frame : OneFrame) : Type 0 where
  pub enters : (func : ℕ) (below : Frames)
      → enter_frames n func (frame ∷ below) ≡ enter_call n func (Some callee) entered below
  pub over : (below : Frames) → post_frames n (frame ∷ below) ≡ post_call n (Some callee) entered below
  pub imports : (below : Frames) → calls_import n (frame ∷ below) ≡ nat_lt callee n

-- frames represent these levels
abbrev pub AreLevels : (n : ℕ) → List Level → Frames → Type 0
AreLevels n [] [] = Unit {0}
AreLevels n (AtFunction func ∷ levels) (frame ∷ below) = IsFunction func frame × AreLevels n levels below
AreLevels n (AtImport direct callee args ∷ levels) (frame ∷ below) =
    IsCall n callee false frame × AreLevels n levels below
AreLevels n (AtCall direct callee entered args ∷ levels) (frame ∷ below) =
    IsCall n callee entered frame × AreLevels n levels below
AreLevels n levels frames = ⊥

-- a choice whose test holds
taken : (A : Type 0) (C : A → Type 0) (b : Bool) (x : A) → b ≡ true → C x
    → (after : A) × (cond b (Some x) None ≡ Some after) × C after
taken A C b x e h = (x, ap (λ b. cond b (Some x) None) e, h)

passed : (A : Type 0) (b : Bool) (x : A) (rest : A → Option ℕ) (other : Option ℕ) → b ≡ true → rest x ≡ None
    → option_map_or rest (cond b (Some x) None) other ≡ None
passed A b x rest other e h = ap (λ b. option_map_or rest (cond b (Some x) None) other) e ∙ h

module _ (n : ℕ) where
  pub on_function : (levels : List Level) (frames : Frames) → IsWithin levels → AreLevels n levels frames
      → is_function frames ≡ true
  on_function [] frames w are = absurd w
  on_function (AtFunction func ∷ levels) [] w are = absurd are
  on_function (AtFunction func ∷ levels) (frame ∷ below) w are = are.0.is below
  on_function (AtImport direct callee args ∷ levels) frames w are = absurd w
  on_function (AtCall direct callee entered args ∷ levels) frames w are = absurd w

  -- a function is entered by a call
  enters_call : (func : ℕ) (direct : Bool) (callee : ℕ) (entered : Bool) (args : List Val) (levels : List Level)
      (frames : Frames) → (nat_lt callee n || (nat_eq callee func && not entered)) ≡ true
      → AreLevels n (AtCall direct callee entered args ∷ levels) frames
      → (after : Frames) × (enter_frames n func frames ≡ Some after)
      × AreLevels n (AtFunction func ∷ AtCall direct callee true args ∷ levels) after
  enters_call func direct callee entered args levels [] e are = absurd are
  enters_call func direct callee entered args levels (frame ∷ below) e are =
      let t : (after : Frames) × (enter_call n func (Some callee) entered below ≡ Some after)
      × AreLevels n (AtFunction func ∷ AtCall direct callee true args ∷ levels) after =
      taken Frames (AreLevels n (AtFunction func ∷ AtCall direct callee true args ∷ levels))
      (nat_lt callee n || (nat_eq callee func && not entered)) _ e (
        record { is = λ below. refl; leaves = λ below. ap (λ b. cond b (Some below) None) (own_number func) },
        (record { enters = λ func below. refl; over = λ below. refl; imports = λ below. refl }, are.1),
      ) in (t.0, are.0.enters func below ∙ t.1, t.2)

  -- the host enters a function
  pub host_enters : (func : ℕ) (levels : List Level) (frames : Frames) → at_host n levels ≡ true
      → AreLevels n levels frames
      → (after : Frames) × (enter_frames n func frames ≡ Some after)
      × AreLevels n (AtFunction func ∷ with_top_entered levels) after
  host_enters func [] [] h are = (
    option_map_or (λ frames. frames) (enter_frames n func []) [],
    refl,
    (
      record { is = λ below. refl; leaves = λ below. ap (λ b. cond b (Some below) None) (own_number func) },
      tt,
    ),
  )
  host_enters func [] (frame ∷ below) h are = absurd are
  host_enters func (AtFunction caller ∷ levels) frames h are = cc
  host_enters func (AtImport direct callee args ∷ levels) frames h are = cc
  host_enters func (AtCall direct callee entered args ∷ levels) frames h are =
      enters_call func direct callee entered args levels frames
      (ap (λ b. b || (nat_eq callee func && not entered)) h) are

  -- the module enters a function
  pub module_enters : (func : ℕ) (direct : Bool) (args : List Val) (levels : List Level) (frames : Frames)
      → AreLevels n (AtCall direct func false args ∷ levels) frames
      → (after : Frames) × (enter_frames n func frames ≡ Some after)
      × AreLevels n (AtFunction func ∷ AtCall direct func true args ∷ levels) after
  module_enters func direct args levels frames are =
      enters_call func direct func false args levels frames
      (callee_may n func) are

  -- a function ends
  function_leaves : (func : ℕ) (levels : List Level) (frames : Frames)
      → AreLevels n (AtFunction func ∷ levels) frames
      → (after : Frames) × (leave_frames func frames ≡ Some after) × AreLevels n levels after
  function_leaves func levels [] are = absurd are
  function_leaves func levels (frame ∷ below) are = (below, are.0.leaves below, are.1)

  -- a call ends
  call_over : (direct : Bool) (callee : ℕ) (entered : Bool) (args : List Val) (levels : List Level) (frames : Frames)
      → (nat_lt callee n || entered) ≡ true → AreLevels n (AtCall direct callee entered args ∷ levels) frames
      → (after : Frames) × (post_frames n frames ≡ Some after) × AreLevels n levels after
  call_over direct callee entered args levels [] e are = absurd are
  call_over direct callee entered args levels (frame ∷ below) e are =
      (below, are.0.over below ∙ ap (λ b. cond b (Some below) None) e, are.1)

-- ---- events in their order

module _ (n : ℕ) (outcome : Outcome) where
  -- from frames with these levels, the events followed by the outcome are in order
  abbrev pub AreBalanced : List Level → (grew : Bool) → List Event → Type 0
  AreBalanced levels grew events =
      (frames : Frames) → AreLevels n levels frames → (at : ℕ) (called : Bool)
      → unbalanced_from n at (record { frames = frames; grew = grew; called = called }) outcome events ≡ None

  -- events lead, in order, from levels and a log to other levels and another log
  abbrev pub LeadsTo : List Level → LogState → List Event → List Level → LogState → Type 0
  LeadsTo before st events after now =
      (grew : Bool) → CanSee grew st → (found : List Event)
      → ((grew : Bool) → CanSee grew now → AreBalanced after grew found)
      → AreBalanced before grew (events ++ found)

  pub both_lead : (before middle after : List Level) (st now last : LogState) (first second : List Event)
      → LeadsTo before st first middle now → LeadsTo middle now second after last
      → LeadsTo before st (first ++ second) after last
  both_lead before middle after st now last first second x y grew sees found rest frames are at called =
      ap (unbalanced_from n at (record { frames = frames; grew = grew; called = called }) outcome)
      (append_assoc first second found)
      ∙ x grew sees (second ++ found) (λ g s. y g s found rest) frames are at called

  -- an event that leads from frames to frames
  frames_lead : (before after : List Level) (st : LogState) (event : Event) (step : Frames → Option Frames)
      → ((grew called : Bool) (frames : Frames)
      → balanced_step n (record { frames = frames; grew = grew; called = called }) event
      ≡ with_frames (record { frames = frames; grew = grew; called = called }) (step frames))
      → ((frames : Frames) → AreLevels n before frames
      → (next : Frames) × (step frames ≡ Some next) × AreLevels n after next)
      → LeadsTo before st (event ∷ []) after st
  frames_lead before after st event step is leads grew sees found rest frames are at called =
      let s = leads frames are in
      ap (λ o. option_map_or (λ next. unbalanced_from n (suc at) next outcome found) o (Some at))
      (is grew called frames ∙ ap (with_frames (record { frames = frames; grew = grew; called = called })) s.1)
      ∙ rest grew sees s.0 s.2 (suc at) false

  pub enter_leads : (func : ℕ) (args : List Val) (before after : List Level) (st : LogState)
      → nat_le n func ≡ true
      → ((frames : Frames) → AreLevels n before frames
      → (next : Frames) × (enter_frames n func frames ≡ Some next) × AreLevels n after next)
      → LeadsTo before st (Enter func args ∷ []) after st
  enter_leads func args before after st own leads =
      frames_lead before after st (Enter func args) (enter_frames n func)
      (λ grew called frames.
      ap
      (λ b. cond b
      (with_frames (record { frames = frames; grew = grew; called = called }) (enter_frames n func frames)) None)
      own)
      leads

  pub leave_leads : (func : ℕ) (levels : List Level) (st : LogState)
      → LeadsTo (AtFunction func ∷ levels) st (Leave func ∷ []) levels st
  leave_leads func levels st =
      frames_lead (AtFunction func ∷ levels) levels st (Leave func) (leave_frames func) (λ grew called frames. refl)
      (function_leaves n func levels)

  pub post_leads : (result : Option Val) (direct : Bool) (callee : ℕ) (entered : Bool) (args : List Val)
      (levels : List Level) (st : LogState) → (nat_lt callee n || entered) ≡ true
      → LeadsTo (AtCall direct callee entered args ∷ levels) st (Post result ∷ []) levels st
  post_leads result direct callee entered args levels st e =
      frames_lead (AtCall direct callee entered args ∷ levels) levels st (Post result) (post_frames n)
      (λ grew called frames. refl) (λ frames are. call_over n direct callee entered args levels frames e are)

  pub pre_leads : (direct : Bool) (callee : ℕ) (args : List Val) (levels : List Level) (st : LogState)
      → IsWithin levels
      → LeadsTo levels st (Pre (Some callee) ∷ []) (AtCall direct callee false args ∷ levels) st
  pre_leads direct callee args levels st w grew sees found rest frames are at called =
      let t = taken (type_of _ balance_start)
      (λ state. unbalanced_from n (suc at) state outcome found ≡ None) (is_function frames)
      _ (on_function n levels frames w are)
      (rest grew sees _ (record { enters = λ func below. refl; over = λ below. refl; imports = λ below. refl }, are)
      (suc at) true)
      in
      ap (λ o. option_map_or (λ next. unbalanced_from n (suc at) next outcome found) o (Some at)) t.1 ∙ t.2

  -- an event within a function, which changes no frame
  within : (levels : List Level) (grew : Bool) (found : List Event) (frames : Frames) → IsWithin levels
      → AreLevels n levels frames → AreBalanced levels grew found → (at : ℕ)
      → option_map_or (λ next. unbalanced_from n (suc at) next outcome found)
      (cond (is_function frames) (Some (record { frames = frames; grew = grew; called = false })) None) (Some at)
      ≡ None
  within levels grew found frames w are rest at =
      ap
      (λ b. option_map_or (λ next. unbalanced_from n (suc at) next outcome found)
      (cond b (Some (record { frames = frames; grew = grew; called = false })) None) (Some at))
      (on_function n levels frames w are)
      ∙ rest frames are (suc at) false

  -- a growth that is noticed
  pub grown_leads : (levels : List Level) (st : LogState) (view : Store) → IsWithin levels
      → LeadsTo levels st (grown_events st.noticed view) levels (noticing view st)
  grown_leads levels st view w = go (nat_eq (pages_of view.memory) st.noticed) refl
    where
      still : nat_eq (pages_of view.memory) st.noticed ≡ true → (grew : Bool) → CanSee grew st
          → CanSee grew (noticing view st)
      still e grew (inl g) = inl g
      still e grew (inr p) =
          let same : st.noticed ≡ pages_of view.memory = grind (arith, nat_tests, e) in inr (p ∙ same)

      go : (b : Bool) → nat_eq (pages_of view.memory) st.noticed ≡ b
          → LeadsTo levels st (unless b (Grow (pages_of view.memory))) levels (noticing view st)
      go true e grew sees found rest frames are at called = rest grew (still e grew sees) frames are at called
      go false e grew sees found rest frames are at called =
          within levels true found frames w are (rest true (inl refl)) at

  allowed_balanced : (levels : List Level) (grew : Bool) (events found : List Event) → IsWithin levels
      → AreAllowed grew events → AreBalanced levels grew found → AreBalanced levels grew (events ++ found)
  allowed_balanced levels grew [] found w h rest frames are at called = rest frames are at called
  allowed_balanced levels true (Seen ∷ events) found w h rest frames are at called =
      within levels true (events ++ found) frames w are (allowed_balanced levels true events found w h.1 rest) at
  allowed_balanced levels false (Seen ∷ events) found w h rest frames are at called = absurd (no h.0)
    where
      no : false ≡ true → ⊥
      no e = cc
  allowed_balanced levels grew (Table entries ∷ events) found w h rest frames are at called =
      within levels grew (events ++ found) frames w are (allowed_balanced levels grew events found w h.1 rest) at
  allowed_balanced levels grew (Bytes address bytes ∷ events) found w h rest frames are at called =
      within levels grew (events ++ found) frames w are (allowed_balanced levels grew events found w h.1 rest) at
  allowed_balanced levels grew (Entry index func ∷ events) found w h rest frames are at called =
      within levels grew (events ++ found) frames w are (allowed_balanced levels grew events found w h.1 rest) at
  allowed_balanced levels grew (Global global value ∷ events) found w h rest frames are at called =
      within levels grew (events ++ found) frames w are (allowed_balanced levels grew events found w h.1 rest) at
  allowed_balanced levels grew (Enter func args ∷ events) found w h rest frames are at called = absurd h.0
  allowed_balanced levels grew (Leave func ∷ events) found w h rest frames are at called = absurd h.0
  allowed_balanced levels grew (Pre callee ∷ events) found w h rest frames are at called = absurd h.0
  allowed_balanced levels grew (Post result ∷ events) found w h rest frames are at called = absurd h.0
  allowed_balanced levels grew (Grow pages ∷ events) found w h rest frames are at called = absurd h.0

  -- the events of observations
  pub observed_lead : (levels : List Level) (st : LogState) (items : List Observation) → IsWithin levels
      → LeadsTo levels st (all_observed_events n st items) levels (log_after_all st items)
  observed_lead levels st items w grew sees found rest =
      let all = all_allowed grew n st items sees in
      allowed_balanced levels grew (all_observed_events n st items) found w all.0 (rest grew all.1)

  -- ---- ends

  -- nothing is open at the end of the run
  pub nothing_open : (grew : Bool) → outcome ≡ Ended → AreBalanced [] grew []
  nothing_open grew over [] are at called =
      ap (λ o. cond (ends_so n (record { frames = []; grew = grew; called = called }) o) None (Some at)) over
  nothing_open grew over (frame ∷ below) are at called = absurd are

  -- a Pre event may be the last, if the run traps within a function
  pub just_called : (callee : Option ℕ) (levels : List Level) (grew : Bool) → outcome ≡ Trapped → IsWithin levels
      → AreBalanced levels grew (Pre callee ∷ [])
  just_called callee levels grew over w frames are at called =
      subst
      (λ o. unbalanced_from n at (record { frames = frames; grew = grew; called = called }) o (Pre callee ∷ []) ≡ None)
      (sym over)
      (passed _ (is_function frames) _ (λ next. unbalanced_from n (suc at) next Trapped []) (Some at)
      (on_function n levels frames w are) refl)
