-- Results that come to the activations below a function, in the replay module and in its guarded module.
use Rattle.std.proofs.Common.{◌≡◌, ℕ, Bool, true, false, nat_le, List, [], ◌∷◌, ◌++◌, map, length, Option, Some, None, refl, ap, ap₂, sym, ◌∙◌, subst, arith}
use Rattle.std.specs.Prelude.{reverse, take, cond}
use Rattle.std.proofs.lemmas.Bool.Decides.{nat_tests}
use Rattle.std.proofs.lemmas.List.{length-take, length-reverse, append-nil, reverse-reverse, take_all}
use Rattle.wasm_syntax.specs.declared.values.Val.{Val}
use Rattle.wasm_syntax.specs.declared.instructions.Instr.{Instr}
use Rattle.wasm_syntax.specs.Nest.{Nest, Empty, Plain, InBlock, InLoop, InIf, InIfElse}
use Rattle.base.specs.declared.outcomes.Outcome.TheVariants.{Ended}
use Rattle.history_spec.specs.declared.entries.Entry.{Entry}
use Rattle.history_spec.specs.declared.entries.Entry.TheVariants.{HostReturn, Exit}
use Rattle.history_spec.specs.Configuration.{Place, place, Label, Frame, Activation, InModule, InMain, topmost, push_all, leave, with_results}
use Rattle.history_spec.specs.Settle.{Continues, Finishes, NoRule, SettleResult, settle_result, after_entry, AtEnd, Within, Gives, TooFew, at_end, at_end_of, end_results, return_entry, return_from, deliver}
use Rattle.history_spec.specs.Projection.{Layout, Side, Import, Original, Appended, side, caller_side, shown_entries, shown_return}
use Rattle.guarded_module_laws.specs.Moved.{moved_nest, moved_place, moved_label, moved_frame}

-- ---- leaving blocks, in a moved activation

left_alike : (to : ℕ → ℕ) (labels : List Label) (values : List Val) (rest : Nest) (number : ℕ)
    → leave (map (moved_label to) labels) values (moved_nest to rest) number
    ≡ record {
      values = (leave labels values rest number).values;
      labels = map (moved_label to) (leave labels values rest number).labels;
      at = moved_place to (leave labels values rest number).at;
    }
left_alike to [] values rest number = refl
left_alike to (label ∷ labels) values Empty number =
    left_alike to labels (values ++ label.below) label.after_block.rest label.after_block.number
left_alike to (label ∷ labels) values (Plain instr rest) number = refl
left_alike to (label ∷ labels) values (InBlock ty body rest) number = refl
left_alike to (label ∷ labels) values (InLoop ty body rest) number = refl
left_alike to (label ∷ labels) values (InIf ty body rest) number = refl
left_alike to (label ∷ labels) values (InIfElse ty body other rest) number = refl

given_alike : (to : ℕ → ℕ) (func : ℕ) (frame : Frame) (results : List Val)
    → with_results (moved_frame to func frame) results ≡ moved_frame to func (with_results frame results)
given_alike to func frame results =
    ap (λ p. record (moved_frame to func frame) { values = p.values; labels = p.labels; at = p.at })
    (left_alike to frame.labels (push_all results frame.values) frame.at.rest frame.at.number)

end_alike : (to : ℕ → ℕ) (func : ℕ) (frame : Frame) (rest : Nest)
    → at_end_of (moved_nest to rest) (moved_frame to func frame) ≡ at_end_of rest frame
end_alike to func frame Empty = refl
end_alike to func frame (Plain instr rest) = refl
end_alike to func frame (InBlock ty body rest) = refl
end_alike to func frame (InLoop ty body rest) = refl
end_alike to func frame (InIf ty body rest) = refl
end_alike to func frame (InIfElse ty body other rest) = refl

-- ---- what returns show

-- outside the original
abbrev pub IsOut : Side → Type 0
IsOut Original = ⊥
IsOut outside = Unit {0}

-- nothing is between a function and its caller: both are the original's, or the function is appended, or both are
-- outside
pub data IsDirect : (callee caller : Side) → Type 0 where
  Inner : IsDirect Original Original
  Helper : {caller : Side} → IsDirect Appended caller
  Outside : {callee caller : Side} → IsOut callee → IsOut caller → IsDirect callee caller

not_out : (x : Side) → x ≡ Original → IsOut x → ⊥
not_out Original e out = absurd out
not_out Import e out = cc
not_out Appended e out = cc

direct_original : (x y : Side) → IsDirect x y → x ≡ Original → y ≡ Original
direct_original Original Original d e = refl
direct_original Original Import (Outside a b) e = absurd a
direct_original Original Appended (Outside a b) e = absurd a
direct_original Import y d e = cc
direct_original Appended y d e = cc

helper_shows : (y : Side) (func : ℕ) (results : List Val) → shown_return y Appended func results ≡ []
helper_shows Original func results = refl
helper_shows Import func results = refl
helper_shows Appended func results = refl

outside_shows : (x y : Side) (func : ℕ) (results : List Val) → IsDirect x y → IsOut x
    → shown_return y x func results ≡ []
outside_shows Appended y func results d out = helper_shows y func results
outside_shows Import Import func results d out = refl
outside_shows Import Appended func results d out = refl
outside_shows Import Original func results (Outside a b) out = absurd b
outside_shows Original y func results d out = absurd out

-- a function outside sees the return of an original as the host's
host_shows : (y : Side) (func : ℕ) (results : List Val) → IsOut y
    → shown_return y Original func results ≡ HostReturn func results ∷ []
host_shows Import func results out = refl
host_shows Appended func results out = refl
host_shows Original func results out = absurd out

-- ---- stacks

abbrev pub funcs_in : List Activation → List ℕ
funcs_in [] = []
funcs_in (InModule frame ∷ below) = frame.func ∷ funcs_in below
funcs_in (activation ∷ below) = funcs_in below

module _ (layout : Layout) (to : ℕ → ℕ) where
  -- a function and its number in the guarded module
  pub data IsNumber : (func number : ℕ) → Type 0 where
    Stays : {func : ℕ} → side layout func ≡ Original → IsNumber func func
    Goes : {func : ℕ} → IsOut (side layout func) → side layout (to func) ≡ Appended → IsNumber func (to func)

  -- an activation and its own in the guarded module
  pub data IsOwn : (frame own : Frame) → Type 0 where
    Kept : {frame : Frame} → side layout frame.func ≡ Original → IsOwn frame frame
    Moved : {frame : Frame} → IsOut (side layout frame.func) → side layout (to frame.func) ≡ Appended
        → IsOwn frame (moved_frame to (to frame.func) frame)

  -- an activation that waits without labels, before an instruction; at the end of its body
  pub record Waits (frame : Frame) : Type 0 where
    pub instr : Instr
    pub rest : Nest
    pub number : ℕ
    pub at : frame.at ≡ place (Plain instr rest) number
    pub labels : frame.labels ≡ []

  pub record WaitsAtEnd (frame : Frame) (arity : ℕ) : Type 0 where
    pub number : ℕ
    pub at : frame.at ≡ place Empty number
    pub labels : frame.labels ≡ []
    pub values : frame.values ≡ []
    pub gives : frame.arity ≡ arity

  -- the activations below a function that has so many results, and those of the guarded module
  pub data AreBelow : (callee arity : ℕ) (stack own : List Activation) → Type 0 where
    Root : {callee arity : ℕ} (base : Frame) → IsOut (side layout callee) → side layout base.func ≡ Appended → Waits base
        → AreBelow callee arity (InMain [] ∷ []) (InModule base ∷ InMain [] ∷ [])
    Same : {callee arity : ℕ} (frame own : Frame) (stack owns : List Activation)
        → IsDirect (side layout callee) (side layout frame.func) → IsOwn frame own
        → AreBelow frame.func frame.arity stack owns
        → AreBelow callee arity (InModule frame ∷ stack) (InModule own ∷ owns)
    InPlace : {callee arity : ℕ} (frame front : Frame) (stack owns : List Activation)
        → side layout callee ≡ Import → side layout frame.func ≡ Original → front.func ≡ callee
        → WaitsAtEnd front arity → AreBelow frame.func frame.arity stack owns
        → AreBelow callee arity (InModule frame ∷ stack) (InModule front ∷ InModule frame ∷ owns)
    Before : {callee arity : ℕ} (frame own front : Frame) (stack owns : List Activation)
        → side layout callee ≡ Original → IsOut (side layout frame.func) → IsOwn frame own
        → side layout front.func ≡ Appended → Waits front → AreBelow frame.func frame.arity stack owns
        → AreBelow callee arity (InModule frame ∷ stack) (InModule front ∷ InModule own ∷ owns)

  -- ---- what settling comes to on both sides

  abbrev pub ShowAlike : (inside own_inside : List ℕ) → List Entry → List Entry → Type 0
  ShowAlike inside own_inside entries owns =
      (args : List Val) → shown_entries layout inside args entries ≡ shown_entries layout own_inside args owns

  -- both go on at activations of one function; or the replay module's run ends and the guarded module's goes on in its
  -- `_start`; or the guarded module's stops at a front of an original, from where the replay module's results are
  -- delivered further; or no rule holds
  pub data Meets (inside own_inside : List ℕ) (r own : SettleResult) : Type 0 where
    GoOn : (frame next : Frame) (stack owns : List Activation) → r.next ≡ Continues (InModule frame ∷ stack)
        → own.next ≡ Continues (InModule next ∷ owns) → IsOwn frame next
        → AreBelow frame.func frame.arity stack owns → ShowAlike inside own_inside r.entries own.entries
        → Meets inside own_inside r own
    Ends : (base : Frame) → r.next ≡ Finishes Ended
        → own.next ≡ Continues (InModule base ∷ InMain [] ∷ []) → ShowAlike inside own_inside r.entries own.entries
        → Meets inside own_inside r own
    Stops : (before : List Entry) (front frame next : Frame) (stack owns : List Activation) (results : List Val)
        → r ≡ settle_result (before ++ (deliver (InModule frame ∷ stack) results).entries)
        (deliver (InModule frame ∷ stack) results).next
        → own.next ≡ Continues (InModule (with_results front results) ∷ InModule next ∷ owns)
        → IsOwn frame next → AreBelow frame.func frame.arity stack owns
        → ShowAlike inside own_inside before own.entries → Meets inside own_inside r own
    NoneHolds : r.next ≡ NoRule → Meets inside own_inside r own

  -- ---- one return in front

  -- entries of returns
  pub data IsReturn (func : ℕ) (results : List Val) : Entry → Type 0 where
    ByExit : IsReturn func results (Exit func results)
    ByHost : IsReturn func results (HostReturn func results)

  return_shows : (func : ℕ) (results : List Val) (entry : Entry) (here : ℕ) (inside : List ℕ) (args : List Val)
      (later : List Entry) → IsReturn func results entry
      → shown_entries layout (here ∷ inside) args (entry ∷ later)
      ≡ shown_return (caller_side layout inside) (side layout func) func results ++ shown_entries layout inside args later
  return_shows func results _ here inside args later ByExit = refl
  return_shows func results _ here inside args later ByHost = refl

  -- a return that shows the same on both sides
  module _ (func number : ℕ) (results : List Val) (entry own_entry : Entry) (is : IsReturn func results entry)
      (own_is : IsReturn number results own_entry) (inside own_inside : List ℕ)
      (same : shown_return (caller_side layout inside) (side layout func) func results
      ≡ shown_return (caller_side layout own_inside) (side layout number) number results) where
    alike : (entries owns : List Entry) → ShowAlike inside own_inside entries owns
        → ShowAlike (func ∷ inside) (number ∷ own_inside) (entry ∷ entries) (own_entry ∷ owns)
    alike entries owns show args =
        return_shows func results entry func inside args entries is
        ∙ ap₂ (λ (first later : List Entry). first ++ later) same (show args)
        ∙ sym (return_shows number results own_entry number own_inside args owns own_is)

    pub with_return : (r own : SettleResult) → Meets inside own_inside r own
        → Meets (func ∷ inside) (number ∷ own_inside) (after_entry entry r) (after_entry own_entry own)
    with_return r own (GoOn frame next stack owns e f o below show) =
        GoOn frame next stack owns e f o below (alike r.entries own.entries show)
    with_return r own (Ends base e f show) = Ends base e f (alike r.entries own.entries show)
    with_return r own (Stops before front frame next stack owns given e f o below show) =
        Stops (entry ∷ before) front frame next stack owns given (ap (after_entry entry) e) f o below
        (alike before own.entries show)
    with_return r own (NoneHolds e) = NoneHolds e

  -- a return of the guarded module's own, which shows nothing
  module _ (number : ℕ) (results : List Val) (own_entry : Entry) (own_is : IsReturn number results own_entry)
      (inside own_inside : List ℕ)
      (nothing : shown_return (caller_side layout own_inside) (side layout number) number results ≡ []) where
    own_alike : (entries owns : List Entry) → ShowAlike inside own_inside entries owns
        → ShowAlike inside (number ∷ own_inside) entries (own_entry ∷ owns)
    own_alike entries owns show args =
        show args
        ∙ sym (return_shows number results own_entry number own_inside args owns own_is
        ∙ ap (λ (first : List Entry). first ++ shown_entries layout own_inside args owns) nothing)

    pub with_own_return : (r own : SettleResult) → Meets inside own_inside r own
        → Meets inside (number ∷ own_inside) r (after_entry own_entry own)
    with_own_return r own (GoOn frame next stack owns e f o below show) =
        GoOn frame next stack owns e f o below (own_alike r.entries own.entries show)
    with_own_return r own (Ends base e f show) = Ends base e f (own_alike r.entries own.entries show)
    with_own_return r own (Stops before front frame next stack owns given e f o below show) =
        Stops before front frame next stack owns given e f o below (own_alike before own.entries show)
    with_own_return r own (NoneHolds e) = NoneHolds e

  -- ---- an activation that results come to

  topmost_length : (count : ℕ) (values results : List Val) → topmost count values ≡ Some results
      → length results ≡ count
  topmost_length count values results e = go (nat_le count (length values)) refl e
    where
      go : (b : Bool) → nat_le count (length values) ≡ b
          → cond b (Some (reverse (take count values))) None ≡ Some results → length results ≡ count
      go true t e =
          let taken = length-take count values in
          let back = length-reverse (take count values) in
          let is : length results ≡ length (reverse (take count values)) = ap length (sym (some_is e)) in
          grind (arith, nat_tests, t, taken, back, is)
        where
          some_is : {X : Type 0} {x y : X} → Some x ≡ Some y → x ≡ y
          some_is e = cc
      go false t e = cc

  number_of : (frame own : Frame) → IsOwn frame own → IsNumber frame.func own.func
  number_of frame own (Kept s) = Stays s
  number_of frame own (Moved out app) = Goes out app

  own_given : (frame own : Frame) (results : List Val) → IsOwn frame own
      → IsOwn (with_results frame results) (with_results own results)
  own_given frame own results (Kept s) = Kept s
  own_given frame own results (Moved out app) =
      subst (λ (f : Frame). IsOwn (with_results frame results) f) (sym (given_alike to (to frame.func) frame results))
      (Moved out app)

  own_end : (frame own : Frame) → IsOwn frame own → at_end own ≡ at_end frame
  own_end frame own (Kept s) = refl
  own_end frame own (Moved out app) = end_alike to (to frame.func) frame frame.at.rest

  -- ---- results come to an activation of the module

  -- what is delivered below, once a function has returned
  abbrev pub Delivered : (func number : ℕ) → (stack owns : List Activation) → List Val → Type 0
  Delivered func number stack owns results =
      Meets (func ∷ funcs_in stack) (number ∷ funcs_in owns)
      (after_entry (return_entry func results stack) (deliver stack results))
      (after_entry (return_entry number results owns) (deliver owns results))

  gives_of : (count : ℕ) (values given : List Val) (o : Option (List Val)) → topmost count values ≡ o
      → end_results o ≡ Gives given → length given ≡ count
  gives_of count values given None t e = cc
  gives_of count values given (Some results) t e =
      topmost_length count values given (t ∙ ap (λ (l : List Val). Some l) (gives_is e))
    where
      gives_is : {x y : List Val} → Gives x ≡ Gives y → x ≡ y
      gives_is e = cc

  gives_many : (nest : Nest) (frame : Frame) (given : List Val) → at_end_of nest frame ≡ Gives given
      → length given ≡ frame.arity
  gives_many Empty frame given e =
      gives_of frame.arity frame.values given (topmost frame.arity frame.values) refl e
  gives_many (Plain instr rest) frame given e = cc
  gives_many (InBlock ty body rest) frame given e = cc
  gives_many (InLoop ty body rest) frame given e = cc
  gives_many (InIf ty body rest) frame given e = cc
  gives_many (InIfElse ty body other rest) frame given e = cc

  module _ (frame own : Frame) (stack owns : List Activation) (results : List Val) (is : IsOwn frame own)
      (below : AreBelow frame.func frame.arity stack owns)
      (later : (given : List Val) → length given ≡ frame.arity → Delivered frame.func own.func stack owns given) where
    abbrev first : Frame
    first = with_results frame results

    abbrev next : Frame
    next = with_results own results

    into_at : (e : AtEnd) → at_end first ≡ e
        → Meets (frame.func ∷ funcs_in stack) (own.func ∷ funcs_in owns)
        (return_from e first stack (deliver stack)) (return_from e next owns (deliver owns))
    into_at Within is_end =
        GoOn first next stack owns refl refl (own_given frame own results is) below (into_shows is)
      where
        into_shows : IsOwn frame own → ShowAlike (frame.func ∷ funcs_in stack) (own.func ∷ funcs_in owns) [] []
        into_shows is args = refl
    into_at (Gives given) is_end = later given (gives_many first.at.rest first given is_end)
    into_at TooFew is_end = NoneHolds refl

    pub into : Meets (frame.func ∷ funcs_in stack) (own.func ∷ funcs_in owns)
        (deliver (InModule frame ∷ stack) results) (deliver (InModule own ∷ owns) results)
    into =
        subst
        (λ e. Meets (frame.func ∷ funcs_in stack) (own.func ∷ funcs_in owns)
        (return_from (at_end first) first stack (deliver stack)) (return_from e next owns (deliver owns)))
        (sym (own_end first next (own_given frame own results is)))
        (into_at (at_end first) refl)

  -- ---- the fronts

  -- a front that waits before an instruction goes on there
  waits_goes : (front : Frame) (owns : List Activation) (results : List Val) → Waits front
      → deliver (InModule front ∷ owns) results
      ≡ settle_result [] (Continues (InModule (with_results front results) ∷ owns))
  waits_goes front owns results w =
      ap (λ e. return_from e (with_results front results) owns (deliver owns)) (within front w)
    where
      within : (front : Frame) → Waits front → at_end (with_results front results) ≡ Within
      within front w = go front.labels front.at w.labels w.at
        where
          go : (labels : List Label) (at : Place) → labels ≡ [] → at ≡ place (Plain w.instr w.rest) w.number
              → at_end_of (leave labels (push_all results front.values) at.rest at.number).at.rest
              (record front {
                values = (leave labels (push_all results front.values) at.rest at.number).values;
                labels = (leave labels (push_all results front.values) at.rest at.number).labels;
                at = (leave labels (push_all results front.values) at.rest at.number).at;
              }) ≡ Within
          go [] at l e =
              ap
              (λ (p : Place). at_end_of p.rest
              (record front { values = push_all results front.values; labels = []; at = place p.rest p.number })) e
          go (label ∷ labels) at l e = cc

  topmost_all : (values : List Val) (count : ℕ) → length values ≡ count
      → topmost count (reverse values ++ []) ≡ Some values
  topmost_all values count e =
      let own : length (reverse values) ≡ length values = length-reverse values in
      let enough : nat_le count (length (reverse values)) ≡ true = grind (arith, nat_tests, e, own) in
      ap (topmost count) (append-nil (reverse values))
      ∙ ap (λ b. cond b (Some (reverse (take count (reverse values)))) None) enough
      ∙ ap (λ (l : List Val). Some (reverse l)) (take_all count (reverse values) (omega (arith, e, own)))
      ∙ ap (λ (l : List Val). Some l) (reverse-reverse values)

  -- a front that waits at the end of its body returns what comes to it
  end_gives : (front : Frame) (owns : List Activation) (results : List Val) (arity : ℕ) → WaitsAtEnd front arity
      → length results ≡ arity
      → deliver (InModule front ∷ owns) results
      ≡ after_entry (return_entry front.func results owns) (deliver owns results)
  end_gives front owns results arity w many =
      ap (λ e. return_from e (with_results front results) owns (deliver owns))
      (go front.labels front.at front.values w.labels w.at w.values)
    where
      go : (labels : List Label) (at : Place) (values : List Val) → labels ≡ [] → at ≡ place Empty w.number
          → values ≡ []
          → at_end_of (leave labels (push_all results values) at.rest at.number).at.rest
          (record front {
            values = (leave labels (push_all results values) at.rest at.number).values;
            labels = (leave labels (push_all results values) at.rest at.number).labels;
            at = (leave labels (push_all results values) at.rest at.number).at;
          }) ≡ Gives results
      go [] at [] l e v =
          ap
          (λ (p : Place). at_end_of p.rest
          (record front { values = push_all results []; labels = []; at = place p.rest p.number })) e
          ∙ ap end_results (topmost_all results front.arity (many ∙ sym w.gives))
      go [] at (value ∷ values) l e v = cc
      go (label ∷ labels) at values l e v = cc

  -- ---- all stacks

  stays_shows : (func : ℕ) (results : List Val) (frame own : Frame) → side layout func ≡ Original
      → IsDirect (side layout func) (side layout frame.func) → IsOwn frame own
      → shown_return (side layout frame.func) (side layout func) func results
      ≡ shown_return (side layout own.func) (side layout func) func results
  stays_shows func results frame own s d (Kept o) = refl
  stays_shows func results frame own s d (Moved out app) =
      absurd (not_out (side layout frame.func) (direct_original (side layout func) (side layout frame.func) d s) out)

  moves_shows : (func : ℕ) (results : List Val) (frame own : Frame) → IsOut (side layout func)
      → side layout (to func) ≡ Appended → IsDirect (side layout func) (side layout frame.func)
      → shown_return (side layout frame.func) (side layout func) func results
      ≡ shown_return (side layout own.func) (side layout (to func)) (to func) results
  moves_shows func results frame own out app d =
      outside_shows (side layout func) (side layout frame.func) func results d out
      ∙ sym (ap (λ (s : Side). shown_return (side layout own.func) s (to func) results) app
      ∙ helper_shows (side layout own.func) (to func) results)

  direct_shows : (func number : ℕ) (results : List Val) (frame own : Frame) → IsNumber func number
      → IsDirect (side layout func) (side layout frame.func) → IsOwn frame own
      → shown_return (side layout frame.func) (side layout func) func results
      ≡ shown_return (side layout own.func) (side layout number) number results
  direct_shows func _ results frame own (Stays s) d o = stays_shows func results frame own s d o
  direct_shows func _ results frame own (Goes out app) d o = moves_shows func results frame own out app d

  root_shows : (func number : ℕ) (results : List Val) (base : ℕ) → IsNumber func number → IsOut (side layout func)
      → shown_return Appended (side layout func) func results
      ≡ shown_return (side layout base) (side layout number) number results
  root_shows func _ results base (Stays s) out = absurd (not_out (side layout func) s out)
  root_shows func _ results base (Goes o app) out =
      outside_shows (side layout func) Appended func results (Outside out tt) out
      ∙ sym (ap (λ (s : Side). shown_return (side layout base) s (to func) results) app
      ∙ helper_shows (side layout base) (to func) results)

  own_nothing : (func number : ℕ) (results : List Val) (front : ℕ) → IsNumber func number → side layout func ≡ Import
      → shown_return (side layout front) (side layout number) number results ≡ []
  own_nothing func _ results front (Stays s) i = no_both (sym s ∙ i)
    where
      no_both : Original ≡ Import → shown_return (side layout front) (side layout func) func results ≡ []
      no_both e = cc
  own_nothing func _ results front (Goes out app) i =
      ap (λ (s : Side). shown_return (side layout front) s (to func) results) app
      ∙ helper_shows (side layout front) (to func) results

  -- an original keeps its number
  original_number : (func number : ℕ) → IsNumber func number → side layout func ≡ Original → number ≡ func
  original_number func _ (Stays s) e = refl
  original_number func _ (Goes out app) e = absurd (not_out (side layout func) e out)

  before_shows : (func : ℕ) (results : List Val) (frame front : ℕ) → side layout func ≡ Original
      → IsOut (side layout frame) → side layout front ≡ Appended
      → shown_return (side layout frame) (side layout func) func results
      ≡ shown_return (side layout front) (side layout func) func results
  before_shows func results frame front s out app =
      ap (λ (x : Side). shown_return (side layout frame) x func results) s
      ∙ host_shows (side layout frame) func results out
      ∙ sym (ap₂ (λ (y x : Side). shown_return y x func results) app s)

  pub delivered : (func number arity : ℕ) (stack owns : List Activation) (results : List Val) → IsNumber func number
      → AreBelow func arity stack owns → length results ≡ arity → Delivered func number stack owns results
  delivered func number arity _ _ results is (Same frame own stack owns d o below) many =
      with_return func number results (Exit func results) (Exit number results) ByExit ByExit
      (frame.func ∷ funcs_in stack) (own.func ∷ funcs_in owns) (direct_shows func number results frame own is d o)
      (deliver (InModule frame ∷ stack) results) (deliver (InModule own ∷ owns) results)
      (into frame own stack owns results o below
      (λ given few. delivered frame.func own.func frame.arity stack owns given (number_of frame own o) below few))
  delivered func number arity _ _ results is (Root base out app w) many =
      with_return func number results (HostReturn func results) (Exit number results) ByHost ByExit
      [] (base.func ∷ []) (root_shows func number results base.func is out)
      (deliver (InMain [] ∷ []) results) (deliver (InModule base ∷ InMain [] ∷ []) results)
      (subst (λ (own : SettleResult). Meets [] (base.func ∷ []) (settle_result [] (Finishes Ended)) own)
      (sym (waits_goes base (InMain [] ∷ []) results w))
      (Ends (with_results base results) refl refl (λ args. refl)))
  delivered func number arity _ _ results is (InPlace frame front stack owns i o e w below) many =
      with_own_return number results (Exit number results) ByExit
      (func ∷ (frame.func ∷ funcs_in stack)) (front.func ∷ (frame.func ∷ funcs_in owns))
      (own_nothing func number results front.func is i)
      (after_entry (Exit func results) (deliver (InModule frame ∷ stack) results))
      (deliver (InModule front ∷ InModule frame ∷ owns) results)
      (subst
      (λ (own : SettleResult). Meets (func ∷ (frame.func ∷ funcs_in stack)) (front.func ∷ (frame.func ∷ funcs_in owns))
      (after_entry (Exit func results) (deliver (InModule frame ∷ stack) results)) own)
      (sym (end_gives front (InModule frame ∷ owns) results arity w many))
      (with_return func front.func results (Exit func results) (Exit front.func results) ByExit ByExit
      (frame.func ∷ funcs_in stack) (frame.func ∷ funcs_in owns)
      (ap (λ (f : ℕ). shown_return (side layout frame.func) (side layout f) f results) (sym e))
      (deliver (InModule frame ∷ stack) results) (deliver (InModule frame ∷ owns) results)
      (into frame frame stack owns results (Kept o) below
      (λ given few. delivered frame.func frame.func frame.arity stack owns given (Stays o) below few))))
  delivered func number arity _ _ results is (Before frame own front stack owns s out o app w below) many =
      subst
      (λ (n : ℕ). Delivered func n (InModule frame ∷ stack) (InModule front ∷ InModule own ∷ owns) results)
      (sym (original_number func number is s))
      (with_return func func results (Exit func results) (Exit func results) ByExit ByExit
      (frame.func ∷ funcs_in stack) (front.func ∷ (own.func ∷ funcs_in owns))
      (before_shows func results frame.func front.func s out app)
      (deliver (InModule frame ∷ stack) results) (deliver (InModule front ∷ InModule own ∷ owns) results)
      (subst
      (λ (result : SettleResult). Meets (frame.func ∷ funcs_in stack) (front.func ∷ (own.func ∷ funcs_in owns))
      (deliver (InModule frame ∷ stack) results) result)
      (sym (waits_goes front (InModule own ∷ owns) results w))
      (Stops [] front frame own stack owns results refl refl o below (λ args. refl))))
