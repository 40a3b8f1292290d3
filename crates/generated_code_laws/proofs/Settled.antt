-- Returns to the original and to the host, in the run of a replay module beside that of its tape.
use Rattle.std.proofs.Common.{◌≡◌, ℕ, zero, suc, ◌≤◌, List, [], ◌∷◌, ◌++◌, length, Option, Some, None, reverse, replicate, refl, sym, ap, ◌∙◌, subst, arith}
use Rattle.std.proofs.lemmas.List.{append-nil}
use Rattle.wasm_syntax.specs.declared.values.Val.{Val}
use Rattle.wasm_syntax.specs.declared.values.ValType.{ValType}
use Rattle.wasm_syntax.specs.declared.signatures.FuncType.{FuncType}
use Rattle.wasm_syntax.specs.declared.instructions.Instr.{Instr}
use Rattle.wasm_syntax.specs.declared.instructions.Instr.TheVariants.{Drop}
use Rattle.wasm_syntax.specs.declared.modules.Module.{Module}
use Rattle.wasm_syntax.specs.Nest.{Nest, Empty, Plain, InBlock, InLoop, InIf, InIfElse}
use Rattle.wasm_syntax.specs.Index.{imported_funcs}
use Rattle.host_script.specs.declared.scripts.ResponseEnd.TheVariants.{Trap as EndsInTrap}
use Rattle.trace_model.specs.declared.tapes.Origin.{Origin}
use Rattle.trace_model.specs.declared.tapes.Origin.TheVariants.{Back}
use Rattle.trace_model.specs.declared.tapes.Next.{Next}
use Rattle.trace_model.specs.declared.tapes.Next.TheVariants.{Call as Calls, Return as GivesBack, End as Ends, Trap as Traps}
use Rattle.trace_model.specs.declared.tapes.Segment.{Segment}
use Rattle.history_spec.specs.declared.entries.Entry.{Entry}
use Rattle.history_spec.specs.declared.entries.Entry.TheVariants.{Exit, HostReturn}
use Rattle.history_spec.specs.Code.{code_of, signature}
use Rattle.history_spec.specs.Configuration.{Label, Frame, Activation, InModule, InMain, InImport, point, at_point, topmost, with_results}
use Rattle.history_spec.specs.Settle.{SettleEnd, Continues, Finishes, NoRule, SettleResult, settle_result, after_entry, AtEnd, Within, Gives, TooFew, at_end, at_end_of, end_results, return_entry, return_from, deliver}
use Rattle.history_spec.specs.Projection.{Side, Original, Appended, side, caller_side, shown_entries, shown_return}
use Rattle.record_replay_spec.specs.TapeRun.{pause, origin_after}
use Rattle.replay_module_spec.specs.Plans.{innermost}
use Rattle.replay_module_spec.specs.Dispatch.{sequence}
use Rattle.replay_module_spec.specs.Segments.{effects_code, next_code, segments_code}
use Rattle.replay_module_spec.specs.Fragments.{start_index}
use Rattle.replay_run_spec.specs.Stretches.{Stretches, at_entry}
use Rattle.replay_run_spec.specs.Inside.{inside_after, inside_after_all}
use Rattle.replay_run_spec.specs.Steps.{with_entry}
use Rattle.generated_code_laws.proofs.Does.{sequence_over}
use Rattle.record_replay_spec.proofs.Operands.{topmost_length}
use Rattle.replay_module_spec.specs.Merge.{layout_of}
use Rattle.generated_code_laws.proofs.Relation.{AreBeside, Works, Runs, Answers, waiting_frame, imports_in, returning_frame, with_values}
use Rattle.generated_code_laws.proofs.Bounded.{AreWithinCalls}
use Rattle.generated_code_laws.proofs.Sides.{original_side, appended_side, below_start}

-- each function of a valid module has at most one result
abbrev pub HasOneResult : Module → Type 0
HasOneResult m = (func : ℕ) (ty : FuncType) → signature (code_of m) func ≡ Some ty → length ty.results ≤ 1

-- ---- where both runs settle

-- results were returned to the host: the generated activation has them on its stack
pub record AreReturned (m : Module) (begun : List (List Segment)) (stack own : List Activation) (inside : List ℕ)
    : Type 0 where
  pub awaited : List ValType
  pub results : List Val
  pub waiting : List Activation
  pub as_many : length results ≡ length awaited
  pub few : length awaited ≤ 1
  pub beside : AreBeside m awaited stack begun waiting inside
  pub is : own ≡ with_values (reverse results) waiting

-- the tape's run goes on with control in the module or back at the host, and so does the replay module's
abbrev pub ArePlaced : Module → (begun : List (List Segment)) → List Entry → (stack own : List Activation)
    → (inside : List ℕ) → Type 0
ArePlaced m begun entries [] own inside = ⊥
ArePlaced m begun entries (InModule frame ∷ stack) own inside = AreBeside m [] (InModule frame ∷ stack) begun own inside
ArePlaced m begun entries (InMain actions ∷ stack) own inside =
    AreReturned m begun (InMain actions ∷ stack) own inside × ((came : Origin) → origin_after entries came ≡ Back)
ArePlaced m begun entries (InImport import args actions end ∷ stack) own inside =
    AreReturned m begun (InImport import args actions end ∷ stack) own inside
    × ((came : Origin) → origin_after entries came ≡ Back)

abbrev pub AreSettled : Module → (begun : List (List Segment)) → List Entry → (tape own : SettleEnd) → (inside : List ℕ)
    → Type 0
AreSettled m begun entries (Continues stack) (Continues own) inside = ArePlaced m begun entries stack own inside
AreSettled m begun entries NoRule NoRule inside = Unit {0}
AreSettled m begun entries tape own inside = ⊥

-- ---- stretches

-- the stretches before entries, from those after them
abbrev pub at_entries : List Entry → Stretches → Stretches
at_entries [] s = s
at_entries (entry ∷ later) s = at_entry entry (at_entries later s)

-- entries do not change stretches if control stays with the module; if it reaches the host, a stretch begins
abbrev pub TurnsTo : List Activation → List Entry → Type 0
TurnsTo [] entries = Unit {0}
TurnsTo (InModule frame ∷ below) entries = (s : Stretches) → at_entries entries s ≡ s
TurnsTo stack entries = (s : Stretches) → at_entries entries s ≡ record { here = []; later = s.here ∷ s.later }

abbrev pub IsTurn : SettleEnd → List Entry → Type 0
IsTurn (Continues stack) entries = TurnsTo stack entries
IsTurn end entries = Unit {0}

-- both runs settle alike: the entries of one are those that the other shows, and the same calls of imports stay open
pub record Settles (m : Module) (begun : List (List Segment)) (opened : List ℕ) (inside : List ℕ)
    (tape own : SettleResult) : Type 0 where
  pub shows : (args : List Val) → shown_entries (layout_of m) inside args own.entries ≡ tape.entries
  pub ends : AreSettled m begun tape.entries tape.next own.next (inside_after_all inside own.entries)
  pub still : (stack : List Activation) → tape.next ≡ Continues stack → imports_in stack ≡ opened
  pub turn : IsTurn tape.next tape.entries
  pub keeps : AreWithinCalls tape.entries

-- no rule applies in either run
pub none_settles : (m : Module) (begun : List (List Segment)) (opened : List ℕ) (inside : List ℕ)
    → Settles m begun opened inside (settle_result [] NoRule) (settle_result [] NoRule)
none_settles m begun opened inside =
    record { shows = λ any. refl; ends = tt; still = λ other h. absurd (cc h); turn = tt; keeps = λ left. refl }

-- ---- entries

-- an entry that gives no origin but comes before one
abbrev IsBefore : Entry → Type 0
IsBefore entry = (later : List Entry) → ((came : Origin) → origin_after later came ≡ Back)
    → (came : Origin) → origin_after (entry ∷ later) came ≡ Back

placed_after : (m : Module) (begun : List (List Segment)) (entry : Entry) (entries : List Entry)
    (stack own : List Activation) (inside : List ℕ) → IsBefore entry
    → ArePlaced m begun entries stack own inside → ArePlaced m begun (entry ∷ entries) stack own inside
placed_after m begun entry entries [] own inside before p = p
placed_after m begun entry entries (InModule frame ∷ stack) own inside before p = p
placed_after m begun entry entries (InMain actions ∷ stack) own inside before p = (p.0, before entries p.1)
placed_after m begun entry entries (InImport import args actions end ∷ stack) own inside before p =
    (p.0, before entries p.1)

settled_after : (m : Module) (begun : List (List Segment)) (entry : Entry) (entries : List Entry)
    (tape own : SettleEnd) (inside : List ℕ) → IsBefore entry
    → AreSettled m begun entries tape own inside → AreSettled m begun (entry ∷ entries) tape own inside
settled_after m begun entry entries (Continues stack) (Continues own) inside before p =
    placed_after m begun entry entries stack own inside before p
settled_after m begun entry entries NoRule NoRule inside before p = tt
settled_after m begun entry entries (Continues stack) (Finishes outcome) inside before p = p
settled_after m begun entry entries (Continues stack) NoRule inside before p = p
settled_after m begun entry entries (Finishes outcome) (Continues own) inside before p = p
settled_after m begun entry entries (Finishes outcome) (Finishes other) inside before p = p
settled_after m begun entry entries (Finishes outcome) NoRule inside before p = p
settled_after m begun entry entries NoRule (Continues own) inside before p = p
settled_after m begun entry entries NoRule (Finishes outcome) inside before p = p

turn_after : (entry : Entry) (entries : List Entry) (end : SettleEnd) → ((s : Stretches) → at_entry entry s ≡ s)
    → IsTurn end entries → IsTurn end (entry ∷ entries)
turn_after entry entries (Continues []) same t = t
turn_after entry entries (Continues (InModule frame ∷ below)) same t =
    λ s. ap (at_entry entry) (t s) ∙ same s
turn_after entry entries (Continues (InMain actions ∷ below)) same t =
    λ s. same (at_entries entries s) ∙ t s
turn_after entry entries (Continues (InImport import args actions end ∷ below)) same t =
    λ s. same (at_entries entries s) ∙ t s
turn_after entry entries (Finishes outcome) same t = t
turn_after entry entries NoRule same t = t

-- both runs settle alike after one more entry
pub settles_after : (m : Module) (begun : List (List Segment)) (opened inside next : List ℕ) (entry own_entry : Entry)
    (tape own : SettleResult) → IsBefore entry → ((s : Stretches) → at_entry entry s ≡ s)
    → AreWithinCalls (entry ∷ [])
    → ((args : List Val) (later : List Entry)
    → shown_entries (layout_of m) inside args (own_entry ∷ later)
    ≡ entry ∷ shown_entries (layout_of m) next args later)
    → inside_after inside own_entry ≡ next → Settles m begun opened next tape own
    → Settles m begun opened inside (after_entry entry tape) (after_entry own_entry own)
settles_after m begun opened inside next entry own_entry tape own before same keeps shows e s =
    record {
      shows = λ args. shows args own.entries ∙ ap (λ l. entry ∷ l) (s.shows args);
      ends = subst
          (λ i. AreSettled m begun (entry ∷ tape.entries) tape.next own.next (inside_after_all i own.entries)) (sym e)
          (settled_after m begun entry tape.entries tape.next own.next
          (inside_after_all next own.entries) before s.ends);
      still = s.still;
      turn = turn_after entry tape.entries tape.next same s.turn;
      keeps = λ left. ap (with_entry entry) (s.keeps left) ∙ keeps left;
    }

-- ---- a generated activation goes on with results

module _ (m : Module) where
  abbrev IsGoing : Nest → Type 0
  IsGoing Empty = ⊥
  IsGoing nest = Unit {0}

  -- an activation within its body takes results
  pub takes_results : (frame : Frame) (labels : List Label) (rest : Nest) (number : ℕ) (results : List Val)
      → IsGoing rest
      → with_results (at_point frame (point [] labels rest number)) results
      ≡ at_point frame (point (reverse results) labels rest number)
  takes_results frame labels Empty number results going = absurd going
  takes_results frame [] (Plain i rest) number results going =
      ap (λ vs. at_point frame (point vs [] (Plain i rest) number)) (append-nil (reverse results))
  takes_results frame (label ∷ labels) (Plain i rest) number results going =
      ap (λ vs. at_point frame (point vs (label ∷ labels) (Plain i rest) number)) (append-nil (reverse results))
  takes_results frame [] (InBlock ty body rest) number results going =
      ap (λ vs. at_point frame (point vs [] (InBlock ty body rest) number)) (append-nil (reverse results))
  takes_results frame (label ∷ labels) (InBlock ty body rest) number results going =
      ap (λ vs. at_point frame (point vs (label ∷ labels) (InBlock ty body rest) number)) (append-nil (reverse results))
  takes_results frame [] (InLoop ty body rest) number results going =
      ap (λ vs. at_point frame (point vs [] (InLoop ty body rest) number)) (append-nil (reverse results))
  takes_results frame (label ∷ labels) (InLoop ty body rest) number results going =
      ap (λ vs. at_point frame (point vs (label ∷ labels) (InLoop ty body rest) number)) (append-nil (reverse results))
  takes_results frame [] (InIf ty body rest) number results going =
      ap (λ vs. at_point frame (point vs [] (InIf ty body rest) number)) (append-nil (reverse results))
  takes_results frame (label ∷ labels) (InIf ty body rest) number results going =
      ap (λ vs. at_point frame (point vs (label ∷ labels) (InIf ty body rest) number)) (append-nil (reverse results))
  takes_results frame [] (InIfElse ty body other rest) number results going =
      ap (λ vs. at_point frame (point vs [] (InIfElse ty body other rest) number)) (append-nil (reverse results))
  takes_results frame (label ∷ labels) (InIfElse ty body other rest) number results going =
      ap (λ vs. at_point frame (point vs (label ∷ labels) (InIfElse ty body other rest) number))
      (append-nil (reverse results))

  within : (frame : Frame) (labels : List Label) (rest : Nest) (number : ℕ) (values : List Val) → IsGoing rest
      → at_end (at_point frame (point values labels rest number)) ≡ Within
  within frame labels Empty number values going = absurd going
  within frame labels (Plain i rest) number values going = refl
  within frame labels (InBlock ty body rest) number values going = refl
  within frame labels (InLoop ty body rest) number values going = refl
  within frame labels (InIf ty body rest) number values going = refl
  within frame labels (InIfElse ty body other rest) number values going = refl

  -- an activation within its body goes on with the results that are delivered to it
  pub delivered : (frame : Frame) (labels : List Label) (rest : Nest) (number : ℕ) (results : List Val)
      (below : List Activation) → IsGoing rest
      → deliver (InModule (at_point frame (point [] labels rest number)) ∷ below) results
      ≡ settle_result [] (Continues (InModule (at_point frame (point (reverse results) labels rest number)) ∷ below))
  delivered frame labels rest number results below going =
      ap (λ f. return_from (at_end f) f below (deliver below)) (takes_results frame labels rest number results going)
      ∙ ap (λ e. return_from e (at_point frame (point (reverse results) labels rest number)) below (deliver below))
      (within frame labels rest number (reverse results) going)

  -- ---- a segment's code is never at its end

  next_going : (next : Next) (after : List Instr) → IsGoing (sequence (next_code m next after) Empty)
  next_going (Calls func []) after = tt
  next_going (Calls func (value ∷ args)) after = tt
  next_going (GivesBack None) after = tt
  next_going (GivesBack (Some value)) after = tt
  next_going Ends after = tt
  next_going Traps after = tt

  over_going : (code : List Instr) (rest : Nest) → IsGoing rest → IsGoing (sequence code rest)
  over_going [] rest going = going
  over_going (i ∷ code) rest going = tt

  pub segments_going : (segments : List Segment) → IsGoing (sequence (segments_code m segments) Empty)
  segments_going [] = tt
  segments_going (segment ∷ later) =
      subst IsGoing
      (sym (sequence_over (effects_code segment.effects) (next_code m segment.next (segments_code m later)) Empty))
      (over_going (effects_code segment.effects) _ (next_going segment.next (segments_code m later)))

  pub waiting_going : (count : ℕ) (segments : List Segment)
      → IsGoing (sequence (replicate count Drop ++ segments_code m segments) Empty)
  waiting_going zero segments = segments_going segments
  waiting_going (suc count) segments = tt

  -- ---- returns

  -- a return shows an entry, by the sides of its caller and its callee
  abbrev ReturnShows : (caller callee : Side) → ((func : ℕ) → List Val → List Entry) → Type 0
  ReturnShows caller callee shown =
      (inside : List ℕ) (func : ℕ) (results : List Val) → side (layout_of m) func ≡ callee
      → caller_side (layout_of m) inside ≡ caller
      → shown_return (caller_side (layout_of m) inside) (side (layout_of m) func) func results ≡ shown func results

  return_shows : (caller callee : Side) → ReturnShows caller callee (shown_return caller callee)
  return_shows caller callee inside func results of from =
      ap (λ d. shown_return d (side (layout_of m) func) func results) from
      ∙ ap (λ d. shown_return caller d func results) of

  return_to_import : ReturnShows Appended Original (λ func results. HostReturn func results ∷ [])
  return_to_import = return_shows Appended Original

  return_within : ReturnShows Original Original (λ func results. Exit func results ∷ [])
  return_within = return_shows Original Original

  abbrev imports_of : SettleEnd → List ℕ
  imports_of (Continues stack) = imports_in stack
  imports_of (Finishes outcome) = []
  imports_of NoRule = []

  -- the host receives results
  back_to_host : (begun : List (List Segment)) (awaited : List ValType) (stack waiting own : List Activation)
      (inside : List ℕ) (func : ℕ) (results : List Val) → side (layout_of m) func ≡ Original
      → caller_side (layout_of m) inside ≡ Appended → length results ≡ length awaited → length awaited ≤ 1
      → AreBeside m awaited stack begun waiting inside → own ≡ with_values (reverse results) waiting
      → (AreReturned m begun stack own inside
      → ArePlaced m begun (HostReturn func results ∷ []) stack own inside)
      → TurnsTo stack (HostReturn func results ∷ [])
      → Settles m begun (imports_in stack) (func ∷ inside)
      (settle_result (HostReturn func results ∷ []) (Continues stack))
      (settle_result (Exit func results ∷ []) (Continues own))
  back_to_host begun awaited stack waiting own inside func results original outside as_many few beside is placed turn =
      record {
        shows = λ args. ap (λ l. l ++ []) (return_to_import inside func results original outside);
        ends = placed
            (record {
              awaited = awaited;
              results = results;
              waiting = waiting;
              as_many = as_many;
              few = few;
              beside = beside;
              is = is;
            });
        still = λ other e. ap imports_of (sym e);
        turn = turn;
        keeps = λ left. refl;
      }

  -- an activation of the original goes on, or returns
  pub settled : (begun : List (List Segment)) (stack own : List Activation) (inside : List ℕ) (frame : Frame)
      (ty : FuncType) (results : List Val)
      → signature (code_of m) frame.func ≡ Some ty → frame.arity ≡ length ty.results → imported_funcs m ≤ frame.func
      → AreBeside m ty.results stack begun own inside
      → ((given : List Val) → length given ≡ length ty.results
      → Settles m begun (imports_in stack) (frame.func ∷ inside)
      (after_entry (return_entry frame.func given stack) (deliver stack given))
      (after_entry (return_entry frame.func given own) (deliver own given)))
      → Settles m begun (imports_in stack) (frame.func ∷ inside) (deliver (InModule frame ∷ stack) results)
      (deliver (InModule frame ∷ own) results)
  settled begun stack own inside frame ty results typed arity past beside returns =
      go (at_end next) refl
    where
      next : Frame
      next = with_results frame results

      go : (e : AtEnd) → at_end next ≡ e
          → Settles m begun (imports_in stack) (frame.func ∷ inside) (return_from e next stack (deliver stack))
          (return_from e next own (deliver own))
      go Within e =
          record {
            shows = λ args. refl;
            ends = Runs stack own inside next ty typed arity past beside;
            still = λ other e. ap imports_of (sym e);
            turn = λ s. refl;
            keeps = λ left. refl;
          }
      go (Gives given) e = returns given (gave next.at.rest given e ∙ arity)
        where
          gave : (rest : Nest) (given : List Val) → at_end_of rest next ≡ Gives given → length given ≡ frame.arity
          gave Empty given h = taken (topmost frame.arity next.values) refl h
            where
              taken : (o : Option (List Val)) → topmost frame.arity next.values ≡ o → end_results o ≡ Gives given
                  → length given ≡ frame.arity
              taken None q h = cc
              taken (Some found) q h =
                  let same : found ≡ given = cc in
                  topmost_length frame.arity next.values given (q ∙ ap (λ l. Some l) same)
          gave (Plain i rest) given h = cc
          gave (InBlock ty body rest) given h = cc
          gave (InLoop ty body rest) given h = cc
          gave (InIf ty body rest) given h = cc
          gave (InIfElse ty body other rest) given h = cc
      go TooFew e =
          record {
            shows = λ args. refl;
            ends = tt;
            still = λ other e. absurd (cc e);
            turn = tt;
            keeps = λ left. refl;
          }

  -- a function of the original returns
  pub returned : (one : HasOneResult m) (begun : List (List Segment)) (awaited : List ValType)
      (few : length awaited ≤ 1) (stack own : List Activation) (inside : List ℕ)
      → AreBeside m awaited stack begun own inside
      → (func : ℕ) (results : List Val) → side (layout_of m) func ≡ Original → length results ≡ length awaited
      → Settles m begun (imports_in stack) (func ∷ inside)
      (after_entry (return_entry func results stack) (deliver stack results))
      (after_entry (return_entry func results own) (deliver own results))
  returned one begun awaited few stack own inside (Works base labels number is arity) func results original as_many =
      subst
      (λ s. Settles m begun [] (func ∷ base.func ∷ [])
      (settle_result (HostReturn func results ∷ []) (Continues (InMain (pause ∷ []) ∷ [])))
      (after_entry (Exit func results) s))
      (sym (delivered base labels _ number results (InMain [] ∷ []) (waiting_going (length awaited) (innermost begun))))
      (back_to_host begun awaited (InMain (pause ∷ []) ∷ [])
      (InModule (waiting_frame m awaited (innermost begun) base labels number) ∷ InMain [] ∷ []) _ (base.func ∷ []) func
      results original (ap (side (layout_of m)) is ∙ appended_side m (start_index m) (omega arith)) as_many few
      (Works base labels number is arity) refl (λ r. (r, λ came. refl)) (λ s. refl))
  returned one begun awaited few _ _ _
      (Answers stack own inside import args ty caller base behind labels behind_labels number behind_number typed below
      past arity is behind_arity under) func results original as_many =
      let host : List Activation = InImport import args (pause ∷ []) EndsInTrap ∷ InModule caller ∷ stack in
      let others : List Activation = InModule (returning_frame behind behind_labels behind_number) ∷ own in
      let within = base.func ∷ behind.func ∷ inside in
      subst
      (λ s. Settles m begun (imports_in host) (func ∷ within)
      (settle_result (HostReturn func results ∷ []) (Continues host))
      (after_entry (Exit func results) s))
      (sym (delivered base labels _ number results others (waiting_going (length awaited) (innermost begun))))
      (back_to_host begun awaited host
      (InModule (waiting_frame m awaited (innermost begun) base labels number) ∷ others) _ within func results original
      (appended_side m base.func (omega (arith, past))) as_many few
      (Answers stack own inside import args ty caller base behind labels behind_labels number behind_number typed below
      past arity is behind_arity under) refl (λ r. (r, λ came. refl)) (λ s. refl))
  returned one begun awaited few _ _ _ (Runs stack own inside frame ty typed arity past under) func results original
      as_many =
      let within = frame.func ∷ inside in
      let own_side = original_side m frame.func past (below_start m frame.func ty typed) in
      settles_after m begun (imports_in stack) (func ∷ within) within (Exit func results) (Exit func results)
      (deliver (InModule frame ∷ stack) results) (deliver (InModule frame ∷ own) results)
      (λ later h came. h came) (λ s. refl) (λ left. refl)
      (λ args later. ap (λ l. l ++ shown_entries (layout_of m) within args later)
      (return_within within func results original own_side)) refl
      (settled begun stack own inside frame ty results typed arity past under
      (λ given count. returned one begun ty.results (one frame.func ty typed) stack own inside under frame.func given
      own_side count))
