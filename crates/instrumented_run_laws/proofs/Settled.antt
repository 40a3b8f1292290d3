-- If the original's function ends, or goes on after blocks that end, so does the instrumented one.
use Rattle.std.proofs.Common.{◌≡◌, ℕ, ◌+◌, List, [], ◌∷◌, ◌++◌, length, map, Option, Some, None, refl, sym, ap, ◌∙◌, subst}
use Rattle.std.proofs.lemmas.List.{append-nil}
use Rattle.wasm_syntax.specs.declared.values.Val.{Val}
use Rattle.wasm_syntax.specs.declared.values.ValType.{ValType}
use Rattle.wasm_syntax.specs.declared.signatures.FuncType.{FuncType}
use Rattle.wasm_syntax.specs.declared.instructions.Instr.{Instr}
use Rattle.wasm_syntax.specs.declared.modules.Module.{Module}
use Rattle.wasm_syntax.specs.Index.{imported_funcs}
use Rattle.wasm_syntax.specs.Nest.{Nest, Empty, Plain, InBlock, InLoop, InIf, InIfElse}
use Rattle.history_spec.specs.declared.entries.Entry.{Entry}
use Rattle.history_spec.specs.Store.{Store}
use Rattle.history_spec.specs.Code.{Definition}
use Rattle.history_spec.specs.Configuration.{Place, place, Label, Frame, Activation, InModule, topmost, Point, point, leave, at_point, with_results}
use Rattle.history_spec.specs.Run.{Meter}
use Rattle.history_spec.specs.Settle.{AtEnd, Within, end_results, at_end_of, at_end, return_entry, return_from, deliver, settle}
use Rattle.history_spec.specs.Step.{Program, Progress, Running, progress_of, after_settling}
use Rattle.type_safety.specs.Configurations.{scope, IsGoing}
use Rattle.type_safety.specs.Heights.{Heights}
use Rattle.type_safety.specs.Stores.{func_count}
use Rattle.type_safety.specs.Values.{AreValues}
use Rattle.type_safety.proofs.SettleEnds.{IsEnd, going_within}
use Rattle.record_replay_spec.specs.declared.hooks.Hook.TheVariants.{Leave}
use Rattle.record_replay_spec.specs.Hooks.{HookCall, renumber, renumbered_view, renumbered_call}
use Rattle.record_replay_spec.specs.Insertions.{Site, inserted_at_end}
use Rattle.record_replay_spec.specs.Instrumented.{before_nest, instrumented_nest, weightless, weights_of_nest}
use Rattle.record_replay_spec.specs.ReportedCalls.{WaitingCall, reported_number}
use Rattle.record_replay_spec.proofs.Bodies.{length_weightless}
use Rattle.instrumented_run_laws.proofs.Before as before
use Rattle.instrumented_run_laws.proofs.Follows as follows
use Rattle.instrumented_run_laws.proofs.Follows.{reported_results, waiting_below}
use Rattle.instrumented_run_laws.proofs.Leads as leads
use Rattle.instrumented_run_laws.proofs.BlockEnds as block_ends
use Rattle.instrumented_run_laws.proofs.BlockEnds.{on_instrumented}
use Rattle.instrumented_run_laws.proofs.Pieces.{HasHooks}
use Rattle.instrumented_run_laws.proofs.Relation.{Beside, hooked_labels, type_of, site_at, frame_beside, IsBeside, beside_at, waiting_stack, AreWaiting, going_stack, AreCounted}
use Rattle.instrumented_run_laws.proofs.Scratch.{Scratch, scratch_values}
use Rattle.instrumented_run_laws.proofs.Weights.{AreWeights, first_weights, later_weights}

module _ (m : Module) (heights : Heights) (other : Program) (meter : Meter)
    (has : HasHooks (imported_funcs m) other meter) where
  abbrev n : ℕ
  n = imported_funcs m

  abbrev pub Follows : List HookCall → List WaitingCall → (next from : Progress) → (turns : ℕ) → Type 0
  Follows = follows.Follows m other meter

  abbrev pub reported_of : Option Instr → (before after : Store) → List WaitingCall → List Entry → List HookCall
  reported_of = follows.reported_of m other meter

  abbrev pub waiting_of : Option Instr → (before after : Store) → List WaitingCall → List Entry → List WaitingCall
  waiting_of = follows.waiting_of m other meter

  -- what follows if results are delivered to waiting activations, given the instrumented activations beside them and
  -- the counts of calls
  abbrev pub Delivered : Option Instr → (before store : Store) → (counts : List ℕ) → List Activation
      → (awaited : List ValType) → (results : List Val) → List WaitingCall → List Beside → (second : List ℕ) → Type 0
  Delivered instr before store counts stack awaited results waiting bs second =
      Follows
      (reported_results stack waiting results store
      ++ reported_of instr before store (waiting_below stack waiting) (deliver stack results).entries)
      (waiting_of instr before store (waiting_below stack waiting) (deliver stack results).entries)
      (after_settling store counts (deliver stack results)).next
      (after_settling (renumbered_view n store) second (deliver (waiting_stack m meter awaited stack waiting bs)
      results)).next
      0

  -- counts that are alike after two parts of a run
  pub counted_after : (counts second after : List ℕ) → AreCounted n counts second → AreCounted n second after
      → AreCounted n counts after
  counted_after counts second after first then import less = then import less ∙ first import less

  -- ---- a piece whose hook calls come before the original goes on

  -- the instrumented activation after a piece
  pub record PieceReported (store : Store) (counts : List ℕ) (below : List Activation) (frame : Frame) (is : List Instr)
      (b : Beside) (calls : List HookCall) : Type 0 where
    pub after : List ℕ
    pub next : Beside
    pub is_beside : IsBeside m meter frame [] next
    pub counted : AreCounted n counts after
    pub led : leads.Leads n other meter
        (leads.settled n other meter (renumbered_view n store) counts below (frame_beside m meter frame is b))
        (leads.settled n other meter (renumbered_view n store) after below (frame_beside m meter frame [] next)) 0
        (map (renumbered_call n) calls)

  pub piece_reported : (store : Store) (counts : List ℕ) (below : List Activation) (frame : Frame) (is : List Instr)
      (b : Beside) (calls : List HookCall) (beside : IsBeside m meter frame is b)
      → before.Reports (site_at m frame.func) other meter has store below (frame_beside m meter frame is b) frame.locals
      beside.locals counts b.scratch frame.values is calls
      → PieceReported store counts below frame is b calls
  piece_reported store counts below frame is b calls beside t =
      record {
        after = t.after;
        next = record {
          scratch = t.scratch;
          number = b.number + length is;
          numbers = b.numbers;
          last = b.last;
        };
        is_beside = record {
          arity = beside.arity;
          locals = beside.locals;
          weights = subst
              (λ k. AreWeights meter (renumber n frame.func) (b.number + k) (weights_of_nest (site_at m frame.func)
              frame.at.rest))
              (length_weightless is)
              (later_weights meter (renumber n frame.func) b.number (weightless is) _ beside.weights);
          labels = beside.labels;
          last = beside.last;
        };
        counted = t.counted;
        led = t.makes.leads (instrumented_nest (site_at m frame.func) frame.at.rest) b.number
            (first_weights meter (renumber n frame.func) b.number (weightless is) _ beside.weights);
      }

  -- ---- the end of a function, and of blocks

  module _ (instr : Option Instr) (earlier store : Store) (counts : List ℕ) (below : List Activation)
      (waiting : List WaitingCall) (bs : List Beside) (frame : Frame) where
    abbrev site : Site
    site = site_at m frame.func

    abbrev ty : FuncType
    ty = type_of m frame.func

    abbrev hooked_below : List Activation
    hooked_below = waiting_stack m meter ty.results below waiting bs

    -- results are delivered to the activations below
    abbrev pub Below : Type 0
    Below =
        (given : List Val) (second : List ℕ) → AreValues (func_count m) ty.results given → AreCounted n counts second
        → Delivered instr earlier store counts below ty.results given waiting bs second

    -- the hook calls of a function's end
    abbrev pub reported_ended : List Val → List HookCall
    reported_ended given =
        reported_number Leave frame.func store
        ++ (reported_results below waiting given store
        ++ reported_of instr earlier store (waiting_below below waiting) (deliver below given).entries)

    abbrev pub waiting_ended : List Val → List WaitingCall
    waiting_ended given = waiting_of instr earlier store (waiting_below below waiting) (deliver below given).entries

    -- the instrumented activation outside its blocks
    abbrev outermost_frame : Scratch → (values : List Val) → Place → Frame
    outermost_frame x values at =
        record {
          func = renumber n frame.func;
          arity = frame.arity;
          locals = frame.locals ++ scratch_values x;
          values = values;
          labels = [];
          at = at;
        }

    -- the instrumented activation after its inserted block, before a hook reports the end of the function
    abbrev pub ended_frame : Beside → (values : List Val) → Frame
    ended_frame b values = outermost_frame b.scratch values (place (before_nest (inserted_at_end site) Empty) b.last)

    pub ends : (b : Beside) (values given : List Val) (second : List ℕ) → site.locals ≡ length frame.locals
        → AreWeights meter (renumber n frame.func) b.last (weightless (inserted_at_end site))
        → topmost frame.arity values ≡ Some given → AreValues (func_count m) ty.results given
        → AreCounted n counts second → Below
        → Follows (reported_ended given) (waiting_ended given) (after_settling store counts (deliver below given)).next
        (leads.settled n other meter (renumbered_view n store) second hooked_below (ended_frame b values)) 0
    ends b values given second whole free top are counted rest =
        follows.after_way m other meter (reported_number Leave frame.func store)
        (reported_results below waiting given store
        ++ reported_of instr earlier store (waiting_below below waiting) (deliver below given).entries)
        (waiting_ended given) (after_settling store counts (deliver below given)).next
        (leads.settled n other meter (renumbered_view n store) second hooked_below (ended_frame b values))
        (after_settling (renumbered_view n store) t.after (deliver hooked_below given)).next 0 0
        (subst
        (λ at. leads.Leads n other meter
        (leads.settled n other meter (renumbered_view n store) second hooked_below (ended_frame b values)) at 0
        (map (renumbered_call n) (reported_number Leave frame.func store)))
        (ap
        (λ o. progress_of (renumbered_view n store) t.after
        (return_from (end_results o) last hooked_below (deliver hooked_below)).next) top)
        (t.makes.leads Empty b.last free))
        (rest given t.after are (counted_after counts second t.after counted t.counted))
      where
        t : before.Reports site other meter has store hooked_below (ended_frame b values) frame.locals whole second
            b.scratch values (inserted_at_end site) (reported_number Leave frame.func store)
        t = before.reports_number_reported site other meter has store hooked_below (ended_frame b values) frame.locals whole
            Leave refl second b.scratch values frame.func

        last : Frame
        last = outermost_frame t.scratch values (place Empty (b.last + length (inserted_at_end site)))

    -- blocks that end at this place
    module _ (body : Definition) (b : Beside) (second : List ℕ) (beside : IsBeside m meter frame [] b)
        (counted : AreCounted n counts second) (waits : AreWaiting m meter ty.results below waiting bs)
        (rest : Below) where
      abbrev hooked : Frame
      hooked = frame_beside m meter frame [] b

      -- what follows from a point of the original, and from one of the instrumented activation
      abbrev FollowsAt : (rest : Nest) → AtEnd → Frame → (q : Point) → Type 0
      FollowsAt nest e next q =
          Follows (reported_of instr earlier store waiting (return_from e next below (deliver below)).entries)
          (waiting_of instr earlier store waiting (return_from e next below (deliver below)).entries)
          (progress_of store counts (return_from e next below (deliver below)).next)
          (progress_of (renumbered_view n store) second
          (return_from (at_end (at_point hooked q)) (at_point hooked q) hooked_below (deliver hooked_below)).next)
          0

      within : (values : List Val) (labels : List Label) (nest : Nest) (number : ℕ) (q : Point) → IsGoing nest
          → block_ends.GoesOn meter site ty b.last (point values labels nest number) q
          → FollowsAt nest Within (at_point frame (point values labels nest number)) q
      within values labels nest number q on g =
          follows.stands_there m other meter waiting
          (Running (record { store = store; stack = InModule next ∷ below; counts = counts }))
          (progress_of (renumbered_view n store) second
          (return_from (at_end (at_point hooked q)) (at_point hooked q) hooked_below (deliver hooked_below)).next)
          (Running (record {
            store = renumbered_view n store;
            stack = going_stack m meter (InModule next ∷ below) waiting (beside_next ∷ bs);
            counts = second;
          }))
          (ap
          (λ (p : Point). progress_of (renumbered_view n store) second
          (return_from (at_end (at_point hooked p)) (at_point hooked p) hooked_below (deliver hooked_below)).next)
          g.is
          ∙ ap
          (λ e. progress_of (renumbered_view n store) second
          (return_from e (frame_beside m meter next [] beside_next) hooked_below (deliver hooked_below)).next)
          (going_within (instrumented_nest site nest) (frame_beside m meter next [] beside_next)
          (on_instrumented site nest on)))
          (record {
            bs = beside_next ∷ bs;
            counts = second;
            is = refl;
            going = (
              beside_at m meter frame [] [] b (point values labels nest number) g.number g.numbers beside g.at g.labels,
              waits,
            );
            counted = counted;
          })
        where
          next : Frame
          next = at_point frame (point values labels nest number)

          beside_next : Beside
          beside_next = record { scratch = b.scratch; number = g.number; numbers = g.numbers; last = b.last }

      -- what follows at the end of the function
      at_last : (values : List Val) (labels : List Label) (number : ℕ) (o : Option (List Val))
          → topmost frame.arity values ≡ o
          → IsEnd (scope m heights frame.func ty body) Empty (end_results o)
          → FollowsAt Empty (end_results o) (at_point frame (point values labels Empty number))
          (point (values ++ []) [] (before_nest (inserted_at_end site) Empty) b.last)
      at_last values labels number None top e = absurd e
      at_last values labels number (Some given) top e =
          let next = at_point frame (point values labels Empty number) in
          subst
          (λ calls. Follows calls
          (waiting_of instr earlier store waiting (return_entry frame.func given below ∷ (deliver below given).entries))
          (after_settling store counts (deliver below given)).next from 0)
          (sym
          (follows.reported_return_entry m other meter instr earlier store waiting frame.func given below
          (deliver below given).entries))
          (subst
          (λ w. Follows (reported_ended given) w (after_settling store counts (deliver below given)).next from 0)
          (sym
          (follows.waiting_return_entry m other meter instr earlier store waiting frame.func given below
          (deliver below given).entries))
          (ends b (values ++ []) given second beside.locals beside.last
          (ap (topmost frame.arity) (append-nil values) ∙ top) e counted rest))
        where
          from : Progress
          from =
              leads.settled n other meter (renumbered_view n store) second hooked_below (ended_frame b (values ++ []))

      by_point : (values : List Val) (labels : List Label) (nest : Nest) (number : ℕ) (q : Point)
          → block_ends.IsLeft meter site ty b.last nest (point values labels nest number) q
          → IsEnd (scope m heights frame.func ty body) nest
          (at_end_of nest (at_point frame (point values labels nest number)))
          → FollowsAt nest (at_end_of nest (at_point frame (point values labels nest number)))
          (at_point frame (point values labels nest number)) q
      by_point values labels Empty number q left e =
          subst
          (FollowsAt Empty (end_results (topmost frame.arity values)) (at_point frame (point values labels Empty
          number)))
          (sym left) (at_last values labels number (topmost frame.arity values) refl e)
      by_point values labels (Plain i nest) number q left e = within values labels (Plain i nest) number q tt left
      by_point values labels (InBlock t inner nest) number q left e =
          within values labels (InBlock t inner nest) number q tt left
      by_point values labels (InLoop t inner nest) number q left e =
          within values labels (InLoop t inner nest) number q tt left
      by_point values labels (InIf t inner nest) number q left e =
          within values labels (InIf t inner nest) number q tt left
      by_point values labels (InIfElse t inner otherwise nest) number q left e =
          within values labels (InIfElse t inner otherwise nest) number q tt left

      -- an activation settles as the original's does
      pub settles : IsEnd (scope m heights frame.func ty body) (with_results frame []).at.rest
          (at_end (with_results frame []))
          → Follows (reported_of instr earlier store waiting (settle (InModule frame ∷ below)).entries)
          (waiting_of instr earlier store waiting (settle (InModule frame ∷ below)).entries)
          (after_settling store counts (settle (InModule frame ∷ below))).next
          (leads.settled n other meter (renumbered_view n store) second hooked_below hooked) 0
      settles e =
          let p = leave frame.labels frame.values frame.at.rest frame.at.number in
          by_point p.values p.labels p.at.rest p.at.number
          (leave (hooked_labels site ty frame.labels b.numbers b.last) frame.values
          (instrumented_nest site frame.at.rest) b.number)
          (block_ends.leaves meter site ty b.last frame.labels b.numbers frame.values frame.at.rest frame.at.number
          b.number
          beside.labels beside.weights)
          e
