-- One instruction of the instrumented run as a step, after the code inserted before the instruction.
use Rattle.std.proofs.Common.{◌≡◌, ℕ, ◌+◌, List, [], ◌∷◌, ◌++◌, length, map, nat_lt, Option, refl, ap, ◌∙◌, subst}
use Rattle.wasm_syntax.specs.declared.values.Val.{Val}
use Rattle.wasm_syntax.specs.declared.instructions.Instr.{Instr}
use Rattle.wasm_syntax.specs.declared.modules.Module.{Module}
use Rattle.wasm_syntax.specs.Index.{imported_funcs}
use Rattle.wasm_syntax.specs.Nest.{Nest, Plain}
use Rattle.history_spec.specs.declared.entries.TrapKind.{TrapKind}
use Rattle.base.specs.declared.outcomes.Outcome.TheVariants.{Trapped}
use Rattle.history_spec.specs.Store.{Store}
use Rattle.history_spec.specs.Configuration.{place, Frame, Activation, InModule, Config}
use Rattle.history_spec.specs.Instruction.{Goes, Calls, Returns, Execution, Did, Traps, execute}
use Rattle.history_spec.specs.Run.{Meter}
use Rattle.history_spec.specs.Settle.{deliver}
use Rattle.history_spec.specs.Step.{Program, Progress, Running, Finished, after_settling, call_function, after_instruction}
use Rattle.record_replay_spec.specs.Hooks.{HookCall, renumber, renumbered_view, renumbered_call}
use Rattle.record_replay_spec.specs.HookedRuns.{calls_among}
use Rattle.record_replay_spec.specs.Insertions.{Site, inserted_before, inserted_after}
use Rattle.record_replay_spec.specs.Instrumented.{renumbered, before_nest, instrumented_nest, weightless, weights_of_nest}
use Rattle.record_replay_spec.proofs.Bodies.{length_weightless}
use Rattle.instrumented_run_laws.proofs.Before as before
use Rattle.instrumented_run_laws.proofs.Leads as leads
use Rattle.instrumented_run_laws.proofs.Leads.{returns_report_none, settles_unreported}
use Rattle.instrumented_run_laws.proofs.BlockEnds.{on_instrumented}
use Rattle.instrumented_run_laws.proofs.Pieces.{HasHooks}
use Rattle.instrumented_run_laws.proofs.Relation.{Beside, site_at, frame_beside, IsBeside}
use Rattle.instrumented_run_laws.proofs.Scratch.{Scratch, scratch_values}
use Rattle.instrumented_run_laws.proofs.Weights.{AreWeights, first_weights, later_weights}

module _ (m : Module) (other : Program) (meter : Meter) (has : HasHooks (imported_funcs m) other meter) where
  abbrev n : ℕ
  n = imported_funcs m

  -- ---- steps, by the result of the instruction

  module _ (store : Store) (counts : List ℕ) (below : List Activation) (frame : Frame)
      (weighs : meter.instruction frame.func frame.at.number ≡ 1) where
    abbrev config : Config
    config = record { store = store; stack = InModule frame ∷ below; counts = counts }

    abbrev Comes : Progress → Type 0
    Comes next = leads.Leads n other meter (leads.running n other meter store counts below frame) next 1 []

    -- a step of weight 1 that calls no hook
    stepped : (e : Execution) → execute other.code store frame ≡ e
        → calls_among n store (after_instruction other config frame below e).entries ≡ []
        → Comes (after_instruction other config frame below e).next
    stepped e does unreported =
        subst
        (λ w. leads.Leads n other meter (Running config) (after_instruction other config frame below e).next w [])
        weighs
        (leads.one n other meter config (after_instruction other config frame below e) []
        (ap (after_instruction other config frame below) does) unreported)

    pub goes_there : (after : Store) (next : Frame) (operands results : List Val) (found : Option ℕ)
        → execute other.code store frame ≡ Did operands results found (Goes after next)
        → Comes (leads.settled n other meter after counts below next)
    goes_there after next operands results found does =
        stepped (Did operands results found (Goes after next)) does (settles_unreported n store (InModule next ∷ below) [])

    pub traps_there : (kind : TrapKind) (operands : List Val) (found : Option ℕ)
        → execute other.code store frame ≡ Traps kind operands found → Comes (Finished Trapped)
    traps_there kind operands found does = stepped (Traps kind operands found) does refl

    pub returns_there : (given operands results : List Val) (found : Option ℕ)
        → execute other.code store frame ≡ Did operands results found (Returns given)
        → Comes (after_settling store counts (deliver below given)).next
    returns_there given operands results found does =
        stepped (Did operands results found (Returns given)) does
        (returns_report_none n frame.func store given below (deliver below given).entries
        ∙ settles_unreported n store below given)

    pub calls_there : (waiting : Frame) (func : ℕ) (args operands results : List Val) (found : Option ℕ)
        → execute other.code store frame ≡ Did operands results found (Calls waiting func args)
        → calls_among n store
        (call_function other (nat_lt func other.code.imported) store counts func args (InModule waiting ∷
        below)).entries
        ≡ []
        → Comes (call_function other (nat_lt func other.code.imported) store counts func args (InModule waiting ∷
        below)).next
    calls_there waiting func args operands results found does unreported =
        stepped (Did operands results found (Calls waiting func args)) does unreported

  -- ---- the code inserted before an instruction

  module _ (store : Store) (counts : List ℕ) (below : List Activation) (f : Frame) (i : Instr) (rest : Nest)
      (number : ℕ) (b : Beside) where
    abbrev frame : Frame
    frame = record f { at = place (Plain i rest) number }

    abbrev site : Site
    site = site_at m f.func

    abbrev hooked : Frame
    hooked = frame_beside m meter frame [] b

    -- the number of the instruction in the instrumented body
    abbrev pub instr_number : ℕ
    instr_number = b.number + length (inserted_before site i)

    -- the instructions after the instruction in the instrumented body
    abbrev pub instr_rest : Nest
    instr_rest = before_nest (inserted_after site i) (instrumented_nest site rest)

    -- the instrumented activation before the instruction itself
    abbrev pub at_instr : Instr → Scratch → Frame
    at_instr j x =
        record hooked {
          locals = f.locals ++ scratch_values x;
          at = place (Plain j instr_rest) instr_number;
        }

    -- the added parts of the instrumented activation after the instruction
    abbrev pub beside_after : Scratch → Beside
    beside_after x = record { scratch = x; number = instr_number + 1; numbers = b.numbers; last = b.last }

    module _ (beside : IsBeside m meter frame [] b) where
      weights_there : AreWeights meter (renumber n f.func) instr_number
          (1 ∷ (weightless (inserted_after site i) ++ weights_of_nest site rest))
      weights_there =
          subst
          (λ k. AreWeights meter (renumber n f.func) (b.number + k)
          (1 ∷ (weightless (inserted_after site i) ++ weights_of_nest site rest)))
          (length_weightless (inserted_before site i))
          (later_weights meter (renumber n f.func) b.number (weightless (inserted_before site i)) _ beside.weights)

      pub weight_there : meter.instruction (renumber n f.func) instr_number ≡ 1
      weight_there = weights_there.0

      pub weights_after : AreWeights meter (renumber n f.func) (instr_number + 1)
          (weightless (inserted_after site i) ++ weights_of_nest site rest)
      weights_after = weights_there.1

      -- the hook calls of the code before the instruction are made
      pub reported_there : (calls : List HookCall)
          → (t : before.Reports site other meter has store below hooked f.locals beside.locals counts b.scratch f.values
          (inserted_before site i) calls)
          → leads.Leads n other meter (leads.running n other meter (renumbered_view n store) counts below hooked)
          (leads.running n other meter (renumbered_view n store) t.after below (at_instr (renumbered n i) t.scratch)) 0
          (map (renumbered_call n) calls)
      reported_there calls t =
          subst
          (λ at. leads.Leads n other meter at
          (leads.running n other meter (renumbered_view n store) t.after below (at_instr (renumbered n i) t.scratch)) 0
          (map (renumbered_call n) calls))
          (leads.settled_before n other meter (renumbered_view n store) counts below hooked
          (on_instrumented site (Plain i rest) tt))
          (subst
          (λ at. leads.Leads n other meter
          (leads.settled n other meter (renumbered_view n store) counts below hooked) at 0
          (map (renumbered_call n) calls))
          (leads.settled_before n other meter (renumbered_view n store) t.after below
          (at_instr (renumbered n i) t.scratch) tt)
          (t.makes.leads (Plain (renumbered n i) instr_rest) b.number
          (first_weights meter (renumber n f.func) b.number (weightless (inserted_before site i)) _ beside.weights)))
