-- If the original enters a function, the instrumented run reaches the function's body, and a hook reports the entry.
use Rattle.std.proofs.Common.{◌≡◌, ℕ, ◌+◌, ◌≤◌, List, [], ◌∷◌, ◌++◌, length, map, Some, None, slice_get, refl, sym, ap, ◌∙◌, subst, arith}
use Rattle.std.proofs.lemmas.List.{length-append, length-map, map-append, append_assoc, append-nil}
use Rattle.std.proofs.lemmas.List.Elements.{All-head, All-tail}
use Rattle.std.specs.Prelude.{All, IsTrue}
use Rattle.wasm_syntax.specs.declared.values.ValType.{ValType}
use Rattle.wasm_syntax.specs.declared.values.ValType.TheVariants.{I32, I64, F32, F64}
use Rattle.wasm_syntax.specs.declared.values.Val.{Val}
use Rattle.wasm_syntax.specs.declared.signatures.FuncType.{FuncType}
use Rattle.wasm_syntax.specs.declared.instructions.Instr.{Instr}
use Rattle.wasm_syntax.specs.declared.modules.Module.{Module}
use Rattle.wasm_syntax.specs.Alike.{type_byte}
use Rattle.wasm_syntax.specs.Index.{imported_funcs}
use Rattle.wasm_syntax.specs.Nest.{Nest, Empty, InBlock, size}
use Rattle.wasm_syntax.specs.Typing.{is_number}
use Rattle.wasm_syntax.specs.Validity.{IsFuncType}
use Rattle.host_script.specs.declared.scripts.Script.{Script}
use Rattle.history_spec.specs.Store.{Store}
use Rattle.history_spec.specs.Code.{Definition, code_of, signature, definition, i32_value, zero_of}
use Rattle.history_spec.specs.Configuration.{place, Frame, Activation}
use Rattle.history_spec.specs.Instruction.{block_arity}
use Rattle.history_spec.specs.Run.{Meter}
use Rattle.history_spec.specs.Step.{Program, Progress, frame_of, enter_defined, enter_function}
use Rattle.type_safety.specs.Stores.{func_count}
use Rattle.type_safety.specs.Values.{AreValues}
use Rattle.type_safety.proofs.Values.{length_values, types_values}
use Rattle.record_replay_spec.specs.declared.hooks.Hook.TheVariants.{Arg, Enter}
use Rattle.record_replay_spec.specs.Hooks.{HookCall, renumber, renumbered_view, renumbered_call}
use Rattle.record_replay_spec.specs.Insertions.{Site, reports_params, inserted_at_enter, inserted_at_end}
use Rattle.record_replay_spec.specs.Instrumented.{before_nest, instrumented_nest, weightless, weights_of_nest, weights_of_body, instrumented_meter}
use Rattle.record_replay_spec.specs.HookLaws.{BodiesAreInstrumented}
use Rattle.record_replay_spec.specs.ReportedCalls.{i64_value, reported, reported_values, reported_number, reported_enter}
use Rattle.instrumented_run_laws.proofs.Before as before
use Rattle.instrumented_run_laws.proofs.Before.{number_type}
use Rattle.instrumented_run_laws.proofs.ControlMoves.{nest_weighed}
use Rattle.instrumented_run_laws.proofs.DefinedFunctions.{type_is, site_is, hooked_definition}
use Rattle.instrumented_run_laws.proofs.FunctionWeights.{function_weights}
use Rattle.instrumented_run_laws.proofs.HookedProgram.{hooked_program, HookedFacts}
use Rattle.instrumented_run_laws.proofs.Leads as leads
use Rattle.instrumented_run_laws.proofs.Pieces as pieces
use Rattle.instrumented_run_laws.proofs.Relation.{Beside, type_of, site_at, frame_beside, IsBeside, AreCounted}
use Rattle.instrumented_run_laws.proofs.Scratch.{Scratch, scratch_values}
use Rattle.instrumented_run_laws.proofs.Straight.{get_more}
use Rattle.instrumented_run_laws.proofs.PieceFacts.{EntersBody}
use Rattle.instrumented_run_laws.proofs.Weights.{AreWeights, first_weights, later_weights}

-- the added locals of a new activation
abbrev pub zeros : Scratch
zeros = record { address = 0; in_i32 = 0; in_i64 = 0; in_f32 = 0; in_f64 = 0 }

-- a type with at most one result
one_arity : (results : List ValType) → length results ≤ 1 → length results ≡ block_arity (slice_get results 0)
one_arity [] one = refl
one_arity (ty ∷ []) one = refl
one_arity (ty ∷ other ∷ results) one = absurd (omega (arith, one))

values_reported : (n : ℕ) (store : Store) (values : List Val)
    → map (renumbered_call n) (reported_values store values) ≡ reported_values (renumbered_view n store) values
values_reported n store [] = refl
values_reported n store (v ∷ values) =
    ap
    (λ calls. reported Arg (i32_value (type_byte v.ty) ∷ i64_value v.bits ∷ []) (renumbered_view n store) ++ calls)
    (values_reported n store values)

-- the hook calls of an entry, in the instrumented module's store
entry_reported : (n : ℕ) (store : Store) (func : ℕ) (args : List Val)
    → reported_values (renumbered_view n store) args ++ reported_number Enter func (renumbered_view n store)
    ≡ map (renumbered_call n) (reported_enter func args store)
entry_reported n store func args =
    ap (λ calls. calls ++ reported_number Enter func (renumbered_view n store)) (sym (values_reported n store args))
    ∙ sym (map-append (renumbered_call n) (reported_values store args) (reported_number Enter func store))

module _ (m : Module) (digest : List ℕ) (script : Script) (facts : HookedFacts m digest script)
    (bodies : BodiesAreInstrumented) (store : Store) (counts : List ℕ) (func : ℕ) (d : Definition) (args : List Val)
    (others : List Activation) (signed : signature (code_of m) func ≡ Some (type_of m func))
    (defined : definition (code_of m) func ≡ Some d) (type_fine : IsFuncType (type_of m func))
    (are : AreValues (func_count m) (type_of m func).params args) where
  abbrev n : ℕ
  n = imported_funcs m

  abbrev program : Program
  program = hooked_program m digest script

  abbrev meter : Meter
  meter = instrumented_meter m

  abbrev s : Site
  s = site_at m func

  abbrev ty : FuncType
  ty = type_of m func

  abbrev own : List Val
  own = args ++ map zero_of d.locals

  whole : s.locals ≡ length own
  whole =
      let site = ap (λ (x : Site). x.locals) (site_is m func ty d signed defined) in
      let count = length_values (func_count m) ty.params args are in
      let both = length-append args (map zero_of d.locals) in
      let zeros_count = length-map d.locals zero_of in
      omega (arith, site, count, both, zeros_count)

  -- the activation as the function is entered
  abbrev first : Frame
  first = frame_of (renumber n func) ty (hooked_definition m func ty d) args

  locals_are : first.locals ≡ own ++ scratch_values zeros
  locals_are =
      ap (λ values. args ++ values) (map-append zero_of d.locals (I32 ∷ I32 ∷ I64 ∷ F32 ∷ F64 ∷ []))
      ∙ sym (append_assoc args (map zero_of d.locals) (scratch_values zeros))

  -- ---- the hook calls of an entry

  numbers : (types : List ValType) (values : List Val) → All (λ t. IsTrue (is_number t)) types
      → AreValues (func_count m) types values
      → pieces.AreNumbers s program meter (facts.has meter) (renumbered_view n store) others first own whole values
  numbers [] [] all are = tt
  numbers [] (v ∷ values) all are = absurd are
  numbers (t ∷ types) [] all are = absurd are
  numbers (t ∷ types) (v ∷ values) all are = (
    number_type v.ty
        (ap is_number are.0.typed ∙ All-head (λ t. IsTrue (is_number t)) t types all),
    numbers types values (All-tail (λ t. IsTrue (is_number t)) t types all) are.1,
  )

  abbrev Makes : (counts : List ℕ) (is : List Instr) (calls : List HookCall) (after : List ℕ) → Type 0
  Makes counts is calls after =
      pieces.Makes s program meter (facts.has meter) (renumbered_view n store) others first own whole counts zeros [] is
      calls after zeros []

  abbrev after_args : List ℕ
  after_args =
      pieces.counted_args s program meter (facts.has meter) (renumbered_view n store) others first own whole counts args

  abbrev after : List ℕ
  after = leads.counted n program meter after_args Enter

  args_reported : Makes counts (reports_params s 0 ty.params) (reported_values (renumbered_view n store) args) after_args
  args_reported =
      subst (λ types. Makes counts (reports_params s 0 types) (reported_values (renumbered_view n store) args) after_args)
      (types_values (func_count m) ty.params args are)
      (pieces.reports_args s program meter (facts.has meter) (renumbered_view n store) others first own whole counts zeros
      [] args 0 (numbers ty.params args type_fine.params are)
      (λ j v there. let e : 0 + j ≡ j = omega arith in
      ap (slice_get own) e ∙ get_more args (map zero_of d.locals) j v there))

  enter_reported : Makes counts (inserted_at_enter s ty.params) (map (renumbered_call n) (reported_enter func args store)) after
  enter_reported =
      subst (λ calls. Makes counts (inserted_at_enter s ty.params) calls after) (entry_reported n store func args)
      (pieces.both s program meter (facts.has meter) (renumbered_view n store) others first own whole args_reported
      (pieces.reports_one s program meter (facts.has meter) (renumbered_view n store) others first own whole Enter refl
      after_args zeros [] func))

  args_counted : (counts : List ℕ) (values : List Val)
      → AreCounted n counts
      (pieces.counted_args s program meter (facts.has meter) (renumbered_view n store) others first own whole counts
      values)
  args_counted counts [] = λ import less. refl
  args_counted counts (v ∷ values) = λ import less.
      args_counted (leads.counted n program meter counts Arg) values import less
      ∙ before.counted_alike s program meter (facts.has meter) store others first own whole counts Arg import less

  counted : AreCounted n counts after
  counted = λ import less.
      before.counted_alike s program meter (facts.has meter) store others first own whole after_args Enter import less
      ∙ args_counted counts args import less

  -- ---- the place of the body

  abbrev piece : List Instr
  piece = inserted_at_enter s ty.params

  abbrev block_at : ℕ
  block_at = 0 + length piece

  abbrev end_at : ℕ
  end_at = block_at + 1 + size (instrumented_nest s d.body)

  abbrev b : Beside
  b = record { scratch = zeros; number = block_at + 1; numbers = []; last = end_at }

  all_weights : AreWeights meter (renumber n func) 0 (weights_of_body s ty d.body)
  all_weights = function_weights m func ty d signed defined

  -- the weights of the inserted block and of the instructions after its start
  block_weights : AreWeights meter (renumber n func) block_at
      (0 ∷ (weights_of_nest s d.body ++ weightless (inserted_at_end s)))
  block_weights =
      subst
      (λ k. AreWeights meter (renumber n func) (0 + k) (0 ∷ (weights_of_nest s d.body ++ weightless (inserted_at_end
      s))))
      (length-map piece (λ i. 0))
      (later_weights meter (renumber n func) 0 (weightless piece)
      (0 ∷ (weights_of_nest s d.body ++ weightless (inserted_at_end s))) all_weights)

  beside : IsBeside m meter (frame_of func ty d args) [] b
  beside =
      record {
        arity = one_arity ty.results type_fine.one_result;
        locals = whole;
        weights = first_weights meter (renumber n func) (block_at + 1) (weights_of_nest s d.body)
            (weightless (inserted_at_end s)) block_weights.1;
        labels = tt;
        last = subst (λ k. AreWeights meter (renumber n func) (block_at + 1 + k) (weightless (inserted_at_end s)))
            (nest_weighed bodies s d.body)
            (later_weights meter (renumber n func) (block_at + 1) (weights_of_nest s d.body)
            (weightless (inserted_at_end s)) block_weights.1);
      }

  -- ---- the steps to the body

  abbrev Leads : Progress → Progress → List HookCall → Type 0
  Leads from to calls = leads.Leads n program meter from to 0 calls

  abbrev standing : List ℕ → Nest → ℕ → Frame
  standing counts rest number =
      record first { locals = own ++ scratch_values zeros; at = place rest number }

  abbrev settled : List ℕ → Frame → Progress
  settled counts frame = leads.settled n program meter (renumbered_view n store) counts others frame

  abbrev block : Nest
  block = InBlock (slice_get ty.results 0) (instrumented_nest s d.body) (before_nest (inserted_at_end s) Empty)

  -- the steps to the inserted block, with the hook calls before it
  to_block : Leads (settled counts first) (settled after (standing after block block_at))
      (map (renumbered_call n) (reported_enter func args store))
  to_block =
      subst
      (λ locals. Leads (settled counts (record first { locals = locals })) (settled after (standing after block
      block_at))
      (map (renumbered_call n) (reported_enter func args store)))
      (sym locals_are)
      (enter_reported.leads block 0
      (first_weights meter (renumber n func) 0 (weightless piece)
      (0 ∷ (weights_of_nest s d.body ++ weightless (inserted_at_end s))) all_weights))

  -- the step into the inserted block
  into_block : Leads (settled after (standing after block block_at))
      (settled after (frame_beside m meter (frame_of func ty d args) [] b)) []
  into_block =
      subst (λ p. Leads p (settled after (frame_beside m meter (frame_of func ty d args) [] b)) [])
      (sym (leads.settled_before n program meter (renumbered_view n store) after others (standing after block block_at)
      tt))
      (subst
      (λ w. leads.Leads n program meter
      (leads.running n program meter (renumbered_view n store) after others (standing after block block_at))
      (settled after (frame_beside m meter (frame_of func ty d args) [] b)) w [])
      block_weights.0
      (leads.goes n program meter (renumbered_view n store) (renumbered_view n store) after others
      (standing after block block_at) (frame_beside m meter (frame_of func ty d args) [] b) [] [] None refl))

  entered : (enter_function program.code (renumbered_view n store) counts (renumber n func) args others).next
      ≡ settled counts first
  entered =
      λ i. (enter_defined (facts.signed func ty signed i) (facts.defined func ty d signed defined i)
      (renumbered_view n store) counts (renumber n func) args others).next

  pub enters_own : EntersBody m program meter store counts func ty d args others
  enters_own =
      record {
        after = after;
        b = b;
        is_beside = beside;
        counted = counted;
        led = subst
            (λ p. Leads p (settled after (frame_beside m meter (frame_of func ty d args) [] b))
            (map (renumbered_call n) (reported_enter func args store)))
            (sym entered)
            (subst
            (λ calls. Leads (settled counts first) (settled after (frame_beside m meter (frame_of func ty d args) [] b))
            calls)
            (append-nil (map (renumbered_call n) (reported_enter func args store)))
            (leads.then n program meter (settled counts first) (settled after (standing after block block_at))
            (settled after (frame_beside m meter (frame_of func ty d args) [] b)) 0 0
            (map (renumbered_call n) (reported_enter func args store)) [] to_block into_block));
      }

-- control enters a defined function
pub enters_body : (m : Module) (digest : List ℕ) (script : Script) → HookedFacts m digest script → BodiesAreInstrumented
    → (store : Store) (counts : List ℕ) (func : ℕ) (ty : FuncType) (d : Definition) (args : List Val)
    (others : List Activation) → signature (code_of m) func ≡ Some ty → definition (code_of m) func ≡ Some d
    → IsFuncType ty → AreValues (func_count m) ty.params args
    → EntersBody m (hooked_program m digest script) (instrumented_meter m) store counts func ty d args others
enters_body m digest script facts bodies store counts func ty d args others signed defined type_fine are =
    let same = sym (type_is m func ty signed) in
    subst (λ t. EntersBody m (hooked_program m digest script) (instrumented_meter m) store counts func t d args others)
    (sym same)
    (enters_own m digest script facts bodies store counts func d args others (signed ∙ ap Some same) defined
    (subst IsFuncType same type_fine) (subst (λ (t : FuncType). AreValues (func_count m) t.params args) same are))
