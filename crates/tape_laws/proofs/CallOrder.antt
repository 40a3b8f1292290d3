-- The hook calls of an entry are in order.
use Rattle.std.proofs.Common.{◌≡◌, ℕ, ◌+◌, ◌<◌, ◌≤◌, List, [], ◌∷◌, ◌++◌, length, map, Option, Some, None, Bool, IsTrue, true, false, cond, not, ◌&&◌, ◌||◌, nat_eq, nat_le, nat_lt, slice_get, refl, sym, ap, ◌∙◌, subst, arith}
use Rattle.std.specs.Prelude.{IfSome, option_map, option_and_then}
use Rattle.std.specs.Option.{option_flatten}
use Rattle.std.proofs.lemmas.Bool.Decides.{nat_tests}
use Rattle.std.proofs.lemmas.List.Elements.{All-head, All-tail}
use Rattle.std.proofs.lemmas.List.{append_assoc, append-nil, length-map}
use Rattle.std.proofs.lemmas.Option.{slice_get-map}
use Rattle.std.proofs.Math.Bool.{or-true}
use Rattle.base.proofs.Booleans.{and_true, own_number}
use Rattle.wasm_syntax.specs.declared.values.ValType.{ValType}
use Rattle.wasm_syntax.specs.declared.values.ValType.TheVariants.{I32, I64, F32, F64, FuncRef}
use Rattle.wasm_syntax.specs.declared.values.Val.{Val}
use Rattle.wasm_syntax.specs.declared.signatures.FuncType.{FuncType}
use Rattle.wasm_syntax.specs.declared.modules.Module.{Module}
use Rattle.wasm_syntax.specs.Alike.{same_types, type_byte}
use Rattle.wasm_syntax.specs.Index.{imported_funcs}
use Rattle.wasm_syntax.specs.Typing.{is_number}
use Rattle.wasm_syntax.specs.Validity.{AreNumbers, IsFuncType}
use Rattle.wasm_syntax.proofs.ValTypes.{types_own}
use Rattle.history_spec.specs.Code.{code_of, signature}
use Rattle.history_spec.specs.Instantiation.{table_length}
use Rattle.history_spec.specs.Store.{Store, Table}
use Rattle.record_replay_spec.specs.Known.{entry_of, entries_after}
use Rattle.record_replay_spec.specs.declared.hooks.Hook.TheVariants.{Enter as ToEnter, Leave, Pre, Ipre}
use Rattle.record_replay_spec.specs.Observations.{ReachesEntry}
use Rattle.type_safety.specs.Stores.{func_count}
use Rattle.type_safety.specs.Values.{count_of, AreValues}
use Rattle.type_safety.proofs.Values.{types_values}
use Rattle.record_replay_spec.specs.Hooks.{HookCall, renumber, renumbered_call, renumbered_table, original}
use Rattle.record_replay_spec.specs.ReportedCalls.{reported_values, reported_number, reported_over, reported_enter}
use Rattle.record_replay_spec.specs.Order.{HookedShape, InFunction, InCall, OrderState, when, may_report, is_function, is_defined, with_entered, bits_fit, value_reported, with_pending, pending_are, may_enter, begins_entry, begins_original, ends_call, ordered_step}
use Rattle.record_replay_spec.specs.HookLaws.{IndicesAreRenumbered}
use Rattle.tape_laws.proofs.Reportable.{IsShapeOf, fits_number}
use Rattle.tape_laws.proofs.Trails.{Level, AtFunction, AtImport, AtCall, order_frames, at_host, with_top_entered, IsTypedFor, AreReportable}

-- ---- the table of a view

pub same_length : (n : ℕ) (o : Option Table) → table_length (option_map (renumbered_table n) o) ≡ table_length o
same_length n None = refl
same_length n (Some table) = length-map table.entries (option_map (renumber n))

pub same_entry : (n : ℕ) (o : Option Table) (index : ℕ)
    → entry_of (option_map (renumbered_table n) o) index ≡ option_map (renumber n) (entry_of o index)
same_entry n None index = refl
same_entry n (Some table) index =
    ap option_flatten (slice_get-map (option_map (renumber n)) table.entries index) ∙ go (slice_get table.entries index)
  where
    go : (o : Option (Option ℕ))
        → option_flatten (option_map (option_map (renumber n)) o) ≡ option_map (renumber n) (option_flatten o)
    go None = refl
    go (Some entry) = refl

-- a defined function is not an imported one
pub never_imported : (n func : ℕ) → n ≤ func → nat_lt func n ≡ false
never_imported n func own = grind (arith, nat_tests, own)

-- the tests of numbers
is_below : (a b : ℕ) → a < b → nat_lt a b ≡ true
is_below a b below = grind (arith, nat_tests, below)

is_at_most : (a b : ℕ) → a ≤ b → nat_le a b ≡ true
is_at_most a b most = grind (arith, nat_tests, most)

-- a function that is called and not yet entered may be entered
pub callee_may : (imports func : ℕ) → (nat_lt func imports || (nat_eq func func && not false)) ≡ true
callee_may imports func =
    ap (λ b. nat_lt func imports || (b && true)) (own_number func) ∙ or-true (nat_lt func imports)

-- ---- a module and the shape of its instrumented module

-- the facts about a module and the shape of its hook calls, with the laws of indices
pub record IsHooked (m : Module) (shape : HookedShape) : Type 0 where
  pub is : IsShapeOf m shape
  pub counts : func_count m ≡ imported_funcs m + length m.funcs
  pub numbers : (func : ℕ) (ty : FuncType) → signature (code_of m) func ≡ Some ty → IsFuncType ty
  pub indices : IndicesAreRenumbered

-- ---- hook calls in order

-- hook calls as the instrumented module makes them
abbrev pub renumbered : Module → List HookCall → List HookCall
renumbered m calls = map (renumbered_call (imported_funcs m)) calls

-- the state of the order with these levels open, these values pending and this number of entries known
abbrev pub state : List Level → List Val → ℕ → OrderState
state levels pending entries = record { frames = order_frames levels; pending = pending; entries = entries }

module _ (shape : HookedShape) where
  abbrev pub AreOrdered : OrderState → List HookCall → OrderState → Type 0
  AreOrdered order [] after = order ≡ after
  AreOrdered order (call ∷ calls) after =
      (next : OrderState) × (ordered_step shape order call ≡ Some next) × AreOrdered next calls after

  both_ordered : (a b : List HookCall) (order middle after : OrderState) → AreOrdered order a middle
      → AreOrdered middle b after → AreOrdered order (a ++ b) after
  both_ordered [] b order middle after h q = subst (λ o. AreOrdered o b after) (sym h) q
  both_ordered (call ∷ a) b order middle after h q = (h.0, h.1, both_ordered a b h.0 middle after h.2 q)

module _ (m : Module) where
  pub renumbered_both : (a b : List HookCall) → renumbered m (a ++ b) ≡ renumbered m a ++ renumbered m b
  renumbered_both [] b = refl
  renumbered_both (call ∷ a) b = ap (λ l. renumbered_call (imported_funcs m) call ∷ l) (renumbered_both a b)

  pub reported_both : (shape : HookedShape) (a b : List HookCall) (order middle after : OrderState)
      → AreOrdered shape order (renumbered m a) middle → AreOrdered shape middle (renumbered m b) after
      → AreOrdered shape order (renumbered m (a ++ b)) after
  reported_both shape a b order middle after h q =
      subst (λ l. AreOrdered shape order l after) (sym (renumbered_both a b))
      (both_ordered shape (renumbered m a) (renumbered m b) order middle after h q)

module _ (m : Module) (shape : HookedShape) (hooked : IsHooked m shape) where
  abbrev n : ℕ
  n = imported_funcs m

  -- ---- hooks that change no frames

  pub reportable_ordered : (calls : List HookCall) (order : OrderState) → may_report order ≡ true
      → AreReportable m shape calls → AreOrdered shape order (renumbered m calls) order
  reportable_ordered [] order may h = refl
  reportable_ordered (call ∷ calls) order may h =
      (order, h.0.ordered order may, reportable_ordered calls order may h.1)

  -- ---- values

  value_is_reported : (value : Val) → is_number value.ty ≡ true → bits_fit value.ty value.bits ≡ true
      → value_reported (type_byte value.ty) value.bits ≡ Some value
  value_is_reported value number fits = go value.ty number fits
    where
      go : (ty : ValType) → is_number ty ≡ true → bits_fit ty value.bits ≡ true
          → value_reported (type_byte ty) value.bits ≡ Some (record { ty = ty; bits = value.bits })
      go I32 number fits = ap (λ b. cond b (Some (record { ty = I32; bits = value.bits })) None) fits
      go I64 number fits = ap (λ b. cond b (Some (record { ty = I64; bits = value.bits })) None) fits
      go F32 number fits = ap (λ b. cond b (Some (record { ty = F32; bits = value.bits })) None) fits
      go F64 number fits = ap (λ b. cond b (Some (record { ty = F64; bits = value.bits })) None) fits
      go FuncRef number fits = cc

  pub values_ordered : (levels : List Level) (entries : ℕ) (view : Store) (types : List ValType) (values : List Val)
      (pending : List Val) → AreNumbers types → AreValues (func_count m) types values
      → AreOrdered shape (state levels pending entries) (renumbered m (reported_values view values))
      (state levels (pending ++ values) entries)
  values_ordered levels entries view [] [] pending numbers are =
      ap (λ p. state levels p entries) (sym (append-nil pending))
  values_ordered levels entries view [] (v ∷ values) pending numbers are = absurd are
  values_ordered levels entries view (t ∷ types) [] pending numbers are = absurd are
  values_ordered levels entries view (t ∷ types) (v ∷ values) pending numbers are =
      let t_number = All-head (λ t. IsTrue (is_number t)) t types numbers in
      let number : is_number v.ty ≡ true = ap is_number are.0.typed ∙ t_number in
      let fits : bits_fit v.ty v.bits ≡ true =
      fits_number (func_count m) v.ty v.bits number
      (subst (λ ty. v.bits < count_of (func_count m) ty) (sym are.0.typed) are.0.in_range) in (
        state levels (pending ++ v ∷ []) entries,
        ap (option_map (with_pending (state levels pending entries))) (value_is_reported v number fits),
        subst (λ p. AreOrdered shape (state levels (pending ++ v ∷ []) entries) (renumbered m (reported_values view values)) (state levels p entries))
            (append_assoc pending (v ∷ []) values)
            (values_ordered levels entries view types values (pending ++ v ∷ [])
            (All-tail (λ t. IsTrue (is_number t)) t types numbers) are.1),
      )

  -- pending values have the types of a part of a function's type
  pending_typed : (func : ℕ) (part : FuncType → List ValType) (values : List Val) (levels : List Level) (entries : ℕ)
      (typed : IsTypedFor m shape func part values)
      → pending_are (state levels values entries) part (shape.type_of func) ≡ true
  pending_typed func part values levels entries typed =
      ap (pending_are (state levels values entries) part) (hooked.is.type_of func typed.ty typed.has_type)
      ∙ ap (same_types (part typed.ty)) (types_values (func_count m) (part typed.ty) values typed.are)
      ∙ types_own (part typed.ty)

  -- ---- functions

  function_there : (func : ℕ) → func < func_count m → is_function shape func ≡ true
  function_there func below =
      let i = hooked.is.imports in
      let d = hooked.is.defined in
      let c = hooked.counts in
      is_below func (shape.imports + shape.defined) (omega (arith, below, c, i, d))

  defined_there : (func : ℕ) → n ≤ func → func < func_count m → is_defined shape func ≡ true
  defined_there func own below =
      let i = hooked.is.imports in
      let t : nat_le shape.imports func ≡ true = is_at_most shape.imports func (omega (arith, own, i)) in
      and_true (nat_le shape.imports func) (is_function shape func) t (function_there func below)

  -- a function is entered, if it may be
  pub enter_step : (func : ℕ) (args : List Val) (levels : List Level) (entries : ℕ) (view : Store) → n ≤ func
      → func < func_count m → IsTypedFor m shape func (λ ty. ty.params) args
      → may_enter shape func (order_frames levels) ≡ true
      → AreOrdered shape (state levels args entries) (renumbered m (reported_number ToEnter func view))
      (state (AtFunction func ∷ with_top_entered levels) [] entries)
  enter_step func args levels entries view own below typed may = (
    state (AtFunction func ∷ with_top_entered levels) [] entries,
    ap
        (λ b. when b
        (record {
          frames = InFunction func ∷ with_entered (order_frames levels);
          pending = [];
          entries = entries;
        }))
        (and_true
        (is_defined shape func && pending_are (state levels args entries) (λ ty. ty.params) (shape.type_of func))
        (may_enter shape func (order_frames levels))
        (and_true (is_defined shape func)
        (pending_are (state levels args entries) (λ ty. ty.params) (shape.type_of func))
        (defined_there func own below)
        (pending_typed func (λ ty. ty.params) args levels entries typed)) may)
        ∙ ap (λ f. Some (record { frames = InFunction func ∷ f; pending = []; entries = entries })) (top levels),
    refl,
  )
    where
      top : (levels : List Level) → with_entered (order_frames levels) ≡ order_frames (with_top_entered levels)
      top [] = refl
      top (AtFunction func ∷ levels) = refl
      top (AtImport direct callee args ∷ levels) = refl
      top (AtCall direct callee entered args ∷ levels) = refl

  -- values of a part of a function's type are in order
  abbrev TypedOrdered : (FuncType → List ValType) → Type 0
  TypedOrdered part =
      (func : ℕ) (values : List Val) (levels : List Level) (entries : ℕ) (view : Store)
      → IsTypedFor m shape func part values
      → AreOrdered shape (state levels [] entries) (renumbered m (reported_values view values)) (state levels values entries)

  -- the arguments of a function are in order
  pub params_ordered : TypedOrdered (λ ty. ty.params)
  params_ordered func args levels entries view typed =
      values_ordered levels entries view typed.ty.params args []
      (hooked.numbers func typed.ty typed.has_type).params typed.are

  pub enter_ordered : (func : ℕ) (args : List Val) (levels : List Level) (entries : ℕ) (view : Store) → n ≤ func
      → func < func_count m → IsTypedFor m shape func (λ ty. ty.params) args
      → may_enter shape func (order_frames levels) ≡ true
      → AreOrdered shape (state levels [] entries) (renumbered m (reported_enter func args view))
      (state (AtFunction func ∷ with_top_entered levels) [] entries)
  enter_ordered func args levels entries view own below typed may =
      reported_both m shape (reported_values view args) (reported_number ToEnter func view) (state levels [] entries)
      (state levels args entries) (state (AtFunction func ∷ with_top_entered levels) [] entries)
      (params_ordered func args levels entries view typed) (enter_step func args levels entries view own below typed may)

  -- the host may enter a function
  pub host_may : (func : ℕ) (levels : List Level) → at_host n levels ≡ true
      → may_enter shape func (order_frames levels) ≡ true
  host_may func [] host = refl
  host_may func (AtFunction f ∷ levels) host = cc
  host_may func (AtImport direct callee args ∷ levels) host = cc
  host_may func (AtCall direct callee entered args ∷ levels) host =
      ap (λ b. b || (nat_eq callee func && not entered)) (ap (nat_lt callee) hooked.is.imports ∙ host)

  pub leave_ordered : (func : ℕ) (levels : List Level) (entries : ℕ) (view : Store)
      → AreOrdered shape (state (AtFunction func ∷ levels) [] entries) (renumbered m (reported_number Leave func view))
      (state levels [] entries)
  leave_ordered func levels entries view =
      let same : nat_eq func func ≡ true = grind (arith, nat_tests) in
      (state levels [] entries, ap (λ b. when (b && true) (state levels [] entries)) same, refl)

  -- a call ends with results, if the callee is an import or was entered
  pub over_step : (direct : Bool) (callee : ℕ) (entered : Bool) (args results : List Val) (levels : List Level)
      (entries : ℕ) (view : Store) → (nat_lt callee n || entered) ≡ true
      → IsTypedFor m shape callee (λ ty. ty.results) results
      → AreOrdered shape (state (AtCall direct callee entered args ∷ levels) results entries)
      (renumbered m (reported_over (cond direct (Some callee) None) view)) (state levels [] entries)
  over_step direct callee entered args results levels entries view may typed = go direct
    where
      ends : (direct : Bool)
          → ends_call shape (state (AtCall direct callee entered args ∷ levels) results entries) callee entered
          (order_frames levels) ≡ Some (state levels [] entries)
      ends direct =
          ap (λ b. when b (state levels [] entries))
          (and_true
          (pending_are (state (AtCall direct callee entered args ∷ levels) results entries) (λ ty. ty.results)
          (shape.type_of callee))
          (nat_lt callee shape.imports || entered)
          (pending_typed callee (λ ty. ty.results) results (AtCall direct callee entered args ∷ levels) entries typed)
          (ap (λ i. nat_lt callee i || entered) hooked.is.imports ∙ may))

      go : (direct : Bool)
          → AreOrdered shape (state (AtCall direct callee entered args ∷ levels) results entries)
          (renumbered m (reported_over (cond direct (Some callee) None) view)) (state levels [] entries)
      go true =
          let same : nat_eq callee callee ≡ true = own_number callee in (
            state levels [] entries,
            ap
                (λ b. cond b
                (ends_call shape (state (AtCall true callee entered args ∷ levels) results entries) callee entered
                (order_frames levels)) None) same
                ∙ ends true,
            refl,
          )
      go false = (state levels [] entries, ends false, refl)

  -- the results of a function are in order
  pub results_ordered : TypedOrdered (λ ty. ty.results)
  results_ordered func results levels entries view typed =
      values_ordered levels entries view typed.ty.results results []
      (hooked.numbers func typed.ty typed.has_type).results typed.are

  pub over_ordered : (direct : Bool) (callee : ℕ) (entered : Bool) (args results : List Val) (levels : List Level)
      (entries : ℕ) (view : Store) → (nat_lt callee n || entered) ≡ true
      → IsTypedFor m shape callee (λ ty. ty.results) results
      → AreOrdered shape (state (AtCall direct callee entered args ∷ levels) [] entries)
      (renumbered m (reported_values view results ++ reported_over (cond direct (Some callee) None) view)) (state levels [] entries)
  over_ordered direct callee entered args results levels entries view may typed =
      reported_both m shape (reported_values view results) (reported_over (cond direct (Some callee) None) view)
      (state (AtCall direct callee entered args ∷ levels) [] entries)
      (state (AtCall direct callee entered args ∷ levels) results entries) (state levels [] entries)
      (results_ordered callee results (AtCall direct callee entered args ∷ levels) entries view typed)
      (over_step direct callee entered args results levels entries view may typed)

  -- ---- the calls of the module

  pub pre_ordered : (callee func : ℕ) (operands : List Val) (levels : List Level) (entries : ℕ) (view : Store)
      → callee < func_count m
      → AreOrdered shape (state (AtFunction func ∷ levels) [] entries) (renumbered m (reported_number Pre callee view ++ []))
      (state (AtCall true callee false operands ∷ AtFunction func ∷ levels) [] entries)
  pre_ordered callee func operands levels entries view below = (
    state (AtCall true callee false operands ∷ AtFunction func ∷ levels) [] entries,
    ap (λ b. when b (state (AtCall true callee false operands ∷ AtFunction func ∷ levels) [] entries))
        (function_there callee below),
    refl,
  )

  -- the state after a call by the table, whose entry holds a function or is empty
  abbrev pub after_index : (func index : ℕ) → List Level → ℕ → Store → (callee : Option ℕ) → OrderState
  after_index func index levels entries view callee =
      record {
        frames = InCall false callee false ∷ InFunction func ∷ order_frames levels;
        pending = [];
        entries = entries_after entries (ReachesEntry index (table_length view.table));
      }

  pub ipre_ordered : (func index : ℕ) (levels : List Level) (entries : ℕ) (view : Store) (callee : Option ℕ)
      → entries ≤ table_length view.table → entry_of view.table index ≡ callee
      → IfSome callee (λ callee. callee < func_count m)
      → AreOrdered shape (state (AtFunction func ∷ levels) [] entries) (renumbered m (reported_number Ipre index view))
      (after_index func index levels entries view callee)
  ipre_ordered func index levels entries view callee fits entry there = (
    after_index func index levels entries view callee,
    ap
        (λ length. option_and_then
        (λ ready. begins_entry shape (record ready { entries = entries_after ready.entries (ReachesEntry index length) })
        (entry_of (option_map (renumbered_table n) view.table) index))
        (when (nat_le entries length) (state (AtFunction func ∷ levels) [] entries)))
        (same_length n view.table)
        ∙ ap
        (λ b. option_and_then
        (λ ready. begins_entry shape
        (record ready { entries = entries_after ready.entries (ReachesEntry index (table_length view.table)) })
        (entry_of (option_map (renumbered_table n) view.table) index))
        (when b (state (AtFunction func ∷ levels) [] entries)))
        within
        ∙ ap (begins_entry shape seen) (same_entry n view.table index ∙ ap (option_map (renumber n)) entry)
        ∙ go callee there,
    refl,
  )
    where
      within : nat_le entries (table_length view.table) ≡ true
      within = grind (arith, nat_tests, fits)

      seen : OrderState
      seen =
          state (AtFunction func ∷ levels) []
          (entries_after entries (ReachesEntry index (table_length view.table)))

      go : (callee : Option ℕ) → IfSome callee (λ callee. callee < func_count m)
          → begins_entry shape seen (option_map (renumber n) callee)
          ≡ Some (after_index func index levels entries view callee)
      go None there = refl
      go (Some callee) there =
          ap (λ i. begins_original shape seen (original i (renumber n callee))) hooked.is.imports
          ∙ ap (begins_original shape seen) (hooked.indices.of_renumbered n callee)
          ∙ ap (λ b. when b (after_index func index levels entries view (Some callee))) (function_there callee there)
