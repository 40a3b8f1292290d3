-- An instrumented sequence has the original's type, in a wider context in which hooks are called.
use Rattle.std.proofs.Common.{◌≡◌, ℕ, ◌^◌, List, [], ◌∷◌, ◌++◌, reverse, Option, Some, None, Bool, true, false, cond, ◌&&◌, IsTrue, nat_lt, slice_get, option_map, option_and_then, refl, sym, ◌∙◌, subst}
use Rattle.std.specs.List.{AllByRecursion}
use Rattle.base.proofs.Booleans.{and_left, and_right}
use Rattle.base.proofs.Lists.{item_passes, all_at}
use Rattle.base.proofs.Options.{cond_some}
use Rattle.base.specs.declared.opcodes.TheConstants.{I32_LOAD, I64_LOAD32_U, I32_STORE, I64_STORE32}
use Rattle.wasm_syntax.specs.declared.values.ValType.{ValType}
use Rattle.wasm_syntax.specs.declared.values.ValType.TheVariants.{I32}
use Rattle.wasm_syntax.specs.declared.signatures.FuncType.{FuncType}
use Rattle.wasm_syntax.specs.declared.signatures.GlobalType.{GlobalType}
use Rattle.wasm_syntax.specs.declared.instructions.MemArg.{MemArg}
use Rattle.wasm_syntax.specs.declared.instructions.Instr.{Instr}
use Rattle.wasm_syntax.specs.declared.instructions.Instr.TheVariants.{Else, End, Return, Call, CallIndirect, GlobalGet, GlobalSet, Load, Store, MemorySize, MemoryGrow, MemoryCopy, MemoryFill}
use Rattle.wasm_syntax.specs.Encoding.Forms.{IsCoreInstr}
use Rattle.wasm_syntax.specs.Encoding.Encodable.{FitsU32}
use Rattle.wasm_syntax.specs.Index.{type_at, func_type, all_globals}
use Rattle.wasm_syntax.specs.Nest.{Nest, Empty, Plain, InBlock, InLoop, InIf, InIfElse, flat}
use Rattle.wasm_syntax.specs.Opcodes.{Access, is_from, load_table, store_table, load_of, store_of}
use Rattle.wasm_syntax.specs.Typing.{Context, InstrType, Moves, is_number, is_aligned, if_true, has_memory, has_table, call_of, indirect_of, set_of, load_type, store_type, func_at, instr_type, Leads, results_of, inside, IsTyped}
use Rattle.wasm_syntax.specs.Validity.{IsFuncType}
use Rattle.wasm_syntax.proofs.JoinedLists.{both_parts}
use Rattle.type_safety.proofs.Wider.{Widens, calling, inside_wider, leads_wider as leads_in_wider}
use Rattle.record_replay_spec.specs.declared.hooks.Hook.TheVariants as hook
use Rattle.record_replay_spec.specs.Hooks.{renumber, on}
use Rattle.record_replay_spec.specs.Insertions.{Site, imports_at, calls, reports_number, reports_index, reports_range, reports_global, before_load, before_store, after_call, inserted_before, inserted_after}
use Rattle.record_replay_spec.specs.Instrumented.{renumbered, before_nest, instrumented_nest}
use Rattle.instrumented_module_laws.specs.Laws.{HasWordOffset}
use Rattle.instrumented_module_laws.proofs.Pieces.{Sequence, HasHooks, typed_after, nothing, reports_number_runs, load_runs, store_runs, global_runs, range_runs, index_runs, alone_runs, after_call_runs}

-- the wider context of an instrumented body knows what the original's knows, with functions renumbered, and has hooks
pub record IsHooked (s : Site) (ctx wider : Context) : Type 0 where
  pub has : HasHooks s wider
  pub func_of_site : (f : ℕ) → func_at ctx f ≡ func_type s.m f
  pub type_of_site : (t : ℕ) → slice_get ctx.types t ≡ type_at s.m t
  pub global_of_site : (x : ℕ) → slice_get ctx.globals x ≡ slice_get (all_globals s.m) x
  pub own : FitsU32 s.func
  pub func_good : (f : ℕ) (ty : FuncType) → func_type s.m f ≡ Some ty → IsFuncType ty × FitsU32 f
  pub type_good : (t : ℕ) (ty : FuncType) → type_at s.m t ≡ Some ty → IsFuncType ty
  pub global_good : (x : ℕ) (g : GlobalType) → slice_get (all_globals s.m) x ≡ Some g
      → IsTrue (is_number g.ty) × FitsU32 x
  pub known : Widens (renumber (imports_at s)) ctx wider

-- an instruction of the form Core whose offset is a word
abbrev pub IsReported : Instr → Type 0
IsReported i = IsCoreInstr i × HasWordOffset i

-- ---- accesses

abbrev access_test : Access → Bool
access_test a = is_number a.ty && nat_lt a.width (2 ^ 32)

load_passes : (op : ℕ) (a : Access) → load_of op ≡ Some a → access_test a ≡ true
load_passes op a h =
    item_passes access_test load_table _ a refl (cond_some (is_from I32_LOAD I64_LOAD32_U op) _ a h).1

store_passes : (op : ℕ) (a : Access) → store_of op ≡ Some a → access_test a ≡ true
store_passes op a h =
    item_passes access_test store_table _ a refl (cond_some (is_from I32_STORE I64_STORE32 op) _ a h).1

-- ---- types of instructions

renumbered_calls : (n : ℕ) (i : Instr) → calling (renumber n) i ≡ renumbered n i
renumbered_calls n (Call f) = refl
renumbered_calls n i = refl

module _ (s : Site) (ctx wider : Context) (w : IsHooked s ctx wider) where
  leads_wider : (i : Instr) (before after : List ValType) → IsCoreInstr i → Leads ctx (instr_type ctx i) before after
      → Leads wider (instr_type wider (renumbered (imports_at s) i)) before after
  leads_wider i before after core leads =
      subst (λ j. Leads wider (instr_type wider j) before after) (renumbered_calls (imports_at s) i)
      (leads_in_wider (renumber (imports_at s)) ctx wider w.known i before after
      (λ f is declared. absurd (subst IsCoreInstr is core)) leads)

  -- ---- the code before an instruction

  call_word : (f : ℕ) (before middle : List ValType) (o : Option FuncType) → func_at ctx f ≡ o
      → Leads ctx (option_map call_of o) before middle → FitsU32 f
  call_word f before middle None e h = absurd h
  call_word f before middle (Some ty) e h = (w.func_good f ty (sym (w.func_of_site f) ∙ e)).1

  before_indirect : (before middle : List ValType) (b : Bool) (o : Option FuncType)
      → Leads ctx (cond b (option_map indirect_of o) None) before middle
      → Sequence wider (reports_index s hook.Ipre) before before
  before_indirect before middle false o h = absurd h
  before_indirect before middle true None h = absurd h
  before_indirect before middle true (Some ty) h =
      subst (λ types. Sequence wider (reports_index s hook.Ipre) types types) (sym h.had)
      (index_runs s wider w.has hook.Ipre (reverse ty.params ++ h.below) refl)

  -- a load or a store, by its access
  before_accesses : (before middle : List ValType) (type_of : Access → Option InstrType) (reported : Access → List Instr)
      (b : Bool) (o : Option Access)
      → ((a : Access) → o ≡ Some a → Leads ctx (type_of a) before middle → Sequence wider (reported a) before before)
      → Leads ctx (cond b (option_and_then type_of o) None) before middle → Sequence wider (on o reported) before before
  before_accesses before middle type_of reported false o each h = absurd h
  before_accesses before middle type_of reported true None each h = absurd h
  before_accesses before middle type_of reported true (Some a) each h = each a refl h

  load_reported : (at : MemArg) (before middle : List ValType) (a : Access) (aligned : Bool) → FitsU32 at.offset
      → access_test a ≡ true → Leads ctx (if_true aligned (Moves (I32 ∷ []) (a.ty ∷ []))) before middle
      → Sequence wider (before_load s at a) before before
  load_reported at before middle a false word passes h = absurd h
  load_reported at before middle a true word passes h =
      subst (λ types. Sequence wider (before_load s at a) types types) (sym h.had)
      (load_runs s wider w.has at a h.below word (and_right (is_number a.ty) (nat_lt a.width (2 ^ 32)) passes))

  store_reported : (at : MemArg) (before middle : List ValType) (a : Access) (aligned : Bool) → FitsU32 at.offset
      → access_test a ≡ true → Leads ctx (if_true aligned (Moves (a.ty ∷ I32 ∷ []) [])) before middle
      → Sequence wider (before_store s at a) before before
  store_reported at before middle a false word passes h = absurd h
  store_reported at before middle a true word passes h =
      subst (λ types. Sequence wider (before_store s at a) types types) (sym h.had)
      (store_runs s wider w.has at a h.below word (and_right (is_number a.ty) (nat_lt a.width (2 ^ 32)) passes)
      (and_left (is_number a.ty) (nat_lt a.width (2 ^ 32)) passes))

  set_reported : (x : ℕ) (g : GlobalType) (before middle : List ValType) (b : Bool) → IsTrue (is_number g.ty) → FitsU32 x
      → Leads ctx (if_true b (Moves (g.ty ∷ []) [])) before middle
      → Sequence wider (reports_global s hook.Gset x g.ty) before before
  set_reported x g before middle false num word h = absurd h
  set_reported x g before middle true num word h =
      subst (λ types. Sequence wider (reports_global s hook.Gset x g.ty) types types) (sym h.had)
      (global_runs s wider w.has hook.Gset x g.ty h.below word refl num)

  before_sets : (x : ℕ) (before middle : List ValType) (o : Option GlobalType) → slice_get (all_globals s.m) x ≡ o
      → Leads ctx (option_and_then set_of o) before middle
      → Sequence wider (on o (λ ty. reports_global s hook.Gset x ty.ty)) before before
  before_sets x before middle None e h = absurd h
  before_sets x before middle (Some g) e h =
      let good = w.global_good x g e in set_reported x g before middle g.mutable good.0 good.1 h

  before_ranges : (copies : Bool) (before middle : List ValType) (b : Bool)
      → Leads ctx (if_true b (Moves (I32 ∷ I32 ∷ I32 ∷ []) [])) before middle
      → Sequence wider (reports_range s (cond copies hook.Copy hook.Fill)) before before
  before_ranges copies before middle false h = absurd h
  before_ranges true before middle true h =
      subst (λ types. Sequence wider (reports_range s hook.Copy) types types) (sym h.had)
      (range_runs s wider w.has hook.Copy h.below refl)
  before_ranges false before middle true h =
      subst (λ types. Sequence wider (reports_range s hook.Fill) types types) (sym h.had)
      (range_runs s wider w.has hook.Fill h.below refl)

  before_runs : (i : Instr) (before middle : List ValType) → HasWordOffset i
      → Leads ctx (instr_type ctx i) before middle
      → Sequence wider (inserted_before s i) before before
  before_runs Return before middle word h = reports_number_runs s wider w.has hook.Leave s.func before w.own refl
  before_runs (Call f) before middle word h =
      reports_number_runs s wider w.has hook.Pre f before (call_word f before middle (func_at ctx f) refl h) refl
  before_runs (CallIndirect t) before middle word h =
      before_indirect before middle (has_table ctx 0) (slice_get ctx.types t) h
  before_runs (Load at) before middle word h =
      before_accesses before middle (load_type at) (before_load s at) (has_memory ctx) (load_of at.op)
      (λ a e. load_reported at before middle a (is_aligned at a) word (load_passes at.op a e)) h
  before_runs (Store at) before middle word h =
      before_accesses before middle (store_type at) (before_store s at) (has_memory ctx) (store_of at.op)
      (λ a e. store_reported at before middle a (is_aligned at a) word (store_passes at.op a e)) h
  before_runs MemorySize before middle word h = alone_runs s wider w.has hook.Size before refl
  before_runs (GlobalSet x) before middle word h =
      before_sets x before middle (slice_get (all_globals s.m) x) refl
      (subst (λ o. Leads ctx (option_and_then set_of o) before middle) (w.global_of_site x) h)
  before_runs MemoryCopy before middle word h = before_ranges true before middle (has_memory ctx) h
  before_runs MemoryFill before middle word h = before_ranges false before middle (has_memory ctx) h
  before_runs i before middle word h = nothing wider before

  -- ---- the code after an instruction

  after_results : (over : List Instr) (ty : FuncType) (below : List ValType)
      → ((types : List ValType) → Sequence wider over types types) → IsFuncType ty
      → Sequence wider (after_call s over ty.results) (reverse ty.results ++ below) (reverse ty.results ++ below)
  after_results over ty below runs good =
      after_call_runs s wider w.has over ty.results below runs good.one_result
      (λ t is. all_at (λ t. IsTrue (is_number t)) ty.results 0 t good.results is)

  after_calls : (f : ℕ) (before middle : List ValType) (o : Option FuncType) → func_type s.m f ≡ o
      → Leads ctx (option_map call_of o) before middle
      → Sequence wider (on o (λ ty. after_call s (reports_number s hook.Post f) ty.results)) middle middle
  after_calls f before middle None e h = absurd h
  after_calls f before middle (Some ty) e h =
      let good = w.func_good f ty e in
      subst (λ types. Sequence wider (after_call s (reports_number s hook.Post f) ty.results) types types) (sym h.left)
      (after_results (reports_number s hook.Post f) ty h.below
      (λ types. reports_number_runs s wider w.has hook.Post f types good.1 refl) good.0)

  after_indirect : (t : ℕ) (before middle : List ValType) (b : Bool) (o : Option FuncType) → type_at s.m t ≡ o
      → Leads ctx (cond b (option_map indirect_of o) None) before middle
      → Sequence wider (on o (λ ty. after_call s (calls s hook.Ipost ∷ []) ty.results)) middle middle
  after_indirect t before middle false o e h = absurd h
  after_indirect t before middle true None e h = absurd h
  after_indirect t before middle true (Some ty) e h =
      subst (λ types. Sequence wider (after_call s (calls s hook.Ipost ∷ []) ty.results) types types) (sym h.left)
      (after_results (calls s hook.Ipost ∷ []) ty h.below
      (λ types. alone_runs s wider w.has hook.Ipost types refl) (w.type_good t ty e))

  after_growth : (before middle : List ValType) (b : Bool)
      → Leads ctx (if_true b (Moves (I32 ∷ []) (I32 ∷ []))) before middle
      → Sequence wider (reports_index s hook.Grow) middle middle
  after_growth before middle false h = absurd h
  after_growth before middle true h =
      subst (λ types. Sequence wider (reports_index s hook.Grow) types types) (sym h.left)
      (index_runs s wider w.has hook.Grow h.below refl)

  get_reported : (x : ℕ) (g : GlobalType) (below : List ValType) (b : Bool) → IsTrue (is_number g.ty) → FitsU32 x
      → Sequence wider (cond b (reports_global s hook.Gget x g.ty) []) (g.ty ∷ below) (g.ty ∷ below)
  get_reported x g below true num word = global_runs s wider w.has hook.Gget x g.ty below word refl num
  get_reported x g below false num word = nothing wider (g.ty ∷ below)

  after_gets : (x : ℕ) (before middle : List ValType) (o : Option GlobalType) → slice_get (all_globals s.m) x ≡ o
      → Leads ctx (option_map (λ (g : GlobalType). Moves [] (g.ty ∷ [])) o) before middle
      → Sequence wider (on o (λ ty. cond ty.mutable (reports_global s hook.Gget x ty.ty) [])) middle middle
  after_gets x before middle None e h = absurd h
  after_gets x before middle (Some g) e h =
      let good = w.global_good x g e in
      subst (λ types. Sequence wider (cond g.mutable (reports_global s hook.Gget x g.ty) []) types types) (sym h.left)
      (get_reported x g h.below g.mutable good.0 good.1)

  after_runs : (i : Instr) (before middle : List ValType) → Leads ctx (instr_type ctx i) before middle
      → Sequence wider (inserted_after s i) middle middle
  after_runs (Call f) before middle h =
      after_calls f before middle (func_type s.m f) refl
      (subst (λ o. Leads ctx (option_map call_of o) before middle) (w.func_of_site f) h)
  after_runs (CallIndirect t) before middle h =
      after_indirect t before middle (has_table ctx 0) (type_at s.m t) refl
      (subst (λ o. Leads ctx (cond (has_table ctx 0) (option_map indirect_of o) None) before middle)
      (w.type_of_site t) h)
  after_runs MemoryGrow before middle h = after_growth before middle (has_memory ctx) h
  after_runs (GlobalGet x) before middle h =
      after_gets x before middle (slice_get (all_globals s.m) x) refl
      (subst (λ o. Leads ctx (option_map (λ (g : GlobalType). Moves [] (g.ty ∷ [])) o) before middle)
      (w.global_of_site x) h)
  after_runs i before middle h = nothing wider middle

-- ---- sequences

inside_hooked : (s : Site) (label : List ValType) (ctx wider : Context) → IsHooked s ctx wider
    → IsHooked s (inside label ctx) (inside label wider)
inside_hooked s label ctx wider w =
    record {
      has = record { address = w.has.address; value = w.has.value; hook = w.has.hook };
      func_of_site = w.func_of_site;
      type_of_site = w.type_of_site;
      global_of_site = w.global_of_site;
      own = w.own;
      func_good = w.func_good;
      type_good = w.type_good;
      global_good = w.global_good;
      known = inside_wider (renumber (imports_at s)) label ctx wider w.known;
    }

pub typed_round : (s : Site) (nest : Nest) (ctx wider : Context) (before after : List ValType) → IsHooked s ctx wider
    → AllByRecursion IsReported (flat nest) → IsTyped ctx nest before after
    → IsTyped wider (instrumented_nest s nest) before after
typed_round s Empty ctx wider before after w reported h = h
typed_round s (Plain i rest) ctx wider before after w reported h =
    let later = before_nest (inserted_after s i) (instrumented_nest s rest) in
    typed_after wider (inserted_before s i) (Plain (renumbered (imports_at s) i) later) before before after
    (before_runs s ctx wider w i before h.0 reported.0.1 h.1) (
      h.0,
      leads_wider s ctx wider w i before h.0 reported.0.0 h.1,
      typed_after wider (inserted_after s i) (instrumented_nest s rest) h.0 h.0 after
          (after_runs s ctx wider w i before h.0 h.1)
          (typed_round s rest ctx wider h.0 after w reported.1 h.2),
    )
typed_round s (InBlock ty body rest) ctx wider before after w reported h =
    let parts = both_parts IsReported (flat body) (End ∷ flat rest) reported.1 in
    let label = results_of ty in (
      h.0,
      typed_round s body (inside label ctx) (inside label wider) [] label
          (inside_hooked s label ctx wider w) parts.0 h.1,
      typed_round s rest ctx wider (label ++ before) after w parts.1.1 h.2,
    )
typed_round s (InLoop ty body rest) ctx wider before after w reported h =
    let parts = both_parts IsReported (flat body) (End ∷ flat rest) reported.1 in (
      h.0,
      typed_round s body (inside [] ctx) (inside [] wider) [] (results_of ty)
          (inside_hooked s [] ctx wider w) parts.0 h.1,
      typed_round s rest ctx wider (results_of ty ++ before) after w parts.1.1 h.2,
    )
typed_round s (InIf ty body rest) ctx wider before after w reported h =
    let parts = both_parts IsReported (flat body) (End ∷ flat rest) reported.1 in
    let label = results_of ty in (
      h.0,
      h.1,
      h.2,
      typed_round s body (inside label ctx) (inside label wider) [] label
          (inside_hooked s label ctx wider w) parts.0 h.3,
      h.4,
      typed_round s rest ctx wider (label ++ h.0) after w parts.1.1 h.5,
    )
typed_round s (InIfElse ty body other rest) ctx wider before after w reported h =
    let parts = both_parts IsReported (flat body) (Else ∷ (flat other ++ End ∷ flat rest)) reported.1 in
    let later = both_parts IsReported (flat other) (End ∷ flat rest) parts.1.1 in
    let label = results_of ty in
    let within = inside_hooked s label ctx wider w in (
      h.0,
      h.1,
      h.2,
      typed_round s body (inside label ctx) (inside label wider) [] label within parts.0 h.3,
      typed_round s other (inside label ctx) (inside label wider) [] label within later.0 h.4,
      typed_round s rest ctx wider (label ++ h.0) after w later.1.1 h.5,
    )
