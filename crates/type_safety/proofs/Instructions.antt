-- Each instruction of a well-typed activation has a rule, and its result is well typed.
use Rattle.std.proofs.Common.{◌≡◌, ℕ, suc, zero, ◌<◌, ◌≤◌, List, [], ◌∷◌, ◌++◌, length, Option, Some, None, Bool, true, false, slice_get, option_map, refl, sym, ap, ◌∙◌, subst, arith}
use Rattle.std.specs.Prelude.{nat_lt, nat_eq, reverse, take, IfSome, slice_set, slice_index_or}
use Rattle.std.specs.List.{list_any}
use Rattle.std.proofs.lemmas.Bool.{ltb-true}
use Rattle.std.proofs.lemmas.List.{reverse-append, take_at}
use Rattle.std.proofs.lemmas.Option.{slice_get-map}
use Rattle.base.proofs.Lists.{all_at, all_or}
use Rattle.wasm_syntax.proofs.ValTypes.{signature_same}
use Rattle.base.proofs.Booleans.{and_parts}
use Rattle.wasm_syntax.specs.declared.values.ValType.{ValType}
use Rattle.wasm_syntax.specs.declared.values.ValType.TheVariants.{I32, FuncRef}
use Rattle.wasm_syntax.specs.declared.values.Val.{Val}
use Rattle.wasm_syntax.specs.declared.signatures.FuncType.{FuncType}
use Rattle.wasm_syntax.specs.declared.signatures.Limits.{Limits}
use Rattle.wasm_syntax.specs.declared.instructions.Instr.{Instr}
use Rattle.wasm_syntax.specs.declared.instructions.Instr.TheVariants.{Unreachable, Nop, Br, BrIf, BrTable, Return, Call, CallIndirect, Drop, Select, LocalGet, LocalSet, LocalTee, GlobalGet, GlobalSet, Load, Store as StoreTo, MemorySize, MemoryGrow, MemoryCopy, MemoryFill, Const, Numeric, RefNull, RefFunc, TableSet, TableGrow, TableSize}
use Rattle.wasm_syntax.specs.Alike.{same_signature}
use Rattle.wasm_syntax.specs.Index.{all_tables, all_globals}
use Rattle.wasm_syntax.specs.Opcodes.{numeric_shape, Shape}
use Rattle.wasm_syntax.specs.Typing.{Moves, Leaves, is_constant, is_declared, has_table, func_at, call_of, indirect_of, set_of, Leads, instr_type}
use Rattle.wasm_syntax.specs.Validity.{declared_funcs}
use Rattle.wasm_syntax.specs.Profile.{refused_feature}
use Rattle.history_spec.specs.Store.{Store, Table, with_global}
use Rattle.history_spec.specs.Code.{code_of, signature}
use Rattle.history_spec.specs.Numeric.{NumericValue, Computed, Undefined, Unsupported, numeric_value}
use Rattle.history_spec.specs.Configuration.{Place, Label, Frame}
use Rattle.history_spec.specs.Instruction.{Execution, on, bits_at, gives, choice, branch, calls, calls_if, calls_entry, reference, numeric_result, type_of_top, execute_plain, takes}
use Rattle.wasm_numeric.specs.Laws.{ResultsFit}
use Rattle.type_safety.specs.Values.{count_of, IsValue, AreValues}
use Rattle.type_safety.specs.Stores.{func_count, global_types, IsTable, IsStore}
use Rattle.type_safety.specs.Frames.{Scope, context, IsCode, base_of, AreLabels, IsAround}
use Rattle.type_safety.proofs.Values.{split_values, value_at, set_value, length_values}
use Rattle.type_safety.proofs.Constants.{constant_value}
use Rattle.type_safety.proofs.Numbers.{IsNumber, number_fine, operands_reversed}
use Rattle.type_safety.proofs.Tables.{table_there}
use Rattle.type_safety.proofs.InstrTypes.{mapped_leads, then_leads, cond_leads, ready}
use Rattle.type_safety.specs.Results.{HasRule}
use Rattle.type_safety.proofs.Fine.{on_fine, takes_fine, gives_fine, caller_fine, branch_fine, calls_fine}
use Rattle.type_safety.proofs.TableAccesses.{table_set_fine, table_size_fine, table_grow_fine}
use Rattle.type_safety.proofs.MemoryAccesses.{load_fine, store_fine, size_fine, grow_fine, copy_fine, fill_fine}

-- each function of the module has a type
abbrev pub HaveTypes : Scope → Type 0
HaveTypes s = (func : ℕ) → func < func_count s.m → (ty : FuncType) × (signature (code_of s.m) func ≡ Some ty)

one_operand : (n : ℕ) (t : ValType) (operands : List Val) (d : Val) → AreValues n (t ∷ []) operands
    → IsValue n t (slice_index_or operands 0 d)
one_operand n t [] d p = absurd p
one_operand n t (v ∷ vs) d p = p.0

chosen_fine : (s : Scope) (bits : ℕ) (first second : Execution) → HasRule s first → HasRule s second
    → HasRule s (choice bits first second)
chosen_fine s zero first second p q = q
chosen_fine s (suc n) first second p q = p

chosen_value : (n : ℕ) (t : ValType) (bits : ℕ) (a b : ℕ) → a < count_of n t → b < count_of n t
    → choice bits a b < count_of n t
chosen_value n t zero a b p q = q
chosen_value n t (suc k) a b p q = p

module _ (laws : ResultsFit) (s : Scope) (have : HaveTypes s) (one : length (all_tables s.m) ≤ 1) (store : Store)
    (is_store : IsStore s.m store) (frame : Frame) (labels : List (List ValType)) (given : List ValType)
    (around : IsAround s labels given frame) (next : Place) where
  abbrev n : ℕ
  n = func_count s.m

  abbrev IsNext : List ValType → Type 0
  IsNext types = IsCode s labels next (base_of frame.labels) types given

  -- the activation with other values, labels and place
  around_others : (labels' : List (List ValType)) (given' : List ValType) (blocks : List Label) (values : List Val)
      (at : Place) → AreLabels s labels' given' blocks
      → IsAround s labels' given' (record frame { values = values; labels = blocks; at = at })
  around_others labels' given' blocks values at are =
      record { scope = around.scope; func = around.func; arity = around.arity; locals = around.locals; blocks = are }

  -- the activation with one local set
  around_local : (x : ℕ) (t : ValType) (value : Val) → slice_get (s.ty.params ++ s.body.locals) x ≡ Some t
      → IsValue n t value → IsAround s labels given (record frame { locals = slice_set frame.locals x value })
  around_local x t value there is = record {
    scope = around.scope;
    func = around.func;
    arity = around.arity;
    locals = set_value n (s.ty.params ++ s.body.locals) frame.locals x t value around.locals there is;
    blocks = around.blocks;
  }

  -- the instruction gives results and leaves the store unchanged
  give : (types below : List ValType) (operands rest results : List Val) → AreValues n types results
      → AreValues n below rest → IsNext (reverse types ++ below)
      → HasRule s (gives store frame next operands rest results)
  give types below operands rest results p q code =
      gives_fine s store frame next labels given types below operands rest results None is_store around p q code

  branches : (l : ℕ) (operands values : List Val) (taken below : List ValType)
      → slice_get (labels ++ reverse s.ty.results ∷ []) l ≡ Some taken → AreValues n (taken ++ below) values
      → HasRule s (branch store frame operands values l)
  branches l operands values taken below is p =
      branch_fine s store frame operands values frame.labels l labels given taken below is_store around_others
      around.arity around.blocks is p

  -- ---- calls through the table

  entry_fine : (ty : FuncType) (table : Table) (below : List ValType) (operands rest : List Val)
      (entry : Option (Option ℕ))
      → ((func : ℕ) → entry ≡ Some (Some func) → func < n) → AreValues n (ty.params ++ I32 ∷ []) operands
      → AreValues n below rest → IsNext (reverse ty.results ++ below)
      → HasRule s (calls_entry (code_of s.m) ty frame next table operands rest entry)
  entry_fine ty table below operands rest None named p q code = tt
  entry_fine ty table below operands rest (Some None) named p q code = tt
  entry_fine ty table below operands rest (Some (Some func)) named p q code =
      on_fine s (signature (code_of s.m) func) found.0
      (λ it. calls_if (same_signature ty it) frame next operands rest func (take (length ty.params) operands))
      found.1 (by (same_signature ty found.0) refl)
    where
      found : (it : FuncType) × (signature (code_of s.m) func ≡ Some it)
      found = have func (named func refl)

      args : AreValues n ty.params (take (length ty.params) operands)
      args =
          let parts = split_values n ty.params (I32 ∷ []) operands p in
          let all : take (length ty.params) operands ≡ parts.top = ap (take (length ty.params)) parts.parts
          ∙ take_at parts.top parts.rest (length ty.params) (length_values n ty.params parts.top parts.of_top) in
          subst (λ vs. AreValues n ty.params vs) (sym all) parts.of_top

      by : (b : Bool) → same_signature ty found.0 ≡ b
          → HasRule s (calls_if b frame next operands rest func (take (length ty.params) operands))
      by true e = calls_fine s frame next labels given below ty func operands rest (take (length ty.params) operands)
          (Some func) around (found.1 ∙ ap Some (sym (signature_same ty found.0 e))) q args code
      by false e = tt

  indirect_fine : (ty : FuncType) (below : List ValType) (table : Table) (limits : Limits) → IsTable n limits table
      → AreValues n (I32 ∷ (reverse ty.params ++ below)) frame.values → IsNext (reverse ty.results ++ below)
      → HasRule s (takes frame (ty.params ++ I32 ∷ [])
      (λ operands rest.
      calls_entry (code_of s.m) ty frame next table operands rest
      (slice_get table.entries (bits_at operands (length ty.params)))))
  indirect_fine ty below table limits good p code =
      takes_fine s frame (ty.params ++ I32 ∷ []) below
      (λ operands rest.
      calls_entry (code_of s.m) ty frame next table operands rest
      (slice_get table.entries (bits_at operands (length ty.params))))
      (subst (λ ts. AreValues n (ts ++ below) frame.values) (sym (reverse-append ty.params (I32 ∷ []))) p)
      (λ operands rest of_operands of_rest.
      entry_fine ty table below operands rest (slice_get table.entries (bits_at operands (length ty.params)))
      (λ func e. all_at (λ entry. IfSome entry (λ f. f < n)) table.entries (bits_at operands (length ty.params))
      (Some func) good.entries e) of_operands of_rest code)

  -- ---- numbers

  computed_fine : (ty : ValType) (below : List ValType) (operands rest : List Val) (value : NumericValue)
      → IsNumber n ty value → AreValues n below rest → IsNext (ty ∷ below)
      → HasRule s (numeric_result store frame next ty operands rest value)
  computed_fine ty below operands rest (Computed bits) p q code =
      give (ty ∷ []) below operands rest (record { ty = ty; bits = bits } ∷ [])
      (record { typed = refl; in_range = p }, tt) q code
  computed_fine ty below operands rest (Undefined kind) p q code = tt
  computed_fine ty below operands rest Unsupported p q code = absurd p

  -- ---- any instruction that opens no block

  abbrev Fine : Instr → Type 0
  Fine i = (before middle : List ValType) → AreValues n before frame.values
      → Leads (context s labels) (instr_type (context s labels) i) before middle
      → refused_feature i ≡ None → IsNext middle → HasRule s (execute_plain (code_of s.m) store frame next i)

  br_if_fine : (l : ℕ) → Fine (BrIf l)
  br_if_fine l before middle p leads supported code =
      let e = mapped_leads (context s labels) before middle (λ label. Moves (I32 ∷ label) label)
      (slice_get (labels ++ reverse s.ty.results ∷ []) l) leads in
      let r = ready s labels given (I32 ∷ e.0) e.0 before middle frame.values next (base_of frame.labels) e.2 p code in
      takes_fine s frame (I32 ∷ []) (e.0 ++ r.below)
      (λ operands rest.
      choice (bits_at operands 0) (branch store frame operands rest l)
      (gives store frame next operands rest [])) r.had
      (λ operands rest of_operands of_rest.
      chosen_fine s (bits_at operands 0) (branch store frame operands rest l)
      (gives store frame next operands rest [])
      (branches l operands rest e.0 r.below e.1 of_rest) (give [] (e.0 ++ r.below) operands rest [] tt of_rest r.code))

  br_table_fine : (ls : List ℕ) (l : ℕ) → Fine (BrTable ls l)
  br_table_fine ls l before middle p leads supported code =
      let had = subst (λ ts. AreValues n ts frame.values) leads.stands.had p in
      takes_fine s frame (I32 ∷ []) (leads.label ++ leads.stands.below)
      (λ operands rest. branch store frame operands rest (slice_index_or ls (bits_at operands 0) l)) had
      (λ operands rest of_operands of_rest.
      branches (slice_index_or ls (bits_at operands 0) l) operands rest leads.label leads.stands.below
      (all_or (λ k. slice_get (labels ++ reverse s.ty.results ∷ []) k ≡ Some leads.label) ls (bits_at operands 0) l
      leads.each) of_rest)

  call_fine : (func : ℕ) → Fine (Call func)
  call_fine func before middle p leads supported code =
      let e = mapped_leads (context s labels) before middle call_of (func_at (context s labels) func) leads in
      let ty = e.0 in
      let r = ready s labels given (reverse ty.params) (reverse ty.results) before middle frame.values next
      (base_of frame.labels) e.2 p code in
      on_fine s (signature (code_of s.m) func) ty
      (λ it. takes frame it.params (λ operands rest. calls frame next operands rest None func operands)) e.1
      (takes_fine s frame ty.params r.below (λ operands rest. calls frame next operands rest None func operands) r.had
      (λ operands rest of_operands of_rest.
      calls_fine s frame next labels given r.below ty func operands rest operands None around e.1 of_rest
      of_operands r.code))

  call_indirect_fine : (t : ℕ) → Fine (CallIndirect t)
  call_indirect_fine t before middle p leads supported code =
      let c = cond_leads (context s labels) before middle (has_table (context s labels) 0)
      (option_map indirect_of (slice_get s.m.types t)) leads in
      let e = mapped_leads (context s labels) before middle indirect_of (slice_get s.m.types t) c.1 in
      let ty = e.0 in
      let r = ready s labels given (I32 ∷ reverse ty.params) (reverse ty.results) before middle frame.values next
      (base_of frame.labels) e.2 p code in
      let there = table_there n (all_tables s.m) store.table c.0 is_store.table in
      on_fine s (slice_get s.m.types t) ty
      (λ it. on store.table
      (λ table. takes frame (it.params ++ I32 ∷ [])
      (λ operands rest.
      calls_entry (code_of s.m) it frame next table operands rest
      (slice_get table.entries (bits_at operands (length it.params)))))) e.1
      (on_fine s store.table there.table
      (λ table. takes frame (ty.params ++ I32 ∷ [])
      (λ operands rest.
      calls_entry (code_of s.m) ty frame next table operands rest
      (slice_get table.entries (bits_at operands (length ty.params))))) there.is
      (indirect_fine ty r.below there.table there.own there.good r.had r.code))

  drop_fine : Fine Drop
  drop_fine before middle p leads supported code =
      let had = subst (λ ts. AreValues n ts frame.values) leads.had p in
      let top = value_at n (leads.ty ∷ middle) frame.values 0 leads.ty had refl in
      on_fine s (type_of_top frame 0) top.0.ty
      (λ ty. takes frame (ty ∷ []) (λ operands rest. gives store frame next operands rest []))
      (ap (option_map (λ (v : Val). v.ty)) top.1)
      (takes_fine s frame (top.0.ty ∷ []) middle (λ operands rest. gives store frame next operands rest [])
      (subst (λ t. AreValues n (t ∷ middle) frame.values) (sym top.2.typed) had)
      (λ operands rest of_operands of_rest. give [] middle operands rest [] tt of_rest code))

  select_fine : Fine Select
  select_fine before middle p leads supported code =
      let had = subst (λ ts. AreValues n ts frame.values) leads.had p in
      let code' = subst (λ ts. IsCode s labels next (base_of frame.labels) ts given) leads.left code in
      let top = value_at n (I32 ∷ leads.ty ∷ leads.ty ∷ leads.below) frame.values 1 leads.ty had refl in
      let go = λ (ty : ValType).
      takes frame (ty ∷ ty ∷ I32 ∷ [])
      (λ operands rest.
      gives store frame next operands rest
      (record { ty = ty; bits = choice (bits_at operands 2) (bits_at operands 0) (bits_at operands 1) } ∷ [])) in
      on_fine s (type_of_top frame 1) top.0.ty go (ap (option_map (λ (v : Val). v.ty)) top.1)
      (subst (λ ty. HasRule s (go ty)) (sym top.2.typed)
      (takes_fine s frame (leads.ty ∷ leads.ty ∷ I32 ∷ []) leads.below
      (λ operands rest.
      gives store frame next operands rest
      (record { ty = leads.ty; bits = choice (bits_at operands 2) (bits_at operands 0) (bits_at operands 1) }
      ∷ [])) had
      (λ operands rest of_operands of_rest.
      give (leads.ty ∷ []) leads.below operands rest
      (record { ty = leads.ty; bits = choice (bits_at operands 2) (bits_at operands 0) (bits_at operands 1) }
      ∷ [])
      (three operands of_operands, tt) of_rest code')))
    where
      three : (operands : List Val) → AreValues n (leads.ty ∷ leads.ty ∷ I32 ∷ []) operands
          → IsValue n leads.ty
          (record { ty = leads.ty; bits = choice (bits_at operands 2) (bits_at operands 0) (bits_at operands 1) })
      three [] h = absurd h
      three (a ∷ []) h = absurd h.1
      three (a ∷ b ∷ vs) h =
          record {
            typed = refl;
            in_range =
                chosen_value n leads.ty (bits_at (a ∷ b ∷ vs) 2) a.bits b.bits h.0.in_range h.1.0.in_range;
          }

  local_get_fine : (x : ℕ) → Fine (LocalGet x)
  local_get_fine x before middle p leads supported code =
      let e = mapped_leads (context s labels) before middle (λ t. Moves [] (t ∷ []))
      (slice_get (s.ty.params ++ s.body.locals) x) leads in
      let r = ready s labels given [] (e.0 ∷ []) before middle frame.values next (base_of frame.labels) e.2 p code in
      let v = value_at n (s.ty.params ++ s.body.locals) frame.locals x e.0 around.locals e.1 in
      on_fine s (slice_get frame.locals x) v.0 (λ value. gives store frame next [] frame.values (value ∷ [])) v.1
      (give (e.0 ∷ []) r.below [] frame.values (v.0 ∷ []) (v.2, tt) r.had r.code)

  local_set_fine : (x : ℕ) → Fine (LocalSet x)
  local_set_fine x before middle p leads supported code =
      let e = mapped_leads (context s labels) before middle (λ t. Moves (t ∷ []) [])
      (slice_get (s.ty.params ++ s.body.locals) x) leads in
      let r = ready s labels given (e.0 ∷ []) [] before middle frame.values next (base_of frame.labels) e.2 p code in
      let v = value_at n (s.ty.params ++ s.body.locals) frame.locals x e.0 around.locals e.1 in
      let go = λ (old : Val) (operands rest : List Val).
      gives store (record frame { locals = slice_set frame.locals x (slice_index_or operands 0 old) }) next
      operands rest [] in
      on_fine s (slice_get frame.locals x) v.0 (λ old. takes frame (old.ty ∷ []) (go old)) v.1
      (takes_fine s frame (v.0.ty ∷ []) r.below (go v.0)
      (subst (λ t. AreValues n (t ∷ r.below) frame.values) (sym v.2.typed) r.had)
      (λ operands rest of_operands of_rest.
      let value = one_operand n e.0 operands v.0 (subst (λ t. AreValues n (t ∷ []) operands) v.2.typed of_operands) in
      gives_fine s store (record frame { locals = slice_set frame.locals x (slice_index_or operands 0 v.0) }) next
      labels given [] r.below operands rest [] None is_store
      (around_local x e.0 (slice_index_or operands 0 v.0) e.1 value) tt of_rest r.code))

  local_tee_fine : (x : ℕ) → Fine (LocalTee x)
  local_tee_fine x before middle p leads supported code =
      let e = mapped_leads (context s labels) before middle (λ t. Moves (t ∷ []) (t ∷ []))
      (slice_get (s.ty.params ++ s.body.locals) x) leads in
      let r = ready s labels given (e.0 ∷ []) (e.0 ∷ []) before middle frame.values next (base_of frame.labels) e.2 p
      code in
      let v = value_at n (s.ty.params ++ s.body.locals) frame.locals x e.0 around.locals e.1 in
      let go = λ (old : Val) (operands rest : List Val).
      gives store (record frame { locals = slice_set frame.locals x (slice_index_or operands 0 old) }) next
      operands rest operands in
      on_fine s (slice_get frame.locals x) v.0 (λ old. takes frame (old.ty ∷ []) (go old)) v.1
      (takes_fine s frame (v.0.ty ∷ []) r.below (go v.0)
      (subst (λ t. AreValues n (t ∷ r.below) frame.values) (sym v.2.typed) r.had)
      (λ operands rest of_operands of_rest.
      let own = subst (λ t. AreValues n (t ∷ []) operands) v.2.typed of_operands in
      let value = one_operand n e.0 operands v.0 own in
      gives_fine s store (record frame { locals = slice_set frame.locals x (slice_index_or operands 0 v.0) }) next
      labels given (e.0 ∷ []) r.below operands rest operands None is_store
      (around_local x e.0 (slice_index_or operands 0 v.0) e.1 value) own of_rest r.code))

  global_get_fine : (x : ℕ) → Fine (GlobalGet x)
  global_get_fine x before middle p leads supported code =
      let e = mapped_leads (context s labels) before middle (λ g. Moves [] (g.ty ∷ []))
      (slice_get (all_globals s.m) x) leads in
      let r = ready s labels given [] (e.0.ty ∷ []) before middle frame.values next (base_of frame.labels) e.2 p code in
      let v = value_at n (global_types s.m) store.globals x e.0.ty is_store.globals
      (slice_get-map (λ g. g.ty) (all_globals s.m) x ∙ ap (option_map (λ g. g.ty)) e.1) in
      on_fine s (slice_get store.globals x) v.0 (λ value. gives store frame next [] frame.values (value ∷ [])) v.1
      (give (e.0.ty ∷ []) r.below [] frame.values (v.0 ∷ []) (v.2, tt) r.had r.code)

  global_set_fine : (x : ℕ) → Fine (GlobalSet x)
  global_set_fine x before middle p leads supported code =
      let e = then_leads (context s labels) before middle set_of (slice_get (all_globals s.m) x) leads in
      let c = cond_leads (context s labels) before middle e.0.mutable (Some (Moves (e.0.ty ∷ []) [])) e.2 in
      let r = ready s labels given (e.0.ty ∷ []) [] before middle frame.values next (base_of frame.labels) c.1 p code in
      let there = slice_get-map (λ g. g.ty) (all_globals s.m) x ∙ ap (option_map (λ g. g.ty)) e.1 in
      let v = value_at n (global_types s.m) store.globals x e.0.ty is_store.globals there in
      let go = λ (old : Val) (operands rest : List Val).
      gives (with_global store x (slice_index_or operands 0 old)) frame next operands rest [] in
      on_fine s (slice_get store.globals x) v.0 (λ old. takes frame (old.ty ∷ []) (go old)) v.1
      (takes_fine s frame (v.0.ty ∷ []) r.below (go v.0)
      (subst (λ t. AreValues n (t ∷ r.below) frame.values) (sym v.2.typed) r.had)
      (λ operands rest of_operands of_rest.
      let value = one_operand n e.0.ty operands v.0
      (subst (λ t. AreValues n (t ∷ []) operands) v.2.typed of_operands) in
      let changed : IsStore s.m (with_global store x (slice_index_or operands 0 v.0)) =
      record {
        memory = is_store.memory;
        table = is_store.table;
        globals =
            set_value n (global_types s.m) store.globals x e.0.ty (slice_index_or operands 0 v.0) is_store.globals there
            value;
      } in
      gives_fine s (with_global store x (slice_index_or operands 0 v.0)) frame next labels given [] r.below operands
      rest [] None changed around tt of_rest r.code))

  const_fine : (value : Val) → Fine (Const value)
  const_fine value before middle p leads supported code =
      let c = cond_leads (context s labels) before middle (is_constant value) (Some (Moves [] (value.ty ∷ []))) leads in
      let r = ready s labels given [] (value.ty ∷ []) before middle frame.values next (base_of frame.labels) c.1 p
      code in
      give (value.ty ∷ []) r.below [] frame.values (value ∷ []) (constant_value n value c.0, tt) r.had r.code

  numeric_fine : (op : ℕ) → Fine (Numeric op)
  numeric_fine op before middle p leads supported code =
      let e = mapped_leads (context s labels) before middle (λ shape. Moves shape.operands (shape.result ∷ []))
      (numeric_shape op) leads in
      let r = ready s labels given e.0.operands (e.0.result ∷ []) before middle frame.values next
      (base_of frame.labels) e.2 p code in
      let go = λ (shape : Shape) (operands rest : List Val).
      numeric_result store frame next shape.result operands rest (numeric_value op operands) in
      on_fine s (numeric_shape op) e.0 (λ shape. takes frame shape.operands (go shape)) e.1
      (takes_fine s frame e.0.operands r.below (go e.0)
      (subst (λ ts. AreValues n (ts ++ r.below) frame.values) (sym (operands_reversed op e.0 e.1 supported))
      r.had)
      (λ operands rest of_operands of_rest. computed_fine e.0.result r.below operands rest (numeric_value op operands)
      (number_fine laws n op e.0 e.1 supported operands of_operands) of_rest r.code))

  null_fine : Fine RefNull
  null_fine before middle p leads supported code =
      let r = ready s labels given [] (FuncRef ∷ []) before middle frame.values next (base_of frame.labels) leads p
      code in
      give (FuncRef ∷ []) r.below [] frame.values (reference 0 ∷ [])
      (record { typed = refl; in_range = omega arith }, tt) r.had r.code

  reference_fine : (func : ℕ) → Fine (RefFunc func)
  reference_fine func before middle p leads supported code =
      let c = cond_leads (context s labels) before middle (is_declared (context s labels) func)
      (Some (Moves [] (FuncRef ∷ []))) leads in
      let r = ready s labels given [] (FuncRef ∷ []) before middle frame.values next (base_of frame.labels) c.1 p
      code in
      let tests = and_parts (nat_lt func n) (list_any (nat_eq func) (declared_funcs s.m)) c.0 in
      let there : func < n = ltb-true func n tests.0 in
      give (FuncRef ∷ []) r.below [] frame.values (reference (suc func) ∷ [])
      (record { typed = refl; in_range = omega arith }, tt) r.had r.code

  pub plain_fine : (i : Instr) → Fine i
  plain_fine Unreachable before middle p leads supported code = tt
  plain_fine Nop before middle p leads supported code =
      let r = ready s labels given [] [] before middle frame.values next (base_of frame.labels) leads p code in
      give [] r.below [] frame.values [] tt r.had r.code
  plain_fine (Br l) before middle p leads supported code =
      let e = mapped_leads (context s labels) before middle Leaves (slice_get (labels ++ reverse s.ty.results ∷ []) l)
      leads in
      branches l [] frame.values e.0 e.2.below e.1 (subst (λ ts. AreValues n ts frame.values) e.2.had p)
  plain_fine (BrIf l) before middle p leads supported code = br_if_fine l before middle p leads supported code
  plain_fine (BrTable ls l) before middle p leads supported code =
      br_table_fine ls l before middle p leads supported code
  plain_fine Return before middle p leads supported code =
      caller_fine s [] frame.values frame.arity leads.below around.arity
      (subst (λ ts. AreValues n ts frame.values) leads.had p)
  plain_fine (Call func) before middle p leads supported code = call_fine func before middle p leads supported code
  plain_fine (CallIndirect t) before middle p leads supported code =
      call_indirect_fine t before middle p leads supported code
  plain_fine Drop before middle p leads supported code = drop_fine before middle p leads supported code
  plain_fine Select before middle p leads supported code = select_fine before middle p leads supported code
  plain_fine (LocalGet x) before middle p leads supported code = local_get_fine x before middle p leads supported code
  plain_fine (LocalSet x) before middle p leads supported code = local_set_fine x before middle p leads supported code
  plain_fine (LocalTee x) before middle p leads supported code = local_tee_fine x before middle p leads supported code
  plain_fine (GlobalGet x) before middle p leads supported code = global_get_fine x before middle p leads supported code
  plain_fine (GlobalSet x) before middle p leads supported code = global_set_fine x before middle p leads supported code
  plain_fine (Load at) before middle p leads supported code =
      load_fine s store is_store frame labels given around next at before middle p leads supported code
  plain_fine (StoreTo at) before middle p leads supported code =
      store_fine s store is_store frame labels given around next at before middle p leads supported code
  plain_fine MemorySize before middle p leads supported code =
      size_fine s store is_store frame labels given around next before middle p leads supported code
  plain_fine MemoryGrow before middle p leads supported code =
      grow_fine s store is_store frame labels given around next before middle p leads supported code
  plain_fine MemoryCopy before middle p leads supported code =
      copy_fine s store is_store frame labels given around next before middle p leads supported code
  plain_fine MemoryFill before middle p leads supported code =
      fill_fine s store is_store frame labels given around next before middle p leads supported code
  plain_fine (Const value) before middle p leads supported code = const_fine value before middle p leads supported code
  plain_fine (Numeric op) before middle p leads supported code = numeric_fine op before middle p leads supported code
  plain_fine RefNull before middle p leads supported code = null_fine before middle p leads supported code
  plain_fine (RefFunc func) before middle p leads supported code =
      reference_fine func before middle p leads supported code
  plain_fine (TableSet t) before middle p leads supported code =
      table_set_fine s one store is_store frame labels given around next t before middle p leads supported code
  plain_fine (TableGrow t) before middle p leads supported code =
      table_grow_fine s one store is_store frame labels given around next t before middle p leads supported code
  plain_fine (TableSize t) before middle p leads supported code =
      table_size_fine s one store is_store frame labels given around next t before middle p leads supported code
  plain_fine i before middle p leads supported code = absurd leads
