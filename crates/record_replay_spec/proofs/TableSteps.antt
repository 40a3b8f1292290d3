-- Instructions on the table: calls by it, and changes of it.
use Rattle.std.proofs.Common.{◌≡◌, ℕ, zero, suc, ◌+◌, ◌-◌, ◌<◌, ◌≤◌, List, [], ◌∷◌, ◌++◌, length, take, Option, Some, None, Bool, true, false, cond, nat_lt, slice_get, slice_set, refl, sym, ap, ◌∙◌, subst, arith, length-append}
use Rattle.std.proofs.Math.Seq.{take-append_seam}
use Rattle.std.proofs.lemmas.List.{take-map}
use Rattle.std.specs.Prelude.{IfSome, unwrap_or}
use Rattle.std.proofs.lemmas.Option.{slice_get_past, slice_get_within}
use Rattle.base.proofs.Lists.{item_there}
use Rattle.std.specs.Option.{option_flatten}
use Rattle.record_replay_spec.specs.Known.{entry_of}
use Rattle.std.proofs.lemmas.Bool.Decides.{nat_tests}
use Rattle.wasm_syntax.specs.declared.values.Val.{Val}
use Rattle.wasm_syntax.specs.declared.values.ValType.TheVariants.{I32, FuncRef}
use Rattle.wasm_syntax.specs.declared.signatures.FuncType.{FuncType}
use Rattle.wasm_syntax.specs.declared.instructions.Instr.{Instr}
use Rattle.wasm_syntax.specs.declared.instructions.Instr.TheVariants.{CallIndirect, TableSet, TableGrow, TableSize}
use Rattle.wasm_syntax.specs.Alike.{same_signature}
use Rattle.wasm_syntax.proofs.ValTypes.{signature_same}
use Rattle.history_spec.specs.declared.entries.TrapKind.TheVariants.{Table as ByTable}
use Rattle.history_spec.specs.Store.{Store, Table, grown_table_if, grown_table, with_entry, with_table}
use Rattle.history_spec.specs.Code.{Code, signature}
use Rattle.history_spec.specs.Configuration.{Place, Frame}
use Rattle.history_spec.specs.Instruction.{Execution, Traps, on, calls_if, calls_entry, referent, table_result, table_grow_result, execute_plain}
use Rattle.record_replay_spec.specs.Observations.{Observation, ReachesEntry, ReadsEntry, WritesEntry, ResizesTable, on as observed_on, bits_from_top, plain_observations, entry_observations, set_observations, table_size_observations, table_grow_observations}
use Rattle.record_replay_spec.specs.StoreAnswers.{BothOrNeither, AllowSameEntries, allows_entries, IsReachedAlike, Answers, AnswersAll}
use Rattle.record_replay_spec.specs.Changes.{with_table_entry, IsChangedAs}
use Rattle.record_replay_spec.specs.Executions.{Shares}
use Rattle.record_replay_spec.proofs.Operands.{AreOperands, bits_same}
use Rattle.record_replay_spec.proofs.AlikeStores.{Alike, on_alike, parts_alike, takes_alike, goes_alike, calls_alike, same_activation}
use Rattle.record_replay_spec.proofs.Tables.{not_there, written_table, same_entries, grown_entries}

module _ (code other_code : Code) (store other : Store) (frame : Frame) (next : Place) where
  abbrev Same : List Observation → Execution → Execution → Type 0
  Same seen first second = Alike code store other frame seen first second

  -- the executions of changes, growths and calls, in a store with its table
  abbrev wrote : Store → Table → (operands rest : List Val) → Option (List (Option ℕ)) → Execution
  wrote s table operands rest entries = table_result s frame next table operands rest entries

  abbrev grew : Store → Table → (operands rest : List Val) → Option Table → Execution
  grew s table operands rest larger = table_grow_result s frame next table operands rest larger

  abbrev called : Code → FuncType → Table → (operands rest : List Val) → Option (Option ℕ) → Execution
  called c ty table operands rest entry = calls_entry c ty frame next table operands rest entry

  -- ---- two tables

  module _ (table table' : Table) (is : store.table ≡ Some table) (is' : other.table ≡ Some table') where
    -- an index is within both tables or within neither
    reached : (index : ℕ) → Answers other (ReachesEntry index (length table.entries))
        → IsReachedAlike (nat_lt index (length table'.entries)) (nat_lt index (length table.entries))
        (length table'.entries) (length table.entries)
    reached index answer =
        subst
        (λ o. IfSome o (λ t. IsReachedAlike (nat_lt index (length t.entries)) (nat_lt index (length table.entries))
        (length t.entries) (length table.entries)))
        is' answer

    found_size : (left : ℕ) (func : Option ℕ) → AnswersAll other (ResizesTable (length table.entries) left func ∷ [])
        → length table'.entries ≡ length table.entries
    found_size left func answers = subst (λ o. IfSome o (λ t. length t.entries ≡ length table.entries)) is' answers.0

    trapped : (seen : List Observation) (operands : List Val) → length table'.entries ≡ length table.entries
        → Same seen (Traps ByTable operands (Some (length table.entries)))
        (Traps ByTable operands (Some (length table'.entries)))
    trapped seen operands e = ap (λ n. Traps ByTable operands (Some n)) e

    -- ---- changes

    set_at : (operands rest : List Val) (index : ℕ) (func : Option ℕ)
        → AnswersAll other (set_observations index func table)
        → Same (set_observations index func table)
        (wrote store table operands rest (with_entry table.entries index func))
        (wrote other table' operands rest (with_entry table'.entries index func))
    set_at operands rest index func answers =
        let reach = reached index answers.0 in
        go (nat_lt index (length table.entries)) refl (nat_lt index (length table'.entries)) refl reach.alike reach.same
      where
        here : Table → Bool → Option (List (Option ℕ))
        here t b = cond b (Some (slice_set t.entries index func)) None

        seen : Bool → List Observation
        seen b =
            ReachesEntry index (length table.entries)
            ∷ observed_on (here table b) (λ all. WritesEntry index func ∷ [])

        after : (s : Store) (t : Table) → s.table ≡ Some t → nat_lt index (length t.entries) ≡ true
            → IsChangedAs s (seen true) (with_table s (with_table_entry index func t))
        after s t is within =
            let c = written_table s t is index func within in
            record { possible = (tt, c.possible); changed = c.changed }

        go : (b : Bool) → nat_lt index (length table.entries) ≡ b
            → (b' : Bool) → nat_lt index (length table'.entries) ≡ b'
            → b' ≡ b → (b ≡ false → length table'.entries ≡ length table.entries)
            → Same (seen b) (wrote store table operands rest (here table b))
            (wrote other table' operands rest (here table' b'))
        go true e true e' alike size =
            goes_alike code store other frame (seen true) operands [] None _ _ _ (after store table is e)
            (after other table' is' e') (same_activation frame next _)
        go false e false e' alike size = trapped (seen false) operands (size refl)
        go true e false e' alike size = cc
        go false e true e' alike size = cc

    -- the size is found; a table may grow if and only if the other may
    grow_at : AllowSameEntries table table' → (operands rest : List Val) (by : ℕ) (func : Option ℕ)
        → length table'.entries ≡ length table.entries
        → Same (table_grow_observations by func table) (grew store table operands rest (grown_table table by func))
        (grew other table' operands rest (grown_table table' by func))
    grow_at grow operands rest by func size =
        go (allows_entries table (length table.entries + by)) (allows_entries table' (length table'.entries + by))
        (ap (λ n. allows_entries table' (n + by)) size ∙ grow (length table.entries + by))
      where
        seen : Bool → List Observation
        seen b =
            ResizesTable (length table.entries) (length (unwrap_or (grown_table_if b table by func) table).entries) func
            ∷ []

        go : (b b' : Bool) → b' ≡ b
            → Same (seen b) (grew store table operands rest (grown_table_if b table by func))
            (grew other table' operands rest (grown_table_if b' table' by func))
        go true true e =
            rw size
            (goes_alike code store other frame (seen true) operands _ _ _ _ _
            (grown_entries store table is table by func) (grown_entries other table' is' table by func)
            (same_activation frame next _))
        go false false e =
            goes_alike code store other frame (seen false) operands _ _ _ _ _
            (same_entries (length table.entries) func store) (same_entries (length table.entries) func other)
            (same_activation frame next _)
        go true false e = cc
        go false true e = cc

    -- ---- calls

    module _ (shares : Shares code other_code) (ty : FuncType) (operands rest : List Val)
        (are : AreOperands (ty.params ++ I32 ∷ []) frame.values operands) where
      -- a call, by whether the function has the wanted type
      call_alike : (seen : List Observation) → IsChangedAs store seen store → IsChangedAs other seen other
          → (func : ℕ) (found : FuncType) → signature code func ≡ Some found
          → (b : Bool) → same_signature ty found ≡ b
          → Same seen (calls_if b frame next operands rest func (take (length ty.params) operands))
          (calls_if b frame next operands rest func (take (length ty.params) operands))
      call_alike seen c c' func found has true same =
          let count : ℕ = length ty.params in
          let number : length operands ≡ count + 1 = are.number ∙ length-append ty.params (I32 ∷ []) in
          let fewer : count ≡ length operands - 1 = omega (arith, number) in
          calls_alike code store other frame seen operands (Some func) _ func _ c c' (same_activation frame next rest)
          (record {
            given = ap (λ n. take n operands) fewer;
            arguments = record {
              ty = found;
              has_type = has;
              types =
                  sym (take-map (λ (value : Val). value.ty) count operands) ∙ ap (take count) are.typed
                  ∙ take-append_seam ty.params (I32 ∷ [])
                  ∙ ap (λ (t : FuncType). t.params) (signature_same ty found same);
            };
          })
      call_alike seen c c' func found has false same = refl

      entry_at : (index : ℕ) → AnswersAll other (entry_observations index table)
          → Same (entry_observations index table) (called code ty table operands rest (slice_get table.entries index))
          (called other_code ty table' operands rest (slice_get table'.entries index))
      entry_at index answers = go (slice_get table.entries index) refl answers.1
        where
          seen : Option (Option ℕ) → List Observation
          seen o = ReachesEntry index (length table.entries) ∷ observed_on o (λ func. ReadsEntry index func ∷ [])

          read : (s : Store) (func : Option ℕ) → IsChangedAs s (seen (Some func)) s
          read s func = record { possible = (tt, (tt, tt)); changed = refl }

          of_entry : (func : Option ℕ)
              → Same (seen (Some func)) (called code ty table operands rest (Some func))
              (called other_code ty table' operands rest (Some func))
          of_entry None = refl
          of_entry (Some func) =
              on_alike code store other frame (seen (Some (Some func))) (signature code func)
              (signature other_code func) _ _ (shares.signatures func) (λ found has.
              call_alike (seen (Some (Some func))) (read store (Some func)) (read other (Some func)) func found has
              (same_signature ty found) refl)

          -- the entry of another table at this index, if it has as many entries
          found_entry : (func : Option ℕ) → index < length table.entries
              → nat_lt index (length table'.entries) ≡ nat_lt index (length table.entries)
              → entry_of other.table index ≡ func → slice_get table'.entries index ≡ Some func
          found_entry func below alike holds =
              let within : nat_lt index (length table.entries) ≡ true = grind (arith, nat_tests, below) in
              let inside : index < length table'.entries =
              let inside = alike ∙ within in grind (arith, nat_tests, inside) in
              let there = item_there table'.entries index inside in
              there.1 ∙ ap Some (sym (ap option_flatten there.1) ∙ sym (ap (λ o. entry_of o index) is') ∙ holds)

          go : (o : Option (Option ℕ)) → slice_get table.entries index ≡ o
              → AnswersAll other (observed_on o (λ func. ReadsEntry index func ∷ []))
              → Same (seen o) (called code ty table operands rest o)
              (called other_code ty table' operands rest (slice_get table'.entries index))
          go None e answered =
              let reach = reached index answers.0 in
              let short : nat_lt index (length table.entries) ≡ false = not_there table.entries index e in
              let past : length table'.entries ≤ index =
              let past = reach.alike ∙ short in grind (arith, nat_tests, past) in
              rw (slice_get_past table'.entries index past) (trapped (seen None) operands (reach.same short))
          go (Some func) e answered =
              let reach = reached index answers.0 in
              rw (found_entry func (slice_get_within table.entries index func e) reach.alike answered.0) (of_entry func)

  -- ---- instructions

  module _ (kind : BothOrNeither AllowSameEntries store.table other.table) where
    -- tables that both stores have or neither has
    tables_alike : (observe : Table → List Observation) (go go' : Table → Execution)
        → ((table table' : Table) → store.table ≡ Some table → other.table ≡ Some table' → AllowSameEntries table table'
        → AnswersAll other (observe table) → Same (observe table) (go table) (go' table'))
        → AnswersAll other (observed_on store.table observe)
        → Same (observed_on store.table observe) (on store.table go) (on other.table go')
    tables_alike observe go go' each =
        parts_alike code store other frame AllowSameEntries store.table other.table observe go go' kind each

    -- an instruction does the same if the other store answers what it observes
    abbrev IsAlike : Instr → Type 0
    IsAlike i =
        AnswersAll other (plain_observations store frame.values i)
        → Same (plain_observations store frame.values i) (execute_plain code store frame next i)
        (execute_plain other_code other frame next i)

    pub call_indirect_alike : Shares code other_code → (t : ℕ) → IsAlike (CallIndirect t)
    call_indirect_alike shares t answers =
        on_alike code store other frame _ (slice_get code.types t) (slice_get other_code.types t) _ _ (shares.types t)
        (λ ty has.
        tables_alike _ _ _ (λ table table' is is' grow answers.
        takes_alike code store other frame _ (ty.params ++ I32 ∷ []) _ _ (λ operands rest are.
        let long : length (ty.params ++ I32 ∷ []) ≡ length ty.params + 1 = length-append ty.params (I32 ∷ []) in
        rw (bits_same are (length ty.params) 0 (omega (arith, long)))
        (entry_at table table' is is' shares ty operands rest are (bits_from_top frame.values 0) answers)))
        answers)

    pub set_alike : (t : ℕ) → IsAlike (TableSet t)
    set_alike (suc t) answers = tt
    set_alike zero answers =
        tables_alike _ _ _ (λ table table' is is' grow answers.
        takes_alike code store other frame _ (I32 ∷ FuncRef ∷ []) _ _ (λ operands rest are.
        let func = referent (bits_from_top frame.values 0) in
        rw (bits_same are 0 1 refl, bits_same are 1 0 refl)
        (set_at table table' is is' operands rest (bits_from_top frame.values 1) func answers)))
        answers

    pub table_size_alike : (t : ℕ) → IsAlike (TableSize t)
    table_size_alike (suc t) answers = tt
    table_size_alike zero answers =
        tables_alike _ _ _ (λ table table' is is' grow answers.
        rw (found_size table table' is is' (length table.entries) None answers)
        (goes_alike code store other frame (table_size_observations table) [] _ None _ _ _
        (same_entries (length table.entries) None store) (same_entries (length table.entries) None other)
        (same_activation frame next _)))
        answers

    pub table_grow_alike : (t : ℕ) → IsAlike (TableGrow t)
    table_grow_alike (suc t) answers = tt
    table_grow_alike zero answers =
        tables_alike _ _ _ (λ table table' is is' grow answers.
        takes_alike code store other frame _ (FuncRef ∷ I32 ∷ []) _ _ (λ operands rest are.
        let by = bits_from_top frame.values 0 in
        let func = referent (bits_from_top frame.values 1) in
        let left = length (unwrap_or (grown_table table by func) table).entries in
        rw (bits_same are 1 0 refl, bits_same are 0 1 refl)
        (grow_at table table' is is' grow operands rest by func
        (found_size table table' is is' left func answers))))
        answers
