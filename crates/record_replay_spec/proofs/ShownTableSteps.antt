-- What instructions on the table and on globals show of them.
use Rattle.std.proofs.Common.{◌≡◌, ℕ, zero, suc, ◌+◌, List, [], ◌∷◌, ◌++◌, length, take, Option, Some, None, Bool, true, false, cond, nat_lt, slice_get, slice_set, refl, sym, ap, ◌∙◌, subst, arith, length-append}
use Rattle.std.specs.Prelude.{◌≢◌, IfSome}
use Rattle.std.specs.Option.{option_flatten}
use Rattle.std.proofs.lemmas.Option.{slice_get_within}
use Rattle.std.proofs.lemmas.Bool.Decides.{nat_tests}
use Rattle.std.proofs.lemmas.Bool.{both_ways}
use Rattle.wasm_syntax.specs.declared.values.Val.{Val}
use Rattle.wasm_syntax.specs.declared.values.ValType.TheVariants.{I32, FuncRef}
use Rattle.wasm_syntax.specs.declared.signatures.FuncType.{FuncType}
use Rattle.wasm_syntax.specs.declared.instructions.Instr.{Instr}
use Rattle.wasm_syntax.specs.declared.instructions.Instr.TheVariants.{CallIndirect, GlobalGet, TableSet}
use Rattle.wasm_syntax.specs.Alike.{same_signature}
use Rattle.history_spec.specs.Store.{Store, Table, with_entry}
use Rattle.history_spec.specs.Code.{Code, signature}
use Rattle.history_spec.specs.Configuration.{Place, Frame}
use Rattle.history_spec.specs.Instruction.{Execution, on, gives, calls_if, calls_entry, referent, table_result, execute_plain}
use Rattle.record_replay_spec.specs.Observations.{ReachesEntry, ReadsEntry, WritesEntry, ReadsGlobal, on as observed_on, bits_from_top, plain_observations, entry_observations, set_observations}
use Rattle.record_replay_spec.specs.Known.{entry_of}
use Rattle.record_replay_spec.specs.StoreAnswers.{BothOrNeither, AllowSameEntries, IsReachedAlike, Answers, AnswersAll}
use Rattle.record_replay_spec.proofs.Operands.{bits_same}
use Rattle.record_replay_spec.specs.ShownStepLaws.{shown}
use Rattle.record_replay_spec.proofs.SameExecutions.{IsShown, both_shown, parts_shown, takes_shown}

module _ (code : Code) (store other : Store) (frame : Frame) (next : Place) where
  abbrev Shows : Instr → Type 0
  Shows i =
      IsShown other frame (plain_observations store frame.values i) (execute_plain code store frame next i)
      (execute_plain code other frame next i)

  module _ (table table' : Table) (is' : other.table ≡ Some table') where
    -- ---- indices

    answered : (index : ℕ)
        → IsReachedAlike (nat_lt index (length table'.entries)) (nat_lt index (length table.entries))
        (length table'.entries) (length table.entries) → Answers other (ReachesEntry index (length table.entries))
    answered index reach =
        subst
        (λ o. IfSome o (λ t. IsReachedAlike (nat_lt index (length t.entries)) (nat_lt index (length table.entries))
        (length t.entries) (length table.entries)))
        (sym is') reach

    same_size : length table'.entries ≡ length table.entries → (index : ℕ)
        → Answers other (ReachesEntry index (length table.entries))
    same_size size index = answered index (record { alike = ap (nat_lt index) size; same = λ e. size })

    within_both : (index : ℕ) → nat_lt index (length table.entries) ≡ true → nat_lt index (length table'.entries) ≡ true
        → Answers other (ReachesEntry index (length table.entries))
    within_both index e e' =
        answered index (record { alike = e' ∙ sym e; same = λ f. absurd (both_ways _ f e) })

    -- ---- changes

    set_at : (operands rest : List Val) (index : ℕ) (func : Option ℕ)
        → IsShown other frame (set_observations index func table)
        (table_result store frame next table operands rest (with_entry table.entries index func))
        (table_result other frame next table' operands rest (with_entry table'.entries index func))
    set_at operands rest index func =
        record {
          answers = λ some same unshown.
              go (nat_lt index (length table.entries)) refl (nat_lt index (length table'.entries)) refl same;
        }
      where
        here : Table → Bool → Option (List (Option ℕ))
        here t b = cond b (Some (slice_set t.entries index func)) None

        go : (b : Bool) → nat_lt index (length table.entries) ≡ b
            → (b' : Bool) → nat_lt index (length table'.entries) ≡ b'
            → shown frame (table_result other frame next table' operands rest (here table' b'))
            ≡ shown frame (table_result store frame next table operands rest (here table b))
            → AnswersAll other
            (ReachesEntry index (length table.entries)
            ∷ observed_on (here table b) (λ all. WritesEntry index func ∷ []))
        go true e true e' h = (within_both index e e', (tt, tt))
        go false e false e' h =
            let size : length table'.entries ≡ length table.entries = cc in (same_size size index, tt)
        go true e false e' h = cc
        go false e true e' h = cc

    -- ---- calls

    entry_at : (ty : FuncType) (operands rest : List Val) (index : ℕ)
        → IsShown other frame (entry_observations index table)
        (calls_entry code ty frame next table operands rest (slice_get table.entries index))
        (calls_entry code ty frame next table' operands rest (slice_get table'.entries index))
    entry_at ty operands rest index =
        record {
          answers = λ some same unshown.
              go (slice_get table.entries index) refl (slice_get table'.entries index) refl some same;
        }
      where
        called : Table → Option (Option ℕ) → Execution
        called t o = calls_entry code ty frame next t operands rest o

        called_if : (func : ℕ) (found : FuncType) → Execution
        called_if func found =
            calls_if (same_signature ty found) frame next operands rest func (take (length ty.params) operands)

        inside : (t : Table) (func : Option ℕ) → slice_get t.entries index ≡ Some func
            → nat_lt index (length t.entries) ≡ true
        inside t func e = let below = slice_get_within t.entries index func e in grind (arith, nat_tests, below)

        read : (func func' : Option ℕ) → slice_get table.entries index ≡ Some func
            → slice_get table'.entries index ≡ Some func' → func' ≡ func
            → AnswersAll other (ReachesEntry index (length table.entries) ∷ ReadsEntry index func ∷ [])
        read func func' e e' same_func = (
          within_both index (inside table func e) (inside table' func' e'),
          (ap (λ o. entry_of o index) is' ∙ ap option_flatten e' ∙ same_func, tt),
        )

        -- the function that is found is shown, or no rule applies
        found_if : (func func' : ℕ) (b b' : Bool)
            → shown frame (calls_if b' frame next operands rest func' (take (length ty.params) operands))
            ≡ shown frame (calls_if b frame next operands rest func (take (length ty.params) operands))
            → func' ≡ func
        found_if func func' true true h = cc
        found_if func func' false false h = cc
        found_if func func' true false h = cc
        found_if func func' false true h = cc

        found : (func func' : ℕ) (o o' : Option FuncType) → shown frame (on o (called_if func)) ≢ []
            → shown frame (on o' (called_if func')) ≡ shown frame (on o (called_if func)) → func' ≡ func
        found func func' None o' some h = absurd (some refl)
        found func func' (Some ty) None some h = absurd (some (sym h))
        found func func' (Some t) (Some t') some h =
            found_if func func' (same_signature ty t) (same_signature ty t') h

        not_empty : (func : ℕ) (o : Option FuncType) (t : Table)
            → shown frame (on o (called_if func)) ≡ shown frame (called t (Some None)) → ⊥
        not_empty func None t h = cc
        not_empty func (Some found) t h = by (same_signature ty found) h
          where
            by : (b : Bool)
                → shown frame (calls_if b frame next operands rest func (take (length ty.params) operands))
                ≡ shown frame (called t (Some None)) → ⊥
            by true h = cc
            by false h = cc

        not_past : (func : ℕ) (o : Option FuncType) (t : Table)
            → shown frame (on o (called_if func)) ≡ shown frame (called t None) → ⊥
        not_past func None t h = cc
        not_past func (Some found) t h = by (same_signature ty found) h
          where
            by : (b : Bool)
                → shown frame (calls_if b frame next operands rest func (take (length ty.params) operands))
                ≡ shown frame (called t None) → ⊥
            by true h = cc
            by false h = cc

        go : (o : Option (Option ℕ)) → slice_get table.entries index ≡ o
            → (o' : Option (Option ℕ)) → slice_get table'.entries index ≡ o'
            → shown frame (called table o) ≢ [] → shown frame (called table' o') ≡ shown frame (called table o)
            → AnswersAll other
            (ReachesEntry index (length table.entries) ∷ observed_on o (λ func. ReadsEntry index func ∷ []))
        go None e None e' some h =
            let size : length table'.entries ≡ length table.entries = cc in (same_size size index, tt)
        go None e (Some None) e' some h = cc
        go None e (Some (Some func')) e' some h = absurd (not_past func' (signature code func') table h)
        go (Some None) e None e' some h = cc
        go (Some None) e (Some None) e' some h = read None None e e' refl
        go (Some None) e (Some (Some func')) e' some h = absurd (not_empty func' (signature code func') table h)
        go (Some (Some func)) e None e' some h = absurd (not_past func (signature code func) table' (sym h))
        go (Some (Some func)) e (Some None) e' some h = absurd (not_empty func (signature code func) table' (sym h))
        go (Some (Some func)) e (Some (Some func')) e' some h =
            read (Some func) (Some func') e e'
            (ap Some (found func func' (signature code func) (signature code func') some h))

  -- ---- instructions

  module _ (kind : BothOrNeither AllowSameEntries store.table other.table) where
    pub call_indirect_shown : (t : ℕ) → Shows (CallIndirect t)
    call_indirect_shown t =
        both_shown other frame _ (slice_get code.types t) _ _ (λ ty has.
        parts_shown other frame AllowSameEntries store.table other.table _ _ _ kind (λ table table' is is'.
        takes_shown other frame _ (ty.params ++ I32 ∷ []) _ _ (λ operands rest are.
        let long : length (ty.params ++ I32 ∷ []) ≡ length ty.params + 1 = length-append ty.params (I32 ∷ []) in
        rw (bits_same are (length ty.params) 0 (omega (arith, long)))
        (entry_at table table' is' ty operands rest (bits_from_top frame.values 0)))))

    pub set_shown : (t : ℕ) → Shows (TableSet t)
    set_shown (suc t) = record { answers = λ some same unshown. absurd (some refl) }
    set_shown zero =
        parts_shown other frame AllowSameEntries store.table other.table _ _ _ kind (λ table table' is is'.
        takes_shown other frame _ (I32 ∷ FuncRef ∷ []) _ _ (λ operands rest are.
        rw (bits_same are 0 1 refl, bits_same are 1 0 refl)
        (set_at table table' is' operands rest (bits_from_top frame.values 1)
        (referent (bits_from_top frame.values 0)))))

  pub get_shown : (x : ℕ) → Shows (GlobalGet x)
  get_shown x = go (slice_get store.globals x) (slice_get other.globals x) refl
    where
      pushed : Store → Val → Execution
      pushed s value = gives s frame next [] frame.values (value ∷ [])

      one : (v w : Val) → shown frame (pushed other v) ≡ shown frame (pushed store w) → v ≡ w
      one v w h = cc

      go : (o o' : Option Val) → slice_get other.globals x ≡ o'
          → IsShown other frame (observed_on o (λ value. ReadsGlobal x value ∷ [])) (on o (pushed store))
          (on o' (pushed other))
      go None o' e = record { answers = λ some same unshown. tt }
      go (Some value) None e = record { answers = λ some same unshown. absurd (some (sym same)) }
      go (Some value) (Some value') e =
          record { answers = λ some same unshown. (e ∙ ap Some (one value' value same), tt) }
