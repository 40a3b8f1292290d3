-- What a well-typed store holds at each place is typed, and a store whose places are typed is well typed if its sizes are
-- between the declared ones and those of a well-typed store.
use Rattle.std.proofs.Common.{◌≡◌, ℕ, suc, ◌*◌, ◌<◌, ◌≤◌, List, [], ◌∷◌, length, Option, Some, None, slice_get, refl, sym, ap, ◌∙◌, subst, arith}
use Rattle.std.specs.Prelude.{IfSome, IsTrue, option_map, unwrap_or}
use Rattle.std.specs.Option.{option_flatten}
use Rattle.std.proofs.lemmas.Bool.Decides.{nat_tests}
use Rattle.std.proofs.lemmas.List.Elements.{All-from_get_or}
use Rattle.std.proofs.lemmas.Option.{same_Some, slice_get-get_or, unwrap_or-slice_get}
use Rattle.base.proofs.Lists.{all_at}
use Rattle.wasm_syntax.specs.declared.limits.TheConstants.{PAGE_SIZE}
use Rattle.wasm_syntax.specs.declared.values.Val.{Val}
use Rattle.wasm_syntax.specs.declared.values.ValType.{ValType}
use Rattle.wasm_syntax.specs.declared.signatures.Limits.{Limits}
use Rattle.wasm_syntax.specs.declared.modules.Module.{Module}
use Rattle.wasm_syntax.specs.Index.{all_tables, all_memories}
use Rattle.host_script.specs.Supply.{is_within}
use Rattle.history_spec.specs.Store.{Store, Memory, Table, pages}
use Rattle.history_spec.specs.Instantiation.{memory_length, table_length}
use Rattle.record_replay_spec.specs.Changes.{global_type}
use Rattle.record_replay_spec.specs.Known.{byte_of, entry_of, pages_of, opening_known}
use Rattle.type_safety.specs.Stores.{func_count, global_types, MayBeMemory, MayBeTable, IsStore}
use Rattle.type_safety.specs.Values.{IsValue, AreValues}
use Rattle.type_safety.proofs.Values.{value_at}
use Rattle.tape_laws.specs.KnownValues.{AreTypedKnown}
use Rattle.tape_laws.proofs.Held.{whole_pages}
use Rattle.tape_laws.proofs.Stores.{Maxima, maxima}

-- ---- what a well-typed store holds

pub byte_there : (limits : List Limits) (o : Option Memory) (at : ℕ) → MayBeMemory limits o → byte_of o at < 256
byte_there limits None at h = omega arith
byte_there [] (Some memory) at h = absurd h
byte_there (l ∷ limits) (Some memory) at h =
    subst (λ byte. byte < 256) (unwrap_or-slice_get memory.bytes at 0) (go (slice_get memory.bytes at) refl)
  where
    go : (o : Option ℕ) → slice_get memory.bytes at ≡ o → unwrap_or o 0 < 256
    go None e = omega arith
    go (Some byte) e = all_at (λ byte. byte < 256) memory.bytes at byte h.bytes e

-- an entry that holds a function holds one of the module
pub entry_there : (funcs : ℕ) (limits : List Limits) (o : Option Table) (index : ℕ) → MayBeTable funcs limits o
    → IfSome (entry_of o index) (λ callee. callee < funcs)
entry_there funcs limits None index h = tt
entry_there funcs [] (Some table) index h = absurd h
entry_there funcs (l ∷ limits) (Some table) index h = go (slice_get table.entries index) refl
  where
    go : (o : Option (Option ℕ)) → slice_get table.entries index ≡ o
        → IfSome (option_flatten o) (λ callee. callee < funcs)
    go None e = tt
    go (Some None) e = tt
    go (Some (Some callee)) e =
        all_at (λ entry. IfSome entry (λ func. func < funcs)) table.entries index (Some callee) h.entries e

least_pages : (all : List Limits) (o : Option Memory) (limits : Limits) → MayBeMemory all o
    → slice_get all 0 ≡ Some limits → limits.min ≤ pages_of o
least_pages [] o limits h e = cc
least_pages (l ∷ all) None limits h e = absurd h
least_pages (l ∷ all) (Some memory) limits h e =
    subst (λ (l : Limits). l.min ≤ pages_of (Some memory)) (same_Some l limits e) h.least

least_entries : (funcs : ℕ) (all : List Limits) (o : Option Table) (limits : Limits) → MayBeTable funcs all o
    → slice_get all 0 ≡ Some limits → limits.min ≤ table_length o
least_entries funcs [] o limits h e = cc
least_entries funcs (l ∷ all) None limits h e = absurd h
least_entries funcs (l ∷ all) (Some table) limits h e =
    subst (λ (l : Limits). l.min ≤ table_length (Some table)) (same_Some l limits e) h.least

-- what is known where a run begins in a well-typed store is typed
pub opening_typed : (m : Module) (store : Store) → IsStore m store → AreTypedKnown m (opening_known store)
opening_typed m store is =
    record {
      byte = λ at. byte_there (all_memories m) store.memory at is.memory;
      entry = λ at func e.
          subst (λ o. IfSome o (λ func. func < func_count m)) e
          (entry_there (func_count m) (all_tables m) store.table at is.table);
      global = λ at ty value there e.
          let v = value_at (func_count m) (global_types m) store.globals at ty is.globals there in
          subst (IsValue (func_count m) ty) (same_Some v.0 value (sym v.1 ∙ e)) v.2;
      pages = λ limits e. least_pages (all_memories m) store.memory limits is.memory e;
      entries = λ limits e. least_entries (func_count m) (all_tables m) store.table limits is.table e;
    }

-- ---- a store whose places are typed

pub less_within : (max : Option ℕ) (less more : ℕ) → IsTrue (is_within more max) → less ≤ more
    → IsTrue (is_within less max)
less_within None less more h low = refl
less_within (Some m) less more h low = grind (arith, nat_tests, h, low)

memory_typed : (all : List Limits) (found real : Option Memory)
    → option_map (λ m. m.max) found ≡ option_map (λ m. m.max) real → MayBeMemory all real
    → ((at : ℕ) → byte_of found at < 256)
    → ((limits : Limits) → slice_get all 0 ≡ Some limits → limits.min ≤ pages_of found)
    → memory_length found ≡ pages_of found * PAGE_SIZE → pages_of found ≤ pages_of real → MayBeMemory all found
memory_typed [] None real e h bytes least long fits = tt
memory_typed [] (Some m) None e h bytes least long fits = cc
memory_typed [] (Some m) (Some r) e h bytes least long fits = absurd h
memory_typed (l ∷ all) None None e h bytes least long fits = absurd h
memory_typed (l ∷ all) None (Some r) e h bytes least long fits = cc
memory_typed (l ∷ all) (Some m) None e h bytes least long fits = absurd h
memory_typed (l ∷ all) (Some m) (Some r) e h bytes least long fits =
    record {
      bytes = All-from_get_or (λ byte. byte < 256) m.bytes 0 (λ i below. bytes i);
      whole = long;
      least = least l refl;
      within =
          subst (λ max. IsTrue (is_within (pages m) max)) (sym (same_Some m.max r.max e))
          (less_within r.max (pages m) (pages r) h.within fits);
      most = let a = h.most in omega (arith, a, fits);
    }

table_typed : (funcs : ℕ) (all : List Limits) (found real : Option Table)
    → option_map (λ t. t.max) found ≡ option_map (λ t. t.max) real → MayBeTable funcs all real
    → ((at func : ℕ) → entry_of found at ≡ Some func → func < funcs)
    → ((limits : Limits) → slice_get all 0 ≡ Some limits → limits.min ≤ table_length found)
    → table_length found ≤ table_length real → MayBeTable funcs all found
table_typed funcs [] None real e h entries least fits = tt
table_typed funcs [] (Some t) None e h entries least fits = cc
table_typed funcs [] (Some t) (Some r) e h entries least fits = absurd h
table_typed funcs (l ∷ all) None None e h entries least fits = absurd h
table_typed funcs (l ∷ all) None (Some r) e h entries least fits = cc
table_typed funcs (l ∷ all) (Some t) None e h entries least fits = absurd h
table_typed funcs (l ∷ all) (Some t) (Some r) e h entries least fits =
    record {
      entries = All-from_get_or (λ entry. IfSome entry (λ func. func < funcs)) t.entries None (λ i below.
          subst (λ entry. IfSome entry (λ func. func < funcs))
          (ap option_flatten (slice_get-get_or t.entries i None below)) (named (entry_of (Some t) i) (entries i)));
      least = least l refl;
      within =
          subst (λ max. IsTrue (is_within (length t.entries) max)) (sym (same_Some t.max r.max e))
          (less_within r.max (length t.entries) (length r.entries) h.within fits);
      most = let a = h.most in omega (arith, a, fits);
    }
  where
    named : (o : Option ℕ) → ((func : ℕ) → o ≡ Some func → func < funcs) → IfSome o (λ func. func < funcs)
    named None below = tt
    named (Some func) below = below func refl

values_typed : (funcs : ℕ) (types : List ValType) (values : List Val)
    → ((at : ℕ) → option_map (λ value. value.ty) (slice_get values at) ≡ slice_get types at)
    → ((at : ℕ) (ty : ValType) (value : Val) → slice_get types at ≡ Some ty → slice_get values at ≡ Some value
    → IsValue funcs ty value)
    → AreValues funcs types values
values_typed funcs [] [] same good = tt
values_typed funcs [] (v ∷ values) same good = let e = same 0 in cc
values_typed funcs (t ∷ types) [] same good = let e = same 0 in cc
values_typed funcs (t ∷ types) (v ∷ values) same good =
    (good 0 t v refl refl, values_typed funcs types values (λ at. same (suc at)) (λ at. good (suc at)))

-- a whole number of pages is the size
pub pages_are : (o : Option Memory) (n : ℕ) → memory_length o ≡ n * PAGE_SIZE → pages_of o ≡ n
pages_are None n long = whole_pages 0 n long
pages_are (Some memory) n long = whole_pages (length memory.bytes) n long

-- a store has the maxima of another one, and its sizes are whole and not greater
pub record IsWithin (real found : Store) : Type 0 where
  pub same : maxima found ≡ maxima real
  pub long : memory_length found.memory ≡ pages_of found.memory * PAGE_SIZE
  pub pages : pages_of found.memory ≤ pages_of real.memory
  pub entries : table_length found.table ≤ table_length real.table

pub store_typed : (m : Module) (real found : Store) → IsStore m real → IsWithin real found
    → AreTypedKnown m (opening_known found) → ((at : ℕ) → global_type found at ≡ slice_get (global_types m) at)
    → IsStore m found
store_typed m real found is within typed types =
    record {
      memory =
          memory_typed (all_memories m) found.memory real.memory (ap (λ (x : Maxima). x.pages) within.same) is.memory
          typed.byte typed.pages within.long within.pages;
      table =
          table_typed (func_count m) (all_tables m) found.table real.table (ap (λ (x : Maxima). x.entries) within.same)
          is.table typed.entry typed.entries within.entries;
      globals = values_typed (func_count m) (global_types m) found.globals types typed.global;
    }
