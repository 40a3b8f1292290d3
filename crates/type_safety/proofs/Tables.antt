-- Tables under look-ups and writes, and references.
use Rattle.std.proofs.Common.{◌≡◌, ℕ, suc, zero, ◌+◌, ◌<◌, ◌≤◌, List, [], ◌∷◌, ◌++◌, length, Option, Some, None, Bool, true, false, ◌&&◌, slice_get, refl, sym, ap, ◌∙◌, subst, arith}
use Rattle.std.specs.Prelude.{nat_le, nat_lt, replicate, is_some, IsTrue, IfSome, All, slice_set}
use Rattle.std.proofs.lemmas.Bool.{leb-true}
use Rattle.std.proofs.lemmas.List.{length-append, length-replicate, length-set}
use Rattle.std.proofs.lemmas.List.Elements.{All-set, All-append, All-replicate}
use Rattle.std.proofs.lemmas.Option.{cond_some}
use Rattle.base.proofs.Booleans.{and_parts}
use Rattle.wasm_syntax.specs.declared.limits.TheConstants.{MAX_ENTRIES}
use Rattle.host_script.specs.Supply.{is_within}
use Rattle.wasm_syntax.specs.declared.signatures.Limits.{Limits}
use Rattle.history_spec.specs.Store.{Table, grown_table_if, grown_table, with_entry}
use Rattle.history_spec.specs.Instruction.{referent}
use Rattle.type_safety.specs.Stores.{IsTable, MayBeTable}

-- the table exists, and it may be changed to another that is well typed if the first is
pub record TableThere (n : ℕ) (limits : List Limits) (o : Option Table) : Type 0 where
  pub table : Table
  pub is : o ≡ Some table
  pub own : Limits
  pub good : IsTable n own table
  pub change : (new : Table) → ((l : Limits) → IsTable n l table → IsTable n l new) → MayBeTable n limits (Some new)

pub table_there : (n : ℕ) (limits : List Limits) (o : Option Table) → is_some (slice_get limits 0) ≡ true
    → MayBeTable n limits o → TableThere n limits o
table_there n [] o there may = cc
table_there n (l ∷ more) None there may = absurd may
table_there n (l ∷ more) (Some table) there may =
    record { table = table; is = refl; own = l; good = may; change = λ new to. to l may }

abbrev IsEntry : ℕ → Option ℕ → Type 0
IsEntry n entry = IfSome entry (λ func. func < n)

pub entry_set_fits : (n : ℕ) (limits : Limits) (table : Table) (index : ℕ) (entry : Option ℕ)
    (entries : List (Option ℕ)) → IsTable n limits table → IfSome entry (λ func. func < n)
    → with_entry table.entries index entry ≡ Some entries → IsTable n limits (record table { entries = entries })
entry_set_fits n limits table index entry entries good fits is =
    let p = cond_some (nat_lt index (length table.entries)) (slice_set table.entries index entry) entries is in
    let size : length table.entries ≡ length entries = sym (length-set table.entries index entry) ∙ ap length p.1 in
    record {
      entries = subst (λ es. All (IsEntry n) es) p.1 (All-set (IsEntry n) table.entries index entry fits good.entries);
      least = subst (λ k. limits.min ≤ k) size good.least;
      within = subst (λ k. IsTrue (is_within k table.max)) size good.within;
      most = subst (λ k. k ≤ MAX_ENTRIES) size good.most;
    }

pub table_grown : (n : ℕ) (limits : Limits) (table : Table) (by : ℕ) (entry : Option ℕ) (new : Table)
    → IsTable n limits table → IfSome entry (λ func. func < n) → grown_table table by entry ≡ Some new
    → IsTable n limits new
table_grown n limits table by entry new good fits is =
    from (is_within (length table.entries + by) table.max && nat_le (length table.entries + by) MAX_ENTRIES) refl is
  where
    larger : Table
    larger = record table { entries = table.entries ++ replicate by entry }

    size : length table.entries + by ≡ length (table.entries ++ replicate by entry)
    size = omega (
      arith,
      length-append table.entries (replicate by entry),
      length-replicate {A = Option ℕ} by entry,
    )

    from : (b : Bool)
        → (is_within (length table.entries + by) table.max && nat_le (length table.entries + by) MAX_ENTRIES) ≡ b
        → grown_table_if b table by entry ≡ Some new → IsTable n limits new
    from true e made =
        let tests = and_parts (is_within (length table.entries + by) table.max)
        (nat_le (length table.entries + by) MAX_ENTRIES) e in
        let it : larger ≡ new = cc in
        subst (λ new'. IsTable n limits new') it (record {
          entries = All-append (IsEntry n) table.entries (replicate by entry) good.entries
              (All-replicate (IsEntry n) by entry fits);
          least = subst (λ k. limits.min ≤ k) size (omega (arith, good.least));
          within = subst (λ k. IsTrue (is_within k table.max)) size tests.0;
          most = subst (λ k. k ≤ MAX_ENTRIES) size (leb-true (length table.entries + by) MAX_ENTRIES tests.1);
        })
    from false e made = cc

pub referred_fits : (n bits : ℕ) → bits < n + 1 → IfSome (referent bits) (λ func. func < n)
referred_fits n zero h = tt
referred_fits n (suc func) h = omega arith
