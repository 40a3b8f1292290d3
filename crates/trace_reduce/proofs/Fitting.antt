-- The effects made of the first finds are those of the window.
use Rattle.std.proofs.Common.{◌≡◌, ℕ, List, [], ◌++◌, map, Option, Some, None, true, option_map, Result, Ok, Err, IfOk, refl, sym, ap, ◌∙◌, subst}
use Rattle.std.specs.List.{list_all}
use Rattle.std.specs.Option.{option_or}
use Rattle.std.specs.Ordering.{nat_cmp}
use Rattle.std.specs.BTreeMap.{get}
use Rattle.std.proofs.lemmas.List.{append_assoc}
use Rattle.base.specs.declared.no_memory.NoMemory.{NoMemory}
use Rattle.base.proofs.Options.{or_none}
use Rattle.trace_model.specs.declared.tapes.Effect.{Effect}
use Rattle.trace_model.specs.declared.tapes.Effect.TheVariants.{Grow, Table}
use Rattle.trace_model.specs.Effects.{AreOrdered}
use Rattle.record_replay_spec.specs.Known.{last_some}
use Rattle.record_replay_spec.specs.Needed.{effect_byte, effect_entry, effect_global, effect_pages, effect_entries, has_bytes}
use Rattle.record_replay_spec.specs.LogTapes.{AreFirstFinds}
use Rattle.trace_reduce.specs.declared.first_values.Firsts.{Firsts}
use Rattle.trace_reduce.specs.Firsts.{AreFirsts, global_of}
use Rattle.trace_reduce.specs.Runs.{runs_from, entry_effect, global_effect, size_effects, firsts_effects, AreSorted}
use Rattle.trace_reduce.specs.ByteGroups.{byte_at, bytes_of, merged_groups}
use Rattle.trace_reduce.proofs.Bytes.{Ascend, at_key, ascends, looked_up}
use Rattle.trace_reduce.proofs.Groups.{bytes_ascend, byte_looked_up, merged_groups_ascend}
use Rattle.trace_reduce.proofs.Ordered.{all_ordered, all_have}
use Rattle.trace_reduce.proofs.Parts.{last_append, entries_none, globals_none, sizes_none, runs_none, keyed, all_runs}

module _ (firsts : Firsts) where
  abbrev pages_part : List Effect
  pages_part = size_effects Grow firsts.pages

  abbrev size_part : List Effect
  size_part = size_effects Table firsts.size

  abbrev all_bytes : List (ℕ × ℕ)
  all_bytes = bytes_of (merged_groups firsts.bytes.items)

  abbrev bytes_part : List Effect
  bytes_part = runs_from 0 [] all_bytes

  abbrev entries_part : List Effect
  entries_part = map entry_effect firsts.entries.entries

  abbrev globals_part : List Effect
  globals_part = map global_effect firsts.globals.entries

  regrouped : firsts_effects firsts
      ≡ pages_part ++ (size_part ++ (bytes_part ++ (entries_part ++ globals_part)))
  regrouped =
      append_assoc ((pages_part ++ size_part) ++ bytes_part) entries_part globals_part
      ∙ append_assoc (pages_part ++ size_part) bytes_part (entries_part ++ globals_part)
      ∙ append_assoc pages_part size_part (bytes_part ++ (entries_part ++ globals_part))

  -- a part of all effects, by the parts of each kind
  part_of : {X : Type 0} (part : Effect → Option X) (p s b e g : Option X)
      → last_some part pages_part ≡ p → last_some part size_part ≡ s → last_some part bytes_part ≡ b
      → last_some part entries_part ≡ e → last_some part globals_part ≡ g
      → last_some part (firsts_effects firsts) ≡ option_or g (option_or e (option_or b (option_or s p)))
  part_of part p s b e g hp hs hb he hg =
      last_append part (((pages_part ++ size_part) ++ bytes_part) ++ entries_part) globals_part
      ∙ ap (option_or (last_some part globals_part))
      (last_append part ((pages_part ++ size_part) ++ bytes_part) entries_part
      ∙ ap (option_or (last_some part entries_part))
      (last_append part (pages_part ++ size_part) bytes_part
      ∙ ap (option_or (last_some part bytes_part)) (last_append part pages_part size_part)))
      ∙ (λ i. option_or (hg i) (option_or (he i) (option_or (hb i) (option_or (hs i) (hp i)))))

  same_map : {X : Type 0} (o : Option X) → option_map (λ x. x) o ≡ o
  same_map None = refl
  same_map (Some x) = refl

  pages_given : (o : Option ℕ) → last_some effect_pages (size_effects Grow o) ≡ o
  pages_given None = refl
  pages_given (Some pages) = refl

  size_given : (o : Option ℕ) → last_some effect_entries (size_effects Table o) ≡ o
  size_given None = refl
  size_given (Some size) = refl

  module _ (finds : List Effect) (h : AreFirsts finds firsts) (s : AreSorted firsts) where
    ascending : Ascend 0 all_bytes
    ascending = bytes_ascend 0 (merged_groups firsts.bytes.items) (merged_groups_ascend firsts.bytes.items s.bytes)

    pages_same : last_some effect_pages (firsts_effects firsts) ≡ firsts.pages
    pages_same =
        part_of effect_pages firsts.pages None None None None (pages_given firsts.pages)
        (sizes_none effect_pages Table (λ size. refl) firsts.size)
        (runs_none effect_pages (λ at run. refl) 0 [] all_bytes)
        (entries_none effect_pages (λ k func. refl) firsts.entries.entries)
        (globals_none effect_pages (λ k value. refl) firsts.globals.entries)

    size_same : last_some effect_entries (firsts_effects firsts) ≡ firsts.size
    size_same =
        part_of effect_entries None firsts.size None None None
        (sizes_none effect_entries Grow (λ pages. refl) firsts.pages)
        (size_given firsts.size)
        (runs_none effect_entries (λ at run. refl) 0 [] all_bytes)
        (entries_none effect_entries (λ k func. refl) firsts.entries.entries)
        (globals_none effect_entries (λ k value. refl) firsts.globals.entries)
        ∙ or_none firsts.size

    byte_same : (at : ℕ) → last_some (effect_byte at) (firsts_effects firsts) ≡ byte_at firsts.bytes.items at
    byte_same at =
        part_of (effect_byte at) None None (at_key all_bytes at) None None
        (sizes_none (effect_byte at) Grow (λ pages. refl) firsts.pages)
        (sizes_none (effect_byte at) Table (λ size. refl) firsts.size)
        (all_runs at all_bytes ascending)
        (entries_none (effect_byte at) (λ k func. refl) firsts.entries.entries)
        (globals_none (effect_byte at) (λ k value. refl) firsts.globals.entries)
        ∙ or_none (at_key all_bytes at)
        ∙ byte_looked_up firsts.bytes.items at s.bytes

    entry_same : (at : ℕ) → last_some (effect_entry at) (firsts_effects firsts) ≡ get nat_cmp firsts.entries at
    entry_same at =
        part_of (effect_entry at) None None None (at_key firsts.entries.entries at) None
        (sizes_none (effect_entry at) Grow (λ pages. refl) firsts.pages)
        (sizes_none (effect_entry at) Table (λ size. refl) firsts.size)
        (runs_none (effect_entry at) (λ place run. refl) 0 [] all_bytes)
        (keyed entry_effect (effect_entry at) (λ func. func) at (λ k func. refl) 0 firsts.entries.entries
        (ascends firsts.entries.entries s.entries)
        ∙ same_map (at_key firsts.entries.entries at))
        (globals_none (effect_entry at) (λ k value. refl) firsts.globals.entries)
        ∙ or_none (at_key firsts.entries.entries at)
        ∙ sym (looked_up firsts.entries.entries at)

    global_same : (at : ℕ) → last_some (effect_global at) (firsts_effects firsts) ≡ global_of firsts at
    global_same at =
        part_of (effect_global at) None None None None (option_map Some (at_key firsts.globals.entries at))
        (sizes_none (effect_global at) Grow (λ pages. refl) firsts.pages)
        (sizes_none (effect_global at) Table (λ size. refl) firsts.size)
        (runs_none (effect_global at) (λ place run. refl) 0 [] all_bytes)
        (entries_none (effect_global at) (λ k func. refl) firsts.entries.entries)
        (keyed global_effect (effect_global at) Some at (λ k value. refl) 0 firsts.globals.entries
        (ascends firsts.globals.entries s.globals))
        ∙ or_none (option_map Some (at_key firsts.globals.entries at))
        ∙ ap (option_map Some) (sym (looked_up firsts.globals.entries at))

    pub are_first_finds : AreFirstFinds finds (firsts_effects firsts)
    are_first_finds =
        record {
          ordered =
              subst AreOrdered (sym regrouped)
              (all_ordered all_bytes firsts.entries.entries firsts.globals.entries ascending (ascends firsts.entries.entries s.entries)
              (ascends firsts.globals.entries s.globals) firsts.pages firsts.size);
          nonempty =
              subst (λ effects. list_all has_bytes effects ≡ true) (sym regrouped)
              (all_have firsts.pages firsts.size all_bytes firsts.entries.entries firsts.globals.entries);
          pages = pages_same ∙ h.pages;
          entries = size_same ∙ h.size;
          byte = λ at. byte_same at ∙ h.byte at;
          entry = λ at. entry_same at ∙ h.entry at;
          global = λ at. global_same at ∙ h.global at;
        }

-- what is found first, with the bytes in another order
same_firsts : (before sorted : Firsts) → sorted.pages ≡ before.pages → sorted.size ≡ before.size
    → ((at : ℕ) → byte_at sorted.bytes.items at ≡ byte_at before.bytes.items at) → sorted.entries ≡ before.entries
    → sorted.globals ≡ before.globals → (finds : List Effect) → AreFirsts finds before → AreFirsts finds sorted
same_firsts before sorted pages size bytes entries globals finds h =
    record {
      pages = pages ∙ h.pages;
      size = size ∙ h.size;
      byte = λ at. bytes at ∙ h.byte at;
      entry = λ at. ap (λ kept. get nat_cmp kept at) entries ∙ h.entry at;
      global = λ at. ap (λ kept. option_map Some (get nat_cmp kept at)) globals ∙ h.global at;
    }

-- the effects that are returned
pub effects_answered : (before sorted : Firsts) (answer : Result (List Effect) NoMemory)
    → sorted.pages ≡ before.pages → sorted.size ≡ before.size
    → ((at : ℕ) → byte_at sorted.bytes.items at ≡ byte_at before.bytes.items at) → sorted.entries ≡ before.entries
    → sorted.globals ≡ before.globals
    → IfOk answer (λ effects. effects ≡ firsts_effects sorted)
    → IfOk answer (λ effects. AreSorted sorted)
    → IfOk answer (λ effects. (finds : List Effect) → AreFirsts finds before → AreFirstFinds finds effects)
effects_answered before sorted (Ok effects) pages size bytes entries globals same order =
    λ finds h. subst (AreFirstFinds finds) (sym same)
    (are_first_finds sorted finds (same_firsts before sorted pages size bytes entries globals finds h) order)
effects_answered before sorted (Err refused) pages size bytes entries globals same order = tt
