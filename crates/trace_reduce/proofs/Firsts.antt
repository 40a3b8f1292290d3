-- What is found first, find by find.
use Rattle.std.proofs.Common.{◌≡◌, List, [], ◌∷◌, ◌++◌, Option, sym, ap, ◌∙◌}
use Rattle.std.specs.Option.{option_or}
use Rattle.std.specs.Ordering.{nat_cmp}
use Rattle.std.specs.BTreeMap.{get}
use Rattle.base.proofs.Options.{or_none, or_assoc}
use Rattle.trace_model.specs.declared.tapes.Effect.{Effect}
use Rattle.record_replay_spec.specs.Needed.{effect_byte, effect_entry, effect_global, effect_pages, effect_entries}
use Rattle.record_replay_spec.specs.LogTapes.{first_some}
use Rattle.trace_reduce.specs.declared.first_values.Firsts.{Firsts}
use Rattle.trace_reduce.specs.ByteGroups.{byte_at}
use Rattle.trace_reduce.specs.Firsts.{global_of, AreFirsts, IsNextFind}

first_snoc : {X : Type 0} (part : Effect → Option X) (finds : List Effect) (find : Effect)
    → first_some part (finds ++ find ∷ []) ≡ option_or (first_some part finds) (part find)
first_snoc part [] find = or_none (part find)
first_snoc part (first ∷ finds) find =
    ap (option_or (part first)) (first_snoc part finds find)
    ∙ sym (or_assoc (part first) (first_some part finds) (part find))

-- a part of what is found first, after one more find
part_next : {X : Type 0} (before after : Option X) (part : Effect → Option X) (finds : List Effect) (find : Effect)
    → before ≡ first_some part finds → after ≡ option_or before (part find)
    → after ≡ first_some part (finds ++ find ∷ [])
part_next before after part finds find h step =
    step ∙ ap (λ o. option_or o (part find)) h ∙ sym (first_snoc part finds find)

pub next_first : (finds : List Effect) (before : Firsts) (find : Effect) (after : Firsts)
    → AreFirsts finds before → IsNextFind before find after → AreFirsts (finds ++ find ∷ []) after
next_first finds before find after h step =
    record {
      pages = part_next before.pages after.pages effect_pages finds find h.pages step.pages;
      size = part_next before.size after.size effect_entries finds find h.size step.size;
      byte =
          λ at. part_next (byte_at before.bytes.items at) (byte_at after.bytes.items at) (effect_byte at) finds find (h.byte at)
          (step.byte at);
      entry =
          λ at. part_next (get nat_cmp before.entries at) (get nat_cmp after.entries at) (effect_entry at) finds find
          (h.entry at) (step.entry at);
      global =
          λ at. part_next (global_of before at) (global_of after at) (effect_global at) finds find (h.global at)
          (step.global at);
    }
