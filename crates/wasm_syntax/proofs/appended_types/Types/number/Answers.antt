use Rattle.std.proofs.Common.{Some, sym, refl, ap, ◌∙◌}
use Rattle.std.proofs.lemmas.Map.Made.{AllPairs-from_IsDistinct}
use Rattle.wasm_syntax.specs.AppendedTypes.{Stays}
use Rattle.wasm_syntax.proofs.SameTypes.{func_decides, found_at, found_in}
use Rattle.wasm_syntax.proofs.appended_types.Types.number.Goals as goal

pub returns-in-Some-clause-number : goal.returns-in-Some-clause-number
returns-in-Some-clause-number c =
    rw (← c.self.view_is) record {
      place = c.in-Some.place;
      at_place = found_at func_decides _ _ _ (sym c.get_index_of.ensures.index ∙ c.in-Some.is);
      behind = refl;
    }

pub returns-in-Some-clause-asked : goal.returns-in-Some-clause-asked
returns-in-Some-clause-asked c =
    rw (← c.self.view_is) (Stays (found_in func_decides _ _ c.in-Some.place (sym c.get_index_of.ensures.index ∙ c.in-Some.is)) refl)

pub invariant_of-self-2 : goal.invariant_of-self-2
invariant_of-self-2 c = AllPairs-from_IsDistinct func_decides _ c.in_ok-place.ensures.unique

pub returns-clause-number : goal.returns-clause-number
returns-clause-number c =
    let stored = c.in_ok-place.ensures.stored in
    record {
      place = c.in_ok-place.place;
      at_place = stored.1 ∙ ap Some (sym ((func_decides _ _).0 stored.2) ∙ c.in_ok-copy.ensures);
      behind = refl;
    }

pub returns-clause-distinct : goal.returns-clause-distinct
returns-clause-distinct c = AllPairs-from_IsDistinct func_decides _ c.in_ok-place.ensures.unique
