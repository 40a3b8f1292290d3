-- The pointer and the allocator move into the page, and what they own goes with them.
use Rattle.raw_page.proofs.Steps.{ftrue, fsep, ent, emp, id⊢, Fun, tables, yes, type_at, nothing, entered, triple_of, says, Stays, walk_of, ends_at, walk_Meets, stay_dropped, Goes-dropped, List, [], ◌∷◌, ◌++◌, refl, sym, subst, Val, Memory, Routine, WpFn, Tables, Ura, WpFn-mono, alloc_all, pass_all, free_all, look_at, get, get_in, sets, Item, ⋆, ‵, raw, ◌⊛◌, ◌$◌, ◌∵◌, !, qed, by, move, drop, use1, join, split, fsplit, fjoin, suffices, done, Logic, SProp, whole, sub, agg, stop, fld, of_opd, no_more, and_then, returns, enter}
use contract.Running.{tables_of}
use Rattle.std_alloc.proofs.BoxSteps.Form.{D, B, word, box_typed}
use Rattle.std_alloc.proofs.BoxSteps.Steps.{box_out, box_in}
use Rattle.raw_page.proofs.Row.{page_box, parts_slot}
use Rattle.raw_page.specs.contracts.RawPage.of_parts as f
use Rattle.raw_page.specs.contracts.RawPage.of_parts.Key.{name}
use Rattle.raw_page.proofs.RawPage.of_parts.Statement.{statement}
use Rattle.raw_page.proofs.RawPage.of_parts.Code as code

abbrev stayed : Stays f.ended.signature.params f.ended.kept
stayed = (stay_dropped parts_slot yes, tt)

module _ {M : Type 1} {𝓤 : Ura M} (𝓛 : Logic 𝓤) (mem : Memory → SProp 𝓤) (run : Routine → Fun 𝓤) (𝓣 : Tables 𝓤 𝓛.H) where
  open 𝓛 use {H}

  walk : (z : (walk_of 𝓛 f.ended stayed (f.clauses 𝓛 mem run)).Ghost)
      → ent 𝓤 ((walk_of 𝓛 f.ended stayed (f.clauses 𝓛 mem run)).pre z)
      (WpFn 𝓤 H 𝓣.C 𝓣.Λ code.function (z.0.4.0 ++ []) ((walk_of 𝓛 f.ended stayed (f.clauses 𝓛 mem run)).post z))
  walk z =
      let Post = (walk_of 𝓛 f.ended stayed (f.clauses 𝓛 mem run)).post z in
      let parts = z.0.3.0 in
      let boxed : D page_box = record { ptr = parts.ptr; alloc = parts.alloc; value = parts.value } in
      let Made = type_at f.signature.result tt in
      let made : Made.Denot = record { ptr = parts.ptr; alloc = parts.alloc; bytes = parts.value } in
      qed 𝓛 ((‵ ftrue ⊛ ‵ (fsep ((B page_box).own_val boxed z.0.4.0) ftrue)) ∷ raw (emp 𝓤) ∷ []) ∵
      split ! $ drop ! $ fsplit ! $
      box_out page_box ! boxed z.0.4.0 (λ b o handle at_b is_word fits.
      let w = word page_box handle b o in
      box_in page_box ! boxed b o boxed.value at_b refl $ use1 𝓛 (‵ (Made.own_val made (w ∷ []))) (id⊢ 𝓤 _) $
      move ! (1 ∷ 2 ∷ []) $ drop ! $ drop ! $
      let Γ : List (Item 𝓤) = ‵ (Made.own_val made (w ∷ [])) ∷ [] in
      by ! (subst (λ (ws : List Val). ent 𝓤 (⋆ 𝓛 Γ) (WpFn 𝓤 H 𝓣.C 𝓣.Λ code.function (ws ++ []) Post)) (sym is_word)
      (qed 𝓛 Γ ∵ enter ! 𝓣.C 𝓣.Λ code.function (w ∷ []) _ $
      alloc_all ! (λ l. pass_all ! refl (box_typed page_box handle b o fits, tt) $
      sets ! (of_opd ! (get_in ! (fld ! refl (stop !)) (sub ! 0 refl (whole !)))) refl (tt, tt) $
      sets ! (of_opd ! (get_in ! (fld ! refl (stop !)) (sub ! 1 refl (whole !)))) refl fits $
      sets ! (agg ! (and_then ! (get ! refl) (and_then ! (get ! refl) (no_more !)))) refl (box_typed page_box handle b o fits) $
      returns ! (look_at ! 0 refl) $ free_all ! refl $
      suffices ! _ (ends_at 𝓛 f.ended stayed (f.clauses 𝓛 mem run) z w made (tt, tt) (tt, tt)) $ says ! refl $
      nothing ! $ nothing ! $ fjoin ! $ join ! $ nothing ! $ join ! $ done !))))

pub of_parts_spec : {M : Type 1} → statement M
unfolding tables_of
of_parts_spec 𝓤 𝓛 𝓜 𝓡 wired =
    let 𝓣 : Tables 𝓤 𝓛.H = tables_of 𝓤 𝓛.H 𝓜 (tables 𝓤 𝓛.H 𝓜 𝓡 𝓡.env) in
    let c = f.clauses 𝓛 𝓜.mem 𝓡.returns in
    let run = WpFn 𝓤 𝓛.H 𝓣.C 𝓣.Λ code.function in
    entered 𝓤 𝓛.H (triple_of 𝓛 f.signature (f.spec 𝓛 𝓜.mem 𝓡.returns)) 𝓣.C 𝓣.Λ name code.function (code.unfolded 𝓤 𝓛.H 𝓜 𝓡 wired)
    (walk_Meets 𝓛 f.ended stayed (Goes-dropped 𝓛 0 parts_slot yes (λ κs x fixed. refl), tt) c run
    (WpFn-mono 𝓤 𝓛.H 𝓛.laws 𝓣 code.function) (walk 𝓛 𝓜.mem 𝓡.returns 𝓣))
