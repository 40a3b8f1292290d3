-- The call gives the pointer with what the box owned, and the parts own that.
use Rattle.raw_page.proofs.Steps.{ftrue, fsep, flft, SProp, ent, id⊢, never, fst∗, ◌⊑◌, Fun, fact, tables, no, RattleType, Ptr, RawPtr, block_ptr, null_ptr, ptr_val, in_a_block, plain, nothing, heard, only, triple_of, entered, says, Stays, walk_of, ends_at, walk_Meets, stay_dropped, List, [], ◌∷◌, ◌++◌, ◌≡◌, ◌∙◌, refl, sym, subst, ap, Fn, Val, Memory, Routine, WpFn, Tables, Ura, WpFn-mono, fm_of, alloc_all, pass_all, free_all, look_at, get, get_in, sets, lands_as, Item, ⋆, ‵, raw, ◌⊛◌, some, later, ◌$◌, ◌∵◌, !, qed, by, move, drop, use1, join, split, split3, pick, rewrite, fsplit, fjoin, fpick, feq_l, suffices, await, done, Logic, sem, whole, sub, agg, stop, fld, of_opd, no_more, and_then, returns, enter}
use contract.Running.{tables_of}
use denote.Param.{bounded}
use denote.Struct.Tuple.{Tuple}
use denote.Triple.Call.{calls_at}
use denote.Triple.Clauses.{Ended, Clauses}
use denote.Triple.Statement.{Triple, Contract}
use mir.MapTy.{inst_fn}
use mir.Raw.{raw as bare}
use mir.Syntax.{Args, Dict, a_type, dcons, dnil}
use mir.Val.{vstruct, of_list}
use Rattle.std.proofs.alloc.Calls.{token, handle_tells, Goes-blank}
use Rattle.std_alloc.specs.Box.Ownership.{box_owns}
use Rattle.std_alloc.proofs.BoxSteps.Form.{Bx, D, τ, R, P, B, word, box_typed}
use Rattle.std_alloc.proofs.BoxSteps.Steps.{box_out, box_in}
use Rattle.std_alloc.specs.contracts.boxed.Box.into_raw_with_allocator as g
use Rattle.std_alloc.proofs.boxed.Box.into_raw_with_allocator.Symbol as callee
use Rattle.std_alloc.proofs.boxed.Box.into_raw_with_allocator.Met.{met}
use Rattle.raw_page.specs.contracts.parts.BoxParts as parts
use Rattle.raw_page.specs.contracts.parts.BoxParts.of_box as f
use Rattle.raw_page.specs.contracts.parts.BoxParts.of_box.Key.{name}
use Rattle.raw_page.proofs.parts.BoxParts.of_box.Statement.{statement}
use Rattle.raw_page.proofs.parts.BoxParts.of_box.Code as code

module _ (E : Bx) (value_drops : Dict) where
  abbrev args : Args
  args = bounded (a_type ∷ a_type ∷ []) (E.row, (E.al.row, tt)) (dcons E.al.d (dcons E.al.drops (dcons value_drops dnil)))

  abbrev function : Fn
  function = inst_fn args code.function

  abbrev ended : Ended
  ended = f.ended E.row E.al.row E.al.g E.al.d E.al.drops value_drops

  abbrev stayed : Stays ended.signature.params ended.kept
  stayed = (stay_dropped (plain (λ _. B E)) no, tt)

  abbrev Made : RattleType
  Made = parts.the_row (R E) (P E) E.al.g

  module _ {M : Type 1} {𝓤 : Ura M} (𝓛 : Logic 𝓤) (mem : Memory → SProp 𝓤) (run : Routine → Fun 𝓤) (𝓣 : Tables 𝓤 𝓛.H) where
    open 𝓛 use {H}

    abbrev held : Clauses 𝓤 ended
    held = f.clauses E.row E.al.row E.al.g E.al.d E.al.drops value_drops 𝓛 mem run

    -- the contract of the call
    abbrev Called : Contract 𝓤
    Called =
        triple_of 𝓛 (g.signature E.row E.al.row E.al.g E.al.d E.al.drops value_drops)
        (g.spec E.row E.al.row E.al.g E.al.d E.al.drops value_drops 𝓛 mem run)

    walk : Triple 𝓤 (𝓣.C (callee.name args)) Called → (z : (walk_of 𝓛 ended stayed held).Ghost)
        → ent 𝓤 ((walk_of 𝓛 ended stayed held).pre z) (WpFn 𝓤 H 𝓣.C 𝓣.Λ function (z.0.4.0 ++ []) ((walk_of 𝓛 ended stayed held).post z))
    walk known z =
        let κs = z.0.0 in let qs = z.0.1 in let boxed = z.0.3.0 in let alloc = boxed.alloc in
        let Post = (walk_of 𝓛 ended stayed held).post z in
        let lives : Item 𝓤 = ‵ (flft κs.0 qs.0) ⊛ ‵ (flft κs.1.0 qs.1.0) ⊛ ‵ ftrue in
        let within : Item 𝓤 = raw (fact 𝓤 (κs.0 ⊑ E.row.lives)) ⊛ raw (fact 𝓤 (κs.1.0 ⊑ E.al.row.lives)) ⊛ ‵ ftrue in
        qed 𝓛 ((lives ⊛ ‵ (fsep ((B E).own_val boxed z.0.4.0) ftrue)) ∷ within ∷ []) ∵ split ! $ move ! (1 ∷ []) $ fsplit ! $
        box_out E ! boxed z.0.4.0 (λ b o hv at_b is_word fits. box_in E ! boxed b o boxed.value at_b refl $
        let w = word E hv b o in
        let at_call : Called.Ghost = ((κs, qs, tt, (boxed, tt), (w ∷ [], tt)), tt) in
        let Γ : List (Item 𝓤) = ‵ ((B E).own_val boxed (w ∷ [])) ∷ ‵ ftrue ∷ lives ∷ within ∷ [] in
        by ! (subst (λ (ws : List Val). ent 𝓤 (⋆ 𝓛 Γ) (WpFn 𝓤 H 𝓣.C 𝓣.Λ function (ws ++ []) Post)) (sym is_word)
        (qed 𝓛 Γ ∵ enter ! 𝓣.C 𝓣.Λ function (w ∷ []) _ $ alloc_all ! (λ l. pass_all ! refl (box_typed E hv b o fits, tt) $
        sets ! (of_opd ! (get ! refl)) refl (box_typed E hv b o fits) $
        fjoin ! $ move ! (1 ∷ 0 ∷ []) $ join ! $ join ! $ use1 𝓛 (raw (Called.pre at_call)) (id⊢ 𝓤 _) $
        calls_at ! (fm_of 𝓤 H 𝓛.laws 𝓣) Called known at_call (and_then ! (get ! refl) (no_more !)) (λ u.
        use1 𝓛
        (later (some (λ (pair : Ptr × E.al.row.Denot). (lives ⊛ ‵ ((Tuple (RawPtr ∷ P E ∷ [])).own_val pair (u ∷ []))) ⊛
        some (λ (_ : (Unit {0} × (Unit {0} × Unit {0})) × Unit {0}). ‵ (fsep (fsep ftrue (fsep ftrue ftrue)) ftrue) ⊛
        (raw (fact 𝓤 (pair.1 ≡ alloc)) ⊛ ‵ (box_owns (token E.al alloc) (R E) pair.0 boxed.value)))))) (id⊢ 𝓤 _) $
        await ! tt $ pick ! (λ pair. split ! $ move ! (1 ∷ []) $ pick ! (λ _. split3 ! $ drop ! $ heard ! (pair.1 ≡ alloc) (λ same.
        in_a_block ! pair.0 (λ p. box_owns (token E.al alloc) (R E) p boxed.value)
        (fst∗ 𝓤 (never 𝓤) (sem 𝓛 (token E.al alloc (bare (τ E)) null_ptr))) (λ b' o' at_b'.
        -- [the lifetimes with the pair; what the pointer owns; the locals]
        move ! (1 ∷ []) $ split ! $ move ! (1 ∷ []) $ fpick ! (λ vss. fsplit ! $ feq_l ! (λ is_pair. fsplit ! $ feq_l ! (λ is_pointer. fsplit ! $
        rewrite ! 0 (λ (a : E.al.row.Denot). ‵ (E.al.row.own_val a vss.1.0)) same refl $ handle_tells E.al ! alloc vss.1.0 (λ hv' is_handle fits'.
        let taken : D E = record { ptr = block_ptr b' o'; alloc = alloc; value = boxed.value } in
        let made : Made.Denot = record { ptr = block_ptr b' o'; alloc = alloc; value = boxed.value } in
        let w' = word E hv' b' o' in
        let pointer = is_pointer ∙ ap (λ (p : Ptr). ptr_val p ∷ []) at_b' in
        lands_as ! (ap only (is_pair ∙ (λ i. vstruct (of_list (pointer i ++ (is_handle i ++ []))) ∷ []))) refl (box_typed E hv' b' o' fits') $
        sets ! (of_opd ! (get_in ! (fld ! refl (stop !)) (sub ! 0 refl (whole !)))) refl (tt, tt) $
        sets ! (of_opd ! (get_in ! (fld ! refl (stop !)) (sub ! 1 refl (whole !)))) refl fits' $ sets ! (of_opd ! (get ! refl)) refl fits' $
        sets ! (agg ! (and_then ! (get ! refl) (and_then ! (get ! refl) (no_more !)))) refl (box_typed E hv' b' o' fits') $
        returns ! (look_at ! 0 refl) $ free_all ! refl $
        -- [the handle; true; the lifetimes; what the pointer owns]
        move ! (3 ∷ []) $ fsplit ! $ box_in E ! taken b' o' boxed.value refl refl
        $ use1 𝓛 (‵ (Made.own_val made (w' ∷ []))) (id⊢ 𝓤 _) $ move ! (1 ∷ []) $ drop ! $
        suffices ! _ (ends_at 𝓛 ended stayed held z w' made ((tt, (tt, tt)), tt) (tt, tt)) $ says ! refl $
        nothing ! $ nothing ! $ fjoin ! $ join ! $ move ! (1 ∷ 0 ∷ []) $ join ! $ done !)))))))))))))

pub of_box_spec : {M : Type 1} → statement M
unfolding tables_of
of_box_spec 𝓤 𝓛 𝓜 𝓡 wired X Z LX LZ ghosts dict drops value_drops allocator drop_met value_drop_met =
    let E : Bx = record { row = X; laws = LX; al = record { row = Z; laws = LZ; g = ghosts; d = dict; drops = drops } } in
    let 𝓣 : Tables 𝓤 𝓛.H = tables_of 𝓤 𝓛.H 𝓜 (tables 𝓤 𝓛.H 𝓜 𝓡 𝓡.env) in
    let fn = function E value_drops in
    entered 𝓤 𝓛.H (triple_of 𝓛 (ended E value_drops).signature (f.spec X Z ghosts dict drops value_drops 𝓛 𝓜.mem 𝓡.returns)) 𝓣.C 𝓣.Λ
    (name (args E value_drops)) fn (code.unfolded 𝓤 𝓛.H 𝓜 𝓡 wired (X, (Z, tt)) dict drops value_drops)
    (walk_Meets 𝓛 (ended E value_drops) (stayed E value_drops) (Goes-blank 𝓛 2 (plain (λ _. B E)) no (λ κs x fixed. tt), tt)
    (held E value_drops 𝓛 𝓜.mem 𝓡.returns 𝓣) (WpFn 𝓤 𝓛.H 𝓣.C 𝓣.Λ fn) (WpFn-mono 𝓤 𝓛.H 𝓛.laws 𝓣 fn)
    (walk E value_drops 𝓛 𝓜.mem 𝓡.returns 𝓣
    (met 𝓤 𝓛 𝓜 𝓡 (code.calls-std_alloc::boxed::Box::into_raw_with_allocator 𝓡.env wired) X Z LX LZ ghosts dict drops value_drops allocator drop_met
    value_drop_met)))
