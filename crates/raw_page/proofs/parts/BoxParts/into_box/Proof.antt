-- What the parts own goes to the call that makes a box of them.
use Rattle.raw_page.proofs.Steps.{ftrue, fsep, flft, SProp, ent, id⊢, ◌⊑◌, Fun, fact, tables, no, RattleType, block_ptr, plain, nothing, heard, only, triple_of, entered, says, Stays, walk_of, ends_at, walk_Meets, stay_dropped, T, List, [], ◌∷◌, ◌++◌, ◌≡◌, refl, sym, subst, ap, Fn, Val, vptr, has_ty, WT, Memory, Routine, WpFn, Tables, Ura, WpFn-mono, fm_of, alloc_all, pass_all, free_all, look_at, get, get_in, sets, lands_last, env, Item, ⋆, at_ret, ‵, raw, ◌⊛◌, some, later, ◌$◌, ◌∵◌, !, qed, by, move, drop, use1, join, split, split3, pick, rewrite, fsplit, fjoin, feq_i, suffices, await, done, Logic, whole, sub, stop, fld, of_opd, no_more, and_then, returns, enter, first, blocks, exec}
use contract.Running.{tables_of}
use denote.Triple.Call.{calls_at_last}
use denote.Triple.Clauses.{Ended, Clauses}
use denote.Triple.Statement.{Triple, Contract}
use mir.MapTy.{inst_fn}
use Rattle.std.proofs.alloc.Calls.{token, Goes-blank}
use Rattle.std_alloc.specs.Box.Ownership.{box_owns}
use Rattle.std_alloc.proofs.BoxSteps.Form.{Bx, D, R, P, B, args, box_ty, word, box_typed}
use Rattle.std_alloc.proofs.BoxSteps.Steps.{box_out, box_in}
use Rattle.std_alloc.proofs.VecSteps.Shapes.{after}
use Rattle.std_alloc.specs.contracts.boxed.Box.from_raw as g
use Rattle.std_alloc.proofs.boxed.Box.from_raw.Symbol as callee
use Rattle.std_alloc.proofs.boxed.Box.from_raw.Met.{met}
use Rattle.raw_page.specs.contracts.parts.BoxParts as parts
use Rattle.raw_page.specs.contracts.parts.BoxParts.into_box as f
use Rattle.raw_page.specs.contracts.parts.BoxParts.into_box.Key.{name}
use Rattle.raw_page.proofs.parts.BoxParts.into_box.Statement.{statement}
use Rattle.raw_page.proofs.parts.BoxParts.into_box.Code as code

module _ (E : Bx) where
  abbrev function : Fn
  function = inst_fn (args E) code.function

  abbrev ended : Ended
  ended = f.ended E.row E.al.row E.al.g E.al.d E.al.drops

  abbrev From : RattleType
  From = parts.the_row (R E) (P E) E.al.g

  abbrev stayed : Stays ended.signature.params ended.kept
  stayed = (stay_dropped (plain (λ _. From)) no, tt)

  module _ {M : Type 1} {𝓤 : Ura M} (𝓛 : Logic 𝓤) (mem : Memory → SProp 𝓤) (run : Routine → Fun 𝓤) (𝓣 : Tables 𝓤 𝓛.H) where
    open 𝓛 use {H}

    abbrev held : Clauses 𝓤 ended
    held = f.clauses E.row E.al.row E.al.g E.al.d E.al.drops 𝓛 mem run

    -- the contract of the call
    abbrev Called : Contract 𝓤
    Called = triple_of 𝓛 (g.signature E.row E.al.row E.al.g E.al.d E.al.drops) (g.spec E.row E.al.row E.al.g E.al.d E.al.drops 𝓛 mem run)

    walk : Triple 𝓤 (𝓣.C (callee.name (args E))) Called → (z : (walk_of 𝓛 ended stayed held).Ghost)
        → ent 𝓤 ((walk_of 𝓛 ended stayed held).pre z) (WpFn 𝓤 H 𝓣.C 𝓣.Λ function (z.0.4.0 ++ []) ((walk_of 𝓛 ended stayed held).post z))
    walk known z =
        let κs = z.0.0 in let qs = z.0.1 in let Post = (walk_of 𝓛 ended stayed held).post z in
        let alloc = z.0.3.0.alloc in let value = z.0.3.0.value in
        let boxed : D E = record { ptr = z.0.3.0.ptr; alloc = alloc; value = value } in
        let lives : Item 𝓤 = ‵ (flft κs.0 qs.0) ⊛ ‵ (flft κs.1.0 qs.1.0) ⊛ ‵ ftrue in
        let first_within : Item 𝓤 = raw (fact 𝓤 (κs.0 ⊑ E.row.lives)) in
        let second_within : Item 𝓤 = raw (fact 𝓤 (κs.1.0 ⊑ E.al.row.lives)) in
        let within : Item 𝓤 = first_within ⊛ second_within ⊛ ‵ ftrue in
        qed 𝓛 ((lives ⊛ ‵ (fsep ((B E).own_val boxed z.0.4.0) ftrue)) ∷ within ∷ []) ∵ split ! $ move ! (1 ∷ []) $ fsplit ! $
        box_out E ! boxed z.0.4.0 (λ b o hv at_b is_word fits. fjoin ! $
        let w = word E hv b o in
        let at_call : Called.Ghost = ((κs, qs, tt, (alloc, (block_ptr b o, tt)), (hv ∷ [], (vptr b o ∷ [], tt))), value) in
        let Γ : List (Item 𝓤) = ‵ (box_owns (token E.al alloc) (R E) (block_ptr b o) value) ∷
        ‵ ((P E).own_val alloc (hv ∷ [])) ∷ ‵ ftrue ∷ lives ∷ within ∷ [] in
        by ! (subst (λ (ws : List Val). ent 𝓤 (⋆ 𝓛 Γ) (WpFn 𝓤 H 𝓣.C 𝓣.Λ function (ws ++ []) Post)) (sym is_word)
        (qed 𝓛 Γ ∵ enter ! 𝓣.C 𝓣.Λ function (w ∷ []) _ $ alloc_all ! (λ l. pass_all ! refl (box_typed E hv b o fits, tt) $
        sets ! (of_opd ! (get_in ! (fld ! refl (stop !)) (sub ! 0 refl (whole !)))) refl (tt, tt) $
        sets ! (of_opd ! (get_in ! (fld ! refl (stop !)) (sub ! 1 refl (whole !)))) refl fits $
        first ! $ blocks ! $ sets ! (of_opd ! (get ! refl)) refl fits $
        -- the lifetimes with what is known of them, then the arguments, then what the call requires
        move ! (4 ∷ []) $ split3 ! $ move ! (2 ∷ []) $ drop ! $ move ! (1 ∷ 2 ∷ []) $ join ! $ move ! (1 ∷ 0 ∷ []) $ join ! $
        move ! (2 ∷ []) $ feq_i ! (List Val) (vptr b o ∷ []) (vptr b o ∷ []) refl $ fjoin ! $ move ! (2 ∷ 0 ∷ []) $ fjoin ! $
        move ! (2 ∷ 0 ∷ []) $ join ! $ join ! $ use1 𝓛 (raw (Called.pre at_call)) (id⊢ 𝓤 _) $
        calls_at_last ! (fm_of 𝓤 H 𝓛.laws 𝓣) Called known at_call (and_then ! (get ! refl) (and_then ! (get ! refl) (no_more !))) (λ u.
        use1 𝓛
        (later (some (λ (made : D E). (lives ⊛ ‵ ((B E).own_val made (u ∷ []))) ⊛
        some (λ (_ : Unit {0} × (Unit {0} × Unit {0})). ‵ (fsep ftrue (fsep ftrue ftrue)) ⊛
        (raw (fact 𝓤 (made.value ≡ value)) ⊛ raw (fact 𝓤 (made.alloc ≡ alloc))))))) (id⊢ 𝓤 _) $
        await ! tt $ pick ! (λ made. split ! $ move ! (1 ∷ []) $ pick ! (λ _. split3 ! $ drop ! $ heard ! (made.value ≡ value) (λ same. drop ! $ split ! $
        -- [the lifetimes; the box; the locals]
        move ! (1 ∷ []) $
        box_out E ! made (u ∷ []) (λ b' o' hv' at_b' is_u fits'. box_in E ! made b' o' made.value at_b' refl $
        rewrite ! 0 (λ (us : List Val). ‵ ((B E).own_val made us)) (sym is_u) refl $
        let typed : T (has_ty (box_ty E) u) × WT u = subst (λ (v : Val). T (has_ty (box_ty E) v) × WT v) (sym (ap only is_u)) (box_typed E hv' b' o' fits') in
        lands_last ! refl typed $ exec ! 𝓣.C 𝓣.Λ (env function.locals l) (after 3 function.body) (at_ret (env function.locals l) Post) $
        sets ! (of_opd ! (get ! refl)) refl typed $ returns ! (look_at ! 0 refl) $ free_all ! refl $
        suffices ! _ (ends_at 𝓛 ended stayed held z u made ((tt, (tt, tt)), tt) (tt, tt)) $ says ! same $
        nothing ! $ nothing ! $ fjoin ! $ join ! $ move ! (1 ∷ 0 ∷ []) $ join ! $ done !)))))))))

pub into_box_spec : {M : Type 1} → statement M
unfolding tables_of
into_box_spec 𝓤 𝓛 𝓜 𝓡 wired X Z LX LZ ghosts dict drops allocator drop_met =
    let E : Bx = record { row = X; laws = LX; al = record { row = Z; laws = LZ; g = ghosts; d = dict; drops = drops } } in
    let 𝓣 : Tables 𝓤 𝓛.H = tables_of 𝓤 𝓛.H 𝓜 (tables 𝓤 𝓛.H 𝓜 𝓡 𝓡.env) in
    entered 𝓤 𝓛.H (triple_of 𝓛 (ended E).signature (f.spec X Z ghosts dict drops 𝓛 𝓜.mem 𝓡.returns)) 𝓣.C 𝓣.Λ (name (args E)) (function E)
    (code.unfolded 𝓤 𝓛.H 𝓜 𝓡 wired (X, (Z, tt)) dict drops)
    (walk_Meets 𝓛 (ended E) (stayed E) (Goes-blank 𝓛 2 (plain (λ _. From E)) no (λ κs x fixed. tt), tt) (held E 𝓛 𝓜.mem 𝓡.returns 𝓣)
    (WpFn 𝓤 𝓛.H 𝓣.C 𝓣.Λ (function E)) (WpFn-mono 𝓤 𝓛.H 𝓛.laws 𝓣 (function E))
    (walk E 𝓛 𝓜.mem 𝓡.returns 𝓣
    (met 𝓤 𝓛 𝓜 𝓡 (code.calls-std_alloc::boxed::Box::from_raw 𝓡.env wired) X Z LX LZ ghosts dict drops allocator drop_met)))
