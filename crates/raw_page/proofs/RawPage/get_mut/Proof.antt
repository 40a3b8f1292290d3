-- The pointer is read through the reference to its owner, and the bytes are lent; the owner follows them.
use Rattle.raw_page.proofs.Steps.{Lft, GName, Share, Fml, ftrue, fsep, flft, full_share, SProp, ent, sep, emp, via, fst∗, id⊢, Fun, tables, no, owns, block_ptr, plain, nothing, on_entry, Meets, triple_of, entered, says, Stays, walk_of, walked, ends_at, walk_Meets, stay_dropped, List, [], ◌∷◌, ◌≡◌, refl, Val, vptr, ℕ, Memory, Routine, Calls, Loops, WpFn, Tables, Ura, WpFn-mono, alloc_all, pass_all, free_all, look_at, get, through, sets, sets_last, env, at_ret, ‵, raw, ◌⊛◌, some, later, ◌$◌, ◌∵◌, !, qed, by, move, keep, drop, use1, join, split, pick, rewrite, fsplit, fsplit3, fjoin, fpack, group, suffices, await, frame, done, Logic, sem, whole, sub, look_in, stop, fld, hop, addr, of_opd, returns, enter, first, blocks, exec}
use contract.Running.{tables_of}
use denote.Follow.{follows, Part, lends_Part}
use denote.Memory.{part_at, mem, cell_at, part_of}
use denote.Ref.{MutRef, mut_vals, mut_Tells}
use denote.Signature.{mut_ref_to}
use denote.Steps.{opens}
use denote.Triple.Walked.{Goes-spent_ref}
use mir.Raw.{raw as bare}
use mir.Syntax.{named}
use Rattle.std.proofs.alloc.Calls.{token}
use Rattle.std_alloc.proofs.BoxSteps.Form.{D, B, τ, word, handle}
use Rattle.std_alloc.proofs.BoxSteps.Steps.{box_out, box_in}
use Rattle.std_alloc.proofs.VecSteps.Shapes.{after}
use Rattle.raw_page.proofs.Row.{page_row, page_box}
use Rattle.raw_page.specs.Lending.{with_bytes}
use Rattle.raw_page.specs.contracts.RawPage as owner
use Rattle.raw_page.specs.contracts.RawPage.get_mut as f
use Rattle.raw_page.specs.contracts.RawPage.get_mut.Key.{name}
use Rattle.raw_page.proofs.RawPage.get_mut.Statement.{statement}
use Rattle.raw_page.proofs.RawPage.get_mut.Code as code

abbrev stayed : Stays f.ended.signature.params f.ended.kept
stayed = (stay_dropped (mut_ref_to (0 ∷ []) tt (plain (λ _. owner.the_row))) no, tt)

-- the box that owns what a page owns
abbrev boxed : owner.the_row.Denot → D page_box
boxed page = record { ptr = page.ptr; alloc = page.alloc; value = page.bytes }

module _ {M : Type 1} {𝓤 : Ura M} (𝓛 : Logic 𝓤) (at_mem : Memory → SProp 𝓤) (run : Routine → Fun 𝓤) (κ : Lft) (q : Share) (rb ro : ℕ) (γ : GName)
    (page : owner.the_row.Denot) where
  open 𝓛 use {H, A}

  abbrev bound : (walk_of 𝓛 f.ended stayed (f.clauses 𝓛 at_mem run)).Ghost
  bound = (((κ, tt), (q, tt), tt, (record { ref_ptr = (rb, ro); ghost_name = γ; now = page }, tt), (vptr rb ro ∷ [], tt)), tt)

  abbrev Post : Val → SProp 𝓤
  Post = (walk_of 𝓛 f.ended stayed (f.clauses 𝓛 at_mem run)).post bound

  module _ (b o : ℕ) (hv : Val) where
    -- all of the owner but the bytes
    abbrev Rest : Fml
    Rest =
        fsep (fsep (token page_box.al page.alloc (bare (τ page_box)) (block_ptr b o)) (handle page_box page.alloc hv))
        (cell_at full_share owner.the_row.mir (word page_box hv b o ∷ []) rb ro)

    -- the owner is whole again with the bytes that were left
    back : page.ptr ≡ block_ptr b o → (w : List ℕ) → ent 𝓤 (sep 𝓤 (sem 𝓛 ((mem page_row).own_at w b o)) (sem 𝓛 Rest))
        (sem 𝓛 ((mem owner.the_row).own_at (with_bytes page w) rb ro))
    unfolding part_of
    back at_b w =
        qed 𝓛 (‵ (part_at page_row full_share w b o) ∷ ‵ Rest ∷ []) ∵ move ! (1 ∷ []) $ fsplit ! $ fsplit ! $ move ! (3 ∷ []) $
        box_in page_box ! (boxed (with_bytes page w)) b o w at_b refl $
        use1 𝓛 (‵ (owner.the_row.own_val (with_bytes page w) (word page_box hv b o ∷ []))) (id⊢ 𝓤 _) $ move ! (1 ∷ 0 ∷ []) $ fjoin ! $
        fpack ! (List Val) (λ us. fsep (cell_at full_share owner.the_row.mir us rb ro) (owner.the_row.own_val (with_bytes page w) us))
        (word page_box hv b o ∷ []) $ done !

    ending : (γ' : GName) → ent 𝓤
        (sep 𝓤 (sem 𝓛 ((MutRef (named 0) κ page_row).own_val (record { ref_ptr = (b, o); ghost_name = γ'; now = page.bytes }) (vptr b o ∷ [])))
        (sep 𝓤 (A.lft κ q) (sem 𝓛 (follows owner.the_row page_row γ γ' (with_bytes page)))))
        (Post (vptr b o))
    ending γ' =
        qed 𝓛 (‵ ((MutRef (named 0) κ page_row).own_val (record { ref_ptr = (b, o); ghost_name = γ'; now = page.bytes }) (vptr b o ∷ [])) ∷ ‵ (flft κ q) ∷
        ‵ (follows owner.the_row page_row γ γ' (with_bytes page)) ∷ []) ∵
        suffices ! _ (ends_at 𝓛 f.ended stayed (f.clauses 𝓛 at_mem run) bound (vptr b o) (record { ref_ptr = (b, o); ghost_name = γ'; now = page.bytes })
        (tt, tt) (tt, tt)) $
        nothing ! $ nothing ! $ fjoin ! $ join ! $ nothing ! $ move ! (2 ∷ 0 ∷ []) $ join ! $ join ! $ frame ! $ says ! refl $ done !

  walk : (C : Calls 𝓤 H) (Λ : Loops 𝓤 H) → ent 𝓤
      (on_entry 𝓛 f.signature (κ, tt) (q, tt) (record { ref_ptr = (rb, ro); ghost_name = γ; now = page }, tt) (vptr rb ro ∷ [], tt))
      (WpFn 𝓤 H C Λ code.function (vptr rb ro ∷ []) Post)
  walk C Λ =
      qed 𝓛 ((‵ (flft κ q) ⊛ ‵ ftrue) ∷
      ‵ (owns (MutRef (named 0) κ owner.the_row ∷ []) (record { ref_ptr = (rb, ro); ghost_name = γ; now = page }, tt) (vptr rb ro ∷ [], tt)) ∷ []) ∵
      enter ! C Λ code.function (vptr rb ro ∷ []) _ $ alloc_all ! (λ l. pass_all ! refl ((tt, tt), tt) $
      split ! $ move ! (2 ∷ []) $ fsplit ! $ fsplit3 ! $ drop ! $ move ! (0 ∷ 1 ∷ 3 ∷ []) $
      opens ! tt owner.the_row rb ro (λ vs. move ! (1 ∷ []) $
      use1 𝓛 (‵ ((B page_box).own_val (boxed page) vs)) (id⊢ 𝓤 _) $
      box_out page_box ! (boxed page) vs (λ b o hv at_b is_word fits.
      move ! (1 ∷ 2 ∷ []) $ fjoin ! $ move ! (1 ∷ []) $
      rewrite ! 2 (λ (us : List Val). ‵ (cell_at full_share owner.the_row.mir us rb ro)) is_word refl $
      -- [the bytes; the token with the handle; the owner's cell; the open borrow, in three entries; the locals]
      first ! $ blocks ! $
      sets_last ! (addr ! (through ! refl (fld ! refl (hop ! (look_in ! 2 (sub ! 0 refl (whole !))) (stop !))))) refl (tt, tt) $
      exec ! C Λ (env code.function.locals l) (after 1 code.function.body) (at_ret (env code.function.locals l) Post) $
      sets ! (of_opd ! (get ! refl)) refl (tt, tt) $
      move ! (1 ∷ 2 ∷ []) $ fjoin ! $ move ! (2 ∷ 3 ∷ 4 ∷ 1 ∷ 0 ∷ []) $ group ! 5 $
      let code_of = owner.the_row.coded.code in
      use1 𝓛
      (later (some (λ (γ' : GName).
      raw (Part 𝓛 owner.the_row page_row (with_bytes page) (named 0) κ q rb ro b o γ (sem 𝓛 (Rest b o hv)) (back b o hv at_b) page.bytes γ'))))
      (lends_Part 𝓛 owner.the_row page_row (with_bytes page) (named 0) κ q rb ro b o γ (sem 𝓛 (Rest b o hv)) (back b o hv at_b)
      (code_of page) (code_of page) page.bytes) $
      await ! tt $ pick ! (λ γ'.
      returns ! (look_at ! 0 refl) $ free_all ! refl $ keep ! (0 ∷ []) $ by ! (ending b o hv γ')))))

module _ {M : Type 1} {𝓤 : Ura M} (𝓛 : Logic 𝓤) (at_mem : Memory → SProp 𝓤) (run : Routine → Fun 𝓤) where
  meets : (𝓣 : Tables 𝓤 𝓛.H) → Meets 𝓛 f.signature (WpFn 𝓤 𝓛.H 𝓣.C 𝓣.Λ code.function) (f.spec 𝓛 at_mem run)
  meets 𝓣 =
      let runs = WpFn 𝓤 𝓛.H 𝓣.C 𝓣.Λ code.function in
      walk_Meets 𝓛 f.ended stayed (Goes-spent_ref 𝓛 1 (0 ∷ []) tt (plain (λ _. owner.the_row)), tt) (f.clauses 𝓛 at_mem run) runs
      (WpFn-mono 𝓤 𝓛.H 𝓛.laws 𝓣 code.function)
      (walked 𝓛 f.ended stayed (f.clauses 𝓛 at_mem run) runs (λ κs. (mut_vals, tt)) (λ κs. (mut_Tells (named 0) κs.0 owner.the_row, tt))
      (λ κs qs bounds a g are. via 𝓤 _ (fst∗ 𝓤 _ (emp 𝓤))
      (walk 𝓛 at_mem run κs.0 qs.0 a.0.ref_ptr.0 a.0.ref_ptr.1 a.0.ghost_name a.0.now 𝓣.C 𝓣.Λ)))

pub get_mut_spec : {M : Type 1} → statement M
unfolding tables_of
get_mut_spec 𝓤 𝓛 𝓜 𝓡 wired =
    let 𝓣 : Tables 𝓤 𝓛.H = tables_of 𝓤 𝓛.H 𝓜 (tables 𝓤 𝓛.H 𝓜 𝓡 𝓡.env) in
    entered 𝓤 𝓛.H (triple_of 𝓛 f.signature (f.spec 𝓛 𝓜.mem 𝓡.returns)) 𝓣.C 𝓣.Λ name code.function (code.unfolded 𝓤 𝓛.H 𝓜 𝓡 wired)
    (meets 𝓛 𝓜.mem 𝓡.returns 𝓣)
