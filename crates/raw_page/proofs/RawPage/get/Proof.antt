-- The pointer is read through the reference to its owner, and what that reference shows of the bytes is lent.
use Rattle.raw_page.proofs.Steps.{Lft, Share, ftrue, flft, fhide, SProp, ent, sep, emp, via, fst∗, fact, Fun, tables, yes, RattleType, RowLaws, owns, RawPtr, plain, nothing, heard, on_entry, Meets, triple_of, entered, says, Stays, walk_of, walked, ends_at, walk_Meets, List, [], ◌∷◌, refl, Val, vptr, ℕ, ◌+◌, Memory, Routine, Calls, Loops, WpFn, Tables, Ura, WpFn-mono, alloc_all, pass_all, free_all, look_at, get, through, sets, sets_last, env, at_ret, ‵, raw, ◌⊛◌, ◌$◌, ◌∵◌, !, qed, by, move, keep, drop, use1, join, split, fsplit, fjoin, feq_i, suffices, frame, done, Logic, sem, stop, fld, hop, look, addr, of_opd, returns, enter, first, blocks, exec}
use contract.Running.{tables_of}
use denote.Memory.{hidden_shr}
use denote.Opens.{shr_dup, unhide, hide}
use denote.RawPtr.{block_of, count_of, InBlock, ptr_row_laws}
use denote.Ref.{Bor, ShrRef, shr_vals, shr_Tells}
use denote.Struct.Lending.{in_block_says, lent_out}
use denote.Struct.Owning.{shape, to}
use denote.Struct.Struct.{Struct, Struct-row_laws}
use denote.Triple.Walked.{stay_none_ref, Goes-none_ref}
use mir.Syntax.{named}
use Rattle.std_alloc.proofs.VecSteps.Shapes.{after}
use Rattle.std_alloc.proofs.Words.{pointer_in, pointer_out}
use Rattle.std_heap.specs.contracts.Global as Heap
use Rattle.std_heap.proofs.Global.TheLaws as heap
use Rattle.raw_page.proofs.Row.{page_row}
use Rattle.raw_page.specs.contracts.RawPage as owner
use Rattle.raw_page.proofs.RawPage.TheLaws as laws
use Rattle.raw_page.specs.contracts.RawPage.get as f
use Rattle.raw_page.specs.contracts.RawPage.get.Key.{name}
use Rattle.raw_page.proofs.RawPage.get.Statement.{statement}
use Rattle.raw_page.proofs.RawPage.get.Code as code

-- the owner with its fields alone
abbrev Fields : RattleType
Fields = Struct (shape owner.the_type)

fields_laws : RowLaws Fields
fields_laws = Struct-row_laws (shape owner.the_type) (ptr_row_laws, (heap.the_field_shared.shr_laws, tt))

abbrev stayed : Stays f.ended.signature.params f.ended.kept
stayed = (stay_none_ref (0 ∷ []) tt (plain (λ _. owner.the_row)) yes, tt)

module _ {M : Type 1} {𝓤 : Ura M} (𝓛 : Logic 𝓤) (mem : Memory → SProp 𝓤) (run : Routine → Fun 𝓤) where
  open 𝓛 use {H, A}

  module _ (κ : Lft) (q : Share) (b o : ℕ) (page : owner.the_row.Denot) where
    abbrev self : Bor owner.the_row.Denot
    self = record { ref_ptr = (b, o); now = page }

    abbrev bound : (walk_of 𝓛 f.ended stayed (f.clauses 𝓛 mem run)).Ghost
    bound = (((κ, tt), (q, tt), tt, (self, tt), (vptr b o ∷ [], tt)), tt)

    abbrev Post : Val → SProp 𝓤
    Post = (walk_of 𝓛 f.ended stayed (f.clauses 𝓛 mem run)).post bound

    -- where the page is
    abbrev at : ℕ × ℕ
    at = (block_of page.ptr, count_of page.ptr)

    shows_pointer : ent 𝓤 (sem 𝓛 (hidden_shr Fields κ (to owner.the_type page) b o))
        (sep 𝓤 (sem 𝓛 (hidden_shr RawPtr κ page.ptr b (o + 0))) (sem 𝓛 (hidden_shr Fields κ (to owner.the_type page) b o)))
    shows_pointer =
        qed 𝓛 (‵ (hidden_shr Fields κ (to owner.the_type page) b o) ∷ []) ∵
        shr_dup ! Fields fields_laws (to owner.the_type page) b o κ $ unhide ! $ fsplit ! $ fsplit ! $ hide ! $ keep ! (0 ∷ 3 ∷ []) $ done !

    -- the reference to the owner stays, and the one to the bytes is the result
    ending : ent 𝓤 (sep 𝓤 (A.lft κ q) (sep 𝓤 (sem 𝓛 (hidden_shr owner.the_row κ page b o)) (sem 𝓛 (hidden_shr page_row κ page.bytes at.0 at.1))))
        (Post (vptr at.0 at.1))
    ending =
        qed 𝓛 (‵ (flft κ q) ∷ ‵ (hidden_shr owner.the_row κ page b o) ∷ ‵ (hidden_shr page_row κ page.bytes at.0 at.1) ∷ []) ∵
        suffices ! _ (ends_at 𝓛 f.ended stayed (f.clauses 𝓛 mem run) bound (vptr at.0 at.1)
        (record { ref_ptr = at; now = page.bytes }) (tt, tt) (tt, tt)) $ says ! refl $
        nothing ! $ move ! (1 ∷ 0 ∷ []) $ join ! $ frame ! $
        feq_i ! (List Val) (vptr b o ∷ []) (vptr b o ∷ []) refl $ fjoin ! $ nothing ! $ move ! (1 ∷ 0 ∷ []) $ fjoin ! $ frame ! $
        feq_i ! (List Val) (vptr at.0 at.1 ∷ []) (vptr at.0 at.1 ∷ []) refl $ fjoin ! $ done !

    walk : (C : Calls 𝓤 H) (Λ : Loops 𝓤 H)
        → ent 𝓤 (on_entry 𝓛 f.signature (κ, tt) (q, tt) (self, tt) (vptr b o ∷ [], tt)) (WpFn 𝓤 H C Λ code.function (vptr b o ∷ []) Post)
    walk C Λ =
        qed 𝓛 ((‵ (flft κ q) ⊛ ‵ ftrue) ∷ ‵ (owns (ShrRef (named 0) κ owner.the_row ∷ []) (self, tt) (vptr b o ∷ [], tt)) ∷ []) ∵
        enter ! C Λ code.function (vptr b o ∷ []) _ $ alloc_all ! (λ l. pass_all ! refl ((tt, tt), tt) $
        split ! $ move ! (2 ∷ []) $ fsplit ! $ fsplit ! $ drop ! $
        -- [the reference; nothing; the lifetime; nothing; the locals]
        shr_dup ! owner.the_row laws.the_row_laws.shr_laws page b o κ $
        use1 𝓛 (‵ (hidden_shr Fields κ (to owner.the_type page) b o) ⊛ ‵ (fhide (owner.the_lent page page.ptr κ)))
        (lent_out 𝓛 owner.struct (owner.the_codes Heap.the_row.coded) owner.the_heap owner.the_lent κ page b o) $ split ! $ move ! (1 ∷ []) $
        unhide ! $ fsplit ! $ use1 𝓛 (raw (fact 𝓤 (InBlock page.ptr))) (in_block_says 𝓛 page.ptr) $ heard ! (InBlock page.ptr) (λ placed. hide ! $
        -- [the bytes; the fields; the reference; nothing; the lifetime; nothing; the locals]
        move ! (1 ∷ 4 ∷ []) $ first ! $ blocks ! $
        pointer_in ! tt page.ptr placed b (o + 0) shows_pointer (λ part.
        sets_last ! (addr ! (through ! refl (fld ! refl (hop ! (look ! 1 refl) (stop !))))) refl (tt, tt) $
        exec ! C Λ (env code.function.locals l) (after 1 code.function.body) (at_ret (env code.function.locals l) Post) $
        pointer_out ! tt page.ptr placed b (o + 0) $
        sets ! (of_opd ! (get ! refl)) refl (tt, tt) $
        returns ! (look_at ! 0 refl) $ free_all ! refl $
        -- [the lifetime; the fields; the bytes; the reference]
        keep ! (0 ∷ 3 ∷ 2 ∷ []) $ by ! ending)))

  meets : (𝓣 : Tables 𝓤 H) → Meets 𝓛 f.signature (WpFn 𝓤 H 𝓣.C 𝓣.Λ code.function) (f.spec 𝓛 mem run)
  meets 𝓣 =
      let runs = WpFn 𝓤 H 𝓣.C 𝓣.Λ code.function in
      walk_Meets 𝓛 f.ended stayed (Goes-none_ref 𝓛 1 (0 ∷ []) tt (plain (λ _. owner.the_row)) yes, tt) (f.clauses 𝓛 mem run) runs
      (WpFn-mono 𝓤 H 𝓛.laws 𝓣 code.function)
      (walked 𝓛 f.ended stayed (f.clauses 𝓛 mem run) runs (λ κs. (shr_vals, tt)) (λ κs. (shr_Tells (named 0) κs.0 owner.the_row, tt))
      (λ κs qs bounds a g are. via 𝓤 _ (fst∗ 𝓤 _ (emp 𝓤)) (walk κs.0 qs.0 a.0.ref_ptr.0 a.0.ref_ptr.1 a.0.now 𝓣.C 𝓣.Λ)))

pub get_spec : {M : Type 1} → statement M
unfolding tables_of
get_spec 𝓤 𝓛 𝓜 𝓡 wired =
    let 𝓣 : Tables 𝓤 𝓛.H = tables_of 𝓤 𝓛.H 𝓜 (tables 𝓤 𝓛.H 𝓜 𝓡 𝓡.env) in
    entered 𝓤 𝓛.H (triple_of 𝓛 f.signature (f.spec 𝓛 𝓜.mem 𝓡.returns)) 𝓣.C 𝓣.Λ name code.function (code.unfolded 𝓤 𝓛.H 𝓜 𝓡 wired)
    (meets 𝓛 𝓜.mem 𝓡.returns 𝓣)
