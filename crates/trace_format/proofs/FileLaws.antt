-- What is read of a file is what its bytes encode, for files of any kind with a header, items and an end.
use Rattle.std.proofs.Common.{◌≡◌, ℕ, zero, suc, ◌+◌, ◌<◌, ◌≤◌, ◌⊎◌, List, [], ◌∷◌, ◌++◌, length, Option, Some, None, refl, ap, sym, ◌∙◌, subst, append_assoc, inl, inr, arith}
use Rattle.std.specs.Prelude.{flat_map}
use Rattle.std.specs.List.{AllByRecursion}
use Rattle.std.proofs.lemmas.List.{append-nil, length-append}
use Rattle.std.proofs.lemmas.Option.{none-some, some_pair_parts}
use Rattle.leb_bytes.specs.Encoding.{IsReadBy}
use Rattle.wasm_syntax.specs.Encoding.Combinators.{Reader, first_items}
use Rattle.trace_format.specs.Faults.{IsFaultPlace, IsFileFront, IsOtherVersion, perhaps}
use Rattle.trace_format.specs.Files.{AreAllRead, AreRead, IsBadAt, IsCut, IsReadTo, IsWhole}
use Rattle.trace_format.specs.Laws.{Spells}
use Rattle.trace_format.proofs.FileAnswers.{FileFacts}

abbrev pub IsAny : {A : Type 0} → A → Type 0
IsAny x = Unit {0}

no_cons : (b : ℕ) (rest : List ℕ) → b ∷ rest ≡ [] → ⊥
no_cons b rest h = cc

some_none : {A : Type 0} (o : Option A) (x : A) → o ≡ Some x → o ≡ None → ⊥
some_none o x is none = none-some x (sym none ∙ is)

-- ---- items one after another

module _ {A : Type 0} (read : Reader A) where
  -- one more, after the others
  pub read_last : (bytes mid left : List ℕ) (xs : List A) (x : A) → AreRead read bytes xs mid
      → read mid ≡ Some (x, left) → AreRead read bytes (xs ++ x ∷ []) left
  read_last bytes mid left [] x here next = (left, ap read here ∙ next, refl)
  read_last bytes mid left (y ∷ ys) x here next = (here.0, here.1, read_last here.0 mid left ys x here.2 next)

  -- reading a given number of items: all of them; fewer
  pub counted_read : (bytes left : List ℕ) (xs : List A) → AreRead read bytes xs left
      → first_items read (length xs) bytes ≡ Some (xs, left)
  counted_read bytes left [] here = ap (λ r. Some ([], r)) here
  counted_read bytes left (x ∷ xs) here = rw (here.1, counted_read here.0 left xs here.2) refl

  pub counted_missed : (bytes left : List ℕ) (xs : List A) (count : ℕ) → AreRead read bytes xs left
      → length xs < count → read left ≡ None → first_items read count bytes ≡ None
  counted_missed bytes left [] zero here few none = absurd (omega (arith, few))
  counted_missed bytes left [] (suc more) here few none = rw (here, none) refl
  counted_missed bytes left (x ∷ xs) zero here few none = absurd (omega (arith, few))
  counted_missed bytes left (x ∷ xs) (suc more) here few none =
      rw (here.1, counted_missed here.0 left xs more here.2 (omega (arith, few)) none) refl

  -- items that a reader reads are the first of all items that it reads
  pub rest_read : (bytes left other : List ℕ) (xs ys : List A) → AreRead read bytes xs left → read left ≡ None
      → AreRead read bytes ys other → (zs : List A) × AreRead read other zs left × (xs ≡ ys ++ zs)
  rest_read bytes left other xs [] one none two = (xs, subst (λ b. AreRead read b xs left) two one, refl)
  rest_read bytes left other [] (y ∷ ys) one none two = absurd (some_none (read bytes) (y, two.0) two.1 (ap read one ∙ none))
  rest_read bytes left other (x ∷ xs) (y ∷ ys) one none two =
      let parts = some_pair_parts x y one.0 two.0 (sym one.1 ∙ two.1) in
      let later = rest_read two.0 left other xs ys (subst (λ b. AreRead read b xs left) parts.1 one.2) none two.2 in
      (later.0, later.1, ap (λ z. z ∷ xs) parts.0 ∙ ap (λ zs. y ∷ zs) later.2)

  pub none_read : (other left : List ℕ) (zs : List A) → AreRead read other zs left → read other ≡ None
      → (zs ≡ []) × (other ≡ left)
  none_read other left [] here none = (refl, here)
  none_read other left (z ∷ zs) here none = absurd (some_none (read other) (z, here.0) here.1 none)

  pub one_reading : (bytes left other : List ℕ) (xs ys : List A) → AreAllRead read bytes xs left
      → AreAllRead read bytes ys other → (xs ≡ ys) × (left ≡ other)
  one_reading bytes left other xs ys one two =
      let later = rest_read bytes left other xs ys one.items one.ended two.items in
      let none = none_read other left later.0 later.1 two.ended in
      (later.2 ∙ ap (λ zs. ys ++ zs) none.0 ∙ append-nil ys, sym none.1)

-- ---- files

module _ {H A O : Type 0} (FH : H → Type 0) (sH : H → List ℕ) (FA : H → A → Type 0) (sA : A → List ℕ) (sO : O → List ℕ)
    (head : Reader H) (item : H → Reader A) (last : Reader O)
    (head_reads : IsReadBy (Spells FH sH) head)
    (item_reads : (h : H) → IsReadBy (Spells (FA h) sA) (item h))
    (last_reads : IsReadBy (Spells IsAny sO) last)
    (apart : (h : H) (o : O) (rest : List ℕ) → item h (sO o ++ rest) ≡ None) where
  items_spelled : (h : H) (bytes left : List ℕ) (xs : List A) → AreRead (item h) bytes xs left
      → AllByRecursion (FA h) xs × (bytes ≡ flat_map sA xs ++ left)
  items_spelled h bytes left [] here = (tt, here)
  items_spelled h bytes left (x ∷ xs) here =
      let f = (item_reads h).found bytes here.0 x here.1 in
      let others = items_spelled h here.0 left xs here.2 in (
        (f.1.fits, others.0),
        f.2 ∙ ap (λ r. r ++ here.0) f.1.spelled ∙ ap (λ r. sA x ++ r) others.1
            ∙ sym (append_assoc (sA x) (flat_map sA xs) left),
      )

  spelled_items : (h : H) (xs : List A) (left : List ℕ) → AllByRecursion (FA h) xs
      → AreRead (item h) (flat_map sA xs ++ left) xs left
  spelled_items h [] left fit = refl
  spelled_items h (x ∷ xs) left fit = (
    flat_map sA xs ++ left,
    ap (item h) (append_assoc (sA x) (flat_map sA xs) left)
        ∙ (item_reads h).only (sA x) (flat_map sA xs ++ left) x (record { fits = fit.0; spelled = refl }),
    spelled_items h xs left fit.1,
  )

  head_read : (h : H) (later : List ℕ) → FH h → head (sH h ++ later) ≡ Some (h, later)
  head_read h later fits = head_reads.only (sH h) later h (record { fits = fits; spelled = refl })

  -- the bytes of a file, by what is read so far
  read_to_spelled : (bytes left : List ℕ) (h : H) (xs : List A) → IsReadTo head item bytes h xs left
      → FH h × AllByRecursion (FA h) xs × (bytes ≡ sH h ++ (flat_map sA xs ++ left))
  read_to_spelled bytes left h xs to =
      let f = head_reads.found bytes to.start h to.header_read in
      let items = items_spelled h to.start left xs to.items_read.items in (
        f.1.fits,
        items.0,
        f.2 ∙ ap (λ r. r ++ to.start) f.1.spelled ∙ ap (λ r. sH h ++ r) items.1,
      )

  last_spelled : (left rest : List ℕ) (o : O) → last left ≡ Some (o, rest) → left ≡ sO o ++ rest
  last_spelled left rest o e = let f = last_reads.found left rest o e in f.2 ∙ ap (λ r. r ++ rest) f.1.spelled

  whole_spelled : (bytes : List ℕ) (h : H) (xs : List A) (o : O) → IsWhole head item last bytes h xs o
      → FH h × AllByRecursion (FA h) xs × (bytes ≡ sH h ++ (flat_map sA xs ++ sO o))
  whole_spelled bytes h xs o whole =
      let to = read_to_spelled bytes whole.left h xs whole.read_to in
      let ends : whole.left ≡ sO o = last_spelled whole.left [] o whole.end_read ∙ append-nil (sO o) in
      (to.0, to.1, to.2 ∙ ap (λ r. sH h ++ (flat_map sA xs ++ r)) ends)

  spelled_whole : (bytes : List ℕ) (h : H) (xs : List A) (o : O) → FH h → AllByRecursion (FA h) xs
      → bytes ≡ sH h ++ (flat_map sA xs ++ sO o) → IsWhole head item last bytes h xs o
  spelled_whole bytes h xs o fits fit parts = record {
    left = sO o;
    read_to = record {
      start = flat_map sA xs ++ sO o;
      header_read = ap head parts ∙ head_read h (flat_map sA xs ++ sO o) fits;
      items_read = record {
        items = spelled_items h xs (sO o) fit;
        ended = subst (λ r. item h r ≡ None) (append-nil (sO o)) (apart h o []);
      };
    };
    end_read = ap last (sym (append-nil (sO o))) ∙ last_reads.only (sO o) [] o (record { fits = tt; spelled = refl });
  }

  -- a file has at most one reading
  one_read_to : (bytes left other : List ℕ) (h k : H) (xs ys : List A) → IsReadTo head item bytes h xs left
      → IsReadTo head item bytes k ys other → (h ≡ k) × (xs ≡ ys) × (left ≡ other)
  one_read_to bytes left other h k xs ys one two =
      let parts = some_pair_parts h k one.start two.start (sym one.header_read ∙ two.header_read) in
      let moved : AreAllRead (item k) two.start xs left =
      subst (λ r. AreAllRead (item k) r xs left) parts.1 (subst (λ x. AreAllRead (item x) one.start xs left) parts.0 one.items_read) in
      let same = one_reading (item k) two.start left other xs ys moved two.items_read in
      (parts.0, same.0, same.1)

  one_whole : (bytes : List ℕ) (h k : H) (xs ys : List A) (o p : O) → IsWhole head item last bytes h xs o
      → IsWhole head item last bytes k ys p → (h ≡ k) × (xs ≡ ys) × (o ≡ p)
  one_whole bytes h k xs ys o p one two =
      let to = one_read_to bytes one.left two.left h k xs ys one.read_to two.read_to in
      let parts = some_pair_parts o p [] [] (sym one.end_read ∙ ap last to.2 ∙ two.end_read) in
      (to.0, to.1, parts.0)

  cut_not_whole : (bytes : List ℕ) (at : ℕ) (h : H) (xs : List A) (o : O) → IsCut head item last bytes at
      → IsWhole head item last bytes h xs o → ⊥
  cut_not_whole bytes at h xs o cut whole =
      let to = one_read_to bytes cut.left whole.left cut.header h cut.items xs cut.read_to whole.read_to in
      let ends : last cut.left ≡ Some (o, []) = ap last to.2 ∙ whole.end_read in
      elim cut.fault [
        | inl none ↦ some_none (last cut.left) (o, []) ends none.0
        | inr more ↦ no_cons more.1 more.2 (some_pair_parts more.0 o (more.1 ∷ more.2) [] (sym more.3 ∙ ends)).1
      ]

  bad_not_whole : (bytes : List ℕ) (at : ℕ) (h : H) (xs : List A) (o : O) → IsBadAt head item last bytes at
      → IsWhole head item last bytes h xs o → ⊥
  bad_not_whole bytes at h xs o bad whole = elim bad [
    | inl none ↦ some_none (head bytes) (h, whole.read_to.start) whole.read_to.header_read none.0
    | inr cut ↦ cut_not_whole bytes at h xs o cut whole
  ]

  -- ---- prefixes

  abbrev Front : List ℕ → ℕ → Type 0
  Front = IsFileFront FH sH FA sA sO

  front_head : (bytes : List ℕ) (count : ℕ) (f : Front bytes count)
      → head bytes ≡ Some (f.header, flat_map sA f.items ++ (perhaps sO f.close ++ f.rest))
  front_head bytes count f = ap head f.parts ∙ head_read f.header _ f.fits

  -- the bytes after any prefix continue with the other items that are read
  goes_on : (bytes left : List ℕ) (count : ℕ) (h : H) (xs : List A) → IsReadTo head item bytes h xs left
      → (f : Front bytes count) → (zs : List A) × AreRead (item f.header) (perhaps sO f.close ++ f.rest) zs left
  goes_on bytes left count h xs to f =
      let start = flat_map sA f.items ++ (perhaps sO f.close ++ f.rest) in
      let parts = some_pair_parts h f.header to.start start (sym to.header_read ∙ front_head bytes count f) in
      let moved : AreAllRead (item f.header) start xs left =
      subst (λ r. AreAllRead (item f.header) r xs left) parts.1 (subst (λ x. AreAllRead (item x) to.start xs left) parts.0 to.items_read) in
      let later = rest_read (item f.header) start left (perhaps sO f.close ++ f.rest) xs f.items moved.items moved.ended
      (spelled_items f.header f.items (perhaps sO f.close ++ f.rest) f.fit) in
      (later.0, later.1)

  -- no such prefix is longer than what was read
  none_longer : (bytes left rest : List ℕ) (at count : ℕ) (h : H) (close : Option O) (zs : List A)
      → AreRead (item h) (perhaps sO close ++ rest) zs left
      → count + length rest ≡ length bytes
      → ((last left ≡ None) × (at + length left ≡ length bytes))
      ⊎ ((o : O) × (b : ℕ) × (more : List ℕ) × (last left ≡ Some (o, b ∷ more)) × (at + length (b ∷ more) ≡ length bytes))
      → count ≤ at
  none_longer bytes left rest at count h None zs read counted fault =
      let spelled = items_spelled h rest left zs read in
      let longer : length left ≤ length rest = omega (arith, ap length spelled.1, length-append (flat_map sA zs) left) in
      elim fault [
        | inl none ↦ omega (arith, longer, counted, none.1)
        | inr more ↦
            let parts = last_spelled left (more.1 ∷ more.2) more.0 more.3 in
            let shorter : length (more.1 ∷ more.2) ≤ length left = omega (arith, ap length parts, length-append (sO more.0) (more.1 ∷ more.2)) in
            omega (arith, longer, shorter, counted, more.4)
      ]
  none_longer bytes left rest at count h (Some o) zs read counted fault =
      let none = none_read (item h) (sO o ++ rest) left zs read (apart h o rest) in
      let ends : last left ≡ Some (o, rest) = ap last (sym none.1) ∙ last_reads.only (sO o) rest o (record { fits = tt; spelled = refl }) in
      elim fault [
        | inl no_end ↦ absurd (some_none (last left) (o, rest) ends no_end.0)
        | inr more ↦
            let same = (some_pair_parts o more.0 rest (more.1 ∷ more.2) (sym ends ∙ more.3)).1 in
            omega (arith, counted, more.4, ap length same)
      ]

  cut_front : (bytes : List ℕ) (at : ℕ) → IsCut head item last bytes at → Front bytes at
  cut_front bytes at cut =
      let to = read_to_spelled bytes cut.left cut.header cut.items cut.read_to in
      elim cut.fault [
        | inl none ↦ record {
          header = cut.header;
          items = cut.items;
          close = None;
          rest = cut.left;
          fits = to.0;
          fit = to.1;
          parts = to.2;
          counted = none.1;
        }
        | inr more ↦ record {
          header = cut.header;
          items = cut.items;
          close = Some more.0;
          rest = more.1 ∷ more.2;
          fits = to.0;
          fit = to.1;
          parts = to.2 ∙ ap (λ r. sH cut.header ++ (flat_map sA cut.items ++ r)) (last_spelled cut.left (more.1 ∷ more.2) more.0 more.3);
          counted = more.4;
        }
      ]

  bad_place : (bytes : List ℕ) (at : ℕ) → IsBadAt head item last bytes at → IsFaultPlace (Front bytes) at
  bad_place bytes at bad = elim bad [
    | inl none ↦ inl (
      (λ count f. some_none (head bytes) _ (front_head bytes count f) none.0),
      none.1,
    )
    | inr cut ↦ inr (
      cut_front bytes at cut,
      (λ count f.
          let later = goes_on bytes cut.left count cut.header cut.items cut.read_to f in
          none_longer bytes cut.left f.rest at count f.header f.close later.0 later.1 f.counted cut.fault),
    )
  ]

  -- the facts of a kind of files whose content has a header by its version, items and an end
  pub file_facts : {C : Type 0} (magic bytes : List ℕ) (Is : ℕ → C → Type 0) (header : ℕ → C → H) (items : C → List A)
      (close : C → O)
      → ((version : ℕ) (content : C) → FH (header version content)
      → AllByRecursion (FA (header version content)) (items content)
      → bytes ≡ sH (header version content) ++ (flat_map sA (items content) ++ sO (close content))
      → Is version content)
      → ((version : ℕ) (content : C) → Is version content → FH (header version content)
      × AllByRecursion (FA (header version content)) (items content)
      × (bytes ≡ sH (header version content) ++ (flat_map sA (items content) ++ sO (close content))))
      → ((version other : ℕ) (content second : C) → header version content ≡ header other second
      → items content ≡ items second → close content ≡ close second → content ≡ second)
      → ((content : C) (found : ℕ) → (version : ℕ) × Is version content → IsOtherVersion magic bytes found → ⊥)
      → FileFacts magic bytes (λ content. (version : ℕ) × Is version content)
      (λ content. (version : ℕ)
      × IsWhole head item last bytes (header version content) (items content) (close content))
      (Front bytes) (IsBadAt head item last bytes)
  file_facts magic bytes Is header items close made parts same of_version = record {
    read_is = λ content read.
        let w = whole_spelled bytes (header read.0 content) (items content) (close content) read.1 in
        (read.0, made read.0 content w.0 w.1 w.2);
    is_read = λ content is.
        let p = parts is.0 content is.1 in
        (is.0, spelled_whole bytes (header is.0 content) (items content) (close content) p.0 p.1 p.2);
    one = λ content second read also.
        let w = one_whole bytes (header read.0 content) (header also.0 second) (items content) (items second)
        (close content) (close second) read.1 also.1 in
        same read.0 also.0 content second w.0 w.1 w.2;
    none = λ at content bad read.
        bad_not_whole bytes at (header read.0 content) (items content) (close content) bad read.1;
    place = bad_place bytes;
    of_version = of_version;
  }
