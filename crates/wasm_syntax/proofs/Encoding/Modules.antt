-- The plain program reads what is encoded, and ends at the place of a fault.
use Rattle.std.proofs.Common.{◌≡◌, ℕ, ◌-◌, ◌≤◌, List, [], ◌∷◌, ◌++◌, length, take, drop, map, Option, Some, None, refl, ap, sym, ◌∙◌, subst, append_assoc, inl, inr, arith}
use Rattle.std.specs.Prelude.{option_map, option_and_then, flat_map, option_to_list}
use Rattle.std.proofs.lemmas.List.{length-append, append-nil, take_at, take-append-drop, length-drop}
use Rattle.std.proofs.lemmas.Option.{none-some, same_Some}
use Rattle.base.proofs.Options.{map_some, and_then_some}
use Rattle.wasm_syntax.specs.declared.forms.Form.{Form}
use Rattle.wasm_syntax.specs.declared.modules.Func.{Func}
use Rattle.wasm_syntax.specs.declared.modules.Module.{Module}
use Rattle.wasm_syntax.specs.Encoding.Sections.{Code, Section, CustomSection, StartSection, id_of}
use Rattle.wasm_syntax.specs.Encoding.Modules.{preamble, AreInOrder, EncodesSections, functions_in, starts_in, codes_in, code_of, AreSectionsOf, Encodes, IsLawfulUpTo, BeginsAsModule, IsFaultPlace}
use Rattle.wasm_syntax.specs.Encoding.Combinators.{first_exactly}
use Rattle.wasm_syntax.specs.Encoding.ReadModules.{lawful_sections, read_sections, funcs_of, first_of, module_with, module_of, whole_module, read_module, place_after, fault_place}
use Rattle.wasm_syntax.proofs.Encoding.Tools.{exactly_is}
use Rattle.wasm_syntax.proofs.Encoding.Numbers.{NumberLaws}
use Rattle.wasm_syntax.proofs.Encoding.Order.{few_sections, lawful_found, lawful_only, lawful_longest}

-- ---- functions of both of their sections

funcs_found : (types : List ℕ) (codes : List Code) (funcs : List Func) → funcs_of types codes ≡ Some funcs
    → (map (λ func. func.ty) funcs ≡ types) × (map code_of funcs ≡ codes)
funcs_found [] [] funcs e = subst (λ (fs : List Func). (map (λ func. func.ty) fs ≡ []) × (map code_of fs ≡ [])) (same_Some [] funcs e) (refl, refl)
funcs_found [] (code ∷ codes) funcs e = absurd (none-some _ e)
funcs_found (ty ∷ types) [] funcs e = absurd (none-some _ e)
funcs_found (ty ∷ types) (code ∷ codes) funcs e =
    let m = map_some (λ (fs : List Func). record { ty = ty; locals = code.locals; body = code.body } ∷ fs) (funcs_of types codes) funcs e in
    let rest = funcs_found types codes m.0 m.1 in
    subst (λ (fs : List Func). (map (λ func. func.ty) fs ≡ ty ∷ types) × (map code_of fs ≡ code ∷ codes)) m.2
    (ap (λ (ts : List ℕ). ty ∷ ts) rest.0, ap (λ (cs : List Code). code ∷ cs) rest.1)

funcs_only : (funcs : List Func) → funcs_of (map (λ func. func.ty) funcs) (map code_of funcs) ≡ Some funcs
funcs_only [] = refl
funcs_only (func ∷ funcs) = ap (option_map (λ (fs : List Func). func ∷ fs)) (funcs_only funcs)

-- ---- at most one start function

no_start : (last : ℕ) (sections : List Section) → 8 ≤ last → AreInOrder last sections → flat_map starts_in sections ≡ []
no_start last [] past h = refl
no_start last (CustomSection custom ∷ rest) past h = no_start last rest past h
no_start last (StartSection func ∷ rest) past h = absurd (omega (arith, h.0))
no_start last (section ∷ rest) past h = no_start (id_of section) rest (omega (arith, h.0)) h.1

one_start : (last : ℕ) (sections : List Section) → AreInOrder last sections
    → option_to_list (first_of (flat_map starts_in sections)) ≡ flat_map starts_in sections
one_start last [] h = refl
one_start last (CustomSection custom ∷ rest) h = one_start last rest h
one_start last (StartSection func ∷ rest) h = ap (λ (ns : List ℕ). func ∷ ns) (sym (no_start 8 rest (omega arith) h.1))
one_start last (section ∷ rest) h = one_start (id_of section) rest h.1

first_only : (o : Option ℕ) (ns : List ℕ) → option_to_list o ≡ ns → first_of ns ≡ o
first_only None ns e = ap first_of (sym e)
first_only (Some n) ns e = ap first_of (sym e)

-- ---- the module of sections

module_found : (sections : List Section) (m : Module) → AreInOrder 0 sections → module_of sections ≡ Some m
    → AreSectionsOf m sections
module_found sections m order e =
    let f = map_some (module_with sections) (funcs_of (flat_map functions_in sections) (flat_map codes_in sections)) m e in
    let funcs = funcs_found (flat_map functions_in sections) (flat_map codes_in sections) f.0 f.1 in
    subst (λ (n : Module). AreSectionsOf n sections) f.2 (record {
      types = refl;
      imports = refl;
      functions = funcs.0;
      codes = funcs.1;
      tables = refl;
      memories = refl;
      globals = refl;
      exports = refl;
      start = one_start 0 sections order;
      elems = refl;
      datas = refl;
      customs = refl;
    })

module_only : (sections : List Section) (m : Module) → AreSectionsOf m sections → module_of sections ≡ Some m
module_only sections m h =
    let funcs : funcs_of (flat_map functions_in sections) (flat_map codes_in sections) ≡ Some m.funcs =
    ap (λ (types : List ℕ). funcs_of types (flat_map codes_in sections)) (sym h.functions)
    ∙ ap (funcs_of (map (λ func. func.ty) m.funcs)) (sym h.codes) ∙ funcs_only m.funcs in
    let same : module_with sections m.funcs ≡ m = λ i. record {
      types = sym h.types i;
      imports = sym h.imports i;
      funcs = m.funcs;
      tables = sym h.tables i;
      memories = sym h.memories i;
      globals = sym h.globals i;
      exports = sym h.exports i;
      start = first_only m.start (flat_map starts_in sections) h.start i;
      elems = sym h.elems i;
      datas = sym h.datas i;
      customs = sym h.customs i;
    } in
    ap (option_map (module_with sections)) funcs ∙ ap Some same

module _ (laws : NumberLaws) (form : Form) where
  -- ---- the sections that are read

  read_found : (bytes : List ℕ) (result : List Section × List ℕ) → read_sections form bytes ≡ Some result
      → (front : List ℕ) × EncodesSections form front result.0 × (bytes ≡ front ++ result.1)
  unfolding read_sections
  read_found bytes result e =
      let m = map_some (λ (begun : Unit {0} × List ℕ). lawful_sections form (length bytes) 0 begun.1) (first_exactly preamble bytes) result e in
      let p = (exactly_is preamble).found bytes m.0.1 m.0.0 m.1 in
      let r = lawful_found laws form (length bytes) 0 m.0.1 in
      let made : EncodesSections form (p.0 ++ r.bytes) (lawful_sections form (length bytes) 0 m.0.1).0 = record {
        behind = r.bytes;
        begins = ap (λ (x : List ℕ). x ++ r.bytes) p.1;
        each = r.each;
        in_order = r.in_order;
      } in
      let split : bytes ≡ (p.0 ++ r.bytes) ++ (lawful_sections form (length bytes) 0 m.0.1).1 =
      p.2 ∙ ap (λ x. p.0 ++ x) r.split ∙ sym (append_assoc p.0 r.bytes (lawful_sections form (length bytes) 0 m.0.1).1) in
      subst (λ (x : List Section × List ℕ). (front : List ℕ) × EncodesSections form front x.0 × (bytes ≡ front ++ x.1)) m.2
      (p.0 ++ r.bytes, made, split)

  begun : (behind : List ℕ) → first_exactly preamble (preamble ++ behind) ≡ Some (tt, behind)
  begun behind = (exactly_is preamble).only preamble behind tt refl

  enough : (bytes front rest : List ℕ) (sections : List Section) (h : EncodesSections form front sections)
      → bytes ≡ front ++ rest → length sections ≤ length bytes
  enough bytes front rest sections h e =
      omega (arith, ap length e, length-append front rest, ap length h.begins, length-append preamble h.behind, few_sections laws form h.behind sections h.each)

  read_only_these : (bytes : List ℕ) (sections : List Section) → EncodesSections form bytes sections
      → read_sections form bytes ≡ Some (sections, [])
  unfolding read_sections
  read_only_these bytes sections h =
      ap (λ bs. option_map (λ (b : Unit {0} × List ℕ). lawful_sections form (length bytes) 0 b.1) (first_exactly preamble bs)) h.begins
      ∙ ap (option_map (λ (b : Unit {0} × List ℕ). lawful_sections form (length bytes) 0 b.1)) (begun h.behind)
      ∙ ap Some (lawful_only laws form (length bytes) 0 h.behind sections h.each h.in_order (enough bytes bytes [] sections h (sym (append-nil bytes))))

  -- ---- the module

  whole_some : (sections : List Section) (rest : List ℕ) (m : Module) → whole_module sections rest ≡ Some m
      → (rest ≡ []) × (module_of sections ≡ Some m)
  whole_some sections [] m e = (refl, e)
  whole_some sections (b ∷ rest) m e = absurd (none-some _ e)

  pub module_is_read : (bytes : List ℕ) (m : Module) → Encodes form bytes m → read_module form bytes ≡ Some m
  unfolding read_module
  module_is_read bytes m h =
      ap (option_and_then (λ (read : List Section × List ℕ). whole_module read.0 read.1)) (read_only_these bytes h.sections h.encoded)
      ∙ module_only h.sections m h.hold

  pub module_is_encoded : (bytes : List ℕ) (m : Module) → read_module form bytes ≡ Some m → Encodes form bytes m
  unfolding read_module
  module_is_encoded bytes m e =
      let b = and_then_some (read_sections form bytes) (λ (read : List Section × List ℕ). whole_module read.0 read.1) m e in
      let w = whole_some b.0.0 b.0.1 m b.2 in
      let r = read_found bytes b.0 b.1 in
      let all : bytes ≡ r.0 = r.2 ∙ ap (λ x. r.0 ++ x) w.0 ∙ append-nil r.0 in
      record {
        sections = b.0.0;
        encoded = subst (λ bs. EncodesSections form bs b.0.0) (sym all) r.1;
        hold = module_found b.0.0 m r.1.in_order w.1;
      }

  pub one_module : (bytes : List ℕ) (m n : Module) → Encodes form bytes m → Encodes form bytes n → m ≡ n
  one_module bytes m n h k = same_Some m n (sym (module_is_read bytes m h) ∙ module_is_read bytes n k)

  -- ---- the place of a fault

  front_split : (count : ℕ) (bytes : List ℕ) (sections : List Section) (h : EncodesSections form (take count bytes) sections)
      → bytes ≡ preamble ++ (h.behind ++ drop count bytes)
  front_split count bytes sections h =
      sym (take-append-drop count bytes) ∙ ap (λ (x : List ℕ). x ++ drop count bytes) h.begins
      ∙ append_assoc preamble h.behind (drop count bytes)

  begins_here : (count : ℕ) (bytes : List ℕ) (sections : List Section)
      → EncodesSections form (take count bytes) sections → BeginsAsModule bytes
  begins_here count bytes sections h = (h.behind ++ drop count bytes, front_split count bytes sections h)

  -- no lawful front is longer than what is read
  no_longer : (bytes : List ℕ) (result : List Section × List ℕ) → read_sections form bytes ≡ Some result → (count : ℕ)
      → IsLawfulUpTo form bytes count
      → count ≤ length bytes - length result.1
  unfolding read_sections
  no_longer bytes result e count h =
      let rest = drop count bytes in
      let split : bytes ≡ preamble ++ (h.encoded.behind ++ rest) = front_split count bytes h.sections h.encoded in
      let same : lawful_sections form (length bytes) 0 (h.encoded.behind ++ rest) ≡ result = same_Some _ _ (
      sym (ap (λ bs. option_map (λ (b : Unit {0} × List ℕ). lawful_sections form (length bytes) 0 b.1) (first_exactly preamble bs)) split
      ∙ ap (option_map (λ (b : Unit {0} × List ℕ). lawful_sections form (length bytes) 0 b.1)) (begun (h.encoded.behind ++ rest))) ∙ e) in
      let few = enough bytes (take count bytes) rest h.sections h.encoded (sym (take-append-drop count bytes)) in
      let longest = lawful_longest laws form (length bytes) 0 h.encoded.behind rest h.sections h.encoded.each h.encoded.in_order few in
      omega (arith, h.within, length-drop count bytes, subst (λ (r : List Section × List ℕ). length r.1 ≤ length rest) same longest)

  place : (bytes : List ℕ) (o : Option (List Section × List ℕ)) → read_sections form bytes ≡ o
      → IsFaultPlace form bytes (place_after (length bytes) o)
  unfolding read_sections
  place bytes None e = inl (
    (λ begins.
        none-some _ (sym e ∙ ap (λ bs. option_map (λ (b : Unit {0} × List ℕ). lawful_sections form (length bytes) 0 b.1) (first_exactly preamble bs)) begins.1
        ∙ ap (option_map (λ (b : Unit {0} × List ℕ). lawful_sections form (length bytes) 0 b.1)) (begun begins.0))),
    refl,
  )
  place bytes (Some result) e =
      let r = read_found bytes result e in
      let count : length bytes - length result.1 ≡ length r.0 = omega (arith, ap length r.2, length-append r.0 result.1) in
      let front : take (length bytes - length result.1) bytes ≡ r.0 =
      ap (λ n. take n bytes) count ∙ ap (take (length r.0)) r.2 ∙ take_at r.0 result.1 (length r.0) refl in
      inr (
        record { within = omega arith; sections = result.0; encoded = subst (λ bs. EncodesSections form bs result.0) (sym front) r.1 },
        no_longer bytes result e,
      )

  pub place_is : (bytes : List ℕ) → IsFaultPlace form bytes (fault_place form bytes)
  unfolding fault_place
  place_is bytes = place bytes (read_sections form bytes) refl

  pub one_place : (bytes : List ℕ) (a b : ℕ) → IsFaultPlace form bytes a → IsFaultPlace form bytes b → a ≡ b
  one_place bytes a b (inl h) (inl k) = h.1 ∙ sym k.1
  one_place bytes a b (inl h) (inr k) = absurd (h.0 (begins_here b bytes k.0.sections k.0.encoded))
  one_place bytes a b (inr h) (inl k) = absurd (k.0 (begins_here a bytes h.0.sections h.0.encoded))
  one_place bytes a b (inr h) (inr k) = omega (arith, h.1 b k.0, k.1 a h.0)
