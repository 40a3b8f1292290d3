-- What a module's data segments hold are bytes of its encoding.
use Rattle.std.proofs.Common.{ℕ, ◌<◌, List, [], ◌∷◌, ◌++◌, All, sym, subst}
use Rattle.std.specs.Prelude.{flat_map}
use Rattle.std.specs.List.{AllByRecursion}
use Rattle.std.proofs.lemmas.List.Elements.{All-nil, All-cons, All-append, All-from_recursion, recursion_from_All}
use Rattle.wasm_syntax.specs.declared.forms.Form.{Form}
use Rattle.wasm_syntax.specs.declared.modules.DataSeg.{DataSeg}
use Rattle.wasm_syntax.specs.declared.modules.Module.{Module}
use Rattle.wasm_syntax.specs.Encoding.Grammar.{Grammar, Each}
use Rattle.wasm_syntax.specs.Encoding.Sections.{Section, DataSection, EncodesDataSeg, EncodesSection}
use Rattle.wasm_syntax.specs.Encoding.Modules.{preamble, datas_in, Encodes}

abbrev AreBytes : List ℕ → Type 0
AreBytes = AllByRecursion (λ b. b < 256)

abbrev HoldsBytes : DataSeg → Type 0
HoldsBytes segment = All (λ b. b < 256) segment.bytes

front : (xs ys : List ℕ) → AreBytes (xs ++ ys) → AreBytes xs
front [] ys h = tt
front (x ∷ xs) ys h = (h.0, front xs ys h.1)

after : (xs ys : List ℕ) → AreBytes (xs ++ ys) → AreBytes ys
after [] ys h = h
after (x ∷ xs) ys h = after xs ys h.1

each : {A : Type 0} (E : Grammar A) (P : A → Type 0) → ((bytes : List ℕ) (x : A) → AreBytes bytes → E bytes x → P x)
    → (bytes : List ℕ) (xs : List A) → AreBytes bytes → Each E bytes xs → All P xs
each E P holds bytes [] small h = All-nil P
each E P holds bytes (x ∷ xs) small h =
    let parts : AreBytes (h.0 ++ h.1) = subst AreBytes h.2 small in
    All-cons P x xs (holds h.0 x (front h.0 h.1 parts) h.3) (each E P holds h.1 xs (after h.0 h.1 parts) h.4)

module _ (form : Form) where
  segment : (bytes : List ℕ) (d : DataSeg) → AreBytes bytes → EncodesDataSeg form bytes d → HoldsBytes d
  segment bytes d small h =
      let offset_on : AreBytes h.1 = after h.0 h.1 (subst AreBytes h.2 small) in
      let e = h.4 in
      let held : AreBytes e.1 = after e.0 e.1 (subst AreBytes e.2 offset_on) in
      let b = e.4 in
      let content : AreBytes b.1 = after b.0 b.1 (subst AreBytes b.2 held) in
      All-from_recursion (λ b. b < 256) d.bytes (subst AreBytes b.4 content)

  section : (bytes : List ℕ) (s : Section) → AreBytes bytes → EncodesSection form bytes s → All HoldsBytes (datas_in s)
  section bytes (DataSection datas) small h =
      let sized : AreBytes h.0 = after (11 ∷ []) h.0 (subst AreBytes h.1 small) in
      let s = h.2 in
      let content : AreBytes s.1 = after s.0 s.1 (subst AreBytes s.2 sized) in
      let v = s.4 in
      each (EncodesDataSeg form) HoldsBytes segment v.1 datas (after v.0 v.1 (subst AreBytes v.2 content)) v.4
  section bytes other small h = All-nil HoldsBytes

  all_sections : (bytes : List ℕ) (sections : List Section) → AreBytes bytes
      → Each (EncodesSection form) bytes sections → All HoldsBytes (flat_map datas_in sections)
  all_sections bytes [] small h = All-nil HoldsBytes
  all_sections bytes (s ∷ rest) small h =
      let parts : AreBytes (h.0 ++ h.1) = subst AreBytes h.2 small in
      All-append HoldsBytes (datas_in s) (flat_map datas_in rest) (section h.0 s (front h.0 h.1 parts) h.3)
      (all_sections h.1 rest (after h.0 h.1 parts) h.4)

  pub segments_hold_bytes : (bytes : List ℕ) (m : Module) → All (λ b. b < 256) bytes → Encodes form bytes m
      → All (λ segment. All (λ b. b < 256) segment.bytes) m.datas
  segments_hold_bytes bytes m small h =
      let small_after : AreBytes h.encoded.behind = after preamble h.encoded.behind
      (subst AreBytes h.encoded.begins (recursion_from_All (λ b. b < 256) bytes small)) in
      subst (All HoldsBytes) (sym h.hold.datas) (all_sections h.encoded.behind h.sections small_after h.encoded.each)
