-- The two numbers of a layout have one reading.
use Rattle.std.proofs.Common.{◌≡◌, ℕ, ◌+◌, ◌<◌, ◌≤◌, ◌^◌, List, [], ◌∷◌, ◌++◌, length, drop, Option, Some, None, sym, ◌∙◌, ap, subst, arith}
use Rattle.std.proofs.lemmas.List.{append-nil}
use Rattle.leb_bytes.specs.Encoding.{IsEncoding}
use Rattle.leb_bytes.specs.Unsigned.{EncodesU32, first_u32, u32_bytes}
use Rattle.wasm_syntax.specs.declared.modules.Custom.{Custom}
use Rattle.wasm_syntax.specs.declared.modules.Module.{Module}
use Rattle.wasm_syntax.specs.Index.{func_indices}
use Rattle.history_spec.specs.Projection.{Layout}
use Rattle.replay_form.specs.Forms.{AreLayoutBytes, HasLayout, layout_sections}
use Rattle.replay_form.specs.Laws.{LayoutBytesAreOne}

-- a number that is read, and the bytes after it
abbrev Read : Type 0
Read = Option (ℕ × List ℕ)

same-read : (o : Read) (p q : ℕ × List ℕ) → o ≡ Some p → o ≡ Some q → p ≡ q
same-read o p q e f = cc (sym e ∙ f)

same-value : (o : Read) (a b : ℕ) (x y : List ℕ) → o ≡ Some (a, x) → o ≡ Some (b, y) → a ≡ b
same-value o a b x y e f = ap (λ (p : ℕ × List ℕ). p.0) (same-read o (a, x) (b, y) e f)

same-rest : (o : Read) (a b : ℕ) (x y : List ℕ) → o ≡ Some (a, x) → o ≡ Some (b, y) → x ≡ y
same-rest o a b x y e f = ap (λ (p : ℕ × List ℕ). p.1) (same-read o (a, x) (b, y) e f)

none-some : (o : Read) (a : ℕ) (x : List ℕ) → o ≡ None → o ≡ Some (a, x) → ⊥
none-some None a x e f = cc f
none-some (Some y) a x e f = cc e

-- a layout by its numbers
abbrev layout_by : ℕ → ℕ → Layout
layout_by imports defined = record { imports = imports; defined = defined }

same-section : (l : List Custom) (a b : Custom) → l ≡ a ∷ [] → l ≡ b ∷ [] → a ≡ b
same-section l a b e f = cc (sym e ∙ f)

module _ (encoding : IsEncoding EncodesU32 first_u32 (λ n. n < 2 ^ 32) u32_bytes) where
  -- the bytes begin with the first number
  first_read : (bytes : List ℕ) (layout : Layout) → AreLayoutBytes bytes layout → first_u32 bytes ≡ Some (layout.imports, u32_bytes layout.defined)
  first_read bytes layout h =
      ap first_u32 h.written
      ∙ encoding.read.only (u32_bytes layout.imports) (u32_bytes layout.defined) layout.imports (encoding.shortest.encodes layout.imports h.small_imports)

  -- the second number is all that follows
  second_read : (defined : ℕ) → defined < 2 ^ 32 → first_u32 (u32_bytes defined) ≡ Some (defined, [])
  second_read defined small =
      ap first_u32 (sym (append-nil (u32_bytes defined))) ∙ encoding.read.only (u32_bytes defined) [] defined (encoding.shortest.encodes defined small)

  -- ---- bytes that are read

  module _ (bytes : List ℕ) (imports next : ℕ) (read : first_u32 bytes ≡ Some (imports, drop next bytes))
      (layout : Layout) (h : AreLayoutBytes bytes layout) where
    rest : drop next bytes ≡ u32_bytes layout.defined
    rest = same-rest (first_u32 bytes) imports layout.imports (drop next bytes) (u32_bytes layout.defined) read (first_read bytes layout h)

    pub no_second : first_u32 (drop next bytes) ≡ None → ⊥
    no_second none =
        none-some (first_u32 (drop next bytes)) layout.defined [] none (ap first_u32 rest ∙ second_read layout.defined h.small_defined)

    pub written_as_read : (defined : ℕ) (more : List ℕ) → first_u32 (drop next bytes) ≡ Some (defined, more) → u32_bytes imports ++ u32_bytes defined ≡ bytes
    written_as_read defined more again =
        let first : imports ≡ layout.imports =
        same-value (first_u32 bytes) imports layout.imports (drop next bytes) (u32_bytes layout.defined) read (first_read bytes layout h)
        in
        let second : defined ≡ layout.defined =
        same-value (first_u32 (drop next bytes)) defined layout.defined more [] again (ap first_u32 rest ∙ second_read layout.defined h.small_defined)
        in
        ap (λ n. u32_bytes n ++ u32_bytes defined) first ∙ ap (λ n. u32_bytes layout.imports ++ u32_bytes n) second ∙ sym h.written

  -- ---- one layout

  pub bytes-one : (bytes : List ℕ) (a b : Layout) → AreLayoutBytes bytes a → AreLayoutBytes bytes b → a ≡ b
  bytes-one bytes a b x y =
      let rests : u32_bytes a.defined ≡ u32_bytes b.defined =
      same-rest (first_u32 bytes) a.imports b.imports (u32_bytes a.defined) (u32_bytes b.defined) (first_read bytes a x) (first_read bytes b y)
      in
      let imports : a.imports ≡ b.imports =
      same-value (first_u32 bytes) a.imports b.imports (u32_bytes a.defined) (u32_bytes b.defined) (first_read bytes a x) (first_read bytes b y)
      in
      let defined : a.defined ≡ b.defined =
      same-value (first_u32 (u32_bytes b.defined)) a.defined b.defined [] [] (ap first_u32 (sym rests) ∙ second_read a.defined x.small_defined)
      (second_read b.defined y.small_defined)
      in
      ap (λ n. layout_by n a.defined) imports ∙ ap (layout_by b.imports) defined

  pub layout-one : (m : Module) (a b : Layout) → HasLayout m a → HasLayout m b → a ≡ b
  layout-one m a b x y =
      let same : x.section ≡ y.section = same-section (layout_sections m) x.section y.section x.only y.only in
      bytes-one y.section.bytes a b (subst (λ (section : Custom). AreLayoutBytes section.bytes a) same x.bytes) y.bytes

-- no module declares a layout of more functions than it has
pub too-many : (one : LayoutBytesAreOne) (m : Module) (section : Custom) (own layout : Layout) → layout_sections m ≡ section ∷ []
    → AreLayoutBytes section.bytes own → length (func_indices m) < own.imports + own.defined → HasLayout m layout → ⊥
too-many one m section own layout only bytes many h =
    let same : h.section ≡ section = same-section (layout_sections m) h.section section h.only only in
    let known : layout ≡ own = one section.bytes layout own (subst (λ (section : Custom). AreLayoutBytes section.bytes layout) same h.bytes) bytes in
    absurd (omega (arith, many, subst (λ (layout : Layout). layout.imports + layout.defined ≤ length (func_indices m)) known h.within))
