-- The values of tapes that are decoded from bytes.
use Rattle.std.proofs.Common.{◌≡◌, ℕ, ◌<◌, List, [], ◌∷◌, ◌++◌, length, flat_map, Some, None, true, subst, arith}
use Rattle.std.specs.List.{All, AllByRecursion}
use Rattle.std.proofs.lemmas.Bool.Decides.{nat_tests}
use Rattle.std.proofs.lemmas.List.Elements.{recursion_from_All}
use Rattle.leb_bytes.specs.Unsigned.{u32_bytes}
use Rattle.wasm_syntax.specs.declared.values.Val.{Val}
use Rattle.wasm_syntax.specs.declared.values.ValType.{ValType}
use Rattle.wasm_syntax.specs.declared.values.ValType.TheVariants.{I32, I64, F32, F64, FuncRef}
use Rattle.wasm_syntax.specs.Encoding.Encodable.{FitsConst}
use Rattle.wasm_syntax.specs.Encoding.Shortest.{vector_bytes}
use Rattle.wasm_syntax.specs.Typing.{is_constant}
use Rattle.trace_model.specs.declared.tapes.Effect.{Effect}
use Rattle.trace_model.specs.declared.tapes.Effect.TheVariants.{Grow, Table, Bytes, Entry, Global}
use Rattle.trace_model.specs.declared.tapes.Next.{Next}
use Rattle.trace_model.specs.declared.tapes.Next.TheVariants.{Call, Return, End, Trap}
use Rattle.trace_model.specs.declared.tapes.Segment.{Segment}
use Rattle.trace_model.specs.declared.tapes.Tape.{Tape}
use Rattle.trace_bytes.specs.declared.tags.TheConstants.{TAPE_MAGIC, TAG_CLOSE}
use Rattle.trace_bytes.specs.Spelled.{FitsVal, FitsEffect, FitsNext, FitsSegment, FitSegments, SpellsTape}
use Rattle.trace_bytes.specs.Spelling.{effect_bytes, header_bytes, next_bytes, origin_bytes, segment_bytes, tape_bytes}
use Rattle.replay_module_laws.specs.Written.{AreConstants, IsConstantEffect, IsConstantNext, IsConstantSegment, IsConstantTape}

-- ---- parts of bytes

abbrev AreBytes : List ℕ → Type 0
AreBytes bytes = AllByRecursion (λ byte. byte < 256) bytes

after : (front back : List ℕ) → AreBytes (front ++ back) → AreBytes back
after [] back all = all
after (byte ∷ front) back all = after front back all.1

before : (front back : List ℕ) → AreBytes (front ++ back) → AreBytes front
before [] back all = tt
before (byte ∷ front) back all = (all.0, before front back all.1)

-- ---- values

constant_bits : (ty : ValType) (bits : ℕ) → FitsConst ty bits → is_constant (record { ty = ty; bits = bits }) ≡ true
constant_bits I32 bits fits = grind (arith, nat_tests, fits)
constant_bits I64 bits fits = grind (arith, nat_tests, fits)
constant_bits F32 bits fits = grind (arith, nat_tests, fits)
constant_bits F64 bits fits = grind (arith, nat_tests, fits)
constant_bits FuncRef bits fits = absurd fits

constant : (value : Val) → FitsVal value → is_constant value ≡ true
constant value fits = constant_bits value.ty value.bits fits

constants : (values : List Val) → AllByRecursion FitsVal values → AreConstants values
constants [] all = tt
constants (value ∷ values) all = (constant value all.0, constants values all.1)

-- ---- segments

effect_constant : (version : ℕ) (effect : Effect) → FitsEffect version effect → AreBytes (effect_bytes effect)
    → IsConstantEffect effect
unfolding effect_bytes
effect_constant version (Grow pages) fits are = tt
effect_constant version (Table size) fits are = tt
effect_constant version (Bytes addr bytes) fits are =
    after (u32_bytes (length bytes)) bytes (after (u32_bytes addr) (u32_bytes (length bytes) ++ bytes) are.1)
effect_constant version (Entry index func) fits are = fits.0
effect_constant version (Global global value) fits are = constant value fits.1

effects_constant : (version : ℕ) (effects : List Effect) → AllByRecursion (FitsEffect version) effects
    → AreBytes (flat_map effect_bytes effects) → AllByRecursion IsConstantEffect effects
effects_constant version [] fit are = tt
effects_constant version (effect ∷ effects) fit are = (
  effect_constant version effect fit.0 (before (effect_bytes effect) (flat_map effect_bytes effects) are),
  effects_constant version effects fit.1 (after (effect_bytes effect) (flat_map effect_bytes effects) are),
)

next_constant : (next : Next) → FitsNext next → IsConstantNext next
next_constant (Call func args) fits = constants args fits.1.1
next_constant (Return None) fits = tt
next_constant (Return (Some value)) fits = (constant value fits, tt)
next_constant End fits = tt
next_constant Trap fits = tt

segment_constant : (version : ℕ) (segment : Segment) → FitsSegment version segment → AreBytes (segment_bytes segment)
    → IsConstantSegment segment
unfolding segment_bytes
segment_constant version segment fits are =
    let effects : List ℕ = vector_bytes effect_bytes segment.effects in
    let later = after (origin_bytes segment.origin) (effects ++ next_bytes segment.next) are in
    let own = before effects (next_bytes segment.next) later in
    record {
      effects = effects_constant version segment.effects fits.effects
          (after (u32_bytes (length segment.effects)) (flat_map effect_bytes segment.effects) own);
      next = next_constant segment.next fits.next;
    }

segments_constant : (version : ℕ) (segments : List Segment) → FitSegments version segments
    → AreBytes (flat_map segment_bytes segments) → AllByRecursion IsConstantSegment segments
segments_constant version [] fit are = tt
segments_constant version (segment ∷ segments) fit are = (
  segment_constant version segment fit.0 (before (segment_bytes segment) (flat_map segment_bytes segments) are),
  segments_constant version segments fit.1 (after (segment_bytes segment) (flat_map segment_bytes segments) are),
)

-- ---- the whole tape

pub read_constant : (version : ℕ) (bytes digest : List ℕ) (tape : Tape) → All (λ byte. byte < 256) bytes
    → SpellsTape version bytes digest tape → IsConstantTape tape
unfolding tape_bytes
read_constant version bytes digest tape all spells =
    let are = subst AreBytes spells.spelled (recursion_from_All (λ byte. byte < 256) bytes all) in
    let later =
    after (header_bytes TAPE_MAGIC version digest) (flat_map segment_bytes tape.segments ++ TAG_CLOSE ∷ []) are in
    segments_constant version tape.segments spells.segments
    (before (flat_map segment_bytes tape.segments) (TAG_CLOSE ∷ []) later)
