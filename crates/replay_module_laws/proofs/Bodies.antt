-- The generated bodies are nests, and are decoded as these nests.
use Rattle.std.proofs.Common.{◌≡◌, ℕ, zero, suc, ◌+◌, List, [], ◌∷◌, ◌++◌, length, drop, reverse, replicate, Option, Some, None, refl, sym, subst}
use Rattle.std.specs.Prelude.{IsTrue, map}
use Rattle.std.specs.List.{range_with_len}
use Rattle.std.proofs.lemmas.List.{reverse-append}
use Rattle.base.specs.declared.opcodes.TheConstants.{I32_DIV_U, I32_REM_U}
use Rattle.wasm_syntax.specs.declared.values.Val.{Val}
use Rattle.wasm_syntax.specs.declared.signatures.FuncType.{FuncType}
use Rattle.wasm_syntax.specs.declared.instructions.Instr.{Instr}
use Rattle.wasm_syntax.specs.declared.instructions.Instr.TheVariants.{BrTable, Const, Drop, LocalGet, Numeric, Unreachable}
use Rattle.wasm_syntax.specs.declared.modules.Module.{Module}
use Rattle.wasm_syntax.specs.Nest.{Nest, Empty, IsNest, is_plain, nest_of}
use Rattle.wasm_syntax.specs.Index.{func_type}
use Rattle.wasm_syntax.proofs.Nests.{nest_of_body}
use Rattle.trace_model.specs.declared.tapes.Effect.{Effect}
use Rattle.trace_model.specs.declared.tapes.Effect.TheVariants.{Grow, Table, Bytes, Entry, Global}
use Rattle.trace_model.specs.declared.tapes.Next.{Next}
use Rattle.trace_model.specs.declared.tapes.Next.TheVariants.{Call, Return, End, Trap}
use Rattle.trace_model.specs.declared.tapes.Segment.{Segment}
use Rattle.replay_module_spec.specs.declared.groups.TheConstants.{GROUP_CALLS}
use Rattle.replay_module_spec.specs.Dispatch.{body_of, dispatch, nested, sequence}
use Rattle.replay_module_spec.specs.Effects.{Width, byte_count, effect_code, i32_const, store_widths, stores_code}
use Rattle.replay_module_spec.specs.Segments.{drops, effects_code, next_code, segments_code}
use Rattle.replay_module_spec.specs.Functions.{count_code, group_call, group_nest, import_nest}

-- ---- plain code

abbrev pub ArePlain : List Instr → Type 0
ArePlain [] = Unit {0}
ArePlain (i ∷ is) = IsTrue (is_plain i) × ArePlain is

pub plain_both : (first second : List Instr) → ArePlain first → ArePlain second → ArePlain (first ++ second)
plain_both [] second f s = s
plain_both (i ∷ first) second f s = (f.0, plain_both first second f.1 s)

plain_consts : (values : List Val) → ArePlain (map Const values)
plain_consts [] = tt
plain_consts (value ∷ values) = (refl, plain_consts values)

plain_drops : (count : ℕ) → ArePlain (replicate count Drop)
plain_drops zero = tt
plain_drops (suc count) = (refl, plain_drops count)

plain_stores : (widths : List Width) (address : ℕ) (bytes : List ℕ) → ArePlain (stores_code widths address bytes)
plain_stores [] address bytes = tt
plain_stores (width ∷ widths) address bytes =
    (refl, (refl, (refl, plain_stores widths (address + byte_count width) (drop (byte_count width) bytes))))

plain_effect : (effect : Effect) → ArePlain (effect_code effect)
plain_effect (Grow pages) = (refl, (refl, (refl, (refl, (refl, tt)))))
plain_effect (Table size) = (refl, (refl, (refl, (refl, (refl, (refl, tt))))))
plain_effect (Bytes addr bytes) = plain_stores (store_widths (length bytes)) addr bytes
plain_effect (Entry index None) = (refl, (refl, (refl, tt)))
plain_effect (Entry index (Some func)) = (refl, (refl, (refl, tt)))
plain_effect (Global global value) = (refl, (refl, tt))

plain_effects : (effects : List Effect) → ArePlain (effects_code effects)
plain_effects [] = tt
plain_effects (effect ∷ effects) =
    plain_both (effect_code effect) (effects_code effects) (plain_effect effect) (plain_effects effects)

module _ (m : Module) where
  plain_dropped : (o : Option FuncType) → ArePlain (drops o)
  plain_dropped None = tt
  plain_dropped (Some ty) = plain_drops (length ty.results)

  plain_next : (next : Next) (after : List Instr) → ArePlain after → ArePlain (next_code m next after)
  plain_next (Call func args) after a =
      plain_both (map Const args) _ (plain_consts args)
      (refl, plain_both (drops (func_type m func)) after (plain_dropped (func_type m func)) a)
  plain_next (Return None) after a = (refl, tt)
  plain_next (Return (Some value)) after a = (refl, (refl, tt))
  plain_next End after a = (refl, tt)
  plain_next Trap after a = (refl, tt)

  pub plain_segments : (segments : List Segment) → ArePlain (segments_code m segments)
  plain_segments [] = (refl, tt)
  plain_segments (segment ∷ later) =
      plain_both (effects_code segment.effects) (next_code m segment.next (segments_code m later))
      (plain_effects segment.effects) (plain_next segment.next (segments_code m later) (plain_segments later))

-- ---- nests

pub sequence_nest : (code : List Instr) (rest : Nest) → ArePlain code → IsNest rest → IsNest (sequence code rest)
sequence_nest [] rest p n = n
sequence_nest (i ∷ code) rest p n = (p.0, sequence_nest code rest p.1 n)

abbrev AllPlain : List (List Instr) → Type 0
AllPlain [] = Unit {0}
AllPlain (arm ∷ arms) = ArePlain arm × AllPlain arms

all_both : (first second : List (List Instr)) → AllPlain first → AllPlain second → AllPlain (first ++ second)
all_both [] second f s = s
all_both (arm ∷ first) second f s = (f.0, all_both first second f.1 s)

all_reversed : (arms : List (List Instr)) → AllPlain arms → AllPlain (reverse arms)
all_reversed [] a = tt
all_reversed (arm ∷ arms) a =
    subst AllPlain (sym (reverse-append (arm ∷ []) arms))
    (all_both (reverse arms) (arm ∷ []) (all_reversed arms a.1) (a.0, tt))

all_mapped : {X : Type 0} (f : X → List Instr) → ((x : X) → ArePlain (f x)) → (xs : List X) → AllPlain (map f xs)
all_mapped f p [] = tt
all_mapped f p (x ∷ xs) = (p x, all_mapped f p xs)

nested_nest : (inner : Nest) (arms : List (List Instr)) → IsNest inner → AllPlain arms → IsNest (nested inner arms)
nested_nest inner [] n a = n
nested_nest inner (arm ∷ arms) n a = (nested_nest inner arms n a.1, sequence_nest arm Empty a.0 tt)

dispatch_nest : (selector : List Instr) (arms : List (List Instr)) → ArePlain selector → AllPlain arms
    → IsNest (dispatch selector arms)
dispatch_nest selector arms s a =
    nested_nest (sequence (selector ++ BrTable (range_with_len 0 (length arms)) (length arms) ∷ []) Empty)
    ((Unreachable ∷ []) ∷ reverse arms)
    (sequence_nest (selector ++ BrTable (range_with_len 0 (length arms)) (length arms) ∷ []) Empty
    (plain_both selector (BrTable (range_with_len 0 (length arms)) (length arms) ∷ []) s (refl, tt)) tt)
    ((refl, tt), all_reversed arms a)

pub group_is_nest : (m : Module) (calls : List (List Segment)) → IsNest (group_nest m calls)
group_is_nest m calls =
    dispatch_nest (LocalGet 0 ∷ i32_const GROUP_CALLS ∷ Numeric I32_REM_U ∷ []) (map (segments_code m) calls)
    (refl, (refl, (refl, tt)))
    (all_mapped (segments_code m) (plain_segments m) calls)

pub import_is_nest : (counter local first count : ℕ) → IsNest (import_nest counter local first count)
import_is_nest counter local first count =
    sequence_nest (count_code counter local)
    (dispatch (LocalGet local ∷ i32_const GROUP_CALLS ∷ Numeric I32_DIV_U ∷ [])
    (map (group_call local) (range_with_len first count))) (refl, (refl, (refl, (refl, (refl, tt)))))
    (dispatch_nest (LocalGet local ∷ i32_const GROUP_CALLS ∷ Numeric I32_DIV_U ∷ [])
    (map (group_call local) (range_with_len first count)) (refl, (refl, (refl, tt)))
    (all_mapped (group_call local) (λ func. (refl, (refl, (refl, tt)))) (range_with_len first count)))

-- a body is decoded as its nest
pub body_read : (nest : Nest) → IsNest nest → nest_of (body_of nest) ≡ Some nest
body_read nest n = nest_of_body nest (body_of nest) (record { nested = n; written = refl })
