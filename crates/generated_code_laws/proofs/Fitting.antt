-- The properties of a fitting tape's segment: its effects, and how control leaves it.
use Rattle.std.proofs.Common.{◌≡◌, ℕ, suc, ◌≤◌, List, ◌∷◌, Option, Some, None, Bool, true, cond, nat_eq, nat_le, nat_lt, refl, sym, arith, option_to_list}
use Rattle.std.specs.Prelude.{◌&&◌, not}
use Rattle.std.specs.List.{All, list_all}
use Rattle.std.specs.Option.{option_map_or}
use Rattle.std.proofs.lemmas.Bool.Decides.{nat_tests}
use Rattle.std.proofs.lemmas.List.Elements.{All-head, All-tail}
use Rattle.std.proofs.lemmas.Option.{none-some}
use Rattle.base.proofs.Booleans.{and_parts}
use Rattle.base.proofs.Options.{and_then_some, cond_some, cond_none_some}
use Rattle.wasm_syntax.specs.declared.values.Val.{Val}
use Rattle.wasm_syntax.specs.declared.values.ValType.{ValType}
use Rattle.wasm_syntax.specs.declared.signatures.FuncType.{FuncType}
use Rattle.wasm_syntax.specs.declared.modules.Module.{Module}
use Rattle.wasm_syntax.specs.Index.{func_type, imported_funcs}
use Rattle.wasm_syntax.proofs.ValTypes.{types_same}
use Rattle.trace_model.specs.declared.tapes.Next.TheVariants.{Call, Return}
use Rattle.trace_model.specs.declared.tapes.Origin.TheVariants.{Begin, Import, Back}
use Rattle.trace_model.specs.declared.tapes.Segment.{Segment}
use Rattle.trace_model.specs.Effects.{are_ordered}
use Rattle.trace_model.specs.Fitting.{came, effect_fits, effects_fit, fitting_step, gives_values, left, takes_values, types_of, unfit_from}
use Rattle.replay_module_laws.proofs.TypedSegments.{typed_values}
use Rattle.generated_code_laws.specs.Playable.{AllWriteBytes, WritesBytes}
use Rattle.generated_code_laws.proofs.Together.{AreFit}

-- a segment fits if control reaches it with these calls of imports open
pub record IsFit (m : Module) (at : ℕ) (before : List ℕ) (segment : Segment) (later : List Segment) : Type 0 where
  pub opened : List ℕ
  pub comes : came m at before segment.origin ≡ Some opened
  pub effects : list_all (effect_fits m) segment.effects ≡ true
  pub is_last : Bool
  pub after : List ℕ
  pub leaves : left m is_last opened segment.next ≡ Some after
  pub rest : AreFit m after later
  pub bytes : All WritesBytes segment.effects

pub first_fits : (m : Module) (before : List ℕ) (segment : Segment) (later : List Segment)
    → (f : AreFit m before (segment ∷ later)) → IsFit m f.at before segment later
first_fits m before segment later f =
    go (fitting_step m f.at (nat_eq (suc f.at) f.count) before segment) refl f.fits
  where
    go : (o : Option (List ℕ)) → fitting_step m f.at (nat_eq (suc f.at) f.count) before segment ≡ o
        → option_map_or (λ next. unfit_from m f.count (suc f.at) next later) o (Some f.at) ≡ None
        → IsFit m f.at before segment later
    go None e h = absurd (none-some f.at (sym h))
    go (Some after) e h =
        let a =
        and_then_some (came m f.at before segment.origin)
        (λ inside. cond (effects_fit m segment.effects)
        (left m (nat_eq (suc f.at) f.count) inside segment.next) None) after e
        in
        let b =
        cond_some (effects_fit m segment.effects) (left m (nat_eq (suc f.at) f.count) a.0 segment.next) after a.2 in
        record {
          opened = a.0;
          comes = a.1;
          effects = (and_parts (are_ordered segment.effects) (list_all (effect_fits m) segment.effects) b.0).1;
          is_last = nat_eq (suc f.at) f.count;
          after = after;
          leaves = b.1;
          rest =
              record {
                count = f.count;
                at = suc f.at;
                fits = h;
                bytes = All-tail AllWriteBytes segment later f.bytes;
              };
          bytes = All-head AllWriteBytes segment later f.bytes;
        }

-- ---- how control came

pub came_begin : (m : Module) (at : ℕ) (before opened : List ℕ) → came m at before Begin ≡ Some opened → before ≡ opened
came_begin m at before opened h =
    let c = cond_some (nat_eq at 0) (Some before) opened h in let e = c.1 in cc

pub came_back : (m : Module) (at : ℕ) (before opened : List ℕ) → came m at before Back ≡ Some opened → before ≡ opened
came_back m at before opened h =
    let c = cond_none_some (nat_eq at 0) (Some before) opened h in let e = c.1 in cc

pub came_call : (m : Module) (at : ℕ) (before opened : List ℕ) (import : ℕ) → came m at before (Import import)
    ≡ Some opened
    → import ∷ before ≡ opened
came_call m at before opened import h =
    let c =
    cond_some (not (nat_eq at 0) && nat_lt import (imported_funcs m)) (Some (import ∷ before)) opened h in
    let e = c.1 in cc

-- ---- how control leaves

-- a call is of a function of the original, with arguments of its types
pub record FitsCall (m : Module) (opened : List ℕ) (func : ℕ) (args : List Val) (after : List ℕ) : Type 0 where
  pub past : imported_funcs m ≤ func
  pub ty : FuncType
  pub typed : func_type m func ≡ Some ty
  pub given : types_of args ≡ ty.params
  pub same : opened ≡ after

given_values : (types : List ValType) (o : Option FuncType) → gives_values types o ≡ true
    → (ty : FuncType) × (o ≡ Some ty) × (types ≡ ty.results)
given_values types None h = absurd (cc h)
given_values types (Some ty) h = (ty, refl, types_same types ty.results h)

pub leaves_call : (m : Module) (is_last : Bool) (opened after : List ℕ) (func : ℕ) (args : List Val)
    → left m is_last opened (Call func args) ≡ Some after → FitsCall m opened func args after
leaves_call m is_last opened after func args h =
    let c =
    cond_some (nat_le (imported_funcs m) func && takes_values (types_of args) (func_type m func))
    (Some opened) after h in
    let p = and_parts (nat_le (imported_funcs m) func) (takes_values (types_of args) (func_type m func)) c.0 in
    let low = p.0 in
    let t = typed_values (types_of args) (func_type m func) p.1 in
    record {
      past = grind (arith, nat_tests, low);
      ty = t.0;
      typed = t.1;
      given = t.2;
      same = (let e = c.1 in cc);
    }

-- an import returns its result
pub leaves_return : (m : Module) (is_last : Bool) (import : ℕ) (opened after : List ℕ) (result : Option Val)
    → left m is_last (import ∷ opened) (Return result) ≡ Some after
    → (ty : FuncType) × (func_type m import ≡ Some ty) × (types_of (option_to_list result) ≡ ty.results) ×
    (opened ≡ after)
leaves_return m is_last import opened after result h =
    let c =
    cond_some (gives_values (types_of (option_to_list result)) (func_type m import)) (Some opened) after h in
    let t = given_values (types_of (option_to_list result)) (func_type m import) c.0 in
    (t.0, t.1, t.2, (let e = c.1 in cc))
