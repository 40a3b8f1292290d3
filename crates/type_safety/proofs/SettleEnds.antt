-- If control reaches the end of blocks and functions, settling ends at well-typed activations, or the run ends.
use Rattle.std.proofs.Common.{◌≡◌, ℕ, List, [], ◌∷◌, ◌++◌, length, refl, sym, ◌∙◌, subst, arith}
use Rattle.std.specs.Prelude.{reverse}
use Rattle.std.specs.Option.{option_to_list}
use Rattle.std.proofs.lemmas.List.{append-nil}
use Rattle.wasm_syntax.specs.declared.values.ValType.{ValType}
use Rattle.wasm_syntax.specs.declared.values.Val.{Val}
use Rattle.wasm_syntax.specs.declared.signatures.FuncType.{FuncType}
use Rattle.wasm_syntax.specs.declared.modules.Module.{Module}
use Rattle.wasm_syntax.specs.Typing.{IsTyped}
use Rattle.wasm_syntax.specs.Nest.{Nest, Empty, Plain, InBlock, InLoop, InIf, InIfElse}
use Rattle.host_script.specs.declared.scripts.ResponseEnd.TheVariants.{Return, Trap}
use Rattle.history_spec.specs.Code.{Definition}
use Rattle.history_spec.specs.Configuration.{place, Label, Frame, Activation, InModule, InMain, InImport, topmost, push_all, Point, point, leave, with_results}
use Rattle.history_spec.specs.Settle.{SettleEnd, Continues, Finishes, NoRule, SettleResult, AtEnd, Within, Gives, TooFew, end_results, at_end_of, at_end, return_from, deliver, settle}
use Rattle.type_safety.specs.Values.{AreValues}
use Rattle.type_safety.specs.Stores.{func_count}
use Rattle.type_safety.specs.Frames.{Scope, context, IsCode, base_of, AreLabels, IsFrame}
use Rattle.type_safety.specs.Heights.{Heights}
use Rattle.type_safety.specs.Configurations.{scope, Accept, IsGoing, IsAtStep}
use Rattle.type_safety.proofs.Values.{append_values, pushed_values, take_values}
use Rattle.type_safety.proofs.Constants.{fit_values}

-- ---- before an instruction an activation is not at its end

pub going_within : (rest : Nest) (frame : Frame) → IsGoing rest → at_end_of rest frame ≡ Within
going_within Empty frame going = absurd going
going_within (Plain i rest) frame going = refl
going_within (InBlock ty body rest) frame going = refl
going_within (InLoop ty body rest) frame going = refl
going_within (InIf ty body rest) frame going = refl
going_within (InIfElse ty body other rest) frame going = refl

-- ---- leaving blocks

-- before an instruction no block is left
pub leaves_none : (labels : List Label) (values : List Val) (rest : Nest) (number : ℕ) → IsGoing rest
    → leave labels values rest number ≡ point values labels rest number
leaves_none labels values Empty number h = absurd h
leaves_none [] values (Plain i rest) number h = refl
leaves_none (label ∷ labels) values (Plain i rest) number h = refl
leaves_none [] values (InBlock ty body rest) number h = refl
leaves_none (label ∷ labels) values (InBlock ty body rest) number h = refl
leaves_none [] values (InLoop ty body rest) number h = refl
leaves_none (label ∷ labels) values (InLoop ty body rest) number h = refl
leaves_none [] values (InIf ty body rest) number h = refl
leaves_none (label ∷ labels) values (InIf ty body rest) number h = refl
leaves_none [] values (InIfElse ty body other rest) number h = refl
leaves_none (label ∷ labels) values (InIfElse ty body other rest) number h = refl

-- values, labels and place of an activation are well typed, and an instruction comes next or no block is open
pub record IsPoint (s : Scope) (p : Point) : Type 0 where
  pub labels : List (List ValType)
  pub given : List ValType
  pub types : List ValType
  pub blocks : AreLabels s labels given p.labels
  pub values : AreValues (func_count s.m) types p.values
  pub code : IsCode s labels p.at (base_of p.labels) types given

pub leave_point : (s : Scope) (blocks : List Label) (values : List Val) (rest : Nest) (number : ℕ)
    (labels : List (List ValType)) (given types : List ValType)
    → AreLabels s labels given blocks → AreValues (func_count s.m) types values
    → IsCode s labels (place rest number) (base_of blocks) types given
    → IsPoint s (leave blocks values rest number)
leave_point s [] values rest number labels given types blocks p code =
    record { labels = labels; given = given; types = types; blocks = blocks; values = p; code = code }
leave_point s (label ∷ blocks) values Empty number [] given types are p code = absurd are
leave_point s (label ∷ blocks) values Empty number (taken ∷ labels) given types are p code =
    let below = are.0 in
    let it = are.2 in
    let ended : AreValues (func_count s.m) given values =
    subst (λ ts. AreValues (func_count s.m) ts values) code.typed p in
    leave_point s blocks (values ++ label.below) label.after_block.rest label.after_block.number labels are.1
    (given ++ below) are.3
    (append_values (func_count s.m) given below values label.below ended it.values) it.after_block
leave_point s (label ∷ blocks) values (Plain i rest) number labels given types blocks' p code =
    record { labels = labels; given = given; types = types; blocks = blocks'; values = p; code = code }
leave_point s (label ∷ blocks) values (InBlock ty body rest) number labels given types blocks' p code =
    record { labels = labels; given = given; types = types; blocks = blocks'; values = p; code = code }
leave_point s (label ∷ blocks) values (InLoop ty body rest) number labels given types blocks' p code =
    record { labels = labels; given = given; types = types; blocks = blocks'; values = p; code = code }
leave_point s (label ∷ blocks) values (InIf ty body rest) number labels given types blocks' p code =
    record { labels = labels; given = given; types = types; blocks = blocks'; values = p; code = code }
leave_point s (label ∷ blocks) values (InIfElse ty body other rest) number labels given types blocks' p code =
    record { labels = labels; given = given; types = types; blocks = blocks'; values = p; code = code }

-- control is within a block only before an instruction
abbrev pub HasLeft : List Label → Nest → Type 0
HasLeft [] rest = Unit {0}
HasLeft (label ∷ labels) rest = IsGoing rest

pub leave_left : (blocks : List Label) (values : List Val) (rest : Nest) (number : ℕ)
    → HasLeft (leave blocks values rest number).labels (leave blocks values rest number).at.rest
leave_left [] values rest number = tt
leave_left (label ∷ blocks) values Empty number =
    leave_left blocks (values ++ label.below) label.after_block.rest label.after_block.number
leave_left (label ∷ blocks) values (Plain i rest) number = tt
leave_left (label ∷ blocks) values (InBlock ty body rest) number = tt
leave_left (label ∷ blocks) values (InLoop ty body rest) number = tt
leave_left (label ∷ blocks) values (InIf ty body rest) number = tt
leave_left (label ∷ blocks) values (InIfElse ty body other rest) number = tt

-- ---- an activation with delivered results

-- an activation with the results that it awaits is well typed
pub results_frame : (s : Scope) (awaited : List ValType) (frame : Frame) (results : List Val) → IsFrame s awaited frame
    → AreValues (func_count s.m) awaited results → IsFrame s [] (with_results frame results)
results_frame s awaited frame results f p =
    let q = leave_point s frame.labels (push_all results frame.values) frame.at.rest frame.at.number f.labels f.given
    (reverse awaited ++ f.types)
    f.around.blocks (pushed_values (func_count s.m) awaited f.types results frame.values p f.values) f.code in
    record {
      labels = q.labels;
      given = q.given;
      types = q.types;
      around = record {
        scope = f.around.scope;
        func = f.around.func;
        arity = f.around.arity;
        locals = f.around.locals;
        blocks =
            q.blocks;
      };
      values = q.values;
      code = q.code;
    }

-- an activation is before an instruction, or it is at its end with its results
abbrev pub IsEnd : Scope → Nest → AtEnd → Type 0
IsEnd s rest Within = IsGoing rest
IsEnd s rest (Gives results) = AreValues (func_count s.m) s.ty.results results
IsEnd s rest TooFew = ⊥

end_at : (s : Scope) (frame : Frame) (blocks : List Label) (rest : Nest) (labels : List (List ValType))
    (given types : List ValType)
    → AreLabels s labels given blocks → AreValues (func_count s.m) types frame.values
    → IsTyped (context s labels) rest types given → HasLeft blocks rest
    → frame.arity ≡ length s.ty.results → IsEnd s rest (at_end_of rest frame)
end_at s frame [] Empty [] given types are p typed left arity =
    let all : types ≡ reverse s.ty.results ++ [] = typed ∙ are ∙ sym (append-nil (reverse s.ty.results)) in
    let t = take_values (func_count s.m) s.ty.results [] frame.values
    (subst (λ ts. AreValues (func_count s.m) ts frame.values) all p) in
    subst (λ k. IsEnd s Empty (end_results (topmost k frame.values))) (sym arity)
    (subst (λ o. IsEnd s Empty (end_results o)) (sym t.taken) t.of_operands)
end_at s frame [] Empty (taken ∷ labels) given types are p typed left arity = absurd are
end_at s frame (label ∷ blocks) Empty labels given types are p typed left arity = absurd left
end_at s frame blocks (Plain i rest) labels given types are p typed left arity = tt
end_at s frame blocks (InBlock ty body rest) labels given types are p typed left arity = tt
end_at s frame blocks (InLoop ty body rest) labels given types are p typed left arity = tt
end_at s frame blocks (InIf ty body rest) labels given types are p typed left arity = tt
end_at s frame blocks (InIfElse ty body other rest) labels given types are p typed left arity = tt

-- the end of an activation with the results that it awaits
pub results_end : (s : Scope) (awaited : List ValType) (frame : Frame) (results : List Val) → IsFrame s awaited frame
    → AreValues (func_count s.m) awaited results
    → IsEnd s (with_results frame results).at.rest (at_end (with_results frame results))
results_end s awaited frame results f p =
    let next = with_results frame results in
    let g = results_frame s awaited frame results f p in
    end_at s next next.labels next.at.rest g.labels g.given g.types g.around.blocks g.values g.code.typed
    (leave_left frame.labels (push_all results frame.values) frame.at.rest frame.at.number) g.around.arity

-- ---- a stack with delivered results

-- the activations at which settling ends are well typed
abbrev pub IsSettleEnd : Module → Heights → SettleEnd → Type 0
IsSettleEnd m heights (Continues stack) = Accept m heights stack [] × IsAtStep stack
IsSettleEnd m heights (Finishes outcome) = Unit {0}
IsSettleEnd m heights NoRule = ⊥

return_safe : (m : Module) (heights : Heights) (frame : Frame) (ty : FuncType) (body : Definition)
    (below : List Activation) (deliver_to : List Val → SettleResult)
    → IsFrame (scope m heights frame.func ty body) [] frame → Accept m heights below ty.results
    → ((results : List Val) → AreValues (func_count m) ty.results results
    → IsSettleEnd m heights (deliver_to results).next)
    → (e : AtEnd) → IsEnd (scope m heights frame.func ty body) frame.at.rest e
    → IsSettleEnd m heights (return_from e frame below deliver_to).next
return_safe m heights frame ty body below deliver_to f accept each Within going = ((ty, body, f, accept), going)
return_safe m heights frame ty body below deliver_to f accept each (Gives results) p = each results p
return_safe m heights frame ty body below deliver_to f accept each TooFew p = absurd p

pub deliver_safe : (m : Module) (heights : Heights) (stack : List Activation) (types : List ValType)
    (results : List Val)
    → Accept m heights stack types → AreValues (func_count m) types results
    → IsSettleEnd m heights (deliver stack results).next
deliver_safe m heights [] types results a p = absurd a
deliver_safe m heights (InModule frame ∷ below) types results a p =
    let s = scope m heights frame.func a.0 a.1 in
    let next = with_results frame results in
    let f = results_frame s types frame results a.2 p in
    let e = results_end s types frame results a.2 p in
    return_safe m heights next a.0 a.1 below (deliver below) f a.3
    (λ rs q. deliver_safe m heights below a.0.results rs a.3 q) (at_end next) e
deliver_safe m heights (InMain [] ∷ below) types results a p = tt
deliver_safe m heights (InMain (action ∷ actions) ∷ below) types results a p = (a, omega arith)
deliver_safe m heights (InImport import args [] (Return value) ∷ below) types results a p =
    deliver_safe m heights below a.0.results (option_to_list value) a.5
    (fit_values (func_count m) a.0.results (option_to_list value) a.4)
deliver_safe m heights (InImport import args [] Trap ∷ below) types results a p = tt
deliver_safe m heights (InImport import args (action ∷ actions) «end» ∷ below) types results a p = (a, omega arith)

pub settle_safe : (m : Module) (heights : Heights) (stack : List Activation) → Accept m heights stack []
    → IsSettleEnd m heights (settle stack).next
settle_safe m heights stack a = deliver_safe m heights stack [] [] a tt
