-- The number of values above an activation's base is the height by the typing.
use Rattle.std.proofs.Common.{◌≡◌, ◌+◌, ◌<◌, List, [], ◌++◌, length, refl, sym, ap, ◌∙◌, subst, arith}
use Rattle.std.specs.Prelude.{reverse}
use Rattle.std.proofs.lemmas.List.{length-append, length-reverse}
use Rattle.wasm_syntax.specs.declared.values.ValType.{ValType}
use Rattle.wasm_syntax.specs.Nest.{Nest, Empty, Plain, InBlock, InLoop, InIf, InIfElse, size}
use Rattle.wasm_syntax.specs.Typing.{Context, IsTyped}
use Rattle.type_safety.specs.Stores.{func_count}
use Rattle.type_safety.specs.Heights.{height}
use Rattle.type_safety.specs.Frames.{context, base_of}
use Rattle.type_safety.specs.Configurations.{scope, Accept, IsGoing, IsAtStep}
use Rattle.type_safety.specs.Laws.{HeightsAtCalls, HeightsAtSteps}
use Rattle.type_safety.proofs.Values.{length_values}

first_height : (ctx : Context) (rest : Nest) (before after : List ValType) (typed : IsTyped ctx rest before after)
    → height ctx rest before after typed 0 ≡ length before
first_height ctx Empty before after typed = refl
first_height ctx (Plain i rest) before after typed = refl
first_height ctx (InBlock ty body rest) before after typed = refl
first_height ctx (InLoop ty body rest) before after typed = refl
first_height ctx (InIf ty body rest) before after typed = refl
first_height ctx (InIfElse ty body other rest) before after typed = refl

going_size : (rest : Nest) → IsGoing rest → 0 < size rest
going_size Empty going = absurd going
going_size (Plain i rest) going = omega arith
going_size (InBlock ty body rest) going = omega arith
going_size (InLoop ty body rest) going = omega arith
going_size (InIf ty body rest) going = omega arith
going_size (InIfElse ty body other rest) going = omega arith

pub waiting_height : HeightsAtCalls
waiting_height m heights frame below results a going =
    let s = scope m heights frame.func a.0 a.1 in
    let f = a.2 in
    let here = f.code.heights 0 (going_size frame.at.rest going) in
    let own : height (context s f.labels) frame.at.rest (reverse results ++ f.types) f.given f.code.typed 0
    ≡ length (reverse results ++ f.types) =
    first_height (context s f.labels) frame.at.rest (reverse results ++ f.types) f.given f.code.typed in
    let count : length frame.values ≡ length f.types = length_values (func_count m) f.types frame.values f.values in
    let parts : length (reverse results ++ f.types) ≡ length results + length f.types =
    length-append (reverse results) f.types ∙ ap (λ k. k + length f.types) (length-reverse results) in
    let from : frame.at.number + 0 ≡ frame.at.number = omega arith in
    let all : heights frame.func frame.at.number ≡ base_of frame.labels + length (reverse results ++ f.types) =
    ap (heights frame.func) (sym from) ∙ here ∙ ap (λ k. base_of frame.labels + k) own in
    omega (arith, all, parts, count)

pub standing_height : HeightsAtSteps
standing_height m heights config frame below c is =
    let it = waiting_height m heights frame below [] (subst (λ stack. Accept m heights stack []) is c.stack)
    (subst IsAtStep is c.at_step) in
    omega (arith, it)
