-- Instructions in a well-typed activation, by their effect: they give results, enter blocks, branch, and call.
use Rattle.std.proofs.Common.{◌≡◌, ℕ, suc, zero, ◌+◌, List, [], ◌∷◌, ◌++◌, length, Option, Some, None, slice_get, refl, sym, ◌∙◌, subst}
use Rattle.std.specs.Prelude.{reverse}
use Rattle.std.proofs.lemmas.List.{reverse-reverse, length-reverse}
use Rattle.wasm_syntax.specs.declared.values.ValType.{ValType}
use Rattle.wasm_syntax.specs.declared.values.Val.{Val}
use Rattle.wasm_syntax.specs.declared.signatures.FuncType.{FuncType}
use Rattle.wasm_syntax.specs.declared.instructions.Instr.{Instr}
use Rattle.wasm_syntax.specs.Typing.{Leads, instr_type}
use Rattle.wasm_syntax.specs.Profile.{refused_feature}
use Rattle.history_spec.specs.Store.{Store}
use Rattle.history_spec.specs.Code.{code_of, signature}
use Rattle.history_spec.specs.Configuration.{Place, Label, Frame, topmost, push_all}
use Rattle.history_spec.specs.Instruction.{Execution, on, pop, takes, gives, gives_in, execute_plain, enters, to_label, to_caller, branch_to, calls}
use Rattle.type_safety.specs.Values.{AreValues}
use Rattle.type_safety.specs.Stores.{func_count, IsStore}
use Rattle.type_safety.specs.Frames.{Scope, context, IsCode, base_of, IsLabel, AreLabels, IsAround}
use Rattle.type_safety.specs.Results.{HasRule}
use Rattle.type_safety.proofs.Values.{pushed_values, take_values, pop_values}

pub on_fine : {X : Type 0} (s : Scope) (o : Option X) (x : X) (go : X → Execution) → o ≡ Some x → HasRule s (go x)
    → HasRule s (on o go)
on_fine s o x go is fine = subst (λ it. HasRule s (on it go)) (sym is) fine

pub takes_fine : (s : Scope) (frame : Frame) (types below : List ValType) (go : List Val → List Val → Execution)
    → AreValues (func_count s.m) (reverse types ++ below) frame.values
    → ((operands rest : List Val) → AreValues (func_count s.m) types operands → AreValues (func_count s.m) below rest
    → HasRule s (go operands rest))
    → HasRule s (takes frame types go)
takes_fine s frame types below go p each =
    let popped = pop_values (func_count s.m) types below frame.values p in
    on_fine s (pop types frame.values) popped.0 (λ it. go it.operands it.rest) popped.1
    (each popped.0.operands popped.0.rest popped.2 popped.3)

-- ---- within the activation

pub gives_fine : (s : Scope) (store : Store) (frame : Frame) (next : Place) (labels : List (List ValType))
    (given types below : List ValType) (operands rest results : List Val) (found : Option ℕ)
    → IsStore s.m store → IsAround s labels given frame → AreValues (func_count s.m) types results
    → AreValues (func_count s.m) below rest
    → IsCode s labels next (base_of frame.labels) (reverse types ++ below) given
    → HasRule s (gives_in store frame next operands rest results found)
gives_fine s store frame next labels given types below operands rest results found stored around p q code = (
  stored,
  record {
    labels = labels;
    given = given;
    types = reverse types ++ below;
    around = record { scope = around.scope; func = around.func; arity = around.arity; locals = around.locals; blocks = around.blocks };
    values = pushed_values (func_count s.m) types below results rest p q;
    code = code;
  },
)

-- the instruction changes the store, or traps
pub changes_fine : {X : Type 0} (s : Scope) (changed : X → Store) (frame : Frame) (next : Place)
    (labels : List (List ValType)) (given below : List ValType) (operands rest : List Val)
    (result : Option X → Execution) (o : Option X) → HasRule s (result None)
    → ((x : X) → result (Some x) ≡ gives (changed x) frame next operands rest [])
    → ((x : X) → o ≡ Some x → IsStore s.m (changed x)) → IsAround s labels given frame
    → AreValues (func_count s.m) below rest → IsCode s labels next (base_of frame.labels) below given
    → HasRule s (result o)
changes_fine s changed frame next labels given below operands rest result None trap same stored around p code = trap
changes_fine s changed frame next labels given below operands rest result (Some x) trap same stored around p code =
    subst (HasRule s) (sym (same x))
    (gives_fine s (changed x) frame next labels given [] below operands rest [] None (stored x refl) around tt p code)

-- a plain instruction with operands of its types has a rule, whatever comes next
abbrev pub IsFine : (s : Scope) → Store → Frame → (labels : List (List ValType)) → (given : List ValType)
    → (next : Place) → Instr → Type 0
IsFine s store frame labels given next i =
    (before middle : List ValType) → AreValues (func_count s.m) before frame.values
    → Leads (context s labels) (instr_type (context s labels) i) before middle → refused_feature i ≡ None
    → IsCode s labels next (base_of frame.labels) middle given
    → HasRule s (execute_plain (code_of s.m) store frame next i)

pub enters_fine : (s : Scope) (store : Store) (frame : Frame) (labels : List (List ValType))
    (given taken results below : List ValType) (operands values : List Val) (arity : ℕ) (body target next : Place)
    → IsStore s.m store → IsAround s labels given frame → AreValues (func_count s.m) below values → arity ≡ length taken
    → IsCode s (taken ∷ labels) body (base_of frame.labels + length below) [] results
    → IsCode s labels target (base_of frame.labels) (taken ++ below) given
    → IsCode s labels next (base_of frame.labels) (results ++ below) given
    → length values ≡ length below
    → HasRule s (enters store frame operands values arity body target next)
enters_fine s store frame labels given taken results below operands values arity body target next stored around p same
    inner to after_block' count = (
      stored,
      record {
        labels = taken ∷ labels;
        given = results;
        types = [];
        around = record {
          scope = around.scope;
          func = around.func;
          arity = around.arity;
          locals = around.locals;
          blocks = (
            below,
            given,
            record { arity = same; values = p; target = to; after_block = after_block' },
            around.blocks,
          );
        };
        values = tt;
        code = subst (λ k. IsCode s (taken ∷ labels) body (base_of frame.labels + k) [] results) (sym count) inner;
      },
    )

-- ---- branches

pub caller_fine : (s : Scope) (operands values : List Val) (arity : ℕ) (below : List ValType)
    → arity ≡ length s.ty.results
    → AreValues (func_count s.m) (reverse s.ty.results ++ below) values
    → HasRule s (to_caller operands (topmost arity values))
caller_fine s operands values arity below same p =
    let t = take_values (func_count s.m) s.ty.results below values p in
    subst (λ k. HasRule s (to_caller operands (topmost k values))) (sym same)
    (subst (λ o. HasRule s (to_caller operands o)) (sym t.taken) t.of_operands)

label_fine : (s : Scope) (store : Store) (frame : Frame) (operands values : List Val) (blocks : List Label)
    (label : Label) (labels : List (List ValType)) (taken given below under after : List ValType)
    → IsStore s.m store
    → ((blocks' : List Label) (values' : List Val) (at : Place) → AreLabels s labels after blocks'
    → IsAround s labels after (record frame { values = values'; labels = blocks'; at = at }))
    → IsLabel s labels (base_of blocks) taken given under after label → AreLabels s labels after blocks
    → AreValues (func_count s.m) (taken ++ below) values
    → HasRule s (to_label store frame operands (topmost label.arity values) blocks label)
label_fine s store frame operands values blocks label labels taken given below under after stored around it are p =
    let n = func_count s.m in
    let own : AreValues n (reverse (reverse taken) ++ below) values =
    subst (λ ts. AreValues n (ts ++ below) values) (sym (reverse-reverse taken)) p in
    let t = take_values n (reverse taken) below values own in
    let count : label.arity ≡ length (reverse taken) = it.arity ∙ sym (length-reverse taken) in
    let carried : AreValues n (taken ++ under) (push_all t.operands label.below) =
    subst (λ ts. AreValues n (ts ++ under) (push_all t.operands label.below)) (reverse-reverse taken)
    (pushed_values n (reverse taken) under t.operands label.below t.of_operands it.values) in
    let fine : HasRule s (to_label store frame operands (Some t.operands) blocks label) = (
      stored,
      record {
        labels = labels;
        given = after;
        types = taken ++ under;
        around = around blocks (push_all t.operands label.below) label.target are;
        values = carried;
        code = it.target;
      },
    ) in
    subst (λ k. HasRule s (to_label store frame operands (topmost k values) blocks label)) (sym count)
    (subst (λ o. HasRule s (to_label store frame operands o blocks label)) (sym t.taken) fine)

-- the label exists, and the values that it takes are the topmost
pub branch_fine : (s : Scope) (store : Store) (frame : Frame) (operands values : List Val) (blocks : List Label)
    (l : ℕ) (labels : List (List ValType)) (given taken below : List ValType)
    → IsStore s.m store
    → ((labels' : List (List ValType)) (given' : List ValType) (blocks' : List Label) (values' : List Val)
    (at : Place) → AreLabels s labels' given' blocks'
    → IsAround s labels' given' (record frame { values = values'; labels = blocks'; at = at }))
    → frame.arity ≡ length s.ty.results
    → AreLabels s labels given blocks
    → slice_get (labels ++ reverse s.ty.results ∷ []) l ≡ Some taken
    → AreValues (func_count s.m) (taken ++ below) values
    → HasRule s (branch_to store frame operands values blocks l)
branch_fine s store frame operands values [] zero [] given taken below stored around arity are is p =
    let own : taken ≡ reverse s.ty.results = cc in
    caller_fine s operands values frame.arity below arity
    (subst (λ ts. AreValues (func_count s.m) (ts ++ below) values) own p)
branch_fine s store frame operands values [] (suc l) [] given taken below stored around arity are is p = cc
branch_fine s store frame operands values [] l (t ∷ labels) given taken below stored around arity are is p = absurd are
branch_fine s store frame operands values (label ∷ blocks) l [] given taken below stored around arity are is p =
    absurd are
branch_fine s store frame operands values (label ∷ blocks) zero (t ∷ labels) given taken below stored around arity are
    is p =
    let own : taken ≡ t = cc in
    label_fine s store frame operands values blocks label labels t given below are.0 are.1 stored
    (around labels are.1) are.2 are.3 (subst (λ ts. AreValues (func_count s.m) (ts ++ below) values) own p)
branch_fine s store frame operands values (label ∷ blocks) (suc l) (t ∷ labels) given taken below stored around arity
    are is p =
    branch_fine s store frame operands values blocks l labels are.1 taken below stored around arity are.3 is p

-- ---- calls

pub calls_fine : (s : Scope) (frame : Frame) (next : Place) (labels : List (List ValType))
    (given below : List ValType) (ty : FuncType) (func : ℕ) (operands rest args : List Val) (found : Option ℕ)
    → IsAround s labels given frame → signature (code_of s.m) func ≡ Some ty → AreValues (func_count s.m) below rest
    → AreValues (func_count s.m) ty.params args
    → IsCode s labels next (base_of frame.labels) (reverse ty.results ++ below) given
    → HasRule s (calls frame next operands rest found func args)
calls_fine s frame next labels given below ty func operands rest args found around is p q code = (
  ty,
  is,
  record {
    labels = labels;
    given = given;
    types = below;
    around = record { scope = around.scope; func = around.func; arity = around.arity; locals = around.locals; blocks = around.blocks };
    values = p;
    code = code;
  },
  q,
)
