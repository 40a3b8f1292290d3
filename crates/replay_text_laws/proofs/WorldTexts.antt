-- Of what `foreign` and `pair` print, `replay` prints what `foreign-history` and `pair-history` print of the run.
use Rattle.std.proofs.Common.{◌≡◌, ℕ, ◌≤◌, List, Ok, length, refl, sym, ap₂, subst, arith, false}
use Rattle.base.proofs.Results.{same_ok}
use Rattle.wasm_syntax.specs.declared.forms.Form.TheVariants.{Core}
use Rattle.wasm_syntax.specs.declared.limits.TheConstants.{MAX_FILE_BYTES}
use Rattle.wasm_syntax.specs.declared.modules.Module.{Module}
use Rattle.wasm_syntax.specs.Encoding.Laws.{BytesEncodeOne}
use Rattle.wasm_syntax.specs.ListsWithin.{ListsAreWithinEncoding}
use Rattle.wasm_syntax.specs.Profile.{IsAccepted}
use Rattle.host_script.specs.declared.scripts.Script.{Script}
use Rattle.wasm_syntax.proofs.FuncTypes.{func_count_is}
use Rattle.instance_spec.specs.Outcomes.{WidenedOutcomesFollow}
use Rattle.instance_spec.specs.WidenedLaws.{WidenedAreAccepted}
use Rattle.pair_spec.specs.Pairs.{ModulePair}
use Rattle.pair_spec.specs.Linked.{linked}
use Rattle.pair_laws.specs.LinkedLaws.{LinkedAreAccepted}
use Rattle.pair_laws.specs.Laws.{LinkedOutcomesFollow}
use Rattle.decl_text.specs.Laws.{DeclarationsAreWithinTexts, DeclarationsFit}
use Rattle.decl_text.specs.Texts.{decls_of_text}
use Rattle.script_text.specs.Texts.{script_of_text}
use Rattle.r3_inputs.specs.Inputs.{IsModuleOf}
use Rattle.r3_history.specs.Histories.{IsHistoryOf}
use Rattle.r3_make.specs.Printed.{IsReplayFor}
use Rattle.r3_instances.specs.declared.declared_modules.DeclaredModule.{DeclaredModule}
use Rattle.r3_instances.specs.Sources.{AreReadWithScript, HasHistory, Source}
use Rattle.r3_instances.specs.ForeignInputs.{IsDeclared, foreign_source, widened_of}
use Rattle.r3_instances.specs.PairInputs.{ArePairBytes, pair_source}
use Rattle.r3_instances.proofs.FileFacts.{decls_few}
use Rattle.r3_instances.proofs.ReplayFunctions.{foreign_follow, pair_follow}
use Rattle.r3_instances.proofs.SourceCommands.{DoRunsFollow}
use Rattle.r3_instances.proofs.WorldOutcomes.{from_history, to_history}
use Rattle.replay_text_laws.specs.Histories.{ForeignReplaysPrintHistories, IsReplayedAsHistory, PairReplaysPrintHistories}
use Rattle.replay_text_laws.specs.PrintLaws.{PrintLaws}
use Rattle.replay_text_laws.proofs.Histories.{replayed_as_history}

-- ---- what is read from files

module _ {X : Type 0} (laws : PrintLaws) (source : Source X) (script_bytes : List ℕ) (follow : DoRunsFollow source)
    (one_read : (a b : X) → source.IsRead a → source.IsRead b → a ≡ b) where
  -- files and a script are read as one thing
  one_history : (a b : X) (script other : Script) → AreReadWithScript source script_bytes a script
      → AreReadWithScript source script_bytes b other → (budget : ℕ) (text : List ℕ)
      → IsHistoryOf (source.recorded b) other budget text → IsHistoryOf (source.recorded a) script budget text
  one_history a b script other own theirs budget text h =
      let same : b ≡ a = one_read b a theirs.read own.read in
      let read : script_of_text (source.recorded a) script_bytes ≡ Ok other =
      subst (λ x. script_of_text (source.recorded x) script_bytes ≡ Ok other) same theirs.is_script
      in
      subst (λ script. IsHistoryOf (source.recorded a) script budget text)
      (same_ok (script_of_text (source.recorded a) script_bytes) other script read own.is_script)
      (subst (λ x. IsHistoryOf (source.recorded x) other budget text) same h)

  replayed : (x : X) (script : Script) (turns : ℕ) (printed : List ℕ) → AreReadWithScript source script_bytes x script
      → IsAccepted false (source.recorded x) → IsReplayFor (source.recorded x) script turns printed
      → IsReplayedAsHistory (HasHistory source script_bytes) turns printed
  replayed x script turns printed own accepted made =
      let m = source.recorded x in
      let as_history =
      replayed_as_history laws m script turns printed accepted
      (laws.fit m script_bytes script accepted.valid own.is_script) made
      in
      record {
        text = as_history.text;
        history = λ budget enough.
            record {
              x = x;
              script = script;
              inputs = own;
              history =
                  to_history m script (source.run x script) (follow x script own.read) budget as_history.text
                  (as_history.history budget enough);
            };
        only = λ budget other h.
            as_history.only budget other
            (one_history x h.x script h.script own h.inputs budget other
            (from_history (source.recorded h.x) h.script (source.run h.x h.script) (follow h.x h.script h.inputs.read)
            budget other h.history));
        replay = as_history.replay;
      }

-- ---- declarations

same_declared : (a b : DeclaredModule) → a.checked ≡ b.checked → a.decls ≡ b.decls → a ≡ b
same_declared a b checked decls = ap₂ (λ m texts. record a { checked = m; decls = texts }) checked decls

one_declared : (module_bytes decl_bytes : List ℕ) → BytesEncodeOne → (a b : DeclaredModule)
    → IsDeclared module_bytes decl_bytes a → IsDeclared module_bytes decl_bytes b → a ≡ b
one_declared module_bytes decl_bytes one_module a b first second =
    let same : a.checked ≡ b.checked =
    one_module Core module_bytes a.checked b.checked first.is_module.encoded second.is_module.encoded
    in
    let read : decls_of_text b.checked decl_bytes ≡ Ok a.decls =
    subst (λ m. decls_of_text m decl_bytes ≡ Ok a.decls) same first.are_decls
    in
    same_declared a b same (same_ok (decls_of_text b.checked decl_bytes) a.decls b.decls read second.are_decls)

widened_accepted : (module_bytes decl_bytes : List ℕ) → length module_bytes ≤ MAX_FILE_BYTES
    → length decl_bytes ≤ MAX_FILE_BYTES → ListsAreWithinEncoding → DeclarationsAreWithinTexts → DeclarationsFit
    → WidenedAreAccepted → (declared : DeclaredModule) → IsDeclared module_bytes decl_bytes declared
    → IsAccepted false (widened_of declared)
widened_accepted module_bytes decl_bytes small few lists sizes fit accepted declared is =
    let m = declared.checked in
    let decls = declared.decls in
    let parts = (lists Core module_bytes m is.is_module.encoded).parts in
    let funcs = (lists Core module_bytes m is.is_module.encoded).funcs in
    let count = decls_few decls in
    let size = sizes m decl_bytes decls is.are_decls in
    let all = func_count_is m in
    let are =
    fit m decl_bytes decls is.are_decls is.is_module.accepted.valid (omega (arith, all, funcs, count, size, small, few))
    in
    accepted false m decls is.is_module.accepted are.0 are.1

pub foreign_replays_print_histories : PrintLaws → ListsAreWithinEncoding → DeclarationsAreWithinTexts → DeclarationsFit
    → WidenedAreAccepted → WidenedOutcomesFollow → ForeignReplaysPrintHistories
foreign_replays_print_histories laws lists sizes fit accepted follow module_bytes decl_bytes script_bytes turns printed
    small few p =
    replayed laws (foreign_source module_bytes decl_bytes) script_bytes (foreign_follow module_bytes decl_bytes follow)
    (one_declared module_bytes decl_bytes laws.one_module) p.x p.script turns printed p.inputs
    (widened_accepted module_bytes decl_bytes small few lists sizes fit accepted p.x p.inputs.read) p.replay.replay.made

-- ---- pairs

same_pair : (a b : ModulePair) → a.left ≡ b.left → a.right ≡ b.right → a ≡ b
same_pair a b left right = ap₂ (λ first second. record a { left = first; right = second }) left right

one_pair : (left_bytes right_bytes : List ℕ) → BytesEncodeOne → (a b : ModulePair)
    → ArePairBytes left_bytes right_bytes a → ArePairBytes left_bytes right_bytes b → a ≡ b
one_pair left_bytes right_bytes one_module a b first second =
    same_pair a b (one_module Core left_bytes a.left b.left first.is_left.encoded second.is_left.encoded)
    (one_module Core right_bytes a.right b.right first.is_right.encoded second.is_right.encoded)

linked_accepted : (left_bytes right_bytes : List ℕ) → length left_bytes ≤ MAX_FILE_BYTES
    → length right_bytes ≤ MAX_FILE_BYTES → ListsAreWithinEncoding → LinkedAreAccepted → (modules : ModulePair)
    → ArePairBytes left_bytes right_bytes modules → IsAccepted false (linked modules)
linked_accepted left_bytes right_bytes small few lists accepted modules are =
    let left = (lists Core left_bytes modules.left are.is_left.encoded).parts in
    let right = (lists Core right_bytes modules.right are.is_right.encoded).parts in
    accepted false modules are.is_left.accepted are.is_right.accepted are.no_fault (omega (arith, left, right, small, few))

pub pair_replays_print_histories : PrintLaws → ListsAreWithinEncoding → LinkedAreAccepted → LinkedOutcomesFollow
    → PairReplaysPrintHistories
pair_replays_print_histories laws lists accepted follow left_bytes right_bytes script_bytes turns printed small few p =
    replayed laws (pair_source left_bytes right_bytes) script_bytes (pair_follow left_bytes right_bytes follow)
    (one_pair left_bytes right_bytes laws.one_module) p.x p.script turns printed p.inputs
    (linked_accepted left_bytes right_bytes small few lists accepted p.x p.inputs.read) p.replay.replay.made
