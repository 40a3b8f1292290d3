-- What is known of two modules that are read from files, of their linked module, and of the answer of a call that links
-- them.
use Rattle.std.proofs.Common.{◌≡◌, ◌⊎◌, inl, inr, ◌+◌, ◌<◌, ◌≤◌, ◌^◌, length, map, All, Option, Some, None, Ok, Err, false, refl, sym, ◌∙◌, ap, arith}
use Rattle.std.proofs.lemmas.List.Elements.{All-append, All-map}
use Rattle.wasm_syntax.specs.declared.modules.DataSeg.{DataSeg}
use Rattle.wasm_syntax.specs.declared.modules.Module.{Module}
use Rattle.wasm_syntax.specs.Encoding.Laws.{EncodableInCore}
use Rattle.wasm_syntax.proofs.VectorLists.{globals_few}
use Rattle.type_safety.specs.Supplies.{HasBytes}
use Rattle.instance_spec.specs.declared.sides.Side.TheVariants.{Left, Right}
use Rattle.pair_spec.specs.declared.faults.PairFault.{PairFault}
use Rattle.pair_spec.specs.declared.faults.PairFault.TheVariants as pair
use Rattle.pair_spec.specs.Faults.{first_pair_fault}
use Rattle.pair_spec.specs.Linked.{linked, linked_data}
use Rattle.pair_spec.specs.Numbers.{count_in}
use Rattle.pair_spec.specs.Pairs.{Funcs, Globals, ModulePair}
use Rattle.pair_laws.specs.Laws.{AreLinkable}
use Rattle.pair_laws.specs.LinkedLaws.{HaveFewItems, LinkedAreAccepted, LinkedAreCore, LinkedAreEncodable, LinkedAreSupported}
use Rattle.pair_laws.specs.SizeLaws.{CountsAreWithin, LinkedAreShort, LinkedAreWithin}
use Rattle.linked_pair.specs.LinkedPairs.{HaveFewIndices}
use Rattle.r3_faults.specs.Answers.{IsExactValue}
use Rattle.r3_instances.specs.PairInputs.{pair_fault, IsPairFault}
use Rattle.r3_instances.specs.RecordedModules.{AreFromFiles, CanBeRecorded, IsLinkedOf}
use Rattle.r3_instances.proofs.ResultLemmas.{no_memory}

-- a data segment holds bytes
abbrev HasOwnBytes : DataSeg → Type 0
HasOwnBytes d = All (λ byte. byte < 256) d.bytes

-- ---- the linked module

module _ (modules : ModulePair) (are : AreFromFiles modules) (counts : CountsAreWithin) where
  funcs_counted : count_in modules Funcs ≤ 2 ^ 24
  funcs_counted =
      let most : count_in modules Funcs
      ≤ length modules.left.imports + length modules.right.imports + length modules.left.funcs
      + length modules.right.funcs = counts modules Funcs
      in
      let left = are.left.parts in
      let right = are.right.parts in
      omega (arith, most, left, right)

  globals_counted : count_in modules Globals ≤ 2 ^ 25
  globals_counted =
      let most : count_in modules Globals
      ≤ length modules.left.imports + length modules.right.imports + length modules.left.globals
      + length modules.right.globals = counts modules Globals
      in
      let left = are.left.parts in
      let right = are.right.parts in
      let own = globals_few modules.left in
      let other = globals_few modules.right in
      let short = are.left.within in
      let small = are.right.within in
      omega (arith, most, left, right, own, other, short, small)

  types_counted : length modules.left.types + length modules.right.types ≤ 2 ^ 24
  types_counted =
      let left = are.left.parts in
      let right = are.right.parts in omega (arith, left, right)

  pub few_indices : HaveFewIndices modules
  few_indices = record {
    imports =
        let left = are.left.parts in
        let right = are.right.parts in omega (arith, left, right);
    types = let types = types_counted in omega (arith, types);
    funcs = let funcs = funcs_counted in omega (arith, funcs);
    globals = let globals = globals_counted in omega (arith, globals);
  }

  few_items : HaveFewItems modules
  few_items = record {
    funcs = let funcs = funcs_counted in omega (arith, funcs);
    globals = let globals = globals_counted in omega (arith, globals);
  }

  linked_bytes : HasBytes (linked modules)
  linked_bytes =
      All-append HasOwnBytes (map (linked_data modules Left) modules.left.datas)
      (map (linked_data modules Right) modules.right.datas)
      (All-map HasOwnBytes (linked_data modules Left) modules.left.datas are.left.bytes)
      (All-map HasOwnBytes (linked_data modules Right) modules.right.datas are.right.bytes)

  -- the linked module can be recorded
  pub linked_recorded : LinkedAreAccepted → LinkedAreCore → LinkedAreEncodable → LinkedAreShort → LinkedAreSupported
      → LinkedAreWithin → EncodableInCore → first_pair_fault modules ≡ None → CanBeRecorded (linked modules)
  linked_recorded accepted core encodable short supported within in_core none =
      let linkable : AreLinkable modules =
      record { left = are.left.accepted.valid; right = are.right.accepted.valid; no_fault = none }
      in
      record {
        accepted =
            accepted false modules are.left.accepted are.right.accepted none
            (let types = types_counted in omega (arith, types));
        supported = supported modules are.left.supported are.right.supported;
        short =
            short modules are.left.short are.right.short (let types = types_counted in omega (arith, types))
            (let funcs = funcs_counted in omega (arith, funcs));
        bytes = linked_bytes;
        core =
            core modules (in_core modules.left are.left.encodable) (in_core modules.right are.right.encodable);
        encodable = encodable.core_form modules linkable few_items are.left.encodable are.right.encodable;
        within = within modules linkable are.left.within are.right.within;
      }

-- ---- the answer of a call that links them

module _ (modules : ModulePair) where
  none-some : (o : Option PairFault) (found : PairFault) → o ≡ None → o ≡ Some found → ⊥
  none-some o found none some = cc (sym none ∙ some)

  some-one : (o : Option PairFault) (f g : PairFault) → o ≡ Some f → o ≡ Some g → g ≡ f
  some-one o f g some other = cc (sym some ∙ other)

  pub linked_answer : (m : Module) → m ≡ linked modules → first_pair_fault modules ≡ None
      → IsExactValue (IsLinkedOf modules) (IsPairFault modules) (Ok m)
  linked_answer m is none = record {
    taken = record { no_fault = none; is = is };
    cause = tt;
    refused = λ fault refusal. absurd (none-some (first_pair_fault modules) refusal.found none refusal.first);
    accepted = λ other of. inl (ap Ok (is ∙ sym of.is));
  }

  first_answer : (found : PairFault) → (found ≡ pair.Memory → ⊥)
      → (found ≡ pair.Memory) ⊎ (first_pair_fault modules ≡ Some found)
      → IsExactValue (IsLinkedOf modules) (IsPairFault modules) (Err (pair_fault found))
  first_answer found differs (inl memory) = absurd (differs memory)
  first_answer found differs (inr first) = record {
    taken = tt;
    cause = inr (record { found = found; named = refl; differs = differs; first = first });
    refused = λ fault refusal.
        let same = some-one (first_pair_fault modules) found refusal.found first refusal.first in
        inl (ap Err (sym (refusal.named ∙ ap pair_fault same)));
    accepted = λ other of. absurd (none-some (first_pair_fault modules) found of.no_fault first);
  }

  pub pair_fault_answer : (found : PairFault) → (found ≡ pair.Memory) ⊎ (first_pair_fault modules ≡ Some found)
      → IsExactValue (IsLinkedOf modules) (IsPairFault modules) (Err (pair_fault found))
  pair_fault_answer (pair.Unresolved side import) either =
      first_answer (pair.Unresolved side import) (λ memory. cc memory) either
  pair_fault_answer (pair.Mismatch side import) either =
      first_answer (pair.Mismatch side import) (λ memory. cc memory) either
  pair_fault_answer pair.TwoMemories either = first_answer pair.TwoMemories (λ memory. cc memory) either
  pair_fault_answer pair.TwoTables either = first_answer pair.TwoTables (λ memory. cc memory) either
  pair_fault_answer pair.TwoStarts either = first_answer pair.TwoStarts (λ memory. cc memory) either
  pair_fault_answer pair.Memory either = no_memory (IsLinkedOf modules) (IsPairFault modules)
