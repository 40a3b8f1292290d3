-- The examples can be run, their scripts fit them, and their runs have needed tapes.
use Rattle.std.proofs.Common.{◌≡◌, ℕ, ◌<◌, List, [], ◌∷◌, Some, None, Ok, All, true, refl, sym, ap, ◌∙◌, subst, arith}
use Rattle.std.specs.Prelude.{IsTrue}
use Rattle.std.specs.List.{AllByRecursion}
use Rattle.std.proofs.lemmas.List.Elements.{All-from_recursion}
use Rattle.wasm_syntax.specs.declared.values.ValType.{ValType}
use Rattle.wasm_syntax.specs.declared.values.ValType.TheVariants.{I32, F32}
use Rattle.wasm_syntax.specs.declared.signatures.FuncType.{FuncType}
use Rattle.wasm_syntax.specs.declared.modules.Module.{Module}
use Rattle.wasm_syntax.specs.declared.modules.DataSeg.{DataSeg}
use Rattle.wasm_syntax.specs.Profile.{refused_instructions, quantities_past}
use Rattle.wasm_syntax.specs.ValidityTests.{invalid_at}
use Rattle.wasm_syntax.specs.Laws.{ValidityIsDecided}
use Rattle.wasm_syntax.specs.Typing.{is_constant}
use Rattle.host_script.specs.declared.scripts.Action.{Action}
use Rattle.host_script.specs.declared.scripts.Action.TheVariants.{Write, SetTable, SetGlobal, Grow as GrowBy, GrowTable, Call as CallFunc}
use Rattle.host_script.specs.declared.scripts.Address.TheVariants.{Fixed, Arg}
use Rattle.host_script.specs.declared.scripts.Script.{Script}
use Rattle.host_script.specs.declared.scripts.Supply.{Supply}
use Rattle.host_script.specs.declared.scripts.ResponseEnd.TheVariants.{Return as Gives}
use Rattle.host_script.specs.Fits.{HasMemory, FitsAction, FitActions, FitsEnd, FitsResponse, Fits}
use Rattle.host_script.specs.Supply.{supply_of}
use Rattle.base.specs.declared.outcomes.Outcome.{Outcome}
use Rattle.trace_model.specs.declared.tapes.Segment.{Segment}
use Rattle.history_spec.specs.Store.{Store}
use Rattle.history_spec.specs.Instantiation.{instantiate}
use Rattle.history_spec.specs.Step.{Finished}
use Rattle.history_spec.specs.Run.{program_of, start_in_store}
use Rattle.record_replay_spec.specs.Laws.{TestedSegmentsAreNeeded}
use Rattle.record_replay_spec.specs.Needed.{IsNeededTape, opening_store, opening_store_with}
use Rattle.type_safety.specs.Supplies.{IsRunnable, HasBytes}
use Rattle.worked_histories.specs.Modules.{two_answers, overwrite, grow_access, copy_load, fill_past, nested_call, table_entry, table_growth, float_global, c_buffers}
use Rattle.worked_histories.specs.Build.{value, i32, returns, traps}
use Rattle.worked_histories.specs.Scripts.{five_seven, host_traps, does, does_all, calls_back, reads_hi}
use Rattle.worked_tapes.specs.TapeBuild.{scripted_run}
use Rattle.worked_tapes.proofs.Needs.{test, needed_by_test}
use Rattle.worked_laws.specs.Dropped.{writes_four, writes_copied}
use Rattle.worked_laws.proofs.Fit.{no_constants, one_call_fits, does_fits}

-- the empty supply
abbrev pub none_supplied : Supply
none_supplied = record { memory = None; table = None; globals = [] }

-- what is computed of an example: it can be run, and it links without a supply
pub record CanRun (m : Module) (script : Script) : Type 0 where
  pub valid : invalid_at m ≡ None
  pub instructions : refused_instructions m ≡ []
  pub quantities : quantities_past true m ≡ []
  pub bytes : HasBytes m
  pub supplied : supply_of m script ≡ Ok none_supplied
  pub fits : Fits m script

-- the scripted run has this outcome and needs these segments
pub record HasTape (m : Module) (script : Script) (segments : List Segment) (outcome : Outcome) (store : Store)
    : Type 0 where
  pub ends : (scripted_run m script store).at ≡ Finished outcome
  pub tested : test m script segments store ≡ true

abbrev pub needed_tape : TestedSegmentsAreNeeded → (m : Module) (script : Script) (segments : List Segment)
    (outcome : Outcome) (store : Store) → HasTape m script segments outcome store
    → IsNeededTape (program_of m script) (start_in_store m script store) store segments
needed_tape law m script segments outcome store has =
    needed_by_test law m script segments outcome store has.ends has.tested

pub runnable : ValidityIsDecided → (m : Module) (script : Script) → CanRun m script → IsRunnable m
runnable valid m script can =
    record {
      valid = (valid m).1 can.valid;
      supported = record { instructions = can.instructions; quantities = can.quantities };
      bytes = can.bytes;
    }

-- without a supply a module begins with the store in which its run starts
pub opens : (m : Module) (script : Script) (store : Store) → CanRun m script → opening_store m script ≡ Ok store
    → instantiate m none_supplied ≡ Ok store
opens m script store can e = sym (ap (opening_store_with m) can.supplied) ∙ e

-- ---- the examples can be run

no_data : All (λ (segment : DataSeg). All (λ byte. byte < 256) segment.bytes) []
no_data = All-from_recursion (λ (segment : DataSeg). All (λ byte. byte < 256) segment.bytes) [] tt

small : (m : Module) (actions : List Action) → AllByRecursion (FitsAction m []) actions → FitActions m [] actions
small m actions each = All-from_recursion (FitsAction m []) actions each

four_small : (a b c d : ℕ) → a < 256 → b < 256 → c < 256 → d < 256
    → All (λ byte. byte < 256) (a ∷ b ∷ c ∷ d ∷ [])
four_small a b c d p q r s =
    All-from_recursion (λ byte. byte < 256) (a ∷ b ∷ c ∷ d ∷ []) (p, (q, (r, (s, tt))))

-- four bytes are written at 8
abbrev writes : (a b c d : ℕ) → List Action
writes a b c d = Write (Fixed 8) (a ∷ b ∷ c ∷ d ∷ []) ∷ []

four_written : (m : Module) → HasMemory m → (a b c d : ℕ) → a < 256 → b < 256 → c < 256 → d < 256
    → FitActions m [] (writes a b c d)
four_written m has a b c d p q r s = small m (writes a b c d) ((has, tt, four_small a b c d p q r s), tt)

can_run : (m : Module) (script : Script) → invalid_at m ≡ None → refused_instructions m ≡ []
    → quantities_past true m ≡ [] → m.datas ≡ [] → supply_of m script ≡ Ok none_supplied → Fits m script
    → CanRun m script
can_run m script valid instructions quantities no_segments supplied fits =
    record {
      valid = valid;
      instructions = instructions;
      quantities = quantities;
      bytes =
          subst (All (λ (segment : DataSeg). All (λ byte. byte < 256) segment.bytes)) (sym no_segments) no_data;
      supplied = supplied;
      fits = fits;
    }

-- types of functions without parameters
abbrev gives : List ValType → FuncType
gives results = record { params = []; results = results }

pub overwrite_runs : CanRun overwrite writes_four
overwrite_runs =
    can_run overwrite writes_four refl refl refl refl refl
    (does_fits overwrite (gives (I32 ∷ [])) (writes 0xAA 0xBB 0xCC 0xDD) refl refl (omega arith) refl refl refl
    (four_written overwrite (omega arith) 0xAA 0xBB 0xCC 0xDD (omega arith) (omega arith) (omega arith) (omega arith)))

pub grow_access_runs : CanRun grow_access (does (GrowBy 1))
grow_access_runs =
    can_run grow_access (does (GrowBy 1)) refl refl refl refl refl
    (does_fits grow_access (gives []) (GrowBy 1 ∷ []) refl refl (omega arith) refl refl refl
    (small grow_access (GrowBy 1 ∷ []) (omega arith, tt)))

pub table_entry_runs : CanRun table_entry (does (SetTable 0 (Some 3)))
table_entry_runs =
    can_run table_entry (does (SetTable 0 (Some 3))) refl refl refl refl refl
    (does_fits table_entry (gives (I32 ∷ [])) (SetTable 0 (Some 3) ∷ []) refl refl (omega arith) refl refl refl
    (small table_entry (SetTable 0 (Some 3) ∷ []) ((omega arith, omega arith), tt)))

abbrev pub grows_table : List Action
grows_table = GrowTable 4 ∷ SetTable 5 (Some 3) ∷ []

pub table_growth_runs : CanRun table_growth (does_all grows_table)
table_growth_runs =
    can_run table_growth (does_all grows_table) refl refl refl refl refl
    (does_fits table_growth (gives (I32 ∷ [])) grows_table refl refl (omega arith) refl refl refl
    (small table_growth grows_table (omega arith, ((omega arith, omega arith), tt))))

abbrev pub sets_global : Action
sets_global = SetGlobal 0 (value F32 0x7FA00001)

pub float_global_runs : CanRun float_global (does sets_global)
float_global_runs =
    can_run float_global (does sets_global) refl refl refl refl refl
    (does_fits float_global (gives (F32 ∷ [])) (sets_global ∷ []) refl refl (omega arith) refl refl refl
    (small float_global (sets_global ∷ []) (
      record {
        in_range = refl;
        ty = record { ty = F32; mutable = true };
        there = refl;
        mutable = refl;
        typed = refl;
      },
      tt,
    )))

abbrev nested_actions : List Action
nested_actions = CallFunc 2 [] ∷ Write (Fixed 0) (4 ∷ []) ∷ []

nested_fits : FitActions nested_call [] nested_actions
nested_fits =
    small nested_call nested_actions (
      record {
        defined = omega arith;
        ty = gives (I32 ∷ []);
        has_type = refl;
        fit = record { in_range = no_constants; typed = refl };
      },
      (
        (omega arith, tt, All-from_recursion (λ byte. byte < 256) (4 ∷ []) (omega arith, tt)),
        tt,
      ),
    )

one_value : (bits : ℕ) → IsTrue (is_constant (i32 bits)) → FitsEnd (I32 ∷ []) (Gives (Some (i32 bits)))
one_value bits own =
    record {
      in_range = All-from_recursion (λ value. IsTrue (is_constant value)) (i32 bits ∷ []) (own, tt);
      typed = refl;
    }

pub nested_call_runs : CanRun nested_call calls_back
nested_call_runs =
    can_run nested_call calls_back refl refl refl refl refl
    (one_call_fits nested_call 0 (gives (I32 ∷ [])) (gives (I32 ∷ []))
    (returns nested_actions (Some (i32 1)) ∷ returns [] (Some (i32 2)) ∷ []) refl refl (omega arith) refl refl refl
    (All-from_recursion (FitsResponse nested_call (gives (I32 ∷ [])))
    (returns nested_actions (Some (i32 1)) ∷ returns [] (Some (i32 2)) ∷ []) (
      record { actions = nested_fits; «end» = one_value 1 refl },
      (record { actions = small nested_call [] tt; «end» = one_value 2 refl }, tt),
    )))

pub copy_load_runs : CanRun copy_load writes_copied
copy_load_runs =
    can_run copy_load writes_copied refl refl refl refl refl
    (does_fits copy_load (gives (I32 ∷ [])) (writes 0x85 0x00 0x00 0x01) refl refl (omega arith) refl refl refl
    (four_written copy_load (omega arith) 0x85 0x00 0x00 0x01 (omega arith) (omega arith) (omega arith) (omega arith)))

pub unread_write_runs : CanRun overwrite (does (Write (Fixed 100) (0xFF ∷ [])))
unread_write_runs =
    can_run overwrite (does (Write (Fixed 100) (0xFF ∷ []))) refl refl refl refl refl
    (does_fits overwrite (gives (I32 ∷ [])) (Write (Fixed 100) (0xFF ∷ []) ∷ []) refl refl (omega arith) refl refl refl
    (small overwrite (Write (Fixed 100) (0xFF ∷ []) ∷ []) (
      (omega arith, tt, All-from_recursion (λ byte. byte < 256) (0xFF ∷ []) (omega arith, tt)),
      tt,
    )))

pub fill_past_runs : CanRun fill_past (does (GrowBy 1))
fill_past_runs =
    can_run fill_past (does (GrowBy 1)) refl refl refl refl refl
    (does_fits fill_past (gives []) (GrowBy 1 ∷ []) refl refl (omega arith) refl refl refl
    (small fill_past (GrowBy 1 ∷ []) (omega arith, tt)))

pub two_answers_runs : CanRun two_answers five_seven
two_answers_runs =
    can_run two_answers five_seven refl refl refl refl refl
    (one_call_fits two_answers 0 (gives (I32 ∷ [])) (gives (I32 ∷ []))
    (returns [] (Some (i32 5)) ∷ returns [] (Some (i32 7)) ∷ []) refl refl (omega arith) refl refl refl
    (All-from_recursion (FitsResponse two_answers (gives (I32 ∷ [])))
    (returns [] (Some (i32 5)) ∷ returns [] (Some (i32 7)) ∷ []) (
      record { actions = small two_answers [] tt; «end» = one_value 5 refl },
      (record { actions = small two_answers [] tt; «end» = one_value 7 refl }, tt),
    )))

pub host_trap_runs : CanRun two_answers host_traps
host_trap_runs =
    can_run two_answers host_traps refl refl refl refl refl
    (one_call_fits two_answers 0 (gives (I32 ∷ [])) (gives (I32 ∷ [])) (traps ∷ []) refl refl (omega arith) refl refl
    refl
    (All-from_recursion (FitsResponse two_answers (gives (I32 ∷ []))) (traps ∷ [])
    (record { actions = small two_answers [] tt; «end» = tt }, tt)))

-- the parameters and the result of the import of the buffers
abbrev reads_type : FuncType
reads_type = record { params = I32 ∷ I32 ∷ I32 ∷ []; results = I32 ∷ [] }

abbrev read_actions : List Action
read_actions = Write (Arg 0 0) (0x68 ∷ 0x69 ∷ 0x0A ∷ 0 ∷ []) ∷ Write (Arg 2 0) (3 ∷ 0 ∷ 0 ∷ 0 ∷ []) ∷ []

pub c_buffers_runs : CanRun c_buffers reads_hi
c_buffers_runs =
    can_run c_buffers reads_hi refl refl refl refl refl
    (one_call_fits c_buffers 0 reads_type (gives (I32 ∷ [])) (returns read_actions (Some (i32 0)) ∷ []) refl refl
    (omega arith) refl refl refl
    (All-from_recursion (FitsResponse c_buffers reads_type) (returns read_actions (Some (i32 0)) ∷ []) (
      record {
        actions = All-from_recursion (FitsAction c_buffers reads_type.params) read_actions (
          (omega arith, refl, four_small 0x68 0x69 0x0A 0 (omega arith) (omega arith) (omega arith) (omega arith)),
          ((omega arith, refl, four_small 3 0 0 0 (omega arith) (omega arith) (omega arith) (omega arith)), tt),
        );
        «end» = one_value 0 refl;
      },
      tt,
    )))
