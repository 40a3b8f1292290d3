-- An instruction of the original does the same in the store of a replay module.
use Rattle.std.proofs.Common.{◌≡◌, ℕ, zero, suc, List, [], ◌∷◌, ◌++◌, length, Option, Some, None, nat_le, slice_get, slice_set, refl, sym, ap, ◌∙◌, arith}
use Rattle.std.specs.Prelude.{◌&&◌, min, option_map, IfSome}
use Rattle.std.proofs.lemmas.Bool.Decides.{nat_tests}
use Rattle.std.proofs.lemmas.Option.{none-some, slice_get_within}
use Rattle.base.proofs.Options.{map_some}
use Rattle.base.proofs.Lists.{get_front}
use Rattle.wasm_syntax.specs.declared.limits.TheConstants.{MAX_DECLARED_PAGES, MAX_PAGES}
use Rattle.wasm_syntax.specs.declared.values.Val.{Val}
use Rattle.wasm_syntax.specs.declared.values.ValType.{ValType}
use Rattle.host_script.specs.Supply.{is_within}
use Rattle.history_spec.specs.Store.{Store, Memory, Table}
use Rattle.history_spec.specs.Code.{Code}
use Rattle.history_spec.specs.Configuration.{Frame}
use Rattle.history_spec.specs.Instruction.{Execution, Did, Traps, NoRule, Goes, Calls, Returns, execute}
use Rattle.record_replay_spec.specs.Known.{byte_of}
use Rattle.record_replay_spec.specs.Observations.{Observation, Reads, Copies, Writes, Reaches, Resizes, ReadsEntry, ReachesEntry, ResizesTable, ReadsGlobal, WritesGlobal}
use Rattle.record_replay_spec.specs.StoreAnswers.{BothOrNeither, AllowSamePages, AllowSameEntries, allows_pages, SameKind, HasWholePages, Answers, AnswersAll}
use Rattle.record_replay_spec.specs.Changes.{CanChange, CanChangeAll, IsChangedAs, with_change, with_changes}
use Rattle.record_replay_spec.specs.Executions.{Shares, IsCallOf, IsExecutedAlike, IsSameActivation}
use Rattle.record_replay_spec.specs.ObservedStepLaws.{observed, ObservedStepsAreAlike, StoresAnswerThemselves}
use Rattle.replay_module_laws.specs.Stores.{memory_cut, with_own}

-- ---- one kind

-- a maximum that is cut to the limit allows the same sizes
pub cut_same : (memory : Memory) (size : ℕ) → allows_pages (memory_cut memory) size ≡ allows_pages memory size
cut_same memory size = go memory.max
  where
    go : (max : Option ℕ)
        → (is_within size (option_map (λ max. min max MAX_DECLARED_PAGES) max) && nat_le size MAX_PAGES)
        ≡ (is_within size max && nat_le size MAX_PAGES)
    go None = refl
    go (Some most) = grind (arith, nat_tests)

module _ (own : List Val) where
  front_type : (xs : List Val) (x : ℕ) (ty : ValType) → option_map (λ (v : Val). v.ty) (slice_get xs x) ≡ Some ty
      → option_map (λ (v : Val). v.ty) (slice_get (xs ++ own) x) ≡ Some ty
  front_type xs x ty h =
      let there = map_some (λ (v : Val). v.ty) (slice_get xs x) ty h in
      ap (option_map (λ (v : Val). v.ty)) (get_front xs own x (slice_get_within xs x there.0 there.1)) ∙ h

  pub same_kind : (s : Store) → SameKind s (with_own own s)
  same_kind s =
      record {
        memory = of_memory s.memory;
        table = of_table s.table;
        globals = λ x ty h. front_type s.globals x ty h;
      }
    where
      of_memory : (o : Option Memory) → BothOrNeither AllowSamePages o (option_map memory_cut o)
      of_memory None = tt
      of_memory (Some memory) = λ size. cut_same memory size

      of_table : (o : Option Table) → BothOrNeither AllowSameEntries o o
      of_table None = tt
      of_table (Some table) = λ size. refl

  -- ---- answers

  if_cut : (P : Memory → Type 0) → ((memory : Memory) → P memory → P (memory_cut memory)) → (o : Option Memory)
      → IfSome o P → IfSome (option_map memory_cut o) P
  if_cut P k None h = h
  if_cut P k (Some memory) h = k memory h

  same_byte : (o : Option Memory) (at : ℕ) → byte_of (option_map memory_cut o) at ≡ byte_of o at
  same_byte None at = refl
  same_byte (Some memory) at = refl

  answers : (s : Store) (o : Observation) → Answers s o → Answers (with_own own s) o
  answers s (Reads address bytes) h = λ at byte e. same_byte s.memory at ∙ h at byte e
  answers s (Copies address bytes) h = λ at byte e. same_byte s.memory at ∙ h at byte e
  answers s (Reaches end found) h = if_cut _ (λ memory p. p) s.memory h
  answers s (Resizes found left) h = if_cut _ (λ memory p. p) s.memory h
  answers s (ReadsGlobal global value) h =
      get_front s.globals own global (slice_get_within s.globals global value h) ∙ h
  answers s (ReadsEntry index func) h = h
  answers s (ReachesEntry index found) h = h
  answers s (ResizesTable found left func) h = h
  answers s o h = tt

  all_answers : (s : Store) (seen : List Observation) → AnswersAll s seen → AnswersAll (with_own own s) seen
  all_answers s [] h = tt
  all_answers s (o ∷ seen) h = (answers s o h.0, all_answers s seen h.1)

  -- ---- changes

  set_front : (xs : List Val) (x : ℕ) (v : Val) → option_map (λ (v : Val). v.ty) (slice_get xs x) ≡ Some v.ty
      → slice_set (xs ++ own) x v ≡ slice_set xs x v ++ own
  set_front [] x v h = absurd (none-some v.ty h)
  set_front (y ∷ xs) zero v h = refl
  set_front (y ∷ xs) (suc x) v h = ap (λ l. y ∷ l) (set_front xs x v h)

  mapped : (f : Memory → Memory) → ((memory : Memory) → f (memory_cut memory) ≡ memory_cut (f memory))
      → (o : Option Memory) → option_map f (option_map memory_cut o) ≡ option_map memory_cut (option_map f o)
  mapped f e None = refl
  mapped f e (Some memory) = ap Some (e memory)

  pub changed : (s : Store) (o : Observation) → CanChange s o
      → with_change (with_own own s) o ≡ with_own own (with_change s o)
  changed s (Writes address bytes) h =
      ap (λ o. record { memory = o; table = s.table; globals = s.globals ++ own }) (mapped _ (λ memory. refl) s.memory)
  changed s (Resizes found left) h =
      ap (λ o. record { memory = o; table = s.table; globals = s.globals ++ own }) (mapped _ (λ memory. refl) s.memory)
  changed s (WritesGlobal global value) h =
      ap (λ globals. record { memory = option_map memory_cut s.memory; table = s.table; globals = globals })
      (set_front s.globals global value h)
  changed s o h = refl

  all_changed : (s : Store) (seen : List Observation) → CanChangeAll s seen
      → with_changes (with_own own s) seen ≡ with_own own (with_changes s seen)
  all_changed s [] h = refl
  all_changed s (o ∷ seen) h =
      ap (λ t. with_changes t seen) (changed s o h.0) ∙ all_changed (with_change s o) seen h.1

  -- ---- executions

  -- an execution by the replay module's code is that by the original's code, in the store beside; and what the
  -- original's execution keeps
  abbrev pub IsBeside : Code → Store → Frame → Execution → Execution → Type 0
  IsBeside code s frame NoRule second = Unit {0}
  IsBeside code s frame (Traps kind operands found) second = second ≡ Traps kind operands found
  IsBeside code s frame (Did operands results found (Goes after next)) second =
      (second ≡ Did operands results found (Goes (with_own own after) next)) × IsSameActivation frame next
      × IsChangedAs s (observed s frame) after
  IsBeside code s frame (Did operands results found (Calls waiting func args)) second =
      (second ≡ Did operands results found (Calls waiting func args)) × IsSameActivation frame waiting
      × IsCallOf code operands found func args
  IsBeside code s frame (Did operands results found (Returns given)) second =
      (second ≡ Did operands results found (Returns given)) × (length given ≡ frame.arity)

  pub executed_beside : StoresAnswerThemselves → ObservedStepsAreAlike → (code other : Code) → Shares code other
      → (s : Store) (frame : Frame) → HasWholePages s
      → IsBeside code s frame (execute code s frame) (execute other (with_own own s) frame)
  executed_beside answer law code other shares s frame whole =
      go (execute code s frame) (execute other (with_own own s) frame)
      (law code other s (with_own own s) frame shares
      (record {
        kind = same_kind s;
        whole = whole;
        answers = all_answers s (observed s frame) (answer s frame.values frame.at.rest whole);
      }))
    where
      go : (first second : Execution)
          → IsExecutedAlike code s (with_own own s) (observed s frame) frame first second
          → IsBeside code s frame first second
      go NoRule second h = tt
      go (Traps kind operands found) second h = h
      go (Did operands results found (Goes after next)) second h = (
        h.same
            ∙ ap (λ t. Did operands results found (Goes t next))
            (all_changed s (observed s frame) h.first_store.possible
            ∙ ap (with_own own) (sym h.first_store.changed)),
        h.kept,
        h.first_store,
      )
      go (Did operands results found (Calls waiting func args)) second h = (h.same, h.kept.0, h.kept.1)
      go (Did operands results found (Returns given)) second h = (h.same, h.kept)
