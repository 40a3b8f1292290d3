-- Readers of events and of segments read exactly their encodings.
use Rattle.std.proofs.Common.{◌≡◌, ℕ, ◌<◌, ◌^◌, Bool, true, false, cond, List, [], ◌∷◌, ◌++◌, length, Option, Some, refl, sym, subst}
use Rattle.std.specs.Prelude.{nat_eq, IfSome}
use Rattle.std.specs.List.{AllByRecursion}
use Rattle.std.proofs.lemmas.Bool.{eqb-true}
use Rattle.leb_bytes.specs.Encoding.{IsReadBy}
use Rattle.leb_bytes.specs.Unsigned.{u32_bytes}
use Rattle.wasm_syntax.specs.Encoding.Combinators.{Reader, by_mark, first_then, row_at}
use Rattle.wasm_syntax.specs.Encoding.Encodable.{FitsU32}
use Rattle.wasm_syntax.specs.Encoding.Grammar.{Grammar}
use Rattle.wasm_syntax.specs.Encoding.Shortest.{sized_bytes, vector_bytes}
use Rattle.wasm_syntax.specs.declared.values.Val.{Val}
use Rattle.wasm_syntax.proofs.Encoding.Tools.{as_read_is, by_mark_found, done_finds, done_only, rows_well}
use Rattle.base.specs.declared.outcomes.Outcome.{Outcome}
use Rattle.base.specs.declared.outcomes.Outcome.TheVariants.{Ended, Trapped, HostTrapped}
use Rattle.trace_model.specs.declared.events.Event.{Event}
use Rattle.trace_model.specs.declared.events.Event.TheVariants.{Enter, Leave, Pre, Post, Grow, Seen, Table, Bytes, Entry, Global}
use Rattle.trace_model.specs.declared.tapes.Effect.{Effect}
use Rattle.trace_model.specs.declared.tapes.Effect.TheVariants as changes
use Rattle.trace_model.specs.declared.tapes.Origin.{Origin}
use Rattle.trace_model.specs.declared.tapes.Origin.TheVariants.{Begin, Import, Back}
use Rattle.trace_model.specs.declared.tapes.Next.{Next}
use Rattle.trace_model.specs.declared.tapes.Next.TheVariants.{Call, Return, End, Trap}
use Rattle.trace_model.specs.declared.tapes.Segment.{Segment}
use Rattle.trace_bytes.specs.declared.tags.TheConstants.{VERSION_2, TAG_ENTER, TAG_LEAVE, TAG_PRE, TAG_POST, TAG_GROW, TAG_SEEN, TAG_BYTES, TAG_ENTRY, TAG_GLOBAL, TAG_TABLE, TAG_ENDED, TAG_TRAPPED, TAG_HOST_TRAPPED, TAG_BEGIN, TAG_IMPORT, TAG_BACK, TAG_CALL, TAG_RETURN, TAG_END, TAG_TRAP}
use Rattle.trace_bytes.specs.Spelling.{call_bytes, effect_bytes, event_bytes, next_bytes, option_bytes, origin_bytes, outcome_byte, segment_bytes, val_bytes}
use Rattle.trace_bytes.specs.Spelled.{FitVals, FitsEffect, FitsEvent, FitsNext, FitsOrigin, FitsSegment, FitsVal}
use Rattle.trace_format.specs.Laws.{NumberLaws, Spells}
use Rattle.trace_format.specs.Reading.{effect_rows, event_rows, first_args, first_bytes, first_counted, first_effect, first_event, first_next, first_number, first_option, first_origin, first_outcome, first_segment, first_val, from_second, next_rows, origin_rows, outcome_rows, segment_of, with_pair}
use Rattle.trace_format.proofs.FileLaws.{IsAny}
use Rattle.trace_format.proofs.PartReaders.{AreFew, bytes_reads, counted_reads, number_reads, option_reads, row_finds, row_only, same_grammar, then_reads}
use Rattle.trace_format.proofs.ValueReaders.{val_reads}

-- a row that only the second version has
second_all : {A : Type 0} (P : ℕ × Reader A → Type 0) (version : ℕ) (row : ℕ × Reader A)
    → (version ≡ VERSION_2 → P row) → AllByRecursion P (from_second version row)
second_all {A} P version row holds = go (nat_eq version VERSION_2) refl where
  go : (b : Bool) → nat_eq version VERSION_2 ≡ b → AllByRecursion P (cond b (row ∷ []) [])
  go true e = (holds (eqb-true version VERSION_2 e), tt)
  go false e = tt

-- the value, if there is one, fits its type
abbrev IsResult : Option Val → Type 0
IsResult o = IfSome o FitsVal

abbrev IsCallee : Option ℕ → Type 0
IsCallee o = IfSome o FitsU32

module _ (laws : NumberLaws) where
  args_read : IsReadBy (Spells FitVals (vector_bytes val_bytes)) first_args
  unfolding first_args
  args_read = let is = counted_reads laws FitsVal val_bytes first_val val_reads in record { found = is.found; only = is.only }

  abbrev IsCall : ℕ × List Val → Type 0
  IsCall call = FitsU32 call.0 × FitVals call.1

  abbrev spell_call : ℕ × List Val → List ℕ
  spell_call call = call_bytes call.0 call.1

  call_reads : IsReadBy (Spells IsCall spell_call) (first_then first_number first_args)
  call_reads = then_reads FitsU32 u32_bytes FitVals (vector_bytes val_bytes) first_number first_args (number_reads laws) args_read

  callee_reads : IsReadBy (Spells IsCallee (option_bytes u32_bytes)) (first_option first_number)
  callee_reads = option_reads FitsU32 u32_bytes first_number (number_reads laws)

  result_reads : IsReadBy (Spells IsResult (option_bytes val_bytes)) (first_option first_val)
  result_reads = option_reads FitsVal val_bytes first_val val_reads

  abbrev IsPlaced : ℕ × List ℕ → Type 0
  IsPlaced placed = FitsU32 placed.0 × AreFew laws placed.1

  abbrev spell_placed : ℕ × List ℕ → List ℕ
  spell_placed placed = u32_bytes placed.0 ++ sized_bytes placed.1

  placed_reads : IsReadBy (Spells IsPlaced spell_placed) (first_then first_number first_bytes)
  placed_reads = then_reads FitsU32 u32_bytes (AreFew laws) sized_bytes first_number first_bytes (number_reads laws) (bytes_reads laws)

  abbrev IsEntry : ℕ × Option ℕ → Type 0
  IsEntry entry = FitsU32 entry.0 × IsCallee entry.1

  abbrev spell_entry : ℕ × Option ℕ → List ℕ
  spell_entry entry = u32_bytes entry.0 ++ option_bytes u32_bytes entry.1

  entry_reads : IsReadBy (Spells IsEntry spell_entry) (first_then first_number (first_option first_number))
  entry_reads = then_reads FitsU32 u32_bytes IsCallee (option_bytes u32_bytes) first_number (first_option first_number) (number_reads laws) callee_reads

  abbrev IsGlobal : ℕ × Val → Type 0
  IsGlobal global = FitsU32 global.0 × FitsVal global.1

  abbrev spell_global : ℕ × Val → List ℕ
  spell_global global = u32_bytes global.0 ++ val_bytes global.1

  global_reads : IsReadBy (Spells IsGlobal spell_global) (first_then first_number first_val)
  global_reads = then_reads FitsU32 u32_bytes FitsVal val_bytes first_number first_val (number_reads laws) val_reads

  -- ---- events

  event_only : (version : ℕ) (bytes rest : List ℕ) (event : Event) → Spells (FitsEvent version) event_bytes bytes event
      → by_mark (row_at (event_rows version)) (bytes ++ rest) ≡ Some (event, rest)
  unfolding event_bytes
  event_only version bytes rest (Enter func args) h =
      row_only (row_at (event_rows version)) IsCall spell_call TAG_ENTER (first_then first_number first_args)
      (with_pair Enter) refl call_reads bytes rest (func, args) h.fits h.spelled
  event_only version bytes rest (Leave func) h =
      row_only (row_at (event_rows version)) FitsU32 u32_bytes TAG_LEAVE first_number Leave refl (number_reads laws) bytes rest func h.fits h.spelled
  event_only version bytes rest (Pre callee) h =
      row_only (row_at (event_rows version)) IsCallee (option_bytes u32_bytes) TAG_PRE
      (first_option first_number) Pre refl callee_reads bytes rest callee h.fits h.spelled
  event_only version bytes rest (Post result) h =
      row_only (row_at (event_rows version)) IsResult (option_bytes val_bytes) TAG_POST
      (first_option first_val) Post refl result_reads bytes rest result h.fits h.spelled
  event_only version bytes rest (Grow pages) h =
      row_only (row_at (event_rows version)) FitsU32 u32_bytes TAG_GROW first_number Grow refl (number_reads laws) bytes rest pages h.fits h.spelled
  event_only version bytes rest Seen h = done_only (row_at (event_rows version)) TAG_SEEN Seen refl bytes rest h.spelled
  event_only version bytes rest (Table size) h =
      subst (λ v. by_mark (row_at (event_rows v)) (bytes ++ rest) ≡ Some (Table size, rest)) (sym h.fits.0)
      (row_only (row_at (event_rows VERSION_2)) FitsU32 u32_bytes TAG_TABLE first_number Table refl (number_reads laws) bytes rest size h.fits.1 h.spelled)
  event_only version bytes rest (Bytes addr content) h =
      row_only (row_at (event_rows version)) IsPlaced spell_placed TAG_BYTES (first_then first_number first_bytes)
      (with_pair Bytes) refl placed_reads bytes rest (addr, content)
      (h.fits.address, (h.fits.some, h.fits.few)) h.spelled
  event_only version bytes rest (Entry index func) h =
      row_only (row_at (event_rows version)) IsEntry spell_entry TAG_ENTRY
      (first_then first_number (first_option first_number)) (with_pair Entry) refl entry_reads bytes rest
      (index, func) h.fits h.spelled
  event_only version bytes rest (Global global value) h =
      row_only (row_at (event_rows version)) IsGlobal spell_global TAG_GLOBAL (first_then first_number first_val)
      (with_pair Global) refl global_reads bytes rest (global, value) h.fits h.spelled

  pub event_reads : (version : ℕ) → IsReadBy (Spells (FitsEvent version) event_bytes) (first_event version)
  unfolding first_event event_bytes
  event_reads version =
      let F : Event → Type 0 = FitsEvent version in
      let E : Grammar Event = Spells F event_bytes in
      record {
        found = by_mark_found E (row_at (event_rows version)) (rows_well E (event_rows version) (
          row_finds F event_bytes IsCall spell_call TAG_ENTER (first_then first_number first_args) (with_pair Enter) call_reads (λ x f. f) (λ x. refl),
          (
            row_finds F event_bytes FitsU32 u32_bytes TAG_LEAVE first_number Leave (number_reads laws) (λ x f. f) (λ x. refl),
            (
              row_finds F event_bytes IsCallee (option_bytes u32_bytes) TAG_PRE (first_option first_number) Pre callee_reads (λ x f. f) (λ x. refl),
              (
                row_finds F event_bytes IsResult (option_bytes val_bytes) TAG_POST (first_option first_val) Post result_reads (λ x f. f) (λ x. refl),
                (
                  row_finds F event_bytes FitsU32 u32_bytes TAG_GROW first_number Grow (number_reads laws) (λ x f. f) (λ x. refl),
                  (
                    done_finds E TAG_SEEN Seen (record { fits = tt; spelled = refl }),
                    (
                      row_finds F event_bytes IsPlaced spell_placed TAG_BYTES (first_then first_number first_bytes) (with_pair Bytes) placed_reads
                          (λ x f. record { address = f.0; some = f.1.0; few = f.1.1 }) (λ x. refl),
                      (
                        row_finds F event_bytes IsEntry spell_entry TAG_ENTRY
                            (first_then first_number (first_option first_number)) (with_pair Entry) entry_reads
                            (λ x f. f) (λ x. refl),
                        (
                          row_finds F event_bytes IsGlobal spell_global TAG_GLOBAL (first_then first_number first_val)
                              (with_pair Global) global_reads (λ x f. f) (λ x. refl),
                          second_all _ version (TAG_TABLE, _)
                              (λ second. row_finds F event_bytes FitsU32 u32_bytes TAG_TABLE first_number Table
                              (number_reads laws) (λ x f. (second, f)) (λ x. refl)),
                        ),
                      ),
                    ),
                  ),
                ),
              ),
            ),
          ),
        ));
        only = event_only version;
      }

  -- ---- effects

  effect_only : (version : ℕ) (bytes rest : List ℕ) (effect : Effect) → Spells (FitsEffect version) effect_bytes bytes effect
      → by_mark (row_at (effect_rows version)) (bytes ++ rest) ≡ Some (effect, rest)
  unfolding effect_bytes
  effect_only version bytes rest (changes.Grow pages) h =
      row_only (row_at (effect_rows version)) FitsU32 u32_bytes TAG_GROW first_number changes.Grow refl (number_reads laws) bytes rest pages h.fits h.spelled
  effect_only version bytes rest (changes.Table size) h =
      subst (λ v. by_mark (row_at (effect_rows v)) (bytes ++ rest) ≡ Some (changes.Table size, rest)) (sym h.fits.0)
      (row_only (row_at (effect_rows VERSION_2)) FitsU32 u32_bytes TAG_TABLE first_number changes.Table refl
      (number_reads laws) bytes rest size h.fits.1 h.spelled)
  effect_only version bytes rest (changes.Bytes addr content) h =
      row_only (row_at (effect_rows version)) IsPlaced spell_placed TAG_BYTES (first_then first_number first_bytes)
      (with_pair changes.Bytes) refl placed_reads bytes rest (addr, content)
      (h.fits.address, (h.fits.some, h.fits.few)) h.spelled
  effect_only version bytes rest (changes.Entry index func) h =
      row_only (row_at (effect_rows version)) IsEntry spell_entry TAG_ENTRY
      (first_then first_number (first_option first_number)) (with_pair changes.Entry) refl entry_reads bytes rest
      (index, func) h.fits h.spelled
  effect_only version bytes rest (changes.Global global value) h =
      row_only (row_at (effect_rows version)) IsGlobal spell_global TAG_GLOBAL (first_then first_number first_val)
      (with_pair changes.Global) refl global_reads bytes rest (global, value) h.fits h.spelled

  effect_reads : (version : ℕ) → IsReadBy (Spells (FitsEffect version) effect_bytes) (first_effect version)
  unfolding first_effect effect_bytes
  effect_reads version =
      let F : Effect → Type 0 = FitsEffect version in
      let E : Grammar Effect = Spells F effect_bytes in
      record {
        found = by_mark_found E (row_at (effect_rows version)) (rows_well E (effect_rows version) (
          row_finds F effect_bytes FitsU32 u32_bytes TAG_GROW first_number changes.Grow (number_reads laws) (λ x f. f) (λ x. refl),
          (
            row_finds F effect_bytes IsPlaced spell_placed TAG_BYTES (first_then first_number first_bytes) (with_pair changes.Bytes) placed_reads
                (λ x f. record { address = f.0; some = f.1.0; few = f.1.1 }) (λ x. refl),
            (
              row_finds F effect_bytes IsEntry spell_entry TAG_ENTRY
                  (first_then first_number (first_option first_number)) (with_pair changes.Entry) entry_reads (λ x f. f)
                  (λ x. refl),
              (
                row_finds F effect_bytes IsGlobal spell_global TAG_GLOBAL (first_then first_number first_val)
                    (with_pair changes.Global) global_reads (λ x f. f) (λ x. refl),
                second_all _ version (TAG_TABLE, _)
                    (λ second. row_finds F effect_bytes FitsU32 u32_bytes TAG_TABLE first_number changes.Table
                    (number_reads laws) (λ x f. (second, f)) (λ x. refl)),
              ),
            ),
          ),
        ));
        only = effect_only version;
      }

  -- ---- segments

  origin_only : (bytes rest : List ℕ) (origin : Origin) → Spells FitsOrigin origin_bytes bytes origin
      → by_mark (row_at origin_rows) (bytes ++ rest) ≡ Some (origin, rest)
  origin_only bytes rest Begin h = done_only (row_at origin_rows) TAG_BEGIN Begin refl bytes rest h.spelled
  origin_only bytes rest (Import import) h =
      row_only (row_at origin_rows) FitsU32 u32_bytes TAG_IMPORT first_number Import refl (number_reads laws) bytes rest import h.fits h.spelled
  origin_only bytes rest Back h = done_only (row_at origin_rows) TAG_BACK Back refl bytes rest h.spelled

  origin_reads : IsReadBy (Spells FitsOrigin origin_bytes) first_origin
  unfolding first_origin
  origin_reads = record {
    found = by_mark_found (Spells FitsOrigin origin_bytes) (row_at origin_rows) (rows_well (Spells FitsOrigin origin_bytes) origin_rows (
      done_finds (Spells FitsOrigin origin_bytes) TAG_BEGIN Begin (record { fits = tt; spelled = refl }),
      (
        row_finds FitsOrigin origin_bytes FitsU32 u32_bytes TAG_IMPORT first_number Import (number_reads laws)
            (λ x f. f) (λ x. refl),
        (done_finds (Spells FitsOrigin origin_bytes) TAG_BACK Back (record { fits = tt; spelled = refl }), tt),
      ),
    ));
    only = origin_only;
  }

  next_only : (bytes rest : List ℕ) (next : Next) → Spells FitsNext next_bytes bytes next
      → by_mark (row_at next_rows) (bytes ++ rest) ≡ Some (next, rest)
  next_only bytes rest (Call func args) h =
      row_only (row_at next_rows) IsCall spell_call TAG_CALL (first_then first_number first_args)
      (with_pair Call) refl call_reads bytes rest (func, args) h.fits h.spelled
  next_only bytes rest (Return result) h =
      row_only (row_at next_rows) IsResult (option_bytes val_bytes) TAG_RETURN
      (first_option first_val) Return refl result_reads bytes rest result h.fits h.spelled
  next_only bytes rest End h = done_only (row_at next_rows) TAG_END End refl bytes rest h.spelled
  next_only bytes rest Trap h = done_only (row_at next_rows) TAG_TRAP Trap refl bytes rest h.spelled

  next_reads : IsReadBy (Spells FitsNext next_bytes) first_next
  unfolding first_next
  next_reads = record {
    found = by_mark_found (Spells FitsNext next_bytes) (row_at next_rows) (rows_well (Spells FitsNext next_bytes) next_rows (
      row_finds FitsNext next_bytes IsCall spell_call TAG_CALL (first_then first_number first_args) (with_pair Call) call_reads (λ x f. f) (λ x. refl),
      (
        row_finds FitsNext next_bytes IsResult (option_bytes val_bytes) TAG_RETURN
            (first_option first_val) Return result_reads (λ x f. f) (λ x. refl),
        (
          done_finds (Spells FitsNext next_bytes) TAG_END End (record { fits = tt; spelled = refl }),
          (done_finds (Spells FitsNext next_bytes) TAG_TRAP Trap (record { fits = tt; spelled = refl }), tt),
        ),
      ),
    ));
    only = next_only;
  }

  abbrev AreFewEffects : ℕ → List Effect → Type 0
  AreFewEffects version effects = (length effects < 2 ^ 32) × AllByRecursion (FitsEffect version) effects

  pub segment_reads : (version : ℕ) → IsReadBy (Spells (FitsSegment version) segment_bytes) (first_segment version)
  unfolding first_segment segment_bytes
  segment_reads version =
      let effects = counted_reads laws (FitsEffect version) effect_bytes (first_effect version) (effect_reads version) in
      let later = then_reads (AreFewEffects version) (vector_bytes effect_bytes) FitsNext next_bytes
      (first_counted (first_effect version)) first_next effects next_reads in
      let Later = λ (p : List Effect × Next). AreFewEffects version p.0 × FitsNext p.1 in
      let spell_later = λ (p : List Effect × Next). vector_bytes effect_bytes p.0 ++ next_bytes p.1 in
      let all = then_reads FitsOrigin origin_bytes Later spell_later first_origin
      (first_then (first_counted (first_effect version)) first_next) origin_reads later in
      let E = Spells (λ (p : Origin × (List Effect × Next)). FitsOrigin p.0 × Later p.1)
      (λ (p : Origin × (List Effect × Next)). origin_bytes p.0 ++ spell_later p.1) in
      let is = as_read_is E (first_then first_origin (first_then (first_counted (first_effect version)) first_next)) segment_of
      (λ (s : Segment). (s.origin, (s.effects, s.next))) (λ parts. refl) (λ s. refl) all in
      same_grammar (λ bytes (s : Segment). E bytes (s.origin, (s.effects, s.next))) (Spells (FitsSegment version) segment_bytes) (first_segment version)
      (λ bytes s h. record {
        fits = record { origin = h.fits.0; few = h.fits.1.0.0; effects = h.fits.1.0.1; next = h.fits.1.1 };
        spelled = h.spelled;
      })
      (λ bytes s h. record { fits = (h.fits.origin, ((h.fits.few, h.fits.effects), h.fits.next)); spelled = h.spelled })
      (record { found = is.found; only = is.only })

-- ---- ends

abbrev pub outcome_bytes : Outcome → List ℕ
outcome_bytes outcome = outcome_byte outcome ∷ []

outcome_only : (bytes rest : List ℕ) (outcome : Outcome) → Spells IsAny outcome_bytes bytes outcome
    → by_mark (row_at outcome_rows) (bytes ++ rest) ≡ Some (outcome, rest)
outcome_only bytes rest Ended h = done_only (row_at outcome_rows) TAG_ENDED Ended refl bytes rest h.spelled
outcome_only bytes rest Trapped h = done_only (row_at outcome_rows) TAG_TRAPPED Trapped refl bytes rest h.spelled
outcome_only bytes rest HostTrapped h = done_only (row_at outcome_rows) TAG_HOST_TRAPPED HostTrapped refl bytes rest h.spelled

pub outcome_reads : IsReadBy (Spells IsAny outcome_bytes) first_outcome
unfolding first_outcome
outcome_reads = record {
  found = by_mark_found (Spells IsAny outcome_bytes) (row_at outcome_rows) (rows_well (Spells IsAny outcome_bytes) outcome_rows (
    done_finds (Spells IsAny outcome_bytes) TAG_ENDED Ended (record { fits = tt; spelled = refl }),
    (
      done_finds (Spells IsAny outcome_bytes) TAG_TRAPPED Trapped (record { fits = tt; spelled = refl }),
      (done_finds (Spells IsAny outcome_bytes) TAG_HOST_TRAPPED HostTrapped (record { fits = tt; spelled = refl }), tt),
    ),
  ));
  only = outcome_only;
}
