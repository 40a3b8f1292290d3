-- The activations, labels and stores of the instrumented module's run, beside those of the original's.
use Rattle.std.specs.Prelude.{◌≡◌, ℕ, ◌+◌, ◌<◌, List, [], ◌∷◌, ◌++◌, length, map, Option, Some, None, slice_get, option_map, unwrap_or}
use Rattle.wasm_syntax.specs.declared.values.ValType.{ValType}
use Rattle.wasm_syntax.specs.declared.signatures.FuncType.{FuncType}
use Rattle.wasm_syntax.specs.declared.instructions.Instr.{Instr}
use Rattle.wasm_syntax.specs.Nest.{Nest, Empty}
use Rattle.wasm_syntax.specs.declared.modules.Module.{Module}
use Rattle.wasm_syntax.specs.Index.{imported_funcs}
use Rattle.history_spec.specs.Code.{code_of, signature, definition}
use Rattle.history_spec.specs.Configuration.{Place, place, Point, Label, Frame, Activation, InModule, InMain, InImport, Config, at_point}
use Rattle.history_spec.specs.Step.{Progress, Running, Finished, Faulted, Stuck}
use Rattle.history_spec.specs.Instruction.{block_arity}
use Rattle.history_spec.specs.Run.{Meter}
use Rattle.record_replay_spec.specs.declared.hooks.Hook.TheVariants.{Post, Ipost}
use Rattle.record_replay_spec.specs.Hooks.{renumber, renumbered_view}
use Rattle.record_replay_spec.specs.HookedRuns.{renumbered_action}
use Rattle.record_replay_spec.specs.Insertions.{Site, imports_at, calls, reports_number, after_call, inserted_at_end}
use Rattle.record_replay_spec.specs.Instrumented.{before_nest, instrumented_nest, weightless, weights_of_nest}
use Rattle.record_replay_spec.specs.ReportedCalls.{WaitingCall}
use Rattle.tape_laws.specs.RealReads.{IsModule}
use Rattle.instrumented_run_laws.proofs.Scratch.{Scratch, scratch_values}
use Rattle.instrumented_run_laws.proofs.Weights.{AreWeights}

-- ---- places and labels, and the added parts of an instrumented activation

-- a place in an instrumented body: the same instructions with the code inserted around them, from a number on
abbrev pub hooked_place : Site → Place → (number : ℕ) → Place
hooked_place s p number = place (instrumented_nest s p.rest) number

-- a label whose two places have these numbers
abbrev pub hooked_label : Site → Label → ℕ × ℕ → Label
hooked_label s label numbers =
    record label {
      target = hooked_place s label.target numbers.0;
      after_block = hooked_place s label.after_block numbers.1;
    }

-- the label of the inserted block around a body, which is the body's own: after the block a hook reports the end of
-- the function
abbrev pub body_label : Site → FuncType → (number : ℕ) → Label
body_label s ty number =
    let end : Place = place (before_nest (inserted_at_end s) Empty) number
    in record { arity = block_arity (slice_get ty.results 0); below = []; target = end; after_block = end }

-- labels with their numbers, and the body's own below them
abbrev pub hooked_labels : Site → FuncType → List Label → List (ℕ × ℕ) → (last : ℕ) → List Label
hooked_labels s ty [] numbers last = body_label s ty last ∷ []
hooked_labels s ty (label ∷ labels) [] last = body_label s ty last ∷ []
hooked_labels s ty (label ∷ labels) (first ∷ numbers) last =
    hooked_label s label first ∷ hooked_labels s ty labels numbers last

-- ---- activations

-- what an instrumented activation has besides: the added locals; the numbers of its place, of its labels' places, and
-- of the end of its body
pub record Beside : Type 0 where
  pub scratch : Scratch
  pub number : ℕ
  pub numbers : List (ℕ × ℕ)
  pub last : ℕ

-- the instrumented activation of a function of this type, before a piece of inserted code that precedes the rest of
-- the original's instructions
abbrev pub hooked_frame : Site → FuncType → Frame → List Instr → Beside → Frame
hooked_frame s ty frame piece b =
    record {
      func = renumber (imports_at s) frame.func;
      arity = frame.arity;
      locals = frame.locals ++ scratch_values b.scratch;
      values = frame.values;
      labels = hooked_labels s ty frame.labels b.numbers b.last;
      at = place (before_nest piece (instrumented_nest s frame.at.rest)) b.number;
    }

-- the weights of a sequence from its number on: inserted instructions take no turn, all others one
abbrev pub IsWeighed : Meter → Site → Nest → (number : ℕ) → Type 0
IsWeighed meter s rest number = AreWeights meter (renumber (imports_at s) s.func) number (weights_of_nest s rest)

-- the instructions at the places of labels have their weights
abbrev pub AreWeighed : Meter → Site → List Label → List (ℕ × ℕ) → Type 0
AreWeighed meter s [] [] = Unit {0}
AreWeighed meter s [] (first ∷ numbers) = ⊥
AreWeighed meter s (label ∷ labels) [] = ⊥
AreWeighed meter s (label ∷ labels) (first ∷ numbers) =
    IsWeighed meter s label.target.rest first.0 × IsWeighed meter s label.after_block.rest first.1
    × AreWeighed meter s labels numbers

-- calls of the original's imports are counted alike
abbrev pub AreCounted : (n : ℕ) → (counts others : List ℕ) → Type 0
AreCounted n counts others = (import : ℕ) → import < n → slice_get others import ≡ slice_get counts import

-- the piece after a call, which reports the end of the call
abbrev pub over_piece : Site → (callee : Option ℕ) → List Instr
over_piece s (Some func) = reports_number s Post func
over_piece s None = calls s Ipost ∷ []

-- ---- functions of a module, by their indices

-- the type of a function, or an empty type if the function does not exist
abbrev pub type_of : Module → ℕ → FuncType
type_of m func = unwrap_or (signature (code_of m) func) (record { params = []; results = [] })

-- the site of a function's body
abbrev pub site_at : Module → ℕ → Site
site_at m func =
    record {
      m = m;
      func = func;
      locals = length (type_of m func).params
          + length (unwrap_or (option_map (λ d. d.locals) (definition (code_of m) func)) []);
    }

-- ---- stacks

module _ (m : Module) (meter : Meter) where
  abbrev n : ℕ
  n = imported_funcs m

  -- the instrumented activation beside one of the original, before a piece of inserted code
  abbrev pub frame_beside : Frame → List Instr → Beside → Frame
  frame_beside frame piece b = hooked_frame (site_at m frame.func) (type_of m frame.func) frame piece b

  -- an activation has as many results and locals as its site declares, and its next instructions have their weights
  pub record IsBeside (frame : Frame) (piece : List Instr) (b : Beside) : Type 0 where
    pub arity : frame.arity ≡ block_arity (slice_get (type_of m frame.func).results 0)
    pub locals : (site_at m frame.func).locals ≡ length frame.locals
    pub weights : AreWeights meter (renumber n frame.func) b.number
        (weightless piece ++ weights_of_nest (site_at m frame.func) frame.at.rest)
    pub labels : AreWeighed meter (site_at m frame.func) frame.labels b.numbers
    pub last : AreWeights meter (renumber n frame.func) b.last (weightless (inserted_at_end (site_at m frame.func)))

  -- an activation beside the original's, at another place, with other values and labels, before a piece
  pub beside_at : (frame : Frame) (piece other : List Instr) (b : Beside) (p : Point) (number : ℕ)
      (numbers : List (ℕ × ℕ)) → IsBeside frame piece b
      → AreWeights meter (renumber n frame.func) number
      (weightless other ++ weights_of_nest (site_at m frame.func) p.at.rest)
      → AreWeighed meter (site_at m frame.func) p.labels numbers
      → IsBeside (at_point frame p) other (record b { number = number; numbers = numbers })
  beside_at frame piece other b p number numbers is weights labels =
      record { arity = is.arity; locals = is.locals; weights = weights; labels = labels; last = is.last }

  -- the piece that an activation waits before, for the end of a call with these results
  abbrev pub awaited_piece : Frame → WaitingCall → (awaited : List ValType) → List Instr
  awaited_piece frame call awaited =
      let s : Site = site_at m frame.func in after_call s (over_piece s call.callee) awaited

  -- Activations below a call, which wait for it with results of these types, as the instrumented run has them: each of
  -- the module waits before the piece after its call, the latest first; the host's are alike but for renumbered
  -- functions.
  abbrev pub waiting_stack : (awaited : List ValType) → List Activation → List WaitingCall → List Beside
      → List Activation
  waiting_stack awaited (InModule frame ∷ below) (call ∷ waiting) (b ∷ bs) =
      InModule (frame_beside frame (awaited_piece frame call awaited) b)
      ∷ waiting_stack (type_of m frame.func).results below waiting bs
  waiting_stack awaited (InMain actions ∷ below) waiting bs =
      InMain (map (renumbered_action n) actions) ∷ waiting_stack [] below waiting bs
  waiting_stack awaited (InImport import args actions end ∷ below) waiting bs =
      InImport import args (map (renumbered_action n) actions) end
      ∷ waiting_stack (type_of m import).results below waiting bs
  waiting_stack awaited stack waiting bs = []

  -- activations below a call are beside the original's; a call of an import is directly above an activation of the
  -- module
  abbrev pub AreWaiting : (awaited : List ValType) → List Activation → List WaitingCall → List Beside → Type 0
  AreWaiting awaited [] waiting bs = Unit {0}
  AreWaiting awaited (InModule frame ∷ below) (call ∷ waiting) (b ∷ bs) =
      IsBeside frame (awaited_piece frame call awaited) b × AreWaiting (type_of m frame.func).results below waiting bs
  AreWaiting awaited (InModule frame ∷ below) waiting bs = ⊥
  AreWaiting awaited (InMain actions ∷ below) waiting bs = AreWaiting [] below waiting bs
  AreWaiting awaited (InImport import args actions end ∷ below) waiting bs =
      IsModule below × AreWaiting (type_of m import).results below waiting bs

  -- the topmost activation goes on, and those below wait
  abbrev pub going_stack : List Activation → List WaitingCall → List Beside → List Activation
  going_stack (InModule frame ∷ below) waiting (b ∷ bs) =
      InModule (frame_beside frame [] b) ∷ waiting_stack (type_of m frame.func).results below waiting bs
  going_stack stack waiting bs = waiting_stack [] stack waiting bs

  abbrev pub AreGoing : List Activation → List WaitingCall → List Beside → Type 0
  AreGoing (InModule frame ∷ below) waiting (b ∷ bs) =
      IsBeside frame [] b × AreWaiting (type_of m frame.func).results below waiting bs
  AreGoing (InModule frame ∷ below) waiting [] = ⊥
  AreGoing stack waiting bs = AreWaiting [] stack waiting bs

  -- ---- configurations

  -- the instrumented run is at a configuration beside the original's, with these waiting calls
  pub record StandsBeside (config : Config) (waiting : List WaitingCall) (at : Progress) : Type 0 where
    pub bs : List Beside
    pub counts : List ℕ
    pub is : at
        ≡ Running (record {
          store = renumbered_view n config.store;
          stack = going_stack config.stack waiting bs;
          counts = counts;
        })
    pub going : AreGoing config.stack waiting bs
    pub counted : AreCounted n config.counts counts

  -- the instrumented run is beside the original's, or it is over with the same result
  abbrev pub ComesBeside : Progress → List WaitingCall → Progress → Type 0
  ComesBeside (Running config) waiting at = StandsBeside config waiting at
  ComesBeside (Finished outcome) waiting at = at ≡ Finished outcome
  ComesBeside (Faulted kind) waiting at = at ≡ Faulted kind
  ComesBeside Stuck waiting at = ⊥
