-- Steps after steps of a run.
use Rattle.std.proofs.Common.{◌≡◌, ℕ, suc, zero, ◌+◌, List, [], ◌++◌, refl, sym, ap, ◌∙◌, arith, append_assoc, zero-add, suc-add}
use Rattle.base.specs.declared.outcomes.Outcome.{Outcome}
use Rattle.history_spec.specs.declared.entries.Entry.{Entry}
use Rattle.history_spec.specs.declared.entries.FaultKind.{FaultKind}
use Rattle.history_spec.specs.Step.{Program, Progress, Running, Finished, Faulted, Stuck, StepResult, step}
use Rattle.history_spec.specs.Run.{Meter, Run, run_after, run_at, run_from, steps, weight}

-- a run with its parts
abbrev pub run_of : List Entry → ℕ → Progress → Run
run_of history turns at = record { history = history; turns = turns; at = at }

finished : (program : Program) (meter : Meter) (n : ℕ) (outcome : Outcome) → steps program meter n (Finished outcome) ≡ run_at (Finished outcome)
finished program meter zero outcome = refl
finished program meter (suc n) outcome = refl

faulted : (program : Program) (meter : Meter) (n : ℕ) (kind : FaultKind) → steps program meter n (Faulted kind) ≡ run_at (Faulted kind)
faulted program meter zero kind = refl
faulted program meter (suc n) kind = refl

stuck : (program : Program) (meter : Meter) (n : ℕ) → steps program meter n Stuck ≡ run_at Stuck
stuck program meter zero = refl
stuck program meter (suc n) = refl

-- a number of steps, and then another number of steps
joined : (program : Program) (meter : Meter) (k n : ℕ) (at : Progress)
    → steps program meter (k + n) at ≡ run_after (steps program meter k at).history (steps program meter k at).turns
    (steps program meter n (steps program meter k at).at)
joined program meter zero n at =
    ap (λ j. steps program meter j at) (zero-add n)
    ∙ ap (λ t. run_of (steps program meter n at).history t (steps program meter n at).at) (sym (zero-add (steps program meter n at).turns))
joined program meter (suc k) n (Running config) =
    let first : StepResult = step program config in
    let w : ℕ = weight meter config in
    let inner : Run = steps program meter k first.next in
    let last : Run = steps program meter n inner.at in
    ap (λ j. steps program meter j (Running config)) (suc-add k n)
    ∙ ap (run_after first.entries w) (joined program meter k n first.next)
    ∙ ap (λ es. run_of es (w + (inner.turns + last.turns)) last.at) (sym (append_assoc first.entries inner.history last.history))
    ∙ ap (λ t. run_of ((first.entries ++ inner.history) ++ last.history) t last.at) (omega arith)
joined program meter (suc k) n (Finished outcome) =
    ap (λ j. steps program meter j (Finished outcome)) (suc-add k n) ∙ sym (ap (run_after [] 0) (finished program meter n outcome))
joined program meter (suc k) n (Faulted kind) =
    ap (λ j. steps program meter j (Faulted kind)) (suc-add k n) ∙ sym (ap (run_after [] 0) (faulted program meter n kind))
joined program meter (suc k) n Stuck =
    ap (λ j. steps program meter j Stuck) (suc-add k n) ∙ sym (ap (run_after [] 0) (stuck program meter n))

-- a run goes on from the point to which it has come
pub run_continued : (program : Program) (meter : Meter) (initial : StepResult) (k n : ℕ) (history entries : List Entry) (used taken : ℕ) (next last : Progress)
    → run_from program meter initial k ≡ run_of history used next → steps program meter n next ≡ run_of entries taken last
    → run_from program meter initial (k + n) ≡ run_of (history ++ entries) (used + taken) last
run_continued program meter initial k n history entries used taken next last first second =
    let inner : Run = steps program meter k initial.next in
    let here : initial.entries ++ inner.history ≡ history = ap (λ (r : Run). r.history) first in
    let spent : 0 + inner.turns ≡ used = ap (λ (r : Run). r.turns) first in
    let at : inner.at ≡ next = ap (λ (r : Run). r.at) first in
    ap (run_after initial.entries 0)
    (joined program meter k n initial.next ∙ ap (λ p. run_after inner.history inner.turns (steps program meter n p)) at
    ∙ ap (run_after inner.history inner.turns) second)
    ∙ ap (λ es. run_of es (0 + (inner.turns + taken)) last) (sym (append_assoc initial.entries inner.history entries) ∙ ap (λ es. es ++ entries) here)
    ∙ ap (λ t. run_of (history ++ entries) t last) (let sum : 0 + (inner.turns + taken) ≡ used + taken = omega (arith, spent) in sum)

-- a run goes on from a point as from a start
pub run_joined : (program : Program) (meter : Meter) (initial pending last : StepResult) (k n : ℕ) (history before : List Entry) (used taken : ℕ)
    → run_from program meter initial k ≡ run_of (history ++ pending.entries) used pending.next
    → run_from program meter pending n ≡ run_of (before ++ last.entries) taken last.next
    → run_from program meter initial (k + n) ≡ run_of ((history ++ before) ++ last.entries) (used + taken) last.next
run_joined program meter initial pending last k n history before used taken first second =
    let rest : Run = steps program meter n pending.next in
    let there : pending.entries ++ rest.history ≡ before ++ last.entries = ap (λ (r : Run). r.history) second in
    let more : 0 + rest.turns ≡ taken = ap (λ (r : Run). r.turns) second in
    let over : rest.at ≡ last.next = ap (λ (r : Run). r.at) second in
    run_continued program meter initial k n (history ++ pending.entries) rest.history used rest.turns pending.next rest.at first refl
    ∙ ap (λ es. run_of es (used + rest.turns) rest.at)
    (append_assoc history pending.entries rest.history ∙ ap (λ es. history ++ es) there ∙ sym (append_assoc history before last.entries))
    ∙ ap (λ t. run_of ((history ++ before) ++ last.entries) t rest.at)
    (let sum : used + rest.turns ≡ used + taken = omega (arith, more) in sum)
    ∙ ap (λ p. run_of ((history ++ before) ++ last.entries) (used + taken) p) over
