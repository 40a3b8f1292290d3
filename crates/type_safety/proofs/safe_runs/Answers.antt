use Rattle.type_safety.proofs.Runs.{scripted_safe, alone_safe}
use Rattle.type_safety.proofs.safe_runs.Goals as goal

pub returns-clause-scripted : goal.returns-clause-scripted
returns-clause-scripted c = λ m heights script initial runnable typed fits starts.
    scripted_safe c.values_fit.ensures m heights typed runnable.valid runnable.supported runnable.bytes script fits initial starts

pub returns-clause-alone : goal.returns-clause-alone
returns-clause-alone c = λ m heights entry ty initial runnable typed none has_type params starts.
    alone_safe c.values_fit.ensures m heights typed runnable.valid runnable.supported runnable.bytes none entry ty has_type params
    initial starts
