use Rattle.std.proofs.Common.{refl}
use Rattle.worked_flat_code.proofs.flat_code_has_the_histories.Goals as goal

pub returns-clause-two_answers : goal.returns-clause-two_answers
returns-clause-two_answers c = refl

pub returns-clause-overwrite : goal.returns-clause-overwrite
returns-clause-overwrite c = refl

pub returns-clause-grow_access : goal.returns-clause-grow_access
returns-clause-grow_access c = refl

pub returns-clause-sum_down : goal.returns-clause-sum_down
returns-clause-sum_down c = refl

pub returns-clause-either_first : goal.returns-clause-either_first
returns-clause-either_first c = refl

pub returns-clause-either_second : goal.returns-clause-either_second
returns-clause-either_second c = refl

pub returns-clause-switch_first : goal.returns-clause-switch_first
returns-clause-switch_first c = refl

pub returns-clause-switch_second : goal.returns-clause-switch_second
returns-clause-switch_second c = refl

pub returns-clause-switch_default : goal.returns-clause-switch_default
returns-clause-switch_default c = refl

pub returns-clause-leaves : goal.returns-clause-leaves
returns-clause-leaves c = refl

pub returns-clause-copies : goal.returns-clause-copies
returns-clause-copies c = refl

pub returns-clause-copies_past_the_end : goal.returns-clause-copies_past_the_end
returns-clause-copies_past_the_end c = refl

pub returns-clause-grows : goal.returns-clause-grows
returns-clause-grows c = refl

pub returns-clause-grows_refused : goal.returns-clause-grows_refused
returns-clause-grows_refused c = refl
