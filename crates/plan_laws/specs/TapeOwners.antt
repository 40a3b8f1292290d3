-- Which activation of the host each segment of a tape belongs to, read from the beginning of the tape on.
use Rattle.std.specs.Prelude.{ℕ, List, [], ◌∷◌, length, drop, filter}
use Rattle.trace_model.specs.declared.tapes.Origin.{Origin}
use Rattle.trace_model.specs.declared.tapes.Origin.TheVariants.{Import}
use Rattle.trace_model.specs.declared.tapes.Next.{Next}
use Rattle.trace_model.specs.declared.tapes.Next.TheVariants.{Return}
use Rattle.trace_model.specs.declared.tapes.Segment.{Segment}
use Rattle.replay_module_spec.specs.declared.plans.Plan.{Plan}
use Rattle.replay_module_laws.specs.PlanLaws.{is_call_of}
use Rattle.plan_laws.specs.Owners.{Owner, Beginning, CallOf, innermost_owner, share_of, by_calls}

-- how many calls of an import begin in segments
abbrev pub call_count : List Segment → (import : ℕ) → ℕ
call_count segments import = length (filter (λ (segment : Segment). is_call_of import segment.origin) segments)

-- the calls of imports that are open after control reached the host, the innermost first; a call of an import opens
-- one, whose number is how many calls of the import begin in the segments before
abbrev pub calls_inside : Origin → (before : List Segment) → List Owner → List Owner
calls_inside (Import import) before opened = CallOf import (call_count before import) ∷ opened
calls_inside origin before opened = opened

-- the calls that are open after control left the host: a return closes the innermost
abbrev pub calls_after : Next → List Owner → List Owner
calls_after (Return result) opened = drop 1 opened
calls_after next opened = opened

-- the owner of each segment, in order, if the segments before are `before`, the last of them first, and leave these
-- calls open
abbrev pub owners_from : (before : List Segment) → List Owner → List Segment → List Owner
owners_from before opened [] = []
owners_from before opened (segment ∷ later) =
    innermost_owner (calls_inside segment.origin before opened)
    ∷ owners_from (segment ∷ before) (calls_after segment.next (calls_inside segment.origin before opened)) later

-- the owner of each segment of a tape, in order
abbrev pub owners_of : List Segment → List Owner
owners_of segments = owners_from [] [] segments

-- the segments of a tape that an activation owns, in order
abbrev pub owned_segments : List Segment → Owner → List Segment
owned_segments segments owner = share_of owner (owners_of segments) segments

-- the plan in which the host's own work, and each call of each import, has the segments that it owns; an import has as
-- many calls as begin in the tape
abbrev pub owned_plan : (imports : ℕ) → List Segment → Plan
owned_plan imports segments =
    record {
      begin = owned_segments segments Beginning;
      imports = by_calls imports (call_count segments) (owned_segments segments);
    }
