-- The script by which the host acts.
use Rattle.std.specs.Prelude.{ℕ, Option, Some, None}
use Rattle.host_script.specs.declared.scripts.Script.{Script}
use Rattle.record_replay_spec.specs.HookedRuns.{hooked_script}

-- the script by which the host acts, in which hooks after a number of imports, if there are any, do nothing
abbrev pub script_of : (hooks_after : Option ℕ) → Script → Script
script_of None script = script
script_of (Some imports) script = hooked_script imports script
