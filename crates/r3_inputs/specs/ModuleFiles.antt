-- The kinds of module files: the form of their encoding, whether the module is instrumented, and how long they
-- may be.
use Rattle.std.specs.Prelude.{ℕ, Bool, true, false}
use Rattle.wasm_syntax.specs.declared.forms.Form.{Form}
use Rattle.wasm_syntax.specs.declared.forms.Form.TheVariants as form
use Rattle.wasm_syntax.specs.declared.limits.TheConstants.{MAX_FILE_BYTES, MAX_INSTRUMENTED_BYTES, MAX_REPLAY_BYTES}
use Rattle.r3_inputs.specs.declared.module_files.ModuleFile.{ModuleFile}
use Rattle.r3_inputs.specs.declared.module_files.ModuleFile.TheVariants.{Original, Instrumented, Replay}

-- the form of the binary format
abbrev pub form_of : ModuleFile → Form
form_of Original = form.Core
form_of Instrumented = form.Core
form_of Replay = form.Replay

-- whether the profile treats the module as an instrumented one
abbrev pub is_instrumented : ModuleFile → Bool
is_instrumented Original = false
is_instrumented Instrumented = true
is_instrumented Replay = false

-- the most bytes of the file
abbrev pub max_bytes : ModuleFile → ℕ
max_bytes Original = MAX_FILE_BYTES
max_bytes Instrumented = MAX_INSTRUMENTED_BYTES
max_bytes Replay = MAX_REPLAY_BYTES
