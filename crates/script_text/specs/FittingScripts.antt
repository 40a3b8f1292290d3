-- A script that is read for a valid module fits the module.
use Rattle.std.specs.Prelude.{◌≡◌, ℕ, List, Ok}
use Rattle.wasm_syntax.specs.declared.modules.Module.{Module}
use Rattle.wasm_syntax.specs.Validity.{IsValid}
use Rattle.host_script.specs.declared.scripts.Script.{Script}
use Rattle.host_script.specs.Fits.{Fits}
use Rattle.serde_json.specs.Data.{Data}
use Rattle.script_text.specs.Texts.{script_of, script_of_text}

-- the script that is read from a JSON value fits the module
abbrev pub ValuesFit : Type 0
ValuesFit = (m : Module) (value : Data) (script : Script) → IsValid m → script_of m value ≡ Ok script → Fits m script

-- the script that is read from a text fits the module
abbrev pub TextsFit : Type 0
TextsFit =
    (m : Module) (bytes : List ℕ) (script : Script) → IsValid m → script_of_text m bytes ≡ Ok script → Fits m script
