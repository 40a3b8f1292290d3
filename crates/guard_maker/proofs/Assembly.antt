-- A guarded module is that of its parts, and it is valid.
use Rattle.std.proofs.Common.{◌≡◌, ℕ, List, length, sym, subst}
use Rattle.wasm_syntax.specs.declared.modules.Export.{Export}
use Rattle.wasm_syntax.specs.declared.modules.Module.{Module}
use Rattle.wasm_syntax.specs.Validity.{IsValid}
use Rattle.history_spec.specs.Projection.{Layout}
use Rattle.guarded_module_spec.specs.declared.numbers.Numbers.{Numbers}
use Rattle.guarded_module_spec.specs.Numbers.{numbers_of}
use Rattle.guarded_module_spec.specs.GuardedModules.{guarded_module, own_exports}
use Rattle.guarded_module_spec.specs.Forms.{IsGuardable}
use Rattle.guarded_module_laws.specs.Laws.{AreFewWords, GuardedModulesAreValid}
use Rattle.guard_maker.specs.declared.modules.Code.{Code}
use Rattle.guard_maker.specs.declared.modules.Kept.{Kept}
use Rattle.guard_maker.specs.Modules.{code_of, module_of_parts}

pub assembled : (m : Module) (layout : Layout) (entry : ℕ) (words : List ℕ) (n : Numbers) (code made : Code) (kept : Kept)
    (exports : List Export)
    → n ≡ numbers_of m layout → exports ≡ own_exports n → made ≡ code_of code n layout entry words
    → code.types ≡ m.types → code.funcs ≡ m.funcs → code.globals ≡ m.globals → code.customs ≡ m.customs
    → kept.imports ≡ m.imports → kept.tables ≡ m.tables → kept.memories ≡ m.memories → kept.start ≡ m.start
    → kept.elems ≡ m.elems → kept.datas ≡ m.datas
    → module_of_parts made kept exports ≡ guarded_module m layout entry words
assembled m layout entry words n code made kept exports numbers shown is types funcs globals customs imports tables
    memories start elems datas =
    cc

pub guard_is_valid : (law : GuardedModulesAreValid) (m other : Module) (layout : Layout) (entry : ℕ) (words : List ℕ)
    → other ≡ m → IsValid other → IsGuardable m layout entry → AreFewWords words
    → IsValid (guarded_module other layout entry words)
guard_is_valid law m other layout entry words same valid guardable few =
    subst (λ (m : Module). IsValid (guarded_module m layout entry words)) (sym same)
    (law m layout entry words (subst IsValid same valid) guardable few)
