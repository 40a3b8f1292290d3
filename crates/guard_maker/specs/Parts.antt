-- The functions of a guarded module, from those in the places of imports, the originals and the appended ones.
use Rattle.std.specs.Prelude.{ℕ, List, ◌++◌, map, get_or, Bool, false}
use Rattle.std.specs.List.{enumerate_from}
use Rattle.wasm_syntax.specs.declared.signatures.FuncType.{FuncType}
use Rattle.wasm_syntax.specs.declared.modules.Func.{Func}
use Rattle.guarded_module_spec.specs.declared.numbers.Numbers.{Numbers}
use Rattle.guarded_module_spec.specs.Fronts.{func_front}
use Rattle.guarded_module_spec.specs.GuardedModules.{func_fronts, import_fronts, own_funcs, redirected, type_in}

-- the fronts of originals, the first of which has this number; those that are marked are called from outside
abbrev pub marked_fronts : List FuncType → Numbers → (marks : List Bool) → (first : ℕ) → List Func → List Func
marked_fronts types n marks first funcs =
    map (λ (e : ℕ × Func). func_front (get_or marks e.0 false) n (type_in types e.1.ty) e.0 e.1.ty)
    (enumerate_from first funcs)

-- the functions of a guarded module
abbrev pub guarded_funcs_of : List FuncType → Numbers → (entry : ℕ) → List ℕ
    → (in_places originals appended : List Func) → List Func
guarded_funcs_of types n entry words in_places originals appended =
    import_fronts types n in_places
    ++ (originals
    ++ (map (redirected n) appended
    ++ (map (redirected n) in_places
    ++ (func_fronts types n (in_places ++ appended) n.imports originals ++ own_funcs n entry words))))
