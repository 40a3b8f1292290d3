-- The premises of the laws of type safety, on a module and on a script, hold for an example.
use Rattle.std.proofs.Common.{ℕ, ◌<◌, List, [], ◌∷◌, Some, refl, arith}
use Rattle.std.proofs.lemmas.List.Elements.{All-from_recursion}
use Rattle.base.specs.declared.opcodes.TheConstants.{I32_ADD}
use Rattle.wasm_syntax.specs.declared.values.ValType.TheVariants.{I32}
use Rattle.wasm_syntax.specs.declared.instructions.Instr.{Instr}
use Rattle.wasm_syntax.specs.declared.instructions.Instr.TheVariants.{If, Else, End, Call, Drop, GlobalGet, GlobalSet, Const, Numeric}
use Rattle.wasm_syntax.specs.declared.modules.Run.{Run}
use Rattle.wasm_syntax.specs.Nest.{Empty, Plain, InIfElse}
use Rattle.wasm_syntax.specs.Typing.{is_number, is_constant}
use Rattle.wasm_syntax.specs.Validity.{IsFuncType, IsImport, IsTable, IsMemory, IsGlobal, IsElem, IsData, IsDeclaredFunc, IsThere, IsTypedFunc, IsValidOutside}
use Rattle.host_script.specs.Fits.{FitsAction, FitsResponse, Fits}
use Rattle.type_safety.specs.Supplies.{IsRunnable}
use Rattle.worked_histories.specs.Build.{func, i32, value, returns}
use Rattle.worked_histories.specs.Modules.{two_answers, replay_two_answers}
use Rattle.worked_histories.specs.Scripts.{five_seven}
use Rattle.std.specs.Prelude.{IsTrue, IfSome, All}

two_answers_outside : IsValidOutside two_answers
two_answers_outside = record {
  types = All-from_recursion IsFuncType two_answers.types (
    record {
      params = All-from_recursion (λ t. IsTrue (is_number t)) [] tt;
      results = All-from_recursion (λ t. IsTrue (is_number t)) (I32 ∷ []) (refl, tt);
      one_result = omega arith;
    },
    tt,
  );
  imports = All-from_recursion (λ i. IsImport two_answers i.kind) two_answers.imports (omega arith, tt);
  funcs = All-from_recursion (IsDeclaredFunc two_answers) two_answers.funcs
      (record { type_there = omega arith; locals = All-from_recursion (λ run. IsTrue (is_number run.ty)) [] tt }, tt);
  tables = All-from_recursion IsTable [] tt;
  memories = All-from_recursion IsMemory [] tt;
  globals = All-from_recursion (IsGlobal two_answers) [] tt;
  exports = All-from_recursion (λ e. IsThere two_answers e.kind) two_answers.exports (omega arith, tt);
  names_differ = λ i j d before within. absurd (omega arith);
  start = tt;
  elems = All-from_recursion (IsElem two_answers) [] tt;
  datas = All-from_recursion (IsData two_answers) [] tt;
  one_table = omega arith;
  one_memory = omega arith;
}

two_answers_body : IsTypedFunc two_answers (func 0 [] (Call 0 ∷ Call 0 ∷ Numeric I32_ADD ∷ End ∷ []))
two_answers_body = record {
  ty = record { params = []; results = I32 ∷ [] };
  nest = Plain (Call 0) (Plain (Call 0) (Plain (Numeric I32_ADD) Empty));
  has_type = refl;
  is_body = record { nested = (refl, (refl, (refl, tt))); written = refl };
  typed = (
    I32 ∷ [],
    record { below = []; had = refl; left = refl },
    (
      I32 ∷ I32 ∷ [],
      record { below = I32 ∷ []; had = refl; left = refl },
      (I32 ∷ [], record { below = []; had = refl; left = refl }, refl),
    ),
  );
}

-- the module is valid and supported
pub two_answers_runnable : IsRunnable two_answers
two_answers_runnable = record {
  valid = record {
    outside = two_answers_outside;
    bodies =
        All-from_recursion (IsTypedFunc two_answers) two_answers.funcs (two_answers_body, tt);
  };
  supported = record { instructions = refl; quantities = refl };
  bytes = All-from_recursion (λ segment. All (λ byte. byte < 256) segment.bytes) [] tt;
}

-- the script fits the module
pub five_seven_fits : Fits two_answers five_seven
five_seven_fits = record {
  globals = refl;
  values = All-from_recursion (λ given. IfSome given (λ value. IsTrue (is_constant value))) [] tt;
  imports = (
    (
      record { params = []; results = I32 ∷ [] },
      refl,
      record {
        calls = All-from_recursion (FitsResponse two_answers (record { params = []; results = I32 ∷ [] }))
            (returns [] (Some (i32 5)) ∷ returns [] (Some (i32 7)) ∷ []) (response 5 refl, (response 7 refl, tt));
        rest = tt;
      },
    ),
    tt,
  );
  main = All-from_recursion (FitsAction two_answers []) five_seven.main (
    record {
      defined = omega arith;
      ty = record { params = []; results = I32 ∷ [] };
      has_type = refl;
      fit = record { in_range = All-from_recursion (λ value. IsTrue (is_constant value)) [] tt; typed = refl };
    },
    tt,
  );
}
  where
    response : (bits : ℕ) → IsTrue (is_constant (i32 bits))
        → FitsResponse two_answers (record { params = []; results = I32 ∷ [] }) (returns [] (Some (i32 bits)))
    response bits own = record {
      actions = All-from_recursion (FitsAction two_answers []) [] tt;
      «end» = record {
        in_range = All-from_recursion (λ value. IsTrue (is_constant value)) (i32 bits ∷ []) (own, tt);
        typed = refl;
      };
    }

-- ---- a module without imports, which is called through its export

replay_outside : IsValidOutside replay_two_answers
replay_outside = record {
  types = All-from_recursion IsFuncType replay_two_answers.types (
    record {
      params = All-from_recursion (λ t. IsTrue (is_number t)) [] tt;
      results =
          All-from_recursion (λ t. IsTrue (is_number t)) (I32 ∷ []) (refl, tt);
      one_result = omega arith;
    },
    (
      record {
        params = All-from_recursion (λ t. IsTrue (is_number t)) [] tt;
        results =
            All-from_recursion (λ t. IsTrue (is_number t)) [] tt;
        one_result = omega arith;
      },
      tt,
    ),
  );
  imports = All-from_recursion (λ i. IsImport replay_two_answers i.kind) [] tt;
  funcs = All-from_recursion (IsDeclaredFunc replay_two_answers) replay_two_answers.funcs
      (declared, (declared, (record { type_there = omega arith; locals = none }, tt)));
  tables = All-from_recursion IsTable [] tt;
  memories = All-from_recursion IsMemory [] tt;
  globals = All-from_recursion (IsGlobal replay_two_answers) replay_two_answers.globals
      (record { number = refl; init = refl }, tt);
  exports = All-from_recursion (λ e. IsThere replay_two_answers e.kind) replay_two_answers.exports (omega arith, tt);
  names_differ = λ i j d before within. absurd (omega arith);
  start = tt;
  elems = All-from_recursion (IsElem replay_two_answers) [] tt;
  datas = All-from_recursion (IsData replay_two_answers) [] tt;
  one_table = omega arith;
  one_memory = omega arith;
}
  where
    none : All (λ (run : Run). IsTrue (is_number run.ty)) []
    none = All-from_recursion (λ run. IsTrue (is_number run.ty)) [] tt

    declared : {body : List Instr} → IsDeclaredFunc replay_two_answers (func 0 [] body)
    declared = record { type_there = omega arith; locals = none }

import_body : IsTypedFunc replay_two_answers
    (func 0 [] (GlobalGet 0 ∷ GlobalGet 0 ∷ Const (value I32 1) ∷ Numeric I32_ADD ∷ GlobalSet 0 ∷ If (Some I32)
    ∷ Const (value I32 7) ∷ Else ∷ Const (value I32 5) ∷ End ∷ End ∷ []))
import_body = record {
  ty = record { params = []; results = I32 ∷ [] };
  nest = Plain (GlobalGet 0)
      (Plain (GlobalGet 0)
      (Plain (Const (value I32 1))
      (Plain (Numeric I32_ADD)
      (Plain (GlobalSet 0)
      (InIfElse (Some I32) (Plain (Const (value I32 7)) Empty) (Plain (Const (value I32 5)) Empty) Empty)))));
  has_type = refl;
  is_body = record { nested = (refl, (refl, (refl, (refl, (refl, ((refl, tt), (refl, tt), tt)))))); written = refl };
  typed = (
    I32 ∷ [],
    record { below = []; had = refl; left = refl },
    (
      I32 ∷ I32 ∷ [],
      record { below = I32 ∷ []; had = refl; left = refl },
      (
        I32 ∷ I32 ∷ I32 ∷ [],
        record { below = I32 ∷ I32 ∷ []; had = refl; left = refl },
        (
          I32 ∷ I32 ∷ [],
          record { below = I32 ∷ []; had = refl; left = refl },
          (
            I32 ∷ [],
            record { below = I32 ∷ []; had = refl; left = refl },
            (
              [],
              refl,
              refl,
              (I32 ∷ [], record { below = []; had = refl; left = refl }, refl),
              (I32 ∷ [], record { below = []; had = refl; left = refl }, refl),
              refl,
            ),
          ),
        ),
      ),
    ),
  );
}

original_body : IsTypedFunc replay_two_answers (func 0 [] (Call 0 ∷ Call 0 ∷ Numeric I32_ADD ∷ End ∷ []))
original_body = record {
  ty = record { params = []; results = I32 ∷ [] };
  nest = Plain (Call 0) (Plain (Call 0) (Plain (Numeric I32_ADD) Empty));
  has_type = refl;
  is_body = record { nested = (refl, (refl, (refl, tt))); written = refl };
  typed = (
    I32 ∷ [],
    record { below = []; had = refl; left = refl },
    (
      I32 ∷ I32 ∷ [],
      record { below = I32 ∷ []; had = refl; left = refl },
      (I32 ∷ [], record { below = []; had = refl; left = refl }, refl),
    ),
  );
}

start_body : IsTypedFunc replay_two_answers (func 1 [] (Call 1 ∷ Drop ∷ End ∷ []))
start_body = record {
  ty = record { params = []; results = [] };
  nest = Plain (Call 1) (Plain Drop Empty);
  has_type = refl;
  is_body = record { nested = (refl, (refl, tt)); written = refl };
  typed = (I32 ∷ [], record { below = []; had = refl; left = refl }, ([], record { ty = I32; had = refl }, refl));
}

-- the module is valid and supported
pub replay_two_answers_runnable : IsRunnable replay_two_answers
replay_two_answers_runnable = record {
  valid = record {
    outside = replay_outside;
    bodies =
        All-from_recursion (IsTypedFunc replay_two_answers) replay_two_answers.funcs
        (import_body, (original_body, (start_body, tt)));
  };
  supported = record { instructions = refl; quantities = refl };
  bytes = All-from_recursion (λ segment. All (λ byte. byte < 256) segment.bytes) [] tt;
}
