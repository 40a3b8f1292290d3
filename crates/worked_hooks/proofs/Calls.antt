-- The hook calls of examples, computed.
use Rattle.std.proofs.Common.{refl}
use Rattle.worked_hooks.specs.Calls.{HookCallExamples, TwoAnswersCalls, EveryKindCalls, TwoAnswersReported, EveryKindReported, TwoAnswersInOrder, EveryKindInOrder, EntersAtEnd, ReportsReference, FunctionInTable, HookInTable, NoFunctionInTable, TableSmaller}

two_answers_calls : TwoAnswersCalls
two_answers_calls = refl

every_kind_calls : EveryKindCalls
every_kind_calls = refl

two_answers_reported : TwoAnswersReported
two_answers_reported = refl

every_kind_reported : EveryKindReported
every_kind_reported = refl

two_answers_in_order : TwoAnswersInOrder
two_answers_in_order = refl

every_kind_in_order : EveryKindInOrder
every_kind_in_order = refl

enters_at_end : EntersAtEnd
enters_at_end = refl

reports_reference : ReportsReference
reports_reference = refl

function_in_table : FunctionInTable
function_in_table = refl

hook_in_table : HookInTable
hook_in_table = refl

no_function_in_table : NoFunctionInTable
no_function_in_table = refl

table_smaller : TableSmaller
table_smaller = refl

pub hook_call_examples : HookCallExamples
hook_call_examples =
    record {
      two_answers_calls = two_answers_calls;
      every_kind_calls = every_kind_calls;
      two_answers_reported = two_answers_reported;
      every_kind_reported = every_kind_reported;
      two_answers_in_order = two_answers_in_order;
      every_kind_in_order = every_kind_in_order;
      enters_at_end = enters_at_end;
      reports_reference = reports_reference;
      function_in_table = function_in_table;
      hook_in_table = hook_in_table;
      no_function_in_table = no_function_in_table;
      table_smaller = table_smaller;
    }
