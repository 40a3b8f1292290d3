use Rattle.generated_code_laws.proofs.Bytes.{numbers_hold_bytes}
use Rattle.generated_code_laws.proofs.numbers.bytes_are_numbers.Goals as goal

pub returns : goal.returns
returns c = numbers_hold_bytes
