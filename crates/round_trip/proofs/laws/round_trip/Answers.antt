use Rattle.std.proofs.Common.{sym, subst}
use Rattle.wasm_syntax.specs.Encoding.Modules.{Encodes}
use Rattle.wasm_syntax.specs.Encoding.Shortest.{encoding_of}
use Rattle.round_trip.proofs.laws.round_trip.Goals as goal

pub returns-clause-encoded : goal.returns-clause-encoded
returns-clause-encoded c = λ form bytes m encodes.
    let again = c.shortest_encoding.ensures.again form bytes m encodes in (
      (again, λ n other. c.module_encoding.ensures.one form (encoding_of m) n m other again),
      c.module_encoding.ensures.read form (encoding_of m) m again,
    )

pub returns-clause-encodable : goal.returns-clause-encodable
returns-clause-encodable c = λ form m fits short.
    let encodes = c.shortest_encoding.ensures.encodes form m fits short in (
      (encodes, λ n other. c.module_encoding.ensures.one form (encoding_of m) n m other encodes),
      c.module_encoding.ensures.read form (encoding_of m) m encodes,
    )

pub returns-clause-distinct : goal.returns-clause-distinct
returns-clause-distinct c = λ form m n trip other same.
    c.module_encoding.ensures.one form (encoding_of m) m n trip.0.0
    (subst (λ bytes. Encodes form bytes n) (sym same) other.0.0)
