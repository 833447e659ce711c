use Rattle.oss_span_laws.proofs.SpanMoves.{spans_agree}
use Rattle.oss_span_laws.specs.contracts.laws.spans_agree.{S-type}
use Rattle.oss_span_laws.proofs.laws.spans_agree.Goals as goal

pub returns : goal.returns
returns g c = spans_agree (S-type g.row.S)
