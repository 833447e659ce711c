use Rattle.oss_span_laws.proofs.SpanMoves.{spans_alike}
use Rattle.oss_span_laws.proofs.laws.spans_alike.Goals as goal

pub returns : goal.returns
returns c = spans_alike
