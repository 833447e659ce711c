use Rattle.oss_parse.specs.Inner.{read_body}
use Rattle.oss_parse.proofs.statements.body.Goals as goal

pub returns : goal.returns
unfolding read_body
returns c = c.parts.ensures
