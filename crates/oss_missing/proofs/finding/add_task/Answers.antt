use Rattle.std.proofs.Common.{subst, List}
use Rattle.oss_missing_lines.specs.declared.missing.Late.{Late}
use Rattle.oss_missing.specs.Making.{IsMade}
use Rattle.oss_missing.proofs.finding.add_task.Goals as goal

pub returns : goal.returns
returns c = record {
  lines = c.next_lines-late.ensures.rest;
  found = record {
    one = c.in_ok-missing.missing;
    made = subst (λ (ls : List Late). IsMade c.args.layout.now c.args.task.now ls c.in_ok-missing.missing) c.next_lines-late.ensures.first c.in_ok-missing.ensures;
    new_is = c.in_ok-push.ensures.items;
  };
}
