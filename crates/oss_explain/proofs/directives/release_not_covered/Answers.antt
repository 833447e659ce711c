use Rattle.std.proofs.Common.{sym, ◌∙◌, false}
use Rattle.oss_model.specs.Rights.{mark_from}
use Rattle.oss_explain.proofs.DirectiveLemmas.{uncovered_word}
use Rattle.oss_explain.proofs.directives.release_not_covered.Goals as goal

pub uncovered-requires-clause-some : goal.uncovered-requires-clause-some
uncovered-requires-clause-some c = (false, c.requires.some)

pub unreachable-requires : goal.unreachable-requires
unreachable-requires c =
    uncovered_word c.args.context.now false c.args.clauses.now c.in_ok-cells.cells.first (mark_from false c.args.clauses.now c.in_ok-cells.cells.first) (c.in_ok-cells.ensures false).fails (sym c.word_at.ensures ∙ c.in-None.is)
