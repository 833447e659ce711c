use Rattle.std.proofs.Common.{sym, ◌∙◌}
use Rattle.oss_model.specs.Rights.{mark_from}
use Rattle.oss_explain.proofs.DirectiveLemmas.{uncovered_word}
use Rattle.oss_explain.proofs.directives.creation_not_covered.Goals as goal

pub uncovered-requires-clause-some : goal.uncovered-requires-clause-some
uncovered-requires-clause-some c = (c.args.is_final, c.requires.some)

pub unreachable-requires : goal.unreachable-requires
unreachable-requires c =
    uncovered_word c.args.context.now c.args.is_final c.args.clauses.now c.in_ok-cells.cells.first (mark_from c.args.is_final c.args.clauses.now c.in_ok-cells.cells.first) (c.in_ok-cells.ensures c.args.is_final).fails
    (sym c.word_at.ensures ∙ c.in-None.is)
