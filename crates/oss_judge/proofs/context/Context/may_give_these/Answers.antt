use Rattle.std.proofs.Common.{sym, ap, ◌∙◌, Some, if◌then◌else◌}
use Rattle.oss_judge.proofs.FaultLemmas.{clause_is}
use Rattle.oss_judge.specs.Parts.{cover_fault}
use Rattle.oss_judge.specs.Seen.{right_at}
use Rattle.oss_model.specs.Context.{right_of}
use Rattle.oss_syntax.specs.declared.fault.FaultKind.TheVariants as fault
use Rattle.oss_judge.proofs.context.Context.may_give_these.Goals as goal

pub returns : goal.returns
returns c = λ final is.
    c.check_given.ensures
    ∙ ap (λ b. if b then Some fault.MixedAccess else cover_fault (right_of c.args.self.now) (right_at c.args.given.now.rights.pieces) c.args.clauses.now) (sym c.if-given.false)
    ∙ clause_is c.args.self.now c.args.clauses.now final c.args.given.now.is_mixed (right_at c.args.given.now.rights.pieces) is.mixed is.rights
