use Rattle.std.proofs.Common.{ap, subst, sym, ◌∙◌, List, [], ◌∷◌, ◌++◌, take}
use Rattle.std.proofs.lemmas.List.{take_more, take_all}
use Rattle.oss_syntax.specs.declared.access.Access.{Access}
use Rattle.oss_open_needs.specs.Opening.{OpenWith, releases}
use Rattle.oss_open_needs.proofs.OpenLemmas.{releases_next}
use Rattle.oss_open_needs.proofs.open_task.OpenTask.release.Goals as goal

pub loop-clause-preserved : goal.loop-clause-preserved
loop-clause-preserved c =
    let so_far : List Access = take c.loop-clause.clause-index c.args.clauses.now in
    subst (λ (xs : List Access). OpenWith (releases xs) c.args.self.now c.ask.new.self)
    (ap (λ (a : Access). so_far ++ a ∷ []) c.clause-item.is ∙ sym (take_more c.args.clauses.now c.loop-clause.clause-index c.clause-item.result c.loop-clause-test.true))
    (releases_next so_far c.clause-item.result c.args.self.now c.loop-clause.self c.ask.new.self c.loop-clause.invariant c.in_ok-ask.ensures)

pub returns : goal.returns
returns c =
    subst (λ (xs : List Access). OpenWith (releases xs) c.args.self.now c.loop-clause.self) (take_all c.loop-clause.clause-index c.args.clauses.now c.loop-clause-test.false) c.loop-clause.invariant
