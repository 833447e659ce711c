use Rattle.std.proofs.Common.{ap, subst, sym, ◌∙◌, List, [], ◌∷◌, ◌++◌, take}
use Rattle.std.proofs.lemmas.List.{take_more, take_all}
use Rattle.oss_syntax.specs.declared.access.Range.{Range}
use Rattle.oss_open_needs.specs.Opening.{OpenWith, waits}
use Rattle.oss_open_needs.proofs.OpenLemmas.{waits_next}
use Rattle.oss_open_needs.proofs.open_task.OpenTask.wait.Goals as goal

pub loop-range-preserved : goal.loop-range-preserved
loop-range-preserved c =
    let so_far : List Range = take c.loop-range.range-index c.args.named.now in
    subst (λ (rs : List Range). OpenWith (waits rs) c.args.self.now c.ask.new.self)
    (ap (λ (r : Range). so_far ++ r ∷ []) c.range-item.is ∙ sym (take_more c.args.named.now c.loop-range.range-index c.range-item.result c.loop-range-test.true))
    (waits_next so_far c.range-item.result c.args.self.now c.loop-range.self c.ask.new.self c.loop-range.invariant c.in_ok-ask.ensures)

pub returns : goal.returns
returns c =
    subst (λ (xs : List Range). OpenWith (waits xs) c.args.self.now c.loop-range.self) (take_all c.loop-range.range-index c.args.named.now c.loop-range-test.false) c.loop-range.invariant
