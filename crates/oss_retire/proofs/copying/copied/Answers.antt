use Rattle.std.proofs.Common.{ℕ, subst, arith}
use Rattle.oss_retire.specs.Copies.{AreCopied}
use Rattle.oss_retire.proofs.copying.copied.Goals as goal

pub returns-clause-copied : goal.returns-clause-copied
returns-clause-copied c =
    let from = c.loop-at.auto.at in
    let end = c.loop-at.auto.at-end in
    let over = c.loop-at-test.false in
    let count = c.count-at-end.ensures in
    subst (λ (n : ℕ). AreCopied c.args.line.now.hangs c.args.line.now.stand c.args.numbers.now n c.loop-at.copy.line.hangs c.loop-at.copy.numbers.items c.loop-at.copy.places.items c.loop-at.copy.owners.items) (omega (arith, from, end, over, count)) c.loop-at.invariant.copied
