use Rattle.std.proofs.Common.{◌≡◌, sym, subst, ap, ◌∙◌}
use Rattle.oss_access_lists.specs.declared.marks.Marks.{Marks}
use Rattle.oss_access_lists.specs.Steps.{IsGift}
use Rattle.oss_access_lists.specs.Tables.{AreTables, IsQueue, gift_flags, gave_in, wires_of, post_in}
use Rattle.oss_access_lists.proofs.GiveLemmas as gives
use Rattle.oss_access_lists.proofs.queue.give.Goals as goal

pub returns-clause-tables : goal.returns-clause-tables
returns-clause-tables c =
    let hangs = c.args.hangs.now in
    let stand = c.args.stand.now in
    let posted = c.args.posted.now in
    let at = c.args.at in
    let p : c.post.new.posted ≡ post_in stand posted at (gift_flags hangs stand at) =
    c.post.ensures.posted ∙ ap (λ (y : Marks). post_in stand posted at y) c.gift_flags-flags.ensures in
    let q = c.post.ensures.queue c.requires.main c.requires.tables.queue in
    subst (λ y. AreTables y stand c.post.new.posted c.post.new.behind c.post.result) (sym c.put_gave.ensures)
    (subst (λ y. AreTables (gave_in hangs at) stand y c.post.new.behind c.post.result) (sym p)
    (gives.tables_given hangs stand posted c.args.behind.now c.args.head at c.requires.tables c.requires.main c.requires.within c.post.new.behind c.post.result c.post.ensures.length
    (subst (λ y. IsQueue y c.post.new.behind c.post.result) p q)))

pub returns-clause-given : goal.returns-clause-given
returns-clause-given c =
    subst (λ y. IsGift (wires_of c.args.hangs.now) (wires_of y) c.args.at) (sym c.put_gave.ensures)
    (gives.gift c.args.hangs.now c.args.stand.now c.args.posted.now c.args.behind.now c.args.head c.args.at c.requires.tables c.requires.main c.requires.within)
