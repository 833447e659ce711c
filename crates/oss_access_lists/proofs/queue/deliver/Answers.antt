use Rattle.std.proofs.Common.{◌≡◌, ◌<◌, sym, subst, ap, ◌∙◌}
use Rattle.std.proofs.Math.ListN.{set}
use Rattle.oss_access_lists.specs.declared.marks.Marks.{Marks}
use Rattle.oss_access_lists.specs.Tables.{AreTables, IsQueue, left_in, marks_at, plus, no_marks, next_in, child_in, up_in, posted_after, stand_after, number_at}
use Rattle.oss_access_lists.proofs.DeliverLemmas as delivers
use Rattle.oss_access_lists.proofs.QueueLemmas.{queue_next}
use Rattle.oss_access_lists.proofs.queue.deliver.Goals as goal

pub put-requires : goal.put-requires
put-requires c = delivers.front_stands c.args.hangs.now c.args.stand.now c.args.posted.now c.args.behind.now c.args.head c.requires.tables c.requires.waits

pub put-requires-2 : goal.put-requires-2
put-requires-2 c = delivers.front_within c.args.hangs.now c.args.stand.now c.args.posted.now c.args.behind.now c.args.head c.requires.tables c.requires.waits

pub returns-clause-tables : goal.returns-clause-tables
returns-clause-tables c =
    let hangs = c.args.hangs.now in
    let stand = c.args.stand.now in
    let posted = c.args.posted.now in
    let behind = c.args.behind.now in
    let head = c.args.head in
    let s : c.put.new.all ≡ stand_after stand posted head =
    c.put.ensures ∙ ap (λ (y : Marks). set stand head y) (c.plus-flags.ensures ∙ (ap (λ y. plus y c.marks_at-2.result) c.marks_at.ensures ∙ ap (λ y. plus (marks_at stand head) y) c.marks_at-2.ensures)) in
    let p0 : c.put-2.new.all ≡ set posted head no_marks = c.put-2.ensures ∙ ap (λ (y : Marks). set posted head y) c.no_marks.ensures in
    let q0 : IsQueue c.put-2.new.all behind c.number_at-rest.result =
    subst (λ y. IsQueue c.put-2.new.all behind y) (sym c.number_at-rest.ensures) (subst (λ y. IsQueue y behind (number_at behind head)) (sym p0)
    (queue_next posted behind head c.requires.waits (delivers.front_within hangs stand posted behind head c.requires.tables c.requires.waits) c.requires.tables.queue)) in
    let q = c.send_up.ensures.queue (c.send_child-below.ensures.queue (c.send_next-beside.ensures.queue q0)) in
    let p1 : c.send_next-beside.new.posted ≡ next_in hangs (stand_after stand posted head) (set posted head no_marks) head =
    c.send_next-beside.ensures.posted ∙ (ap (λ y. next_in hangs y c.put-2.new.all head) s ∙ ap (λ y. next_in hangs (stand_after stand posted head) y head) p0) in
    let p2 : c.send_child-below.new.posted ≡ child_in hangs (stand_after stand posted head) (next_in hangs (stand_after stand posted head) (set posted head no_marks) head) head =
    c.send_child-below.ensures.posted ∙ (ap (λ y. child_in hangs y c.send_next-beside.new.posted head) s ∙ ap (λ y. child_in hangs (stand_after stand posted head) y head) p1) in
    let p3 : c.send_up.new.posted ≡ posted_after hangs (stand_after stand posted head) posted head =
    c.send_up.ensures.posted ∙ (ap (λ y. up_in hangs y c.send_child-below.new.posted head) s ∙ ap (λ y. up_in hangs (stand_after stand posted head) y head) p2) in
    let l = c.send_up.ensures.length ∙ (c.send_child-below.ensures.length ∙ (c.send_next-beside.ensures.length ∙ c.requires.tables.as_many)) in
    subst (λ y. AreTables hangs y c.send_up.new.posted c.send_up.new.behind c.send_up.result) (sym s)
    (subst (λ y. AreTables hangs (stand_after stand posted head) y c.send_up.new.behind c.send_up.result) (sym p3)
    (delivers.tables_after hangs stand posted behind head c.requires.tables c.requires.waits c.send_up.new.behind c.send_up.result l
    (subst (λ y. IsQueue y c.send_up.new.behind c.send_up.result) p3 q)))

pub returns-clause-less : goal.returns-clause-less
returns-clause-less c =
    let stand = c.args.stand.now in
    let posted = c.args.posted.now in
    let head = c.args.head in
    let s : c.put.new.all ≡ stand_after stand posted head =
    c.put.ensures ∙ ap (λ (y : Marks). set stand head y) (c.plus-flags.ensures ∙ (ap (λ y. plus y c.marks_at-2.result) c.marks_at.ensures ∙ ap (λ y. plus (marks_at stand head) y) c.marks_at-2.ensures)) in
    subst (λ y. left_in y < left_in stand) (sym s) (delivers.less c.args.hangs.now stand posted c.args.behind.now head c.requires.tables c.requires.waits)
