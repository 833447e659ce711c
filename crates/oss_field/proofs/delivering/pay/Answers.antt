use Rattle.std.proofs.Common.{◌≡◌, sym, subst, ap, ◌∙◌, ◌<◌, ◌==◌, [], ◌∷◌, true}
use Rattle.std.specs.Prelude.{Some, None, if◌then◌else◌}
use Rattle.oss_words.specs.declared.entry.EntryInfo.{EntryInfo}
use Rattle.oss_words.specs.Bits.{info_at}
use Rattle.oss_field.specs.Messages.{is_due, lowered_by}
use Rattle.oss_field.proofs.DeliverLemmas.{count_paid, nothing_paid, owes_is}
use Rattle.oss_field.proofs.delivering.pay.Goals as goal

pub returns-then-not-waits-clause-paid : goal.returns-then-not-waits-clause-paid
returns-then-not-waits-clause-paid c =
    nothing_paid c.args.info c.args.flag c.args.seat.now.me.0.known
    (ap (λ (z : EntryInfo). is_due z c.args.flag) (sym c.info_of-parts.ensures) ∙ (sym c.waits.ensures ∙ c.if-not-waits.true)) c.requires.owes

pub lower_count-found-requires-clause-inside : goal.lower_count-found-requires-clause-inside
lower_count-found-requires-clause-inside c =
    let parts = c.info_of-parts.ensures in
    let due : is_due (info_at c.args.info) c.args.flag ≡ true = ap (λ (z : EntryInfo). is_due z c.args.flag) (sym parts) ∙ (sym c.waits.ensures ∙ c.if-not-waits.false) in
    subst (λ (z : EntryInfo). z.task < c.args.words.now.key.entries) (sym parts) (c.requires.task due)

pub lower_count-found-requires-clause-task : goal.lower_count-found-requires-clause-task
lower_count-found-requires-clause-task c = ap (λ (z : EntryInfo). z.task) (sym c.info_of-parts.ensures)

pub lower_count-found-requires-clause-owes : goal.lower_count-found-requires-clause-owes
lower_count-found-requires-clause-owes c =
    let parts = c.info_of-parts.ensures in
    let due : is_due (info_at c.args.info) c.args.flag ≡ true = ap (λ (z : EntryInfo). is_due z c.args.flag) (sym parts) ∙ (sym c.waits.ensures ∙ c.if-not-waits.false) in
    owes_is c.args.info c.args.flag c.args.seat.now.me.0.known.owes due c.requires.owes ∙ ap (λ (z : EntryInfo). z.task ∷ []) (sym parts)

pub returns-clause-paid : goal.returns-clause-paid
returns-clause-paid c =
    let parts = c.info_of-parts.ensures in
    let due : is_due (info_at c.args.info) c.args.flag ≡ true = ap (λ (z : EntryInfo). is_due z c.args.flag) (sym parts) ∙ (sym c.waits.ensures ∙ c.if-not-waits.false) in
    count_paid c.args.cells c.args.info c.args.flag c.lower_count-found.result c.args.seat.now.me.0.known c.lower_count-found.new.seat.me.0.known c.free.result due
    (c.lower_count-found.ensures.lowers.known ∙ ap (λ (z : EntryInfo). lowered_by c.args.cells z.task c.lower_count-found.result c.args.seat.now.me.0.known) parts)
    (c.free.ensures ∙ ap (λ (z : EntryInfo). if c.lower_count-found.result == 1 then Some z.task else None) parts)
