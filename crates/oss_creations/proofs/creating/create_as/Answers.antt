use Rattle.oss_creations.specs.Accesses.{Gives}
use Rattle.oss_creations.specs.Keeping.{IsCreation}
use Rattle.std.proofs.lemmas.Result.{IfOk-weaker, on_err_weaker}
use Rattle.oss_creations.proofs.KeepLemmas.{creation_from, kept_itself, new_on, stayed_from}
use Rattle.oss_creations.proofs.creating.create_as.Goals as goal

pub create_boxed-requires-clause-new : goal.create_boxed-requires-clause-new
create_boxed-requires-clause-new c = new_on c.args.field.now.code c.args.job.now c.reserve.new.self (λ own. Gives own c.args.accesses.now) c.reserve.ensures.stays c.requires.new

pub returns-clause-created : goal.returns-clause-created
returns-clause-created c =
    let k = c.args.seat.now.known in
    let m = c.create_boxed.new.seat.known in
    IfOk-weaker c.create_boxed.result (IsCreation c.args.field.now.code c.reserve.new.self c.create_boxed.new.job k m) (IsCreation c.args.field.now.code c.args.job.now c.create_boxed.new.job k m)
    (λ r made. creation_from c.args.field.now.code c.args.job.now c.reserve.new.self c.create_boxed.new.job k k m r c.reserve.ensures.stays (kept_itself k) made) c.create_boxed.ensures.created

pub returns-clause-stays : goal.returns-clause-stays
returns-clause-stays c =
    let k = c.args.seat.now.known in
    on_err_weaker c.create_boxed.result (stayed_from c.args.field.now.code c.args.job.now c.reserve.new.self c.create_boxed.new.job k k c.create_boxed.new.seat.known c.reserve.ensures.stays (kept_itself k)) c.create_boxed.ensures.stays
