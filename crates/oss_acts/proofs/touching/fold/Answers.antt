use Rattle.std.proofs.Common.{sym, subst, ap, ◌∙◌, ℕ}
use Rattle.oss_code.specs.declared.code.CodeParts.{CodeParts}
use Rattle.oss_model.specs.Moves.{combine}
use Rattle.oss_acts.proofs.TouchLemmas.{Advances, halfway, loaded_failed, may_load_fold, may_store_fold, stored_failed, stored_fold}
use Rattle.oss_acts.proofs.touching.fold.Goals as goal

pub load-found-requires-clause-may : goal.load-found-requires-clause-may
load-found-requires-clause-may c =
    may_load_fold c.args.field.now.code c.args.job.now c.requires.works.0 c.args.seat.now.known c.requires.works.1 c.requires.running c.args.cell c.args.op c.args.value c.requires.pending

pub store-requires-clause-may : goal.store-requires-clause-may
store-requires-clause-may c =
    let code = c.args.field.now.code in
    let k = c.args.seat.now.known in
    let l = c.load-found.new.seat.known in
    let half = halfway code c.args.job.now c.requires.works.0 k c.requires.works.1 c.requires.running c.args.cell c.args.op c.args.value c.requires.pending c.load-found.result l c.load-found.ensures.loaded in
    may_store_fold code c.args.job.now c.requires.works.0 k c.requires.works.1 c.requires.running c.args.cell c.args.op c.args.value c.requires.pending c.load-found.result l half c.combined-made.result
    (c.combined-made.ensures ∙ ap (λ (z : ℕ). combine c.args.op c.load-found.result z) c.word.ensures)

pub returns-clause-acted : goal.returns-clause-acted
returns-clause-acted c =
    let code = c.args.field.now.code in
    let k = c.args.seat.now.known in
    let l = c.load-found.new.seat.known in
    let half = halfway code c.args.job.now c.requires.works.0 k c.requires.works.1 c.requires.running c.args.cell c.args.op c.args.value c.requires.pending c.load-found.result l c.load-found.ensures.loaded in
    stored_fold code c.args.job.now c.requires.works.0 k c.requires.works.1 c.requires.running c.args.cell c.args.op c.args.value c.requires.pending c.load-found.result l half c.advance.new.self c.store.new.seat.known c.combined-made.result
    c.store.ensures.stored
    (subst (λ (z : CodeParts). Advances z c.args.job.now c.advance.new.self 0) (sym c.requires.code) c.in_ok-advance.ensures.ok)

pub returns-clause-failed : goal.returns-clause-failed
returns-clause-failed c =
    stored_failed c.args.field.now.code c.args.job.now c.args.cell c.combined-made.result c.load-found.new.seat.known c.store.new.seat.known c.store.ensures.stored
    ∙ loaded_failed c.args.field.now.code c.args.job.now c.args.cell c.load-found.result c.args.seat.now.known c.load-found.new.seat.known c.load-found.ensures.loaded
