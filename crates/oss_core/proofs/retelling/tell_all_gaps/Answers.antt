use Rattle.std.proofs.Common.{◌≡◌, refl, length, Some}
use Rattle.std.specs.Prelude.{slice_get}
use Rattle.std.proofs.lemmas.Option.{slice_get_read}
use Rattle.oss_core.proofs.RegivenLemmas.{all_held, all_more, all_named}
use Rattle.oss_core.proofs.retelling.tell_all_gaps.Goals as goal

pub tell_gaps-requires-clause-named : goal.tell_gaps-requires-clause-named
tell_gaps-requires-clause-named g c =
    let is : slice_get c.args.accesses.now c.loop-access.access-index ≡ Some c.access-item.result
    = slice_get_read c.args.accesses.now (length c.args.accesses.now) c.loop-access.access-index c.access-item.result refl c.loop-access-test.true c.access-item.is in
    all_named c.args.task.0 c.loop-access.access-index c.args.accesses.now c.access-item.result c.args.owed.now.pieces (g.D.Deps.seen c.args.deps.now) (g.D.Deps.seen c.loop-access.deps) c.requires.rising is
    c.loop-access-test.true c.loop-access.invariant c.requires.named

pub tell_gaps-requires-clause-held : goal.tell_gaps-requires-clause-held
tell_gaps-requires-clause-held g c =
    let is : slice_get c.args.accesses.now c.loop-access.access-index ≡ Some c.access-item.result
    = slice_get_read c.args.accesses.now (length c.args.accesses.now) c.loop-access.access-index c.access-item.result refl c.loop-access-test.true c.access-item.is in
    all_held c.args.task.0 c.loop-access.access-index c.args.accesses.now c.access-item.result c.args.owed.now.pieces (g.D.Deps.seen c.args.deps.now) (g.D.Deps.seen c.loop-access.deps) c.requires.rising is
    c.loop-access-test.true c.loop-access.invariant c.requires.held

pub loop-access-preserved : goal.loop-access-preserved
loop-access-preserved g c =
    let is : slice_get c.args.accesses.now c.loop-access.access-index ≡ Some c.access-item.result
    = slice_get_read c.args.accesses.now (length c.args.accesses.now) c.loop-access.access-index c.access-item.result refl c.loop-access-test.true c.access-item.is in
    all_more c.args.task.0 c.loop-access.access-index c.args.accesses.now c.access-item.result c.args.owed.now.pieces (g.D.Deps.seen c.args.deps.now) (g.D.Deps.seen c.loop-access.deps) c.requires.rising is
    c.loop-access-test.true c.loop-access.invariant (g.D.Deps.seen c.tell_gaps.new.deps) c.in_ok-tell_gaps.ensures
