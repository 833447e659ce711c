use Rattle.oss_fragments.proofs.OpenLemmas.{opened_begins, next_ready, next_may, opened_goes, opened_ends}
use Rattle.oss_fragments.proofs.opening.open_all.Goals as goal

pub loop-access-init : goal.loop-access-init
loop-access-init c = opened_begins c.args.number c.args.parent c.args.map.now.pieces c.args.accesses.now c.args.fragments.now.items c.requires.are c.requires.ready

pub open_over-requires-clause-are : goal.open_over-requires-clause-are
open_over-requires-clause-are c = c.loop-access.invariant.are

pub open_over-requires-clause-some : goal.open_over-requires-clause-some
open_over-requires-clause-some c = c.loop-access.invariant.some

pub open_over-requires-clause-ready : goal.open_over-requires-clause-ready
open_over-requires-clause-ready c = next_ready c.args.number c.args.parent c.args.map.now.pieces c.args.accesses.now c.requires.rising c.args.fragments.now.items c.loop-access.fragments.items c.loop-access.access-index c.access-item.result c.loop-access-test.true c.access-item.is c.requires.ready c.requires.may c.loop-access.invariant

pub open_over-requires-clause-may : goal.open_over-requires-clause-may
open_over-requires-clause-may c = next_may c.args.number c.args.parent c.args.map.now.pieces c.args.accesses.now c.requires.rising c.args.fragments.now.items c.loop-access.fragments.items c.loop-access.access-index c.access-item.result c.loop-access-test.true c.access-item.is c.requires.ready c.requires.may c.loop-access.invariant

pub loop-access-preserved : goal.loop-access-preserved
loop-access-preserved c = opened_goes c.args.number c.args.parent c.args.map.now.pieces c.args.accesses.now c.requires.rising c.args.fragments.now.items c.loop-access.fragments.items c.loop-access.access-index c.access-item.result c.loop-access-test.true c.access-item.is c.requires.ready c.requires.may c.loop-access.invariant c.open_over.new.fragments.items c.open_over.ensures

pub returns-clause-are : goal.returns-clause-are
returns-clause-are c = c.loop-access.invariant.are

pub returns-clause-some : goal.returns-clause-some
returns-clause-some c = c.loop-access.invariant.some

pub returns-clause-opened : goal.returns-clause-opened
returns-clause-opened c = opened_ends c.args.number c.args.parent c.args.map.now.pieces c.args.accesses.now c.args.fragments.now.items c.loop-access.fragments.items c.loop-access.access-index c.loop-access-test.false c.loop-access.invariant

pub returns-clause-asked : goal.returns-clause-asked
returns-clause-asked c = c.loop-access.invariant.asked

pub returns-clause-divided : goal.returns-clause-divided
returns-clause-divided c = c.loop-access.invariant.divided
