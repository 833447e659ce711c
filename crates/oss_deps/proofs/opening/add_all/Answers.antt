use Rattle.std.proofs.Common.{List, subst}
use Rattle.std.proofs.lemmas.List.{take_all}
use Rattle.oss_syntax.specs.declared.access.Access.{Access}
use Rattle.oss_deps.specs.Adding.{AreAllGrown}
use Rattle.oss_deps.proofs.AskLemmas.{item_in}
use Rattle.oss_deps.proofs.AddLemmas.{all_begins, all_addable, all_goes}
use Rattle.oss_deps.proofs.opening.add_all.Goals as goal

pub loop-access-init : goal.loop-access-init
loop-access-init c = all_begins c.args.number c.args.task c.args.parent c.args.columns.now.items

pub add_over-requires : goal.add_over-requires
add_over-requires c = all_addable c.args.number c.args.task c.args.parent c.args.map.now.pieces c.args.accesses.now c.requires.rising c.args.columns.now.items c.loop-access.columns.items c.loop-access.access-index c.access-item.result c.loop-access-test.true c.access-item.is c.loop-access.invariant (c.requires.addable c.access-item.result (item_in c.args.accesses.now c.loop-access.access-index c.access-item.result c.loop-access-test.true c.access-item.is))

pub loop-access-preserved : goal.loop-access-preserved
loop-access-preserved c = all_goes c.args.number c.args.task c.args.parent c.args.map.now.pieces c.args.accesses.now c.requires.rising c.args.columns.now.items c.loop-access.columns.items c.loop-access.access-index c.access-item.result c.loop-access-test.true c.access-item.is c.loop-access.invariant (c.requires.addable c.access-item.result (item_in c.args.accesses.now c.loop-access.access-index c.access-item.result c.loop-access-test.true c.access-item.is)) c.add_over.new.columns.items c.add_over.ensures

pub returns : goal.returns
returns c = subst (λ (xs : List Access). AreAllGrown c.args.number c.args.task c.args.parent xs c.args.columns.now.items c.loop-access.columns.items) (take_all c.loop-access.access-index c.args.accesses.now c.loop-access-test.false) c.loop-access.invariant
