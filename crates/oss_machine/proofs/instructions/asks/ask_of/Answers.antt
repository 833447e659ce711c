use Rattle.oss_machine.proofs.instructions.asks.ask_of.Goals as goal

pub returns-in-Store : goal.returns-in-Store
returns-in-Store c = rw c.in-Store.is (c.store.ensures c.args.base.now.accesses.items c.args.base.now.ranges.items)

pub returns-in-Fold : goal.returns-in-Fold
returns-in-Fold c = rw c.in-Fold.is (c.fold.ensures c.args.base.now.accesses.items c.args.base.now.ranges.items)

pub returns-in-Print : goal.returns-in-Print
returns-in-Print c = rw c.in-Print.is (rw c.as_slice.ensures at (c.print.ensures c.args.base.now.accesses.items c.args.base.now.ranges.items))
