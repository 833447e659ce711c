use Rattle.oss_fragments.proofs.CutLemmas.{asked_both, asked_are, asked_divided}
use Rattle.oss_fragments.proofs.cutting.ask_ends.Goals as goal

pub ask-requires-2-clause-are : goal.ask-requires-2-clause-are
ask-requires-2-clause-are c = asked_are c.args.map.now.pieces c.args.fragments.now.items c.ask.new.fragments.items c.ask.ensures.same c.requires.are

pub ask-requires-2-clause-divided : goal.ask-requires-2-clause-divided
ask-requires-2-clause-divided c = asked_divided c.args.fragments.now.items c.ask.new.fragments.items c.ask.ensures.same c.args.range.hi c.requires.ends

pub returns-clause-same : goal.returns-clause-same
returns-clause-same c = asked_both c.args.fragments.now.items c.ask.new.fragments.items c.ask-2.new.fragments.items c.ask.ensures.same c.ask-2.ensures.same
