use Rattle.oss_deps.proofs.CutLemmas.{asked_both, asked_stretches, asked_divided}
use Rattle.oss_deps.proofs.cutting.ask_ends.Goals as goal

pub ask-requires-2-clause-stretches : goal.ask-requires-2-clause-stretches
ask-requires-2-clause-stretches c = asked_stretches c.args.map.now.pieces c.args.columns.now.items c.ask.new.columns.items c.ask.ensures.same c.requires.stretches

pub ask-requires-2-clause-divided : goal.ask-requires-2-clause-divided
ask-requires-2-clause-divided c = asked_divided c.args.columns.now.items c.ask.new.columns.items c.ask.ensures.same c.args.range.hi c.requires.ends

pub returns-clause-same : goal.returns-clause-same
returns-clause-same c = asked_both c.args.columns.now.items c.ask.new.columns.items c.ask-2.new.columns.items c.ask.ensures.same c.ask-2.ensures.same
