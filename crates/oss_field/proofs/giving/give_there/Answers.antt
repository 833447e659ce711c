use Rattle.std.proofs.Common.{subst, ℕ, Option}
use Rattle.oss_field.specs.Giving.{MayGiveHere}
use Rattle.oss_field.proofs.giving.give_there.Goals as goal

pub give_childless-requires-clause-may : goal.give_childless-requires-clause-may
give_childless-requires-clause-may c = subst (λ (z : Option ℕ). MayGiveHere c.args.words.now.key.code.value c.args.job.now c.args.words.now.key.entries c.args.place.now.me.0.known c.args.cell c.args.entry z) c.in-None.is c.requires.may

pub give_above-requires-clause-may : goal.give_above-requires-clause-may
give_above-requires-clause-may c = subst (λ (z : Option ℕ). MayGiveHere c.args.words.now.key.code.value c.args.job.now c.args.words.now.key.entries c.args.place.now.me.0.known c.args.cell c.args.entry z) c.in-Some.is c.requires.may

pub give_above-requires-clause-inside : goal.give_above-requires-clause-inside
give_above-requires-clause-inside c = c.requires.inside c.in-Some.last c.in-Some.is
