use Rattle.std.proofs.Common.{ap, ◌∙◌, arith}
use Rattle.oss_deps.specs.Seen.{in_range}
use Rattle.oss_fragments.specs.Kept.{Kept, here_by, is_cut}
use Rattle.oss_fragments.proofs.StretchLemmas.{cut_divides, cut_some}
use Rattle.oss_fragments.proofs.GiveLemmas.{given_are, given_cut, given_ready, given_cell}
use Rattle.oss_fragments.proofs.ViewLemmas.{ready_fields, cut_fields, given_seen}
use Rattle.oss_fragments.proofs.fragments.Fragments.give.Goals as goal

pub give_over-requires-clause-some : goal.give_over-requires-clause-some
give_over-requires-clause-some c = cut_some c.self.inside.fragments.items c.self.inside.ended c.args.range.lo (omega (arith, c.args.range.ordered, c.args.range.within)) (cut_fields (record { fragments = c.self.inside.fragments.items; pieces = c.self.inside.map.pieces; ended = c.self.inside.ended }) c.args.self.now c.self.view_is c.args.range.lo c.requires.begins)

pub give_over-requires-clause-begins : goal.give_over-requires-clause-begins
give_over-requires-clause-begins c = cut_divides c.self.inside.map.pieces c.self.inside.fragments.items c.self.invariant c.self.inside.ended c.args.range.lo (cut_fields (record { fragments = c.self.inside.fragments.items; pieces = c.self.inside.map.pieces; ended = c.self.inside.ended }) c.args.self.now c.self.view_is c.args.range.lo c.requires.begins)

pub give_over-requires-clause-ends : goal.give_over-requires-clause-ends
give_over-requires-clause-ends c = cut_divides c.self.inside.map.pieces c.self.inside.fragments.items c.self.invariant c.self.inside.ended c.args.range.hi (cut_fields (record { fragments = c.self.inside.fragments.items; pieces = c.self.inside.map.pieces; ended = c.self.inside.ended }) c.args.self.now c.self.view_is c.args.range.hi c.requires.ends)

pub invariant_of-self : goal.invariant_of-self
invariant_of-self c = given_are c.args.number c.args.range c.self.inside.fragments.items c.give_over.new.fragments.items c.give_over.ensures c.self.inside.map.pieces c.self.invariant

pub returns-clause-given : goal.returns-clause-given
returns-clause-given c = λ k.
    let some = cut_some c.self.inside.fragments.items c.self.inside.ended c.args.range.lo (omega (arith, c.args.range.ordered, c.args.range.within)) (cut_fields (record { fragments = c.self.inside.fragments.items; pieces = c.self.inside.map.pieces; ended = c.self.inside.ended }) c.args.self.now c.self.view_is c.args.range.lo c.requires.begins) in
    let begins = cut_divides c.self.inside.map.pieces c.self.inside.fragments.items c.self.invariant c.self.inside.ended c.args.range.lo (cut_fields (record { fragments = c.self.inside.fragments.items; pieces = c.self.inside.map.pieces; ended = c.self.inside.ended }) c.args.self.now c.self.view_is c.args.range.lo c.requires.begins) in
    let ends = cut_divides c.self.inside.map.pieces c.self.inside.fragments.items c.self.invariant c.self.inside.ended c.args.range.hi (cut_fields (record { fragments = c.self.inside.fragments.items; pieces = c.self.inside.map.pieces; ended = c.self.inside.ended }) c.args.self.now c.self.view_is c.args.range.hi c.requires.ends) in
    given_seen (record { fragments = c.self.inside.fragments.items; pieces = c.self.inside.map.pieces; ended = c.self.inside.ended }) c.args.self.now c.self.view_is c.args.number k (in_range c.args.range k)
    (here_by c.self.inside.map.pieces c.give_over.new.fragments.items k)
    (given_cell c.args.number c.args.range c.self.inside.fragments.items c.give_over.new.fragments.items c.give_over.ensures c.self.inside.map.pieces c.self.invariant some begins ends k)

pub returns-clause-cuts : goal.returns-clause-cuts
returns-clause-cuts c = λ k. given_cut c.args.number c.args.range c.self.inside.fragments.items c.give_over.new.fragments.items c.give_over.ensures c.self.inside.ended k ∙ ap (λ (x : Kept). is_cut x k) c.self.view_is

pub returns-clause-ready : goal.returns-clause-ready
returns-clause-ready c = λ accesses r. given_ready c.args.number c.args.range c.self.inside.fragments.items c.give_over.new.fragments.items c.give_over.ensures accesses (ready_fields (record { fragments = c.self.inside.fragments.items; pieces = c.self.inside.map.pieces; ended = c.self.inside.ended }) c.args.self.now c.self.view_is accesses r)
