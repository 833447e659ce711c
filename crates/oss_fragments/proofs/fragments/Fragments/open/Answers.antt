use Rattle.oss_deps.specs.Opens.{access_at}
use Rattle.oss_fragments.specs.Kept.{here_by}
use Rattle.oss_fragments.proofs.CutLemmas.{asked_are, asked_here}
use Rattle.oss_fragments.proofs.ViewLemmas.{ready_fields, opened_seen}
use Rattle.oss_fragments.proofs.fragments.Fragments.open.Goals as goal

pub ask_all-requires-clause-begins : goal.ask_all-requires-clause-begins
ask_all-requires-clause-begins c = λ a i. c.open_all.ensures.divided a.range.lo ((ready_fields (record { fragments = c.self.inside.fragments.items; pieces = c.self.inside.map.pieces; ended = c.self.inside.ended }) c.args.self.now c.self.view_is c.args.accesses.now c.requires.ready).each a i).begins

pub ask_all-requires-clause-ends : goal.ask_all-requires-clause-ends
ask_all-requires-clause-ends c = λ a i. c.open_all.ensures.divided a.range.hi ((ready_fields (record { fragments = c.self.inside.fragments.items; pieces = c.self.inside.map.pieces; ended = c.self.inside.ended }) c.args.self.now c.self.view_is c.args.accesses.now c.requires.ready).each a i).ends

pub invariant_of-self : goal.invariant_of-self
invariant_of-self c = asked_are c.self.inside.map.pieces c.open_all.new.fragments.items c.ask_all.new.fragments.items c.ask_all.ensures.same c.open_all.ensures.are

pub returns-clause-opened : goal.returns-clause-opened
returns-clause-opened c = λ k.
    opened_seen (record { fragments = c.self.inside.fragments.items; pieces = c.self.inside.map.pieces; ended = c.self.inside.ended }) c.args.self.now c.self.view_is c.args.number c.args.parent k (access_at c.args.accesses.now k)
    (here_by c.self.inside.map.pieces c.open_all.new.fragments.items k) (here_by c.self.inside.map.pieces c.ask_all.new.fragments.items k) (asked_here c.self.inside.map.pieces c.open_all.new.fragments.items c.ask_all.new.fragments.items c.ask_all.ensures.same c.open_all.ensures.are k) (c.open_all.ensures.opened k)
