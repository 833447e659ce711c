use Rattle.oss_fragments.specs.Kept.{here_by}
use Rattle.oss_fragments.proofs.DivideLemmas.{finer_both, finer_ready}
use Rattle.oss_fragments.proofs.ViewLemmas.{less_seen, ready_fields}
use Rattle.oss_fragments.proofs.fragments.Fragments.reserve.Goals as goal

pub returns-in_err-cover-clause-ready : goal.returns-in_err-cover-clause-ready
returns-in_err-cover-clause-ready c = λ others r.
    finer_ready c.self.inside.map.pieces c.self.inside.fragments.items c.cover.new.map.pieces c.cover.new.fragments.items c.cover.ensures.finer others
    (ready_fields (record { fragments = c.self.inside.fragments.items; pieces = c.self.inside.map.pieces; ended = c.self.inside.ended }) c.args.self.now c.self.view_is others r)

pub returns-clause-ready : goal.returns-clause-ready
returns-clause-ready c = λ others r.
    finer_ready c.self.inside.map.pieces c.self.inside.fragments.items c.make_ready.new.map.pieces c.make_ready.new.fragments.items
    (finer_both c.self.inside.map.pieces c.self.inside.fragments.items c.cover.new.map.pieces c.cover.new.fragments.items c.make_ready.new.map.pieces c.make_ready.new.fragments.items c.cover.ensures.finer c.make_ready.ensures.finer) others
    (ready_fields (record { fragments = c.self.inside.fragments.items; pieces = c.self.inside.map.pieces; ended = c.self.inside.ended }) c.args.self.now c.self.view_is others r)

pub returns-in_err-cover-clause-here : goal.returns-in_err-cover-clause-here
returns-in_err-cover-clause-here c = λ k.
    less_seen (record { fragments = c.self.inside.fragments.items; pieces = c.self.inside.map.pieces; ended = c.self.inside.ended }) c.args.self.now c.self.view_is k (here_by c.cover.new.map.pieces c.cover.new.fragments.items k)
    (c.cover.ensures.finer.here c.self.invariant k)

pub returns-clause-here : goal.returns-clause-here
returns-clause-here c = λ k.
    less_seen (record { fragments = c.self.inside.fragments.items; pieces = c.self.inside.map.pieces; ended = c.self.inside.ended }) c.args.self.now c.self.view_is k (here_by c.make_ready.new.map.pieces c.make_ready.new.fragments.items k)
    ((finer_both c.self.inside.map.pieces c.self.inside.fragments.items c.cover.new.map.pieces c.cover.new.fragments.items c.make_ready.new.map.pieces c.make_ready.new.fragments.items c.cover.ensures.finer c.make_ready.ensures.finer).here c.self.invariant k)
