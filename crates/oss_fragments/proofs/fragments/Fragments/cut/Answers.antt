use Rattle.std.proofs.Common.{sym}
use Rattle.oss_fragments.specs.Kept.{here_by}
use Rattle.oss_fragments.proofs.LessLemmas.{less_both, less_same}
use Rattle.oss_fragments.proofs.DivideLemmas.{finer_both, finer_ready}
use Rattle.oss_fragments.proofs.CutLemmas.{asked_are, asked_here, asked_ready}
use Rattle.oss_fragments.proofs.ViewLemmas.{less_seen, ready_fields}
use Rattle.oss_fragments.proofs.fragments.Fragments.cut.Goals as goal

pub returns-in_err-cover-clause-ready : goal.returns-in_err-cover-clause-ready
returns-in_err-cover-clause-ready c = λ others r.
    finer_ready c.self.inside.map.pieces c.self.inside.fragments.items c.cover.new.map.pieces c.cover.new.fragments.items c.cover.ensures.finer others
    (ready_fields (record { fragments = c.self.inside.fragments.items; pieces = c.self.inside.map.pieces; ended = c.self.inside.ended }) c.args.self.now c.self.view_is others r)

pub returns-in_err-split_around-clause-ready : goal.returns-in_err-split_around-clause-ready
returns-in_err-split_around-clause-ready c = λ others r.
    finer_ready c.self.inside.map.pieces c.self.inside.fragments.items c.split_around.new.map.pieces c.split_around.new.fragments.items
    (finer_both c.self.inside.map.pieces c.self.inside.fragments.items c.cover.new.map.pieces c.cover.new.fragments.items c.split_around.new.map.pieces c.split_around.new.fragments.items c.cover.ensures.finer c.split_around.ensures.finer) others
    (ready_fields (record { fragments = c.self.inside.fragments.items; pieces = c.self.inside.map.pieces; ended = c.self.inside.ended }) c.args.self.now c.self.view_is others r)

pub invariant_of-self-2 : goal.invariant_of-self-2
invariant_of-self-2 c = asked_are c.split_around.new.map.pieces c.split_around.new.fragments.items c.ask_ends.new.fragments.items c.ask_ends.ensures.same (c.split_around.ensures.finer.are (c.cover.ensures.finer.are c.self.invariant))

pub returns-clause-ready : goal.returns-clause-ready
returns-clause-ready c = λ others r.
    asked_ready others c.split_around.new.fragments.items c.ask_ends.new.fragments.items c.ask_ends.ensures.same
    (finer_ready c.self.inside.map.pieces c.self.inside.fragments.items c.split_around.new.map.pieces c.split_around.new.fragments.items
    (finer_both c.self.inside.map.pieces c.self.inside.fragments.items c.cover.new.map.pieces c.cover.new.fragments.items c.split_around.new.map.pieces c.split_around.new.fragments.items c.cover.ensures.finer c.split_around.ensures.finer) others
    (ready_fields (record { fragments = c.self.inside.fragments.items; pieces = c.self.inside.map.pieces; ended = c.self.inside.ended }) c.args.self.now c.self.view_is others r))

pub returns-in_err-cover-clause-here : goal.returns-in_err-cover-clause-here
returns-in_err-cover-clause-here c = λ k.
    less_seen (record { fragments = c.self.inside.fragments.items; pieces = c.self.inside.map.pieces; ended = c.self.inside.ended }) c.args.self.now c.self.view_is k (here_by c.cover.new.map.pieces c.cover.new.fragments.items k)
    (c.cover.ensures.finer.here c.self.invariant k)

pub returns-in_err-split_around-clause-here : goal.returns-in_err-split_around-clause-here
returns-in_err-split_around-clause-here c = λ k.
    less_seen (record { fragments = c.self.inside.fragments.items; pieces = c.self.inside.map.pieces; ended = c.self.inside.ended }) c.args.self.now c.self.view_is k (here_by c.split_around.new.map.pieces c.split_around.new.fragments.items k)
    ((finer_both c.self.inside.map.pieces c.self.inside.fragments.items c.cover.new.map.pieces c.cover.new.fragments.items c.split_around.new.map.pieces c.split_around.new.fragments.items c.cover.ensures.finer c.split_around.ensures.finer).here c.self.invariant k)

pub returns-clause-here : goal.returns-clause-here
returns-clause-here c = λ k.
    let finer = (finer_both c.self.inside.map.pieces c.self.inside.fragments.items c.cover.new.map.pieces c.cover.new.fragments.items c.split_around.new.map.pieces c.split_around.new.fragments.items c.cover.ensures.finer c.split_around.ensures.finer) in
    less_seen (record { fragments = c.self.inside.fragments.items; pieces = c.self.inside.map.pieces; ended = c.self.inside.ended }) c.args.self.now c.self.view_is k (here_by c.split_around.new.map.pieces c.ask_ends.new.fragments.items k)
    (less_both (here_by c.self.inside.map.pieces c.self.inside.fragments.items k) (here_by c.split_around.new.map.pieces c.split_around.new.fragments.items k) (here_by c.split_around.new.map.pieces c.ask_ends.new.fragments.items k) (finer.here c.self.invariant k)
    (less_same (here_by c.split_around.new.map.pieces c.split_around.new.fragments.items k) (here_by c.split_around.new.map.pieces c.ask_ends.new.fragments.items k) (sym (asked_here c.split_around.new.map.pieces c.split_around.new.fragments.items c.ask_ends.new.fragments.items c.ask_ends.ensures.same (finer.are c.self.invariant) k))))
