use Rattle.std.proofs.Common.{refl, arith, None}
use Rattle.std.specs.Prelude.{vec_capacity}
use Rattle.oss_deps.proofs.DivideLemmas.{finer_both}
use Rattle.oss_deps.proofs.PlainLemmas.{right_finer, right_asked, prepares}
use Rattle.oss_deps.proofs.plain.PlainDepsDeps.prepare.Goals as goal

pub invariant_of-self : goal.invariant_of-self
invariant_of-self c = right_finer c.self.inside.opens.items c.self.inside.opens.items (vec_capacity c.self.inside.opens) (vec_capacity c.self.inside.opens) c.self.inside.map.pieces c.self.inside.columns.items c.cover.new.map.pieces c.cover.new.columns.items c.self.inside.reserved c.self.invariant c.cover.ensures.finer refl (omega arith)

pub invariant_of-self-in_err-split_around : goal.invariant_of-self-in_err-split_around
invariant_of-self-in_err-split_around c = right_finer c.self.inside.opens.items c.self.inside.opens.items (vec_capacity c.self.inside.opens) (vec_capacity c.self.inside.opens) c.self.inside.map.pieces c.self.inside.columns.items c.split_around.new.map.pieces c.split_around.new.columns.items c.self.inside.reserved c.self.invariant (finer_both c.self.inside.map.pieces c.self.inside.columns.items c.cover.new.map.pieces c.cover.new.columns.items c.split_around.new.map.pieces c.split_around.new.columns.items c.cover.ensures.finer c.split_around.ensures.finer) refl (omega arith)

pub invariant_of-self-2 : goal.invariant_of-self-2
invariant_of-self-2 c =
    right_asked c.self.inside.opens.items (vec_capacity c.self.inside.opens) c.split_around.new.map.pieces c.split_around.new.columns.items c.ask_ends.new.columns.items c.self.invariant.opens_are
    ((finer_both c.self.inside.map.pieces c.self.inside.columns.items c.cover.new.map.pieces c.cover.new.columns.items c.split_around.new.map.pieces c.split_around.new.columns.items c.cover.ensures.finer c.split_around.ensures.finer).columns_are c.self.inside.opens.items c.self.invariant.columns_are) c.ask_ends.ensures.same

pub returns-clause-ok : goal.returns-clause-ok
returns-clause-ok c = prepares (record { opens = c.self.inside.opens.items; pieces = c.self.inside.map.pieces; columns = c.self.inside.columns.items; ended = c.self.inside.ended; reserved = c.self.inside.reserved }) c.args.self.now c.self.view_is (vec_capacity c.self.inside.opens) c.self.invariant (record { opens = c.self.inside.opens.items; pieces = c.split_around.new.map.pieces; columns = c.ask_ends.new.columns.items; ended = c.ask_ends.new.ended; reserved = None }) c.args.range c.split_around.new.columns.items refl (finer_both c.self.inside.map.pieces c.self.inside.columns.items c.cover.new.map.pieces c.cover.new.columns.items c.split_around.new.map.pieces c.split_around.new.columns.items c.cover.ensures.finer c.split_around.ensures.finer) c.ask_ends.ensures.same c.ask_ends.ensures.cuts refl
