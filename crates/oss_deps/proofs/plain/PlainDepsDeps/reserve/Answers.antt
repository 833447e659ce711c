use Rattle.std.proofs.Common.{refl, arith, ap, Some, List, subst, sym}
use Rattle.std.specs.Prelude.{vec_capacity}
use Rattle.oss_syntax.specs.declared.access.Access.{Access}
use Rattle.oss_model.specs.Order.{IsIn}
use Rattle.oss_deps.proofs.DivideLemmas.{finer_both}
use Rattle.oss_deps.proofs.PlainLemmas.{right_finer, right_reserved, reserves}
use Rattle.oss_deps.proofs.plain.PlainDepsDeps.reserve.Goals as goal

pub invariant_of-self-in_err-cover : goal.invariant_of-self-in_err-cover
invariant_of-self-in_err-cover c = right_finer c.self.inside.opens.items c.reserve.new.self.items (vec_capacity c.self.inside.opens) (vec_capacity c.reserve.new.self) c.self.inside.map.pieces c.self.inside.columns.items c.cover.new.map.pieces c.cover.new.columns.items c.self.inside.reserved c.self.invariant c.cover.ensures.finer c.reserve.ensures.items c.reserve.ensures.capacity

pub invariant_of-self-in_err-make_ready : goal.invariant_of-self-in_err-make_ready
invariant_of-self-in_err-make_ready c = right_finer c.self.inside.opens.items c.reserve.new.self.items (vec_capacity c.self.inside.opens) (vec_capacity c.reserve.new.self) c.self.inside.map.pieces c.self.inside.columns.items c.make_ready.new.map.pieces c.make_ready.new.columns.items c.self.inside.reserved c.self.invariant (finer_both c.self.inside.map.pieces c.self.inside.columns.items c.cover.new.map.pieces c.cover.new.columns.items c.make_ready.new.map.pieces c.make_ready.new.columns.items c.cover.ensures.finer c.make_ready.ensures.finer) c.reserve.ensures.items c.reserve.ensures.capacity

pub invariant_of-self-in_err-copied : goal.invariant_of-self-in_err-copied
invariant_of-self-in_err-copied c = right_finer c.self.inside.opens.items c.reserve.new.self.items (vec_capacity c.self.inside.opens) (vec_capacity c.reserve.new.self) c.self.inside.map.pieces c.self.inside.columns.items c.make_ready.new.map.pieces c.make_ready.new.columns.items c.self.inside.reserved c.self.invariant (finer_both c.self.inside.map.pieces c.self.inside.columns.items c.cover.new.map.pieces c.cover.new.columns.items c.make_ready.new.map.pieces c.make_ready.new.columns.items c.cover.ensures.finer c.make_ready.ensures.finer) c.reserve.ensures.items c.reserve.ensures.capacity

pub invariant_of-self-2 : goal.invariant_of-self-2
invariant_of-self-2 c =
    right_reserved c.self.inside.opens.items c.reserve.new.self.items (vec_capacity c.self.inside.opens) (vec_capacity c.reserve.new.self) c.self.inside.map.pieces c.self.inside.columns.items c.make_ready.new.map.pieces c.make_ready.new.columns.items c.self.inside.reserved c.args.accesses.now c.in_ok-copied.field-0 c.self.invariant (finer_both c.self.inside.map.pieces c.self.inside.columns.items c.cover.new.map.pieces c.cover.new.columns.items c.make_ready.new.map.pieces c.make_ready.new.columns.items c.cover.ensures.finer c.make_ready.ensures.finer) c.reserve.ensures.items
    (omega (arith, c.in_ok-reserve.ensures.ok, c.reserve.new.self.ok.0)) (c.make_ready.ensures.finer.some c.in_ok-cover.ensures.some) c.in_ok-copied.ensures
    (λ a i. c.in_ok-make_ready.ensures.ready a (subst (λ (xs : List Access). IsIn a xs) (sym c.as_slice.ensures) i))

pub returns-clause-ok : goal.returns-clause-ok
returns-clause-ok c = reserves (record { opens = c.self.inside.opens.items; pieces = c.self.inside.map.pieces; columns = c.self.inside.columns.items; ended = c.self.inside.ended; reserved = c.self.inside.reserved }) c.args.self.now c.self.view_is (vec_capacity c.self.inside.opens) c.self.invariant (record { opens = c.reserve.new.self.items; pieces = c.make_ready.new.map.pieces; columns = c.make_ready.new.columns.items; ended = c.self.inside.ended; reserved = Some c.in_ok-copied.field-0 }) c.args.accesses.now c.reserve.ensures.items (finer_both c.self.inside.map.pieces c.self.inside.columns.items c.cover.new.map.pieces c.cover.new.columns.items c.make_ready.new.map.pieces c.make_ready.new.columns.items c.cover.ensures.finer c.make_ready.ensures.finer) refl (ap Some c.in_ok-copied.ensures)
