use Rattle.std.proofs.Common.{subst, List}
use Rattle.oss_syntax.specs.declared.access.Access.{Access}
use Rattle.oss_word_deps.specs.Booked.{cell_count}
use Rattle.oss_word_deps.specs.Shelved.{HasPlaceIn}
use Rattle.oss_word_deps.proofs.SystemLemmas.{right_reserving, right_roomier}
use Rattle.oss_word_deps.proofs.system.WordDepsDeps.reserve.Goals as goal

pub invariant_of-self : goal.invariant_of-self
invariant_of-self c = right_roomier c.self.inside.most c.self.inside.kept c.self.inside.words c.make_room.new.words c.self.invariant c.in_err-make_room.ensures.roomier

pub invariant_of-self-2 : goal.invariant_of-self-2
invariant_of-self-2 c =
    right_reserving c.reserve.result c.self.inside.most c.self.inside.kept c.reserve.new.self c.args.accesses.now c.make_room.new.words (right_roomier c.self.inside.most c.self.inside.kept c.self.inside.words c.make_room.new.words c.self.invariant c.in_ok-make_room.ensures.roomier) c.reserve.ensures.ok c.reserve.ensures.err
    (subst (λ (xs : List Access). HasPlaceIn (cell_count xs) c.make_room.new.words) c.as_slice.ensures c.in_ok-make_room.ensures.room)
