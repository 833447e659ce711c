use Rattle.std.proofs.Common.{sym, subst}
use Rattle.oss_deps.specs.Kept.{seen_of}
use Rattle.oss_word_deps.specs.Worded.{Worded}
use Rattle.oss_deps.specs.Seen.{CanGive}
use Rattle.oss_word_deps.proofs.SystemLemmas.{right_given}
use Rattle.oss_word_deps.proofs.system.WordDepsDeps.give.Goals as goal

pub give_in-requires : goal.give_in-requires
give_in-requires c = record { may = (seen_of c.self.inside.kept, c.self.invariant.booked, subst (λ (w : Worded). CanGive c.args.task.0 c.args.range (seen_of w.lists)) (sym c.self.view_is) c.requires) }

pub invariant_of-self : goal.invariant_of-self
invariant_of-self c =
    let can = subst (λ (w : Worded). CanGive c.args.task.0 c.args.range (seen_of w.lists)) (sym c.self.view_is) c.requires in
    right_given c.self.inside.most c.self.inside.kept c.give.new.self c.args.task.0 c.args.range c.self.inside.words c.give_in.new.words c.self.invariant c.give.ensures
    (λ w h. let r = c.give_in.ensures.rows w h in (r.0, r.1, c.give_in.ensures.booked (seen_of c.self.inside.kept) (seen_of c.give.new.self) c.self.invariant.booked can c.give.ensures w h, r.2, r.3))
