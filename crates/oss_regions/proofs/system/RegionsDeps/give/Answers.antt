use Rattle.std.proofs.Common.{sym, ap, subst, ◌∙◌, List, inr}
use Rattle.std.specs.Prelude.{vec_capacity}
use Rattle.oss_deps.specs.declared.opened.Open.{Open}
use Rattle.oss_deps.specs.Columns.{IsNumberOf}
use Rattle.oss_deps.specs.Opens.{IsKnown}
use Rattle.oss_regions.specs.Kept.{Kept, seen_of}
use Rattle.oss_regions.proofs.KeptLemmas.{can_give, giver_known, gives_seen, gives_shown, right_given, seen_gives}
use Rattle.oss_regions.proofs.system.RegionsDeps.give.Goals as goal

pub give-requires-clause-shown : goal.give-requires-clause-shown
give-requires-clause-shown c =
    gives_shown (record { opens = c.self.inside.opens.items; cells = c.self.inside.cells; reserved = c.self.inside.reserved }) (vec_capacity c.self.inside.opens) c.self.invariant c.args.task.0 c.in-Some.number c.args.range (can_give c.self.view_is c.requires)
    (subst (λ (xs : List Open). IsNumberOf xs c.in-Some.number c.args.task.0) c.as_slice.ensures.value c.in-Some.ensures.found)

pub invariant_of-self : goal.invariant_of-self
invariant_of-self c =
    right_given (record { opens = c.self.inside.opens.items; cells = c.self.inside.cells; reserved = c.self.inside.reserved }) (vec_capacity c.self.inside.opens) c.self.invariant c.args.task.0 c.in-Some.number c.args.range (can_give c.self.view_is c.requires)
    (subst (λ (xs : List Open). IsNumberOf xs c.in-Some.number c.args.task.0) c.as_slice.ensures.value c.in-Some.ensures.found) c.give.new.self c.give.ensures.given c.give.ensures.ready

pub unreachable-requires : goal.unreachable-requires
unreachable-requires c = c.in-None.ensures.none (subst (λ (xs : List Open). IsKnown xs c.args.task.0) (sym (c.as_slice.ensures.value ∙ ap (λ (k : Kept). k.opens) c.self.view_is)) (inr (giver_known c.requires)))

pub returns : goal.returns
returns c =
    gives_seen (seen_of (record { opens = c.self.inside.opens.items; cells = c.give.new.self; reserved = c.self.inside.reserved })) c.self.view_is
    (seen_gives (record { opens = c.self.inside.opens.items; cells = c.self.inside.cells; reserved = c.self.inside.reserved }) (vec_capacity c.self.inside.opens) c.self.invariant c.args.task.0 c.in-Some.number c.args.range (can_give c.self.view_is c.requires)
    (subst (λ (xs : List Open). IsNumberOf xs c.in-Some.number c.args.task.0) c.as_slice.ensures.value c.in-Some.ensures.found) c.give.new.self c.give.ensures.given c.give.ensures.cuts)
