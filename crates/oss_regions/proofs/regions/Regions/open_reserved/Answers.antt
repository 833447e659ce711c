use Rattle.std.proofs.Common.{◌+◌, sym, ap, subst, ◌∙◌, List, arith}
use Rattle.std.specs.Prelude.{vec_capacity, ◌||◌}
use Rattle.oss_syntax.specs.declared.access.Access.{Access}
use Rattle.oss_deps.specs.declared.opened.Open.{Open}
use Rattle.oss_deps.specs.Columns.{IsNumberOf}
use Rattle.oss_deps.specs.Seen.{is_access_end}
use Rattle.oss_fragments.specs.Kept.{is_cut}
use Rattle.oss_regions.specs.Kept.{seen_of}
use Rattle.oss_regions.proofs.KeptLemmas.{can_open, may_hang, may_hang_as, opened_as, opens_seen_as, opens_to, right_as, right_opened, seen_opens}
use Rattle.oss_regions.proofs.regions.Regions.open_reserved.Goals as goal

pub open-requires-clause-may : goal.open-requires-clause-may
open-requires-clause-may c =
    may_hang_as c.self.inside.cells c.in-Some.creator (c.len-number.result + 1) (omega (arith, c.len-number.ensures)) c.as_slice-2.ensures
    (may_hang (record { opens = c.self.inside.opens.items; cells = c.self.inside.cells; reserved = c.self.inside.reserved }) (vec_capacity c.self.inside.opens) c.self.invariant (record { task = c.args.task; parent = c.args.parent; accesses = c.in-Some-take.kept }) c.in-Some.creator
    (can_open c.self.view_is (sym c.take.ensures.value ∙ c.in-Some-take.is) c.requires.1 c.requires.2)
    (subst (λ (xs : List Open). IsNumberOf xs c.in-Some.creator c.args.parent) c.as_slice.ensures.value c.in-Some.ensures.found))

pub invariant_of-self : goal.invariant_of-self
invariant_of-self c =
    right_as c.push_reserved.ensures.items c.take.ensures.after
    (right_opened (record { opens = c.self.inside.opens.items; cells = c.self.inside.cells; reserved = c.self.inside.reserved }) (vec_capacity c.self.inside.opens) c.self.invariant (record { task = c.args.task; parent = c.args.parent; accesses = c.in-Some-take.kept }) c.in-Some.creator
    (can_open c.self.view_is (sym c.take.ensures.value ∙ c.in-Some-take.is) c.requires.1 c.requires.2)
    (subst (λ (xs : List Open). IsNumberOf xs c.in-Some.creator c.args.parent) c.as_slice.ensures.value c.in-Some.ensures.found)
    c.open.new.self (opened_as c.self.inside.cells c.open.new.self c.in-Some.creator (c.len-number.result + 1) (omega (arith, c.len-number.ensures)) c.as_slice-2.ensures c.open.ensures.opened) (vec_capacity c.push_reserved.new.self))

pub returns : goal.returns
returns c = λ accesses e.
    opens_seen_as (seen_of (record { opens = c.push_reserved.new.self.items; cells = c.open.new.self; reserved = c.take.new.self })) c.self.view_is (sym c.take.ensures.value ∙ c.in-Some-take.is) e
    (opens_to c.open.new.self c.push_reserved.ensures.items c.take.ensures.after
    (seen_opens (record { opens = c.self.inside.opens.items; cells = c.self.inside.cells; reserved = c.self.inside.reserved }) (vec_capacity c.self.inside.opens) c.self.invariant (record { task = c.args.task; parent = c.args.parent; accesses = c.in-Some-take.kept }) c.in-Some.creator
    (can_open c.self.view_is (sym c.take.ensures.value ∙ c.in-Some-take.is) c.requires.1 c.requires.2)
    (subst (λ (xs : List Open). IsNumberOf xs c.in-Some.creator c.args.parent) c.as_slice.ensures.value c.in-Some.ensures.found)
    c.open.new.self (opened_as c.self.inside.cells c.open.new.self c.in-Some.creator (c.len-number.result + 1) (omega (arith, c.len-number.ensures)) c.as_slice-2.ensures c.open.ensures.opened)
    (λ k. c.open.ensures.cuts k ∙ ap (λ (xs : List Access). is_cut c.self.inside.cells k || is_access_end xs k) c.as_slice-2.ensures)))
