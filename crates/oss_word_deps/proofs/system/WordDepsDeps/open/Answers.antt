use Rattle.std.proofs.Common.{◌≡◌, ◌≤◌, ℕ, sym, subst, ◌∙◌, List, Some, Result, Ok, Err, ap}
use Rattle.std.specs.Prelude.{IsOk}
use Rattle.oss_syntax.specs.declared.access.Access.{Access}
use Rattle.oss_deps.specs.declared.opened.Open.{Open}
use Rattle.oss_deps.specs.Kept.{seen_of}
use Rattle.oss_word_deps.specs.Worded.{Worded}
use Rattle.oss_deps.specs.Seen.{CanOpen}
use Rattle.oss_word_deps.specs.Booked.{cell_count}
use Rattle.oss_word_deps.specs.Shelved.{HasPlaceIn, MayOpenAs, Shelved}
use Rattle.oss_word_deps.proofs.SystemLemmas.{may_open_in, right_opened, right_roomier, right_same}
use Rattle.oss_word_deps.proofs.system.WordDepsDeps.open.Goals as goal

pub invariant_of-self : goal.invariant_of-self
invariant_of-self c = right_roomier c.self.inside.most c.self.inside.kept c.self.inside.words c.make_room.new.words c.self.invariant c.in_err-make_room.ensures.roomier

pub returns-in_err-make_room-clause-sure : goal.returns-in_err-make_room-clause-sure
returns-in_err-make_room-clause-sure c = λ reserved.
    let fits : HasPlaceIn (cell_count c.as_slice.result.now) c.self.inside.words = subst (λ (xs : List Access). HasPlaceIn (cell_count xs) c.self.inside.words) (sym c.as_slice.ensures) (λ w h. c.self.invariant.ready w c.args.accesses.now h (ap (λ (w : Worded). w.lists.reserved) c.self.view_is ∙ reserved)) in
    absurd (not_ok c.make_room.result c.in_err-make_room.was (c.make_room.ensures.sure fits))
  where
    not_ok : {A E : Type 0} (r : Result A E) {e : E} → r ≡ Err e → IsOk r → ⊥
    not_ok (Ok a) h k = absurd cc
    not_ok (Err e) h k = absurd cc

pub invariant_of-self-in_err-open : goal.invariant_of-self-in_err-open
invariant_of-self-in_err-open c =
    right_same c.self.inside.most c.self.inside.kept c.open.new.self c.make_room.new.words (right_roomier c.self.inside.most c.self.inside.kept c.self.inside.words c.make_room.new.words c.self.invariant c.in_ok-make_room.ensures.roomier) c.in_err-open.ensures.err

pub open_in-requires-clause-may : goal.open_in-requires-clause-may
open_in-requires-clause-may c =
    let o : Open = record { task = c.args.task.0; parent = c.args.parent.0; accesses = c.args.accesses.now } in
    let right = right_roomier c.self.inside.most c.self.inside.kept c.self.inside.words c.make_room.new.words c.self.invariant c.in_ok-make_room.ensures.roomier in
    let can = subst (λ (w : Worded). CanOpen (seen_of w.lists) o) (sym c.self.view_is) c.requires in
    (seen_of c.self.inside.kept, o, λ w h. subst (λ (xs : List Access). MayOpenAs (seen_of c.self.inside.kept) o c.args.task.0 c.args.parent.0 xs w.ledger) (sym c.as_slice-2.ensures) (may_open_in c.self.inside.most c.self.inside.kept c.make_room.new.words o right can w h))

pub invariant_of-self-2 : goal.invariant_of-self-2
invariant_of-self-2 c =
    let o : Open = record { task = c.args.task.0; parent = c.args.parent.0; accesses = c.args.accesses.now } in
    let right = right_roomier c.self.inside.most c.self.inside.kept c.self.inside.words c.make_room.new.words c.self.invariant c.in_ok-make_room.ensures.roomier in
    let can = subst (λ (w : Worded). CanOpen (seen_of w.lists) o) (sym c.self.view_is) c.requires in
    let may = λ (w : Shelved) (h : c.make_room.new.words ≡ Some w). subst (λ (xs : List Access). MayOpenAs (seen_of c.self.inside.kept) o c.args.task.0 c.args.parent.0 xs w.ledger) (sym c.as_slice-2.ensures) (may_open_in c.self.inside.most c.self.inside.kept c.make_room.new.words o right can w h) in
    right_opened c.self.inside.most c.self.inside.kept c.open.new.self o c.open_in.new.words c.self.invariant.bound c.in_ok-open.ensures.ok
    (λ w h. let v = c.open_in.ensures.size w h in
    (c.open_in.ensures.booked (seen_of c.self.inside.kept) (seen_of c.open.new.self) o may c.in_ok-open.ensures.ok w h, subst (λ (n : ℕ). n ≤ c.self.inside.most) (sym v.2) (c.in_ok-make_room.ensures.roomier v.0 v.1).4))
