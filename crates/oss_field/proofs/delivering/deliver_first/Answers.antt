use Rattle.std.proofs.Common.{sym, subst, ap, ◌∙◌, ℕ, ◌<◌, ◌≤◌, ◌+◌, List, length}
use Rattle.std.specs.Prelude.{slice_index_or}
use Rattle.oss_words.specs.Bits.{info_at, state_at}
use Rattle.oss_words.specs.Causes.{sent}
use Rattle.oss_field.specs.declared.held.Held.{Held}
use Rattle.oss_field.specs.Known.{Known}
use Rattle.oss_field.specs.Messages.{NoneBefore, Ready, owes_after}
use Rattle.oss_words.specs.Views.{Among}
use Rattle.oss_field.proofs.DeliverLemmas.{all_settled, all_work, delivered_is, last_is, may_deliver, paid_bounded, paid_ready, paid_told}
use Rattle.oss_field.proofs.MessageLemmas.{first_told, flags_small, learns_none}
use Rattle.oss_field.proofs.delivering.deliver_first.Goals as goal

pub first_of-requires-clause-flags : goal.first_of-requires-clause-flags
first_of-requires-clause-flags c = subst (λ (xs : List Held). (k : ℕ) (d : Held) → k < length xs → (slice_index_or xs k d).flag ≤ 5) (sym c.as_slice.ensures.value) (flags_small c.args.held.now.items c.args.words.now.key.entries c.args.place.now.me.0.known c.requires.settled.ready c.requires.settled.bounded)

pub set_flag-found-requires-clause-may : goal.set_flag-found-requires-clause-may
set_flag-found-requires-clause-may c =
    let inside : c.first_of.result < length c.args.held.now.items = subst (λ (xs : List Held). c.first_of.result < length xs) c.as_slice.ensures.value c.first_of.ensures.inside in
    let none : NoneBefore c.args.held.now.items (length c.args.held.now.items) c.first_of.result = subst (λ (xs : List Held). NoneBefore xs (length xs) c.first_of.result) c.as_slice.ensures.value c.first_of.ensures.first in
    may_deliver c.args.held.now.items c.args.words.now.key.entries c.args.place.now.me.0.known c.requires.settled c.first_of.result c.swap_remove-first.result inside c.swap_remove-first.ensures.value none c.requires.join

pub pay-freed-requires-clause-told : goal.pay-freed-requires-clause-told
pay-freed-requires-clause-told c =
    let inside : c.first_of.result < length c.args.held.now.items = subst (λ (xs : List Held). c.first_of.result < length xs) c.as_slice.ensures.value c.first_of.ensures.inside in
    let none : NoneBefore c.args.held.now.items (length c.args.held.now.items) c.first_of.result = subst (λ (xs : List Held). NoneBefore xs (length xs) c.first_of.result) c.as_slice.ensures.value c.first_of.ensures.first in
    subst (λ (k : Known). Among (record { entry = c.swap_remove-first.result.entry; info = info_at c.swap_remove-first.result.info }) k.told) (sym c.set_flag-found.ensures.passes.known)
    (first_told c.args.held.now.items c.args.words.now.key.entries c.args.place.now.me.0.known c.requires.settled.ready c.requires.settled.bounded c.first_of.result c.swap_remove-first.result inside c.swap_remove-first.ensures.value none)

pub pay-freed-requires-clause-owes : goal.pay-freed-requires-clause-owes
pay-freed-requires-clause-owes c = ap (λ (z : Known). z.owes) c.set_flag-found.ensures.passes.known ∙ ap (λ (z : List ℕ). owes_after (info_at c.swap_remove-first.result.info) c.swap_remove-first.result.flag z) c.requires.settled.unowed

pub hold_sent-requires-clause-bounded : goal.hold_sent-requires-clause-bounded
hold_sent-requires-clause-bounded c =
    let inside : c.first_of.result < length c.args.held.now.items = subst (λ (xs : List Held). c.first_of.result < length xs) c.as_slice.ensures.value c.first_of.ensures.inside in
    let none : NoneBefore c.args.held.now.items (length c.args.held.now.items) c.first_of.result = subst (λ (xs : List Held). NoneBefore xs (length xs) c.first_of.result) c.as_slice.ensures.value c.first_of.ensures.first in
    paid_bounded c.args.held.now.items c.args.words.now.key.entries c.args.place.now.me.0.known c.requires.settled c.first_of.result c.swap_remove-first.result inside c.swap_remove-first.ensures.value none c.args.cells c.set_flag-found.result c.set_flag-found.new.seat.me.0.known c.pay-freed.new.seat.me.0.known c.pay-freed.new.seat.me.0.known c.pay-freed.result c.set_flag-found.ensures.passes c.pay-freed.ensures.paid (learns_none c.pay-freed.new.seat.me.0.known)

pub hold_sent-requires-clause-told : goal.hold_sent-requires-clause-told
hold_sent-requires-clause-told c =
    let inside : c.first_of.result < length c.args.held.now.items = subst (λ (xs : List Held). c.first_of.result < length xs) c.as_slice.ensures.value c.first_of.ensures.inside in
    let none : NoneBefore c.args.held.now.items (length c.args.held.now.items) c.first_of.result = subst (λ (xs : List Held). NoneBefore xs (length xs) c.first_of.result) c.as_slice.ensures.value c.first_of.ensures.first in
    paid_told c.args.held.now.items c.args.words.now.key.entries c.args.place.now.me.0.known c.requires.settled c.first_of.result c.swap_remove-first.result inside c.swap_remove-first.ensures.value none c.args.cells c.set_flag-found.result c.set_flag-found.new.seat.me.0.known c.pay-freed.new.seat.me.0.known c.pay-freed.new.seat.me.0.known c.pay-freed.result c.set_flag-found.ensures.passes c.pay-freed.ensures.paid (learns_none c.pay-freed.new.seat.me.0.known)

pub hold_sent-requires-clause-ready : goal.hold_sent-requires-clause-ready
hold_sent-requires-clause-ready c =
    let inside : c.first_of.result < length c.args.held.now.items = subst (λ (xs : List Held). c.first_of.result < length xs) c.as_slice.ensures.value c.first_of.ensures.inside in
    let none : NoneBefore c.args.held.now.items (length c.args.held.now.items) c.first_of.result = subst (λ (xs : List Held). NoneBefore xs (length xs) c.first_of.result) c.as_slice.ensures.value c.first_of.ensures.first in
    let ready = paid_ready c.args.held.now.items c.args.words.now.key.entries c.args.place.now.me.0.known c.requires.settled c.first_of.result c.swap_remove-first.result inside c.swap_remove-first.ensures.value none c.args.cells c.set_flag-found.result c.set_flag-found.new.seat.me.0.known c.pay-freed.new.seat.me.0.known c.pay-freed.new.seat.me.0.known c.pay-freed.result c.set_flag-found.ensures.passes c.pay-freed.ensures.paid (learns_none c.pay-freed.new.seat.me.0.known) c.swap_remove-first.new.self.items c.swap_remove-first.ensures.items in
    subst (λ (y : ℕ). Ready c.swap_remove-first.new.self.items (sent c.swap_remove-first.result.entry (state_at c.set_flag-found.result) (state_at (c.set_flag-found.result + y)) (info_at c.swap_remove-first.result.info)) c.pay-freed.new.seat.me.0.known) (sym c.weight_of-weight.ensures) ready

pub returns-clause-settled : goal.returns-clause-settled
returns-clause-settled c =
    let inside : c.first_of.result < length c.args.held.now.items = subst (λ (xs : List Held). c.first_of.result < length xs) c.as_slice.ensures.value c.first_of.ensures.inside in
    let none : NoneBefore c.args.held.now.items (length c.args.held.now.items) c.first_of.result = subst (λ (xs : List Held). NoneBefore xs (length xs) c.first_of.result) c.as_slice.ensures.value c.first_of.ensures.first in
    all_settled c.args.held.now.items c.args.words.now.key.entries c.args.place.now.me.0.known c.requires.settled c.first_of.result c.swap_remove-first.result inside c.swap_remove-first.ensures.value none c.args.cells c.set_flag-found.result c.set_flag-found.new.seat.me.0.known c.pay-freed.new.seat.me.0.known c.hold_sent.new.place.me.0.known c.pay-freed.result c.set_flag-found.ensures.passes c.pay-freed.ensures.paid c.hold_sent.ensures.learns c.hold_sent.new.held.items c.hold_sent.ensures.ready

pub returns-clause-delivered : goal.returns-clause-delivered
returns-clause-delivered c =
    let inside : c.first_of.result < length c.args.held.now.items = subst (λ (xs : List Held). c.first_of.result < length xs) c.as_slice.ensures.value c.first_of.ensures.inside in
    let none : NoneBefore c.args.held.now.items (length c.args.held.now.items) c.first_of.result = subst (λ (xs : List Held). NoneBefore xs (length xs) c.first_of.result) c.as_slice.ensures.value c.first_of.ensures.first in
    delivered_is c.args.held.now.items c.args.words.now.key.entries c.args.place.now.me.0.known c.requires.settled c.first_of.result c.swap_remove-first.result inside c.swap_remove-first.ensures.value none c.args.cells c.set_flag-found.result c.set_flag-found.new.seat.me.0.known c.pay-freed.new.seat.me.0.known c.hold_sent.new.place.me.0.known c.pay-freed.result c.set_flag-found.ensures.passes c.pay-freed.ensures.paid c.hold_sent.ensures.learns

pub returns-clause-last : goal.returns-clause-last
returns-clause-last c =
    let inside : c.first_of.result < length c.args.held.now.items = subst (λ (xs : List Held). c.first_of.result < length xs) c.as_slice.ensures.value c.first_of.ensures.inside in
    let none : NoneBefore c.args.held.now.items (length c.args.held.now.items) c.first_of.result = subst (λ (xs : List Held). NoneBefore xs (length xs) c.first_of.result) c.as_slice.ensures.value c.first_of.ensures.first in
    ap (λ (y : ℕ). record { entry = c.swap_remove-first.result.entry; state = c.set_flag-found.result + y; info = c.swap_remove-first.result.info }) c.weight_of-weight.ensures
    ∙ last_is c.args.held.now.items c.args.words.now.key.entries c.args.place.now.me.0.known c.requires.settled c.first_of.result c.swap_remove-first.result inside c.swap_remove-first.ensures.value none c.args.cells c.set_flag-found.result c.set_flag-found.new.seat.me.0.known c.pay-freed.new.seat.me.0.known c.hold_sent.new.place.me.0.known c.pay-freed.result c.set_flag-found.ensures.passes c.pay-freed.ensures.paid c.hold_sent.ensures.learns

pub returns-clause-work : goal.returns-clause-work
returns-clause-work c =
    let inside : c.first_of.result < length c.args.held.now.items = subst (λ (xs : List Held). c.first_of.result < length xs) c.as_slice.ensures.value c.first_of.ensures.inside in
    let none : NoneBefore c.args.held.now.items (length c.args.held.now.items) c.first_of.result = subst (λ (xs : List Held). NoneBefore xs (length xs) c.first_of.result) c.as_slice.ensures.value c.first_of.ensures.first in
    all_work c.args.held.now.items c.args.words.now.key.entries c.args.place.now.me.0.known c.requires.settled c.first_of.result c.swap_remove-first.result inside c.swap_remove-first.ensures.value none c.args.cells c.set_flag-found.result c.set_flag-found.new.seat.me.0.known c.pay-freed.new.seat.me.0.known c.hold_sent.new.place.me.0.known c.pay-freed.result c.set_flag-found.ensures.passes c.pay-freed.ensures.paid c.hold_sent.ensures.learns c.set_flag-found.ensures.passes.work
