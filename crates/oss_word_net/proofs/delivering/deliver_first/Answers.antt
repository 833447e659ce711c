use Rattle.std.proofs.Common.{sym, subst, ◌∙◌, ℕ, ◌<◌, ◌≤◌, ◌+◌, arith, List, length}
use Rattle.std.specs.Prelude.{slice_index_or}
use Rattle.oss_words.specs.Causes.{posted}
use Rattle.oss_words.specs.Members.{Has}
use Rattle.oss_words.specs.Bits.{state_at, info_at, weight}
use Rattle.oss_words.specs.Views.{Among}
use Rattle.oss_words.specs.declared.entry.EntryInfo.{EntryInfo}
use Rattle.oss_words.specs.declared.message.Message.{Message}
use Rattle.oss_word_net.specs.declared.held.Held.{Held}
use Rattle.oss_word_net.specs.Asks.{Later}
use Rattle.oss_word_net.specs.Moves.{passed, without}
use Rattle.oss_word_net.specs.Standing.{NoneBefore, Ready, message_of}
use Rattle.oss_word_net.proofs.CallLemmas.{posted_sent}
use Rattle.oss_word_net.proofs.RoomLemmas.{flags_small, first_held, first_names, first_told, all_later, left_ready, delivered_is}
use Rattle.oss_word_net.proofs.delivering.deliver_first.Goals as goal

pub first_of-requires-clause-flags : goal.first_of-requires-clause-flags
first_of-requires-clause-flags c = subst (λ (xs : List Held). (k : ℕ) (d : Held) → k < length xs → (slice_index_or xs k d).flag ≤ 5) (sym c.as_slice.ensures.value) (flags_small c.args.held.now.items c.args.place.now.me.0.known c.requires.ready c.requires.idle.bounded)

pub set_flag-found-requires-clause-held : goal.set_flag-found-requires-clause-held
set_flag-found-requires-clause-held c =
    let inside : c.first_of.result < length c.args.held.now.items = subst (λ (xs : List Held). c.first_of.result < length xs) c.as_slice.ensures.value c.first_of.ensures.inside in
    let none : NoneBefore c.args.held.now.items (length c.args.held.now.items) c.first_of.result = subst (λ (xs : List Held). NoneBefore xs (length xs) c.first_of.result) c.as_slice.ensures.value c.first_of.ensures.first in
    let n = first_names c.args.held.now.items c.args.place.now.me.0.known c.requires.ready c.requires.idle.bounded c.first_of.result c.swap_remove-first.result inside c.swap_remove-first.ensures.value none in (first_held c.args.held.now.items c.args.place.now.me.0.known c.requires.ready c.requires.idle.bounded c.first_of.result c.swap_remove-first.result inside c.swap_remove-first.ensures.value none, n.1, n.2)

pub set_flag-found-requires-clause-told : goal.set_flag-found-requires-clause-told
set_flag-found-requires-clause-told c =
    let inside : c.first_of.result < length c.args.held.now.items = subst (λ (xs : List Held). c.first_of.result < length xs) c.as_slice.ensures.value c.first_of.ensures.inside in
    let none : NoneBefore c.args.held.now.items (length c.args.held.now.items) c.first_of.result = subst (λ (xs : List Held). NoneBefore xs (length xs) c.first_of.result) c.as_slice.ensures.value c.first_of.ensures.first in
    subst (λ (i : EntryInfo). Among (record { entry = c.swap_remove-first.result.entry; info = i }) c.args.place.now.me.0.known.told) (sym c.info_of-info.ensures) (first_told c.args.held.now.items c.args.place.now.me.0.known c.requires.ready c.requires.idle.bounded c.first_of.result c.swap_remove-first.result inside c.swap_remove-first.ensures.value none)

pub set_flag-found-requires-clause-last : goal.set_flag-found-requires-clause-last
set_flag-found-requires-clause-last c =
    let inside : c.first_of.result < length c.args.held.now.items = subst (λ (xs : List Held). c.first_of.result < length xs) c.as_slice.ensures.value c.first_of.ensures.inside in
    let none : NoneBefore c.args.held.now.items (length c.args.held.now.items) c.first_of.result = subst (λ (xs : List Held). NoneBefore xs (length xs) c.first_of.result) c.as_slice.ensures.value c.first_of.ensures.first in
    subst (λ (i : EntryInfo). (b : Message) → Has b (without (message_of c.swap_remove-first.result) c.args.place.now.me.0.known.view.held) → Later c.args.place.now.me.0.known (message_of c.swap_remove-first.result) i b) (sym c.info_of-info.ensures) (all_later c.args.held.now.items c.args.place.now.me.0.known c.requires.ready c.requires.idle.bounded c.first_of.result c.swap_remove-first.result inside c.swap_remove-first.ensures.value none)

pub set_flag-found-requires-clause-inside : goal.set_flag-found-requires-clause-inside
set_flag-found-requires-clause-inside c =
    let inside : c.first_of.result < length c.args.held.now.items = subst (λ (xs : List Held). c.first_of.result < length xs) c.as_slice.ensures.value c.first_of.ensures.inside in
    let none : NoneBefore c.args.held.now.items (length c.args.held.now.items) c.first_of.result = subst (λ (xs : List Held). NoneBefore xs (length xs) c.first_of.result) c.as_slice.ensures.value c.first_of.ensures.first in
    let n = (first_names c.args.held.now.items c.args.place.now.me.0.known c.requires.ready c.requires.idle.bounded c.first_of.result c.swap_remove-first.result inside c.swap_remove-first.ensures.value none).0 in let s = c.requires.idle.size in omega (arith, n, s)

pub returns-clause-ready : goal.returns-clause-ready
returns-clause-ready c =
    let inside : c.first_of.result < length c.args.held.now.items = subst (λ (xs : List Held). c.first_of.result < length xs) c.as_slice.ensures.value c.first_of.ensures.inside in
    let none : NoneBefore c.args.held.now.items (length c.args.held.now.items) c.first_of.result = subst (λ (xs : List Held). NoneBefore xs (length xs) c.first_of.result) c.as_slice.ensures.value c.first_of.ensures.first in
    let q = c.set_flag-found.ensures.known ∙ (λ j. passed (message_of c.swap_remove-first.result) (c.info_of-info.ensures j) (weight c.swap_remove-first.result.flag) c.set_flag-found.result c.args.place.now.me.0.known) in
    let sent = c.send.ensures ∙ (λ j. posted (state_at c.set_flag-found.result) (state_at (c.set_flag-found.result + c.weight_of.ensures j)) (info_at c.swap_remove-first.result.info)) ∙ posted_sent c.swap_remove-first.result.entry c.set_flag-found.result (weight c.swap_remove-first.result.flag) (info_at c.swap_remove-first.result.info) c.set_flag-found.ensures.sums.1 in
    subst (λ (xs : List Held). Ready xs c.send.result.items c.set_flag-found.new.seat.me.0.known) (sym c.swap_remove-first.ensures.items) (left_ready c.args.held.now.items c.args.place.now.me.0.known c.requires.ready c.requires.idle.bounded c.first_of.result c.swap_remove-first.result inside c.swap_remove-first.ensures.value none c.set_flag-found.new.seat.me.0.known c.send.result.items c.set_flag-found.result q sent)

pub returns-clause-delivered : goal.returns-clause-delivered
returns-clause-delivered c =
    let inside : c.first_of.result < length c.args.held.now.items = subst (λ (xs : List Held). c.first_of.result < length xs) c.as_slice.ensures.value c.first_of.ensures.inside in
    let none : NoneBefore c.args.held.now.items (length c.args.held.now.items) c.first_of.result = subst (λ (xs : List Held). NoneBefore xs (length xs) c.first_of.result) c.as_slice.ensures.value c.first_of.ensures.first in
    let q = c.set_flag-found.ensures.known ∙ (λ j. passed (message_of c.swap_remove-first.result) (c.info_of-info.ensures j) (weight c.swap_remove-first.result.flag) c.set_flag-found.result c.args.place.now.me.0.known) in
    delivered_is c.args.held.now.items c.args.place.now.me.0.known c.requires.ready c.requires.idle.bounded c.first_of.result c.swap_remove-first.result inside c.swap_remove-first.ensures.value none c.set_flag-found.new.seat.me.0.known c.set_flag-found.result q
