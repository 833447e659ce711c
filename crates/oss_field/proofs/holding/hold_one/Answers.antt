use Rattle.std.proofs.Common.{refl, sym, subst, ◌+◌, List, arith, drop, get_or}
use Rattle.std.specs.Prelude.{IsOk}
use Rattle.oss_words.proofs.CauseLemmas.{clash}
use Rattle.oss_field.specs.declared.held.Held.{Held}
use Rattle.oss_field.specs.Known.{Known}
use Rattle.oss_field.specs.Messages.{Learns, Ready, by_message, informed}
use Rattle.oss_field.proofs.MessageLemmas.{few, waits, one_more, learns_one}
use Rattle.oss_field.proofs.holding.hold_one.Goals as goal

pub read_info-info-requires-clause-inside : goal.read_info-info-requires-clause-inside
read_info-info-requires-clause-inside c =
    (c.requires.bounded.names (get_or c.args.messages.now c.args.at (record { entry = 0; flag = 0 })) (waits c.args.held.now.items c.args.messages.now c.args.at (record { entry = 0; flag = 0 }) c.args.place.now.me.0.known c.requires.inside c.requires.ready)).0

pub read_info-info-requires-clause-hangs : goal.read_info-info-requires-clause-hangs
read_info-info-requires-clause-hangs c = by_message (get_or c.args.messages.now c.args.at (record { entry = 0; flag = 0 })) (waits c.args.held.now.items c.args.messages.now c.args.at (record { entry = 0; flag = 0 }) c.args.place.now.me.0.known c.requires.inside c.requires.ready) refl

pub unreachable-requires : goal.unreachable-requires
unreachable-requires c =
    let f = few c.args.held.now.items (drop c.args.at c.args.messages.now) c.args.place.now.me.0.known c.args.words.now.key.entries c.requires.ready c.requires.bounded in
    let r = c.requires.room in
    let o = c.args.held.now.ok in
    let ok = c.push.ensures.succeeds (omega (arith, f, r, o)) in
    clash (subst IsOk c.in_default.is ok) refl

pub returns-clause-learns : goal.returns-clause-learns
returns-clause-learns c =
    subst (λ (k : Known). Learns c.args.place.now.me.0.known k) (sym c.read_info-info.ensures.informs.known)
    (learns_one c.args.cells c.args.place.now.me.0.known (get_or c.args.messages.now c.args.at (record { entry = 0; flag = 0 })).entry c.read_info-info.result c.read_info-info.ensures.informs.again)

pub returns-clause-ready : goal.returns-clause-ready
returns-clause-ready c =
    let one = one_more c.args.cells c.args.held.now.items c.args.messages.now c.args.at (record { entry = 0; flag = 0 }) c.args.place.now.me.0.known c.read_info-info.result c.requires.inside c.requires.ready in
    subst (λ (k : Known). Ready c.push.new.self.items (drop (c.args.at + 1) c.args.messages.now) k) (sym c.read_info-info.ensures.informs.known)
    (subst (λ (xs : List Held). Ready xs (drop (c.args.at + 1) c.args.messages.now) (informed c.args.cells (get_or c.args.messages.now c.args.at (record { entry = 0; flag = 0 })).entry c.read_info-info.result c.args.place.now.me.0.known)) (sym c.in-Ok.ensures.items) one)
