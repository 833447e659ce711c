use Rattle.std.proofs.Common.{refl, sym, subst, ◌+◌, arith, drop, get_or}
use Rattle.std.specs.Prelude.{IsOk}
use Rattle.oss_words.proofs.CauseLemmas.{clash}
use Rattle.oss_word_net.specs.Asks.{by_message}
use Rattle.oss_word_net.specs.Known.{Known}
use Rattle.oss_word_net.specs.Moves.{informed}
use Rattle.oss_word_net.specs.Standing.{Learns, Ready}
use Rattle.oss_word_net.proofs.HoldLemmas.{few, waits, one_more, learns_one}
use Rattle.oss_word_net.proofs.holding.hold_one.Goals as goal

pub read_info-info-requires-clause-inside : goal.read_info-info-requires-clause-inside
read_info-info-requires-clause-inside c =
    let h = waits c.args.held.now.items c.args.messages.now c.args.at (record { entry = 0; flag = 0 }) c.args.place.now.me.0.known c.requires.inside c.requires.ready in
    let k = (c.requires.bounded.0.names (get_or c.args.messages.now c.args.at (record { entry = 0; flag = 0 })) h).0 in
    let q = c.requires.bounded.1 in omega (arith, k, q)

pub read_info-info-requires-clause-hangs : goal.read_info-info-requires-clause-hangs
read_info-info-requires-clause-hangs c = by_message (get_or c.args.messages.now c.args.at (record { entry = 0; flag = 0 })) (waits c.args.held.now.items c.args.messages.now c.args.at (record { entry = 0; flag = 0 }) c.args.place.now.me.0.known c.requires.inside c.requires.ready) refl

pub unreachable-requires : goal.unreachable-requires
unreachable-requires c =
    let f = few c.args.held.now.items (drop c.args.at c.args.messages.now) c.args.place.now.me.0.known c.requires.ready c.requires.bounded.0 in
    let r = c.requires.room in
    let o = c.args.held.now.ok in
    let ok = c.push.ensures.succeeds (omega (arith, f, r, o)) in
    clash (subst IsOk c.in_default.is ok) refl

pub returns-clause-learns : goal.returns-clause-learns
returns-clause-learns c = subst (λ (k : Known). Learns c.args.place.now.me.0.known k) (sym c.read_info-info.ensures.known) (learns_one c.args.place.now.me.0.known (get_or c.args.messages.now c.args.at (record { entry = 0; flag = 0 })).entry c.read_info-info.result)

pub returns-clause-ready : goal.returns-clause-ready
returns-clause-ready c =
    let one = one_more c.args.held.now.items c.args.messages.now c.args.at (record { entry = 0; flag = 0 }) c.args.place.now.me.0.known c.read_info-info.result c.requires.inside c.requires.ready in
    subst (λ (k : Known). Ready c.push.new.self.items (drop (c.args.at + 1) c.args.messages.now) k) (sym c.read_info-info.ensures.known) (subst (λ xs. Ready xs (drop (c.args.at + 1) c.args.messages.now) (informed (get_or c.args.messages.now c.args.at (record { entry = 0; flag = 0 })).entry c.read_info-info.result c.args.place.now.me.0.known)) (sym c.in-Ok.ensures.items) one)
