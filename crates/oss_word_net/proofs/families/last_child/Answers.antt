use Rattle.std.proofs.Common.{sym, ◌∙◌, ap}
use Rattle.oss_word_net.specs.Known.{Known, younger}
use Rattle.oss_word_net.proofs.FamilyLemmas.{along, watches_none}
use Rattle.oss_word_net.proofs.families.last_child.Goals as goal

pub loop-state-init : goal.loop-state-init
loop-state-init c =
    let a : Known = c.args.place.now.me.0.known in
    let r = c.read_state.ensures in
    let f = along c.args.words.now.key a a c.read_state.new.seat.me.0.known c.args._entry c.args.first c.read_state.result c.state_of-state.result (watches_none a) c.requires.child.0 c.requires.own.0 c.requires.own.1 r.known r.family r.links.0 c.state_of-state.ensures in
    record {
      on = record { table = r.stays.table ∙ c.requires.on.table; words = c.requires.on.words; bare = r.stays.bare ∙ c.requires.on.bare };
      live = (λ z. c.requires.live.0 (sym (ap (λ (k : Known). k.view.parts) r.known) ∙ z), ap (λ (k : Known). k.entries) r.known ∙ c.requires.live.1);
      stays = r.stays;
      watches = f.watches;
      child = c.requires.child;
      linked = f.linked;
      unlinked = f.unlinked;
    }

pub loop-state-preserved : goal.loop-state-preserved
loop-state-preserved c =
    let a : Known = c.args.place.now.me.0.known in
    let i = c.loop-state.invariant in
    let r = c.read_state-in-loop-state.ensures in
    let l = i.linked c.loop-state-test.true in
    let kin = younger i.child.0 l.0 in
    let f = along c.args.words.now.key a c.loop-state.place.me.0.known c.read_state-in-loop-state.new.seat.me.0.known c.args._entry c.loop-state.state.next c.read_state-in-loop-state.result c.state_of-state-in-loop-state.result i.watches kin c.requires.own.0 c.requires.own.1 r.known r.family r.links.0 c.state_of-state-in-loop-state.ensures in
    record {
      on = record { table = r.stays.table ∙ i.on.table; words = i.on.words; bare = r.stays.bare ∙ i.on.bare };
      live = (λ z. i.live.0 (sym (ap (λ (k : Known). k.view.parts) r.known) ∙ z), ap (λ (k : Known). k.entries) r.known ∙ i.live.1);
      stays = record { table = r.stays.table ∙ i.stays.table; id = r.stays.id ∙ i.stays.id; bare = r.stays.bare ∙ i.stays.bare };
      watches = f.watches;
      child = (kin, l.2);
      linked = f.linked;
      unlinked = f.unlinked;
    }
