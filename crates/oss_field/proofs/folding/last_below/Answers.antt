use Rattle.std.proofs.Common.{◌∙◌}
use Rattle.oss_field.specs.Known.{Known}
use Rattle.oss_field.proofs.FoldedLemmas.{along, notes_held, notes_none}
use Rattle.oss_field.proofs.folding.last_below.Goals as goal

pub loop-state-init : goal.loop-state-init
loop-state-init c =
    let a : Known = c.args.place.now.me.0.known in
    let r = c.read_child.ensures in
    let f = along c.args.words.now.key.entries c.args.cells c.args.entry c.args.first c.read_child.result c.state_of-state.result a a c.read_child.new.seat.me.0.known (notes_none a) r.reads c.state_of-state.ensures in
    record {
      on = record { table = r.stays.table ∙ c.requires.on.table; words = c.requires.on.words; slots = c.requires.on.slots; live = r.stays.live };
      stays = r.stays;
      held = notes_held a c.read_child.new.seat.me.0.known c.args.entry f.notes c.requires.held;
      along = f;
      inside = c.requires.inside;
    }

pub loop-state-preserved : goal.loop-state-preserved
loop-state-preserved c =
    let a : Known = c.args.place.now.me.0.known in
    let i = c.loop-state.invariant in
    let r = c.read_child-in-loop-state.ensures in
    let l = i.along.linked c.loop-state-test.true in
    let f = along c.args.words.now.key.entries c.args.cells c.args.entry c.loop-state.state.next c.read_child-in-loop-state.result c.state_of-state-in-loop-state.result a c.loop-state.place.me.0.known c.read_child-in-loop-state.new.seat.me.0.known i.along.notes r.reads c.state_of-state-in-loop-state.ensures in
    record {
      on = record { table = r.stays.table ∙ i.on.table; words = i.on.words; slots = i.on.slots; live = r.stays.live };
      stays = record { table = r.stays.table ∙ i.stays.table; id = r.stays.id ∙ i.stays.id; slots = r.stays.slots ∙ i.stays.slots; live = r.stays.live };
      held = notes_held a c.read_child-in-loop-state.new.seat.me.0.known c.args.entry f.notes c.requires.held;
      along = f;
      inside = l.2;
    }
