use Rattle.std.proofs.Common.{rules, ◌≡◌, sym, subst, ap, ◌∙◌, true, false}
use Rattle.std.specs.Prelude.{not}
use Rattle.oss_wave_laws.specs.Parts.{stops_before}
use Rattle.oss_body.specs.declared.act.Act.{Act}
use Rattle.oss_body.specs.Acts.{act_seen}
use Rattle.oss_body.specs.Relation.{pending_of}
use Rattle.oss_segment.specs.declared.segment.Segment.{Segment}
use Rattle.oss_segment.proofs.SegmentLemmas.{Done, ended_stops, falls, more}
use Rattle.oss_segment.proofs.segment.Segment.step.Goals as goal

-- the body has ended
pub returns-then-ended-clause-part : goal.returns-then-ended-clause-part
returns-then-ended-clause-part c = λ start found first acts is.
    (is, ended_stops c.args.code.now start found c.args.memory.now c.args.quota first acts c.args.self.now is (sym c.ended.ensures.kept ∙ c.if-ended.true))

-- an act is done
pub returns-clause-part : goal.returns-clause-part
returns-clause-part c = λ start found first acts is.
    let old : Segment = c.args.self.now in
    let new : Segment = record { body = c.advance.new.self; writes = c.happen.new.writes; children = c.add_child.new.children; prints = c.add_print.new.prints; count = c.saturating_add-self.result; ticks = c.ticks_with-ticks.result } in
    let go : c.may_go.result ≡ true = search rules in
    more c.args.code.now start found c.args.memory.now c.args.quota first acts old is new
    (subst (λ (a : Act). Done c.args.code.now c.args.memory.now c.args.quota a old new) c.pending-act.ensures.kept
    (record {
      running = sym c.ended.ensures.kept ∙ c.if-ended.false;
      goes = c.may_go.ensures.goes go;
      stays = c.may_go.ensures.stops ∙ ap not go;
      ticks = c.ticks_with-ticks.ensures;
      count = c.saturating_add-self.ensures;
      loaded = c.in_ok-found.found;
      writes = c.in_ok-found.ensures.writes;
      finds = c.in_ok-found.ensures.found;
      prints = c.in_ok-add_print.ensures.prints;
      keyed = c.in_ok-add_print.ensures.keyed;
      adds = c.in_ok-add_child.ensures;
      next = c.in_ok-advance.ensures.ok;
    }))

-- and there is less left to do
pub returns-clause-less : goal.returns-clause-less
returns-clause-less c = λ start found is went.
    let old : Segment = c.args.self.now in
    let go : c.may_go.result ≡ true = search rules in
    let stays : stops_before (act_seen (pending_of old.body)) old.count old.ticks c.args.quota ≡ false =
    ap (λ (a : Act). stops_before (act_seen a) old.count old.ticks c.args.quota) (sym c.pending-act.ensures.kept) ∙ c.may_go.ensures.stops ∙ ap not go in
    falls c.args.code.now start found c.in_ok-found.found old.count old.ticks c.args.quota old.body c.advance.new.self is (sym c.ended.ensures.kept ∙ c.if-ended.false) stays c.in_ok-advance.ensures.ok
