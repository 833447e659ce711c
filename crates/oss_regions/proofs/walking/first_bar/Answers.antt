use Rattle.std.proofs.Common.{◌≡◌, ◌<◌, length, true, false, sym, ap, subst, ◌∙◌}
use Rattle.oss_access_lists.specs.declared.hang.Hang.{Hang}
use Rattle.oss_access_lists.specs.Tables.{hang_at, marks_at, wires_of}
use Rattle.oss_links.specs.Search.{IsInTheWay, passes}
use Rattle.oss_links.proofs.SearchLemmas.{search_begins}
use Rattle.oss_regions.specs.Walks.{IsWalking}
use Rattle.oss_regions.proofs.WalkLemmas.{before_within, walks_back, walks_to, walks_up}
use Rattle.oss_regions.proofs.walking.first_bar.Goals as goal

pub back-init : goal.back-init
back-init c = record {
  stopped = search_begins (wires_of c.args.line.now.hangs) (marks_at c.args.line.now.stand) c.args.mode c.args.at c.requires.main c.requires.waits;
  within = c.requires.within;
}

pub back-smaller-then-hang-eq0 : goal.back-smaller-then-hang-eq0
back-smaller-then-hang-eq0 c =
    subst (λ (h : Hang). h.above < c.back.here) (sym c.hang-hang.ensures)
    (walks_up c.args.line.now.hangs c.args.line.now.stand (c.is_settled-settled.ensures.rest c.requires.settled) c.is_settled-settled.ensures.listed c.args.mode c.args.at c.back.here c.back.invariant (sym (ap (λ (h : Hang). h.before) c.hang-hang.ensures) ∙ c.if-hang-eq0.true)).1

pub back-preserved-then-hang-eq0 : goal.back-preserved-then-hang-eq0
back-preserved-then-hang-eq0 c =
    subst (λ (h : Hang). IsWalking c.args.line.now.hangs c.args.line.now.stand c.args.mode c.args.at h.above) (sym c.hang-hang.ensures)
    (walks_up c.args.line.now.hangs c.args.line.now.stand (c.is_settled-settled.ensures.rest c.requires.settled) c.is_settled-settled.ensures.listed c.args.mode c.args.at c.back.here c.back.invariant (sym (ap (λ (h : Hang). h.before) c.hang-hang.ensures) ∙ c.if-hang-eq0.true)).0

pub passes_at-requires-clause-within : goal.passes_at-requires-clause-within
passes_at-requires-clause-within c =
    subst (λ (h : Hang). h.before < length c.args.line.now.hangs) (sym c.hang-hang.ensures)
    (before_within c.args.line.now.hangs c.args.line.now.stand (c.is_settled-settled.ensures.rest c.requires.settled) c.is_settled-settled.ensures.listed c.back.here c.back.invariant.stopped.not_main c.back.invariant.within
    (λ z. c.if-hang-eq0.false (ap (λ (h : Hang). h.before) c.hang-hang.ensures ∙ z)))

pub returns-then-not-passes_at-clause-within : goal.returns-then-not-passes_at-clause-within
returns-then-not-passes_at-clause-within c =
    subst (λ (h : Hang). h.before < length c.args.line.now.hangs) (sym c.hang-hang.ensures)
    (before_within c.args.line.now.hangs c.args.line.now.stand (c.is_settled-settled.ensures.rest c.requires.settled) c.is_settled-settled.ensures.listed c.back.here c.back.invariant.stopped.not_main c.back.invariant.within
    (λ z. c.if-hang-eq0.false (ap (λ (h : Hang). h.before) c.hang-hang.ensures ∙ z)))

pub returns-then-not-passes_at-clause-bar : goal.returns-then-not-passes_at-clause-bar
returns-then-not-passes_at-clause-bar c =
    subst (λ (h : Hang). IsInTheWay (wires_of c.args.line.now.hangs) (marks_at c.args.line.now.stand) c.args.mode c.args.at h.before) (sym c.hang-hang.ensures)
    (walks_to c.args.line.now.hangs c.args.line.now.stand (c.is_settled-settled.ensures.rest c.requires.settled) c.is_settled-settled.ensures.listed c.args.mode c.args.at c.back.here c.back.invariant
    (λ z. c.if-hang-eq0.false (ap (λ (h : Hang). h.before) c.hang-hang.ensures ∙ z))
    (subst (λ (h : Hang). passes c.args.mode (hang_at c.args.line.now.hangs h.before).mode (marks_at c.args.line.now.stand h.before) ≡ false) c.hang-hang.ensures (sym c.passes_at.ensures ∙ c.if-not-passes_at.true)))

pub back-smaller : goal.back-smaller
back-smaller c =
    subst (λ (h : Hang). h.before < c.back.here) (sym c.hang-hang.ensures)
    (walks_back c.args.line.now.hangs c.args.line.now.stand (c.is_settled-settled.ensures.rest c.requires.settled) c.is_settled-settled.ensures.listed c.args.mode c.args.at c.back.here c.back.invariant
    (λ z. c.if-hang-eq0.false (ap (λ (h : Hang). h.before) c.hang-hang.ensures ∙ z))
    (subst (λ (h : Hang). passes c.args.mode (hang_at c.args.line.now.hangs h.before).mode (marks_at c.args.line.now.stand h.before) ≡ true) c.hang-hang.ensures (sym c.passes_at.ensures ∙ c.if-not-passes_at.false))).1

pub back-preserved : goal.back-preserved
back-preserved c =
    subst (λ (h : Hang). IsWalking c.args.line.now.hangs c.args.line.now.stand c.args.mode c.args.at h.before) (sym c.hang-hang.ensures)
    (walks_back c.args.line.now.hangs c.args.line.now.stand (c.is_settled-settled.ensures.rest c.requires.settled) c.is_settled-settled.ensures.listed c.args.mode c.args.at c.back.here c.back.invariant
    (λ z. c.if-hang-eq0.false (ap (λ (h : Hang). h.before) c.hang-hang.ensures ∙ z))
    (subst (λ (h : Hang). passes c.args.mode (hang_at c.args.line.now.hangs h.before).mode (marks_at c.args.line.now.stand h.before) ≡ true) c.hang-hang.ensures (sym c.passes_at.ensures ∙ c.if-not-passes_at.false))).0
