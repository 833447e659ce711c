use Rattle.std.proofs.Common.{ℕ, sym, subst, ◌∙◌, List, ◌++◌, ◌∷◌, [], Option, Some}
use Rattle.std.specs.Prelude.{reverse}
use Rattle.oss_span.specs.declared.link.Link.{Link}
use Rattle.oss_span.specs.declared.walk.Step.{Step}
use Rattle.oss_span.specs.Links.{Unfolds}
use Rattle.oss_span.specs.Shown.{IsStep}
use Rattle.oss_span.proofs.WalkLemmas.{Walked, walked_start, walked_on, walked_end, walked_told}
use Rattle.oss_span.proofs.walk.links_of.Goals as goal
use Rattle.oss_span.proofs.walk.links_of.Goals.{in-Some+in_ok-told_at+in-None, in_default}

pub nodes-init : goal.nodes-init
nodes-init c = λ P s es h.
    subst (λ (l : List Link). Walked P s c.args.nodes.now c.args.points.now c.args.best.mark.end c.args.best.cell l es) (sym c.new-links.ensures.items)
    (walked_start P s c.args.nodes.now c.args.points.now c.args.best.mark.end c.args.best.cell es h)

pub nodes-preserved : goal.nodes-preserved
nodes-preserved c = λ P s es h.
    let told : IsStep c.args.nodes.now c.args.points.now c.in-Some.at c.nodes.cell (Some c.in-Some-2.told) =
    subst (λ (x : Option Step). IsStep c.args.nodes.now c.args.points.now c.in-Some.at c.nodes.cell x) c.in-Some-2.is c.in_ok-told_at.ensures in
    let w = subst (λ (e : Option ℕ). Walked P s c.args.nodes.now c.args.points.now e c.nodes.cell c.nodes.links.items es) c.in-Some.is (c.nodes.invariant P s es h) in
    let r = walked_on P s c.args.nodes.now c.args.points.now c.in-Some.at c.nodes.cell c.nodes.links.items es c.in-Some-2.told told w in
    subst (λ (l : List Link). Walked P s c.args.nodes.now c.args.points.now c.below-end.result c.in-Some-2.told.cell l es) (sym (c.in_ok-push-in-Some-2.ensures.items))
    (subst (λ (e : Option ℕ). Walked P s c.args.nodes.now c.args.points.now e c.in-Some-2.told.cell (c.nodes.links.items ++ c.in-Some-2.told.link ∷ []) es) (sym c.below-end.ensures.value) r)

pub returns : goal.returns
returns c = λ P s es h.
    let w = c.nodes.invariant P s es h in
    let u : Unfolds P s (reverse c.nodes.links.items) (reverse es) = elim c.match-end.branch [
      | in-Some+in_ok-told_at+in-None x ↦
          let told = subst (λ (y : Option Step). IsStep c.args.nodes.now c.args.points.now x.in-Some.at c.nodes.cell y) x.in-None.is x.in_ok-told_at.ensures in
          absurd (walked_told P s c.args.nodes.now c.args.points.now x.in-Some.at c.nodes.cell c.nodes.links.items es told (subst (λ (e : Option ℕ). Walked P s c.args.nodes.now c.args.points.now e c.nodes.cell c.nodes.links.items es) x.in-Some.is w))
      | in_default x ↦ walked_end P s c.args.nodes.now c.args.points.now c.nodes.cell c.nodes.links.items es (subst (λ (e : Option ℕ). Walked P s c.args.nodes.now c.args.points.now e c.nodes.cell c.nodes.links.items es) x.in_default.is w)
    ] in
    subst (λ (l : List Link). Unfolds P s l (reverse es)) (sym (c.from_vec.ensures ∙ c.reverse.ensures.items)) u
