use Rattle.std.proofs.Common.{List, ap, sym, ◌∙◌}
use Rattle.oss_explain.specs.declared.begun.Noted.{Noted}
use Rattle.oss_explain.specs.Noting.{hindering}
use Rattle.oss_explain.specs.Reasons.{touch_seen}
use Rattle.oss_explain.proofs.LentLemmas.{children_split, first_word}
use Rattle.oss_explain.proofs.lending.lent_reason.Goals as goal

pub lent_to-requires-clause-word : goal.lent_to-requires-clause-word
lent_to-requires-clause-word c =
    let touch = touch_seen c.args.touch in
    let told = c.in_ok-held.ensures ∙ ap (λ (ns : List Noted). hindering c.args.cell touch ns) c.as_slice.ensures in
    first_word c.args.cell touch c.args.top.now.noted c.in-Some.first.now c.in-Some.others.now
    (children_split c.in_ok-held.held.items c.in-Some.first.now c.in-Some.others.now _ told (sym c.as_slice-2.ensures.value ∙ c.in-Some.ensures.cases.0))
