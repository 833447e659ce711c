use Rattle.std.proofs.Common.{◌++◌, List, sym, ap, ◌∙◌, arith}
use Rattle.std.proofs.lemmas.List.{append-nil}
use Rattle.oss_explanation.specs.declared.explained.Link.{Link}
use Rattle.oss_explain.proofs.SearchLemmas.{few_links}
use Rattle.oss_explain.proofs.who.chain_of.Goals as goal

pub returns : goal.returns
returns c =
    let t = c.loop-left-test.false in
    c.from_vec.ensures ∙ sym (append-nil c.loop-left.links.items)
    ∙ ap (λ (ls : List Link). c.loop-left.links.items ++ ls) (sym (few_links c.as_slice-above.result.now c.loop-left.left (omega (arith, t)))) ∙ c.loop-left.invariant.told
