use Rattle.std.proofs.Common.{rules, ◌≡◌, ◌∙◌, ◌+◌, ◌-◌, ap, length}
use Rattle.std.specs.Vec.{vec_len}
use Rattle.oss_lower_expressions.proofs.ListingLemmas.{refilled}
use Rattle.oss_lower_expressions.proofs.listing.Listing.fill.Goals as goal

pub returns-clause-filled : goal.returns-clause-filled
returns-clause-filled c = λ before after l is at_is.
    let size : vec_len c.self.inside.code ≡ length c.self.inside.code.items = search rules in
    refilled c.self.inside.code.items before after l c.index_mut.result.now c.args.at c.in_ok-passed.passed c.args.more c.args.jump c.jump_by.result (c.self.view_is ∙ is) at_is
    c.index_mut.ensures.value c.jump_by.ensures (c.in_ok-passed.ensures.sum ∙ ap (λ n. n + c.args.more) (c.in_ok-narrow.ensures.same ∙ ap (λ n. n - (c.args.at + 1)) (c.len.ensures ∙ size)))
