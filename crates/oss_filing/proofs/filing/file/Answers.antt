use Rattle.std.proofs.Common.{◌≡◌, subst, rules, ℕ}
use Rattle.oss_word_net.specs.Ended.{Ended}
use Rattle.oss_filing.proofs.FiledLemmas.{is_filed}
use Rattle.oss_filing.proofs.filing.file.Goals as goal

pub returns-in_ok-end-in-Some : goal.returns-in_ok-end-in-Some
returns-in_ok-end-in-Some c =
    let l = c.link_all.ensures in
    let g = c.give_all.ensures in
    let n : c.give_all.new.net.size ≡ c.args.entries = search rules in
    is_filed c.args.entries c.args.rows.now c.in_ok-end-in-Some.field-0.items c.give_all.new.net.known (subst (λ (m : ℕ). Ended m c.in_ok-end-in-Some.field-0.items c.give_all.new.net.known) n c.in_ok-end-in-Some.ensures) g.linked g.given
