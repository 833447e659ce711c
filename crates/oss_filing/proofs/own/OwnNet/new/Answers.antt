use Rattle.std.proofs.Common.{◌≡◌, ap, refl, rules, ◌-◌}
use Rattle.oss_word_net.specs.Known.{Known, first_known}
use Rattle.oss_word_net.specs.Moves.{drew}
use Rattle.oss_filing.proofs.OwnLemmas.{alone_now}
use Rattle.oss_filing.proofs.own.OwnNet.new.Goals as goal

pub invariant_of-result : goal.invariant_of-result
invariant_of-result c =
    let known : c.draw.new.seat.known ≡ drew (c.args.size - 1) 1 (first_known c.args.size) = search rules in
    (search rules, search rules, alone_now c.args.size c.draw.new.seat.known c.requires.0 known, ap (λ (k : Known). k.view.held) known, c.requires.1, search rules)

pub returns-in-Some-eq1 : goal.returns-in-Some-eq1
returns-in-Some-eq1 c =
    let known : c.draw.new.seat.known ≡ drew (c.args.size - 1) 1 (first_known c.args.size) = search rules in
    (refl, record { links = ap (λ (k : Known). k.view.links) known; gives = ap (λ (k : Known). k.view.gives) known }, alone_now c.args.size c.draw.new.seat.known c.requires.0 known, ap (λ (k : Known). k.view.held) known)
