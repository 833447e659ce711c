use Rattle.std.proofs.Common.{◌∙◌, ap, ◌+◌, arith}
use Rattle.oss_words.specs.declared.entry.After.TheVariants.{Sibling}
use Rattle.oss_word_net.specs.Known.{Known}
use Rattle.oss_word_net.specs.Moves.{drew}
use Rattle.oss_word_net.proofs.RowLemmas.{may_hang_first, may_hang_second, may_give_first, may_give_looked}
use Rattle.oss_base_tests.proofs.word_net_tests.words.a_write_waits_for_the_one_before_it.Goals as goal

pub link-requires-clause-may : goal.link-requires-clause-may
link-requires-clause-may g c =
    let drawn = c.in-Some.ensures.some.1 ∙ ap (λ (k : Known). drew 2 c.in-Some.first k) c.in_ok-net.ensures.seat.2 in
    let info = c.write_of.ensures in
    let task = info.2 in
    may_hang_first c.draw.new.seat.known c.in-Some.first 1 8 c.in-Some.ensures.above.0 drawn c.write_of.result info.0 info.1 (omega (arith, task))

pub link-requires-2-clause-may : goal.link-requires-2-clause-may
link-requires-2-clause-may g c =
    let drawn = c.in-Some.ensures.some.1 ∙ ap (λ (k : Known). drew 2 c.in-Some.first k) c.in_ok-net.ensures.seat.2 in
    let info = c.write_of.ensures in
    let other = c.write_of-2.ensures in
    let task = other.2 in
    may_hang_second c.draw.new.seat.known c.in-Some.first 1 8 c.in-Some.ensures.above.0 drawn c.link.new.seat.known c.write_of.result c.write_of-2.result info.0 info.1 other.0 other.1 (omega (arith, task)) (omega arith) c.link.ensures.hung

pub give-requires-clause-may : goal.give-requires-clause-may
give-requires-clause-may g c =
    let drawn = c.in-Some.ensures.some.1 ∙ ap (λ (k : Known). drew 2 c.in-Some.first k) c.in_ok-net.ensures.seat.2 in
    let first = c.in-Some.first in
    let may = may_give_first c.draw.new.seat.known first 1 8 c.in-Some.ensures.above.0 drawn c.link.new.seat.known c.link-2.new.seat.known c.settle.new.seat.known c.write_of.result c.write_of-2.result (first + 1) (Sibling first) c.link.ensures.hung c.link-2.ensures.hung c.settle.ensures.keeps c.settle.ensures.empty in
    let once = may_give_looked c.settle.new.seat.known c.flags.new.seat.known first first c.flags.result may c.flags.ensures.known in
    may_give_looked c.flags.new.seat.known c.flags-2.new.seat.known first (first + 1) c.flags-2.result once c.flags-2.ensures.known
