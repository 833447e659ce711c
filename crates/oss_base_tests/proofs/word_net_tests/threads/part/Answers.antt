use Rattle.std.proofs.Common.{subst, sym, ◌∙◌, List, ℕ}
use Rattle.oss_word_net.specs.Rows.{Spans}
use Rattle.oss_word_net.proofs.RowLemmas.{left_to_give, is_parted}
use Rattle.oss_base_tests.proofs.word_net_tests.threads.part.Goals as goal

pub returns-clause-left : goal.returns-clause-left
returns-clause-left c =
    let may = c.requires.may in
    let span = subst (λ (xs : List ℕ). Spans xs c.args.start c.args.middle) (sym c.as_slice.ensures.value) c.in_ok-hand.ensures in
    left_to_give c.args.seat.now.known c.as_slice.result.now c.args.start c.args.middle c.args._end may.0 may.1 may.2 span c.split.new.seat.known c.in_ok-parted.ensures.known

pub returns-clause-parted : goal.returns-clause-parted
returns-clause-parted c =
    let may = c.requires.may in
    let other = c.in_ok-parted.ensures.other in
    let span = subst (λ (xs : List ℕ). Spans xs c.args.start c.args.middle) (sym c.as_slice.ensures.value) c.in_ok-hand.ensures in
    is_parted c.args.seat.now.known c.as_slice.result.now c.args.start c.args.middle c.args._end may.0 may.1 may.2 span c.args.net.now.table c.in_ok-parted.parted (other.0 ∙ c.requires.net.0) other.1
