use Rattle.std.proofs.Common.{sym, subst, refl, ℕ, ◌+◌}
use Rattle.oss_words.specs.declared.entry.After.TheVariants.{Sibling}
use Rattle.oss_words.specs.declared.entry.EntryInfo.{EntryInfo}
use Rattle.oss_word_net.specs.Calls.{MayHang, Hung}
use Rattle.oss_word_net.proofs.RowLemmas.{may_follow, grown_next, spot_next}
use Rattle.oss_base_tests.proofs.word_net_tests.rows.link_next.Goals as goal

pub link-requires-clause-may : goal.link-requires-clause-may
link-requires-clause-may c =
    let t : ℕ = c.args.top in
    let n : ℕ = c.args.before in
    let row = c.requires.row in
    subst (λ (i : EntryInfo). MayHang c.args.seat.now.known (t + n + 1) i (Sibling (t + n))) (sym c.lower.ensures) (may_follow c.args.seat.now.known t n c.args._siblings (t + n + 1) (t + n) row.0 row.1 row.2 refl refl)

pub returns-clause-row : goal.returns-clause-row
returns-clause-row c =
    let t : ℕ = c.args.top in
    let n : ℕ = c.args.before in
    let row = c.requires.row in
    grown_next c.args.seat.now.known c.link.new.seat.known c.settle.new.seat.known t n c.args._siblings (t + n + 1) (Sibling (t + n)) row.0 row.2 refl
    (subst (λ (i : EntryInfo). Hung c.args.seat.now.known c.link.new.seat.known (t + n + 1) i (Sibling (t + n))) c.lower.ensures c.link.ensures.hung) (spot_next t n (t + n) row.1 refl) c.settle.ensures.keeps c.settle.ensures.empty
