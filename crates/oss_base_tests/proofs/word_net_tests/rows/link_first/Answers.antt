use Rattle.std.proofs.Common.{sym, subst, refl, ◌+◌, arith}
use Rattle.oss_words.specs.declared.entry.After.TheVariants.{FirstOf}
use Rattle.oss_words.specs.declared.entry.EntryInfo.{EntryInfo}
use Rattle.oss_word_net.specs.Calls.{MayHang, Hung}
use Rattle.oss_word_net.proofs.RowLemmas.{may_head, grown_next}
use Rattle.oss_base_tests.proofs.word_net_tests.rows.link_first.Goals as goal

pub link-requires-clause-may : goal.link-requires-clause-may
link-requires-clause-may c = subst (λ (i : EntryInfo). MayHang c.args.seat.now.known (c.args.top + 1) i (FirstOf c.args.top)) (sym c.lower.ensures) (may_head c.args.seat.now.known c.args.top c.args._siblings (c.args.top + 1) c.requires.row.0 c.requires.row.1 refl)

pub returns-clause-row : goal.returns-clause-row
returns-clause-row c = grown_next c.args.seat.now.known c.link.new.seat.known c.settle.new.seat.known c.args.top 0 c.args._siblings (c.args.top + 1) (FirstOf c.args.top) c.requires.row.0 c.requires.row.1 (omega arith)
    (subst (λ (i : EntryInfo). Hung c.args.seat.now.known c.link.new.seat.known (c.args.top + 1) i (FirstOf c.args.top)) c.lower.ensures c.link.ensures.hung) refl c.settle.ensures.keeps c.settle.ensures.empty
