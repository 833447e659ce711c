use Rattle.std.proofs.Common.{sym, subst}
use Rattle.oss_words.specs.declared.entry.After.TheVariants.{FirstOfMain}
use Rattle.oss_words.specs.declared.entry.EntryInfo.{EntryInfo}
use Rattle.oss_word_net.specs.Calls.{MayHang, Hung}
use Rattle.oss_word_net.proofs.RowLemmas.{may_begin, begun}
use Rattle.oss_base_tests.proofs.word_net_tests.rows.link_upper.Goals as goal

pub link-requires-clause-may : goal.link-requires-clause-may
link-requires-clause-may c = subst (λ (i : EntryInfo). MayHang c.args.seat.now.known c.args.top i FirstOfMain) (sym c.upper.ensures) (may_begin c.args.seat.now.known c.args.top c.args._siblings c.args.net.now.entries c.requires.main c.requires.drawn)

pub returns-clause-row : goal.returns-clause-row
returns-clause-row c = begun c.args.seat.now.known c.args.top c.args._siblings c.args.net.now.entries c.requires.main c.requires.drawn c.link.new.seat.known
    (subst (λ (i : EntryInfo). Hung c.args.seat.now.known c.link.new.seat.known c.args.top i FirstOfMain) c.upper.ensures c.link.ensures.hung)
