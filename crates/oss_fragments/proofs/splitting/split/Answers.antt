use Rattle.std.proofs.Common.{sym, ◌∙◌, arith}
use Rattle.oss_fragments.proofs.StretchLemmas.{begun_divides, fragment_read, inside_within}
use Rattle.oss_fragments.proofs.DivideLemmas.{finer_both, finer_divide, ok_divides}
use Rattle.oss_fragments.proofs.RoomLemmas.{thinned_begin, thinned_finer}
use Rattle.oss_fragments.proofs.splitting.split.Goals as goal

pub thin_at-requires-clause-within : goal.thin_at-requires-clause-within
thin_at-requires-clause-within c = inside_within c.args.map.now.pieces c.args.fragments.now.items c.in-Some.at c.args.cell c.requires (sym c.get.ensures ∙ c.in-Some.is)

pub thin_at-requires-clause-right : goal.thin_at-requires-clause-right
thin_at-requires-clause-right c = λ a is. c.requires.right c.in-Some.at a is

pub returns-in_err-thin_at-in-Some-clause-finer : goal.returns-in_err-thin_at-in-Some-clause-finer
returns-in_err-thin_at-in-Some-clause-finer c = thinned_finer c.args.map.now.pieces c.args.fragments.now.items c.thin_at.new.fragments.items c.in-Some.at c.requires c.thin_at.ensures

pub divide-requires-clause-are : goal.divide-requires-clause-are
divide-requires-clause-are c = (thinned_finer c.args.map.now.pieces c.args.fragments.now.items c.thin_at.new.fragments.items c.in-Some.at c.requires c.thin_at.ensures).are c.requires

pub divide-requires-clause-begins : goal.divide-requires-clause-begins
divide-requires-clause-begins c = λ a is.
    let old = fragment_read c.args.fragments.now.items c.in-Some.at c.index.result.now (inside_within c.args.map.now.pieces c.args.fragments.now.items c.in-Some.at c.args.cell c.requires (sym c.get.ensures ∙ c.in-Some.is)) c.index.ensures in
    omega (arith, thinned_begin c.args.fragments.now.items c.thin_at.new.fragments.items c.in-Some.at c.thin_at.ensures c.index.result.now a old is, c.if-index-cell.true)

pub returns-in_ok-thin_at-in-Some-clause-finer : goal.returns-in_ok-thin_at-in-Some-clause-finer
returns-in_ok-thin_at-in-Some-clause-finer c =
    finer_both c.args.map.now.pieces c.args.fragments.now.items c.args.map.now.pieces c.thin_at.new.fragments.items c.divide.new.map.pieces c.divide.new.fragments.items
    (thinned_finer c.args.map.now.pieces c.args.fragments.now.items c.thin_at.new.fragments.items c.in-Some.at c.requires c.thin_at.ensures)
    (finer_divide c.divide.result c.args.map.now.pieces c.thin_at.new.fragments.items c.divide.new.map.pieces c.divide.new.fragments.items c.in-Some.at c.args.cell c.divide.ensures.ok c.divide.ensures.map c.divide.ensures.fragments)

pub returns-in_ok-thin_at-in-Some-clause-divided : goal.returns-in_ok-thin_at-in-Some-clause-divided
returns-in_ok-thin_at-in-Some-clause-divided c =
    ok_divides c.divide.result c.args.map.now.pieces c.thin_at.new.fragments.items c.divide.new.map.pieces c.divide.new.fragments.items c.in-Some.at c.args.cell
    ((thinned_finer c.args.map.now.pieces c.args.fragments.now.items c.thin_at.new.fragments.items c.in-Some.at c.requires c.thin_at.ensures).are c.requires) c.divide.ensures.ok

pub returns-else-index-cell-clause-divided : goal.returns-else-index-cell-clause-divided
returns-else-index-cell-clause-divided c =
    begun_divides c.args.map.now.pieces c.args.fragments.now.items c.in-Some.at c.args.cell c.index.result.now c.requires (sym c.get.ensures ∙ c.in-Some.is)
    (fragment_read c.args.fragments.now.items c.in-Some.at c.index.result.now (inside_within c.args.map.now.pieces c.args.fragments.now.items c.in-Some.at c.args.cell c.requires (sym c.get.ensures ∙ c.in-Some.is)) c.index.ensures) c.if-index-cell.false
