use Rattle.std.proofs.Common.{sym, ◌∙◌}
use Rattle.oss_fragments.proofs.StretchLemmas.{fragment_read, inside_within}
use Rattle.oss_fragments.proofs.CutLemmas.{cut_begins}
use Rattle.oss_fragments.proofs.cutting.is_cut_at.Goals as goal

pub returns-in-Some : goal.returns-in-Some
returns-in-Some c = λ e.
    cut_begins c.args.fragments.now c.args.ended c.in-Some.at c.index-fragments-at.result c.args.cell
    (fragment_read c.args.fragments.now c.in-Some.at c.index-fragments-at.result (inside_within c.args.map.now.pieces c.args.fragments.now c.in-Some.at c.args.cell c.requires (sym c.get.ensures ∙ c.in-Some.is)) c.index-fragments-at.is)
    (c.begins_cut.ensures e)
