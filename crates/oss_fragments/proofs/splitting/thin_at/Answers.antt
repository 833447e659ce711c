use Rattle.std.proofs.Common.{refl}
use Rattle.oss_fragments.proofs.StretchLemmas.{fragment_read}
use Rattle.oss_fragments.proofs.splitting.thin_at.Goals as goal

pub returns : goal.returns
returns c = record {
  one = c.index_mut.result.now;
  one_is = fragment_read c.args.fragments.now.items c.args.at c.index_mut.result.now c.requires.within c.index_mut.ensures.value;
  less = c.thin.new.self;
  edges = c.thin.ensures.edges;
  thinner = c.thin.ensures.thinner;
  all = refl;
}
