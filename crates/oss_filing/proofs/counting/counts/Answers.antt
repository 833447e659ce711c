use Rattle.std.proofs.Common.{◌∙◌, arith}
use Rattle.oss_filing.proofs.CountLemmas.{summed_on}
use Rattle.oss_filing.proofs.counting.counts.Goals as goal

pub returns : goal.returns
returns c = record {
  size = c.add_all.ensures.size ∙ (c.fill.ensures.size ∙ c.in_ok-counts.ensures.0);
  main = c.add_all.ensures.others 0 (λ has. let t = (c.requires.tasks has.entry has.row has.is).0 in let z = has.task in absurd (omega (arith, t, z))) ∙ c.fill.ensures.main;
  of_task = λ t l has. c.add_all.ensures.added t has ∙ summed_on c.args.rows.now c.args.words.now t c.args.entries c.requires.room.0;
  unfilled = λ t ne l none. c.add_all.ensures.others t none ∙ (c.fill.ensures.others t ne none ∙ c.in_ok-counts.ensures.1 t l);
}
