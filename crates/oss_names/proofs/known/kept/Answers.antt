use Rattle.std.proofs.Common.{◌∙◌, ap, sym}
use Rattle.oss_grammar.specs.Layout.{sizes_of}
use Rattle.oss_names.specs.Resolved.{bounds_of}
use Rattle.oss_loops.proofs.KeptLemmas.{sizes-kept}
use Rattle.oss_names.proofs.known.kept.Goals as goal

pub invariant_of-result : goal.invariant_of-result
invariant_of-result c = (
  record { source = c.args.program; obeys = c.requires.obeys; is_of = c.in-Ok.ensures },
  c.requires.lie ∙ ap (bounds_of 0) (sym (ap (λ p. sizes_of p.items) c.in-Ok.ensures ∙ sizes-kept c.args.program.items)),
)
