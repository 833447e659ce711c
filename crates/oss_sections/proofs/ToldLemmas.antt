-- What is told of cells is told of the same cells, put in another way.
use Rattle.std.proofs.Common.{◌≡◌, ℕ, List, Result}
use Rattle.oss_sections.specs.Evaluated.{IsTold}
use Rattle.oss_sections.specs.declared.refused.SectionRefused.{SectionRefused}
use Rattle.oss_syntax.specs.declared.access.Range.{Range}
use Rattle.oss_syntax.specs.declared.fault.FaultKind.{FaultKind}

pub told_same : (cells others : Result (List ℕ) FaultKind) (r : Result (List Range) SectionRefused) → cells ≡ others → IsTold others r → IsTold cells r
told_same cells others r e told = rw e told
