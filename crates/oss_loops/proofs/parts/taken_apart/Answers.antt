use Rattle.std.proofs.Common.{◌∙◌, ap}
use Rattle.oss_syntax.specs.declared.tree.expr.Expr.{Expr}
use Rattle.oss_grammar.specs.TaskLoops.{first_of}
use Rattle.oss_loops.specs.LoopParts.{or_number}
use Rattle.oss_loops.specs.declared.parts.Bounds.{Bounds}
use Rattle.oss_loops.proofs.PartLemmas.{first-told, grain-told}
use Rattle.oss_loops.proofs.parts.taken_apart.Goals as goal

pub returns-in-Ok-clause-bounds : goal.returns-in-Ok-clause-bounds
returns-in-Ok-clause-bounds c =
    let head = c.args.head in
    let bounds : Expr → Expr → Bounds = λ first grain. record { first = first; end = head.end; grain = grain } in
    let grain = ap (or_number c.args.line 1) c.in-Ok.ensures.grain ∙ grain-told c.args.line head.mark.clauses in
    c.joined_parts.ensures.bounds
    ∙ ap (λ first. bounds first (or_number c.args.line 1 c.in-Ok.sorted.grain)) (first-told c.args.line head.variable.first)
    ∙ ap (bounds (first_of c.args.line head.variable.first)) grain
