use Rattle.std.proofs.Common.{◌≡◌, ◌≤◌, ◌∙◌, ap, length, subst, sym}
use Rattle.oss_grammar.specs.Layout.{cells_in}
use Rattle.oss_model.specs.Agreement.{AreWords}
use Rattle.oss_lower_laws.proofs.OutcomeLaws.{cells_are}
use Rattle.oss_task_graph.specs.Graphs.{IsGraphOf}
use Rattle.oss_top.proofs.FormLemmas.{if_ok}
use Rattle.oss_top.proofs.GraphLemmas.{drawn_by_code}
use Rattle.oss_top.proofs.graph.graph_of.Goals as goal

-- a code has as many cells as its program
pub graph-requires-clause-layout : goal.graph-requires-clause-layout
graph-requires-clause-layout c =
    let stands = c.codes_stand_at_places.ensures c.args.known.now.items c.args.code.now c.requires.lowered in
    subst (λ p. cells_in p.items ≤ 1048576) (sym c.program.ensures.same)
    (subst (λ n. n ≤ 1048576) (ap length stands.of.first ∙ cells_are c.args.known.now.items) c.requires.few)

pub returns : goal.returns
returns c =
    if_ok c.graph.result
    (λ g is.
    drawn_by_code c.graphs_alike.ensures c.args.known.now c.args.code.now (c.codes_stand_at_places.ensures c.args.known.now.items c.args.code.now c.requires.lowered)
    (subst AreWords (c.as_slice.ensures ∙ c.first.ensures) c.are_words.ensures) c.args.fuel g
    (subst (λ p. IsGraphOf c.args.code.now c.args.fuel p.items g) c.program.ensures.same is))
    c.graph.ensures
