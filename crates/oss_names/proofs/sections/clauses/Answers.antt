use Rattle.std.proofs.Common.{◌∙◌, ap, take}
use Rattle.oss_grammar.proofs.ClauseScopes.{same_scope}
use Rattle.oss_grammar.specs.Broken.{first}
use Rattle.oss_grammar.specs.SectionRules.{loop_clauses_rules}
use Rattle.oss_names.proofs.EndLemmas.{prefix-same}
use Rattle.oss_names.proofs.sections.clauses.Goals as goal

pub returns : goal.returns
returns c =
    let all = c.args.globals.now in
    let ls = c.args.locals.now in
    let cs = c.args.clauses.now in
    c.loop_clauses.ensures ∙ ap (λ n. first (loop_clauses_rules all (take n ls) ls 0 cs)) c.len.ensures
    ∙ ap (λ outer. first (loop_clauses_rules all outer ls 0 cs)) (prefix-same ls) ∙ ap first (same_scope all ls 0 cs)
