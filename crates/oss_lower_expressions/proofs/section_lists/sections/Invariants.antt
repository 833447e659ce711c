use Rattle.std.proofs.Common.{◌≡◌, ◌++◌, drop}
use Rattle.oss_lower_laws.specs.SectionCode.{sections_code}
use Rattle.oss_lower_expressions.proofs.section_lists.sections.Given as goal

-- what is written and what is left are the instructions of all sections
abbrev pub invariant-loop-one : goal.invariant-loop-one
invariant-loop-one l =
    l.out ++ sections_code l.site.names.now l.site.scope.now l.declared (drop l.one-index l.sections) l.site.line
    ≡ l.fn.out ++ sections_code l.site.names.now l.site.scope.now l.declared l.sections l.site.line
