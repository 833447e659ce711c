use Rattle.std.proofs.Common.{◌≡◌, ◌++◌, drop}
use Rattle.oss_lower_laws.specs.SectionCode.{clauses_code}
use Rattle.oss_lower.proofs.clauses.clauses.Given as goal

-- what is written and what is left are the instructions of all clauses
abbrev pub invariant-loop-one : goal.invariant-loop-one
invariant-loop-one l =
    l.out ++ clauses_code l.site.names.now l.site.scope.now (drop l.one-index l.clauses) l.site.line
    ≡ l.fn.out ++ clauses_code l.site.names.now l.site.scope.now l.clauses l.site.line
