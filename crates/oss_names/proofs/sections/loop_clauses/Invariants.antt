use Rattle.std.proofs.Common.{◌≡◌, ◌≤◌, drop, take}
use Rattle.oss_grammar.specs.Broken.{first}
use Rattle.oss_grammar.specs.SectionRules.{loop_clauses_rules}
use Rattle.oss_names.proofs.sections.loop_clauses.Given as goal

-- the clauses so far break no rule, and have few sections
abbrev pub invariant-loop-one : goal.invariant-loop-one
invariant-loop-one l = record {
  same : first (loop_clauses_rules l.globals (take l.outer l.locals) l.locals l.count (drop l.one-index l.clauses)) ≡ first (loop_clauses_rules l.globals (take l.outer l.locals) l.locals 0 l.clauses);
  few : l.count ≤ 64;
}
