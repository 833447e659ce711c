use Rattle.std.proofs.Common.{◌≡◌, ◌+◌, ◌≤◌, drop}
use Rattle.oss_grammar.specs.Broken.{first}
use Rattle.oss_grammar.specs.SectionRules.{sections_rules}
use Rattle.oss_names.proofs.sections.sections.Given as goal

-- the sections so far break no rule, and are few
abbrev pub invariant-loop-one : goal.invariant-loop-one
invariant-loop-one l = record {
  same : first (sections_rules l.globals l.locals l.fold l.count (drop l.one-index l.sections)) ≡ first (sections_rules l.globals l.locals l.fold l.before l.sections);
  counted : l.count ≡ l.before + l.one-index;
  few : l.count ≤ 64;
}
