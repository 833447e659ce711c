use Rattle.std.proofs.Common.{◌≡◌, ◌+◌, ◌*◌, ◌++◌, drop, length, take}
use Rattle.std.specs.Option.{option_copied}
use Rattle.oss_lower.specs.Spots.{IsBehind, spot_at}
use Rattle.oss_lower_laws.specs.StatementCode.{codes_in_order, stmt_codes}
use Rattle.oss_lower.proofs.StmtWeights.{part_weight, weight, weights}
use Rattle.oss_lower.proofs.statements.+statements.Given as goal

-- what is written and what is left are the instructions of all statements
abbrev pub invariant-statements-loop-one : goal.invariant-statements-loop-one
invariant-statements-loop-one l = record {
  behind : IsBehind l.around (length l.out);
  scope : take (length l.fn.scope) l.scope ≡ l.fn.scope;
  code : l.out ++ codes_in_order (stmt_codes l.names (drop l.one-index l.list)) (spot_at l.around l.scope (length l.out))
      ≡ l.fn.out ++ codes_in_order (stmt_codes l.names l.list) (spot_at l.around l.fn.scope (length l.fn.out));
}

-- each function has a smaller part of the statement than its caller, or stands below it
abbrev pub decreases-statement : goal.decreases-statement
decreases-statement l = 8 * weight l.one.now

abbrev pub decreases-statements : goal.decreases-statements
decreases-statements l = 8 * weights l.list.now + 1

abbrev pub decreases-block : goal.decreases-block
decreases-block l = 8 * weights l.list.now + 2

abbrev pub decreases-inside : goal.decreases-inside
decreases-inside l = 8 * weight l.one.now + 1

abbrev pub decreases-inside_part : goal.decreases-inside_part
decreases-inside_part l = 8 * part_weight (option_copied l.one) + 2

abbrev pub decreases-first_part : goal.decreases-first_part
decreases-first_part l = 8 * part_weight (option_copied l.one) + 1

abbrev pub decreases-choice : goal.decreases-choice
decreases-choice l = 8 * (weight l.side.now + part_weight (option_copied l.other)) + 3

abbrev pub decreases-turns : goal.decreases-turns
decreases-turns l = 8 * (part_weight (option_copied l.parts.last) + weight l.parts.body.now) + 3

abbrev pub decreases-for_loop : goal.decreases-for_loop
decreases-for_loop l = 8 * (part_weight (option_copied l.parts.first) + (part_weight (option_copied l.parts.last) + weight l.parts.body.now)) + 4

abbrev pub decreases-task : goal.decreases-task
decreases-task l = 8 * weight l.body.now + 2
