use Rattle.oss_deps_tests.proofs.told.+is_shallow.Given as goal

abbrev pub decreases-is_shallow : goal.decreases-is_shallow
decreases-is_shallow l = l.levels
