use Rattle.oss_crew.proofs.crew.run_crew.Given as goal

abbrev pub ghosts-crew_by : goal.ghosts-crew_by
ghosts-crew_by g a = record { limit = a.limit }
