use Rattle.run_tests.proofs.tests.staying.telling.count_phases.Given as goal

abbrev pub ghosts-told : goal.ghosts-told
ghosts-told g a = record { phases = a.phases }
