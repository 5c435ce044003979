use Rattle.compare_tests.proofs.tests.strides.trees.lines_met.Given as goal

abbrev pub ghosts-lines_with : goal.ghosts-lines_with
ghosts-lines_with a = record { name = a.blank.name; parts = a.blank.parts }
