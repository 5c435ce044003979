use Rattle.compare_tests.proofs.tests.pairs.compared.Given as goal

abbrev pub ghosts-compared_with : goal.ghosts-compared_with
ghosts-compared_with a = record { name = a.blank.name; parts = a.blank.parts }
