use Rattle.compare_tests.proofs.tests.groups.partners.Given as goal

abbrev pub ghosts-partners_with : goal.ghosts-partners_with
ghosts-partners_with a = record { name = a.blank.name; parts = a.blank.parts }
