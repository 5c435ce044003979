use Rattle.explain.proofs.suspect.Suspect.has_race.Given as goal

abbrev pub ghosts-has_race_counted : goal.ghosts-has_race_counted
ghosts-has_race_counted a = record { name = a.blank.name; parts = a.blank.parts }
