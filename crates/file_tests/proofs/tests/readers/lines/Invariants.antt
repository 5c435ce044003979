use Rattle.file_tests.proofs.tests.readers.lines.Given as goal

abbrev pub decreases-records : goal.decreases-records
decreases-records g l = l.reader.left
