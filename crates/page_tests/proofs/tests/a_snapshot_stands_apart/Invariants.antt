use Rattle.page_tests.proofs.tests.a_snapshot_stands_apart.Given as goal

abbrev pub ghosts-beside : goal.ghosts-beside
ghosts-beside g a = record { name = a.blank.name; parts = a.blank.parts }
