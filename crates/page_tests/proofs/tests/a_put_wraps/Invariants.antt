use Rattle.page_tests.proofs.tests.a_put_wraps.Given as goal

abbrev pub ghosts-around : goal.ghosts-around
ghosts-around g a = record { name = a.blank.name; parts = a.blank.parts }
