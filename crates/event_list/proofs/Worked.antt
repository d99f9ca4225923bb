-- The definitions, on small files.
use Rattle.std.proofs.Common.{◌≡◌, ℕ, List, [], ◌∷◌, ◌++◌, length, map, replicate, Ok, Err, refl}
use Rattle.std.specs.Prelude.{codes}
use Rattle.speculation.specs.declared.Event.{Event}
use Rattle.speculation.specs.declared.Event.TheVariants.{Master, Slave, Commit, Serial, Restart}
use Rattle.event_list.specs.declared.error.EventErr.{EventErr}
use Rattle.event_list.specs.declared.error.EventErr.TheVariants.{Line, TooMany}
use Rattle.event_list.specs.Reading.{list_in, written_out}

-- a file whose lines all end with a line feed
abbrev file : List (List ℕ) → List ℕ
file [] = []
file (line ∷ more) = line ++ 10 ∷ file more

-- files, and what each holds
abbrev accepted_files : List (List ℕ × List (ℕ × Event))
accepted_files =
    ([], [])
    ∷ (10 ∷ [], [])
    ∷ (codes "#", [])
    ∷ (file (codes "# 1 master" ∷ [] ∷ codes "2 serial" ∷ []), (2, Serial) ∷ [])
    ∷ (35 ∷ 255 ∷ 13 ∷ [], [])
    ∷ (file (codes "1 commit" ∷ codes "1 slave 0" ∷ codes "1 master" ∷ []), (1, Commit) ∷ (1, Slave 0) ∷ (1, Master) ∷ [])
    ∷ (file (codes "1 commit" ∷ codes "1 slave 0" ∷ []) ++ codes "1 master", (1, Commit) ∷ (1, Slave 0) ∷ (1, Master) ∷ [])
    ∷ (file (codes "10 slave 63" ∷ codes "7 restart" ∷ []), (10, Slave 63) ∷ (7, Restart) ∷ [])
    ∷ (codes "100000000 master", (100_000_000, Master) ∷ [])
    ∷ (file (codes "99999999 master" ∷ codes "1 commit" ∷ []), (99_999_999, Master) ∷ (1, Commit) ∷ [])
    ∷ []

pub accepts : map (λ (x : List ℕ × List (ℕ × Event)). list_in x.0) accepted_files ≡ map (λ (x : List ℕ × List (ℕ × Event)). Ok x.1) accepted_files
unfolding Rattle.event_list.specs.Lines.lines Rattle.event_list.specs.Reading.first_refusal
accepts = refl

-- lines that have none of the forms
abbrev unknown_lines : List (List ℕ)
unknown_lines =
    codes "0 master" ∷ codes "01 master" ∷ codes "1 slave 00" ∷ codes "1 slave 05" ∷ codes "1 slave 64" ∷ codes "1 slave 100"
    ∷ codes "100000001 master" ∷ codes "4294967297 master" ∷ codes "18446744073709551617 master" ∷ codes "1 slave 4294967296"
    ∷ codes "1 master " ∷ codes " 1 master" ∷ codes "1  master" ∷ codes "1 slave  0" ∷ codes "1 slave 0 " ∷ codes "1 slave" ∷ codes "1 slave "
    ∷ codes "1" ∷ codes "1 " ∷ codes " " ∷ codes "master" ∷ codes " master" ∷ codes "slave 0" ∷ codes "1 Master" ∷ codes "1 masters" ∷ codes "1 maste" ∷ codes "1 slave0"
    ∷ codes "1 idle" ∷ codes "+1 master" ∷ codes "-1 master" ∷ codes "1_0 master" ∷ codes "0x1 master" ∷ codes "1 slave x" ∷ codes "1 slave +1" ∷ codes " # 1"
    ∷ (codes "1 master" ++ 13 ∷ []) ∷ (13 ∷ []) ∷ (codes "1" ++ 9 ∷ codes "master") ∷ (codes "1 m" ++ 195 ∷ 164 ∷ codes "ster") ∷ (codes "1 master" ++ 0 ∷ []) ∷ (255 ∷ [])
    ∷ []

pub refuses : map list_in unknown_lines ≡ replicate (length unknown_lines) (Err (Line 1))
unfolding Rattle.event_list.specs.Lines.lines Rattle.event_list.specs.Reading.first_refusal
refuses = refl

-- files, and the first refusal of each
abbrev refused_files : List (List (List ℕ) × EventErr)
refused_files =
    (codes "100000000 master" ∷ codes "1 commit" ∷ [], TooMany 2)
    ∷ (codes "#" ∷ [] ∷ codes "0 master" ∷ codes "0 master" ∷ [], Line 3)
    ∷ (codes "60000000 master" ∷ codes "#" ∷ codes "40000001 commit" ∷ codes "x" ∷ [], TooMany 3)
    ∷ (codes "60000000 master" ∷ codes "x" ∷ codes "40000001 commit" ∷ [], Line 2)
    ∷ (codes "60000000 master" ∷ codes "100000001 commit" ∷ [], Line 2)
    ∷ []

pub finds_the_first : map (λ (x : List (List ℕ) × EventErr). list_in (file x.0)) refused_files ≡ map (λ (x : List (List ℕ) × EventErr). Err x.1) refused_files
unfolding Rattle.event_list.specs.Lines.lines Rattle.event_list.specs.Reading.first_refusal
finds_the_first = refl

pub writes_out : written_out ((2, Serial) ∷ (1, Slave 5) ∷ (3, Master) ∷ []) ≡ Serial ∷ Serial ∷ Slave 5 ∷ Master ∷ Master ∷ Master ∷ []
writes_out = refl
