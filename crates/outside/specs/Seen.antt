-- The stores and the sinks in memory as contracts see them.
use Rattle.std.specs.Prelude.{ℕ, List, Option, refl}
use Rattle.std.specs.Coded.{Coded, code_by, coded×, coded_list, coded_option, coded_ℕ}
use Rattle.outside.specs.Files.{Files, files_code}
use Rattle.outside.specs.Schedule.{Schedule, schedule_code}

-- what contracts see of a store in memory
pub record SeenStore : Type 0 where
  pub files : Files
  pub schedule : Schedule
  pub failed : Option (List ℕ)

-- stores are told apart by their files and schedule
abbrev pub store_code : Coded SeenStore
store_code =
    code_by (Files × (Schedule × Option (List ℕ))) (coded× files_code (coded× schedule_code (coded_option (coded_list coded_ℕ)))) (λ s. (s.files, (s.schedule, s.failed))) (λ p. record { files = p.0; schedule = p.1.0; failed = p.1.1 }) (λ _. refl)

-- what contracts see of a sink in memory
pub record SeenSink : Type 0 where
  pub bytes : List ℕ
  pub schedule : Schedule

-- sinks are told apart by their bytes and schedule
abbrev pub sink_code : Coded SeenSink
sink_code = code_by (List ℕ × Schedule) (coded× (coded_list coded_ℕ) schedule_code) (λ s. (s.bytes, s.schedule)) (λ p. record { bytes = p.0; schedule = p.1 }) (λ _. refl)

-- what contracts see of a sink that tears
pub record SeenTorn : Type 0 where
  pub bytes : List ℕ
  pub room : ℕ
  pub faults : ℕ

-- such sinks are told apart by their numbers
abbrev pub torn_code : Coded SeenTorn
torn_code = code_by (List ℕ × (ℕ × ℕ)) (coded× (coded_list coded_ℕ) (coded× coded_ℕ coded_ℕ)) (λ s. (s.bytes, (s.room, s.faults))) (λ p. record { bytes = p.0; room = p.1.0; faults = p.1.1 }) (λ _. refl)
