-- Which calls of a store or a sink in memory fail: those whose numbers a list has.
use Rattle.std.specs.Prelude.{◌≡◌, ◌≢◌, ℕ, ◌+◌, Bool, ◌==◌, if◌then◌else◌, List, Result, Err, IsTrue, ◌↔◌, refl}
use Rattle.std.specs.Coded.{Coded, code_by, coded×, coded_list, coded_ℕ}
use Rattle.std.specs.List.{list_any}
use Rattle.outside.specs.Answers.{one_more}

-- the numbers of the calls that fail, counted from 1, and how many calls were made and failed so far
pub record Schedule : Type 0 where
  pub fail : List ℕ
  pub calls : ℕ
  pub faults : ℕ

-- schedules are told apart by their numbers
abbrev pub schedule_code : Coded Schedule
schedule_code =
    code_by (List ℕ × (ℕ × ℕ)) (coded× (coded_list coded_ℕ) (coded× coded_ℕ coded_ℕ)) (λ s. (s.fail, (s.calls, s.faults))) (λ p. record { fail = p.0; calls = p.1.0; faults = p.1.1 }) (λ _. refl)

-- before the first call
abbrev pub fresh : List ℕ → Schedule
fresh numbers = record { fail = numbers; calls = 0; faults = 0 }

-- the next call fails
abbrev pub is_next_listed : Schedule → Bool
is_next_listed s = list_any (λ number. number == s.calls + 1) s.fail

-- the schedule after one more call
abbrev pub after_call : Schedule → Schedule
after_call s = record { fail = s.fail; calls = one_more s.calls; faults = (if is_next_listed s then one_more s.faults else s.faults) }

-- a call fails exactly where it is listed, and counts where it finds memory
pub record Follows {A E : Type 0} (failed memory : E) (before now : Schedule) (result : Result A E) : Type 0 where
  pub fails : (result ≡ Err failed) ↔ IsTrue (is_next_listed before)
  pub counts : result ≢ Err memory → now ≡ after_call before
  pub stays : result ≡ Err memory → now ≡ before
