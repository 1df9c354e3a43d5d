-- A library in memory, as its callers see it.
use Rattle.std.specs.Prelude.{ℕ, List, Option, refl}
use Rattle.std.specs.Coded.{Coded, code_by, coded×, coded_ℕ, coded_list, coded_option}
use Rattle.std.specs.FinMap as finite
use Rattle.outside.specs.Library.{Files}
use Rattle.outside.specs.CallLog.{CallLog}

-- what is held under each name, the names of its fetches in order, and its calls
pub record HeldFiles : Type 0 where
  pub files : Files
  pub asked : List (List ℕ)
  pub log : CallLog

-- a log is stored as its numbers
abbrev pub log_code : Coded CallLog
log_code =
    code_by (ℕ × (Option ℕ × ℕ)) (coded× coded_ℕ (coded× (coded_option coded_ℕ) coded_ℕ))
    (λ l. (l.made, (l.failing, l.faults)))
    (λ p. record { made = p.0; failing = p.1.0; faults = p.1.1 })
    (λ _. refl)

-- what is held is stored as its parts
abbrev pub held_files_code : Coded HeldFiles
held_files_code =
    code_by (Files × (List (List ℕ) × CallLog))
    (coded× (finite.code (coded_list coded_ℕ) (coded_list coded_ℕ)) (coded× (coded_list (coded_list coded_ℕ)) log_code))
    (λ h. (h.files, (h.asked, h.log)))
    (λ p. record { files = p.0; asked = p.1.0; log = p.1.1 })
    (λ _. refl)
