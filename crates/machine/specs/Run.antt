-- A run of words: each in its turn, and with a report.
use Rattle.std.specs.Prelude.{ℕ, List, [], ◌∷◌}
use Rattle.machine.specs.Execute.{Outcome}

-- document 02: "four numbers for each word (refusal, rises, falls, written)", where a word that is not refused has 0 for the refusal
abbrev pub Report : Type 0
Report = ℕ × ℕ × ℕ × ℕ

abbrev pub report_of : Outcome → Report
report_of o = (o.number, o.rises, o.falls, o.written)

-- document 02: "four numbers for each word (refusal, rises, falls, written)" in the report
abbrev pub four : Report → List ℕ
four r = r.0 ∷ r.1 ∷ r.2 ∷ r.3 ∷ []

-- what a run leaves: Z, ZA, and a report for each word
pub record Run : Type 0 where
  pub z : List ℕ
  pub za : List ℕ
  pub reports : List Report

-- what comes of a word, given Z and ZA
abbrev pub PerWord : Type 0
PerWord = ℕ → List ℕ → List ℕ → Outcome

abbrev pub report_first : Outcome → Run → Run
report_first o r = record { z = r.z; za = r.za; reports = report_of o ∷ r.reports }

-- the words in their order: each finds Z and ZA as the one before left them
unfoldable pub run_of : PerWord → List ℕ → List ℕ → List ℕ → Run
run_of each [] z za = record { z = z; za = za; reports = [] }
run_of each (w ∷ ws) z za = report_first (each w z za) (run_of each ws (each w z za).z (each w z za).za)
