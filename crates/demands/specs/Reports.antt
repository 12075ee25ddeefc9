-- What the reports of an accepted list can be, in document 01's words. Statements only: proofs/Reports.antt proves them.
use Rattle.std.specs.Prelude.{ℕ, suc, ◌+◌, ◌*◌, ◌≤◌, ◌<◌, ◌≡◌, ◌⊎◌, ◌≢◌, List, length, get_or, take, replicate}
use Rattle.machine.specs.Execute.{Outcome, execute_paper}
use Rattle.machine.specs.Run.{Report, report_of, Run, run_of}
use Rattle.runlist.specs.Plan.{lengths_of, found, Asked, plan_of}
use Rattle.runlist.specs.RunList.{Ended, run_paper}

-- ---- the words of a list, each in its turn

-- to what Z and ZA the first i words lead: from the list's Z bytes and the given ZA on
abbrev pub led_to : Asked → List ℕ → ℕ → Run
led_to a za i = run_of (execute_paper a.settings) (take i a.words) a.z za

-- what comes of word i there
abbrev pub turn_of : Asked → List ℕ → ℕ → Outcome
turn_of a za i = execute_paper a.settings (get_or a.words i 0) (led_to a za i).z (led_to a za i).za

-- "four numbers for each word (refusal, rises, falls, written)" (document 02): those of word i
abbrev pub four_at : List ℕ → ℕ → Report
four_at report i = (get_or report (4 * i) 0, get_or report (4 * i + 1) 0, get_or report (4 * i + 2) 0, get_or report (4 * i + 3) 0)

-- no other refusal is given to a word of a list
abbrev pub ZeroThreeFour : ℕ → Type 0
ZeroThreeFour n = (n ≡ 0) ⊎ ((n ≡ 3) ⊎ (n ≡ 4))

-- "A word refused with 3 or 4 changes no register and the run goes on"
pub record InTurn (a : Asked) (za report : List ℕ) (i : ℕ) : Type 0 where
  -- the report of word i is that of executing it where the words before it have led
  pub says : four_at report i ≡ report_of (turn_of a za i)
  pub refusal : ZeroThreeFour (four_at report i).0
  -- where it is refused, its counts are 0, and the next word finds the same Z and ZA
  pub refused : (four_at report i).0 ≢ 0
      → (((four_at report i).1 ≡ 0) × ((four_at report i).2 ≡ 0) × ((four_at report i).3 ≡ 0)) × (((led_to a za (suc i)).z ≡ (led_to a za i).z) × ((led_to a za (suc i)).za ≡ (led_to a za i).za))
  -- refused or not, the next word finds what this one left
  pub goes_on : ((led_to a za (suc i)).z ≡ (turn_of a za i).z) × ((led_to a za (suc i)).za ≡ (turn_of a za i).za)

-- ---- the whole list

-- "An accepted list leaves the final Z and ZA", and the four numbers of each word "in the report, whose rest stays". "ZA starts at zero"
pub record AllInTurn (a : Asked) (za report : List ℕ) (e : Ended) : Type 0 where
  pub count : e.words ≡ length a.words
  pub each : (i : ℕ) → i < length a.words → InTurn a (replicate (length za) 0) e.report i
  pub as_long : length e.report ≡ length report
  pub rest : (i : ℕ) → 4 * length a.words ≤ i → get_or e.report i 0 ≡ get_or report i 0
  pub final_z : e.z ≡ (led_to a (replicate (length za) 0) (length a.words)).z
  pub final_za : e.za ≡ (led_to a (replicate (length za) 0) (length a.words)).za

-- every accepted list
abbrev pub ReportsAre : Type 0
ReportsAre =
    (list z za report : List ℕ) → (run_paper list z za report).number ≡ 0
    → (a : Asked) × ((plan_of list (lengths_of z za report) ≡ found a) × AllInTurn a za report (run_paper list z za report))
