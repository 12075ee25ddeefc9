-- Document 01, "The run list": what running a list answers, and what it leaves in Z, ZA and the report.
use Rattle.std.specs.Prelude.{ℕ, ◌+◌, ◌*◌, ◌≡◌, List, [], ◌∷◌, ◌++◌, length, take, drop, replicate, Result, Ok, Err}
use Rattle.settings.specs.Refused.{refusal_number}
use Rattle.tally.specs.Tally.{plus}
use Rattle.tally.specs.declared.Counts.{Counts}
use Rattle.machine.specs.Execute.{execute_paper}
use Rattle.machine.specs.Run.{Report, four, Run, run_of}
use Rattle.runlist.specs.Plan.{lengths_of, Found, found, refused, Asked, plan_of}
use Rattle.runlist.specs.declared.Ran.{Ran}
use Rattle.numbers.specs.declared.Fault.{Fault}

-- the refusal's number or 0, and its place; the count of words and their tally; Z, ZA and the report at the end
pub record Ended : Type 0 where
  pub number : ℕ
  pub place : ℕ
  pub words : ℕ
  pub tally : Counts
  pub z : List ℕ
  pub za : List ℕ
  pub report : List ℕ

abbrev pub no_tally : Counts
no_tally = record { rises = 0; falls = 0; written = 0 }

-- "A running tally is brought up to date by each word"
unfoldable pub tallied : Counts → List Report → Counts
tallied t [] = t
tallied t (r ∷ rs) = tallied (plus t r.1 r.2 r.3) rs

unfoldable pub fours : List Report → List ℕ
fours [] = []
fours (r ∷ rs) = four r ++ fours rs

-- "A refusal returns its number and zeros, and every lent buffer keeps its contents"
abbrev pub refused_at : ℕ → ℕ → List ℕ → List ℕ → List ℕ → Ended
refused_at n p z za report = record { number = n; place = p; words = 0; tally = no_tally; z = z; za = za; report = report }

-- "An accepted list leaves the final Z and ZA", and the numbers of each word "in the report, whose rest stays"
abbrev pub ran : ℕ → Run → List ℕ → Ended
ran n r report =
    record {
      number = 0;
      place = 0;
      words = n;
      tally = tallied no_tally r.reports;
      z = r.z;
      za = r.za;
      report = fours r.reports ++ drop (4 * n) report;
    }

-- each word is executed in its turn, from the list's Z bytes on. "ZA starts at zero"
abbrev pub carried_out : Found Asked → List ℕ → List ℕ → List ℕ → Ended
carried_out (found a) z za report =
    ran (length a.words) (run_of (execute_paper a.settings) a.words a.z (replicate (length za) 0)) report
carried_out (refused r p) z za report = refused_at (refusal_number r) p z za report

-- a list, with Z, ZA and the report that are lent
unfoldable pub run_paper : List ℕ → List ℕ → List ℕ → List ℕ → Ended
run_paper list z za report = carried_out (plan_of list (lengths_of z za report)) z za report

-- what an answer says, with Z, ZA and the report as the call left them
abbrev pub run_says : Result Ran Fault → List ℕ → List ℕ → List ℕ → Ended
run_says (Ok r) z za report = record { number = 0; place = 0; words = r.words; tally = r.tally; z = z; za = za; report = report }
run_says (Err f) z za report = refused_at (refusal_number f.refusal) f.place z za report

-- what `run` promises of its answer, and of Z, ZA and the report at the call's end
abbrev pub RunPromise : List ℕ → List ℕ → List ℕ → List ℕ → Result Ran Fault → List ℕ → List ℕ → List ℕ → Type 0
RunPromise list z za report r z' za' report' = run_says r z' za' report' ≡ run_paper list z za report

-- ---- only contracts use these

-- the report with the numbers of word i
abbrev pub with_four : ℕ → Report → List ℕ → List ℕ
with_four i r report = take (4 * i) report ++ (four r ++ drop (4 * i + 4) report)

-- a run as the code leaves it
pub record Performed (r : Run) (n : ℕ) (report : List ℕ) (t : Counts) (z' za' report' : List ℕ) : Type 0 where
  pub z_is : z' ≡ r.z
  pub za_is : za' ≡ r.za
  pub report_is : report' ≡ fours r.reports ++ drop (4 * n) report
  pub tally_is : t ≡ tallied no_tally r.reports
