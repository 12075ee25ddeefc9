-- Request Two: what rises and what falls, against the ones of Z and ZA. Its own words stand in quotation marks. Statements only: proofs/Balance.antt
-- proves each.
use Rattle.std.specs.Prelude.{ℕ, ◌+◌, ◌*◌, ◌≤◌, ◌≡◌, List, length, replicate}
use Rattle.settings.specs.declared.Settings.{Settings}
use Rattle.bits.specs.Bits.{ones_of, zeros_of}
use Rattle.tally.specs.declared.Counts.{Counts}
use Rattle.machine.specs.Execute.{Outcome, execute_paper}
use Rattle.machine.specs.Run.{Run, run_of}
use Rattle.runlist.specs.Plan.{lengths_of, found, Asked, plan_of}
use Rattle.runlist.specs.RunList.{Ended, no_tally, tallied, run_paper}

-- the ones of Z and ZA, and the zeros: together each bit once
abbrev pub ones : List ℕ → List ℕ → ℕ
ones z za = ones_of z + ones_of za

abbrev pub zeros : List ℕ → List ℕ → ℕ
zeros z za = zeros_of z + zeros_of za

abbrev pub BitsAre : Type 0
BitsAre = (z za : List ℕ) → ones z za + zeros z za ≡ 8 * (length z + length za)

-- ---- a word, whether it is accepted or refused

-- "ones at the end plus falls equals ones at the start plus rises"
abbrev pub Balances : List ℕ → List ℕ → Outcome → Type 0
Balances z za o = ones o.z o.za + o.falls ≡ ones z za + o.rises

-- a bit that rises was 0, and one that falls was 1
abbrev pub RisesFromZeros : List ℕ → List ℕ → Outcome → Type 0
RisesFromZeros z za o = o.rises ≤ zeros z za

abbrev pub FallsFromOnes : List ℕ → List ℕ → Outcome → Type 0
FallsFromOnes z za o = o.falls ≤ ones z za

-- ---- "Over any run", refused words included

-- what its reports add up to
abbrev pub tally_of : Run → Counts
tally_of r = tallied no_tally r.reports

abbrev pub RunBalances : Type 0
RunBalances =
    (s : Settings) (ws z za : List ℕ)
    → ones (run_of (execute_paper s) ws z za).z (run_of (execute_paper s) ws z za).za + (tally_of (run_of (execute_paper s) ws z za)).falls
    ≡ ones z za + (tally_of (run_of (execute_paper s) ws z za)).rises

-- ---- every accepted list, from its Z bytes and a ZA of zeros on, with the tally's numbers

abbrev pub EndBalances : Asked → List ℕ → Ended → Type 0
EndBalances a za e = ones e.z e.za + e.tally.falls ≡ ones a.z (replicate (length za) 0) + e.tally.rises

abbrev pub ListBalances : Type 0
ListBalances =
    (list z za report : List ℕ) (a : Asked) → plan_of list (lengths_of z za report) ≡ found a → EndBalances a za (run_paper list z za report)
