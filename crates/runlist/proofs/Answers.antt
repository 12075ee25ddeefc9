-- What the promise of run determines: the answer, and Z, ZA and the report at the end. Assumes nothing.
use Prim.Native.Nat.{ℕ}
use mathlib.Core.Path.{◌≡◌, refl, sym, ap, ap₂, ◌∙◌}
use mathlib.Core.List.{List}
use Rattle.std.specs.Prelude.{Result, Ok, Err}
use Rattle.settings.specs.declared.Refusal.{Refusal}
use Rattle.settings.proofs.Refusals.{refusal_known, not_0}
use Rattle.tally.specs.declared.Counts.{Counts}
use Rattle.numbers.specs.declared.Fault.{Fault}
use Rattle.runlist.specs.RunList.{Ended, run_says, RunPromise}
use Rattle.runlist.specs.declared.Ran.{Ran}

number : Ended → ℕ
number o = o.number

-- an answer is known by its number, its place, its count and its tally
run_known : (r q : Result Ran Fault) (z za report z' za' report' : List ℕ) → run_says r z za report ≡ run_says q z' za' report' → r ≡ q
unfolding number
run_known (Ok a) (Ok b) z za report z' za' report' e =
    ap₂ (λ (n : ℕ) (t : Counts). Ok (record { words = n; tally = t })) (ap (λ (o : Ended). o.words) e) (ap (λ (o : Ended). o.tally) e)
run_known (Ok a) (Err f) z za report z' za' report' e = absurd (not_0 f.refusal (sym (ap number e)))
run_known (Err f) (Ok a) z za report z' za' report' e = absurd (not_0 f.refusal (ap number e))
run_known (Err f) (Err g) z za report z' za' report' e =
    ap₂ (λ (r : Refusal) (p : ℕ). Err (record { refusal = r; place = p })) (refusal_known f.refusal g.refusal (ap number e)) (ap (λ (o : Ended). o.place) e)

-- what an answer says of Z, ZA and the report is what the call left there
says_z : (r : Result Ran Fault) (z za report : List ℕ) → (run_says r z za report).z ≡ z
says_z (Ok a) z za report = refl
says_z (Err f) z za report = refl

says-za : (r : Result Ran Fault) (z za report : List ℕ) → (run_says r z za report).za ≡ za
says-za (Ok a) z za report = refl
says-za (Err f) z za report = refl

says_report : (r : Result Ran Fault) (z za report : List ℕ) → (run_says r z za report).report ≡ report
says_report (Ok a) z za report = refl
says_report (Err f) z za report = refl

-- any two answers that run's promise allows are equal, and so are Z, ZA and the report at the end
pub run_unique : (list z za report : List ℕ) (r q : Result Ran Fault) (z1 za1 report1 z2 za2 report2 : List ℕ)
    → RunPromise list z za report r z1 za1 report1 → RunPromise list z za report q z2 za2 report2
    → (r ≡ q) × (z1 ≡ z2) × (za1 ≡ za2) × (report1 ≡ report2)
run_unique list z za report r q z1 za1 report1 z2 za2 report2 e g =
    let same : run_says r z1 za1 report1 ≡ run_says q z2 za2 report2 = e ∙ sym g in (
      run_known r q z1 za1 report1 z2 za2 report2 same,
      sym (says_z r z1 za1 report1) ∙ ap (λ (o : Ended). o.z) same ∙ says_z q z2 za2 report2,
      sym (says-za r z1 za1 report1) ∙ ap (λ (o : Ended). o.za) same ∙ says-za q z2 za2 report2,
      sym (says_report r z1 za1 report1) ∙ ap (λ (o : Ended). o.report) same ∙ says_report q z2 za2 report2,
    )
