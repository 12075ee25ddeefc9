-- What the promise of execute determines: the answer, and Z and ZA at the end. Assumes nothing.
use Prim.Native.Nat.{ℕ}
use mathlib.Core.Path.{◌≡◌, refl, sym, ap, ◌∙◌}
use mathlib.Core.List.{List}
use Rattle.std.specs.Prelude.{Result, Ok, Err}
use Rattle.settings.specs.declared.Refusal.{Refusal}
use Rattle.settings.specs.declared.Settings.{Settings}
use Rattle.settings.proofs.Refusals.{refusal_known, not_0}
use Rattle.machine.specs.Execute.{Outcome, executed_says, execute_paper}
use Rattle.machine.specs.Run.{Report, report_of}
use Rattle.tally.specs.declared.Counts.{Counts}

number : Report → ℕ
number r = r.0

counts_same : {a b c d e f : ℕ} → a ≡ d → b ≡ e → c ≡ f
    → ◌≡◌ {A = Counts} (record { rises = a; falls = b; written = c }) (record { rises = d; falls = e; written = f })
counts_same p q r = rw (p, q, r)

-- an answer is known by its report
pub executed_known : (r q : Result Counts Refusal) (z za z' za' : List ℕ) → report_of (executed_says r z za) ≡ report_of (executed_says q z' za') → r ≡ q
unfolding number
executed_known (Ok c) (Ok d) z za z' za' e =
    ap Ok (counts_same (ap (λ (r : Report). r.1) e) (ap (λ (r : Report). r.2) e) (ap (λ (r : Report). r.3) e))
executed_known (Ok c) (Err q) z za z' za' e = absurd (not_0 q (sym (ap number e)))
executed_known (Err r) (Ok d) z za z' za' e = absurd (not_0 r (ap number e))
executed_known (Err r) (Err q) z za z' za' e = ap Err (refusal_known r q (ap number e))

-- what an answer says of Z and ZA is what the call left there
pub says_z : (r : Result Counts Refusal) (z za : List ℕ) → (executed_says r z za).z ≡ z
says_z (Ok c) z za = refl
says_z (Err r) z za = refl

pub says-za : (r : Result Counts Refusal) (z za : List ℕ) → (executed_says r z za).za ≡ za
says-za (Ok c) z za = refl
says-za (Err r) z za = refl

-- any two answers that execute's promise allows are equal, and so are Z and ZA at the end
pub execute_unique : (s : Settings) (w : ℕ) (z za : List ℕ) (r q : Result Counts Refusal) (z1 za1 z2 za2 : List ℕ)
    → executed_says r z1 za1 ≡ execute_paper s w z za → executed_says q z2 za2 ≡ execute_paper s w z za
    → (r ≡ q) × (z1 ≡ z2) × (za1 ≡ za2)
execute_unique s w z za r q z1 za1 z2 za2 e g =
    let same : executed_says r z1 za1 ≡ executed_says q z2 za2 = e ∙ sym g in (
      executed_known r q z1 za1 z2 za2 (ap report_of same),
      sym (says_z r z1 za1) ∙ ap (λ (o : Outcome). o.z) same ∙ says_z q z2 za2,
      sym (says-za r z1 za1) ∙ ap (λ (o : Outcome). o.za) same ∙ says-za q z2 za2,
    )
