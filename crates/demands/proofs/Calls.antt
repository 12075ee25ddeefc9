-- Demand 3 for callers: the promises make the calls the run and the way back that the theorem speaks of. Assumes nothing.
use Prim.Native.Nat.{ℕ}
use mathlib.Core.Path.{◌≡◌, refl, sym, ap, ap₂, ◌∙◌, subst}
use mathlib.Core.List.{List, [], ◌∷◌, map, reverse, reverse_aux, nil≢cons, cons≢nil, head-eq_of_cons-eq, tail-eq_of_cons-eq}
use Rattle.std.specs.Prelude.{Result, Ok, Err}
use Rattle.tally.specs.declared.Counts.{Counts}
use Rattle.settings.specs.Refused.{refusal_number, word_says}
use Rattle.settings.specs.declared.Refusal.{Refusal}
use Rattle.settings.specs.declared.Settings.{Settings}
use Rattle.settings.proofs.Refusals.{not_0}
use Rattle.words.specs.Partner.{partner_paper}
use Rattle.machine.specs.Execute.{Outcome, executed_says, execute_paper, ExecutePromise}
use Rattle.machine.specs.Run.{Report, report_of, Run, PerWord, report_first, run_of}
use Rattle.machine.proofs.Answers.{executed_known}
use Rattle.demands.specs.Sweep.{there, undo_paper, AcceptedInTurn, of_partner}
use Rattle.demands.specs.Calls.{Promise, Calls, none, next, Followed, UndoCalls, AllDone, partner_answers, CallersSee}
use Rattle.demands.proofs.Sweep.{undo_word, undo_refused, sweep_closes}

-- ---- the two calls of the way back

followed_says : (s : Settings) (w : ℕ) (z za : List ℕ) (r : Result Counts Refusal) (z' za' : List ℕ) (p : Result ℕ Refusal) → word_says p ≡ partner_paper s w
    → Followed s p z za r z' za' → executed_says r z' za' ≡ undo_paper s w z za
followed_says s w z za r z' za' (Ok v) e f = f ∙ undo_word s w z za v e
followed_says s w z za r z' za' (Err q) e (er, ez, eza) =
    rw (er, ez, eza) (undo_refused s w z za (refusal_number q) e (not_0 q))

undo_says : (s : Settings) (w : ℕ) (z za : List ℕ) (r : Result Counts Refusal) (z' za' : List ℕ) → UndoCalls s w z za r z' za' → executed_says r z' za' ≡ undo_paper s w z za
undo_says s w z za r z' za' u = followed_says s w z za r z' za' u.asked u.promised u.followed

-- ---- calls are a run

-- what an answer reports
said : Result Counts Refusal → Report
said r = report_of (executed_says r [] [])

-- an answer leaves what its promise says, and goes before the others
first_call : (r : Result Counts Refusal) (z za : List ℕ) (go : List ℕ → List ℕ → Run)
    → report_first (executed_says r z za) (go (executed_says r z za).z (executed_says r z za).za)
    ≡ record { z = (go z za).z; za = (go z za).za; reports = said r ∷ (go z za).reports }
unfolding said
first_call (Ok c) z za go = refl
first_call (Err r) z za go = refl

first_done : (r : Result Counts Refusal) (rs : List (Result Counts Refusal)) → AllDone (r ∷ rs) → (z za : List ℕ) (Q : List ℕ → List ℕ → Type 0) → (AllDone rs → Q z za)
    → ((executed_says r z za).number ≡ 0) × Q (executed_says r z za).z (executed_says r z za).za
first_done (Ok c) rs d z za Q q = (refl, q d)
first_done (Err r) rs d z za Q q = absurd d

module _ (each : PerWord) (P : Promise)
    (says : (w : ℕ) (z za : List ℕ) (r : Result Counts Refusal) (z' za' : List ℕ) → P w z za r z' za' → executed_says r z' za' ≡ each w z za) where
  calls_run : {ws z za z' za' : List ℕ} {rs : List (Result Counts Refusal)} → Calls P ws z za rs z' za'
      → run_of each ws z za ≡ record { z = z'; za = za'; reports = map said rs }
  unfolding run_of
  calls_run none = refl
  calls_run (next {w} {ws} {z} {za} {z₁} {za₁} {z₂} {za₂} {r} {rs} p c) =
      ap (λ (o : Outcome). report_first o (run_of each ws o.z o.za)) (sym (says w z za r z₁ za₁ p))
      ∙ first_call r z₁ za₁ (run_of each ws)
      ∙ ap (λ (q : Run). record { z = q.z; za = q.za; reports = said r ∷ q.reports }) (calls_run c)

  -- accepted answers are accepted words
  calls_accepted : {ws z za z' za' : List ℕ} {rs : List (Result Counts Refusal)} → Calls P ws z za rs z' za' → AllDone rs → AcceptedInTurn each ws z za
  calls_accepted none d = tt
  calls_accepted (next {w} {ws} {z} {za} {z₁} {za₁} {z₂} {za₂} {r} {rs} p c) d =
      subst (λ (o : Outcome). (o.number ≡ 0) × AcceptedInTurn each ws o.z o.za) (says w z za r z₁ za₁ p)
      (first_done r rs d z₁ za₁ (AcceptedInTurn each ws) (calls_accepted c))

-- ---- the answers, in reverse order

-- the reports that the theorem gives the partners are those of the answers
said_back : (rs before : List (Result Counts Refusal)) → AllDone rs
    → reverse_aux (map of_partner (map said rs)) (map said before) ≡ map said (reverse_aux (map partner_answers rs) before)
unfolding said
said_back [] before d = refl
said_back (Ok c ∷ rs) before d = said_back rs (partner_answers (Ok c) ∷ before) d
said_back (Err r ∷ rs) before d = absurd d

-- an answer is known by its report
said_known : (r q : Result Counts Refusal) → said r ≡ said q → r ≡ q
unfolding said
said_known r q e = executed_known r q [] [] [] [] e

all_known : (rs qs : List (Result Counts Refusal)) → map said rs ≡ map said qs → rs ≡ qs
all_known [] [] e = refl
all_known [] (q ∷ qs) e = absurd (nil≢cons e)
all_known (r ∷ rs) [] e = absurd (cons≢nil e)
all_known (r ∷ rs) (q ∷ qs) e = ap₂ ◌∷◌ (said_known r q (head-eq_of_cons-eq e)) (all_known rs qs (tail-eq_of_cons-eq e))

-- ---- the statement

pub callers_see : CallersSee
callers_see s ws z za z₁ za₁ z₂ za₂ rs qs bz bza forward done c p h backward =
    let ran : there s ws z za ≡ record { z = z₁; za = za₁; reports = map said rs } = calls_run (execute_paper s) (ExecutePromise s) (λ w z za r z' za' e. e) forward in
    let undone : run_of (undo_paper s) (reverse ws) z₁ za₁ ≡ record { z = z₂; za = za₂; reports = map said qs } =
    calls_run (undo_paper s) (UndoCalls s) (undo_says s) backward in
    let closed = sweep_closes s ws z za bz bza (calls_accepted (execute_paper s) (ExecutePromise s) (λ w z za r z' za' e. e) forward done) c p h in
    let same : ◌≡◌ {A = Run} (record { z = z₂; za = za₂; reports = map said qs }) (record { z = z; za = za; reports = map said (reverse (map partner_answers rs)) }) =
    sym undone
    ∙ subst (λ (t : Run). run_of (undo_paper s) (reverse ws) t.z t.za ≡ record { z = z; za = za; reports = reverse (map of_partner t.reports) }) ran closed
    ∙ ap (λ (r : List Report). record { z = z; za = za; reports = r }) (said_back rs [] done) in (
      all_known qs (reverse (map partner_answers rs)) (ap (λ (t : Run). t.reports) same),
      ap (λ (t : Run). t.z) same,
      ap (λ (t : Run). t.za) same,
    )
