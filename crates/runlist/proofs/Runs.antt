-- A run of words as the code makes it: one word after the other, each with its four numbers in the report. Assumes nothing.
use Prim.Native.Nat.{ℕ, suc, ◌+◌, ◌*◌, ◌<◌, ◌≤◌}
use native.Mathlib.Numerals.{add-one}
use native.Mathlib.Omega.{arith}
use mathlib.Core.Path.{◌≡◌, refl, sym, ap, ap₂, ◌∙◌, subst, subst⁻¹}
use mathlib.Core.List.{List, [], ◌∷◌, ◌++◌, append_assoc, append-nil}
use lib.ListN.{length, get_or, take, drop, length-append, take-append-drop}
use lib.Seq.{drop-cons, drop-length, length-take-le, take_at, drop_at}
use Rattle.std.specs.Prelude.{Result, Ok, Err}
use Rattle.laws.proofs.Lists.{drop_more}
use Rattle.settings.specs.declared.Refusal.{Refusal}
use Rattle.settings.specs.declared.Settings.{Settings}
use Rattle.tally.specs.Tally.{plus}
use Rattle.tally.specs.declared.Counts.{Counts}
use Rattle.std.specs.Result.{ResultUnwrapsOrElse}
use Rattle.machine.specs.Execute.{Outcome, execute_paper, executed_says}
use Rattle.machine.specs.Run.{Report, report_of, four, Run, report_first, run_of}
use Rattle.machine.proofs.Answers.{says_z, says-za}
use Rattle.machine.proofs.Small.{counts_small}
use Rattle.runlist.specs.Plan.{lengths_of, Found, refused, Asked, plan_of}
use Rattle.runlist.specs.RunList.{no_tally, tallied, fours, carried_out, run_paper, run_says, RunPromise, with_four, Performed}
use Rattle.runlist.specs.declared.Ran.{Ran}
use Rattle.numbers.specs.declared.Fault.{Fault}
use Rattle.runlist.proofs.Tallies.{Within, one_more}

-- i words are done: what is left of the run makes up the whole of it
pub record Running (s : Settings) (ws z₀ za₀ report₀ : List ℕ) (z za report : List ℕ) (t : Counts) (i : ℕ) : Type 0 where
  pub z_left : (run_of (execute_paper s) ws z₀ za₀).z ≡ (run_of (execute_paper s) (drop i ws) z za).z
  pub za_left : (run_of (execute_paper s) ws z₀ za₀).za ≡ (run_of (execute_paper s) (drop i ws) z za).za
  pub reports_left : fours (run_of (execute_paper s) ws z₀ za₀).reports ≡ take (4 * i) report ++ fours (run_of (execute_paper s) (drop i ws) z za).reports
  pub rest_as_was : drop (4 * i) report ≡ drop (4 * i) report₀
  pub tally_left : tallied no_tally (run_of (execute_paper s) ws z₀ za₀).reports ≡ tallied t (run_of (execute_paper s) (drop i ws) z za).reports
  pub small : Within i t

-- an answer's four numbers do not hang on Z and ZA
says_report : (e : Result Counts Refusal) (z za : List ℕ) → report_of (executed_says e [] []) ≡ report_of (executed_says e z za)
says_report (Ok c) z za = refl
says_report (Err r) z za = refl

-- a word was executed: the answer's four numbers, and Z and ZA afterwards, are those of the definition
pub record WordRun (o : Outcome) (r : Report) (z' za' : List ℕ) : Type 0 where
  pub four : r ≡ report_of o
  pub z_is : o.z ≡ z'
  pub za_is : o.za ≡ za'

-- the settings are those of the run
pub word_run : (s s' : Settings) (w : ℕ) (z za : List ℕ) (e : Result Counts Refusal) (z' za' : List ℕ) → s' ≡ s
    → executed_says e z' za' ≡ execute_paper s' w z za → WordRun (execute_paper s w z za) (report_of (executed_says e [] [])) z' za'
word_run s s' w z za e z' za' q p =
    let p' : executed_says e z' za' ≡ execute_paper s w z za = p ∙ ap (λ (t : Settings). execute_paper t w z za) q in
    record {
      four = says_report e z' za' ∙ ap report_of p';
      z_is = sym (ap (λ (o : Outcome). o.z) p') ∙ says_z e z' za';
      za_is = sym (ap (λ (o : Outcome). o.za) p') ∙ says-za e z' za';
    }

-- an answer's counts, or none where it is a refusal, are those that it reports
pub counts_said : (e : Result Counts Refusal) (c : Counts) → ResultUnwrapsOrElse e (λ d. (d.rises ≡ 0) × ((d.falls ≡ 0) × (d.written ≡ 0))) c
    → let r : Report = report_of (executed_says e [] []) in (c.rises ≡ r.1) × (c.falls ≡ r.2) × (c.written ≡ r.3)
counts_said (Ok d) c h = (ap (λ (x : Counts). x.rises) h, ap (λ (x : Counts). x.falls) h, ap (λ (x : Counts). x.written) h)
counts_said (Err q) c h = (h.0, h.1.0, h.1.1)

pub plus_said : (t : Counts) (c : Counts) (r : Report) → (c.rises ≡ r.1) × (c.falls ≡ r.2) × (c.written ≡ r.3)
    → plus t c.rises c.falls c.written ≡ plus t r.1 r.2 r.3
plus_said t c r h = rw (h.0, h.1, h.2)

-- the tally with its counts is that of one word more
pub counted_within : (s : Settings) (w : ℕ) (z za z' za' : List ℕ) (r : Report) (i : ℕ) (t : Counts) → WordRun (execute_paper s w z za) r z' za' → Within i t
    → Within (i + 1) (plus t r.1 r.2 r.3)
counted_within s w z za z' za' r i t d b =
    subst (λ (q : Report). Within (i + 1) (plus t q.1 q.2 q.3)) (sym d.four) (one_more i t (execute_paper s w z za) b (counts_small s w z za))

-- ---- the four numbers in the report: what stands before and after them stays

module _ (i : ℕ) (r : Report) (report : List ℕ) (h : 4 * i + 4 ≤ length report) where
  before : length (take (4 * i) report) ≡ 4 * i
  before = length-take-le (4 * i) report (omega arith)

  front : length (take (4 * i) report ++ four r) ≡ 4 * (i + 1)
  front = length-append (take (4 * i) report) (four r) ∙ omega (arith, before)

  with-four : with_four i r report ≡ (take (4 * i) report ++ four r) ++ drop (4 * i + 4) report
  with-four = sym (append_assoc (take (4 * i) report) (four r) (drop (4 * i + 4) report))

  take_with : take (4 * (i + 1)) (with_four i r report) ≡ take (4 * i) report ++ four r
  take_with = ap (take (4 * (i + 1))) with-four ∙ take_at (take (4 * i) report ++ four r) (drop (4 * i + 4) report) (4 * (i + 1)) front

  drop_with : drop (4 * (i + 1)) (with_four i r report) ≡ drop (4 * i + 4) report
  drop_with = ap (drop (4 * (i + 1))) with-four ∙ drop_at (take (4 * i) report ++ four r) (drop (4 * i + 4) report) (4 * (i + 1)) front

  pub stored : (n report' : List ℕ) → report' ≡ take (4 * i) report ++ (n ++ drop (4 * i + 4) report) → n ≡ four r → report' ≡ with_four i r report
  stored n report' e q = e ∙ ap (λ (m : List ℕ). take (4 * i) report ++ (m ++ drop (4 * i + 4) report)) q

-- ---- a turn

module _ (s : Settings) (ws : List ℕ) (i : ℕ) (h : i < length ws) (z za z' za' : List ℕ) (r : Report)
    (d : WordRun (execute_paper s (get_or ws i 0) z za) r z' za') where
  -- what is left of the run begins with this word
  left : run_of (execute_paper s) (drop i ws) z za ≡ report_first (execute_paper s (get_or ws i 0) z za) (run_of (execute_paper s) (drop (i + 1) ws) z' za')
  unfolding run_of
  left =
      ap (λ (l : List ℕ). run_of (execute_paper s) l z za) (drop-cons ws i 0 h)
      ∙ ap₂ (λ (y ya : List ℕ). report_first (execute_paper s (get_or ws i 0) z za) (run_of (execute_paper s) (drop (suc i) ws) y ya)) d.z_is d.za_is
      ∙ rw add-one

  reports : (run_of (execute_paper s) (drop i ws) z za).reports ≡ r ∷ (run_of (execute_paper s) (drop (i + 1) ws) z' za').reports
  reports = ap (λ (x : Run). x.reports) left ∙ ap (λ (q : Report). q ∷ (run_of (execute_paper s) (drop (i + 1) ws) z' za').reports) (sym d.four)

  module _ (z₀ za₀ report₀ report report' : List ℕ) (t t' : Counts) (g : Running s ws z₀ za₀ report₀ z za report t i)
      (room : 4 * i + 4 ≤ length report) (e : report' ≡ with_four i r report) (k : t' ≡ plus t r.1 r.2 r.3) where
    reports_next : fours (run_of (execute_paper s) ws z₀ za₀).reports
        ≡ take (4 * (i + 1)) report' ++ fours (run_of (execute_paper s) (drop (i + 1) ws) z' za').reports
    unfolding fours
    reports_next =
        g.reports_left ∙ ap (λ (q : List Report). take (4 * i) report ++ fours q) reports
        ∙ sym (append_assoc (take (4 * i) report) (four r) (fours (run_of (execute_paper s) (drop (i + 1) ws) z' za').reports))
        ∙ ap (λ (q : List ℕ). q ++ fours (run_of (execute_paper s) (drop (i + 1) ws) z' za').reports)
        (sym (take_with i r report room) ∙ ap (take (4 * (i + 1))) (sym e))

    rest_next : drop (4 * (i + 1)) report' ≡ drop (4 * (i + 1)) report₀
    rest_next =
        let n : 4 * i + 4 ≡ 4 * (i + 1) = omega arith in
        ap (drop (4 * (i + 1))) e ∙ drop_with i r report room ∙ drop_more 4 (4 * i) report report₀ g.rest_as_was ∙ ap (λ (m : ℕ). drop m report₀) n

    tally_next : tallied no_tally (run_of (execute_paper s) ws z₀ za₀).reports ≡ tallied t' (run_of (execute_paper s) (drop (i + 1) ws) z' za').reports
    unfolding tallied
    tally_next =
        g.tally_left ∙ ap (tallied t) reports
        ∙ ap (λ (u : Counts). tallied u (run_of (execute_paper s) (drop (i + 1) ws) z' za').reports) (sym k)

    pub turn : Running s ws z₀ za₀ report₀ z' za' report' t' (i + 1)
    turn =
        record {
          z_left = g.z_left ∙ ap (λ (x : Run). x.z) left;
          za_left = g.za_left ∙ ap (λ (x : Run). x.za) left;
          reports_left = reports_next;
          rest_as_was = rest_next;
          tally_left = tally_next;
          small = subst⁻¹ (Within (i + 1)) k (counted_within s (get_or ws i 0) z za z' za' r i t d g.small);
        }

-- no word is left
pub finished : (s : Settings) (ws z₀ za₀ report₀ z za report : List ℕ) (t : Counts) (i : ℕ) → i ≡ length ws
    → Running s ws z₀ za₀ report₀ z za report t i → Performed (run_of (execute_paper s) ws z₀ za₀) (length ws) report₀ t z za report
unfolding run_of fours tallied
finished s ws z₀ za₀ report₀ z za report t i e g =
    let none : drop i ws ≡ [] = rw (e, drop-length) in
    let over : run_of (execute_paper s) (drop i ws) z za ≡ record { z = z; za = za; reports = [] } = ap (λ (l : List ℕ). run_of (execute_paper s) l z za) none in
    let n : 4 * i ≡ 4 * length ws = ap (λ (m : ℕ). 4 * m) e in
    record {
      z_is = sym (g.z_left ∙ ap (λ (x : Run). x.z) over);
      za_is = sym (g.za_left ∙ ap (λ (x : Run). x.za) over);
      report_is =
          sym (take-append-drop (4 * i) report)
          ∙ ap₂ (λ (a b : List ℕ). a ++ b)
          (sym (g.reports_left ∙ ap (λ (x : Run). take (4 * i) report ++ fours x.reports) over ∙ append-nil (take (4 * i) report)))
          (g.rest_as_was ∙ ap (λ (m : ℕ). drop m report₀) n);
      tally_is = sym (g.tally_left ∙ ap (λ (x : Run). tallied t x.reports) over);
    }

-- ---- the whole list

module _ (list z za report : List ℕ) where
  pub refused_run : (f : Fault) → refused f.refusal f.place ≡ plan_of list (lengths_of z za report) → RunPromise list z za report (Err f) z za report
  unfolding run_paper
  refused_run f e = ap (λ (f : Found Asked). carried_out f z za report) e

  pub run_on : (f : Found Asked) (a : Result Ran Fault) (z' za' report' : List ℕ) → f ≡ plan_of list (lengths_of z za report)
      → run_says a z' za' report' ≡ carried_out f z za report → RunPromise list z za report a z' za' report'
  unfolding run_paper
  run_on f a z' za' report' e d = d ∙ ap (λ (x : Found Asked). carried_out x z za report) e
