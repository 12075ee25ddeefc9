-- What is printed is the text of what `run` answers. Assumes nothing.
use Prim.Native.Nat.{ℕ, ◌+◌, ◌*◌, ◌≤◌}
use native.Mathlib.Omega.{arith}
use mathlib.Core.Path.{◌≡◌, refl, sym, ap, ap₂, ◌∙◌, subst⁻¹}
use mathlib.Core.List.{List, ◌++◌}
use lib.ListN.{length, take, drop, replicate}
use lib.Seq.{take_at}
use Rattle.settings.specs.Refused.{refusal_number}
use Rattle.settings.proofs.Refusals.{not_0, tests_not_0}
use Rattle.numbers.specs.Numbers.{numbers_at}
use Rattle.machine.specs.Run.{Report}
use Rattle.machine.proofs.Small.{Small, counts_small}
use Rattle.runlist.specs.Plan.{lengths_of, Found, found, refused, Asked, most_words, ended_at, asking, plan_of}
use Rattle.runlist.specs.declared.Lengths.{Lengths}
use Rattle.runlist.specs.Rooms.{words_say, front_says}
use Rattle.runlist.specs.RunList.{Ended, carried_out, run_paper, run_says, RunPromise}
use Rattle.std.specs.Prelude.{Result, Ok, Err}
use Rattle.numbers.specs.declared.Fault.{Fault}
use Rattle.runlist.specs.declared.Front.{Front}
use Rattle.runlist.specs.declared.Ran.{Ran}
use Rattle.runlist.proofs.Plans.{not-refused}
use Rattle.runlist.proofs.Tallies.{Within, run_within}
use Rattle.demands.specs.Reports.{turn_of}
use Rattle.demands.proofs.Lists.{lengths_hold}
use Rattle.demands.proofs.Reports.{reports_are}
use Rattle.lines.specs.Lines.{refused_line, ran_lines, ToggledFits}
use Rattle.lamp.specs.Lamp.{words_of, text_of, lines_of, WordsAgain}

-- ---- the words, read again

module _ (list : List ℕ) (lent : Lengths) where
  pub none_again : (f : Fault) (ws : List ℕ) → refused f.refusal f.place ≡ plan_of list lent → WordsAgain list lent ws
  none_again f ws e a q = not-refused a f.refusal f.place (e ∙ q)

  -- they were read into the front of a room
  pub words_again : {A : Type 0} (f : Front) → front_says (Ok f) list lent.z ≡ plan_of list lent
      → (r : Result A Fault) (part rest : List ℕ) → words_say r part ≡ ended_at list (numbers_at list f.from f.words) → WordsAgain list lent (part ++ rest)
  unfolding words_of
  words_again f e (Ok u) part rest d a q =
      let is : part ≡ a.words = ap words_of (ap (asking f.settings (take lent.z (drop f.at list))) d ∙ e ∙ q) in
      take_at part rest (length a.words) (ap length is) ∙ is
  words_again f e (Err x) part rest d a q =
      not-refused a x.refusal x.place (ap (asking f.settings (take lent.z (drop f.at list))) d ∙ e ∙ q)

-- ---- a list that ran was accepted

pub record RanOf (f : Found Asked) (r : Ran) : Type 0 where
  pub asked : Asked
  pub is : f ≡ found asked
  pub count : r.words ≡ length asked.words
  pub small : Within r.words r.tally

ran_of : (f : Found Asked) (r : Ran) (z za report z' za' report' : List ℕ) → run_says (Ok r) z' za' report' ≡ carried_out f z za report → RanOf f r
ran_of (found a) r z za report z' za' report' e =
    record {
      asked = a;
      is = refl;
      count = ap (λ (o : Ended). o.words) e;
      small = subst⁻¹ (λ (o : Ended). Within o.words o.tally) e (run_within a.settings a.words a.z (replicate (length za) 0));
    }
ran_of (refused k p) r z za report z' za' report' e =
    absurd (not_0 k (sym (ap (λ (o : Ended). o.number) e)))

-- and what toggled in each of its words has 32 bits
each_fits : (list z za report : List ℕ) → (run_paper list z za report).number ≡ 0
    → ToggledFits (run_paper list z za report).report (run_paper list z za report).words
each_fits list z za report h i k =
    let x = reports_are list z za report h in
    let says = (x.1.1.each i (omega (arith, x.1.1.count, k))).says in
    let few : Small (turn_of x.0 (replicate (length za) 0) i) = counts_small _ _ _ _ in
    omega (arith, ap (λ (r : Report). r.1) says, ap (λ (r : Report). r.2) says, few.0, few.1)

module _ (list z za report z' za' report' : List ℕ) where
  pub accepted : (r : Ran) → RunPromise list z za report (Ok r) z' za' report' → RanOf (plan_of list (lengths_of z za report)) r
  unfolding run_paper
  accepted r e = ran_of (plan_of list (lengths_of z za report)) r z za report z' za' report' e

  pub toggled_fits : (r : Ran) → RunPromise list z za report (Ok r) z' za' report' → ToggledFits report' r.words
  toggled_fits r e =
      subst⁻¹ (λ (o : Ended). ToggledFits o.report o.words) e (each_fits list z za report (sym (ap (λ (o : Ended). o.number) e)))

  -- ---- the text

  pub text_ran : (r : Ran) (ws : List ℕ) → RunPromise list z za report (Ok r) z' za' report'
      → ws ≡ words_of (plan_of list (lengths_of z za report)) → ran_lines ws report' (r.tally.rises + r.tally.falls) r.tally.written ≡ lines_of list z za report
  unfolding lines_of text_of
  text_ran r ws e w = ap₂ text_of w e

  pub text-refused : (f : Fault) (n : ℕ) → RunPromise list z za report (Err f) z' za' report' → n ≡ refusal_number f.refusal → refused_line n f.place ≡ lines_of list z za report
  unfolding lines_of text_of
  text-refused f n e k =
      ap (λ (m : ℕ). refused_line m f.place) k
      ∙ sym (rw (tests_not_0 f.refusal))
      ∙ ap (text_of (words_of (plan_of list (lengths_of z za report)))) e

-- the words in front are those of the list
pub front : (list : List ℕ) (lent : Lengths) (r : Ran) (ws : List ℕ) (a : RanOf (plan_of list lent) r) → WordsAgain list lent ws
    → (take r.words ws ≡ words_of (plan_of list lent)) × (r.words ≤ most_words) × (4 * r.words ≤ lent.report)
unfolding words_of
front list lent r ws a w =
    let fits = lengths_hold list lent a.asked a.is in (
      ap (λ (k : ℕ). take k ws) a.count ∙ w a.asked a.is ∙ ap words_of (sym a.is),
      omega (arith, a.count, fits.few),
      omega (arith, a.count, fits.reported),
    )
