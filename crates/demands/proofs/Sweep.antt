-- Demand 3: a run of words is undone by their partners in reverse order. Assumes nothing.
use Prim.Native.Nat.{ℕ}
use native.Mathlib.Omega.{arith}
use mathlib.Core.Path.{◌≡◌, refl, sym, ap, ◌∙◌, subst}
use mathlib.Core.Bool.{Bool, false, cond}
use mathlib.Core.Logic.{◌≢◌}
use mathlib.Core.List.{List, [], ◌∷◌, map, reverse, reverse_aux}
use lib.Dec.{eqb}
use borrow.Author.Tests.{eqb-true, eqb-false, eq-eqb}
use Rattle.laws.specs.Lists.{Each}
use Rattle.laws.proofs.Tests.{cond_ne, cond-holds}
use Rattle.settings.specs.Valid.{vector_bytes}
use Rattle.settings.specs.declared.Settings.{Settings}
use Rattle.words.specs.Partner.{partner_word, turned, is_c, partner_paper}
use Rattle.words.specs.declared.Family.{Family}
use Rattle.words.specs.declared.Family.TheVariants.{ByElement, Vector, Saturating, LongLong, Long}
use Rattle.words.specs.declared.Fields.{Fields}
use Rattle.words.proofs.Answers.{not_c, partner_accepted, PartnerOf}
use Rattle.elements.specs.Elements.{Bytes}
use Rattle.machine.specs.Execute.{Outcome, refused_with, stepped, execute_paper}
use Rattle.machine.specs.Run.{Report, report_of, Run, PerWord, report_first, run_of}
use Rattle.demands.specs.Execution.{vl_of, Accepted, ClearAbove}
use Rattle.demands.specs.Sweep.{there, undo_paper}
use Rattle.demands.specs.Sweep.{AcceptedInTurn, NotSaturating, SourcesApart, NotItsOwnSource, of_partner, SweepCloses}
use Rattle.demands.specs.Sweep.{ClearIfV, DestinationClear, ClearInTurn, ClearAt128}
use Rattle.demands.specs.Sweep.{BothAccept, UndoAccepts, PartnersAccepted}
use Rattle.demands.proofs.Execution.{accepted_exactly, accepted_steps, lengths_kept, bytes_kept}
use Rattle.demands.proofs.Undoing.{undone_from, step_back}

-- ---- a step of the way back, by the answer of `partner`

module _ (s : Settings) (w : ℕ) (z za : List ℕ) where
  pub undo_word : (v : ℕ) → (0, v) ≡ partner_paper s w → execute_paper s v z za ≡ undo_paper s w z za
  unfolding undo_paper
  undo_word v e = ap (λ (p : ℕ × ℕ). cond (eqb p.0 0) (execute_paper s p.1 z za) (refused_with p.0 z za)) e

  pub undo_refused : (n : ℕ) → (n, 0) ≡ partner_paper s w → n ≢ 0 → refused_with n z za ≡ undo_paper s w z za
  unfolding undo_paper
  undo_refused n e h =
      cond_ne n 0 _ _ _ h refl
      ∙ ap (λ (p : ℕ × ℕ). cond (eqb p.0 0) (execute_paper s p.1 z za) (refused_with p.0 z za)) e

-- ---- one word

module _ (s : Settings) (w : ℕ) (z za : List ℕ) where
  abbrev o : Outcome
  o = execute_paper s w z za

  -- the partner is accepted where the word left Z and ZA
  partner_in_turn : (f : Fields) → Accepted s w f z za → PartnerOf s w (partner_word w) f → Accepted s (partner_word w) (turned f) (execute_paper s w z za).z (execute_paper s w z za).za
  unfolding turned
  partner_in_turn f a p =
      let l = lengths_kept s w z za in
      record {
        valid = a.valid;
        z_exact = l.0 ∙ a.z_exact;
        za_exact = l.1 ∙ a.za_exact;
        decodes = p.decodes;
        permitted = a.permitted;
      }

  -- the step back finds what the word left
  undone : (f : Fields) → Accepted s w f z za → Bytes z → Bytes za → is_c f.family ≡ false → SourcesApart f.family f → ClearIfV f.family s f z
      → undo_paper s w (execute_paper s w z za).z (execute_paper s w z za).za ≡ undone_from (execute_paper s w z za) z za
  unfolding undo_paper
  undone f a bz bza c p h =
      let q = partner_accepted s w f a.decodes c in
      rw q.0
      (accepted_steps s (partner_word w) (turned f) o.z o.za (partner_in_turn f a q.1)
      ∙ subst (λ (x : Outcome). stepped s (turned f) x.z x.za ≡ undone_from x z za) (sym (accepted_steps s w f z za a)) (step_back s w f z za a bz bza c p h))

  pub word_undone : Bytes z → Bytes za → (execute_paper s w z za).number ≡ 0 → NotSaturating s w → NotItsOwnSource s w → DestinationClear s w z
      → undo_paper s w (execute_paper s w z za).z (execute_paper s w z za).za ≡ undone_from (execute_paper s w z za) z za
  word_undone bz bza n c p h =
      let (f, a) = (accepted_exactly s w z za).0 n in
      undone f a bz bza ((not_c f.family).0 (c f a.decodes)) (p f a.decodes) (h f a.decodes)

-- ---- the run

-- the way back over the words so far, `acc`, goes on from where the words that are left begin
way_back : (s : Settings) (ws acc z za z₀ za₀ : List ℕ) (before : List Report) → Bytes z → Bytes za
    → AcceptedInTurn (execute_paper s) ws z za → Each (NotSaturating s) ws → Each (NotItsOwnSource s) ws → ClearInTurn s ws z za
    → run_of (undo_paper s) acc z za ≡ record { z = z₀; za = za₀; reports = before }
    → run_of (undo_paper s) (reverse_aux ws acc) (there s ws z za).z (there s ws z za).za
    ≡ record { z = z₀; za = za₀; reports = reverse_aux (map of_partner (there s ws z za).reports) before }
unfolding run_of
way_back s [] acc z za z₀ za₀ before bz bza a c p h e = e
way_back s (w ∷ ws) acc z za z₀ za₀ before bz bza a c p h e =
    let o : Outcome = execute_paper s w z za in
    let b = bytes_kept s w z za bz bza in
    way_back s ws (w ∷ acc) o.z o.za z₀ za₀ (of_partner (report_of o) ∷ before) b.0 b.1 a.1 c.1 p.1 h.1
    (ap (λ (u : Outcome). report_first u (run_of (undo_paper s) acc u.z u.za)) (word_undone s w z za bz bza a.0 c.0 p.0 h.0)
    ∙ ap (report_first (undone_from o z za)) e)

pub sweep_closes : SweepCloses
unfolding run_of
sweep_closes s ws z za bz bza a c p h = way_back s ws [] z za z za [] bz bza a c p h refl

-- ---- VL 128

none_above : (s : Settings) (d : ℕ) (z : List ℕ) → vl_of s ≡ 128 → ClearAbove s d z
unfolding vector_bytes
none_above s d z e i l h = absurd (omega arith)

of_family : (s : Settings) (f : Fields) (z : List ℕ) (family : Family) → vl_of s ≡ 128 → ClearIfV family s f z
of_family s f z ByElement e = none_above s f.destination z e
of_family s f z Vector e = none_above s f.destination z e
of_family s f z Saturating e = tt
of_family s f z LongLong e = tt
of_family s f z Long e = tt

pub clear_at_128 : ClearAt128
clear_at_128 s [] z za e = tt
clear_at_128 s (w ∷ ws) z za e = (λ f d. of_family s f z f.family e, clear_at_128 s ws (execute_paper s w z za).z (execute_paper s w z za).za e)

-- ---- the partners

pub undo_accepts : UndoAccepts
unfolding undo_paper
undo_accepts s w z za =
    let n : ℕ = (partner_paper s w).0 in
    let o : Outcome = execute_paper s (partner_paper s w).1 z za in (
      cond-holds (λ (u : Outcome). u.number ≡ 0 → BothAccept s w z za) (eqb n 0) o (refused_with n z za)
          (λ t e. (eqb-true n 0 t, e))
          (λ t e. absurd (eqb-false n 0 t e)),
      λ b. ap (λ (t : Bool). (cond t o (refused_with n z za)).number) (eq-eqb n 0 b.0) ∙ b.1,
    )

-- a report of number 0
abbrev Zero : Report → Type 0
Zero r = r.0 ≡ 0

zeros_back : (rs before : List Report) → Each Zero before → Each Zero (reverse_aux (map of_partner rs) before)
zeros_back [] before h = h
zeros_back (r ∷ rs) before h = zeros_back rs (of_partner r ∷ before) (refl, h)

by_reports : (each : PerWord) (ws z za : List ℕ) → Each Zero (run_of each ws z za).reports → AcceptedInTurn each ws z za
unfolding run_of
by_reports each [] z za h = tt
by_reports each (w ∷ ws) z za h = (h.0, by_reports each ws (each w z za).z (each w z za).za h.1)

pub partners_accepted : PartnersAccepted
partners_accepted s ws z za e =
    by_reports (undo_paper s) (reverse ws) (there s ws z za).z (there s ws z za).za
    (subst (λ (r : Run). Each Zero r.reports) (sym e) (zeros_back (there s ws z za).reports [] tt))
