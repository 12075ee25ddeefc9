-- The statement of specs/Reports.antt, proved. Assumes nothing.
use Prim.Native.Nat.{ℕ, zero, suc, ◌+◌, ◌-◌, ◌*◌, ◌≤◌, ◌<◌}
use native.Mathlib.Omega.{arith}
use mathlib.Core.Path.{◌≡◌, refl, sym, ap, ◌∙◌, subst}
use mathlib.Core.Logic.{inl, inr}
use mathlib.Core.Bool.{Bool, true, false}
use mathlib.Core.List.{List, [], ◌∷◌, ◌++◌}
use lib.Dec.{eqb}
use lib.ListN.{length, get_or, take, drop, replicate, length-append, length-drop, length-replicate}
use lib.Seq.{take-length, get_or-append-add, get_or-drop}
use borrow.Author.Tests.{eqb-true, eqb-false}
use Rattle.settings.specs.declared.Settings.{Settings}
use Rattle.settings.proofs.Refusals.{not_0}
use Rattle.words.specs.Decode.{decode_paper}
use Rattle.words.specs.declared.Fields.{Fields}
use Rattle.machine.specs.Modes.{permits}
use Rattle.machine.specs.Execute.{Outcome, execute_paper}
use Rattle.machine.specs.Loop.{Ready}
use Rattle.machine.specs.Run.{Report, report_of, Run, PerWord, run_of}
use Rattle.machine.proofs.Executing.{is_ready, still_ready}
use Rattle.runlist.specs.Plan.{lengths_of, Found, found, refused, Asked, plan_of}
use Rattle.runlist.specs.RunList.{fours, carried_out, run_paper}
use Rattle.demands.specs.Reports.{led_to, turn_of, four_at, ZeroThreeFour, InTurn, AllInTurn, ReportsAre}
use Rattle.demands.proofs.Execution.{accepted_exactly, refused_in_order, refused_keeps, lengths_kept}
use Rattle.demands.proofs.Lists.{lengths_hold}

-- ---- a run, word by word

-- word i goes on from where the words before it have led
next_state : (each : PerWord) (ws z za : List ℕ) (i : ℕ) → i < length ws
    → ((run_of each (take (suc i) ws) z za).z ≡ (each (get_or ws i 0) (run_of each (take i ws) z za).z (run_of each (take i ws) z za).za).z)
    × ((run_of each (take (suc i) ws) z za).za ≡ (each (get_or ws i 0) (run_of each (take i ws) z za).z (run_of each (take i ws) z za).za).za)
unfolding run_of
next_state each [] z za i h = absurd (omega arith)
next_state each (w ∷ ws) z za zero h = (refl, refl)
next_state each (w ∷ ws) z za (suc i) h = next_state each ws (each w z za).z (each w z za).za i (omega arith)

-- and its report says what became of it there
report_at : (each : PerWord) (ws z za : List ℕ) (i : ℕ) (d : Report) → i < length ws
    → get_or (run_of each ws z za).reports i d ≡ report_of (each (get_or ws i 0) (run_of each (take i ws) z za).z (run_of each (take i ws) z za).za)
unfolding run_of
report_at each [] z za i d h = absurd (omega arith)
report_at each (w ∷ ws) z za zero d h = refl
report_at each (w ∷ ws) z za (suc i) d h = report_at each ws (each w z za).z (each w z za).za i d (omega arith)

-- a report for each word
as_many : (each : PerWord) (ws z za : List ℕ) → length (run_of each ws z za).reports ≡ length ws
unfolding run_of
as_many each [] z za = refl
as_many each (w ∷ ws) z za = ap suc (as_many each ws (each w z za).z (each w z za).za)

-- ---- four numbers for each report

length-fours : (rs : List Report) → length (fours rs) ≡ 4 * length rs
unfolding fours
length-fours [] = refl
length-fours (r ∷ rs) = omega (arith, length-fours rs)

four_at_lem : (rs : List Report) (rest : List ℕ) (i : ℕ) (d : Report) → i < length rs → four_at (fours rs ++ rest) i ≡ get_or rs i d
unfolding fours
four_at_lem [] rest i d h = absurd (omega arith)
four_at_lem (r ∷ rs) rest zero d h = refl
four_at_lem (r ∷ rs) rest (suc i) d h =
    let fourth : 4 * suc i + 3 ≡ suc (suc (suc (suc (4 * i + 3)))) = omega arith in
    let third : 4 * suc i + 2 ≡ suc (suc (suc (suc (4 * i + 2)))) = omega arith in
    let second : 4 * suc i + 1 ≡ suc (suc (suc (suc (4 * i + 1)))) = omega arith in
    let first : 4 * suc i ≡ suc (suc (suc (suc (4 * i)))) = omega arith in
    rw (fourth, third, second, first) (four_at_lem rs rest i d (omega arith))

-- ---- a word of an accepted list is accepted, or refused with 3 or 4

module _ (s : Settings) (w : ℕ) (z za : List ℕ) (r : Ready s z za) where
  by_mode : (f : Fields) → decode_paper s w ≡ (0, f) → (p : Bool) → permits s.features.0 s.modes.0 f.family ≡ p
      → ZeroThreeFour (execute_paper s w z za).number
  by_mode f d true p =
      inl ((accepted_exactly s w z za).1 (f, record { valid = r.valid; z_exact = r.z_long; za_exact = r.za_long; decodes = d; permitted = p }))
  by_mode f d false p = inr (inr (ap (λ (o : Outcome). o.number) ((refused_in_order s w z za).by_mode r.valid r.z_long r.za_long f d p)))

  by_word : (t : Bool) → eqb (decode_paper s w).0 0 ≡ t → ZeroThreeFour (execute_paper s w z za).number
  by_word true e =
      let d : ℕ × Fields = decode_paper s w in
      by_mode d.1 (ap (λ (n : ℕ). (n, d.1)) (eqb-true _ _ e)) (permits s.features.0 s.modes.0 d.1.family) refl
  by_word false e =
      let k = (refused_in_order s w z za).by_word r.valid r.z_long r.za_long (decode_paper s w).0 refl (eqb-false _ _ e) in
      inr (inl (ap (λ (o : Outcome). o.number) k.0 ∙ k.1))

  zero_three_four : ZeroThreeFour (execute_paper s w z za).number
  zero_three_four = by_word (eqb (decode_paper s w).0 0) refl

-- every word of a run finds Z and ZA of the right lengths
ready_there : (s : Settings) (ws z za : List ℕ) (i : ℕ) → Ready s z za
    → Ready s (run_of (execute_paper s) (take i ws) z za).z (run_of (execute_paper s) (take i ws) z za).za
unfolding run_of
ready_there s ws z za zero r = r
ready_there s [] z za (suc i) r = r
ready_there s (w ∷ ws) z za (suc i) r =
    let k = lengths_kept s w z za in
    ready_there s ws (execute_paper s w z za).z (execute_paper s w z za).za i (still_ready s z za _ _ r k.0 k.1)

-- ---- the whole list

module _ (a : Asked) (za report : List ℕ) (r : Ready a.settings a.z za) where
  abbrev run : Run
  run = run_of (execute_paper a.settings) a.words a.z za

  abbrev left : List ℕ
  left = fours run.reports ++ drop (4 * length a.words) report

  in_turn : (i : ℕ) → i < length a.words → InTurn a za left i
  in_turn i h =
      let o : Outcome = turn_of a za i in
      let each = execute_paper a.settings in
      let says : four_at left i ≡ report_of o =
      four_at_lem run.reports (drop (4 * length a.words) report) i (0, 0, 0, 0) (omega (arith, as_many each a.words a.z za))
      ∙ report_at each a.words a.z za i (0, 0, 0, 0) h in
      let on = next_state each a.words a.z za i h in
      let number : (four_at left i).0 ≡ o.number = ap (λ (x : Report). x.0) says in
      record {
        says = says;
        refusal = subst ZeroThreeFour (sym number) (zero_three_four a.settings _ _ _ (ready_there a.settings a.words a.z za i r));
        refused =
            λ n. let k = refused_keeps a.settings (get_or a.words i 0) (led_to a za i).z (led_to a za i).za (λ e. n (number ∙ e)) in (
              (ap (λ (x : Report). x.1) says ∙ k.2, ap (λ (x : Report). x.2) says ∙ k.3, ap (λ (x : Report). x.3) says ∙ k.4),
              (on.0 ∙ k.0, on.1 ∙ k.1),
            );
        goes_on = on;
      }

  length_left : length (fours run.reports) ≡ 4 * length a.words
  length_left = length-fours run.reports ∙ ap (λ (n : ℕ). 4 * n) (as_many (execute_paper a.settings) a.words a.z za)

  left_long : 4 * length a.words ≤ length report → length left ≡ length report
  left_long room =
      length-append (fours run.reports) (drop (4 * length a.words) report)
      ∙ omega (arith, length_left, length-drop (4 * length a.words) report, room)

  rest_stays : (i : ℕ) → 4 * length a.words ≤ i → get_or left i 0 ≡ get_or report i 0
  rest_stays i h =
      let n : ℕ = 4 * length a.words in
      let k : ℕ = i - n in
      let at : i ≡ length (fours run.reports) + k = omega (arith, length_left, h) in
      let there : n + k ≡ i = omega (arith, h) in
      ap (λ (j : ℕ). get_or left j 0) at
      ∙ get_or-append-add (fours run.reports) (drop n report) k 0
      ∙ get_or-drop n report k 0
      ∙ ap (λ (j : ℕ). get_or report j 0) there

  whole : run_of (execute_paper a.settings) a.words a.z za ≡ led_to a za (length a.words)
  whole = ap (λ (ws : List ℕ). run_of (execute_paper a.settings) ws a.z za) (sym (take-length a.words))

carried : (list z za report : List ℕ) (x : Found Asked) → plan_of list (lengths_of z za report) ≡ x → (carried_out x z za report).number ≡ 0
    → (a : Asked) × ((x ≡ found a) × AllInTurn a za report (carried_out x z za report))
carried list z za report (refused r p) e h = absurd (not_0 r h)
carried list z za report (found a) e h =
    let f = lengths_hold list (lengths_of z za report) a e in
    let zeros : List ℕ = replicate (length za) 0 in
    let r : Ready a.settings a.z zeros =
    still_ready a.settings z za a.z zeros (is_ready a.settings z za f.valid f.exact) f.z_bytes (length-replicate (length za) 0) in (
      a,
      (
        refl,
        record {
          count = refl;
          each = in_turn a zeros report r;
          as_long = left_long a zeros report r f.reported;
          rest = rest_stays a zeros report r;
          final_z = ap (λ (x : Run). x.z) (whole a zeros report r);
          final_za = ap (λ (x : Run). x.za) (whole a zeros report r);
        },
      ),
    )

pub reports_are : ReportsAre
unfolding run_paper
reports_are list z za report = carried list z za report (plan_of list (lengths_of z za report)) refl
