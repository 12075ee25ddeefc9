-- The sweep of specs/SweepExamples.antt that meets every premise closes; those that fail one do not, though they meet the others. Assumes nothing.
use Prim.Native.Nat.{ℕ, ◌+◌, ◌-◌, ◌*◌, ◌/◌, ◌<◌}
use native.Mathlib.Omega.{arith}
use mathlib.Core.Path.{◌≡◌, refl, sym, ap, ◌∙◌, subst}
use mathlib.Core.Logic.{◌≢◌}
use mathlib.Core.Bool.{false}
use mathlib.Core.List.{List, [], ◌∷◌, map, reverse}
use lib.Dec.{eqb}
use lib.ListN.{get_or, take, drop}
use lib.Seq.{get_or-take, get_or-drop}
use borrow.Author.Tests.{eqb-false}
use Rattle.settings.specs.Valid.{valid_settings, vector_bytes, array_bytes}
use Rattle.settings.specs.declared.Settings.{Settings}
use Rattle.words.specs.Says.{describe}
use Rattle.words.specs.Decode.{enables, decode_enabled, decode_paper}
use Rattle.words.specs.declared.Family.TheVariants.{Saturating}
use Rattle.words.specs.declared.Fields.{Fields}
use Rattle.words.proofs.Answers.{not_c}
use Rattle.elements.specs.Elements.{zeros, low_bytes, vector, element}
use Rattle.elements.specs.Files.{vector_at, laid, renewed}
use Rattle.elements.proofs.Elements.{get_d-zeros, Bytes-zeros}
use Rattle.elements.proofs.Vectors.{Bytes-vector}
use Rattle.lanes.specs.Element.{new_bytes}
use Rattle.machine.specs.Step.{register, new_register, z_after}
use Rattle.machine.specs.Execute.{stepped, execute_paper}
use Rattle.machine.specs.Run.{Report, Run}
use Rattle.demands.specs.Execution.{ClearAbove}
use Rattle.demands.specs.Sweep.{SourcesApart, ClearIfV, of_partner}
use Rattle.demands.specs.SweepExamples.{Given, sweep_settings, start_z, start_za, Answer, sweep_answer, own_first, own_second, saturates, unknown, wrong_mode, wide, not_clear, into_za}
use Rattle.demands.specs.SweepExamples.{answers_hold}
use Rattle.demands.specs.SweepExamples.{closing, ClosesFrom, AllBytes, AllAccepted, NoneSaturating, NoneItsOwnSource, AllClear, Met, AllMet, StaysOpen, EachNeeded}
use Rattle.demands.proofs.Sweep.{sweep_closes, clear_at_128}

first_number : List Report → ℕ
first_number [] = 0
first_number (r ∷ rs) = r.0

-- ---- answers that rule out that a sweep closes

module _ (bytes r e : ℕ) (g : Given) (x : Answer) (is : sweep_answer bytes r e g ≡ x) where
  -- an element did not come back
  moved : x.returned ≢ x.start → ClosesFrom g → ⊥
  unfolding sweep_answer
  moved h c =
      h (sym (ap (λ (a : Answer). a.returned) is)
      ∙ ap (λ (y : Run). element bytes (register (sweep_settings g) y.z r) e) c
      ∙ ap (λ (a : Answer). a.start) is)

  -- the first partner was not accepted
  refused : first_number x.backward ≢ first_number (reverse (map of_partner x.forward)) → ClosesFrom g → ⊥
  unfolding sweep_answer
  refused h c =
      h (sym (ap (λ (a : Answer). first_number a.backward) is)
      ∙ ap (λ (y : Run). first_number y.reports) c
      ∙ ap (λ (a : Answer). first_number (reverse (map of_partner a.forward))) is)

-- ---- the lines of the table

nth : ℕ → List Answer → Answer
nth n answers = get_or answers n (record { start = 0; after = 0; returned = 0; forward = []; backward = [] })

-- what holds of a word's fields
by_fields : (d : ℕ × Fields) (P : Fields → Type 0) → P d.1 → (f : Fields) → d ≡ (0, f) → P f
by_fields d P p f e = subst P (ap (λ (x : ℕ × Fields). x.1) e) p

-- and of a word that has none
no_fields : (d : ℕ × Fields) (P : Fields → Type 0) → d.0 ≢ 0 → (f : Fields) → d ≡ (0, f) → P f
no_fields d P n f e = absurd (n (ap (λ (x : ℕ × Fields). x.0) e))

all_bytes : (g : Given) → AllBytes g
all_bytes g = (Bytes-vector _ 2 (32 * (g.vl / 16)), Bytes-zeros (g.vl / 8 * (g.vl / 8)))

stays_open : (g : Given) (Meets : Type 0) → Meets → (ClosesFrom g → ⊥) → StaysOpen g Meets
stays_open g Meets m n = record { bytes = all_bytes g; meets = m; not_closed = n }

-- what a word decodes to
abbrev decoded : Given → ℕ → ℕ × Fields
decoded g w = decode_paper (sweep_settings g) w

abbrev Wraps : Fields → Type 0
Wraps f = f.family ≢ Saturating

abbrev Sources : Fields → Type 0
Sources f = SourcesApart f.family f

-- a word of A or B, by its registers
apart : (d n m : ℕ) → eqb d n ≡ false → eqb d m ≡ false → (d ≢ n) × (d ≢ m)
apart d n m p q = (eqb-false d n p, eqb-false d m q)

-- register d, of w bytes, is clear from byte 16 on
clear_by : (s : Settings) (d w : ℕ) (z : List ℕ) → vector_bytes s ≡ w → take (w - 16) (drop (d * w + 16) z) ≡ zeros (w - 16) → ClearAbove s d z
clear_by s d w z ew e i l h =
    let j : ℕ = i - 16 in
    let at : d * vector_bytes s + i ≡ d * w + 16 + j = rw ew (omega arith) in
    let short : j < w - 16 = omega arith in
    ap (λ (k : ℕ). get_or z k 0) at
    ∙ sym (get_or-drop (d * w + 16) z j 0)
    ∙ sym (get_or-take (w - 16) (drop (d * w + 16) z) j 0 short)
    ∙ ap (λ (u : List ℕ). get_or u j 0) e
    ∙ get_d-zeros (w - 16) j

-- what a word asks of Z, by its fields
abbrev Clear : Given → List ℕ → Fields → Type 0
Clear g z f = ClearIfV f.family (sweep_settings g) f z

met : (g : Given) → AllAccepted g → NoneSaturating g → NoneItsOwnSource g → AllClear g → Met g
met g accepted wrapping sources clear = (
  all_bytes g,
  accepted,
  wrapping,
  sources,
  clear,
  sweep_closes (sweep_settings g) g.words (start_z g) (start_za g) (all_bytes g).0 (all_bytes g).1 accepted wrapping sources clear,
)

-- at VL 128 nothing is asked of Z
clear_128 : (g : Given) → g.vl ≡ 128 → AllClear g
clear_128 g e = clear_at_128 (sweep_settings g) g.words (start_z g) (start_za g) e

pub all_met : AllMet
unfolding decode_paper decode_enabled describe enables valid_settings vector_bytes array_bytes execute_paper stepped z_after
    new_register renewed laid new_bytes vector low_bytes vector_at
all_met = (
  met closing (refl, (refl, tt))
      (by_fields (decoded closing 0x0E228020) Wraps ((not_c _).1 refl), (by_fields (decoded closing 0x0E208023) Wraps ((not_c _).1 refl), tt))
      (by_fields (decoded closing 0x0E228020) Sources (apart 0 1 2 refl refl), (by_fields (decoded closing 0x0E208023) Sources (apart 3 1 0 refl refl), tt))
      (clear_128 closing refl),
  met wide (refl, tt)
      (by_fields (decoded wide 0x0E228020) Wraps ((not_c _).1 refl), tt)
      (by_fields (decoded wide 0x0E228020) Sources (apart 0 1 2 refl refl), tt)
      (by_fields (decoded wide 0x0E228020) (Clear wide (start_z wide)) (clear_by (sweep_settings wide) 0 32 (start_z wide) refl refl), tt),
  met into_za (refl, tt)
      (by_fields (decoded into_za 0xC1A20008) Wraps ((not_c _).1 refl), tt)
      (by_fields (decoded into_za 0xC1A20008) Sources tt, tt)
      (by_fields (decoded into_za 0xC1A20008) (Clear into_za (start_z into_za)) tt, tt),
)

pub each_needed : EachNeeded
unfolding nth first_number decode_paper decode_enabled describe enables valid_settings vector_bytes array_bytes execute_paper stepped vector
    low_bytes
each_needed =
    record {
      not_its_first =
          stays_open own_first _ ((refl, tt), (by_fields (decoded own_first 0x0E228021) Wraps ((not_c _).1 refl), tt), clear_128 own_first refl)
          (moved 2 1 0 own_first _ (ap (nth 1) answers_hold) (λ (e : ◌≡◌ {A = ℕ} 0x0100 0x0101). omega arith));
      not_its_second =
          stays_open own_second _ ((refl, tt), (by_fields (decoded own_second 0x0E228022) Wraps ((not_c _).1 refl), tt), clear_128 own_second refl)
          (moved 2 2 0 own_second _ (ap (nth 2) answers_hold) (λ (e : ◌≡◌ {A = ℕ} 0x0100 0x0101). omega arith));
      not_saturating =
          stays_open saturates _ ((refl, tt), (by_fields (decoded saturates 0x44BA3820) Sources tt, tt), clear_128 saturates refl)
          (refused 4 0 0 saturates _ (ap (nth 3) answers_hold) (λ (e : ◌≡◌ {A = ℕ} 6 0). omega arith));
      not_refused_3 =
          stays_open unknown _ (
            (no_fields (decoded unknown 0x0E228020) Wraps (λ (e : ◌≡◌ {A = ℕ} 3 0). omega arith), tt),
            (no_fields (decoded unknown 0x0E228020) Sources (λ (e : ◌≡◌ {A = ℕ} 3 0). omega arith), tt),
            clear_128 unknown refl,
          )
          (refused 2 0 0 unknown _ (ap (nth 4) answers_hold) (λ (e : ◌≡◌ {A = ℕ} 3 0). omega arith));
      not_refused_4 =
          stays_open wrong_mode _ (
            (by_fields (decoded wrong_mode 0x0E228020) Wraps ((not_c _).1 refl), tt),
            (by_fields (decoded wrong_mode 0x0E228020) Sources (apart 0 1 2 refl refl), tt),
            clear_128 wrong_mode refl,
          )
          (refused 2 0 0 wrong_mode _ (ap (nth 5) answers_hold) (λ (e : ◌≡◌ {A = ℕ} 4 0). omega arith));
      clear_above =
          stays_open not_clear _ (
            (refl, tt),
            (by_fields (decoded not_clear 0x0E228020) Wraps ((not_c _).1 refl), tt),
            (by_fields (decoded not_clear 0x0E228020) Sources (apart 0 1 2 refl refl), tt),
          )
          (moved 2 0 8 not_clear _ (ap (nth 6) answers_hold) (λ (e : ◌≡◌ {A = ℕ} 0 0x0101). omega arith));
    }
