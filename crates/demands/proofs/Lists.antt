-- The statements of specs/Lists.antt, proved, but for those on lists that are written (Written.antt). Assumes nothing.
use Prim.Native.Nat.{ℕ, ◌+◌, ◌≤◌, ◌<◌}
use native.Mathlib.Omega.{arith}
use native.Mathlib.Nat.{min-le_left}
use native.Mathlib.Decide.{dec_le}
use mathlib.Core.Path.{◌≡◌, refl, sym, ap, ◌∙◌}
use mathlib.Core.Logic.{◌≢◌}
use mathlib.Core.List.{List, [], ◌∷◌, ◌++◌}
use lib.ListN.{length, take, drop, length-append, length-take, length-drop}
use lib.Seq.{length-take-le}
use borrow.Author.Tests.{ne_eqb}
use Rattle.laws.proofs.Lists.{first_decide}
use Rattle.settings.specs.declared.Refusal.{Refusal}
use Rattle.settings.specs.declared.Refusal.TheVariants.{ExtraBytes}
use Rattle.settings.specs.declared.Settings.{Settings}
use Rattle.numbers.proofs.Places.{number_kept}
use Rattle.numbers.proofs.Rows.{row_kept}
use Rattle.runlist.specs.Plan.{lengths_of, Found, found, refused, Asked, most_words, ended_at, words_from, asking, settled_from, headed, plan_of}
use Rattle.runlist.specs.declared.Lengths.{Lengths}
use Rattle.runlist.specs.RunList.{carried_out, run_paper}
use Rattle.runlist.proofs.Plans.{not-refused, words_counted, z_read}
use Rattle.demands.specs.Lists.{longest, AtMostLongest, OnlyWhole, FirstBytesDecide, EnoughBytes, RunOfEnough, LengthsHold, RefusedKeeps, PlaceInside, PlaceNear, RunSmall, OfList, RefusedWith}
use Rattle.demands.proofs.Reading.{Worded, PartsOf, parts_of, by_cause, far}

-- ---- how long a list can be

some_bytes : (t : List ℕ) → t ≢ [] → 0 < length t
some_bytes [] h = absurd (h refl)
some_bytes (b ∷ t) h = omega arith

module _ (list t : List ℕ) (h : t ≢ []) where
  words_more : (lent : Lengths) (at : ℕ) (ws : List ℕ) → Worded list lent at ws → words_from (list ++ t) lent at ≡ refused ExtraBytes (length list)
  words_more lent at ws w =
      sym (words_counted (list ++ t) lent at (length ws) w.from (number_kept list t at (length ws) w.from w.count) w.few w.reported)
      ∙ ap (ended_at (list ++ t)) (row_kept list t w.from (length ws) ws (length list) w.row)
      ∙ simp (ne_eqb (length list) (length (list ++ t)) (λ (q : length list ≡ length (list ++ t)). omega (arith, length-append list t, some_bytes t h)))

  parts_more : (lent : Lengths) (a : Asked) → PartsOf list lent a → plan_of (list ++ t) lent ≡ refused ExtraBytes (length list)
  unfolding plan_of
  parts_more lent a m =
      ap (headed (list ++ t) lent) (row_kept list t 0 7 m.head m.at m.header)
      ∙ ap (λ (s : Settings). settled_from (list ++ t) lent s m.at) (sym m.settings_are)
      ∙ sym (z_read (list ++ t) lent a.settings m.at m.valid m.exact (omega (arith, m.there, length-append list t)))
      ∙ ap (asking a.settings (take lent.z (drop m.at (list ++ t)))) (words_more lent (m.at + lent.z) a.words m.words_are)

pub only_whole : OnlyWhole
only_whole list lent a e t h = parts_more list t h lent a (parts_of list lent a e)

pub first_bytes_decide : FirstBytesDecide
first_bytes_decide list t lent h = far list t lent h

-- a longer list would stay accepted with a byte after it
pub at_most_longest : AtMostLongest
at_most_longest list lent a e =
    elim (dec_le (length list) longest) [
      | yes y ↦ y
      | no n ↦
          let whole = only_whole list lent a e (0 ∷ []) (λ (f : 0 ∷ [] ≡ []). let z : ◌≡◌ {A = ℕ} 0 1 = cc in omega arith) in
          not-refused a ExtraBytes (length list) (sym whole ∙ first_bytes_decide list (0 ∷ []) lent (omega arith) ∙ e)
    ]

pub enough_bytes : EnoughBytes
enough_bytes k h list lent =
    first_decide (λ (l : List ℕ). plan_of l lent) k (λ xs ys (e : length xs ≡ k). first_bytes_decide xs ys lent (omega arith)) list

pub run_of_enough : RunOfEnough
unfolding run_paper
run_of_enough k h list z za report = ap (λ (x : Found Asked). carried_out x z za report) (enough_bytes k h list (lengths_of z za report))

-- ---- what holds of an accepted list

pub lengths_hold : LengthsHold
lengths_hold list lent a e =
    let m = parts_of list lent a e in
    record {
      valid = m.valid;
      exact = m.exact;
      z_bytes = ap length m.z_are ∙ length-take-le lent.z (drop m.at list) (omega (arith, m.there, length-drop m.at list));
      few = m.words_are.few;
      reported = m.words_are.reported;
    }

-- ---- what holds of a refused list

kept : (x : Found Asked) (z za report : List ℕ) → (carried_out x z za report).number ≢ 0
    → ((carried_out x z za report).z ≡ z) × ((carried_out x z za report).za ≡ za) × ((carried_out x z za report).report ≡ report)
kept (found a) z za report h = absurd (h refl)
kept (refused r p) z za report h = (refl, refl, refl)

pub refused_keeps : RefusedKeeps
unfolding run_paper
refused_keeps list z za report = kept (plan_of list (lengths_of z za report)) z za report

-- the place is in the list or at its end, and the refusal is one of a list's
abbrev Told : ℕ → Refusal → ℕ → Type 0
Told size r p = (p ≤ size) × OfList r p

told : (list : List ℕ) (lent : Lengths) (r : Refusal) (p : ℕ) → plan_of list lent ≡ refused r p → Told (length list) r p
told list lent =
    by_cause list lent (Told (length list))
    (record {
      ends = λ p h. (h, tt);
      bad = λ p h. (h, tt);
      settings = (omega arith, refl);
      lengths = λ head at e v l. (omega arith, refl);
      report = λ n h k. (omega arith, refl);
      many = λ p h. (h, tt);
      extra = λ p h. (h, tt);
    })

pub place_inside : PlaceInside
place_inside list lent r p e = (told list lent r p e).0

pub place_near : PlaceNear
place_near list lent r p e =
    let k : ℕ = longest + 1 in
    let inside : p ≤ length (take k list) = place_inside (take k list) lent r p (enough_bytes k (omega arith) list lent ∙ e) in
    omega (arith, inside, length-take k list, min-le_left k (length list))

-- what was found is at most as many words as a list may have, and what was refused has its place near
small : (list : List ℕ) (z za report : List ℕ) (x : Found Asked) → plan_of list (lengths_of z za report) ≡ x
    → ((carried_out x z za report).place ≤ longest + 1) × ((carried_out x z za report).words ≤ most_words)
small list z za report (found a) e = (omega arith, (lengths_hold list (lengths_of z za report) a e).few)
small list z za report (refused r p) e = (place_near list (lengths_of z za report) r p e, omega arith)

pub run_small : RunSmall
unfolding run_paper
run_small list z za report = small list z za report (plan_of list (lengths_of z za report)) refl

pub refused_with_lem : RefusedWith
refused_with_lem list lent r p e = (told list lent r p e).1
