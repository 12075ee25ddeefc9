-- A word that has given fields is the candidate of those fields: encode's refusal 5 rests on it, and so does the uniqueness of the word. Each
-- row is one use of the inverse law of layouts, and the arithmetic of its fields. Assumes nothing.
use Prim.Native.Nat.{ℕ, ◌+◌, ◌*◌, ◌/◌, ◌%◌, ◌^◌, ◌<◌}
use native.Mathlib.Nat.{mod-eq_of_lt}
use native.Mathlib.Omega.{arith}
use mathlib.Core.Path.{◌≡◌, refl, ◌∙◌}
use mathlib.Core.List.{List}
use mathlib.Core.Bool.{true, false}
use lib.Dec.{eqb}
use borrow.Author.Tests.{eqb-true, not-false}
use Rattle.laws.specs.Lists.{Each}
use Rattle.laws.proofs.Bits.{one_bit}
use Rattle.laws.proofs.Tests.{cond-holds, either, never_both}
use Rattle.layouts.specs.Layout.{Layout, size, matches, value, build}
use Rattle.layouts.proofs.Inverse.{Agrees, build_agrees}
use Rattle.words.specs.Rows.{row_a, row_b, row_c16, row_c32, row_d2, row_d4, row_e2, row_e4}
use Rattle.words.specs.Numbers.{bit_of}
use Rattle.words.proofs.Numbers.{number_bit}
use Rattle.words.proofs.Ranges.{by_size}
use Rattle.words.specs.Says.{As, is_one, Row, entry_a, entry_b, table, describe, fields_a16, fields_a32, fields_b, fields_c, fields_d, fields_e}
use Rattle.words.specs.declared.Fields.{Fields}
use Rattle.words.proofs.Table.{◌then◌, WhereSaid, said_each}
use Rattle.encoding.specs.Candidate.{candidate_of, values_a16, values_a32, values_b, values_c16, values_c32, values_d, values_e}

-- a word of the row that is not reserved is the candidate of its fields
abbrev Undone : ℕ → Row → Type 0
Undone w r = WhereSaid (λ (g : Fields). candidate_of g ≡ w) w r

-- ---- the numbers of the fields

lane_d : (x : ℕ) → x < 2 → (8 + 8 * x) / 16 % 2 ≡ x
lane_d = one_bit (λ x. (8 + 8 * x) / 16 % 2 ≡ x) refl refl

lane_b_lem : (x : ℕ) → x < 4 → eqb x 3 ≡ false → 8 * 2 ^ x / 16 % 4 ≡ x
lane_b_lem = by_size (λ x. 8 * 2 ^ x / 16 % 4 ≡ x) refl refl refl

-- H:L:M, H:L and M:mmmm
join3 : (h l m : ℕ) → h < 2 → l < 2 → m < 2 → ((h * 4 + l * 2 + m) / 4 % 2 ≡ h) × ((h * 4 + l * 2 + m) / 2 % 2 ≡ l) × ((h * 4 + l * 2 + m) % 2 ≡ m)
join3 h l m p q r = omega arith

join2 : (h l : ℕ) → h < 2 → l < 2 → ((h * 2 + l) / 2 % 2 ≡ h) × ((h * 2 + l) % 2 ≡ l)
join2 h l p q = omega arith

join_second : (m low : ℕ) → m < 2 → low < 16 → ((m * 16 + low) / 16 % 2 ≡ m) × ((m * 16 + low) % 16 ≡ low)
join_second m low p q = omega arith

-- ---- the rows

module _ (w : ℕ) (lt : w < 2 ^ 32) where
  one_row : (l : Layout) (vs : List ℕ) → size l ≡ 32 → matches l w ≡ true → Agrees l vs w → build l vs ≡ w
  one_row l vs e m a = build_agrees l vs w m a ∙ mod-eq_of_lt (rw e lt)

  -- ss 01, and else ss 10
  a_undone : Undone w entry_a
  a_undone m n =
      let s = value row_a w "s" in
      let unsigned = number_bit (value row_a w "U") (omega arith) in
      let subtract = number_bit (value row_a w "S") (omega arith) in
      cond-holds (λ (g : Fields). candidate_of g ≡ w) (eqb s 0b01) (fields_a16 (value row_a w)) (fields_a32 (value row_a w))
      (λ e. one_row row_a (values_a16 (fields_a16 (value row_a w))) refl m
      (let size-01 = eqb-true s 0b01 e in
      let index = join3 (value row_a w "H") (value row_a w "L") (value row_a w "M") (omega arith) (omega arith) (omega arith) in
      omega arith))
      (λ e. one_row row_a (values_a32 (fields_a32 (value row_a w))) refl m
      (let size-10 = either (eqb s 0b01) (eqb s 0b10) (not-false _ n) (λ y. absurd (never_both _ y e)) (λ y. eqb-true s 0b10 y) in
      let index = join2 (value row_a w "H") (value row_a w "L") (omega arith) (omega arith) in
      let second = join_second (value row_a w "M") (value row_a w "m") (omega arith) (omega arith) in
      omega arith))

  b_undone : Undone w entry_b
  b_undone m n =
      let unsigned = number_bit (value row_b w "U") (omega arith) in
      let subtract = number_bit (value row_b w "S") (omega arith) in
      let lane = lane_b_lem (value row_b w "s") (omega arith) n in
      one_row row_b (values_b (fields_b (value row_b w))) refl m (omega arith)

  -- S stands at the same place in both rows of C; U and S in the four rows of D and E, and z in the two of D
  subtract_c : bit_of (is_one (value row_c16 w "S")) ≡ value row_c16 w "S"
  subtract_c = number_bit _ (omega arith)

  unsigned_za : bit_of (is_one (value row_d2 w "U")) ≡ value row_d2 w "U"
  unsigned_za = number_bit _ (omega arith)

  subtract_za : bit_of (is_one (value row_d2 w "S")) ≡ value row_d2 w "S"
  subtract_za = number_bit _ (omega arith)

  lane_za : (8 + 8 * value row_d2 w "z") / 16 % 2 ≡ value row_d2 w "z"
  lane_za = lane_d _ (omega arith)

  undone : Each (Undone w) table
  undone =
      a_undone
      then b_undone
      then (λ m _. one_row row_c16 (values_c16 (fields_c 16 (value row_c16 w))) refl m (omega (arith, subtract_c)))
      then (λ m _. one_row row_c32 (values_c32 (fields_c 32 (value row_c32 w))) refl m (omega (arith, subtract_c)))
      then (λ m _. one_row row_d2 (values_d 2 (fields_d 2 (value row_d2 w))) refl m (omega (arith, unsigned_za, subtract_za, lane_za)))
      then (λ m _. one_row row_d4 (values_d 4 (fields_d 4 (value row_d4 w))) refl m (omega (arith, unsigned_za, subtract_za, lane_za)))
      then (λ m _. one_row row_e2 (values_e 2 (fields_e 2 (value row_e2 w))) refl m (omega (arith, unsigned_za, subtract_za)))
      then (λ m _. one_row row_e4 (values_e 4 (fields_e 4 (value row_e4 w))) refl m (omega (arith, unsigned_za, subtract_za)))
      then tt

-- a word with the fields f is the candidate of f
pub only : (f : Fields) (w : ℕ) → w < 2 ^ 32 → describe w ≡ As f → candidate_of f ≡ w
only f w lt = said_each (λ (g : Fields). candidate_of g ≡ w) w f (undone w lt)
