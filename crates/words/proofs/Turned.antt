-- Flipping S flips `subtract` and nothing else: one law over the rows, and what it asks of each. Assumes nothing.
use Prim.Native.Nat.{ℕ, ◌<◌}
use Prim.Native.Char.{Char, code}
use native.Mathlib.Omega.{arith}
use mathlib.Core.Path.{◌≡◌, refl, ap, ◌∙◌}
use mathlib.Core.Bool.{Bool, true, false, not, cond}
use lib.Dec.{eqb}
use lib.Bits.{bit_xor}
use borrow.Author.Tests.{eqb-true, eqb-false}
use Rattle.laws.specs.Lists.{Each}
use Rattle.laws.proofs.Bits.{one_bit}
use Rattle.laws.proofs.Tests.{cond-holds}
use Rattle.layouts.specs.Layout.{Letters, part, value, mask_of, flip}
use Rattle.layouts.proofs.Flipped.{others_kept, one_flipped}
use Rattle.words.specs.Numbers.{bit_of}
use Rattle.words.specs.Says.{Row, table, fields_a16, fields_a32, is_one}
use Rattle.words.specs.Partner.{turned}
use Rattle.words.specs.Sign.{sign_at, sign_of}
use Rattle.words.specs.declared.Family.{Family}
use Rattle.words.specs.declared.Family.TheVariants.{ByElement, Vector, Saturating, LongLong, Long}
use Rattle.words.proofs.Numbers.{bit_back}
use Rattle.words.proofs.Table.{◌then◌}

-- the letters with S the other bit
abbrev pub other_s : Letters → Letters
other_s v a = cond (eqb (code "S") (code a)) (bit_of (not (is_one (v "S")))) (v a)

-- what is asked of a row: S is one bit, where its family has it, `subtract` is read off S, and nothing else is
pub record Turns (r : Row) : Type 0 where
  pub family : Family
  pub of_family : (v : Letters) → (r.fields v).family ≡ family
  pub s_at : (w : ℕ) → value r.layout w "S" ≡ part w (sign_at family) 1
  pub mask : mask_of r.layout (code "S") ≡ sign_of family
  pub size_kept : (v : Letters) → r.reserved (other_s v) ≡ r.reserved v
  pub fields_turned : (v : Letters) → r.fields (other_s v) ≡ turned (r.fields v)

-- ---- the law

other_bit : (b : ℕ) → b < 2 → bit_xor b 1 ≡ bit_of (not (is_one b))
other_bit = one_bit (λ b. bit_xor b 1 ≡ bit_of (not (is_one b))) refl refl

module _ (r : Row) (t : Turns r) (w : ℕ) where
  flipped_s : value r.layout (flip r.layout "S" w) "S" ≡ bit_of (not (is_one (value r.layout w "S")))
  flipped_s =
      one_flipped r.layout "S" (sign_at t.family) w t.s_at t.mask
      ∙ other_bit (value r.layout w "S") (rw (t.s_at w) (omega arith))

  flipped_letter : (a : Char) → value r.layout (flip r.layout "S" w) a ≡ other_s (value r.layout w) a
  flipped_letter a =
      cond-holds (λ (n : ℕ). value r.layout (flip r.layout "S" w) a ≡ n) (eqb (code "S") (code a)) _ _
      (λ e. rw (← eqb-true (code "S") (code a) e) flipped_s)
      (λ e. others_kept r.layout "S" a w (eqb-false _ _ e))

  -- a word with S flipped has the same letters, but for S
  flipped_letters : value r.layout (flip r.layout "S" w) ≡ other_s (value r.layout w)
  flipped_letters = λ i a. flipped_letter a i

  pub flipped_reserved : r.reserved (value r.layout (flip r.layout "S" w)) ≡ r.reserved (value r.layout w)
  flipped_reserved = ap r.reserved flipped_letters ∙ t.size_kept (value r.layout w)

  pub flipped-fields : r.fields (value r.layout (flip r.layout "S" w)) ≡ turned (r.fields (value r.layout w))
  flipped-fields = ap r.fields flipped_letters ∙ t.fields_turned (value r.layout w)

-- ---- the rows

module _ (v : Letters) where
  s_back : is_one (bit_of (not (is_one (v "S")))) ≡ not (is_one (v "S"))
  s_back = bit_back (not (is_one (v "S")))

  -- A, by its size
  family_a : (b : Bool) → (cond b (fields_a16 v) (fields_a32 v)).family ≡ ByElement
  family_a true = refl
  family_a false = refl

  turned_a : (b : Bool) → cond b (turned (fields_a16 v)) (turned (fields_a32 v)) ≡ turned (cond b (fields_a16 v) (fields_a32 v))
  turned_a true = refl
  turned_a false = refl

turns : {r : Row} (family : Family) → ((w : ℕ) → value r.layout w "S" ≡ part w (sign_at family) 1) → mask_of r.layout (code "S") ≡ sign_of family
    → ((v : Letters) → (r.fields v).family ≡ family) → ((v : Letters) → r.reserved (other_s v) ≡ r.reserved v) → ((v : Letters) → r.fields (other_s v) ≡ turned (r.fields v))
    → Turns r
turns family s m f z k = record { family = family; s_at = s; mask = m; of_family = f; size_kept = z; fields_turned = k }

pub table_turns : Each Turns table
unfolding turned
table_turns =
    turns ByElement (λ w. refl) refl (λ v. family_a v (eqb (v "s") 0b01)) (λ v. refl) (λ v. rw (s_back v) (turned_a v (eqb (v "s") 0b01)))
    then turns Vector (λ w. refl) refl (λ v. refl) (λ v. refl) (λ v. rw (s_back v))
    then turns Saturating (λ w. refl) refl (λ v. refl) (λ v. refl) (λ v. rw (s_back v))
    then turns Saturating (λ w. refl) refl (λ v. refl) (λ v. refl) (λ v. rw (s_back v))
    then turns LongLong (λ w. refl) refl (λ v. refl) (λ v. refl) (λ v. rw (s_back v))
    then turns LongLong (λ w. refl) refl (λ v. refl) (λ v. refl) (λ v. rw (s_back v))
    then turns Long (λ w. refl) refl (λ v. refl) (λ v. refl) (λ v. rw (s_back v))
    then turns Long (λ w. refl) refl (λ v. refl) (λ v. refl) (λ v. rw (s_back v))
    then tt
