-- Kinds: the top byte of a word decides which rows can match, and what a word of a kind says. Assumes nothing.
use Prim.Native.Nat.{ℕ, zero, suc, ◌+◌, ◌*◌, ◌/◌, ◌%◌, ◌^◌, ◌<◌}
use native.Mathlib.Omega.{arith}
use mathlib.Core.Path.{◌≡◌, refl}
use mathlib.Core.Logic.{◌⊎◌, ◌≢◌}
use mathlib.Core.List.{◌++◌}
use mathlib.Core.Bool.{true, false}
use Rattle.laws.proofs.Tests.{one_of_three}
use Rattle.settings.specs.Valid.{valid_settings}
use Rattle.settings.specs.declared.Settings.{Settings}
use Rattle.layouts.specs.Layout.{value}
use Rattle.layouts.proofs.Apart.{other_top}
use Rattle.words.specs.Rows.{row_b, row_c16, row_c32, row_d2, row_d4, row_e2, row_e4}
use Rattle.words.specs.Says.{As, Nothing, fields_b, table_c, table_za, says_first, describe}
use Rattle.words.specs.Decode.{enables, enables_family, no_fields, decode_enabled, decode_paper}
use Rattle.words.specs.Kinds.{fields_as, family_as}
use Rattle.words.specs.declared.Kind.{Kind}
use Rattle.words.specs.declared.Kind.TheVariants as kind
use Rattle.words.proofs.Ranges.{in_range}

-- ---- the top byte

module _ (w : ℕ) (h : w < 2 ^ 32) where
  -- what the rows after A and B say of a word, by its top byte
  pub only_c : w / 16777216 ≡ 0b01000100 → says_first (table_c ++ table_za) w ≡ says_first table_c w
  only_c e = let n : w / 16777216 ≢ 0b11000001 = λ z. omega arith in rw (other_top row_d2 w refl h n, other_top row_d4 w refl h n, other_top row_e2 w refl h n, other_top row_e4 w refl h n)

  pub only_za : w / 16777216 ≡ 0b11000001 → says_first (table_c ++ table_za) w ≡ says_first table_za w
  only_za e = let n : w / 16777216 ≢ 0b01000100 = λ z. omega arith in rw (other_top row_c16 w refl h n, other_top row_c32 w refl h n)

  pub no_row : w / 16777216 ≢ 0b01000100 → w / 16777216 ≢ 0b11000001 → says_first (table_c ++ table_za) w ≡ Nothing
  no_row n m = rw (other_top row_c16 w refl h n, other_top row_c32 w refl h n, other_top row_d2 w refl h m, other_top row_d4 w refl h m, other_top row_e2 w refl h m, other_top row_e4 w refl h m)

-- ---- what a kind says

-- the family of a kind's fields is the kind's
pub family_as_lem : (k : Kind) (w : ℕ) → (fields_as k w).family ≡ family_as k
unfolding fields_as
family_as_lem kind.ByElement16 w = refl
family_as_lem kind.ByElement32 w = refl
family_as_lem kind.Vector w = refl
family_as_lem kind.Saturating16 w = refl
family_as_lem kind.Saturating32 w = refl
family_as_lem kind.LongLong2 w = refl
family_as_lem kind.LongLong4 w = refl
family_as_lem kind.Long2 w = refl
family_as_lem kind.Long4 w = refl

-- only D's rule reads the lane, so that D's lane will do for every kind
pub enables_as : (features : ℕ) (k : Kind) (w : ℕ) → enables_family features (family_as k) (8 + 8 * (w / 4194304 % 2)) ≡ enables features (fields_as k w)
unfolding fields_as enables
enables_as features kind.ByElement16 w = refl
enables_as features kind.ByElement32 w = refl
enables_as features kind.Vector w = refl
enables_as features kind.Saturating16 w = refl
enables_as features kind.Saturating32 w = refl
enables_as features kind.LongLong2 w = refl
enables_as features kind.LongLong4 w = refl
enables_as features kind.Long2 w = refl
enables_as features kind.Long4 w = refl

-- a lane of B is not that of the reserved size
not_reserved : (s : ℕ) → s < 4 → (8 * 2 ^ s ≡ 8) ⊎ ((8 * 2 ^ s ≡ 16) ⊎ (8 * 2 ^ s ≡ 32)) → s < 3
not_reserved zero h l = omega arith
not_reserved (suc zero) h l = omega arith
not_reserved (suc (suc zero)) h l = omega arith
not_reserved (suc (suc (suc zero))) h l = let p : 64 < 64 = one_of_three (λ n. n < 64) 8 16 32 (omega arith) (omega arith) (omega arith) 64 l in absurd (omega arith)
not_reserved (suc (suc (suc (suc s)))) h l = absurd (omega arith)

-- so a word that says the fields of B has a size that is not reserved
pub size_of_b : (w : ℕ) → describe w ≡ As (fields_b (value row_b w)) → value row_b w "s" < 3
size_of_b w e = not_reserved (value row_b w "s") (omega arith) (in_range w (fields_b (value row_b w)) e).lane

some_lane : (l : ℕ) → (l ≡ 8) ⊎ ((l ≡ 16) ⊎ (l ≡ 32)) → 0 < l
some_lane = one_of_three (λ l. 0 < l) 8 16 32 (omega arith) (omega arith) (omega arith)

-- no word says the zeros of a refusal
pub says_zeros : (w : ℕ) → describe w ≡ As no_fields → ⊥
says_zeros w e = let p : 0 < 0 = some_lane 0 (in_range w no_fields e).lane in omega arith

-- ---- the answer to a word

pub no_kind : (features w : ℕ) → describe w ≡ Nothing → decode_enabled features w ≡ (3, no_fields)
unfolding decode_enabled
no_kind features w e = rw e

-- w is of kind k, and the features enable it or do not
module _ (features w : ℕ) (k : Kind) (e : describe w ≡ As (fields_as k w)) where
  pub kind_enabled : enables features (fields_as k w) ≡ true → decode_enabled features w ≡ (0, fields_as k w)
  unfolding decode_enabled
  kind_enabled h = rw (e, h)

  pub kind_refused : enables features (fields_as k w) ≡ false → decode_enabled features w ≡ (3, no_fields)
  unfolding decode_enabled
  kind_refused h = rw (e, h)

-- under valid settings decode answers by the features alone
pub decodes_enabled : (s : Settings) (w : ℕ) → valid_settings s ≡ true → decode_paper s w ≡ decode_enabled s.features.0 w
unfolding decode_paper
decodes_enabled s w v = rw v
