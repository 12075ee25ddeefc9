-- The rules by SME alone: with it every sum of the features and of the modes is valid, and without it a valid sum of features is below 4 and
-- no mode is on. Assumes nothing.
use Prim.Native.Nat.{ℕ, zero, suc, ◌/◌, ◌%◌, ◌<◌}
use native.Mathlib.Omega.{arith}
use mathlib.Core.Path.{◌≡◌, refl, sym, ◌∙◌}
use mathlib.Core.Bool.{Bool, true, false, not, ◌&&◌, ◌||◌, and-true}
use lib.Dec.{eqb, leb, ltb, leb-zero}
use borrow.Author.Tests.{ltb-true, lt-ltb, leb-false, eqb-true, eq-eqb, not-true}
use Rattle.laws.proofs.Tests.{all_three, either, never_both}
use Rattle.settings.specs.Sets.{has_features, sme, sme2, i16i64, has_modes, sm, za}
use Rattle.settings.specs.Valid.{valid_features, valid_modes}

-- ---- with SME

-- two rules that each ask for SME
with_sme : (t x y s : Bool) → s ≡ true → t ≡ (t && (not x || s) && (not y || s))
with_sme true true true true h = refl
with_sme true true true false h = sym h
with_sme true true false true h = refl
with_sme true true false false h = sym h
with_sme true false true s h = sym h
with_sme true false false s h = refl
with_sme false x y s h = refl

pub features_with : (f : ℕ) → has_features f sme ≡ true → ltb f 32 ≡ valid_features f
features_with f h = with_sme (ltb f 32) (has_features f sme2) (has_features f i16i64) (has_features f sme) h

pub modes_with : (f m : ℕ) → has_features f sme ≡ true → ltb m 4 ≡ valid_modes f m
modes_with f m h = with_sme (ltb m 4) (has_modes m sm) (has_modes m za) (has_features f sme) h

-- ---- without SME

-- two tests that pass together are one
alike : (s t : Bool) → (s ≡ true → t ≡ true) → (t ≡ true → s ≡ true) → s ≡ t
alike true t k l = sym (k refl)
alike false true k l = l refl
alike false false k l = refl

-- what asks for SME is not there
without : (x s : Bool) → s ≡ false → (not x || s) ≡ true → x ≡ false
without x s h e = either (not x) s e (λ n. not-true x n) (λ y. absurd (never_both s y h))

-- a sum that lacks a named number has 0 at its bit
lacks : (s : Bool) (x : ℕ) → leb 1 x ≡ s → s ≡ false → x ≡ 0
lacks s x e h = let l = leb-false 1 x (e ∙ h) in omega arith

-- the bit that each feature's test reads: a bit that is not named is not asked for
sme_at : (f : ℕ) → leb 1 (f / 4 % 2) ≡ has_features f sme
sme_at f = simp (leb-zero, and-true)

sme2_at : (f : ℕ) → leb 1 (f / 8 % 2) ≡ has_features f sme2
sme2_at f = simp (leb-zero, and-true)

i16i64_at : (f : ℕ) → leb 1 (f / 16 % 2) ≡ has_features f i16i64
i16i64_at f = simp leb-zero

below_4 : (f : ℕ) → has_features f sme ≡ false → valid_features f ≡ true → f < 4
below_4 f h v =
    let rules = all_three _ _ _ v in
    let below-32 = ltb-true f 32 rules.0 in
    let no-i16i64 : f / 16 % 2 ≡ 0 = lacks _ _ (i16i64_at f) (without _ _ h rules.2) in
    let below-16 : f < 16 = omega arith in
    let no-sme2 : f / 8 % 2 ≡ 0 = lacks _ _ (sme2_at f) (without _ _ h rules.1) in
    let below-8 : f < 8 = omega arith in
    let no-sme : f / 4 % 2 ≡ 0 = lacks _ _ (sme_at f) h in
    omega arith

four_valid : (f : ℕ) → f < 4 → valid_features f ≡ true
four_valid zero h = refl
four_valid (suc zero) h = refl
four_valid (suc (suc zero)) h = refl
four_valid (suc (suc (suc zero))) h = refl
four_valid (suc (suc (suc (suc f)))) h = absurd (omega arith)

pub features_without : (f : ℕ) → has_features f sme ≡ false → ltb f 4 ≡ valid_features f
features_without f h = alike (ltb f 4) (valid_features f) (λ e. four_valid f (ltb-true f 4 e)) (λ v. lt-ltb f 4 (below_4 f h v))

no_mode : (f m : ℕ) → has_features f sme ≡ false → valid_modes f m ≡ true → m ≡ 0
no_mode f m h v =
    let rules = all_three _ _ _ v in
    let most = ltb-true m 4 rules.0 in
    let no-sm : m % 2 ≡ 0 = lacks _ _ (simp (leb-zero, and-true)) (without (has_modes m sm) _ h rules.1) in
    let no-za : m / 2 % 2 ≡ 0 = lacks _ _ (simp leb-zero) (without (has_modes m za) _ h rules.2) in
    omega arith

zero_valid : (f m : ℕ) → m ≡ 0 → valid_modes f m ≡ true
zero_valid f m h = rw h

pub modes_without : (f m : ℕ) → has_features f sme ≡ false → eqb m 0 ≡ valid_modes f m
modes_without f m h = alike (eqb m 0) (valid_modes f m) (λ e. zero_valid f m (eqb-true m 0 e)) (λ v. eq-eqb m 0 (no_mode f m h v))
