-- The rules run: the paper's numbers, what a sum contains, and which sums are valid.
use Rattle.std.specs.Prelude.{ℕ, zero, suc, ◌≡◌, refl, Bool, cond, List, [], ◌∷◌, ◌++◌}
use Rattle.settings.specs.Sets.{has_features, has_modes, named_numbers}
use Rattle.settings.specs.Valid.{valid_length, valid_features, valid_modes}

-- the numbers below n that pass
abbrev passing : (ℕ → Bool) → ℕ → List ℕ
passing test zero = []
passing test (suc n) = passing test n ++ cond (test n) (n ∷ []) []

-- "AdvSIMD 1, SVE2 2, SME 4, SME2 8, I16I64 16", "SM 1, ZA 2"
numbers_named : named_numbers ≡ 1 ∷ 2 ∷ 4 ∷ 8 ∷ 16 ∷ 1 ∷ 2 ∷ []
numbers_named = refl

-- SME and I16I64 contain the sums of these two and no other number, also none above the sum of all five
features_contained : passing (has_features 20) 128 ≡ 0 ∷ 4 ∷ 16 ∷ 20 ∷ []
features_contained = refl

modes_contained : (passing (has_modes 2) 16 ≡ 0 ∷ 2 ∷ []) × (passing (has_modes 3) 16 ≡ 0 ∷ 1 ∷ 2 ∷ 3 ∷ [])
modes_contained = (refl, refl)

-- the first two features are free; SME2 and I16I64 come only with SME
features_valid : passing valid_features 64 ≡ 0 ∷ 1 ∷ 2 ∷ 3 ∷ 4 ∷ 5 ∷ 6 ∷ 7 ∷ 12 ∷ 13 ∷ 14 ∷ 15 ∷ 20 ∷ 21 ∷ 22 ∷ 23 ∷ 28 ∷ 29 ∷ 30 ∷ 31 ∷ []
features_valid = refl

-- without SME no mode is on
modes_without : passing (valid_modes 3) 8 ≡ 0 ∷ []
modes_without = refl

modes_with : passing (valid_modes 4) 8 ≡ 0 ∷ 1 ∷ 2 ∷ 3 ∷ []
modes_with = refl

lengths_valid : passing valid_length 1025 ≡ 128 ∷ 256 ∷ 512 ∷ []
lengths_valid = refl
