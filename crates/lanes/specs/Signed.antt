-- An integer by its sign and magnitude: what proofs/AnyWidth.antt says of a step, and Wrapping and Saturation beside it, by which the code meets its
-- contracts. No promise of `lane_step` or `sat_step` names it.
use Rattle.std.specs.Prelude.{ℕ, ◌-◌, Bool, true, false, cond, not, ℤ, pos, neg_ℤ}
use Rattle.std.specs.Bool.{beq}

-- the integer of that sign (true: negative) and magnitude
unfoldable pub signed_value : Bool → ℕ → ℤ
signed_value false m = pos m
signed_value true m = neg_ℤ (pos m)

-- the sign of a product, and of what is added in place of a number that is subtracted
abbrev pub signs : Bool → Bool → Bool
signs s t = not (beq s t)

-- the largest magnitude of that sign from -top to top - 1
abbrev pub limit : ℕ → Bool → ℕ
limit top neg = cond neg top (top - 1)
