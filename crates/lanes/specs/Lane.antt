-- One lane, in document 01's words and with the operators of Arm's pseudocode, over the integers and for any widths. An element is the number of
-- its bits.
use Rattle.std.specs.Prelude.{ℕ, ◌-◌, ◌%◌, ◌^◌, Bool, true, false, cond, ℤ, pos, negsuc, ◌+ℤ◌, ◌-ℤ◌, ◌*ℤ◌, neg_ℤ, int_lt, nat_lt}

-- SInt(x), of w bits: the integer that the bits are in two's complement
unfoldable pub s_int : ℕ → ℕ → ℤ
s_int w x = cond (nat_lt x (2 ^ (w - 1))) (pos x) (pos x -ℤ pos (2 ^ w))

-- Int(x, unsigned): UInt(x), or SInt(x)
unfoldable pub int_of : ℕ → Bool → ℕ → ℤ
int_of w true x = pos x
int_of w false x = s_int w x

-- z<n-1:0>, the low n bits of z in two's complement: z modulo 2 to n
unfoldable pub low : ℕ → ℤ → ℕ
low n (pos k) = k % 2 ^ n
low n (negsuc k) = (2 ^ n - 1) - k % 2 ^ n

-- a + b, or a - b
abbrev pub add_sub : Bool → ℤ → ℤ → ℤ
add_sub false a b = a +ℤ b
add_sub true a b = a -ℤ b

-- "Products are added to or subtracted from the double-width element, modulo 2 to its width."
unfoldable pub product : ℕ → ℕ → Bool → ℕ → ℕ → ℕ
product lane wide unsigned x y = low wide (int_of lane unsigned x *ℤ int_of lane unsigned y)

unfoldable pub accumulate : ℕ → Bool → ℕ → ℕ → ℕ
accumulate n subtract a p = low n (add_sub subtract (pos a) (pos p))

unfoldable pub lane_step : ℕ → ℕ → Bool → Bool → ℕ → ℕ → ℕ → ℕ
lane_step lane wide unsigned subtract a x y = accumulate wide subtract a (product lane wide unsigned x y)

-- z, but at most top - 1 and at least -top
unfoldable pub clamp : ℕ → ℤ → ℤ
clamp top z = cond (int_lt (pos (top - 1)) z) (pos (top - 1)) (cond (int_lt z (neg_ℤ (pos top))) (neg_ℤ (pos top)) z)

-- SignedSat(z, n): z clamped to the signed numbers of n bits
unfoldable pub signed_sat : ℕ → ℤ → ℤ
signed_sat n z = clamp (2 ^ (n - 1)) z

-- "The doubled product is clamped to the signed double width; the sum or difference is clamped again."
unfoldable pub sat_step : ℕ → ℕ → Bool → ℕ → ℕ → ℕ → ℕ
sat_step lane wide subtract a x y =
    low wide (signed_sat wide (add_sub subtract (s_int wide a) (signed_sat wide (pos 2 *ℤ (s_int lane x *ℤ s_int lane y)))))

-- one lane of any family; only C's saturates
unfoldable pub step : Bool → ℕ → ℕ → Bool → Bool → ℕ → ℕ → ℕ → ℕ
step true lane wide unsigned subtract a x y = sat_step lane wide subtract a x y
step false lane wide unsigned subtract a x y = lane_step lane wide unsigned subtract a x y
