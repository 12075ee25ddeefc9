-- A saturating step by the integers of 64 bits and the library's clamped sums, for any widths. Assumes nothing.
use Rattle.std.proofs.Common.{◌≡◌, ℕ, zero, suc, ◌+◌, ◌-◌, ◌*◌, ◌%◌, ◌^◌, ◌<◌, ◌≤◌, min, Bool, true, false, ℤ, pos, negsuc, ◌+ℤ◌, ◌*ℤ◌, neg_ℤ, sym, refl, ap, ◌∙◌, ap₂, mod-lt, mod-eq_of_lt, arith, pow_pos, le-ltb, lt-ltb}
use Rattle.std.proofs.lemmas.Int.{ints, fits_signed_mul}
use Rattle.std.specs.Int.{w64, cast_unsigned, saturate_to_bits}
use Rattle.std.specs.Int.RustNames.{unsigned_abs, FitsSigned}
use lib.IntN.{+ℤ_idl}
use lib.Pow.{pow_mono}
use Rattle.laws.proofs.Tests.{by_lt}
use Rattle.elements.specs.Lanes.{IsLane}
use Rattle.lanes.specs.Lane.{s_int, low, add_sub, clamp, signed_sat, sat_step}
use Rattle.lanes.specs.Signed.{signed_value, signs, limit}
use Rattle.lanes.proofs.AnyWidth.{by_sign, value_times, double, add_signed, clamp_value, limit_le, sat_is}
use Rattle.lanes.proofs.Integers.{minus_lt, low-low}
use Rattle.lanes.proofs.Laws.{sat_step_lt}
use Rattle.lanes.proofs.Widths.{two-halves, lane_range, top_le}

-- ---- clamping

-- it is the library's
pub saturates : (n : ℕ) (z : ℤ) → signed_sat n z ≡ saturate_to_bits (n - 1) z
unfolding signed_sat signed_value
saturates n (pos m) = clamp_value (2 ^ (n - 1)) (pow_pos (n - 1)) false m
saturates n (negsuc m) =
    clamp_value (2 ^ (n - 1)) (pow_pos (n - 1)) true (suc m) ∙ ap (λ (k : ℕ). neg_ℤ (pos k)) (least (2 ^ (n - 1)) (pow_pos (n - 1)))
  where
    least : (h : ℕ) → zero < h → min (suc m) h ≡ suc (min m (h - 1))
    least h p = omega arith

-- and to fewer bits it does as much by itself
pub saturate_again : (h k : ℕ) (z : ℤ) → h ≤ k → saturate_to_bits h (saturate_to_bits k z) ≡ saturate_to_bits h z
saturate_again h k (pos m) l = let p : 2 ^ h ≤ 2 ^ k = pow_mono l in ap pos (omega (arith, pow_pos h))
saturate_again h k (negsuc m) l = let p : 2 ^ h ≤ 2 ^ k = pow_mono l in ap negsuc (omega (arith, pow_pos h))

-- ---- what the code asks

-- an element of w bits has at most 2 to w - 1 for its magnitude
pub s_int_abs : (w x : ℕ) → zero < w → x < 2 ^ w → unsigned_abs (s_int w x) ≤ 2 ^ (w - 1)
unfolding s_int
s_int_abs w x hw k = by_lt x (2 ^ (w - 1))
    (λ l. simp (lt-ltb x (2 ^ (w - 1)) l) (omega arith))
    (λ l. simp (le-ltb x (2 ^ (w - 1)) l) (rw (minus_lt x (2 ^ w) k) (omega (arith, two-halves w hw))))

-- the low bits of an integer are those of its 64
pub low_cast : (wide : ℕ) (z : ℤ) → wide ≤ 64 → FitsSigned w64 z → cast_unsigned w64 z % 2 ^ wide ≡ low wide z
unfolding low
low_cast wide (pos m) h k = refl
low_cast wide (negsuc m) h k =
    let p : m < 2 ^ 64 = omega (arith, k.sfits) in
    let e : m % 2 ^ 64 ≡ m = mod-eq_of_lt p in
    let f : 2 ^ 64 - suc m ≡ low 64 (negsuc m) = omega arith in
    ap (λ (n : ℕ). n % 2 ^ wide) f ∙ low-low wide 64 (negsuc m) h

-- where lanes are signed, their product has 63 bits
pub product_fits : (lane x y : ℕ) → IsLane lane → x < 2 ^ lane → y < 2 ^ lane → FitsSigned w64 (s_int lane x *ℤ s_int lane y)
product_fits lane x y l hx hy =
    let some = (lane_range lane l).0 in
    let bound : (z : ℕ) → z < 2 ^ lane → unsigned_abs (s_int lane z) ≤ 2 ^ 31 = λ z h. omega (arith, s_int_abs lane z (omega arith) h, top_le lane l) in
    fits_signed_mul w64 (s_int lane x) (s_int lane y) (2 ^ 31) (2 ^ 31) (bound x hx) (bound y hy) (omega arith)

twice : (z : ℤ) → z +ℤ z ≡ pos 2 *ℤ z
twice z = omega (arith, ints)

-- the whole step, by the signs and magnitudes of its integers
signs_step : (lane wide : ℕ) (subtract : Bool) (acc x y r : ℕ) (p d b k : ℤ) → zero < wide → p ≡ s_int lane x *ℤ s_int lane y
    → d ≡ signed_sat wide (p +ℤ p) → b ≡ s_int wide acc → k ≡ signed_sat wide (add_sub subtract b d) → r ≡ low wide k
    → r ≡ sat_step lane wide subtract acc x y
unfolding signed_sat
signs_step lane wide subtract acc x y r p d b k hw ep ed eb ek er =
    by_sign (s_int lane x) (λ s i ex.
    by_sign (s_int lane y) (λ t j ey.
    by_sign (s_int wide acc) (λ sa ma ea.
    let h : ℕ = 2 ^ (wide - 1) in
    let top : zero < h = pow_pos (wide - 1) in
    let v : Bool = signs s t in
    let m : ℕ = i * j in
    let dm : ℕ = min (m + m) (limit h v) in
    let product : p ≡ signed_value v m = ep ∙ ap₂ (λ (f g : ℤ). f *ℤ g) (sym ex) (sym ey) ∙ value_times s t i j in
    let twofold : p +ℤ p ≡ signed_value v (m + m) = twice p ∙ ap (λ (z : ℤ). pos 2 *ℤ z) product ∙ sym (double v m) in
    let doubled : d ≡ signed_value v dm = ed ∙ ap (clamp h) twofold ∙ clamp_value h top v (m + m) in
    let sum : add_sub subtract b d ≡ signed_value sa ma +ℤ signed_value (signs v subtract) dm =
    ap₂ (add_sub subtract) (eb ∙ sym ea) doubled ∙ add_signed subtract (signed_value sa ma) v dm in
    by_sign (signed_value sa ma +ℤ signed_value (signs v subtract) dm) (λ e n ee.
    let em : ℕ = min n (limit h e) in
    let clamped : k ≡ signed_value e em = ek ∙ ap (clamp h) (sum ∙ sym ee) ∙ clamp_value h top e n in
    let whole : em < 2 ^ wide = omega (arith, two-halves wide hw, limit_le h e) in
    sat_is lane wide subtract acc x y r h s t v v sa e i j m dm ma em hw refl ex ey refl refl
    (sym (clamp_value h top v (m + m))) ea (sym (clamp_value h top e n) ∙ ap (clamp h) ee) (omega (arith, limit_le h e))
    (er ∙ ap (low wide) (clamped ∙ sym (+ℤ_idl (signed_value e em))) ∙ ap (λ (k : ℕ). low wide (pos zero +ℤ signed_value e k)) (sym (mod-eq_of_lt whole)))))))

-- there is one number of no bits
no_bits : (n a b : ℕ) → n ≤ zero → a < 2 ^ n → b < 2 ^ n → a ≡ b
no_bits zero a b h ha hb = omega arith
no_bits (suc n) a b h ha hb = absurd (omega arith)

-- the whole step, where each sum is clamped to 64 bits first
pub sat_step_is : (lane wide : ℕ) (subtract : Bool) (acc x y r u : ℕ) (p t d b a k : ℤ) → wide ≤ 64 → p ≡ s_int lane x *ℤ s_int lane y
    → t ≡ saturate_to_bits 63 (p +ℤ p) → d ≡ signed_sat wide t → b ≡ s_int wide acc
    → a ≡ saturate_to_bits 63 (add_sub subtract b d) → k ≡ signed_sat wide a
    → FitsSigned w64 k → u ≡ cast_unsigned w64 k → r ≡ u % 2 ^ wide
    → (r ≡ sat_step lane wide subtract acc x y) × (r < 2 ^ wide)
sat_step_is lane wide subtract acc x y r u p t d b a k h ep et ed eb ea ek lk eu er =
    let again : (z : ℤ) → signed_sat wide (saturate_to_bits 63 z) ≡ signed_sat wide z =
    λ z. saturates wide (saturate_to_bits 63 z) ∙ saturate_again (wide - 1) 63 z (omega arith) ∙ sym (saturates wide z) in
    let doubled : d ≡ signed_sat wide (p +ℤ p) = ed ∙ ap (signed_sat wide) et ∙ again (p +ℤ p) in
    let all : k ≡ signed_sat wide (add_sub subtract b d) = ek ∙ ap (signed_sat wide) ea ∙ again (add_sub subtract b d) in (
      by_lt zero wide
          (λ l. signs_step lane wide subtract acc x y r p d b k l ep doubled eb all (er ∙ ap (λ (n : ℕ). n % 2 ^ wide) eu ∙ low_cast wide k h lk))
          (λ l. no_bits wide r (sat_step lane wide subtract acc x y) l (rw er (mod-lt u (pow_pos wide))) (sat_step_lt lane wide subtract acc x y)),
      rw er (mod-lt u (pow_pos wide)),
    )
