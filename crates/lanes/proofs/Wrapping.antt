-- A wrapping step, for any widths. Assumes nothing.
use Rattle.std.proofs.Common.{◌≡◌, ℕ, zero, suc, ◌+◌, ◌-◌, ◌*◌, ◌%◌, ◌^◌, ◌<◌, ◌≤◌, Bool, true, false, ℤ, pos, ◌-ℤ◌, ◌*ℤ◌, refl, sym, ap, ap₂, subst, ◌∙◌, mod-lt, mod-eq_of_lt, mul-le-mul_right, add-zero, zero-mul, lt_of_lt_of_le, lt_of_le_of_lt, arith, pow_pos, pow_mono}
use native.Mathlib.Nat.{mod-add-mod, add-mul-mod_self_right}
use Rattle.lanes.specs.Lane.{s_int, int_of, low, product, accumulate, lane_step}
use Rattle.lanes.proofs.Integers.{low-low}
use Rattle.lanes.specs.Signed.{signed_value}
use Rattle.lanes.specs.Widths.{raise}
use Rattle.lanes.proofs.AnyWidth.{by_sign, accumulate_signed, Less, by_less, less_is, product_is, raised_product, some_lane, added, subtracted, lane_is}
use Rattle.std.specs.Int.{w64, cast_unsigned}
use Rattle.std.specs.Int.RustNames.{FitsSigned}

-- ---- the product

-- numbers of 32 bits have one of 64
pub below : {a b : ℕ} → a < 2 ^ 32 → b < 2 ^ 32 → a * b < 2 ^ 64
below {a} {b} ha hb =
    let few : a * b ≤ (2 ^ 32 - 1) * b = mul-le-mul_right b (omega arith) in
    omega arith

few : (m : ℕ) → m < 2 ^ m
few zero = omega arith
few (suc m) = omega (arith, few m)

-- of unsigned lanes, which are raised by nothing: of as many bits as hold the two, since it is the same for any
pub unsigned_is : (lane x y : ℕ) → x * y < 2 ^ 64 → x * y ≡ product lane 64 true x y
unfolding product int_of
unsigned_is lane x y h =
    let n : ℕ = suc (x + y) in
    let all : x + y < 2 ^ n = lt_of_lt_of_le (few (x + y)) (pow_mono (omega arith)) in
    let lx : x < 2 ^ n = omega arith in
    let ly : y < 2 ^ n = omega arith in
    product_is n 64 true x y 0 x y (x * y) (x * y) (omega arith) lx ly refl
    (same n x lx) (same n y ly) (same 64 (x * y) h) h (rw zero-mul (sym (same 64 (x * y) h)))
  where
    same : (k m : ℕ) → m < 2 ^ k → m ≡ (m + 0) % 2 ^ k
    same k m l = rw add-zero (sym (mod-eq_of_lt l))

-- a 64-bit number whose signed value is u - v, with v added to it, is u, modulo 2 to 64
back_by_sign : (s : Bool) (m u v r : ℕ) → Less s u v m → FitsSigned w64 (signed_value s m) → r ≡ cast_unsigned w64 (signed_value s m)
    → (r + v) % 2 ^ 64 ≡ u % 2 ^ 64
unfolding signed_value
back_by_sign false m u v r l f e = ap (λ (n : ℕ). n % 2 ^ 64) (omega (arith, e, l))
back_by_sign true zero u v r l f e = ap (λ (n : ℕ). n % 2 ^ 64) (omega (arith, e, l))
back_by_sign true (suc m) u v r l f e =
    let over : r + v ≡ u + 1 * 2 ^ 64 = omega (arith, e, l, f.sfits) in
    ap (λ (n : ℕ). n % 2 ^ 64) over ∙ add-mul-mod_self_right u 1 (2 ^ 64)

signed_back : (u v r : ℕ) (z : ℤ) → z ≡ pos u -ℤ pos v → FitsSigned w64 z → r ≡ cast_unsigned w64 z → (r + v) % 2 ^ 64 ≡ u % 2 ^ 64
signed_back u v r z ez f e =
    by_less u v (λ s m l.
    let same : z ≡ signed_value s m = ez ∙ less_is s u v m l in
    back_by_sign s m u v r l (subst (FitsSigned w64) same f) (e ∙ ap (cast_unsigned w64) same))

-- of signed ones, which are raised by half their range: of as many bits as hold the two integers
pub signed_is : (lane x y r : ℕ) (z : ℤ) → z ≡ s_int lane x *ℤ s_int lane y → FitsSigned w64 z → r < 2 ^ 64 → r ≡ cast_unsigned w64 z → r ≡ product lane 64 false x y
unfolding product int_of
signed_is lane x y r z ez f h e =
    by_sign (s_int lane x) (λ s p ex.
    by_sign (s_int lane y) (λ t q ey.
    some_lane (p + q) s p (lt_of_le_of_lt (omega arith) (few (p + q))) (λ u lu eu.
    some_lane (p + q) t q (lt_of_le_of_lt (omega arith) (few (p + q))) (λ v lv ev.
    let eq : int_of (suc (p + q)) false u *ℤ int_of (suc (p + q)) false v ≡ s_int lane x *ℤ s_int lane y =
    ap₂ (λ (i j : ℤ). i *ℤ j) (eu ∙ ex) (ev ∙ ey) in
    raised (suc (p + q)) u v (omega arith) lu lv (ez ∙ sym eq) ∙ ap (low 64) eq))))
  where
    raised : (n u v : ℕ) → zero < n → u < 2 ^ n → v < 2 ^ n → z ≡ int_of n false u *ℤ int_of n false v → r ≡ product n 64 false u v
    raised n u v hn lu lv en =
        let k : ℕ = raise n false in
        let a : ℕ = (u + k) % 2 ^ n in
        let b : ℕ = (v + k) % 2 ^ n in
        product_is n 64 false u v k a b ((a * b + k * k) % 2 ^ 64) r hn lu lv refl refl refl refl h
        (signed_back (a * b + k * k) (k * (a + b)) r z (en ∙ raised_product n false u v k a b hn lu lv refl refl refl) f e)

-- and modulo 2 to a smaller number of bits
pub product_low : (lane wide n : ℕ) (unsigned : Bool) (x y p : ℕ) → wide ≤ n → p ≡ product lane n unsigned x y
    → p % 2 ^ wide ≡ product lane wide unsigned x y
unfolding product
product_low lane wide n unsigned x y p h e = ap (λ (m : ℕ). m % 2 ^ wide) e ∙ low-low wide n (int_of lane unsigned x *ℤ int_of lane unsigned y) h

-- what a wrapping difference leaves gives back what it was taken from
pub wrap_back : (m s t r : ℕ) → s < m → t ≤ m → r ≡ (s + (m - t)) % m → (r + t) % m ≡ s
wrap_back m s t r h k e =
    let all : s + (m - t) + t ≡ s + 1 * m = omega arith in
    ap (λ (n : ℕ). (n + t) % m) e
    ∙ mod-add-mod (s + (m - t)) m t
    ∙ ap (λ (n : ℕ). n % m) all
    ∙ add-mul-mod_self_right s 1 m
    ∙ mod-eq_of_lt h

-- ---- the sum or difference modulo 2 to its width

pub added_to : (n a p r : ℕ) → r ≡ (a + p) % 2 ^ n → r ≡ accumulate n false a p
added_to n a p r e = added n false a p r refl e ∙ sym (accumulate_signed n false a p)

pub subtracted_from : (n a p r : ℕ) → a < 2 ^ n → p < 2 ^ n → r ≡ (a + (2 ^ n - p)) % 2 ^ n → r ≡ accumulate n true a p
subtracted_from n a p r la lp e =
    let l : r < 2 ^ n = rw e (mod-lt _ (pow_pos n)) in
    subtracted n true a p r refl l (wrap_back (2 ^ n) a p r la (omega arith) e) ∙ sym (accumulate_signed n true a p)

-- the step does so with the low bits of the product
pub lane_step_is : (lane wide : ℕ) (unsigned subtract : Bool) (a x y p r : ℕ) → wide ≤ 64 → p ≡ product lane 64 unsigned x y
    → r ≡ accumulate wide subtract a (p % 2 ^ wide) → r ≡ lane_step lane wide unsigned subtract a x y
lane_step_is lane wide unsigned subtract a x y p r h ep er =
    (lane_is lane wide unsigned subtract a x y (p % 2 ^ wide) r (product_low lane wide 64 unsigned x y p h ep)
    (er ∙ accumulate_signed wide subtract a (p % 2 ^ wide))).0
