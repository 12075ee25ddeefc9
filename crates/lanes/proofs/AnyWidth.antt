-- What a step and its parts are, over any width, by signs and magnitudes and by factors that are raised until none is negative. The code goes to 64 bits
-- first, and multiplies signed lanes as integers: the laws of Wrapping and Saturation by which it meets its contracts go by `product_is`, `added`,
-- `subtracted`, `lane_is`, `clamp_value` and `sat_is`. Assumes nothing.
use Rattle.std.proofs.Common.{◌≡◌, ℕ, zero, suc, ◌+◌, ◌-◌, ◌*◌, ◌%◌, ◌^◌, ◌<◌, ◌≤◌, min, Bool, true, false, not, ℤ, pos, negsuc, ◌+ℤ◌, ◌-ℤ◌, ◌*ℤ◌, neg_ℤ, sym, refl, ap, ◌∙◌, ap₂, mod-lt, mod-eq_of_lt, mul-zero, zero-mul, arith, pow_pos, le-ltb, lt-ltb, lt_of_le_of_lt, mul-le-mul_right, pow-add}
use mathlib.Core.Bool.{not-not}
use native.Mathlib.Nat.{mod-mod, mod-add-mod, zero-min, add-mul-mod_self_right, mul-lt-mul_of_pos_left}
use lib.IntN.{+ℤ_comm, +ℤ_idl, neg_ℤ-+ℤ, neg_ℤ-neg_ℤ}
use Rattle.laws.proofs.Tests.{by_lt}
use Rattle.lanes.specs.Lane.{s_int, int_of, low, product, accumulate, lane_step, add_sub, clamp, signed_sat, sat_step}
use Rattle.lanes.specs.Signed.{signed_value, signs, limit}
use Rattle.lanes.specs.Widths.{raise}
use Rattle.lanes.proofs.Integers.{minus_lt, minus_ge, low_lt, low-pos, low_sub}
use Rattle.lanes.proofs.Widths.{two-halves}

-- ---- an integer has a sign and a magnitude

pub by_sign : {P : Type 0} (z : ℤ) → ((s : Bool) (m : ℕ) → signed_value s m ≡ z → P) → P
unfolding signed_value
by_sign (pos m) f = f false m refl
by_sign (negsuc m) f = f true (suc m) refl

-- ---- sums of two signs

pub sum_ge : (s : Bool) (a b : ℕ) → b ≤ a → signed_value s a +ℤ signed_value (not s) b ≡ signed_value s (a - b)
unfolding signed_value
sum_ge false a b h = minus_ge a b h
sum_ge true a b h =
    ap (λ (z : ℤ). neg_ℤ (pos a) +ℤ z) (sym (neg_ℤ-neg_ℤ (pos b)))
    ∙ sym (neg_ℤ-+ℤ (pos a) (neg_ℤ (pos b)))
    ∙ ap neg_ℤ (minus_ge a b h)

pub sum_le : (s : Bool) (a b : ℕ) → a ≤ b → signed_value s a +ℤ signed_value (not s) b ≡ signed_value (not s) (b - a)
sum_le s a b h =
    +ℤ_comm (signed_value s a) (signed_value (not s) b)
    ∙ ap (λ (t : Bool). signed_value (not s) b +ℤ signed_value t a) (sym (not-not s))
    ∙ sum_ge (not s) b a h

-- ---- a product of two signs

pub value_times : (s t : Bool) (a b : ℕ) → signed_value s a *ℤ signed_value t b ≡ signed_value (signs s t) (a * b)
unfolding signed_value
value_times false false a b = refl
value_times false true a zero = simp mul-zero
value_times false true a (suc b) = refl
value_times true false zero b = simp zero-mul
value_times true false (suc a) b = refl
value_times true true zero zero = refl
value_times true true zero (suc b) = simp zero-mul
value_times true true (suc a) zero = simp mul-zero
value_times true true (suc a) (suc b) = refl

-- the product of magnitudes of j and of k bits has at most j + k
pub below : (j k : ℕ) {a b : ℕ} → a ≤ 2 ^ j → b < 2 ^ k → a * b < 2 ^ (j + k)
below j k {a} {b} ha hb =
    rw pow-add (lt_of_le_of_lt (mul-le-mul_right b ha) (mul-lt-mul_of_pos_left hb (pow_pos j)))

-- ---- adding to the accumulator

-- either operation adds an integer whose sign is the operation's
pub accumulate_signed : (n : ℕ) (subtract : Bool) (a p : ℕ) → accumulate n subtract a p ≡ low n (pos a +ℤ signed_value subtract p)
unfolding accumulate signed_value
accumulate_signed n false a p = refl
accumulate_signed n true a p = refl

-- what a wrapping sum and a wrapping difference of n bits ensure
pub added : (n : ℕ) (s : Bool) (a m r : ℕ) → s ≡ false → r ≡ (a + m) % 2 ^ n → r ≡ low n (pos a +ℤ signed_value s m)
unfolding signed_value
added n s a m r e h = rw e (h ∙ sym (low-pos n (a + m)))

pub subtracted : (n : ℕ) (s : Bool) (a m r : ℕ) → s ≡ true → r < 2 ^ n → (r + m) % 2 ^ n ≡ a → r ≡ low n (pos a +ℤ signed_value s m)
unfolding signed_value
subtracted n s a m r e h k = rw e (sym (low_sub n a m r h (sym (mod-mod (r + m) (2 ^ n)) ∙ ap (λ (i : ℕ). i % 2 ^ n) k)))

-- ---- a number of the lane's bits, raised, is its integer, raised

-- below h the sum does not wrap, and from it on it does
raise_low : (m h x : ℕ) → m ≡ h + h → x < h → pos ((x + h) % m) -ℤ pos h ≡ pos x
raise_low m h x em k =
    let l : x + h < m = omega arith in
    let g : h ≤ x + h = omega arith in
    let e : x + h - h ≡ x = omega arith in
    ap (λ (n : ℕ). pos n -ℤ pos h) (mod-eq_of_lt l) ∙ minus_ge (x + h) h g ∙ ap pos e

raise_high : (m h x : ℕ) → m ≡ h + h → h ≤ x → x < m → pos ((x + h) % m) -ℤ pos h ≡ pos x -ℤ pos m
raise_high m h x em k l =
    let s : x + h ≡ (x - h) + 1 * m = omega arith in
    let f : x - h < m = omega arith in
    let g : x - h < h = omega arith in
    let e : h - suc (x - h) ≡ m - suc x = omega arith in
    ap (λ (n : ℕ). pos (n % m) -ℤ pos h) s
    ∙ ap (λ (n : ℕ). pos n -ℤ pos h) (add-mul-mod_self_right (x - h) 1 m ∙ mod-eq_of_lt f)
    ∙ minus_lt (x - h) h g
    ∙ ap negsuc e
    ∙ sym (minus_lt x m l)

raised_is : (w : ℕ) (unsigned : Bool) (x : ℕ) → zero < w → x < 2 ^ w
    → pos ((x + raise w unsigned) % 2 ^ w) -ℤ pos (raise w unsigned) ≡ int_of w unsigned x
unfolding int_of s_int
raised_is w true x hw k =
    let z : x + 0 ≡ x = omega arith in
    let e : (x + 0) % 2 ^ w ≡ x = ap (λ (n : ℕ). n % 2 ^ w) z ∙ mod-eq_of_lt k in
    ap (λ (n : ℕ). pos (n + 0)) e ∙ ap pos z
raised_is w false x hw k = by_lt x (2 ^ (w - 1))
    (λ l. simp (lt-ltb x (2 ^ (w - 1)) l) (raise_low (2 ^ w) (2 ^ (w - 1)) x (two-halves w hw) l))
    (λ l. simp (le-ltb x (2 ^ (w - 1)) l) (raise_high (2 ^ w) (2 ^ (w - 1)) x (two-halves w hw) l k))

-- ---- the product of two differences

-- u less v is m, or minus m
abbrev pub Less : Bool → ℕ → ℕ → ℕ → Type 0
Less false u v m = u ≡ v + m
Less true u v m = v ≡ u + m

pub by_less : {P : Type 0} (u v : ℕ) → ((s : Bool) (m : ℕ) → Less s u v m → P) → P
by_less u v k = by_lt u v (λ l. k true (v - u) (omega arith)) (λ l. k false (u - v) (omega arith))

pub less_is : (s : Bool) (u v m : ℕ) → Less s u v m → pos u -ℤ pos v ≡ signed_value s m
unfolding signed_value
less_is false u v m e =
    let l : v ≤ u = omega arith in
    let d : u - v ≡ m = omega arith in
    sum_ge false u v l ∙ ap pos d
less_is true u v m e =
    let l : u ≤ v = omega arith in
    let d : v - u ≡ m = omega arith in
    sum_le false u v l ∙ ap (signed_value true) d

less_times : (s t : Bool) (a b h p q : ℕ) → Less s a h p → Less t b h q → Less (signs s t) (a * b + h * h) (h * (a + b)) (p * q)
less_times false false a b h p q ea eb = rw (ea, eb) (omega arith)
less_times false true a b h p q ea eh = rw (ea, eh) (omega arith)
less_times true false a b h p q eh eb = rw (eb, eh) (omega arith)
less_times true true a b h p q ea eb =
    omega (arith, ap₂ (λ (m n : ℕ). m * n) ea eb, ap (λ (n : ℕ). n * a) eb, ap (λ (n : ℕ). n * b) ea)

-- (a - h)(b - h) = ab + hh - h(a + b)
raised_times : (a b h : ℕ) → (pos a -ℤ pos h) *ℤ (pos b -ℤ pos h) ≡ pos (a * b + h * h) -ℤ pos (h * (a + b))
raised_times a b h =
    by_less a h (λ s p ea.
    by_less b h (λ t q eb.
    ap₂ (λ (x y : ℤ). x *ℤ y) (less_is s a h p ea) (less_is t b h q eb)
    ∙ value_times s t p q
    ∙ sym (less_is (signs s t) (a * b + h * h) (h * (a + b)) (p * q) (less_times s t a b h p q ea eb))))

-- ---- the product and the step that adds it

-- a lane's integer is the difference of the raised one and what it is raised by
factor : (lane : ℕ) (unsigned : Bool) (x h a : ℕ) → zero < lane → x < 2 ^ lane → h ≡ raise lane unsigned → a ≡ (x + h) % 2 ^ lane
    → pos a -ℤ pos h ≡ int_of lane unsigned x
factor lane unsigned x h a hl hx eh ea =
    ap (λ (n : ℕ). pos n -ℤ pos h) ea ∙ ap (λ (n : ℕ). pos ((x + n) % 2 ^ lane) -ℤ pos n) eh ∙ raised_is lane unsigned x hl hx

-- the product modulo 2 to n, by one wrapping sum and one wrapping difference
pub product_is : (lane n : ℕ) (unsigned : Bool) (x y h a b s r : ℕ) → zero < lane → x < 2 ^ lane → y < 2 ^ lane
    → h ≡ raise lane unsigned → a ≡ (x + h) % 2 ^ lane → b ≡ (y + h) % 2 ^ lane
    → s ≡ (a * b + h * h) % 2 ^ n → r < 2 ^ n → (r + h * (a + b)) % 2 ^ n ≡ s
    → r ≡ product lane n unsigned x y
unfolding product
product_is lane n unsigned x y h a b s r hl hx hy eh ea eb es k e =
    sym (low_sub n (a * b + h * h) (h * (a + b)) r k (e ∙ es))
    ∙ ap (low n) (sym (raised_times a b h) ∙ ap₂ (λ (u v : ℤ). u *ℤ v) (factor lane unsigned x h a hl hx eh ea) (factor lane unsigned y h b hl hy eh eb))

-- the product of two lanes' integers, by the raised ones
pub raised_product : (lane : ℕ) (unsigned : Bool) (x y h a b : ℕ)
    → zero < lane → x < 2 ^ lane → y < 2 ^ lane → h ≡ raise lane unsigned → a ≡ (x + h) % 2 ^ lane → b ≡ (y + h) % 2 ^ lane
    → int_of lane unsigned x *ℤ int_of lane unsigned y ≡ pos (a * b + h * h) -ℤ pos (h * (a + b))
raised_product lane unsigned x y h a b hl hx hy eh ea eb =
    ap₂ (λ (u v : ℤ). u *ℤ v) (sym (factor lane unsigned x h a hl hx eh ea)) (sym (factor lane unsigned y h b hl hy eh eb)) ∙ raised_times a b h

-- the signed lane that a is raised from: its integer is m, or minus m
lowered : {P : Type 0} (n : ℕ) (s : Bool) (m a : ℕ) → Less s a (2 ^ n) m → a < 2 ^ suc n
    → ((x : ℕ) → x < 2 ^ suc n → int_of (suc n) false x ≡ signed_value s m → P) → P
lowered n s m a e l k =
    let two : 2 ^ suc n ≡ 2 ^ n + 2 ^ n = omega arith in
    let one : n ≡ suc n - 1 = omega arith in
    let x : ℕ = (a + 2 ^ n) % 2 ^ suc n in
    let all : a + 2 ^ n + 2 ^ n ≡ a + 1 * 2 ^ suc n = omega (arith, two) in
    let back : a ≡ (x + 2 ^ n) % 2 ^ suc n =
    sym (mod-add-mod (a + 2 ^ n) (2 ^ suc n) (2 ^ n) ∙ ap (λ (i : ℕ). i % 2 ^ suc n) all ∙ add-mul-mod_self_right a 1 (2 ^ suc n) ∙ mod-eq_of_lt l) in
    let lx : x < 2 ^ suc n = mod-lt (a + 2 ^ n) (pow_pos (suc n)) in
    k x lx (sym (factor (suc n) false x (2 ^ n) a (omega arith) lx (ap (λ (i : ℕ). 2 ^ i) one) back) ∙ less_is s a (2 ^ n) m e)

-- each integer is that of a signed lane of enough bits
pub some_lane : {P : Type 0} (n : ℕ) (s : Bool) (m : ℕ) → m < 2 ^ n
    → ((x : ℕ) → x < 2 ^ suc n → int_of (suc n) false x ≡ signed_value s m → P) → P
some_lane n false m l k = lowered n false m (2 ^ n + m) refl (omega arith) k
some_lane n true m l k = lowered n true m (2 ^ n - m) (omega arith) (omega (arith, pow_pos n)) k

-- the step adds or subtracts that product
pub lane_is : (lane wide : ℕ) (unsigned subtract : Bool) (a x y p r : ℕ) → p ≡ product lane wide unsigned x y
    → r ≡ low wide (pos a +ℤ signed_value subtract p) → (r ≡ lane_step lane wide unsigned subtract a x y) × (r < 2 ^ wide)
unfolding lane_step accumulate signed_value
lane_is lane wide unsigned false a x y p r ep er = (rw (← ep) er, rw er (low_lt wide _))
lane_is lane wide unsigned true a x y p r ep er = (rw (← ep) er, rw er (low_lt wide _))

-- ---- the sum or difference

-- a ± b, by the sign that b is added with
pub add_signed : (subtract : Bool) (z : ℤ) (s : Bool) (m : ℕ) → add_sub subtract z (signed_value s m) ≡ z +ℤ signed_value (signs s subtract) m
unfolding signed_value
add_signed false z false m = refl
add_signed false z true m = refl
add_signed true z false m = refl
add_signed true z true m = ap (λ (k : ℤ). z +ℤ k) (neg_ℤ-neg_ℤ (pos m))

-- ---- clamping takes the magnitude to its limit

clamp-pos : (h m : ℕ) → clamp (suc h) (pos m) ≡ pos (min m (suc h - 1))
unfolding clamp
clamp-pos h m = by_lt (suc h - 1) m
    (λ k. simp (lt-ltb (suc h - 1) m k) (ap pos (omega arith)))
    (λ k. simp (le-ltb (suc h - 1) m k) (ap pos (omega arith)))

clamp_neg : (h m : ℕ) → clamp (suc h) (negsuc m) ≡ neg_ℤ (pos (min (suc m) (suc h)))
unfolding clamp
clamp_neg h m = by_lt h m
    (λ k. simp (lt-ltb h m k) (ap (λ (n : ℕ). neg_ℤ (pos n)) (more h m k)))
    (λ k. simp (le-ltb h m k) (ap (λ (n : ℕ). neg_ℤ (pos n)) (less h m k)))
  where
    more : (h m : ℕ) → h < m → suc h ≡ min (suc m) (suc h)
    more h m k = omega arith

    less : (h m : ℕ) → m ≤ h → suc m ≡ min (suc m) (suc h)
    less h m k = omega arith

pub clamp_value : (top : ℕ) → zero < top → (s : Bool) (m : ℕ) → clamp top (signed_value s m) ≡ signed_value s (min m (limit top s))
unfolding signed_value
clamp_value zero h s m = absurd (omega arith)
clamp_value (suc top) h false m = clamp-pos top m
clamp_value (suc top) h true zero = clamp-pos top zero ∙ simp zero-min
clamp_value (suc top) h true (suc m) = clamp_neg top m

-- no further than top
pub limit_le : (top : ℕ) (s : Bool) → limit top s ≤ top
limit_le top false = omega arith
limit_le top true = omega arith

-- ---- the whole step that saturates

twice : (m : ℕ) → m + m ≡ 2 * m
twice m = omega arith

pub double : (s : Bool) (m : ℕ) → signed_value s (m + m) ≡ pos 2 *ℤ signed_value s m
unfolding signed_value
double false m = ap (signed_value false) (twice m)
double true m = ap (signed_value true) (twice m) ∙ sym (value_times false true 2 m)

pub sat_is : (lane wide : ℕ) (subtract : Bool) (a x y r h : ℕ) (s t v d sa e : Bool) (p q m dm ma em : ℕ)
    → zero < wide → h ≡ 2 ^ (wide - 1)
    → signed_value s p ≡ s_int lane x → signed_value t q ≡ s_int lane y → v ≡ signs s t → m ≡ p * q
    → signed_value d dm ≡ clamp h (signed_value v (m + m))
    → signed_value sa ma ≡ s_int wide a
    → signed_value e em ≡ clamp h (signed_value sa ma +ℤ signed_value (signs d subtract) dm) → em ≤ h
    → r ≡ low wide (pos zero +ℤ signed_value e (em % 2 ^ wide))
    → r ≡ sat_step lane wide subtract a x y
unfolding sat_step signed_sat
sat_is lane wide subtract a x y r h s t v d sa e p q m dm ma em hw eh ex ey ev ep ed ea ee le er =
    let whole : em < 2 ^ wide = omega (arith, two-halves wide hw, pow_pos (wide - 1)) in
    er
    ∙ ap (λ (k : ℕ). low wide (pos zero +ℤ signed_value e k)) (mod-eq_of_lt whole)
    ∙ ap (low wide) (+ℤ_idl (signed_value e em) ∙ ee ∙ ap (clamp h) (sym (add_signed subtract (signed_value sa ma) d dm))
    ∙ ap (λ (z : ℤ). clamp h (add_sub subtract z (signed_value d dm))) ea
    ∙ ap (λ (z : ℤ). clamp h (add_sub subtract (s_int wide a) z)) (ed
    ∙ ap (clamp h) (double v m
    ∙ ap (λ (z : ℤ). pos 2 *ℤ z) (ap (λ (b : Bool). signed_value b m) ev ∙ ap (signed_value (signs s t)) ep ∙ sym (value_times s t p q)
    ∙ ap (λ (z : ℤ). z *ℤ signed_value t q) ex ∙ ap (λ (z : ℤ). s_int lane x *ℤ z) ey)))
    ∙ ap (λ (k : ℕ). clamp k (add_sub subtract (s_int wide a) (clamp k (pos 2 *ℤ (s_int lane x *ℤ s_int lane y))))) eh)
