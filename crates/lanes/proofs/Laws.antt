-- The laws of one lane, for any widths. Assumes nothing.
use Rattle.std.proofs.Common.{◌≡◌, ℕ, zero, ◌+◌, ◌%◌, ◌^◌, ◌<◌, Bool, true, false, not, pos, ◌-ℤ◌, sym, ap, ◌∙◌, add_assoc, mod-lt, mod-eq_of_lt, arith, pow_pos}
use native.Mathlib.Nat.{mod-mod, mod-add-mod, add-mod-mod, add_right_comm}
use Rattle.lanes.specs.Lane.{low, product, accumulate, lane_step, sat_step, step}
use Rattle.lanes.proofs.Integers.{low_lt, low-pos, low_sub_is, low_sub}

-- ---- an answer has the accumulator's width

accumulate_lt : (n : ℕ) (subtract : Bool) (a p : ℕ) → accumulate n subtract a p < 2 ^ n
unfolding accumulate
accumulate_lt n subtract a p = low_lt n _

pub lane_step_lt : (lane wide : ℕ) (unsigned subtract : Bool) (a x y : ℕ) → lane_step lane wide unsigned subtract a x y < 2 ^ wide
unfolding lane_step
lane_step_lt lane wide unsigned subtract a x y = accumulate_lt wide subtract a (product lane wide unsigned x y)

pub sat_step_lt : (lane wide : ℕ) (subtract : Bool) (a x y : ℕ) → sat_step lane wide subtract a x y < 2 ^ wide
unfolding sat_step
sat_step_lt lane wide subtract a x y = low_lt wide _

pub step_lt : (saturating : Bool) (lane wide : ℕ) (unsigned subtract : Bool) (a x y : ℕ) → step saturating lane wide unsigned subtract a x y < 2 ^ wide
unfolding step
step_lt true lane wide unsigned subtract a x y = sat_step_lt lane wide subtract a x y
step_lt false lane wide unsigned subtract a x y = lane_step_lt lane wide unsigned subtract a x y

-- ---- adding and subtracting undo one another, either way

pub undo : (n : ℕ) (subtract : Bool) (a p : ℕ) → a < 2 ^ n → accumulate n (not subtract) (accumulate n subtract a p) p ≡ a
unfolding accumulate low
undo n false a p h = low_sub n ((a + p) % 2 ^ n) p a h (sym (mod-mod (a + p) (2 ^ n)))
undo n true a p h = low_sub_is n a p ∙ mod-eq_of_lt h

pub undo_step : (lane wide : ℕ) (unsigned subtract : Bool) (a x y : ℕ) → a < 2 ^ wide
    → lane_step lane wide unsigned (not subtract) (lane_step lane wide unsigned subtract a x y) x y ≡ a
unfolding lane_step
undo_step lane wide unsigned subtract a x y h = undo wide subtract a (product lane wide unsigned x y) h

-- ---- either operation adds a number that only the operation and the product decide

unfoldable pub delta : ℕ → Bool → ℕ → ℕ
delta n false p = p
delta n true p = low n (pos zero -ℤ pos p)

accumulate_is : (n : ℕ) (subtract : Bool) (a p : ℕ) → accumulate n subtract a p ≡ (a + delta n subtract p) % 2 ^ n
unfolding accumulate delta
accumulate_is n false a p = low-pos n (a + p)
accumulate_is n true a p =
    let d = low n (pos zero -ℤ pos p) in
    low_sub n a p ((a + d) % 2 ^ n) (mod-lt _ (pow_pos n))
    (mod-add-mod (a + d) (2 ^ n) p
    ∙ ap (λ (k : ℕ). k % 2 ^ n) (add_assoc a d p)
    ∙ sym (add-mod-mod a (d + p) (2 ^ n))
    ∙ ap (λ (k : ℕ). (a + k) % 2 ^ n) (low_sub_is n zero p)
    ∙ add-mod-mod a zero (2 ^ n)
    ∙ ap (λ (k : ℕ). k % 2 ^ n) (omega arith))

-- ---- any two commute

pub commute : (n : ℕ) (s t : Bool) (a p q : ℕ) → accumulate n t (accumulate n s a p) q ≡ accumulate n s (accumulate n t a q) p
commute n s t a p q =
    both s t p q ∙ ap (λ (k : ℕ). k % 2 ^ n) (add_right_comm a (delta n s p) (delta n t q)) ∙ sym (both t s q p)
  where
    both : (s t : Bool) (p q : ℕ) → accumulate n t (accumulate n s a p) q ≡ (a + delta n s p + delta n t q) % 2 ^ n
    both s t p q =
        accumulate_is n t (accumulate n s a p) q
        ∙ ap (λ (k : ℕ). (k + delta n t q) % 2 ^ n) (accumulate_is n s a p)
        ∙ mod-add-mod (a + delta n s p) (2 ^ n) (delta n t q)

-- two steps, of any lanes and signs
pub commute_step : (lane lane' wide : ℕ) (u u' s s' : Bool) (a x y x' y' : ℕ)
    → lane_step lane' wide u' s' (lane_step lane wide u s a x y) x' y' ≡ lane_step lane wide u s (lane_step lane' wide u' s' a x' y') x y
unfolding lane_step
commute_step lane lane' wide u u' s s' a x y x' y' = commute wide s s' a (product lane wide u x y) (product lane' wide u' x' y')
