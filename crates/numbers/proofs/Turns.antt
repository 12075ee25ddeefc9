-- The loop of read_number: what each turn adds, and what each way out says. Assumes nothing.
use Prim.Native.Nat.{ℕ, suc, ◌+◌, ◌-◌, ◌*◌, ◌^◌, ◌≤◌, ◌<◌}
use mathlib.Core.Path.{◌≡◌, refl, sym, ap, ap₂, ◌∙◌}
use mathlib.Core.Bool.{false}
use mathlib.Core.List.{List, ◌∷◌}
use native.Mathlib.Omega.{arith}
use native.Mathlib.Numerals.{add-one}
use native.Mathlib.Nat.{mul_comm, mul_assoc, mul-add, pow-suc, pow-le-pow_right, mul-le-mul_right}
use native.Mathlib.Decide.{dec_lt}
use lib.Dec.{ltb}
use lib.ListN.{length, get_or, drop, drop_of_length-le}
use lib.Seq.{drop-cons}
use Rattle.settings.specs.declared.Refusal.TheVariants.{ListEnds, BadNumber}
use Rattle.numbers.specs.Numbers.{Got, got, short, wrong, group_then, greatest_byte, numeral, number, no_number, placed, number_at}
use Rattle.numbers.proofs.Groups.{fifth_small, fifth_last}

-- what k groups, of the value v, make with what is read after them; s is 128 ^ k
abbrev pub above : ℕ → ℕ → ℕ → Got → Got
above v s k (got w n) = got (v + s * w) (k + n)
above v s k short = short
above v s k wrong = wrong

-- k groups have been read, and the list is at i
pub record Reading (list : List ℕ) (at i k s v : ℕ) : Type 0 where
  pub few : k ≤ 4
  pub scale : s ≡ 128 ^ k
  pub small : v < s
  pub place : i ≡ at + k
  pub same : numeral 0 (drop at list) ≡ above v s k (numeral k (drop i list))

-- none yet
above_none : (x : Got) → x ≡ above 0 1 0 x
above_none (got w n) = ap₂ got (omega arith) (omega arith)
above_none short = refl
above_none wrong = refl

pub start : (list : List ℕ) (at : ℕ) → Reading list at at 0 1 0
start list at =
    record {
      few = omega arith;
      scale = refl;
      small = omega arith;
      place = omega arith;
      same = above_none (numeral 0 (drop at list));
    }

-- one more
above_group : (v s k g : ℕ) (x : Got) → above v s k (group_then g x) ≡ above (v + g * s) (s * 128) (k + 1) x
above_group v s k g (got w n) = ap₂ got (omega (arith, mul-add s g (128 * w), mul_comm s g, mul_assoc s 128 w)) (omega arith)
above_group v s k g short = refl
above_group v s k g wrong = refl

-- the byte at i is in front of the rest
pub byte_first : (list : List ℕ) (i k : ℕ) → i < length list → numeral k (drop i list) ≡ numeral k (get_or list i 0 ∷ drop (suc i) list)
byte_first list i k h = ap (numeral k) (drop-cons list i 0 h)

-- four groups have 28 bits, and three 21
scale_of_four : (k : ℕ) → k ≤ 4 → 128 ^ k ≤ 268435456
scale_of_four k h = pow-le-pow_right (omega arith) h

scale_of_three : (k : ℕ) → k ≤ 3 → 128 ^ k ≤ 2097152
scale_of_three k h = pow-le-pow_right (omega arith) h

-- what a byte that another group follows adds fits
pub record Follows (k s v b : ℕ) : Type 0 where
  pub few : k ≤ 3
  pub scale : s ≤ 2097152
  pub sum : v + (b - 128) * s < s * 128

module _ {list : List ℕ} {at i k s v : ℕ} (r : Reading list at i k s v) where
  pub follows : (b : ℕ) → b < 256 → 128 ≤ b → ltb (greatest_byte k) b ≡ false → Follows k s v b
  follows b l h f =
      let few : k ≤ 3 = elim (dec_lt k 4) [ yes y ↦ omega arith | no n ↦ absurd (fifth_last k b f h (omega (arith, r.few))) ] in
      let m : (b - 128) * s ≤ 127 * s = mul-le-mul_right s (omega arith) in
      record {
        few = few;
        scale = omega (arith, r.scale, scale_of_three k few);
        sum = omega (arith, r.small);
      }

  -- what a last byte adds fits: a number is below 2 ^ 32
  pub last_fits : (b : ℕ) → b < 128 → ltb (greatest_byte k) b ≡ false → v + b * s < 4294967296
  last_fits b l f =
      elim (dec_lt k 4) [
        | yes y ↦
            let m : b * s ≤ 127 * s = mul-le-mul_right s (omega arith) in
            omega (arith, r.small, r.scale, scale_of_three k (omega arith))
        | no n ↦
            let g : b ≤ 15 = fifth_small k b (omega (arith, r.few)) f in
            let m : b * s ≤ 15 * s = mul-le-mul_right s g in
            omega (arith, r.small, r.scale, scale_of_four k r.few)
      ]

  -- the ways out
  pub out_ends : length list ≤ i → no_number ListEnds at ≡ number_at list at
  unfolding number_at numeral
  out_ends h =
      let e : numeral 0 (drop at list) ≡ short = r.same ∙ ap (λ (l : List ℕ). above v s k (numeral k l)) (drop_of_length-le list h) in
      ap (placed at) (sym e)

  pub out-wrong : numeral k (drop i list) ≡ wrong → no_number BadNumber at ≡ number_at list at
  unfolding number_at
  out-wrong h =
      let e : numeral 0 (drop at list) ≡ wrong = r.same ∙ ap (above v s k) h in
      ap (placed at) (sym e)

  pub out_read : (b : ℕ) → numeral k (drop i list) ≡ got b 1 → number (v + b * s) (i + 1) ≡ number_at list at
  unfolding number_at
  out_read b h =
      let e : numeral 0 (drop at list) ≡ got (v + s * b) (k + 1) = r.same ∙ ap (above v s k) h in
      ap₂ number (omega (arith, mul_comm s b)) (omega (arith, r.place)) ∙ ap (placed at) (sym e)

  -- a turn
  pub turn : (b : ℕ) → Follows k s v b → numeral k (drop i list) ≡ group_then (b - 128) (numeral (suc k) (drop (suc i) list))
      → Reading list at (i + 1) (k + 1) (s * 128) (v + (b - 128) * s)
  turn b f h =
      record {
        few = omega (arith, f.few);
        scale = rw (add-one, pow-suc, r.scale);
        small = f.sum;
        place = omega (arith, r.place);
        same = r.same ∙ ap (above v s k) h ∙ above_group v s k (b - 128) (numeral (suc k) (drop (suc i) list))
            ∙ simp add-one;
      }
