-- A family's number and a bit stand for it alone, and which numbers do. Assumes nothing.
use Prim.Native.Nat.{ℕ, zero, suc, ◌≤◌}
use native.Mathlib.Omega.{arith}
use mathlib.Core.Path.{◌≡◌, refl, sym, ap, ◌∙◌}
use mathlib.Core.Bool.{Bool, true, false}
use Rattle.laws.proofs.Bits.{one_bit}
use Rattle.words.specs.Says.{is_one}
use Rattle.words.specs.Numbers.{family_number, family_of, bit_of}
use Rattle.words.specs.declared.Family.{Family}
use Rattle.words.specs.declared.Family.TheVariants.{ByElement, Vector, Saturating, LongLong, Long}

-- ---- families

pub family_range : (a : Family) → (1 ≤ family_number a) × (family_number a ≤ 5)
family_range ByElement = omega arith
family_range Vector = omega arith
family_range Saturating = omega arith
family_range LongLong = omega arith
family_range Long = omega arith

pub family_back : (a : Family) → family_of (family_number a) ≡ a
family_back ByElement = refl
family_back Vector = refl
family_back Saturating = refl
family_back LongLong = refl
family_back Long = refl

pub family_eq : (a b : Family) → family_number a ≡ family_number b → a ≡ b
family_eq a b e = sym (family_back a) ∙ ap family_of e ∙ family_back b

pub number_family : (n : ℕ) → 1 ≤ n → n ≤ 5 → family_number (family_of n) ≡ n
number_family zero p q = absurd (omega arith)
number_family (suc zero) p q = refl
number_family (suc (suc zero)) p q = refl
number_family (suc (suc (suc zero))) p q = refl
number_family (suc (suc (suc (suc zero)))) p q = refl
number_family (suc (suc (suc (suc (suc zero))))) p q = refl
number_family (suc (suc (suc (suc (suc (suc n)))))) p q = absurd (omega arith)

-- ---- bits

pub bit_range : (b : Bool) → bit_of b ≤ 1
bit_range true = omega arith
bit_range false = omega arith

pub bit_back : (b : Bool) → is_one (bit_of b) ≡ b
bit_back true = refl
bit_back false = refl

pub number_bit : (n : ℕ) → n ≤ 1 → bit_of (is_one n) ≡ n
number_bit n h = one_bit (λ x. bit_of (is_one x) ≡ x) refl refl n (omega arith)
