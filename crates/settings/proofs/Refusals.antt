-- A refusal is known by its number, and no refusal's number is 0. Assumes nothing.
use Prim.Native.Nat.{ℕ, ◌<◌}
use mathlib.Core.Path.{◌≡◌, refl, sym, ap, ◌∙◌}
use mathlib.Core.Logic.{◌≢◌}
use mathlib.Core.Bool.{false, cond}
use native.Mathlib.Omega.{arith}
use lib.Dec.{eqb}
use borrow.Author.Tests.{ne_eqb}
use Rattle.std.specs.Prelude.{Result, Ok, Err}
use Rattle.settings.specs.Refused.{refusal_number, word_says}
use Rattle.settings.specs.declared.Refusal.{Refusal}
use Rattle.settings.specs.declared.Refusal.TheVariants.{BadSettings, BadLength, UnknownWord, WrongMode, NoSuchWord, NoPartner, ListEnds, BadNumber, TooManyWords, ExtraBytes, NotText, ShortRoom}

numbered : ℕ → Refusal
numbered n =
    cond (eqb n 1) BadSettings
    (cond (eqb n 2) BadLength
    (cond (eqb n 3) UnknownWord
    (cond (eqb n 4) WrongMode
    (cond (eqb n 5) NoSuchWord
    (cond (eqb n 6) NoPartner
    (cond (eqb n 7) ListEnds
    (cond (eqb n 8) BadNumber
    (cond (eqb n 9) TooManyWords
    (cond (eqb n 10) ExtraBytes
    (cond (eqb n 11) NotText ShortRoom))))))))))

numbered_back : (r : Refusal) → numbered (refusal_number r) ≡ r
unfolding numbered
numbered_back BadSettings = refl
numbered_back BadLength = refl
numbered_back UnknownWord = refl
numbered_back WrongMode = refl
numbered_back NoSuchWord = refl
numbered_back NoPartner = refl
numbered_back ListEnds = refl
numbered_back BadNumber = refl
numbered_back TooManyWords = refl
numbered_back ExtraBytes = refl
numbered_back NotText = refl
numbered_back ShortRoom = refl

pub refusal_known : (r q : Refusal) → refusal_number r ≡ refusal_number q → r ≡ q
refusal_known r q e = sym (numbered_back r) ∙ ap numbered e ∙ numbered_back q

refusal_not_0 : (r : Refusal) → 0 < refusal_number r
refusal_not_0 BadSettings = omega arith
refusal_not_0 BadLength = omega arith
refusal_not_0 UnknownWord = omega arith
refusal_not_0 WrongMode = omega arith
refusal_not_0 NoSuchWord = omega arith
refusal_not_0 NoPartner = omega arith
refusal_not_0 ListEnds = omega arith
refusal_not_0 BadNumber = omega arith
refusal_not_0 TooManyWords = omega arith
refusal_not_0 ExtraBytes = omega arith
refusal_not_0 NotText = omega arith
refusal_not_0 ShortRoom = omega arith

pub not_0 : (r : Refusal) → refusal_number r ≢ 0
not_0 r e = omega (arith, refusal_not_0 r)

-- as a test
pub tests_not_0 : (r : Refusal) → eqb (refusal_number r) 0 ≡ false
tests_not_0 r = ne_eqb (refusal_number r) 0 (not_0 r)

-- every answer says a number and values: a refusal does not say the number 0
pub refused_not_0 : {A : Type 0} (r : Refusal) (x y : A) → ◌≡◌ {A = ℕ × A} (refusal_number r, x) (0, y) → ⊥
refused_not_0 {A} r x y e = let n : refusal_number r ≡ 0 = ap (λ (p : ℕ × A). p.0) e in omega (arith, refusal_not_0 r)

-- and two refusals that say the same are the same
pub refused_known : {A : Type 0} (r q : Refusal) (x y : A) → ◌≡◌ {A = ℕ × A} (refusal_number r, x) (refusal_number q, y) → r ≡ q
refused_known {A} r q x y e = refusal_known r q (ap (λ (p : ℕ × A). p.0) e)

-- an answer that is a word is known by its number and its word
pub word_known : (r q : Result ℕ Refusal) → word_says r ≡ word_says q → r ≡ q
word_known (Ok v) (Ok w) e = ap Ok (ap (λ (p : ℕ × ℕ). p.1) e)
word_known (Ok v) (Err q) e = absurd (refused_not_0 {A = ℕ} q 0 v (sym e))
word_known (Err r) (Ok w) e = absurd (refused_not_0 {A = ℕ} r 0 w e)
word_known (Err r) (Err q) e = ap Err (refused_known {A = ℕ} r q 0 0 e)
