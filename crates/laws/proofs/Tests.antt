-- Tests and choices: what a test that passed says of its parts, and a choice by a test. Assumes nothing.
use mathlib.Core.Path.{◌≡◌, refl}
use mathlib.Core.Bool.{Bool, true, false, ◌&&◌, ◌||◌, cond}
use mathlib.Core.Logic.{◌⊎◌, ⊎_elim, inl, inr}
use native.Mathlib.Omega.{arith}
use Prim.Native.Nat.{ℕ, ◌<◌, ◌≤◌}
use lib.Dec.{eqb, ltb}
use borrow.Author.Tests.{eqb-true, eq-eqb, ne_eqb, ltb-true, ltb-false}

-- both parts of a conjunction that passed
pub both : (s t : Bool) → (s && t) ≡ true → (s ≡ true) × (t ≡ true)
both true t e = (refl, e)
both false t e = (e, cc)

-- the three parts of a conjunction that passed
pub all_three : (s t u : Bool) → (s && t && u) ≡ true → (s ≡ true) × (t ≡ true) × (u ≡ true)
all_three s t u e =
    let last = both (s && t) u e in
    let first = both s t last.0 in
    (first.0, first.1, last.1)

-- a test does not both pass and fail
pub never_both : (t : Bool) → t ≡ true → t ≡ false → ⊥
never_both t p q = let z : ◌≡◌ {A = ℕ} 0 1 = cc in omega arith

-- a test that cannot pass fails
pub failed : (t : Bool) → (t ≡ true → ⊥) → t ≡ false
failed true k = absurd (k refl)
failed false k = refl

-- what follows from a choice's value, by the test's two outcomes
pub by_cond : {A : Type 0} {P : Type 0} (b : Bool) (x y t : A) → (b ≡ true → x ≡ t → P) → (b ≡ false → y ≡ t → P) → cond b x y ≡ t → P
by_cond true x y t k l h = k refl h
by_cond false x y t k l h = l refl h

-- a choice whose test is known
pub cond_yes : {A : Type 0} (b : Bool) (x y t : A) → b ≡ true → t ≡ x → t ≡ cond b x y
cond_yes b x y t e p = rw e p

pub cond_no : {A : Type 0} (b : Bool) (x y t : A) → b ≡ false → t ≡ y → t ≡ cond b x y
cond_no b x y t e p = rw e p

-- a choice by a comparison of two numbers
pub cond_eq : {A : Type 0} (m n : ℕ) (x y t : A) → m ≡ n → t ≡ x → t ≡ cond (eqb m n) x y
cond_eq m n x y t h p = cond_yes (eqb m n) x y t (eq-eqb m n h) p

pub cond_ne : {A : Type 0} (m n : ℕ) (x y t : A) → (m ≡ n → ⊥) → t ≡ y → t ≡ cond (eqb m n) x y
cond_ne m n x y t h p = cond_no (eqb m n) x y t (ne_eqb m n h) p

-- for `search`: branches on numbers
pub ruleset by-numbers = (cond_eq, cond_ne)

-- what holds of both values of a choice, each where it is taken, holds of the choice
pub cond-holds {ℓ} : {A : Type 0} (P : A → Type ℓ) (b : Bool) (x y : A) → (b ≡ true → P x) → (b ≡ false → P y) → P (cond b x y)
cond-holds P true x y k l = k refl
cond-holds P false x y k l = l refl

-- the first value of a choice counts only where the test passed
pub cond_then : {A : Type 0} (b : Bool) (x x' y : A) → (b ≡ true → x ≡ x') → cond b x y ≡ cond b x' y
cond_then true x x' y h = h refl
cond_then false x x' y h = refl

-- one part of a disjunction that passed
pub either {ℓ} : {P : Type ℓ} (s t : Bool) → (s || t) ≡ true → (s ≡ true → P) → (t ≡ true → P) → P
either true t e k l = k refl
either false t e k l = l e

-- a < b, or b ≤ a
pub by_lt : {P : Type 0} (a b : ℕ) → (a < b → P) → (b ≤ a → P) → P
by_lt {P} a b f g = go (ltb a b) refl
  where
    go : (t : Bool) → ltb a b ≡ t → P
    go true e = f (ltb-true a b e)
    go false e = g (ltb-false a b e)

-- what holds of three numbers holds of one that is among them
pub one_of_three : (P : ℕ → Type 0) (a b c : ℕ) → P a → P b → P c → (n : ℕ) → (n ≡ a) ⊎ ((n ≡ b) ⊎ (n ≡ c)) → P n
one_of_three P a b c pa pb pc n l = ⊎_elim (λ (e : n ≡ a). rw e pa) (⊎_elim (λ (e : n ≡ b). rw e pb) (λ (e : n ≡ c). rw e pc)) l

-- the same, where tests say so
pub by_three : (n a b c : ℕ) → (eqb n a || eqb n b || eqb n c) ≡ true → (P : ℕ → Type 0) → P a → P b → P c → P n
by_three n a b c e P pa pb pc =
    one_of_three P a b c pa pb pc n
    (either (eqb n a || eqb n b) (eqb n c) e
    (λ t. either (eqb n a) (eqb n b) t (λ q. inl (eqb-true n a q)) (λ q. inr (inl (eqb-true n b q))))
    (λ q. inr (inr (eqb-true n c q))))
