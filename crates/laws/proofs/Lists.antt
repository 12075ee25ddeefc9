-- Lists. Assumes nothing.
use Prim.Native.Nat.{ℕ, zero, suc, ◌+◌, ◌<◌}
use native.Mathlib.Omega.{arith}
use mathlib.Core.Path.{◌≡◌, sym, ap, ◌∙◌, subst}
use mathlib.Core.Logic.{⊎_elim}
use mathlib.Core.List.Memᴰ
use mathlib.Core.List.{List, [], ◌∷◌, ◌++◌, Memᴰ}
use lib.ListN.{length, get_or, take, drop, take-append-drop, drop_of_length-le}
use lib.Seq.{drop-cons, drop-drop, take_all, length-take-le}
use Rattle.laws.proofs.Tests.{by_lt}
use Rattle.laws.specs.Lists.{Each}

-- what each element has, one of them has
pub each_of : {A : Type 0} (P : A → Type 0) (xs : List A) (x : A) → Memᴰ x xs → Each P xs → P x
each_of P [] x m k = absurd (Memᴰ.not-nil m)
each_of P (y ∷ ys) x m k = ⊎_elim (λ e. subst P (sym e) k.0) (λ n. each_of P ys x n k.1) (Memᴰ.cases_cons m)

-- the k elements from `at` on
unfoldable pub elements : ℕ → ℕ → List ℕ → List ℕ
elements zero at l = []
elements (suc k) at l = get_or l at 0 ∷ elements k (suc at) l

-- a list of known length is its elements
pub elements_are : (k at : ℕ) (l : List ℕ) → at + k ≡ length l → elements k at l ≡ drop at l
unfolding elements
elements_are zero at l e = sym (drop_of_length-le l {i = at} (omega arith))
elements_are (suc k) at l e =
    ap (λ (t : List ℕ). get_or l at 0 ∷ t) (elements_are k (suc at) l (omega arith)) ∙ sym (drop-cons l at 0 (omega arith))

-- tails that agree agree further on
pub drop_more : (k i : ℕ) (xs ys : List ℕ) → drop i xs ≡ drop i ys → drop (i + k) xs ≡ drop (i + k) ys
drop_more k i xs ys e = sym (drop-drop k i xs) ∙ ap (drop k) e ∙ drop-drop k i ys

-- where nothing past the first k elements is looked at, they decide
pub first_decide : {A : Type 0} (f : List ℕ → A) (k : ℕ) → ((xs ys : List ℕ) → length xs ≡ k → f (xs ++ ys) ≡ f xs) → (list : List ℕ) → f (take k list) ≡ f list
first_decide f k far list =
    by_lt (length list) k
    (λ (s : length list < k). ap f (take_all k list (omega arith)))
    (λ l. sym (far (take k list) (drop k list) (length-take-le k list l)) ∙ ap f (take-append-drop k list))
