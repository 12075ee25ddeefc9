-- How long the text of a row can be, where it is known of each letter how many digits its number has. Assumes nothing.
use Prim.Native.Nat.{ℕ, ◌+◌, ◌<◌, ◌≤◌}
use native.Mathlib.Omega.{arith}
use mathlib.Core.Path.{◌≡◌, ap}
use mathlib.Core.Bool.{Bool, true, false, cond}
use mathlib.Core.List.{List, [], ◌∷◌}
use lib.ListN.{length, length-append}
use Rattle.pieces.specs.Pieces.{decimal}
use Rattle.laws.proofs.Tests.{by_lt}
use Rattle.syntax.specs.Syntax.{is_number, value_in, says, fill}
use Rattle.syntax.proofs.Laws.{by_test, one_figure, two_figures}

-- which numbers have one digit; the others have at most two
abbrev pub Narrow : (ℕ → Bool) → List ℕ → Type 0
Narrow one vs = (c : ℕ) → is_number c ≡ true → value_in vs c < cond (one c) 10 100

abbrev pub width_of : (ℕ → Bool) → ℕ → ℕ
width_of one c = cond (is_number c) (cond (one c) 1 2) 1

unfoldable pub width : (ℕ → Bool) → List ℕ → ℕ
width one [] = 0
width one (c ∷ row) = width_of one c + width one row

short : (x : ℕ) (b : Bool) → x < cond b 10 100 → length (decimal x) ≤ cond b 1 2
short x true h = let e = ap length (one_figure x h) in omega (arith, e)
short x false h =
    by_lt x 10
    (λ (l : x < 10). let e = ap length (one_figure x l) in omega (arith, e))
    (λ (l : 10 ≤ x). let e = ap length (two_figures x l h) in omega (arith, e))

says_width : (one : ℕ → Bool) (vs : List ℕ) → Narrow one vs → (c : ℕ) → length (says vs c) ≤ width_of one c
says_width one vs n c = by_test (is_number c) (λ e. rw e (short (value_in vs c) (one c) (n c e))) (λ e. rw e (omega arith))

pub length-fill : (one : ℕ → Bool) (vs : List ℕ) → Narrow one vs → (row : List ℕ) → length (fill vs row) ≤ width one row
unfolding fill width
length-fill one vs n [] = omega arith
length-fill one vs n (c ∷ row) = simp length-append (omega (arith, says_width one vs n c, length-fill one vs n row))
