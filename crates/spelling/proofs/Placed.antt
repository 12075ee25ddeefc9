-- A row is what stands between its start and the next one's, in one string of all rows. The code has a text a row, and `row_at` says so of it. Assumes
-- nothing.
use Prim.Native.Nat.{ℕ, zero, suc, ◌+◌, ◌-◌, ◌<◌, ◌≤◌}
use Prim.Native.String.{String}
use native.Mathlib.Numerals.{add-one}
use native.Mathlib.Omega.{arith}
use mathlib.Core.Path.{◌≡◌, ap₂, ◌∙◌}
use mathlib.Core.List.{List, [], ◌∷◌}
use lib.ListN.{length, get_or, take, drop, length-append}
use lib.Seq.{take_at, drop-append-add}
use Rattle.pieces.specs.Pieces.{text}
use Rattle.spelling.specs.Rows.{syntaxes, nth, syntax_at}
use Rattle.spelling.specs.Candidate.{joined, all_rows, start_in, start_at}
use Rattle.spelling.proofs.Arms.{each_below}

-- from a to b the list has t
abbrev pub Between : ℕ → ℕ → List ℕ → List ℕ → Type 0
Between a b l t = (a ≤ b) × (b ≤ length l) × (take (b - a) (drop a l) ≡ t)

row_between : (ss : List String) (k : ℕ) → k < length ss → Between (start_in ss k) (start_in ss (suc k)) (joined ss) (nth ss k)
row_between [] k h = absurd (omega arith)
row_between (s ∷ ss) zero h =
    let l = length-append (text s) (joined ss) in
    let n : length (text s) ≡ length (text s) + 0 - 0 = omega arith in
    (omega arith, omega (arith, l), take_at (text s) (joined ss) (length (text s) + 0 - 0) n)
row_between (s ∷ ss) (suc k) h =
    let r = row_between ss k (omega arith) in
    let l = length-append (text s) (joined ss) in
    let n : length (text s) + start_in ss (suc k) - (length (text s) + start_in ss k) ≡ start_in ss (suc k) - start_in ss k = omega arith in
    (omega (arith, r.0), omega (arith, r.1, l), ap₂ (λ (m : ℕ) (x : List ℕ). take m x) n (drop-append-add (text s) (joined ss) (start_in ss k)) ∙ r.2)

pub placed : (k from to : ℕ) (all : List ℕ) → k < 18 → from ≡ start_at k → to ≡ start_at (k + 1) → all ≡ all_rows → Between from to all (syntax_at k)
unfolding start_at all_rows syntax_at
placed k from to all h a b c = rw (a, b, c, add-one k) (row_between syntaxes k h)

abbrev row_starts : List ℕ
row_starts = 0 ∷ 27 ∷ 55 ∷ 82 ∷ 110 ∷ 135 ∷ 163 ∷ 188 ∷ 214 ∷ 239 ∷ 265 ∷ 293 ∷ 321 ∷ 377 ∷ 433 ∷ 488 ∷ 538 ∷ 588 ∷ 637 ∷ []

pub starts_are : (k : ℕ) → k < 19 → get_or row_starts k 0 ≡ start_at k
unfolding start_at
starts_are = each_below (λ (k : ℕ). get_or row_starts k 0 ≡ start_at k) 19 (omega arith)

pub starts_few : (k : ℕ) → k < 19 → get_or row_starts k 0 ≤ 637
starts_few = each_below (λ (k : ℕ). get_or row_starts k 0 ≤ 637) 19 (omega arith)
