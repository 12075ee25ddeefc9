-- The four numbers of a word in the report, and a text to which one line more is added. Assumes nothing.
use Prim.Native.Nat.{ℕ, zero, suc, ◌+◌, ◌/◌, ◌*◌, ◌<◌}
use native.Mathlib.Numerals.{add-one}
use native.Mathlib.Omega.{arith}
use mathlib.Core.Path.{◌≡◌, refl, sym, ap, ap₂, ◌∙◌}
use mathlib.Core.List.{List, [], ◌++◌, append_assoc, append-nil}
use lib.ListN.{length, get_or, take, drop}
use lib.Seq.{get_or-take, get_or-drop}
use Rattle.std.proofs.Common.{drop-drop}
use Rattle.std.specs.Simd.{first_chunks}
use Rattle.std.specs.List.{zip, enumerate_from}
use Rattle.std.proofs.lemmas.List.{get_or_default}
use Rattle.std.proofs.lemmas.List.FromFn.{length-enumerate_from, get_or-enumerate_from}
use Rattle.std.proofs.lemmas.Slice.Zip.{length-zip, get_or-zip}
use Rattle.lines.specs.Lines.{word_line, toggled_at, line_of, word_lines}

chunk_at : (k i : ℕ) (xs : List ℕ) → i < k → get_or (first_chunks 4 k xs) i [] ≡ take 4 (drop (4 * i) xs)
chunk_at zero i xs h = absurd (omega arith)
chunk_at (suc k) zero xs h = refl
chunk_at (suc k) (suc i) xs h =
    let further : 4 + 4 * i ≡ 4 * suc i = omega arith in
    chunk_at k i (drop 4 xs) (omega arith) ∙ ap (take 4) (drop-drop (4 * i) 4 xs ∙ ap (λ (n : ℕ). drop n xs) further)

module _ (report : List ℕ) (fours : List (List ℕ)) (e : fours ≡ first_chunks 4 (length report / 4) report) (i : ℕ) (inside : 4 * i + 4 < length report + 1) where
  of_four : (k j : ℕ) → k < 4 → j ≡ 4 * i + k → get_or (get_or fours i []) k 0 ≡ get_or report j 0
  of_four k j h at =
      ap (λ (f : List (List ℕ)). get_or (get_or f i []) k 0) e
      ∙ ap (λ (f : List ℕ). get_or f k 0) (chunk_at (length report / 4) i report (omega arith))
      ∙ get_or-take 4 (drop (4 * i) report) k 0 h
      ∙ get_or-drop (4 * i) report k 0
      ∙ ap (λ (n : ℕ). get_or report n 0) (sym at)

  abbrev number : ℕ → ℕ
  number k = get_or (get_or fours i []) k 0

  pub sum_is : number 1 + number 2 ≡ toggled_at report i
  sum_is = ap₂ (λ (a b : ℕ). a + b) (of_four 1 (4 * i + 1) (omega arith) (omega arith)) (of_four 2 (4 * i + 2) (omega arith) (omega arith))

  pub one_line : (words before : List ℕ)
      → (before ++ word_lines words report i) ++ word_line (i + 1) (get_or words i 0) (number 0) (number 1 + number 2) (number 3)
      ≡ before ++ word_lines words report (i + 1)
  unfolding word_lines
  one_line words before =
      rw (of_four 0 (4 * i) (omega arith) (omega arith), sum_is, of_four 3 (4 * i + 3) (omega arith) (omega arith))
      (append_assoc before (word_lines words report i) (line_of words report i)
      ∙ ap (λ (k : ℕ). before ++ word_lines words report k) (sym (add-one i)))

pub no_lines : (words report before : List ℕ) → before ≡ before ++ word_lines words report 0
unfolding word_lines
no_lines words report before = sym (append-nil before)

-- a turn of a loop over the words, each beside its four numbers
pub numbered : (words : List ℕ) (fours : List (List ℕ)) (k i w : ℕ) (f : List ℕ)
    → (k < length (enumerate_from 0 (zip words fours))) × (◌≡◌ {A = ℕ × (ℕ × List ℕ)} (i, (w, f)) (get_or (enumerate_from 0 (zip words fours)) k (i, (w, f))))
    → (i ≡ k) × (w ≡ get_or words k 0) × (f ≡ get_or fours k []) × (k < length words)
numbered words fours k i w f t =
    let inside : k < length (zip words fours) = omega (arith, t.0, length-enumerate_from 0 (zip words fours)) in
    let a : k < length words = omega (arith, inside, length-zip words fours) in
    let b : k < length fours = omega (arith, inside, length-zip words fours) in
    let e = t.1 ∙ get_or-enumerate_from 0 (zip words fours) k (i, (w, f)) inside in
    let pair = ap (λ (p : ℕ × (ℕ × List ℕ)). p.1) e ∙ get_or-zip words fours k (w, f) a b in (
      omega (arith, ap (λ (p : ℕ × (ℕ × List ℕ)). p.0) e),
      ap (λ (p : ℕ × List ℕ). p.0) pair ∙ get_or_default words k w 0 a,
      ap (λ (p : ℕ × List ℕ). p.1) pair ∙ get_or_default fours k f [] b,
      a,
    )
