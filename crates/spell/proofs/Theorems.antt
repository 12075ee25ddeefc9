-- A line has one answer, and the bytes of it that are kept decide it. Assumes nothing.
use Prim.Native.Nat.{ℕ, ◌<◌, ◌≤◌}
use native.Mathlib.Omega.{arith}
use mathlib.Core.Path.{◌≡◌, refl, ap, subst}
use mathlib.Core.Bool.{false}
use mathlib.Core.List.{List, ◌++◌}
use lib.ListN.{length, take}
use lib.Seq.{length-take-le, take_all}
use borrow.Author.Tests.{ne_eqb}
use Rattle.laws.proofs.Tests.{never_both, by_lt}
use Rattle.pieces.specs.Pieces.{text, hex8}
use Rattle.spelling.specs.Spell.{longest_text}
use Rattle.spelling.specs.Language.{Spells, Reads, not_text}
use Rattle.spelling.proofs.Theorems.{reads_unique}
use Rattle.spelling.proofs.Longest.{no_longer}
use Rattle.spell.specs.Spelled.{all_on, is_word, unless_refused, Answers, to_word, to_text}
use Rattle.spell.specs.Theorems.{OneAnswer, EnoughKept}
use Rattle.spell.proofs.Answers.{valid}

pub answer_unique : OneAnswer
answer_unique line a b (to_word p) (to_word q) = refl
answer_unique line a b (to_word p) (to_text q _ _ _) = absurd (never_both _ p q)
answer_unique line a b (to_text p _ _ _) (to_word q) = absurd (never_both _ q p)
answer_unique line a b (to_text _ n w r) (to_text _ m v q) =
    ap (λ (x : ℕ × ℕ). unless_refused x.0 (hex8 x.1) ++ text "\n") (reads_unique all_on line (n, w) (m, v) r q)

-- ---- the bytes that are kept

-- a line that is longer than the longest text is neither a word nor a text
no_word : (line : List ℕ) → longest_text < length line → is_word line ≡ false
unfolding is_word
no_word line h = rw (ne_eqb (length line) 8 (λ (e : length line ≡ 8). omega arith))

no_text : (line : List ℕ) → longest_text < length line → Reads all_on line (11, 0)
no_text line h = not_text valid (λ (w : ℕ) (p : Spells line w). omega (arith, no_longer line w p))

long_answer : (line : List ℕ) → longest_text < length line → Answers line (unless_refused 11 (hex8 0) ++ text "\n")
long_answer line h = to_text (no_word line h) 11 0 (no_text line h)

pub enough_kept : EnoughKept
enough_kept k h line a x = by_lt k (length line) longer whole
  where
    longer : k < length line → Answers line a
    longer l =
        let n = length-take-le k line (omega arith) in
        subst (Answers line) (answer_unique (take k line) _ a (long_answer (take k line) (omega arith)) x) (long_answer line (omega arith))

    whole : length line ≤ k → Answers line a
    whole l = subst (λ (t : List ℕ). Answers t a) (take_all k line l) x
