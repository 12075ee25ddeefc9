-- Texts that are not of the language, by computing: no row fits the text with fields that have the text and are a word's. Assumes nothing.
use Prim.Native.Nat.{ℕ, zero, suc, ◌<◌, ◌≤◌}
use Prim.Native.String.{String}
use native.Mathlib.Omega.{arith}
use mathlib.Core.Path.{◌≡◌, refl, sym, ap, ◌∙◌}
use mathlib.Core.Bool.{Bool, true, false, not, ◌&&◌, ◌||◌}
use mathlib.Core.List.{List, [], ◌∷◌}
use lib.Dec.{eqb}
use borrow.Author.Tests.{eq-eqb, not-true}
use Rattle.laws.specs.Lists.{Each}
use Rattle.laws.proofs.Tests.{both, never_both, by_lt}
use Rattle.pieces.specs.Pieces.{text, decimal, decimal_up_to}
use Rattle.syntax.specs.Syntax.{fill}
use Rattle.syntax.specs.Scan.{fits, taken, number_of, passes_of}
use Rattle.words.specs.Says.{describe}
use Rattle.encoding.specs.Candidate.{candidate_of}
use Rattle.encoding.proofs.Equal.{says_only, fails_none}
use Rattle.spelling.specs.Rows.{syntax_at}
use Rattle.spelling.specs.Spell.{letter_values, row_for}
use Rattle.spelling.specs.Language.{Spells}
use Rattle.spelling.specs.Examples.{not_texts, NotOfLanguage}
use Rattle.spelling.specs.Candidate.{candidate_at}
use Rattle.spelling.specs.Tried.{SpellsBy}
use Rattle.spelling.proofs.Reading.{row_below, spelled_text, no_word_of, fits_not-row}

abbrev same : List ℕ → List ℕ → Bool
same [] [] = true
same [] (y ∷ ys) = false
same (x ∷ xs) [] = false
same (x ∷ xs) (y ∷ ys) = eqb x y && same xs ys

same_self : (xs : List ℕ) → same xs xs ≡ true
same_self [] = refl
same_self (x ∷ xs) = rw (eq-eqb x x refl) (same_self xs)

held : (b : Bool) → (b ≡ false → ⊥) → b ≡ true
held true n = refl
held false n = absurd (n refl)

all_three : {a b c : Bool} → a ≡ true → b ≡ true → c ≡ true → (a && b && c) ≡ true
all_three x y z = rw (x, y, z)

-- whether the row can be that of the text: it fits, the candidate has the text, and is a word's
abbrev fits_row : ℕ → List ℕ → Bool
fits_row k t = fits (syntax_at k) t

abbrev has_text : ℕ → List ℕ → Bool
has_text k t = same (fill (letter_values (candidate_at k t)) (syntax_at k)) t

abbrev has_word : ℕ → List ℕ → Bool
has_word k t = says_only (candidate_at k t) (describe (candidate_of (candidate_at k t)))

abbrev is_row : ℕ → List ℕ → Bool
is_row k t = fits_row k t && has_text k t && has_word k t

-- of the first n rows
abbrev is_text : ℕ → List ℕ → Bool
is_text zero t = false
is_text (suc n) t = is_row n t || is_text n t

row_is : (k : ℕ) (t : List ℕ) (w : ℕ) → SpellsBy k t w → is_row k t ≡ true
row_is k t w p =
    all_three (held _ (λ e. fits_not-row t k (syntax_at k) refl e w p)) (ap (λ (x : List ℕ). same x t) (sym (spelled_text p)) ∙ same_self t)
    (held _ (λ e. no_word_of t k (candidate_at k t) refl (fails_none (candidate_at k t) e) w p))

or_left : {a : Bool} (b : Bool) → a ≡ true → (a || b) ≡ true
or_left b e = rw e

or_right : (a : Bool) {b : Bool} → b ≡ true → (a || b) ≡ true
or_right true e = refl
or_right false e = e

row_found : (n : ℕ) (t : List ℕ) (k : ℕ) → k < n → is_row k t ≡ true → is_text n t ≡ true
row_found zero t k h e = absurd (omega arith)
row_found (suc n) t k h e =
    by_lt k n
    (λ (l : k < n). or_right (is_row n t) (row_found n t k l e))
    (λ (l : n ≤ k). let q : k ≡ n = omega arith in or_left (is_text n t) (ap (λ (j : ℕ). is_row j t) (sym q) ∙ e))

refuted : (t : List ℕ) → is_text 18 t ≡ false → (w : ℕ) → Spells t w → ⊥
refuted t e w p =
    let b : SpellsBy (row_for p.short p.fields) t w = record { spells = p; row = refl } in
    never_both (is_text 18 t) (row_found 18 t (row_for p.short p.fields) (row_below p.short p.fields) (row_is _ t w b)) e

abbrev none_is_text : List String → Bool
none_is_text [] = true
none_is_text (s ∷ ss) = not (is_text 18 (text s)) && none_is_text ss

each_refuted : (ss : List String) → none_is_text ss ≡ true → Each (λ (s : String). (w : ℕ) → Spells (text s) w → ⊥) ss
each_refuted [] e = tt
each_refuted (s ∷ ss) e =
    let b = both (not (is_text 18 (text s))) (none_is_text ss) e in
    (refuted (text s) (not-true _ b.0), each_refuted ss b.1)

pub not_of_language : NotOfLanguage
unfolding syntax_at candidate_at fits taken fill letter_values number_of passes_of decimal decimal_up_to describe
not_of_language = each_refuted not_texts refl
