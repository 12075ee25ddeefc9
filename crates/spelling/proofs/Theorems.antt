-- Each text has one reading, and printing it gives the preferred text; the promise of read determines its answer. Assumes nothing.
use Prim.Native.Nat.{ℕ, zero, suc, ◌<◌}
use Prim.Native.String.{String}
use native.Mathlib.Omega.{arith}
use mathlib.Core.Path.{◌≡◌, refl, sym, ap, ◌∙◌, subst}
use mathlib.Core.Bool.{Bool, true, ◌&&◌}
use mathlib.Core.List.{List, [], ◌∷◌}
use lib.ListN.{length}
use Rattle.laws.proofs.Tests.{both, never_both}
use Rattle.pieces.specs.Pieces.{text}
use Rattle.syntax.specs.Syntax.{fill, TwoDigits}
use Rattle.syntax.specs.Scan.{clear}
use Rattle.syntax.proofs.Laws.{apart, no_text_in_both}
use Rattle.std.specs.Prelude.{Result}
use Rattle.settings.specs.Refused.{word_says}
use Rattle.settings.specs.declared.Refusal.{Refusal}
use Rattle.settings.specs.declared.Settings.{Settings}
use Rattle.words.specs.Says.{As}
use Rattle.words.specs.Decode.{enables}
use Rattle.words.proofs.Answers.{decodes_exactly}
use Rattle.encoding.proofs.Theorems.{one_word}
use Rattle.spelling.specs.Rows.{syntaxes, nth, syntax_at}
use Rattle.spelling.specs.Spell.{letter_values, row_for, spell}
use Rattle.spelling.specs.Candidate.{candidate_at}
use Rattle.spelling.specs.Print.{PrintPromise}
use Rattle.spelling.specs.Language.{Spells, Reads, ReadPromise, bad_settings, not_text, not_enabled, a_word}
use Rattle.spelling.specs.Theorems.{OneReading, PrintsPreferred, PrintAfterRead, ReadAfterPrint}
use Rattle.settings.proofs.Refusals.{word_known}
use Rattle.spelling.proofs.Back.{clear_at, figures, two_digits, read_back}
use Rattle.spelling.proofs.Reading.{row_below}
use Rattle.spelling.proofs.Putting.{print_word}

-- ---- no text is that of two rows

abbrev apart_from : List ℕ → List String → Bool
apart_from row [] = true
apart_from row (s ∷ ss) = apart row (text s) && apart_from row ss

abbrev all_apart : List String → Bool
all_apart [] = true
all_apart (s ∷ ss) = apart_from (text s) ss && all_apart ss

-- the whole of it
all_apart_lem : all_apart syntaxes ≡ true
unfolding apart
all_apart_lem = refl

apart-nth : (row : List ℕ) (ss : List String) → apart_from row ss ≡ true → (k : ℕ) → k < length ss → apart row (nth ss k) ≡ true
apart-nth row [] e k h = absurd (omega arith)
apart-nth row (s ∷ ss) e zero h = (both (apart row (text s)) (apart_from row ss) e).0
apart-nth row (s ∷ ss) e (suc k) h = apart-nth row ss (both (apart row (text s)) (apart_from row ss) e).1 k (omega arith)

same-nth : (vs us : List ℕ) → TwoDigits vs → TwoDigits us → (ss : List String) → all_apart ss ≡ true → ((k : ℕ) → clear (nth ss k) ≡ true) → (j k : ℕ) → j < length ss → k < length ss
    → fill vs (nth ss j) ≡ fill us (nth ss k) → j ≡ k
same-nth vs us x y [] a c j k hj hk e = absurd (omega arith)
same-nth vs us x y (s ∷ ss) a c zero zero hj hk e = refl
same-nth vs us x y (s ∷ ss) a c zero (suc k) hj hk e =
    absurd (no_text_in_both vs us x y (text s) (nth ss k) (c 0) (c (suc k)) (apart-nth (text s) ss (both (apart_from (text s) ss) (all_apart ss) a).0 k (omega arith)) e)
same-nth vs us x y (s ∷ ss) a c (suc j) zero hj hk e =
    absurd (no_text_in_both us vs y x (text s) (nth ss j) (c 0) (c (suc j)) (apart-nth (text s) ss (both (apart_from (text s) ss) (all_apart ss) a).0 j (omega arith)) (sym e))
same-nth vs us x y (s ∷ ss) a c (suc j) (suc k) hj hk e =
    ap suc (same-nth vs us x y ss (both (apart_from (text s) ss) (all_apart ss) a).1 (λ i. c (suc i)) j k (omega arith) (omega arith) e)

same_row : (vs us : List ℕ) → TwoDigits vs → TwoDigits us → (j k : ℕ) → j < 18 → k < 18 → fill vs (syntax_at j) ≡ fill us (syntax_at k) → j ≡ k
unfolding syntax_at
same_row vs us x y j k hj hk e = same-nth vs us x y syntaxes all_apart_lem clear_at j k hj hk e

-- ---- one reading

same-fields : {t : List ℕ} {w v : ℕ} (p : Spells t w) (q : Spells t v) → p.fields ≡ q.fields
unfolding spell
same-fields {t} {w} {v} p q =
    let k : row_for p.short p.fields ≡ row_for q.short q.fields =
    same_row (letter_values p.fields) (letter_values q.fields) (two_digits p.fields (figures w p.fields p.says))
    (two_digits q.fields (figures v q.fields q.says)) _ _ (row_below p.short p.fields) (row_below q.short q.fields) (sym p.spelled ∙ q.spelled) in
    sym (read_back w p.fields p.short p.says)
    ∙ ap (candidate_at (row_for p.short p.fields)) (sym p.spelled ∙ q.spelled)
    ∙ ap (λ (j : ℕ). candidate_at j (spell q.short q.fields)) k
    ∙ read_back v q.fields q.short q.says

-- each text of the language has one reading
pub one_reading : OneReading
one_reading t w v p q =
    one_word q.fields w v (record { fits = p.fits; says = p.says ∙ ap As (same-fields p q) }) (record { fits = q.fits; says = q.says })

-- any two answers that read's promise allows are equal
pub reads_unique : (s : Settings) (t : List ℕ) (a b : ℕ × ℕ) → Reads s t a → Reads s t b → a ≡ b
reads_unique s t a b (bad_settings p) (bad_settings q) = refl
reads_unique s t a b (bad_settings p) (not_text q _) = absurd (never_both _ q p)
reads_unique s t a b (bad_settings p) (not_enabled q _ _ _) = absurd (never_both _ q p)
reads_unique s t a b (bad_settings p) (a_word q _ _ _) = absurd (never_both _ q p)
reads_unique s t a b (not_text p _) (bad_settings q) = absurd (never_both _ p q)
reads_unique s t a b (not_text _ _) (not_text _ _) = refl
reads_unique s t a b (not_text _ none) (not_enabled _ w h _) = absurd (none w h)
reads_unique s t a b (not_text _ none) (a_word _ w h _) = absurd (none w h)
reads_unique s t a b (not_enabled p _ _ _) (bad_settings q) = absurd (never_both _ p q)
reads_unique s t a b (not_enabled _ w h _) (not_text _ none) = absurd (none w h)
reads_unique s t a b (not_enabled _ _ _ _) (not_enabled _ _ _ _) = refl
reads_unique s t a b (not_enabled _ w p d) (a_word _ v q e) = absurd (never_both _ e (ap (enables s.features.0) (sym (same-fields p q)) ∙ d))
reads_unique s t a b (a_word p _ _ _) (bad_settings q) = absurd (never_both _ p q)
reads_unique s t a b (a_word _ w h _) (not_text _ none) = absurd (none w h)
reads_unique s t a b (a_word _ v q e) (not_enabled _ w p d) = absurd (never_both _ e (ap (enables s.features.0) (sym (same-fields p q)) ∙ d))
reads_unique s t a b (a_word _ v p _) (a_word _ w q _) = ap (λ (x : ℕ). (0, x)) (one_reading _ _ _ p q)

-- and so does the answer that the code gives
pub read_unique : (s : Settings) (t : List ℕ) (r q : Result ℕ Refusal) → ReadPromise s t r → ReadPromise s t q → r ≡ q
read_unique s t r q a b = word_known r q (reads_unique s t (word_says r) (word_says q) a b)

-- any two answers that print's promise allows are equal, and so is the room
pub print_unique : (s : Settings) (w : ℕ) (room : List ℕ) (r q : Result ℕ Refusal) (room₁ room₂ : List ℕ) → PrintPromise s w room r room₁ → PrintPromise s w room q room₂
    → (r ≡ q) × (room₁ ≡ room₂)
print_unique s w room r q room₁ room₂ a b =
    let e = a ∙ sym b in
    (word_known r q (ap (λ (x : (ℕ × ℕ) × List ℕ). x.0) e), ap (λ (x : (ℕ × ℕ) × List ℕ). x.1) e)

-- ---- print and read

pub print_after_read : PrintAfterRead
print_after_read s t w room r = from (0, w) refl r
  where
    from : (a : ℕ × ℕ) → a ≡ (0, w) → Reads s t a → PrintsPreferred s t w room
    from a e (bad_settings _) = absurd (omega (arith, ap (λ (a : ℕ × ℕ). a.0) e))
    from a e (not_text _ _) = absurd (omega (arith, ap (λ (a : ℕ × ℕ). a.0) e))
    from a e (not_enabled _ _ _ _) = absurd (omega (arith, ap (λ (a : ℕ × ℕ). a.0) e))
    from a e (a_word v x p n) =
        let q : x ≡ w = ap (λ (a : ℕ × ℕ). a.1) e in
        subst (λ (y : ℕ). PrintsPreferred s t y room) q
        (record { spells = p; prints = print_word s x p.fields room ((decodes_exactly s x p.fields).1 (record { valid = v; says = p.says; enabled = n })) })

-- with vgx and without
pub read_after_print : (short : Bool) → ReadAfterPrint short
read_after_print short s w f answer lt e r =
    let d = (decodes_exactly s w f).0 e in
    reads_unique s (spell short f) answer (0, w) r (a_word d.valid w (record { fits = lt; fields = f; says = d.says; short = short; spelled = refl }) d.enabled)
