-- What a row that is tried says of a text, and what a word that was found is by the settings. Assumes nothing.
use Prim.Native.Nat.{ℕ, ◌+◌, ◌<◌, ◌≤◌}
use native.Mathlib.Omega.{arith}
use mathlib.Core.Path.{◌≡◌, refl, sym, ap, ◌∙◌}
use mathlib.Core.Bool.{Bool, true, false, cond}
use mathlib.Core.List.{List}
use Rattle.std.specs.Prelude.{Option, Some, None}
use Rattle.std.specs.Bool.{then_some}
use lib.Dec.{eqb, ltb}
use lib.ListN.{length}
use Rattle.laws.proofs.Tests.{never_both, by_lt, by_cond}
use Rattle.syntax.specs.Syntax.{fill, TwoDigits}
use Rattle.syntax.specs.Scan.{fits, taken}
use Rattle.syntax.proofs.Laws.{fits-fill}
use Rattle.settings.specs.Valid.{valid_settings}
use Rattle.settings.specs.declared.Settings.{Settings}
use Rattle.words.specs.Says.{As, describe}
use Rattle.words.specs.Decode.{enables, no_fields, decode_paper, decode_enabled}
use Rattle.words.specs.declared.Family.{Family}
use Rattle.words.specs.declared.Family.TheVariants.{ByElement, Vector, Saturating, LongLong, Long}
use Rattle.words.specs.declared.Fields.{Fields}
use Rattle.words.proofs.Table.{◌then◌}
use Rattle.encoding.specs.Encode.{Has, TheWord}
use Rattle.spelling.specs.Rows.{syntax_at}
use Rattle.spelling.specs.Spell.{letter_values, row_for, row_by, spell}
use Rattle.spelling.specs.Candidate.{candidate_at}
use Rattle.spelling.specs.Language.{Spells, Reads, not_enabled, a_word}
use Rattle.spelling.specs.Tried.{SpellsBy}
use Rattle.spelling.proofs.Arms.{each_below}
use Rattle.spelling.proofs.Back.{clear_at, figures, two_digits, read_back}

-- ---- the row of a candidate is the row that it was read by

pub row_again : (k : ℕ) (t : List ℕ) → k < 18 → row_for (ltb 14 k) (candidate_at k t) ≡ k
unfolding row_for candidate_at syntax_at taken
row_again k t h =
    each_below (λ (j : ℕ). row_for (ltb 14 j) (candidate_at j t) ≡ j) 18
    (refl then refl then refl then refl then refl then refl then refl then refl then refl then refl then refl then refl then refl then refl then refl then refl
    then refl then refl then tt)
    k h

small_choice : (b : Bool) (x y : ℕ) → x < 18 → y < 18 → cond b x y < 18
small_choice true x y h g = h
small_choice false x y h g = g

row_by_below : (short : Bool) (family : Family) (lane part : ℕ) → row_by short family lane part < 18
row_by_below short ByElement lane part =
    small_choice (eqb lane 16) _ _ (small_choice (eqb part 0) 0 1 (omega arith) (omega arith)) (small_choice (eqb part 0) 2 3 (omega arith) (omega arith))
row_by_below short Vector lane part =
    small_choice (eqb lane 8) _ _ (small_choice (eqb part 0) 4 5 (omega arith) (omega arith))
    (small_choice (eqb lane 16) _ _ (small_choice (eqb part 0) 6 7 (omega arith) (omega arith)) (small_choice (eqb part 0) 8 9 (omega arith) (omega arith)))
row_by_below short Saturating lane part = small_choice (eqb lane 16) 10 11 (omega arith) (omega arith)
row_by_below short LongLong lane part =
    small_choice short _ _ (small_choice (eqb lane 8) 15 16 (omega arith) (omega arith)) (small_choice (eqb lane 8) 12 13 (omega arith) (omega arith))
row_by_below short Long lane part = small_choice short 17 14 (omega arith) (omega arith)

pub row_below : (short : Bool) (f : Fields) → row_for short f < 18
unfolding row_for
row_below short f = row_by_below short f.family f.lane f.part

-- no row has more than 56 bytes
pub row_short : (k : ℕ) → k < 18 → length (syntax_at k) ≤ 56
unfolding syntax_at
row_short = each_below (λ (k : ℕ). length (syntax_at k) ≤ 56) 18 (omega arith)

-- ---- a row that is tried

-- the fields of a text by a row are the candidate
spelled_candidate : {k : ℕ} {t : List ℕ} {w : ℕ} (p : SpellsBy k t w) → candidate_at k t ≡ p.spells.fields
spelled_candidate {k} {t} {w} p =
    let q = p.spells in
    rw (← p.row, q.spelled) (read_back w q.fields q.short q.says)

-- and the text is that of the candidate
pub spelled_text : {k : ℕ} {t : List ℕ} {w : ℕ} → SpellsBy k t w → t ≡ fill (letter_values (candidate_at k t)) (syntax_at k)
unfolding spell
spelled_text {k} {t} {w} p =
    let q = p.spells in
    q.spelled
    ∙ ap (λ (f : Fields). fill (letter_values f) (syntax_at (row_for q.short q.fields))) (sym (spelled_candidate p))
    ∙ ap (λ (j : ℕ). fill (letter_values (candidate_at k t)) (syntax_at j)) p.row

-- fields that no word has are no candidate's
pub no_word_of : (t : List ℕ) (k : ℕ) (f : Fields) → f ≡ candidate_at k t → ((w : ℕ) → Has f w → ⊥) → (w : ℕ) → SpellsBy k t w → ⊥
no_word_of t k f a n w p = n w (rw (a ∙ spelled_candidate p) (record { fits = p.spells.fits; says = p.spells.says }))

-- a word of the candidate is the word of a text that is the candidate's
pub candidate_spells : (k : ℕ) (t : List ℕ) (f : Fields) (w : ℕ) → k < 18 → f ≡ candidate_at k t → t ≡ fill (letter_values f) (syntax_at k) → Has f w
    → SpellsBy k t w
unfolding spell
candidate_spells k t f w h a e has =
    let row : row_for (ltb 14 k) f ≡ k = ap (row_for (ltb 14 k)) a ∙ row_again k t h in
    record {
      spells =
          record {
            fits = has.fits;
            fields = f;
            says = has.says;
            short = ltb 14 k;
            spelled = e ∙ ap (λ (j : ℕ). fill (letter_values f) (syntax_at j)) (sym row);
          };
      row = row;
    }

-- where it is not
pub other_text : (t : List ℕ) (k : ℕ) (f : Fields) → f ≡ candidate_at k t → (t ≡ fill (letter_values f) (syntax_at k) → ⊥) → (w : ℕ) → SpellsBy k t w → ⊥
other_text t k f a n w p = n (spelled_text p ∙ ap (λ (g : Fields). fill (letter_values g) (syntax_at k)) (sym a))

-- what the comparison answers
pub then_theirs : (k : ℕ) (t : List ℕ) (f : Fields) (w : ℕ) (b : Bool) (r : Option ℕ) → k < 18 → f ≡ candidate_at k t → Has f w
    → (b ≡ true → t ≡ fill (letter_values f) (syntax_at k)) → (t ≡ fill (letter_values f) (syntax_at k) → b ≡ true) → r ≡ then_some b w
    → TheWord (SpellsBy k t) r
then_theirs k t f w true r h a has same shows e = rw e (candidate_spells k t f w h a (same refl) has)
then_theirs k t f w false r h a has same shows e = rw e (other_text t k f a (λ (q : t ≡ fill (letter_values f) (syntax_at k)). never_both false (shows q) refl))

-- what a scan found, and that it found nothing
pub found_so : {A : Type 0} (b : Bool) (x y : A) → ◌≡◌ {A = Option A} (Some x) (cond b (Some y) None) → x ≡ y
found_so true x y e = cc
found_so false x y e = cc

pub none_so : {A : Type 0} (b : Bool) (y : A) → ◌≡◌ {A = Option A} None (cond b (Some y) None) → b ≡ false
none_so true y e = cc
none_so false y e = refl

-- one row more was tried
pub one_tried : (t : List ℕ) (k : ℕ) → ((j : ℕ) → j < k → (w : ℕ) → SpellsBy j t w → ⊥) → ((w : ℕ) → SpellsBy k t w → ⊥)
    → (j : ℕ) → j < k + 1 → (w : ℕ) → SpellsBy j t w → ⊥
one_tried t k a b j h = by_lt j k (λ (l : j < k). a j l) (λ (l : k ≤ j). let e : j ≡ k = omega arith in rw e b)

-- all were
pub all_tried : (t : List ℕ) (k : ℕ) → 18 ≤ k → ((j : ℕ) → j < k → (w : ℕ) → SpellsBy j t w → ⊥) → (w : ℕ) → Spells t w → ⊥
all_tried t k h a w p =
    let b = row_below p.short p.fields in
    a (row_for p.short p.fields) (omega arith) w (record { spells = p; row = refl })

-- a text that the row does not fit is no text of the row
pub fits_not-row : (t : List ℕ) (k : ℕ) (row : List ℕ) → row ≡ syntax_at k → fits row t ≡ false → (w : ℕ) → SpellsBy k t w → ⊥
fits_not-row t k row b n w p =
    let q = p.spells in
    let two : TwoDigits (letter_values (candidate_at k t)) = rw (spelled_candidate p) (two_digits q.fields (figures w q.fields q.says)) in
    never_both (fits row t)
    (ap (λ (x : List ℕ). fits x t) b ∙ ap (fits (syntax_at k)) (spelled_text p) ∙ fits-fill (letter_values (candidate_at k t)) two (syntax_at k) (clear_at k))
    n

-- ---- a word that was found

-- decode's answer for a word that says something
decoded_as : (s : Settings) (w : ℕ) (f : Fields) → valid_settings s ≡ true → describe w ≡ As f
    → decode_paper s w ≡ cond (enables s.features.0 f) (0, f) (3, no_fields)
unfolding decode_paper decode_enabled
decoded_as s w f v e = rw (v, e)

pub read_as_decoded : (s : Settings) (t : List ℕ) (w : ℕ) (n : ℕ) (g : Fields) → valid_settings s ≡ true → Spells t w → decode_paper s w ≡ (n, g)
    → Reads s t (n, cond (eqb n 0) w 0)
read_as_decoded s t w n g v p e =
    by_cond {A = ℕ × Fields} (enables s.features.0 p.fields) _ _ _ yes no (sym (decoded_as s w p.fields v p.says) ∙ e)
  where
    yes : enables s.features.0 p.fields ≡ true → ◌≡◌ {A = ℕ × Fields} (0, p.fields) (n, g) → Reads s t (n, cond (eqb n 0) w 0)
    yes b q = rw (← ap (λ (x : ℕ × Fields). x.0) q) (a_word v w p b)

    no : enables s.features.0 p.fields ≡ false → ◌≡◌ {A = ℕ × Fields} (3, no_fields) (n, g) → Reads s t (n, cond (eqb n 0) w 0)
    no b q = rw (← ap (λ (x : ℕ × Fields). x.0) q) (not_enabled v w p b)
