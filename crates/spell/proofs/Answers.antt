-- What the promises of print and read say of the answer to a line. Assumes nothing.
use Prim.Native.Nat.{ℕ, ◌+◌, ◌<◌, ◌≤◌, ◌^◌}
use native.Mathlib.Omega.{arith}
use mathlib.Core.Path.{◌≡◌, refl, sym, ap, ◌∙◌}
use mathlib.Core.Bool.{Bool, true, false, ◌||◌, cond}
use mathlib.Core.List.{List, ◌++◌}
use lib.Dec.{eqb, leb}
use lib.ListN.{length, drop}
use borrow.Author.Tests.{eqb-true, eq-eqb, leb-true, leb-false}
use Rattle.laws.proofs.Tests.{never_both, by_cond, cond_yes, cond_no}
use Rattle.pieces.specs.Pieces.{Wrote}
use Rattle.pieces.proofs.Pieces.{said}
use Rattle.settings.specs.Refused.{refusal_number}
use Rattle.settings.specs.declared.Refusal.{Refusal}
use Rattle.settings.proofs.Refusals.{tests_not_0, refused_not_0}
use Rattle.settings.specs.Valid.{valid_settings}
use Rattle.words.specs.Says.{Described, As, Nothing, describe}
use Rattle.words.specs.Decode.{enables_family, enables, no_fields, enabled_only, decode_enabled, decode_paper}
use Rattle.words.specs.declared.Family.{Family}
use Rattle.words.specs.declared.Family.TheVariants.{ByElement, Vector, Saturating, LongLong, Long}
use Rattle.words.specs.declared.Fields.{Fields}
use Rattle.words.proofs.Answers.{decodes_exactly}
use Rattle.spelling.specs.Spell.{spell, longest_text}
use Rattle.spelling.specs.Print.{put_into, print_after, print_paper, PrintPromise}
use Rattle.spelling.specs.Language.{Spells, Reads, a_word}
use Rattle.std.specs.Prelude.{Ok, Err}
use Rattle.spelling.proofs.Longest.{no_longer}
use Rattle.spell.specs.Spelled.{all_on, unless_refused, refusal_text, word_text}

-- ---- a number that is 0, or a refusal's

pub not-refused : (due : List ℕ) → due ≡ unless_refused 0 due
unfolding unless_refused
not-refused due = refl

pub refused : (r : Refusal) (due : List ℕ) → refusal_text (refusal_number r) ≡ unless_refused (refusal_number r) due
unfolding unless_refused
refused r due = cond_no _ _ _ _ (tests_not_0 r) refl

-- ---- what print has written

abbrev End : Type 0
End = (ℕ × ℕ) × List ℕ

-- a text that was put into the room
put_in : (t : List ℕ) (n : ℕ) (room room' : List ℕ) → ◌≡◌ {A = End} (put_into t room) ((0, n), room') → Wrote t 0 room room' n
put_in t n room room' e = by_cond (leb (length t) (length room)) _ _ _ fits short e
  where
    fits : leb (length t) (length room) ≡ true → ◌≡◌ {A = End} ((0, length t), t ++ drop (length t) room) ((0, n), room') → Wrote t 0 room room' n
    fits b p =
        let same : length t ≡ n = ap (λ (x : End). x.0.1) p in
        let none : 0 + length t ≡ length t = omega arith in
        record {
          ends = omega arith;
          fits = omega (arith, leb-true (length t) (length room) b);
          bytes = sym (ap (λ (x : End). x.1) p) ∙ ap (λ (k : ℕ). t ++ drop k room) (sym none);
        }

    short : leb (length t) (length room) ≡ false → ◌≡◌ {A = End} ((12, 0), room) ((0, n), room') → Wrote t 0 room room' n
    short b p = absurd (omega (arith, ap (λ (x : End). x.0.0) p))

wrote_text : (d : ℕ × Fields) (n : ℕ) (room room' : List ℕ) → ◌≡◌ {A = End} (print_after d room) ((0, n), room') → Wrote (word_text d) 0 room room' n
unfolding unless_refused
wrote_text d n room room' e =
    by_cond (eqb d.0 0) _ _ _
    (λ (b : eqb d.0 0 ≡ true) (p : ◌≡◌ {A = End} (put_into (spell false d.1) room) ((0, n), room')).
    said (cond_yes _ _ _ _ b refl) (put_in (spell false d.1) n room room' p))
    (λ (b : eqb d.0 0 ≡ false) (p : ◌≡◌ {A = End} ((d.0, 0), room) ((0, n), room')).
    absurd (never_both _ (eq-eqb d.0 0 (ap (λ (x : End). x.0.0) p)) b))
    e

number_0 : (d : ℕ × Fields) (n : ℕ) (room room' : List ℕ) → ◌≡◌ {A = End} (print_after d room) ((0, n), room') → d.0 ≡ 0
number_0 d n room room' e =
    by_cond (eqb d.0 0) _ _ _
    (λ (b : eqb d.0 0 ≡ true) (p : ◌≡◌ {A = End} (put_into (spell false d.1) room) ((0, n), room')). eqb-true _ _ b)
    (λ (b : eqb d.0 0 ≡ false) (p : ◌≡◌ {A = End} ((d.0, 0), room) ((0, n), room')). ap (λ (x : End). x.0.0) p)
    e

pub print_wrote : (w n : ℕ) (room room' : List ℕ) → PrintPromise all_on w room (Ok n) room' → Wrote (word_text (decode_paper all_on w)) 0 room room' n
unfolding print_paper
print_wrote w n room room' e = wrote_text (decode_paper all_on w) n room room' (sym e)

-- ---- what print has refused: not for want of room

none_put : (t : List ℕ) (r : Refusal) (room room' : List ℕ) → length t ≤ length room → ◌≡◌ {A = End} (put_into t room) ((refusal_number r, 0), room') → ⊥
none_put t r room room' h e =
    by_cond (leb (length t) (length room)) _ _ _
    (λ (b : leb (length t) (length room) ≡ true) (p : ◌≡◌ {A = End} ((0, length t), t ++ drop (length t) room) ((refusal_number r, 0), room')).
    refused_not_0 r 0 (length t) (sym (ap (λ (x : End). x.0) p)))
    (λ (b : leb (length t) (length room) ≡ false) (p : ◌≡◌ {A = End} ((12, 0), room) ((refusal_number r, 0), room')).
    omega (arith, leb-false (length t) (length room) b))
    e

refused_text : (d : ℕ × Fields) (r : Refusal) (room room' : List ℕ) → (d.0 ≡ 0 → length (spell false d.1) ≤ length room)
    → ◌≡◌ {A = End} (print_after d room) ((refusal_number r, 0), room') → (room ≡ room') × (refusal_text (refusal_number r) ≡ word_text d) × (d.0 ≡ refusal_number r)
unfolding unless_refused
refused_text d r room room' h e =
    by_cond (eqb d.0 0) _ _ _
    (λ (b : eqb d.0 0 ≡ true) (p : ◌≡◌ {A = End} (put_into (spell false d.1) room) ((refusal_number r, 0), room')).
    absurd (none_put (spell false d.1) r room room' (h (eqb-true _ _ b)) p))
    (λ (b : eqb d.0 0 ≡ false) (p : ◌≡◌ {A = End} ((d.0, 0), room) ((refusal_number r, 0), room')).
    (ap (λ (x : End). x.1) p, cond_no _ _ _ _ b (ap refusal_text (sym (ap (λ (x : End). x.0.0) p))), ap (λ (x : End). x.0.0) p))
    e

-- the text of a word is no longer than the longest
text_fits : (w : ℕ) → w < 2 ^ 32 → (decode_paper all_on w).0 ≡ 0 → length (spell false (decode_paper all_on w).1) ≤ longest_text
text_fits w lt e =
    let f = (decode_paper all_on w).1 in
    let d = (decodes_exactly all_on w f).0 (ap (λ (n : ℕ). (n, f)) e) in
    no_longer (spell false f) w (record { fits = lt; fields = f; says = d.says; short = false; spelled = refl })

-- ---- all features are on: a word is refused with 3 only, a text with 11 only

family_on : (k : Family) (lane : ℕ) → enables_family 31 k lane ≡ true
family_on ByElement lane = refl
family_on Vector lane = refl
family_on Saturating lane = refl
family_on LongLong lane = elim (eqb lane 8) as (λ (b : Bool). (b || true) ≡ true) [ true ↦ refl | false ↦ refl ]
family_on Long lane = refl

on : (f : Fields) → enables 31 f ≡ true
unfolding enables
on f = family_on f.family f.lane

three_only : (x : Described) → ((enabled_only 31 x).0 ≡ 0 → ⊥) → (enabled_only 31 x).0 ≡ 3
three_only (As f) h = absurd (h (ap (λ (b : Bool). (cond {A = ℕ × Fields} b (0, f) (3, no_fields)).0) (on f)))
three_only Nothing h = refl

word_three : (w : ℕ) → ((decode_paper all_on w).0 ≡ 0 → ⊥) → (decode_paper all_on w).0 ≡ 3
unfolding decode_paper decode_enabled valid_settings
word_three w h = three_only (describe w) h

pub valid : valid_settings all_on ≡ true
unfolding valid_settings
valid = refl

pub reads_word : (line : List ℕ) (w : ℕ) → Spells line w → Reads all_on line (0, w)
reads_word line w p = a_word valid w p (on p.fields)

pub print_refused : (w : ℕ) → w < 2 ^ 32 → (r : Refusal) (room room' : List ℕ) → longest_text ≤ length room
    → PrintPromise all_on w room (Err r) room' → (room ≡ room') × (refusal_text 3 ≡ word_text (decode_paper all_on w))
unfolding print_paper
print_refused w lt r room room' h e =
    let f =
    refused_text (decode_paper all_on w) r room room' (λ (z : (decode_paper all_on w).0 ≡ 0). omega (arith, text_fits w lt z)) (sym e) in
    let three = word_three w (λ (z : (decode_paper all_on w).0 ≡ 0). never_both _ (eq-eqb _ 0 (sym f.2 ∙ z)) (tests_not_0 r)) in
    (f.0, ap refusal_text (sym three ∙ f.2) ∙ f.1)

-- and what it has written is short
pub print_short : (w : ℕ) → w < 2 ^ 32 → (n : ℕ) (room room' : List ℕ) → PrintPromise all_on w room (Ok n) room' → n ≤ longest_text
unfolding print_paper unless_refused
print_short w lt n room room' e =
    let z = number_0 (decode_paper all_on w) n room room' (sym e) in
    let same : spell false (decode_paper all_on w).1 ≡ word_text (decode_paper all_on w) = cond_yes _ _ (refusal_text (decode_paper all_on w).0) _ (eq-eqb (decode_paper all_on w).0 0 z) refl in
    omega (arith, (print_wrote w n room room' e).ends, ap length same, text_fits w lt z)
