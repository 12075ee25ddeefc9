-- What follows from encode's promise: it determines the answer, and encode and decode undo one another. Assumes nothing.
use Prim.Native.Nat.{ℕ, ◌^◌, ◌<◌}
use mathlib.Core.Path.{◌≡◌, refl, sym, ap, ◌∙◌}
use native.Mathlib.Omega.{arith}
use Rattle.std.specs.Prelude.{Result}
use Rattle.laws.proofs.Tests.{never_both}
use Rattle.settings.specs.Refused.{word_says}
use Rattle.settings.specs.declared.Refusal.{Refusal}
use Rattle.settings.specs.declared.Settings.{Settings}
use Rattle.settings.proofs.Refusals.{word_known}
use Rattle.words.specs.Says.{describe}
use Rattle.words.specs.Decode.{decode_paper}
use Rattle.words.specs.declared.Fields.{Fields}
use Rattle.words.proofs.Answers.{Accepted, decodes_exactly}
use Rattle.encoding.specs.Encode.{Encodes, bad_settings, no_word, not_enabled, a_word, Has}
use Rattle.encoding.proofs.Only.{only}

-- ---- the promise determines the answer

-- no two words have the same fields
pub one_word : (f : Fields) (v w : ℕ) → Has f v → Has f w → v ≡ w
one_word f v w p q = sym (only f v p.fits p.says) ∙ only f w q.fits q.says

pub encodes_unique : (s : Settings) (f : Fields) (a b : ℕ × ℕ) → Encodes s f a → Encodes s f b → a ≡ b
encodes_unique s f a b (bad_settings p) (bad_settings q) = refl
encodes_unique s f a b (bad_settings p) (no_word q _) = absurd (never_both _ q p)
encodes_unique s f a b (bad_settings p) (not_enabled q _ _ _) = absurd (never_both _ q p)
encodes_unique s f a b (bad_settings p) (a_word q _ _ _) = absurd (never_both _ q p)
encodes_unique s f a b (no_word p _) (bad_settings q) = absurd (never_both _ p q)
encodes_unique s f a b (no_word _ _) (no_word _ _) = refl
encodes_unique s f a b (no_word _ none) (not_enabled _ w h _) = absurd (none w h)
encodes_unique s f a b (no_word _ none) (a_word _ w h _) = absurd (none w h)
encodes_unique s f a b (not_enabled p _ _ _) (bad_settings q) = absurd (never_both _ p q)
encodes_unique s f a b (not_enabled _ w h _) (no_word _ none) = absurd (none w h)
encodes_unique s f a b (not_enabled _ _ _ _) (not_enabled _ _ _ _) = refl
encodes_unique s f a b (not_enabled _ _ _ p) (a_word _ _ _ q) = absurd (never_both _ q p)
encodes_unique s f a b (a_word p _ _ _) (bad_settings q) = absurd (never_both _ p q)
encodes_unique s f a b (a_word _ w h _) (no_word _ none) = absurd (none w h)
encodes_unique s f a b (a_word _ _ _ p) (not_enabled _ _ _ q) = absurd (never_both _ p q)
encodes_unique s f a b (a_word _ v g _) (a_word _ w h _) = ap (λ (x : ℕ). (0, x)) (one_word f v w g h)

-- any two answers that encode's promise allows are equal
pub encode_unique : (s : Settings) (f : Fields) (r q : Result ℕ Refusal) → Encodes s f (word_says r) → Encodes s f (word_says q) → r ≡ q
encode_unique s f r q a b = word_known r q (encodes_unique s f (word_says r) (word_says q) a b)

-- ---- encode and decode

-- encode after decode gives the word
pub encode_after_decode : (s : Settings) (w : ℕ) (f : Fields) (a : ℕ × ℕ) → w < 2 ^ 32 → decode_paper s w ≡ (0, f) → Encodes s f a → a ≡ (0, w)
encode_after_decode s w f a lt e t =
    let d = (decodes_exactly s w f).0 e in
    encodes_unique s f a (0, w) t (a_word d.valid w (record { fits = lt; says = d.says }) d.enabled)

-- the answer with the number 0 is a word
encoded_accepted : (s : Settings) (w : ℕ) (f : Fields) (a : ℕ × ℕ) → a ≡ (0, w) → Encodes s f a → Accepted s w f
encoded_accepted s w f a e (bad_settings _) = absurd (omega (arith, ap (λ (a : ℕ × ℕ). a.0) e))
encoded_accepted s w f a e (no_word _ _) = absurd (omega (arith, ap (λ (a : ℕ × ℕ). a.0) e))
encoded_accepted s w f a e (not_enabled _ _ _ _) = absurd (omega (arith, ap (λ (a : ℕ × ℕ). a.0) e))
encoded_accepted s w f a e (a_word v x h n) =
    record { valid = v; says = ap describe (sym (ap (λ (a : ℕ × ℕ). a.1) e)) ∙ h.says; enabled = n }

-- decode after encode gives the fields
pub decode_after_encode : (s : Settings) (w : ℕ) (f : Fields) → Encodes s f (0, w) → decode_paper s w ≡ (0, f)
decode_after_encode s w f t = (decodes_exactly s w f).1 (encoded_accepted s w f (0, w) refl t)
