-- The tests before a step, in their order. Assumes nothing.
use Prim.Native.Nat.{ℕ, ◌*◌}
use mathlib.Core.Path.{◌≡◌, refl, ap, ap₂, ◌∙◌}
use mathlib.Core.Logic.{◌≢◌}
use mathlib.Core.Bool.{true, false, not, ◌&&◌}
use mathlib.Core.List.{List}
use lib.Dec.{eqb}
use lib.ListN.{length}
use borrow.Author.Tests.{eqb-true, eq-eqb, ne_eqb, not-false}
use Rattle.laws.proofs.Tests.{both, cond_yes, cond_no, cond-holds}
use Rattle.settings.specs.Valid.{valid_settings, vector_bytes, array_bytes}
use Rattle.settings.specs.declared.Refusal.TheVariants.{BadSettings, BadLength, UnknownWord, WrongMode}
use Rattle.settings.specs.declared.Settings.{Settings}
use Rattle.settings.proofs.Refusals.{not_0}
use Rattle.words.specs.Decode.{decode_enabled, decode_paper}
use Rattle.words.specs.Ranges.{Ranges}
use Rattle.words.specs.declared.Fields.{Fields}
use Rattle.words.proofs.Answers.{decodes_exactly}
use Rattle.words.proofs.Ranges.{in_range}
use Rattle.machine.specs.Modes.{permits}
use Rattle.machine.specs.Execute.{Outcome, refused_with, stepped, right_lengths, execute_paper}
use Rattle.machine.specs.Loop.{Ready}

-- decode under valid settings, by the features
pub decodes_to : (s : Settings) (w : ℕ) (d : ℕ × Fields) → valid_settings s ≡ true → decode_enabled s.features.0 w ≡ d → decode_paper s w ≡ d
unfolding decode_paper
decodes_to s w d v e = rw v e

-- an accepted word's fields are in range
pub word_ranges : (s : Settings) (w : ℕ) (f : Fields) → decode_paper s w ≡ (0, f) → Ranges f
word_ranges s w f e = in_range w f ((decodes_exactly s w f).0 e).says

-- the test of the lengths passes where both are exact, and only there
pub lengths_right : (s : Settings) (z za : ℕ) → z ≡ 32 * vector_bytes s → za ≡ array_bytes s * array_bytes s → right_lengths s z za ≡ true
lengths_right s z za p q = ap₂ ◌&&◌ (eq-eqb z (32 * vector_bytes s) p) (eq-eqb za (array_bytes s * array_bytes s) q)

pub lengths_exact : (s : Settings) (z za : ℕ) → right_lengths s z za ≡ true → (z ≡ 32 * vector_bytes s) × (za ≡ array_bytes s * array_bytes s)
lengths_exact s z za e =
    let b = both (eqb z (32 * vector_bytes s)) (eqb za (array_bytes s * array_bytes s)) e in
    (eqb-true z (32 * vector_bytes s) b.0, eqb-true za (array_bytes s * array_bytes s) b.1)

module _ (s : Settings) (z za : List ℕ) where
  -- 1
  pub not_valid : (w : ℕ) → valid_settings s ≡ false → refused_with 1 z za ≡ execute_paper s w z za
  unfolding execute_paper
  not_valid w e = rw e

  -- 2
  pub not_long : (w : ℕ) → valid_settings s ≡ true → right_lengths s (length z) (length za) ≡ false → refused_with 2 z za ≡ execute_paper s w z za
  unfolding execute_paper
  not_long w v e = rw (v, e)

  pub is_ready : valid_settings s ≡ true → right_lengths s (length z) (length za) ≡ true → Ready s z za
  is_ready v e =
      let exact = lengths_exact s (length z) (length za) e in
      record { valid = v; z_long = exact.0; za_long = exact.1 }

  -- 3
  pub not_decoded : (w : ℕ) → Ready s z za → (decode_paper s w).0 ≢ 0 → refused_with 3 z za ≡ execute_paper s w z za
  unfolding execute_paper
  not_decoded w r h = rw (r.valid, lengths_right s _ _ r.z_long r.za_long, ne_eqb (decode_paper s w).0 0 h)

  module _ (w : ℕ) (f : Fields) (r : Ready s z za) (e : decode_paper s w ≡ (0, f)) where
    -- 4
    pub not_permitted : permits s.features.0 s.modes.0 f.family ≡ false → refused_with 4 z za ≡ execute_paper s w z za
    unfolding execute_paper
    not_permitted p = rw (r.valid, lengths_right s _ _ r.z_long r.za_long, e) (cond_yes _ _ _ _ (ap not p) refl)

    pub is_permitted : permits s.features.0 s.modes.0 f.family ≡ true → stepped s f z za ≡ execute_paper s w z za
    unfolding execute_paper
    is_permitted p = rw (r.valid, lengths_right s _ _ r.z_long r.za_long, e) (cond_no _ _ _ _ (ap not p) refl)

    -- of the fields g that the code has read
    pub is_done : (g : Fields) (o : Outcome) → g ≡ f → permits s.features.0 s.modes.0 f.family ≡ true → o ≡ stepped s g z za → o ≡ execute_paper s w z za
    is_done g o eg p eo = eo ∙ ap (λ (h : Fields). stepped s h z za) eg ∙ is_permitted p

  -- what holds of every refusal and of the step of an accepted word holds of every outcome
  pub each_outcome : (w : ℕ) (P : Outcome → Type 0) → ((n : ℕ) → n ≢ 0 → P (refused_with n z za))
      → ((f : Fields) → Ready s z za → decode_paper s w ≡ (0, f) → permits s.features.0 s.modes.0 f.family ≡ true → P (stepped s f z za))
      → P (execute_paper s w z za)
  unfolding execute_paper
  each_outcome w P refused done =
      let d : ℕ × Fields = decode_paper s w in
      cond-holds P (not (valid_settings s)) _ _ (λ _. refused 1 (not_0 BadSettings))
      (λ v. cond-holds P (not (right_lengths s (length z) (length za))) _ _ (λ _. refused 2 (not_0 BadLength))
      (λ l. cond-holds P (not (eqb d.0 0)) _ _ (λ _. refused 3 (not_0 UnknownWord))
      (λ e. cond-holds P (not (permits s.features.0 s.modes.0 d.1.family)) _ _ (λ _. refused 4 (not_0 WrongMode))
      (λ p. done d.1 (is_ready (not-false _ v) (not-false _ l)) (ap (λ (n : ℕ). (n, d.1)) (eqb-true d.0 0 (not-false _ e))) (not-false _ p)))))

-- files of the same lengths are as ready
pub still_ready : (s : Settings) (z za z' za' : List ℕ) → Ready s z za → length z' ≡ length z → length za' ≡ length za → Ready s z' za'
still_ready s z za z' za' r p q = record { valid = r.valid; z_long = p ∙ r.z_long; za_long = q ∙ r.za_long }
