-- The table of specs/Permitted.antt holds: a word's number is that of its family and lane, and that is computed for all sums. Assumes nothing.
use Prim.Native.Nat.{ℕ, zero, suc, ◌<◌}
use native.Mathlib.Omega.{arith}
use mathlib.Core.Path.{◌≡◌, refl, sym, ap, ◌∙◌}
use mathlib.Core.Logic.{⊎_elim}
use mathlib.Core.Bool.{Bool, true, false, ◌&&◌, cond}
use mathlib.Core.List.{List, [], ◌∷◌, head-eq_of_cons-eq, tail-eq_of_cons-eq}
use borrow.Author.Tests.{ltb-true}
use Rattle.laws.proofs.Tests.{all_three, by_lt}
use Rattle.settings.specs.Valid.{valid_features, valid_modes}
use Rattle.settings.specs.declared.Settings.{Settings}
use Rattle.settings.specs.declared.Refusal.TheVariants.{UnknownWord}
use Rattle.settings.proofs.Lengths.{valid_parts}
use Rattle.settings.proofs.Refusals.{not_0}
use Rattle.words.specs.Says.{As, describe}
use Rattle.words.specs.Decode.{enables_family, enables, decode_enabled, decode_paper}
use Rattle.words.specs.declared.Family.{Family}
use Rattle.words.specs.declared.Family.TheVariants.{ByElement, Vector, Saturating, LongLong, Long}
use Rattle.words.specs.declared.Fields.{Fields}
use Rattle.words.proofs.Answers.{decodes_exactly}
use Rattle.words.proofs.Ranges.{in_range, in_family}
use Rattle.machine.specs.Modes.{permits}
use Rattle.machine.specs.Execute.{Outcome, execute_paper}
use Rattle.machine.specs.Loop.{Ready}
use Rattle.machine.proofs.Executing.{not_decoded, not_permitted, is_permitted}
use Rattle.demands.specs.Permitted.{Needs, in_a, in_b, in_c, in_d, in_d_with_z, in_e, number_due, WordsOfTable, needs_of, EveryWord, EnabledAndPermitted}
use Rattle.demands.proofs.Outcomes.{stepped_number}

-- ---- the number of a word, by its family and its lane

abbrev number_of : Family → ℕ → ℕ → ℕ → ℕ
number_of family lane features modes = cond (enables_family features family lane) (cond (permits features modes family) 0 4) 3

module _ (s : Settings) (w : ℕ) (z za : List ℕ) (r : Ready s z za) (f : Fields) (said : describe w ≡ As f) where
  not_enabled : enables s.features.0 f ≡ false → (decode_paper s w).0 ≡ 3
  unfolding decode_paper decode_enabled
  not_enabled e = rw (r.valid, said, e)

  at_modes : decode_paper s w ≡ (0, f) → (p : Bool) → permits s.features.0 s.modes.0 f.family ≡ p
      → (execute_paper s w z za).number ≡ cond p 0 4
  at_modes d true p = ap (λ (o : Outcome). o.number) (sym (is_permitted s z za w f r d p)) ∙ stepped_number s f z za
  at_modes d false p = ap (λ (o : Outcome). o.number) (sym (not_permitted s z za w f r d p))

  at_features : (b : Bool) → enables s.features.0 f ≡ b
      → (execute_paper s w z za).number ≡ cond b (cond (permits s.features.0 s.modes.0 f.family) 0 4) 3
  at_features true e =
      at_modes ((decodes_exactly s w f).1 (record { valid = r.valid; says = said; enabled = e })) (permits s.features.0 s.modes.0 f.family) refl
  at_features false e =
      ap (λ (o : Outcome). o.number) (sym (not_decoded s z za w r (λ n. not_0 UnknownWord (sym (not_enabled e) ∙ n))))

  number_is : (family : Family) (lane : ℕ) → f.family ≡ family → f.lane ≡ lane
      → (execute_paper s w z za).number ≡ number_of family lane s.features.0 s.modes.0
  unfolding enables
  number_is family lane ef el = at_features (enables s.features.0 f) refl ∙ rw (ef, el)

-- ---- all sums at once

-- f of the numbers below n, the last first
below : {A : Type 0} → (ℕ → A) → ℕ → List A
below f zero = []
below f (suc n) = f n ∷ below f n

below_at : {A : Type 0} (f g : ℕ → A) (n : ℕ) → below f n ≡ below g n → (i : ℕ) → i < n → f i ≡ g i
unfolding below
below_at f g zero e i h = absurd (omega arith)
below_at f g (suc n) e i h =
    by_lt i n
    (λ l. below_at f g n (tail-eq_of_cons-eq e) i l)
    (λ l. let q : i ≡ n = omega arith in ap f q ∙ head-eq_of_cons-eq e ∙ sym (ap g q))

-- a number for each sum of features and each of modes; 1 stands for those that are not valid
abbrev where_valid : (ℕ → ℕ → ℕ) → ℕ → ℕ → ℕ
where_valid number features modes = cond (valid_features features && valid_modes features modes) (number features modes) 1

all : (ℕ → ℕ → ℕ) → List (List ℕ)
all number = below (λ features. below (where_valid number features) 4) 32

all_at : (f g : ℕ → ℕ → ℕ) → all f ≡ all g → (features modes : ℕ) → valid_features features ≡ true → valid_modes features modes ≡ true → f features modes ≡ g features modes
unfolding all
all_at f g e features modes p q =
    let few : features < 32 = ltb-true features 32 (all_three _ _ _ p).0 in
    let less : modes < 4 = ltb-true modes 4 (all_three _ _ _ q).0 in
    rw (p, q) at (below_at (where_valid f features) (where_valid g features) 4 (below_at _ _ 32 e features few) modes less)

-- ---- the words

module _ (s : Settings) (z za : List ℕ) (r : Ready s z za) where
  by_table : (l : Needs) (w : ℕ) (f : Fields) → describe w ≡ As f → (family : Family) (lane : ℕ) → f.family ≡ family → f.lane ≡ lane
      → all (number_of family lane) ≡ all (number_due l) → (execute_paper s w z za).number ≡ number_due l s.features.0 s.modes.0
  by_table l w f said family lane ef el e =
      let v = valid_parts s r.valid in
      number_is s w z za r f said family lane ef el ∙ all_at (number_of family lane) (number_due l) e s.features.0 s.modes.0 v.1 v.2

  -- the lists, against the definitions
  in_family_is : (w : ℕ) (f : Fields) → describe w ≡ As f → (family : Family) → f.family ≡ family
      → (execute_paper s w z za).number ≡ number_due (needs_of family f.lane) s.features.0 s.modes.0
  unfolding below all
  in_family_is w f said ByElement e = by_table in_a w f said ByElement f.lane e refl refl
  in_family_is w f said Vector e = by_table in_b w f said Vector f.lane e refl refl
  in_family_is w f said Saturating e = by_table in_c w f said Saturating f.lane e refl refl
  in_family_is w f said LongLong e =
      ⊎_elim
      (λ (l : f.lane ≡ 8). rw l (by_table in_d w f said LongLong 8 e l refl))
      (λ (l : f.lane ≡ 16). rw l (by_table in_d_with_z w f said LongLong 16 e l refl))
      (in_family f (in_range w f said) LongLong e).1
  in_family_is w f said Long e = by_table in_e w f said Long f.lane e refl refl

  every : EveryWord s z za
  every w f said = in_family_is w f said f.family refl

  of_table : WordsOfTable s z za
  unfolding describe
  of_table = (
    (every 0x2F726820 _ refl, (every 0x2FA26820 _ refl, tt)),
    (
      (every 0x0E228020 _ refl, tt),
      (
        (every 0x44BA3820 _ refl, (every 0x44F22820 _ refl, tt)),
        (
          (every 0xC1A20008 _ refl, (every 0xC1A10008 _ refl, tt)),
          (
            (every 0xC1E20008 _ refl, (every 0xC1E10008 _ refl, tt)),
            (
              (every 0xC1E20800 _ refl, (every 0xC1E10800 _ refl, tt)),
              tt,
            ),
          ),
        ),
      ),
    ),
  )

pub enabled_and_permitted : EnabledAndPermitted
enabled_and_permitted =
    record {
      table_holds = λ s z za v p q. of_table s z za (record { valid = v; z_long = p; za_long = q });
      every_word = λ s z za v p q. every s z za (record { valid = v; z_long = p; za_long = q });
    }
