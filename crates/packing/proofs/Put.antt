-- What is put down of an answer: its two halves, and the numbers of the arrays. Assumes nothing.
use Rattle.std.specs.Prelude.{Some, None, Result, Ok, Err}
use Prim.Native.Nat.{ℕ, ◌<◌, ◌≤◌}
use native.Mathlib.Omega.{arith}
use mathlib.Core.Path.{◌≡◌, refl, sym, ap, ap₂, ◌∙◌}
use mathlib.Core.Logic.{◌⊎◌, ⊎_elim}
use mathlib.Core.Bool.{true, false, ◌||◌}
use lib.Dec.{ltb}
use borrow.Author.Tests.{ltb-true, ltb-false, leb-true, le-leb}
use Rattle.std.specs.Result.{result_ok}
use Rattle.std.proofs.lemmas.Bool.{or_parts}
use Rattle.std.proofs.lemmas.Option.{same_Some, none-some}
use mathlib.Core.List.{List, [], ◌∷◌}
use lib.ListN.{get_or}
use lib.Arith.{digits_div, digits_mod}
use Rattle.laws.proofs.Tests.{both, failed, either, cond_yes, cond_no}
use Rattle.settings.specs.Refused.{refusal_number}
use Rattle.settings.specs.declared.Refusal.{Refusal}
use Rattle.settings.proofs.Refusals.{tests_not_0}
use Rattle.words.specs.Decode.{decoded_says}
use Rattle.words.specs.declared.Fields.{Fields}
use Rattle.tally.specs.declared.Counts.{Counts}
use Rattle.words.specs.Numbers.{family_number, family_of, FamilyOf}
use Rattle.words.specs.declared.UnknownFamily.{UnknownFamily}
use Rattle.words.specs.declared.Family.{Family}
use Rattle.words.proofs.Numbers.{family_range, family_back}
use Rattle.packing.specs.Packing.{halves, field_at, field_numbers, are_fields, fields_with, fields_from, decoded_into, ExecutedPut}
use Rattle.packing.specs.Theorems.{HalvesBack}

-- ---- the halves

pub halves_back : HalvesBack
halves_back refusal value h = ap₂ (λ (a b : ℕ). (a, b)) (digits_mod value h) (digits_div value h)

-- ---- fields

module _ (n : List ℕ) where
  -- the numbers of the family, of U and of S
  abbrev family : ℕ
  family = get_or n field_at.family 0

  abbrev unsigned : ℕ
  unsigned = get_or n field_at.unsigned 0

  abbrev subtract : ℕ
  subtract = get_or n field_at.subtract 0

  no_fields : (are_fields n ≡ true → ⊥) → None ≡ fields_from n
  unfolding fields_from
  no_fields h = cond_no (are_fields n) _ _ _ (failed _ h) refl

  pub no_bits : (ltb 1 unsigned || ltb 1 subtract) ≡ true → None ≡ fields_from n
  no_bits h =
      no_fields
      (λ (t : are_fields n ≡ true). let p = both _ _ t in let q = both _ _ p.0 in
      let u : unsigned ≤ 1 = leb-true unsigned 1 q.1 in let s : subtract ≤ 1 = leb-true subtract 1 p.1 in
      either _ _ h (λ a. let l = ltb-true 1 unsigned a in absurd (omega arith)) (λ b. let l = ltb-true 1 subtract b in absurd (omega arith)))

  pub no_family : (family < 1) ⊎ (5 < family) → None ≡ fields_from n
  no_family h =
      no_fields
      (λ t. let p = both _ _ t in let q = both _ _ p.0 in let r = both _ _ q.0 in
      let l = leb-true 1 family r.0 in let m = leb-true family 5 r.1 in ⊎_elim (λ (a : family < 1). absurd (omega arith)) (λ (b : 5 < family). absurd (omega arith)) h)

  pub some_fields : (f : Family) → (ltb 1 unsigned || ltb 1 subtract) ≡ false → family_number f ≡ family → Some (fields_with f n) ≡ fields_from n
  unfolding fields_from
  some_fields f h e =
      let b = or_parts _ _ h in
      let r = family_range f in
      let u : unsigned ≤ 1 = ltb-false 1 unsigned b.0 in
      let s : subtract ≤ 1 = ltb-false 1 subtract b.1 in
      let least : 1 ≤ family = omega arith in
      let most : family ≤ 5 = omega arith in
      let all : are_fields n ≡ true = rw (le-leb _ _ least, le-leb _ _ most, le-leb _ _ u, le-leb _ _ s) in
      cond_yes (are_fields n) _ _ _ all (ap (λ (g : Family). Some (fields_with g n)) (sym (family_back f) ∙ ap family_of e))

-- what `Family::try_from` says of a number, of its `ok`
pub number_of_some : (n : ℕ) (r : Result Family UnknownFamily) (f : Family) → FamilyOf n r → result_ok r ≡ Some f → family_number f ≡ n
number_of_some n (Ok g) f h e = ap family_number (sym (same_Some g f e)) ∙ h
number_of_some n (Err x) f h e = absurd (none-some f e)

pub number_of_none : (n : ℕ) (r : Result Family UnknownFamily) → FamilyOf n r → result_ok r ≡ None → (n < 1) ⊎ (5 < n)
number_of_none n (Ok g) h e = absurd (none-some g (sym e))
number_of_none n (Err x) h e = h.1

-- ---- decode

module _ (a : Result Fields Refusal) (fields : List ℕ) where
  pub decoded_refused : (x : Refusal) (r : ℕ) → a ≡ Err x → halves r ≡ (refusal_number x, 0)
      → (halves r, fields) ≡ decoded_into (decoded_says a) fields
  decoded_refused x r e h = rw (e, tests_not_0 x) (ap (λ (p : ℕ × ℕ). (p, fields)) h)

  pub decoded_word : (f : Fields) (fields' : List ℕ) → a ≡ Ok f → fields' ≡ field_numbers f
      → (halves 0, fields') ≡ decoded_into (decoded_says a) fields
  decoded_word f fields' e h = rw e (ap (λ (n : List ℕ). (halves 0, n)) h)

-- ---- execute

module _ (a : Result Counts Refusal) (counts : List ℕ) where
  pub executed_refused : (x : Refusal) (r : ℕ) → a ≡ Err x → halves r ≡ (refusal_number x, 0) → ExecutedPut a counts r counts
  executed_refused x r e h z za =
      rw (e, tests_not_0 x) (ap (λ (p : ℕ × ℕ). record { answer = p; z = z; za = za; counts = counts }) h)

  pub executed_done : (c : Counts) → a ≡ Ok c → ExecutedPut a counts 0 (c.rises ∷ c.falls ∷ c.written ∷ [])
  executed_done c e z za = rw e
