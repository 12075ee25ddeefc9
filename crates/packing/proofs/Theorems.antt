-- The statements of specs/Theorems.antt, proved but for the first, which Put.antt proves. Assumes nothing.
use Rattle.std.specs.Prelude.{Option, Some, None}
use Prim.Native.Nat.{ℕ, ◌^◌}
use native.Mathlib.Nat.{div-add-mod'}
use native.Mathlib.Omega.{arith}
use mathlib.Core.Path.{◌≡◌, sym, ap, ◌∙◌}
use mathlib.Core.Bool.{true}
use mathlib.Core.List.{List}
use lib.ListN.{length, get_or}
use borrow.Author.Tests.{leb-true, le-leb}
use Rattle.laws.proofs.Lists.{elements, elements_are}
use Rattle.laws.proofs.Tests.{both, by_cond}
use Rattle.words.specs.Numbers.{family_of}
use Rattle.words.specs.declared.Fields.{Fields}
use Rattle.words.proofs.Numbers.{family_range, family_back, number_family, bit_range, bit_back, number_bit}
use Rattle.packing.specs.Packing.{field_at, field_numbers, are_fields, fields_with, fields_from}
use Rattle.packing.specs.Theorems.{AnswerBack, FieldsBack, NumbersBack}

-- ---- an answer

pub answer_back : AnswerBack
answer_back answer = div-add-mod' answer (2 ^ 32)

-- ---- fields and their numbers

pub fields_back : FieldsBack
unfolding fields_from
fields_back f =
    let g = family_range f.family in
    rw (le-leb _ _ g.0, le-leb _ _ g.1, le-leb _ _ (bit_range f.unsigned), le-leb _ _ (bit_range f.subtract), family_back f.family, bit_back f.unsigned, bit_back f.subtract)

-- twelve numbers, of which the first three are in range
numbers_are : (n : List ℕ) → length n ≡ 12 → are_fields n ≡ true → field_numbers (fields_with (family_of (get_or n field_at.family 0)) n) ≡ n
unfolding elements
numbers_are n e t =
    let p = both _ _ t in
    let q = both _ _ p.0 in
    let r = both _ _ q.0 in
    rw (number_family (get_or n field_at.family 0) (leb-true _ _ r.0) (leb-true _ _ r.1), number_bit (get_or n field_at.unsigned 0) (leb-true _ _ q.1), number_bit (get_or n field_at.subtract 0) (leb-true _ _ p.1))
    (elements_are 12 0 n (sym e))

are : Option Fields → Fields → Fields
are (Some f) g = f
are None g = g

pub numbers_back : NumbersBack
unfolding fields_from are
numbers_back n f e =
    by_cond (are_fields n) (Some (fields_with (family_of (get_or n field_at.family 0)) n)) None (Some f)
    (λ t g. ap field_numbers (sym (ap (λ (x : Option Fields). are x f) g)) ∙ numbers_are n e t)
    (λ _ g. let z : ◌≡◌ {A = ℕ} 0 1 = cc in absurd (omega arith))
