-- The statements of specs/Theorems.antt, proved. Assumes nothing.
use Prim.Native.Nat.{ℕ, ◌*◌, ◌/◌, ◌<◌}
use native.Mathlib.Omega.{arith}
use mathlib.Core.Path.{◌≡◌, refl, ap, ap₂, ◌∙◌}
use mathlib.Core.Logic.{◌≢◌}
use mathlib.Core.Bool.{true}
use mathlib.Core.List.{List}
use lib.ListN.{length, get_or, take, replicate}
use Rattle.laws.proofs.Lists.{first_decide}
use Rattle.laws.proofs.Tests.{never_both}
use Rattle.settings.specs.Valid.{valid_length, valid_settings, vector_bytes, array_bytes}
use Rattle.settings.specs.declared.Refusal.{Refusal}
use Rattle.settings.specs.declared.Refusal.TheVariants.{BadSettings, BadLength, ListEnds, BadNumber, TooManyWords, ExtraBytes}
use Rattle.settings.specs.Refused.{refusal_number}
use Rattle.settings.proofs.Lengths.{valid_parts}
use Rattle.numbers.specs.Numbers.{all, number_at, numbers_at}
use Rattle.numbers.proofs.Places.{number_far}
use Rattle.numbers.proofs.Rows.{row_first}
use Rattle.machine.specs.Execute.{right_lengths}
use Rattle.machine.proofs.Executing.{lengths_right}
use Rattle.runlist.specs.Plan.{lengths_of, most_words, settings_of}
use Rattle.demands.specs.Lists.{longest}
use Rattle.demands.proofs.Reading.{Causes, by_cause}
use Rattle.demands.proofs.Lists.{enough_bytes, run_of_enough}
use Rattle.lamp.specs.Lamp.{words_of, text_of, lines_of, register_of, register_bytes, lent_to, printed}
use Rattle.lamp.specs.Theorems.{EnoughRead, NeverBadLength}

-- ---- the first bytes decide

-- the first number of a list stands in its first five bytes
first_number : (k : ℕ) → 5 < k → (list : List ℕ) → number_at (take k list) 0 ≡ number_at list 0
first_number k h list = first_decide (λ (l : List ℕ). number_at l 0) k (λ xs ys (e : length xs ≡ k). number_far xs ys 0 (omega arith)) list

same_lines : (k : ℕ) → longest < k → (list z za report : List ℕ) → lines_of (take k list) z za report ≡ lines_of list z za report
unfolding lines_of
same_lines k h list z za report =
    ap₂ text_of (ap words_of (enough_bytes k h list (lengths_of z za report))) (run_of_enough k h list z za report)

pub enough_read : EnoughRead
unfolding printed register_bytes
enough_read k h list =
    ap (λ (n : ℕ). lines_of (take k list) (replicate (32 * n) 0) (replicate (n * n) 0) (replicate (4 * most_words) 0))
    (ap register_of (first_number k (omega arith) list))
    ∙ same_lines k h list _ _ _

-- ---- what is lent is as long as the list asks for

-- the lengths are those of the VL that the settings have
lent_right : (list head : List ℕ) (p : ℕ) → numbers_at list 0 7 ≡ all head p → valid_settings (settings_of head) ≡ true
    → right_lengths (settings_of head) (lent_to list).z (lent_to list).za ≡ true
unfolding vector_bytes array_bytes settings_of register_bytes
lent_right list head p e v =
    let vl : ℕ = get_or head 0 0 in
    let l : valid_length vl ≡ true = (valid_parts (settings_of head) v).0 in
    let w : register_of (number_at list 0) ≡ vl / 8 = ap register_of (row_first list 0 6 head p e).1 ∙ rw l in
    lengths_right (settings_of head) _ _ (ap (λ (n : ℕ). 32 * n) w) (ap (λ (n : ℕ). n * n) w)

another : (r : Refusal) → refusal_number r ≢ 2 → r ≢ BadLength
another r h e = h (ap refusal_number e)

-- the two causes of 2 are not there: the lengths are right, and the report has room for as many words as a list may have
others : (list : List ℕ) → Causes list (lent_to list) (λ r p. r ≢ BadLength)
others list =
    record {
      ends = λ p h. another ListEnds (λ (e : 7 ≡ 2). omega arith);
      bad = λ p h. another BadNumber (λ (e : 8 ≡ 2). omega arith);
      settings = another BadSettings (λ (e : 1 ≡ 2). omega arith);
      lengths = λ head at e v l. absurd (never_both _ (lent_right list head at e v) l);
      report = λ n h k. absurd (omega arith);
      many = λ p h. another TooManyWords (λ (e : 9 ≡ 2). omega arith);
      extra = λ p h. another ExtraBytes (λ (e : 10 ≡ 2). omega arith);
    }

pub never_bad_length : NeverBadLength
never_bad_length list p e = by_cause list (lent_to list) (λ r p. r ≢ BadLength) (others list) BadLength p e refl
