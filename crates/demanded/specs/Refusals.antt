-- Document 01, "Refusal numbers, tested in this order", and those of request One: of each public call, which refusal is given where no earlier one
-- is due, and what a refused call leaves. Of `execute` the order is `RefusedInOrder` (demands/specs/Execution.antt). Statements only:
-- proofs/Refusals.antt proves each.
use Rattle.std.specs.Prelude.{ℕ, ◌+◌, ◌*◌, ◌<◌, ◌≤◌, ◌≡◌, ◌≢◌, true, false, List, [], ◌∷◌, map, length, Err}
use Rattle.settings.specs.Valid.{valid_settings}
use Rattle.settings.specs.Refused.{refusal_number}
use Rattle.settings.specs.declared.Refusal.{Refusal}
use Rattle.settings.specs.declared.Refusal.TheVariants.{BadSettings, BadLength, UnknownWord, WrongMode, NoSuchWord, NoPartner, ListEnds, BadNumber, TooManyWords, ExtraBytes, NotText, ShortRoom}
use Rattle.settings.specs.declared.Settings.{Settings}
use Rattle.words.specs.Says.{table, SaidBy}
use Rattle.words.specs.Decode.{enables, no_fields, decode_paper}
use Rattle.words.specs.Partner.{partner_paper}
use Rattle.words.specs.declared.Family.TheVariants.{Saturating}
use Rattle.words.specs.declared.Fields.{Fields}
use Rattle.encoding.specs.Encode.{Has}
use Rattle.numbers.specs.Numbers.{all, fault, number, no_number, number_at, numbers_at}
use Rattle.numbers.specs.declared.Fault.{Fault}
use Rattle.machine.specs.Execute.{right_lengths, ExecutePromise}
use Rattle.runlist.specs.Plan.{most_words, z_length, settings_of}
use Rattle.runlist.specs.RunList.{refused_at, run_paper, RunPromise}
use Rattle.spelling.specs.Spell.{spell}
use Rattle.spelling.specs.Print.{print_paper, PrintPromise}
use Rattle.spelling.specs.Language.{Spells}

-- the numbers, in the order of the table and of "Further numbers"; then those of request One
abbrev pub RefusalNumbers : Type 0
RefusalNumbers =
    map refusal_number
    (BadSettings ∷ BadLength ∷ UnknownWord ∷ WrongMode ∷ NoSuchWord ∷ NoPartner ∷ ListEnds ∷ BadNumber ∷ TooManyWords ∷ ExtraBytes ∷ NotText ∷ ShortRoom ∷ [])
    ≡ 1 ∷ 2 ∷ 3 ∷ 4 ∷ 5 ∷ 6 ∷ 7 ∷ 8 ∷ 9 ∷ 10 ∷ 11 ∷ 12 ∷ []

-- ---- "Decode tests 1, 3; encode 1, 5, 3; partner 1, 3, 6"

-- 3: "no layout matches, a reserved size, or a feature missing"
pub record DecodeInOrder (s : Settings) (w : ℕ) : Type 0 where
  pub by_settings : valid_settings s ≡ false → decode_paper s w ≡ (1, no_fields)
  pub by_word : valid_settings s ≡ true → ((f : Fields) → SaidBy table w f → enables s.features.0 f ≡ true → ⊥) → decode_paper s w ≡ (3, no_fields)

-- 5: "no word of the family's layout, reserved sizes left out, has exactly these fields"
pub record EncodeInOrder (s : Settings) (f : Fields) (answer : ℕ × ℕ) : Type 0 where
  pub by_settings : valid_settings s ≡ false → answer ≡ (1, 0)
  pub by_fields : valid_settings s ≡ true → ((w : ℕ) → Has f w → ⊥) → answer ≡ (5, 0)
  pub by_feature : valid_settings s ≡ true → (w : ℕ) → Has f w → enables s.features.0 f ≡ false → answer ≡ (3, 0)

-- 6: "the word is of family C"
pub record PartnerInOrder (s : Settings) (w : ℕ) : Type 0 where
  pub by_settings : valid_settings s ≡ false → partner_paper s w ≡ (1, 0)
  pub by_word : valid_settings s ≡ true → ((f : Fields) → decode_paper s w ≢ (0, f)) → partner_paper s w ≡ (3, 0)
  pub by_family : (f : Fields) → decode_paper s w ≡ (0, f) → f.family ≡ Saturating → partner_paper s w ≡ (6, 0)

-- ---- request One: "printing tests 1, 3, then 12 ..; reading tests 1, then 11 .., then 3 .."

-- 12 "where the room is shorter than the text"
pub record PrintInOrder (s : Settings) (w : ℕ) (room : List ℕ) : Type 0 where
  pub by_settings : valid_settings s ≡ false → print_paper s w room ≡ ((1, 0), room)
  pub by_word : valid_settings s ≡ true → ((f : Fields) → decode_paper s w ≢ (0, f)) → print_paper s w room ≡ ((3, 0), room)
  pub by_room : (f : Fields) → decode_paper s w ≡ (0, f) → length room < length (spell false f) → print_paper s w room ≡ ((12, 0), room)

-- 11 "for text not of the language, then 3 for a missing feature"
pub record ReadInOrder (s : Settings) (t : List ℕ) (answer : ℕ × ℕ) : Type 0 where
  pub by_settings : valid_settings s ≡ false → answer ≡ (1, 0)
  pub by_text : valid_settings s ≡ true → ((w : ℕ) → Spells t w → ⊥) → answer ≡ (11, 0)
  pub by_feature : valid_settings s ≡ true → (w : ℕ) (p : Spells t w) → enables s.features.0 p.fields ≡ false → answer ≡ (3, 0)

-- ---- the run list: "found while reading left to right, the first fault deciding"

-- the list is refused with r, at place p, and all that was lent is as it was
abbrev pub RefusesWith : Refusal → ℕ → List ℕ → List ℕ → List ℕ → List ℕ → Type 0
RefusesWith r p list z za report = run_paper list z za report ≡ refused_at (refusal_number r) p z za report

-- the seven numbers in front are there, and the Z bytes begin at `at`
abbrev pub InFront : List ℕ → List ℕ → ℕ → Type 0
InFront list head at = numbers_at list 0 7 ≡ all head at

-- they are valid settings, and Z and ZA have the lengths that these ask for
pub record LengthsRight (list z za head : List ℕ) (at : ℕ) : Type 0 where
  pub front : InFront list head at
  pub valid : valid_settings (settings_of head) ≡ true
  pub exact : right_lengths (settings_of head) (length z) (length za) ≡ true

-- the list has all Z bytes, the count n behind them is read, and the words begin at `from`
pub record CountKnown (list z za head : List ℕ) (at n from : ℕ) : Type 0 where
  pub lengths : LengthsRight list z za head at
  pub z_there : at + z_length (settings_of head) ≤ length list
  pub count : number_at list (at + z_length (settings_of head)) ≡ number n from

-- 1 after W11, "and next the exact lengths of Z and ZA (2)"; the Z bytes; the count, 9, "The report's length (2) is tested after 9 and before the
-- first word"; the words; 10
pub record ListInOrder (list z za report : List ℕ) : Type 0 where
  pub in_front : (vs : List ℕ) (r : Refusal) (p : ℕ) → numbers_at list 0 7 ≡ fault vs r p → RefusesWith r p list z za report
  pub by_settings : (head : List ℕ) (at : ℕ) → InFront list head at → valid_settings (settings_of head) ≡ false → RefusesWith BadSettings 0 list z za report
  pub by_lengths : (head : List ℕ) (at : ℕ) → InFront list head at → valid_settings (settings_of head) ≡ true
      → right_lengths (settings_of head) (length z) (length za) ≡ false → RefusesWith BadLength 0 list z za report
  pub in_z : (head : List ℕ) (at : ℕ) → LengthsRight list z za head at → length list < at + z_length (settings_of head) → RefusesWith ListEnds at list z za report
  pub in_count : (head : List ℕ) (at : ℕ) → LengthsRight list z za head at → at + z_length (settings_of head) ≤ length list
      → (r : Refusal) (p : ℕ) → number_at list (at + z_length (settings_of head)) ≡ no_number r p → RefusesWith r p list z za report
  pub by_count : (head : List ℕ) (at n from : ℕ) → CountKnown list z za head at n from → most_words < n
      → RefusesWith TooManyWords (at + z_length (settings_of head)) list z za report
  pub by_report : (head : List ℕ) (at n from : ℕ) → CountKnown list z za head at n from → n ≤ most_words → length report < 4 * n
      → RefusesWith BadLength 0 list z za report
  pub in_words : (head : List ℕ) (at n from : ℕ) → CountKnown list z za head at n from → n ≤ most_words → 4 * n ≤ length report
      → (vs : List ℕ) (r : Refusal) (p : ℕ) → numbers_at list from n ≡ fault vs r p → RefusesWith r p list z za report
  pub by_end : (head : List ℕ) (at n from : ℕ) → CountKnown list z za head at n from → n ≤ most_words → 4 * n ≤ length report
      → (ws : List ℕ) (p : ℕ) → numbers_at list from n ≡ all ws p → p ≢ length list → RefusesWith ExtraBytes p list z za report
  pub accepted : (head : List ℕ) (at n from : ℕ) → CountKnown list z za head at n from → n ≤ most_words → 4 * n ≤ length report
      → (ws : List ℕ) → numbers_at list from n ≡ all ws (length list) → (run_paper list z za report).number ≡ 0

-- ---- "every lent buffer keeps its contents"

-- whatever `execute` was lent, where it answers a refusal
abbrev pub ExecuteLeaves : Type 0
ExecuteLeaves =
    (s : Settings) (w : ℕ) (z za : List ℕ) (r : Refusal) (z' za' : List ℕ) → ExecutePromise s w z za (Err r) z' za'
    → (z' ≡ z) × (za' ≡ za)

-- and `run`
abbrev pub RunLeaves : Type 0
RunLeaves =
    (list z za report : List ℕ) (f : Fault) (z' za' report' : List ℕ) → RunPromise list z za report (Err f) z' za' report'
    → (z' ≡ z) × (za' ≡ za) × (report' ≡ report)

-- and `print`
abbrev pub PrintLeaves : Type 0
PrintLeaves = (s : Settings) (w : ℕ) (room : List ℕ) (r : Refusal) (room' : List ℕ) → PrintPromise s w room (Err r) room' → room' ≡ room
