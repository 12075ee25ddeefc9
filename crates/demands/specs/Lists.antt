-- What holds of every run list, in document 01's words. Statements only: proofs/Written.antt proves those on lists that are written, and
-- proofs/Lists.antt the others.
use Rattle.std.specs.Prelude.{ℕ, ◌+◌, ◌*◌, ◌^◌, ◌≤◌, ◌<◌, ◌≡◌, ◌≢◌, true, List, [], ◌∷◌, ◌++◌, length, take}
use Rattle.laws.specs.Lists.{Each}
use Rattle.settings.specs.Valid.{valid_settings}
use Rattle.settings.specs.declared.Refusal.{Refusal}
use Rattle.settings.specs.declared.Refusal.TheVariants.{BadSettings, BadLength, UnknownWord, WrongMode, NoSuchWord, NoPartner, ListEnds, BadNumber, TooManyWords, ExtraBytes, NotText, ShortRoom}
use Rattle.settings.specs.declared.Settings.{Settings}
use Rattle.numbers.specs.Numbers.{put, puts}
use Rattle.machine.specs.Execute.{right_lengths}
use Rattle.runlist.specs.Plan.{found, refused, Asked, most_words, plan_of}
use Rattle.runlist.specs.declared.Lengths.{Lengths}
use Rattle.runlist.specs.RunList.{run_paper}

-- ---- how long a list can be

-- "In order: VL, features, modes, W8, W9, W10, W11; the Z bytes as they are; a count n; n words": VL has two bytes, features and
-- modes one each, a number below 2^32 at most five; 2,048 Z bytes; 1,024 has two
abbrev pub longest : ℕ
longest = 2 + 1 + 1 + 4 * 5 + 2048 + 2 + most_words * 5

-- no accepted list is longer
abbrev pub AtMostLongest : Type 0
AtMostLongest = (list : List ℕ) (lent : Lengths) (a : Asked) → plan_of list lent ≡ found a → length list ≤ longest

-- "10, bytes after the last word", at "the first extra byte": an accepted list is not the beginning of another
abbrev pub OnlyWhole : Type 0
OnlyWhole =
    (list : List ℕ) (lent : Lengths) (a : Asked) → plan_of list lent ≡ found a
    → (t : List ℕ) → t ≢ [] → plan_of (list ++ t) lent ≡ refused ExtraBytes (length list)

-- "the first fault deciding": a longer list has it within itself, so that bytes after the list change nothing
abbrev pub FirstBytesDecide : Type 0
FirstBytesDecide = (list t : List ℕ) (lent : Lengths) → longest < length list → plan_of (list ++ t) lent ≡ plan_of list lent

-- so of any list it is enough to have one byte more than the longest
abbrev pub EnoughBytes : Type 0
EnoughBytes = (k : ℕ) → longest < k → (list : List ℕ) (lent : Lengths) → plan_of (take k list) lent ≡ plan_of list lent

-- and the run of those bytes ends as that of the whole list
abbrev pub RunOfEnough : Type 0
RunOfEnough = (k : ℕ) → longest < k → (list z za report : List ℕ) → run_paper (take k list) z za report ≡ run_paper list z za report

-- ---- what holds of an accepted list

-- the settings are valid, the lengths of Z and ZA "exact"; the list has all Z bytes; n is not "above 1,024", and the report has "at least" 4n "numbers"
pub record FitsLent (lent : Lengths) (a : Asked) : Type 0 where
  pub valid : valid_settings a.settings ≡ true
  pub exact : right_lengths a.settings lent.z lent.za ≡ true
  pub z_bytes : length a.z ≡ lent.z
  pub few : length a.words ≤ most_words
  pub reported : 4 * length a.words ≤ lent.report

-- what is asked for fits what was lent
abbrev pub LengthsHold : Type 0
LengthsHold = (list : List ℕ) (lent : Lengths) (a : Asked) → plan_of list lent ≡ found a → FitsLent lent a

-- ---- lists that are written

-- the seven numbers of settings
abbrev pub numbers_of : Settings → List ℕ
numbers_of s = s.vl ∷ s.features.0 ∷ s.modes.0 ∷ s.select

-- "In order: VL, features, modes, W8, W9, W10, W11; the Z bytes as they are; a count n; n words"
unfoldable pub list_of : Asked → List ℕ
list_of a = puts (numbers_of a.settings) ++ (a.z ++ (put (length a.words) ++ puts a.words))

-- what can be asked for: it fits what is lent, and each number is "below 2^32"
pub record Askable (lent : Lengths) (a : Asked) : Type 0 where
  pub fits : FitsLent lent a
  pub four : length a.settings.select ≡ 4
  pub numbers : Each (λ n. n < 2 ^ 32) (numbers_of a.settings)
  pub words : Each (λ n. n < 2 ^ 32) a.words

-- whoever writes a list so is understood
abbrev pub WrittenIsRead : Type 0
WrittenIsRead = (lent : Lengths) (a : Asked) → Askable lent a → plan_of (list_of a) lent ≡ found a

-- and there is no other way to write it
abbrev pub OneList : Type 0
OneList = (list : List ℕ) (lent : Lengths) (a : Asked) → plan_of list lent ≡ found a → list ≡ list_of a

-- the longest list is there: at VL 512
abbrev pub LongestReached : Type 0
LongestReached = (a : Asked) × (plan_of (list_of a) (record { z = 2048; za = 4096; report = 4 * most_words }) ≡ found a) × (length (list_of a) ≡ longest)

-- ---- what holds of a refused list

-- "every lent buffer keeps its contents"
abbrev pub RefusedKeeps : Type 0
RefusedKeeps =
    (list z za report : List ℕ) → (run_paper list z za report).number ≢ 0
    → ((run_paper list z za report).z ≡ z) × ((run_paper list z za report).za ≡ za) × ((run_paper list z za report).report ≡ report)

-- its place is in the list, or at its end
abbrev pub PlaceInside : Type 0
PlaceInside = (list : List ℕ) (lent : Lengths) (r : Refusal) (p : ℕ) → plan_of list lent ≡ refused r p → p ≤ length list

-- however long the list is, that is within the bytes that decide
abbrev pub PlaceNear : Type 0
PlaceNear = (list : List ℕ) (lent : Lengths) (r : Refusal) (p : ℕ) → plan_of list lent ≡ refused r p → p ≤ longest + 1

-- so both numbers that a run answers are small
abbrev pub RunSmall : Type 0
RunSmall = (list z za report : List ℕ) → ((run_paper list z za report).place ≤ longest + 1) × ((run_paper list z za report).words ≤ most_words)

-- the refusals of a list, and their places: 1 and 2, and with them the place is 0; 7 to 10
abbrev pub OfList : Refusal → ℕ → Type 0
OfList BadSettings p = p ≡ 0
OfList BadLength p = p ≡ 0
OfList UnknownWord p = ⊥
OfList WrongMode p = ⊥
OfList NoSuchWord p = ⊥
OfList NoPartner p = ⊥
OfList ListEnds p = Unit {0}
OfList BadNumber p = Unit {0}
OfList TooManyWords p = Unit {0}
OfList ExtraBytes p = Unit {0}
OfList NotText p = ⊥
OfList ShortRoom p = ⊥

-- no other is given to a list: "0 with every other refusal" than 7 to 10
abbrev pub RefusedWith : Type 0
RefusedWith = (list : List ℕ) (lent : Lengths) (r : Refusal) (p : ℕ) → plan_of list lent ≡ refused r p → OfList r p
