-- What the functions that read a list promise: what their answers say of the list, and the room that is lent for the words. Only contracts
-- use this: what a list asks for stands in Plan.antt.
use Rattle.std.specs.Prelude.{ℕ, ◌+◌, ◌*◌, ◌≤◌, ◌≡◌, true, List, length, take, drop, Result, Ok, Err, IfOk}
use Rattle.settings.specs.Valid.{valid_settings}
use Rattle.settings.specs.declared.Settings.{Settings}
use Rattle.numbers.specs.Numbers.{all, Read, numbers_at}
use Rattle.numbers.specs.declared.Fault.{Fault}
use Rattle.machine.specs.Execute.{right_lengths}
use Rattle.runlist.specs.Plan.{Found, found, refused, Asked, most_words, ended_at, words_from, asking, settled_from, settings_of, plan_of}
use Rattle.runlist.specs.declared.Front.{Front}
use Rattle.runlist.specs.declared.Lengths.{Lengths}

-- ---- the words

-- what an answer says, with the words that were filled in
abbrev pub words_say : {A : Type 0} → Result A Fault → List ℕ → Found (List ℕ)
words_say (Ok u) ws = found ws
words_say (Err f) ws = refused f.refusal f.place

-- what a count says of the words behind it
abbrev pub count_says : Read → List ℕ → Found (List ℕ)
count_says (Ok n) list = ended_at list (numbers_at list n.next n.value)
count_says (Err f) list = refused f.refusal f.place

-- ---- what stands before them

-- what a list asks for that goes on with the z bytes from `at` on, and n words from `from` on
abbrev pub goes_on : Settings → List ℕ → ℕ → ℕ → ℕ → ℕ → Found Asked
goes_on s list at z from n = asking s (take z (drop at list)) (ended_at list (numbers_at list from n))

-- what an answer says of the list
abbrev pub front_says : Result Front Fault → List ℕ → ℕ → Found Asked
front_says (Ok f) list z = goes_on f.settings list f.at z f.from f.words
front_says (Err f) list z = refused f.refusal f.place

-- the z bytes are there, the words are not too many, and the report has room for them
abbrev pub FrontFits : Result Front Fault → List ℕ → Lengths → Type 0
FrontFits r list lent = IfOk r (λ f. (f.at + lent.z ≤ length list) × (f.words ≤ most_words) × (4 * f.words ≤ lent.report))

-- the settings are valid, and Z and ZA have their lengths
abbrev pub Settled : Result Front Fault → Lengths → Type 0
Settled r lent = IfOk r (λ f. (valid_settings f.settings ≡ true) × (right_lengths f.settings lent.z lent.za ≡ true))

-- ---- promises

-- the count; how long Z and ZA are does not matter to it
pub record CountRead (list : List ℕ) (report at : ℕ) (r : Read) : Type 0 where
  pub says : (z za : ℕ) → count_says r list ≡ words_from list (record { z = z; za = za; report = report }) at
  pub fits : IfOk r (λ n. (n.value ≤ most_words) × (4 * n.value ≤ report))

-- what follows the seven numbers, which end at `at`
pub record RestRead (list : List ℕ) (lent : Lengths) (s : Settings) (at : ℕ) (r : Result Front Fault) : Type 0 where
  pub says : front_says r list lent.z ≡ settled_from list lent s at
  pub fits : FrontFits r list lent
  pub settled : Settled r lent
  pub given : IfOk r (λ f. (f.settings ≡ s) × (f.at ≡ at))

-- all before the words, with the settings of the seven numbers as they were read
pub record FrontRead (list : List ℕ) (lent : Lengths) (r : Result Front Fault) : Type 0 where
  pub says : front_says r list lent.z ≡ plan_of list lent
  pub fits : FrontFits r list lent
  pub settled : Settled r lent
  pub read : IfOk r (λ f. (head : List ℕ) × (numbers_at list 0 7 ≡ all head f.at) × (f.settings ≡ settings_of head))
