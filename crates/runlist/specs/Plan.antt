-- Document 01, "The run list": what a list asks for, or why it is refused, "found while reading left to right, the first fault deciding".
-- The whole is plan_of, at the end; its parts stand before it, the list's last first.
use Rattle.std.specs.Prelude.{ℕ, ◌+◌, ◌*◌, Bool, cond, List, [], ◌∷◌, leb, eqb, length, get_or, take, drop, Ok, Err}
use Rattle.settings.specs.Valid.{valid_settings, vector_bytes}
use Rattle.settings.specs.declared.Refusal.{Refusal}
use Rattle.settings.specs.declared.Refusal.TheVariants.{BadSettings, BadLength, ListEnds, TooManyWords, ExtraBytes}
use Rattle.settings.specs.declared.Settings.{Settings}
use Rattle.numbers.specs.Numbers.{Numbers, all, fault, Read, number_at, numbers_at}
use Rattle.runlist.specs.declared.Lengths.{Lengths}
use Rattle.machine.specs.Execute.{right_lengths}

-- how much is lent for a run: Z, ZA and the report
abbrev pub lengths_of : List ℕ → List ℕ → List ℕ → Lengths
lengths_of z za report = record { z = length z; za = length za; report = length report }

-- what was found in a list, or a refusal: "A refused list also gives a place"
pub data Found (A : Type 0) : Type 0 where
  found : A → Found A
  refused : Refusal → ℕ → Found A

-- a test, and what follows where it holds: where it does not, the list is refused with this, at this place
abbrev pub provided : {A : Type 0} → Bool → Refusal → ℕ → Found A → Found A
provided holds r p follows = cond holds follows (refused r p)

-- what a list asks for: the settings, the Z bytes to begin with, and the words
pub record Asked : Type 0 where
  pub settings : Settings
  pub z : List ℕ
  pub words : List ℕ

-- "9, n above 1,024"
abbrev pub most_words : ℕ
most_words = 1024

-- the words, after which the list ends. "10, bytes after the last word", at "the first extra byte"; 7 or 8, at the word that is faulty
abbrev pub ended_at : List ℕ → Numbers → Found (List ℕ)
ended_at list (all ws p) = provided (eqb p (length list)) ExtraBytes p (found ws)
ended_at list (fault vs r p) = refused r p

-- the count n, which was read at `at`, then n words: 9, at "the first byte of n". "The report's length (2) is tested after 9 and before
-- the first word", and "case 2 of the lengths reads 4n" (document 02): at least 4n numbers of 32 bits
abbrev pub after_count : List ℕ → Lengths → ℕ → Read → Found (List ℕ)
after_count list lent at (Ok n) =
    provided (leb n.value most_words) TooManyWords at
    (provided (leb (4 * n.value) lent.report) BadLength 0 (ended_at list (numbers_at list n.next n.value)))
after_count list lent at (Err f) = refused f.refusal f.place

-- "a count n; n words", from `at` on
unfoldable pub words_from : List ℕ → Lengths → ℕ → Found (List ℕ)
words_from list lent at = after_count list lent at (number_at list at)

-- the settings and the Z bytes, and the words behind them
abbrev pub asking : Settings → List ℕ → Found (List ℕ) → Found Asked
asking s z (found ws) = found (record { settings = s; z = z; words = ws })
asking s z (refused r p) = refused r p

-- "Z holds 32 registers, 32·VL/8 bytes"
abbrev pub z_length : Settings → ℕ
z_length s = 32 * vector_bytes s

-- "the Z bytes as they are", from `at` on, then the count and the words: 7, at the first of the Z bytes, where the list ends inside them
unfoldable pub z_from : List ℕ → Lengths → Settings → ℕ → Found Asked
z_from list lent s at =
    provided (leb (at + z_length s) (length list)) ListEnds at
    (asking s (take (z_length s) (drop at list)) (words_from list lent (at + z_length s)))

-- "Settings are tested (1) after W11, and next the exact lengths of Z and ZA (2)"
unfoldable pub settled_from : List ℕ → Lengths → Settings → ℕ → Found Asked
settled_from list lent s at =
    provided (valid_settings s) BadSettings 0 (provided (right_lengths s lent.z lent.za) BadLength 0 (z_from list lent s at))

-- "In order: VL, features, modes, W8, W9, W10, W11"
unfoldable pub settings_of : List ℕ → Settings
settings_of head =
    record {
      vl = get_or head 0 0;
      features = record { 0 = get_or head 1 0 };
      modes = record { 0 = get_or head 2 0 };
      select = get_or head 3 0 ∷ get_or head 4 0 ∷ get_or head 5 0 ∷ get_or head 6 0 ∷ [];
    }

-- the seven numbers, and what follows them: 7 or 8, at the one that is faulty
abbrev pub headed : List ℕ → Lengths → Numbers → Found Asked
headed list lent (all head p) = settled_from list lent (settings_of head) p
headed list lent (fault vs r p) = refused r p

-- what a list asks for, where so much is lent
unfoldable pub plan_of : List ℕ → Lengths → Found Asked
plan_of list lent = headed list lent (numbers_at list 0 7)
