-- The landed requests of document 02, a record each, as Demands.antt has the three demands: a field is a statement that the request makes, in its
-- words, and proofs/Requests.antt proves each record. What a request says of answers and refusals stands in Demand1.
use Rattle.std.specs.Prelude.{ℕ, ◌≤◌, ◌≡◌, true, false, List, ◌++◌, length, drop}
use Rattle.settings.specs.declared.Settings.{Settings}
use Rattle.words.specs.Says.{table, SaidBy}
use Rattle.words.specs.Decode.{decode_paper}
use Rattle.words.specs.declared.Fields.{Fields}
use Rattle.pieces.specs.Pieces.{text}
use Rattle.spelling.specs.Spell.{spell}
use Rattle.spelling.specs.Print.{print_paper}
use Rattle.spelling.specs.Language.{Spells, Reads}
use Rattle.demands.specs.Execution.{Always, CountsEach, WheneverV, CountsCleared, SameAt128}
use Rattle.demands.specs.Sweep.{ClearAt128}
use Rattle.demands.specs.Balance.{BitsAre, Balances, RisesFromZeros, FallsFromOnes, RunBalances, ListBalances}
use Rattle.spelling.specs.Theorems.{OneReading, PrintAfterRead, ReadAfterPrint, NoLonger, OneAsLong}

-- One. "Arm's preferred assembler text for every word of the five families, in lower case with one fixed spacing, and a reader for it"
pub record RequestOne : Type 0 where
  -- "C1A20008 prints as .."
  pub of_c1a20008 : (s : Settings) (f : Fields) → decode_paper s 0xC1A20008 ≡ (0, f)
      → spell false f ≡ text "smlsll za.s[w8, 0:3, vgx2], { z0.b-z1.b }, { z2.b-z3.b }"
  -- "an answer written into lent room comes with its length, and the room past it stays"
  pub printed : (s : Settings) (w : ℕ) (f : Fields) (room : List ℕ) → decode_paper s w ≡ (0, f) → length (spell false f) ≤ length room
      → print_paper s w room ≡ ((0, length (spell false f)), spell false f ++ drop (length (spell false f)) room)
  -- "The reader takes the printed text, and also the text without vgx2 or vgx4": what is printed reads back to the word, with vgx and without
  pub takes_printed : ReadAfterPrint false
  pub takes_short : ReadAfterPrint true
  -- "nothing else": what is read is a text of the language
  pub nothing_else : (s : Settings) (t : List ℕ) (w : ℕ) → Reads s t (0, w) → Spells t w
  -- "each accepted text has one reading"
  pub one_reading : OneReading
  -- "printing that reading gives the preferred text"
  pub print_after_read : PrintAfterRead
  -- "A number that no word of the family can carry is not of the language": the fields of a text are those of its word
  pub numbers_of_words : (t : List ℕ) (w : ℕ) (p : Spells t w) → SaidBy table w p.fields
  -- no text is longer than the constant, and one is as long
  pub no_longer : NoLonger
  pub one_as_long : OneAsLong

-- Two. "A rising bit and a falling bit cost different charge". That toggled, their sum, is what it was stands in Demand2, that a partner's rises are
-- its word's falls in Demand3, the report's four numbers in Demand2 (`list_runs`), and 4n in Demand1 (`list_in_order`)
pub record RequestTwo : Type 0 where
  -- "The bit count at the bottom is to give two numbers": the bits that were 0 and are 1, and those that were 1 and are 0
  pub each_counted : Always CountsEach
  -- "ones at the end plus falls equals ones at the start plus rises": of every word, accepted or refused
  pub word_balances : Always Balances
  -- "Over any run", refused words included
  pub run_balances : RunBalances
  -- and of every accepted list, with the numbers of the tally
  pub list_balances : ListBalances
  -- rises are at most the bits that were 0, and falls at most those that were 1
  pub rises_from_zeros : Always RisesFromZeros
  pub falls_from_ones : Always FallsFromOnes
  pub bits_are : BitsAre

-- Three. "writing a V register sets the rest of the Z register to zero. Families A and B now do this. Their written count becomes VL" stands in Demand2
-- (`v_cleared`, `written_exact`), and the premise that demand 3 gains in Demand3 (`sweep_closes`, `callers_see`, `premises_needed`)
pub record RequestThree : Type 0 where
  -- "cleared bits count as falls": each 1 above the V register, beside what rises and falls in it
  pub cleared_fall : WheneverV CountsCleared
  -- "At VL 128 nothing changes": neither the register nor written
  pub same_at_128 : WheneverV SameAt128
  -- nor what demand 3 asks
  pub asked_at_128 : ClearAt128
