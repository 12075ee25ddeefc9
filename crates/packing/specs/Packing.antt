-- What C passes and gets, as numbers, as include/callinglamp.h says it: an answer, a word's fields, and what stands in the arrays that a call was lent.
use Rattle.tally.specs.declared.Counts.{Counts}
use Rattle.settings.specs.declared.Refusal.{Refusal}
use Rattle.std.specs.Prelude.{ℕ, ◌+◌, ◌*◌, ◌/◌, ◌%◌, ◌^◌, ◌<◌, ◌≡◌, Bool, ◌&&◌, cond, List, [], ◌∷◌, eqb, leb, get_or, set, replicate, Option, Some, None, Result, MatchResult}
use Rattle.words.specs.Numbers.{family_number, family_of, bit_of}
use Rattle.words.specs.Says.{is_one}
use Rattle.words.specs.declared.Family.{Family}
use Rattle.words.specs.declared.Fields.{Fields}
use Rattle.machine.specs.Execute.{Outcome, executed_says}
use Rattle.runlist.specs.RunList.{Ended, run_says}
use Rattle.numbers.specs.declared.Fault.{Fault}
use Rattle.runlist.specs.declared.Ran.{Ran}
use Rattle.spelling.specs.Print.{printed_says}

-- ---- an answer is one number of 64 bits

-- the refusal number (0: accepted) in the low half, and in the high half what the call gives beside it
abbrev pub of_halves : ℕ → ℕ → ℕ
of_halves refusal value = value * 2 ^ 32 + refusal

-- what is read from it
abbrev pub halves : ℕ → ℕ × ℕ
halves answer = (answer % 2 ^ 32, answer / 2 ^ 32)

-- ---- fields are twelve numbers

-- the place of each
pub record FieldPlaces : Type 0 where
  pub family : ℕ
  pub unsigned : ℕ
  pub subtract : ℕ
  pub lane : ℕ
  pub part : ℕ
  pub index : ℕ
  pub destination : ℕ
  pub first : ℕ
  pub second : ℕ
  pub group : ℕ
  pub select : ℕ
  pub offset : ℕ

-- as include/callinglamp.h names them
abbrev pub field_at : FieldPlaces
field_at =
    record {
      family = 0;
      unsigned = 1;
      subtract = 2;
      lane = 3;
      part = 4;
      index = 5;
      destination = 6;
      first = 7;
      second = 8;
      group = 9;
      select = 10;
      offset = 11;
    }

-- twelve numbers, each put at its place
abbrev pub at_places : List (ℕ × ℕ) → List ℕ
at_places [] = replicate 12 0
at_places (p ∷ ps) = set (at_places ps) p.0 p.1

abbrev pub field_numbers : Fields → List ℕ
field_numbers f =
    at_places
    ((field_at.family, family_number f.family)
    ∷ (field_at.unsigned, bit_of f.unsigned)
    ∷ (field_at.subtract, bit_of f.subtract)
    ∷ (field_at.lane, f.lane)
    ∷ (field_at.part, f.part)
    ∷ (field_at.index, f.index)
    ∷ (field_at.destination, f.destination)
    ∷ (field_at.first, f.first)
    ∷ (field_at.second, f.second)
    ∷ (field_at.group, f.group)
    ∷ (field_at.select, f.select)
    ∷ (field_at.offset, f.offset)
    ∷ [])

-- whether there are fields of which these are the numbers. No family has the number 0
abbrev pub are_fields : List ℕ → Bool
are_fields n = leb 1 (get_or n field_at.family 0) && leb (get_or n field_at.family 0) 5 && leb (get_or n field_at.unsigned 0) 1 && leb (get_or n field_at.subtract 0) 1

abbrev pub fields_with : Family → List ℕ → Fields
fields_with family n =
    record {
      family = family;
      unsigned = is_one (get_or n field_at.unsigned 0);
      subtract = is_one (get_or n field_at.subtract 0);
      lane = get_or n field_at.lane 0;
      part = get_or n field_at.part 0;
      index = get_or n field_at.index 0;
      destination = get_or n field_at.destination 0;
      first = get_or n field_at.first 0;
      second = get_or n field_at.second 0;
      group = get_or n field_at.group 0;
      select = get_or n field_at.select 0;
      offset = get_or n field_at.offset 0;
    }

-- the fields that twelve numbers stand for, where there are any
unfoldable pub fields_from : List ℕ → Option Fields
fields_from n = cond (are_fields n) (Some (fields_with (family_of (get_or n field_at.family 0)) n)) None

-- ---- what decode, execute and run leave in arrays

-- the numbers of an accepted word's fields. A refused call writes nothing: the fields that stand beside a refusal, `no_fields`, have zeros and,
-- since a family has to stand there and none has the number 0, the first family. Where the number is not 0 they are not looked at
abbrev pub decoded_into : ℕ × Fields → List ℕ → (ℕ × ℕ) × List ℕ
decoded_into d fields = ((d.0, 0), cond (eqb d.0 0) (field_numbers d.1) fields)

pub record HostExecuted : Type 0 where
  pub answer : ℕ × ℕ
  pub z : List ℕ
  pub za : List ℕ
  pub counts : List ℕ

abbrev pub executed_into : Outcome → List ℕ → HostExecuted
executed_into o counts =
    record { answer = (o.number, 0); z = o.z; za = o.za; counts = cond (eqb o.number 0) (o.rises ∷ o.falls ∷ o.written ∷ []) counts }

pub record HostRan : Type 0 where
  pub answer : ℕ × ℕ
  pub z : List ℕ
  pub za : List ℕ
  pub report : List ℕ
  pub totals : List ℕ

-- the place of a refused list stands beside its number
abbrev pub ran_into : Ended → List ℕ → HostRan
ran_into e totals =
    record {
      answer = (e.number, e.place);
      z = e.z;
      za = e.za;
      report = e.report;
      totals = cond (eqb e.number 0) (e.words ∷ e.tally.rises ∷ e.tally.falls ∷ e.tally.written ∷ []) totals;
    }

-- ---- only contracts use these

-- what is put down of an answer, whatever Z and ZA are
abbrev pub ExecutedPut : Result Counts Refusal → List ℕ → ℕ → List ℕ → Type 0
ExecutedPut answer counts r counts' =
    (z za : List ℕ) → record { answer = halves r; z = z; za = za; counts = counts' } ≡ executed_into (executed_says answer z za) counts

-- and whatever Z, ZA and the report are
abbrev pub RanPut : Result Ran Fault → List ℕ → ℕ → List ℕ → Type 0
RanPut answer totals r totals' =
    (z za report : List ℕ)
    → record { answer = halves r; z = z; za = za; report = report; totals = totals' } ≡ ran_into (run_says answer z za report) totals

-- the count of words and the place have 32 bits
abbrev pub FitsHalf : Result Ran Fault → Type 0
FitsHalf answer = MatchResult answer (λ r. r.words < 2 ^ 32) (λ f. f.place < 2 ^ 32)

-- and so has the length of a text
abbrev pub TextFits : Result ℕ Refusal → Type 0
TextFits answer = (printed_says answer).1 < 2 ^ 32
