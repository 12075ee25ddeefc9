-- What no promise of a public call names: where a row stands among all, the words that it is for, and the one Fields that a text can have by a row.
use Rattle.std.specs.Prelude.{ℕ, zero, suc, ◌+◌, ◌-◌, ◌||◌, cond, List, [], ◌∷◌, ◌++◌, eqb, ltb, length, get_or}
use Prim.Native.String.{String}
use Rattle.pieces.specs.Pieces.{text}
use Rattle.syntax.specs.Syntax.{value_in}
use Rattle.syntax.specs.Scan.{taken}
use Rattle.words.specs.Numbers.{bit_of}
use Rattle.words.specs.declared.Family.{Family}
use Rattle.words.specs.declared.Family.TheVariants.{ByElement, Vector, Saturating, LongLong, Long}
use Rattle.words.specs.declared.Fields.{Fields}
use Rattle.spelling.specs.Rows.{syntaxes, syntax_at}
use Rattle.spelling.specs.Spell.{byte_of, letters}

-- the rows, one behind the other
abbrev pub joined : List String → List ℕ
joined [] = []
joined (s ∷ ss) = text s ++ joined ss

unfoldable pub all_rows : List ℕ
all_rows = joined syntaxes

-- where a row begins, and the one before it ends
abbrev pub start_in : List String → ℕ → ℕ
start_in ss zero = 0
start_in [] (suc k) = 0
start_in (s ∷ ss) (suc k) = length (text s) + start_in ss k

unfoldable pub start_at : ℕ → ℕ
start_at k = start_in syntaxes k

-- by the row's number: the family, the lane and the part
abbrev pub family_at : ℕ → Family
family_at k = cond (ltb k 4) ByElement (cond (ltb k 10) Vector (cond (ltb k 12) Saturating (cond (eqb k 14 || eqb k 17) Long LongLong)))

abbrev pub row_lanes : List ℕ
row_lanes = 16 ∷ 16 ∷ 32 ∷ 32 ∷ 8 ∷ 8 ∷ 16 ∷ 16 ∷ 32 ∷ 32 ∷ 16 ∷ 32 ∷ 8 ∷ 16 ∷ 16 ∷ 8 ∷ 16 ∷ 16 ∷ []

abbrev pub row_parts : List ℕ
row_parts = 0 ∷ 1 ∷ 0 ∷ 1 ∷ 0 ∷ 1 ∷ 0 ∷ 1 ∷ 0 ∷ 1 ∷ 0 ∷ 0 ∷ 0 ∷ 0 ∷ 0 ∷ 0 ∷ 0 ∷ 0 ∷ []

-- the value of a letter
abbrev pub value_named : List ℕ → String → ℕ
value_named vs a = value_in vs (byte_of a)

-- how many registers a group has from the first to the last; no group has more than four
abbrev pub group_of : ℕ → ℕ → ℕ
group_of first last = cond (ltb (last - first) 4) (last - first + 1) 0

-- the fields of a row's number and of its values
abbrev pub fields_by : ℕ → List ℕ → Fields
fields_by k vs =
    record {
      family = family_at k;
      unsigned = eqb (value_named vs "U") (byte_of "u");
      subtract = eqb (value_named vs "S") (byte_of "s");
      lane = get_or row_lanes k 0;
      part = get_or row_parts k 0 + bit_of (eqb (value_named vs "T") (byte_of "t"));
      index = value_named vs "I";
      destination = value_named vs "D";
      first = value_named vs "N";
      second = value_named vs "M";
      group = group_of (value_named vs "N") (value_named vs "K");
      select = value_named vs "R";
      offset = value_named vs "O";
    }

unfoldable pub candidate_at : ℕ → List ℕ → Fields
candidate_at k t = fields_by k (taken (syntax_at k) t (letters []))
