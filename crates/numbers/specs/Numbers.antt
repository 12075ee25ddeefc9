-- Document 01, "The run list": "Numbers are in groups of seven bits, low group first, top bit set when another follows, in the shortest form, below 2^32."
use Rattle.std.specs.Prelude.{ℕ, zero, suc, ◌+◌, ◌-◌, ◌*◌, ◌/◌, ◌%◌, ◌&&◌, cond, List, [], ◌∷◌, ◌++◌, eqb, ltb, length, drop, Result, Ok, Err}
use Rattle.settings.specs.declared.Refusal.{Refusal}
use Rattle.settings.specs.declared.Refusal.TheVariants.{ListEnds, BadNumber}
use Rattle.numbers.specs.declared.Fault.{Fault}
use Rattle.numbers.specs.declared.Number.{Number}

-- ---- one number

-- what bytes begin with: a number and how many bytes it has; or they end inside it; or it is wrong
pub data Got : Type 0 where
  got : ℕ → ℕ → Got
  short : Got
  wrong : Got

-- a group, and what is read after it: low group first
abbrev pub group_then : ℕ → Got → Got
group_then g (got v n) = got (g + 128 * v) (suc n)
group_then g short = short
group_then g wrong = wrong

-- the greatest byte that may stand after k groups: the fifth is not above 15
abbrev pub greatest_byte : ℕ → ℕ
greatest_byte k = cond (eqb k 4) 15 255

-- the rest of a number, of which k groups stand before these bytes: the last of several groups is not zero
unfoldable pub numeral : ℕ → List ℕ → Got
numeral k [] = short
numeral k (b ∷ s) =
    cond (ltb (greatest_byte k) b) wrong
    (cond (ltb b 128)
    (cond (eqb b 0 && ltb 0 k) wrong (got b 1))
    (group_then (b - 128) (numeral (suc k) s)))

-- what stands at a place of a list: a number and the place after it, or what is wrong and its place
abbrev pub Read : Type 0
Read = Result Number Fault

abbrev pub number : ℕ → ℕ → Read
number v n = Ok (record { value = v; next = n })

abbrev pub no_number : Refusal → ℕ → Read
no_number r p = Err (record { refusal = r; place = p })

-- the same at a place of a list: 7 where the list ends inside the number or before it, 8 where it is wrong; both at its first byte
abbrev pub placed : ℕ → Got → Read
placed at (got v n) = number v (at + n)
placed at short = no_number ListEnds at
placed at wrong = no_number BadNumber at

unfoldable pub number_at : List ℕ → ℕ → Read
number_at list at = placed at (numeral 0 (drop at list))

-- ---- a reader, which is asked for one number after another

-- what it answers, of what stands at its place
abbrev pub answer_of : Read → Result ℕ Fault
answer_of (Ok n) = Ok n.value
answer_of (Err f) = Err f

-- where it then stands: behind the number, or, at a fault, where it stood
abbrev pub place_after : Read → ℕ → ℕ
place_after (Ok n) at = n.next
place_after (Err f) at = at

-- ---- the shortest form

-- n with at most f groups before its last
unfoldable pub put_in : ℕ → ℕ → List ℕ
put_in zero n = n ∷ []
put_in (suc f) n = cond (ltb n 128) (n ∷ []) ((128 + n % 128) ∷ put_in f (n / 128))

-- a number below 2^32 has at most four before its last
unfoldable pub put : ℕ → List ℕ
unfolding put_in
put n = put_in 4 n

-- numbers, one after another
unfoldable pub puts : List ℕ → List ℕ
puts [] = []
puts (n ∷ ns) = put n ++ puts ns

-- ---- a row of numbers

-- the numbers and the place after them; or those before the first fault, the fault, and its place
pub data Numbers : Type 0 where
  all : List ℕ → ℕ → Numbers
  fault : List ℕ → Refusal → ℕ → Numbers

-- the numbers so far, and what stands after them
abbrev pub followed_by : List ℕ → Read → Numbers
followed_by ws (Ok n) = all (ws ++ n.value ∷ []) n.next
followed_by ws (Err f) = fault ws f.refusal f.place

-- one number more: "the first fault deciding"
abbrev pub more : List ℕ → Numbers → Numbers
more list (all ws next) = followed_by ws (number_at list next)
more list (fault ws refusal place) = fault ws refusal place

-- so many numbers of a list, from a place on
unfoldable pub numbers_at : List ℕ → ℕ → ℕ → Numbers
numbers_at list at zero = all [] at
numbers_at list at (suc n) = more list (numbers_at list at n)

-- those that were read
unfoldable pub values_of : Numbers → List ℕ
values_of (all ws next) = ws
values_of (fault ws refusal place) = ws

-- how the row ended
unfoldable pub row_of : Numbers → Result ℕ Fault
row_of (all ws next) = Ok next
row_of (fault ws refusal place) = Err (record { refusal = refusal; place = place })

-- those that were read in the first places of out, and the rest of it as it was
unfoldable pub filled : Numbers → List ℕ → List ℕ
unfolding values_of
filled m out = values_of m ++ drop (length (values_of m)) out
