-- What holds of every number of a list. Statements only: proofs/Shortest.antt, Places.antt and Forms.antt prove each.
use Rattle.std.specs.Prelude.{ℕ, ◌+◌, ◌^◌, ◌<◌, ◌≡◌, ◌≢◌, List, ◌++◌, length, take, drop}
use Rattle.laws.specs.Lists.{Each}
use Rattle.numbers.specs.Numbers.{got, short, numeral, put, puts, all, numbers_at}

-- what `put` writes is read back, whatever follows it
abbrev pub ReadBack : Type 0
ReadBack = (n : ℕ) (t : List ℕ) → n < 2 ^ 32 → numeral 0 (put n ++ t) ≡ got n (length (put n))

-- "in the shortest form, below 2^32": what is read was put so
abbrev pub ReadShortest : Type 0
ReadShortest = (s : List ℕ) (v n : ℕ) → numeral 0 s ≡ got v n → take n s ≡ put v

abbrev pub ReadSmall : Type 0
ReadSmall = (s : List ℕ) (v n : ℕ) → numeral 0 s ≡ got v n → v < 2 ^ 32

-- so a number that can be read has one form
abbrev pub OneForm : Type 0
OneForm = (s t : List ℕ) (v n m : ℕ) → numeral 0 s ≡ got v n → numeral 0 t ≡ got v m → (n ≡ m) × (take n s ≡ take m t)

-- nothing past a number is looked at, nor past what makes one wrong
abbrev pub NoFurther : Type 0
NoFurther = (k : ℕ) (s t : List ℕ) → numeral k s ≢ short → numeral k (s ++ t) ≡ numeral k s

-- the same of a row: what is put is read back, wherever it stands, and what is read was put so
abbrev pub RowReadBack : Type 0
RowReadBack =
    (before ws t : List ℕ) → Each (λ w. w < 2 ^ 32) ws
    → numbers_at (before ++ (puts ws ++ t)) (length before) (length ws) ≡ all ws (length before + length (puts ws))

abbrev pub RowForm : Type 0
RowForm = (list : List ℕ) (at n : ℕ) (ws : List ℕ) (p : ℕ) → numbers_at list at n ≡ all ws p → drop at list ≡ puts ws ++ drop p list
