-- The definitions run: numbers that are read, and each fault.
use Rattle.std.specs.Prelude.{◌≡◌, refl, [], ◌∷◌, Err}
use Rattle.settings.specs.declared.Refusal.TheVariants.{ListEnds, BadNumber}
use Rattle.numbers.specs.Numbers.{number, no_number, numeral, number_at, place_after, put_in, put, all, fault, numbers_at, values_of, row_of, filled}

-- ---- numbers that are read, and how they are put

zero_read : number_at (0x00 ∷ []) 0 ≡ number 0 1
unfolding number_at numeral
zero_read = refl

one_group : number_at (0x7F ∷ []) 0 ≡ number 127 1
unfolding number_at numeral
one_group = refl

two_groups : number_at (0x80 ∷ 0x01 ∷ []) 0 ≡ number 128 2
unfolding number_at numeral
two_groups = refl

low_group_first : number_at (0xAC ∷ 0x02 ∷ []) 0 ≡ number 300 2
unfolding number_at numeral
low_group_first = refl

greatest : number_at (0xFF ∷ 0xFF ∷ 0xFF ∷ 0xFF ∷ 0x0F ∷ []) 0 ≡ number 4294967295 5
unfolding number_at numeral
greatest = refl

-- the first word of document 01's list
word_read : number_at (0x88 ∷ 0x80 ∷ 0x88 ∷ 0x8D ∷ 0x0C ∷ []) 0 ≡ number 0xC1A20008 5
unfolding number_at numeral
word_read = refl

-- in the middle of a list, with more after it
in_the_middle : number_at (0x80 ∷ 0x01 ∷ 0x0C ∷ 0x80 ∷ 0x01 ∷ 0x80 ∷ []) 3 ≡ number 128 5
unfolding number_at numeral
in_the_middle = refl

zero-put : put 0 ≡ 0x00 ∷ []
unfolding put put_in
zero-put = refl

greatest-put : put 4294967295 ≡ 0xFF ∷ 0xFF ∷ 0xFF ∷ 0xFF ∷ 0x0F ∷ []
unfolding put put_in
greatest-put = refl

-- ---- 7: the list ends

nothing_there : number_at [] 0 ≡ no_number ListEnds 0
unfolding number_at numeral
nothing_there = refl

before_one : number_at (0x01 ∷ 0x02 ∷ []) 2 ≡ no_number ListEnds 2
unfolding number_at numeral
before_one = refl

inside_one : number_at (0x01 ∷ 0x80 ∷ []) 1 ≡ no_number ListEnds 1
unfolding number_at numeral
inside_one = refl

after_four : number_at (0x80 ∷ 0x80 ∷ 0x80 ∷ 0x80 ∷ []) 0 ≡ no_number ListEnds 0
unfolding number_at numeral
after_four = refl

-- ---- 8: the number is wrong

last_zero : number_at (0x80 ∷ 0x00 ∷ []) 0 ≡ no_number BadNumber 0
unfolding number_at numeral
last_zero = refl

-- the place is the number's first byte, and not that of the group
last_of_three : number_at (0x05 ∷ 0x81 ∷ 0x80 ∷ 0x00 ∷ []) 1 ≡ no_number BadNumber 1
unfolding number_at numeral
last_of_three = refl

fifth_sixteen : number_at (0xFF ∷ 0xFF ∷ 0xFF ∷ 0xFF ∷ 0x10 ∷ []) 0 ≡ no_number BadNumber 0
unfolding number_at numeral
fifth_sixteen = refl

fifth_zero : number_at (0x80 ∷ 0x80 ∷ 0x80 ∷ 0x80 ∷ 0x00 ∷ []) 0 ≡ no_number BadNumber 0
unfolding number_at numeral
fifth_zero = refl

-- a sixth group that would follow is never looked for
fifth_follows : number_at (0x80 ∷ 0x80 ∷ 0x80 ∷ 0x80 ∷ 0x80 ∷ []) 0 ≡ no_number BadNumber 0
unfolding number_at numeral
fifth_follows = refl

-- ---- where a reader stands

-- it stands behind the number, at the next
goes_on : place_after (number_at (0xAC ∷ 0x02 ∷ 0x07 ∷ []) 0) 0 ≡ 2
unfolding number_at numeral
goes_on = refl

-- at a fault it stays, and answers the same again
stays : place_after (number_at (0x05 ∷ 0x81 ∷ 0x00 ∷ 0x07 ∷ []) 1) 1 ≡ 1
unfolding number_at numeral
stays = refl

-- ---- rows

seven_read : numbers_at (0x80 ∷ 0x01 ∷ 0x0C ∷ 0x03 ∷ 0x00 ∷ 0x00 ∷ 0x00 ∷ 0x00 ∷ 0x01 ∷ []) 0 7 ≡ all (128 ∷ 12 ∷ 3 ∷ 0 ∷ 0 ∷ 0 ∷ 0 ∷ []) 8
unfolding numbers_at number_at numeral
seven_read = refl

-- the first fault decides
wrong_in_it : numbers_at (0x05 ∷ 0x81 ∷ 0x00 ∷ 0x80 ∷ []) 0 3 ≡ fault (5 ∷ []) BadNumber 1
unfolding numbers_at number_at numeral
wrong_in_it = refl

ends_in_it : numbers_at (0x05 ∷ 0x06 ∷ []) 0 4 ≡ fault (5 ∷ 6 ∷ []) ListEnds 2
unfolding numbers_at number_at numeral
ends_in_it = refl

row_told : row_of (numbers_at (0x05 ∷ 0x81 ∷ 0x00 ∷ 0x80 ∷ []) 0 3) ≡ Err (record { refusal = BadNumber; place = 1 })
unfolding row_of numbers_at number_at numeral
row_told = refl

rest_stays : filled (numbers_at (0x05 ∷ 0x81 ∷ 0x00 ∷ 0x80 ∷ []) 0 3) (91 ∷ 92 ∷ 93 ∷ []) ≡ 5 ∷ 92 ∷ 93 ∷ []
unfolding filled values_of numbers_at number_at numeral
rest_stays = refl
