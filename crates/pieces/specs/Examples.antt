-- Numbers by their digits.
use Rattle.std.specs.Prelude.{◌≡◌, refl}
use Rattle.pieces.specs.Pieces.{text, digits, decimal_up_to, decimal, hex8}

-- the greatest number of 64 bits
long_number : decimal 18446744073709551615 ≡ text "18446744073709551615"
unfolding decimal decimal_up_to
long_number = refl

one_digit : decimal 0 ≡ text "0"
unfolding decimal decimal_up_to
one_digit = refl

word : hex8 3248619528 ≡ text "C1A20008"
unfolding hex8 digits
word = refl
