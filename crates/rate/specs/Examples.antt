-- Percents, computed: the ends of what there is to answer. Those of document 01's rows stand in crate `rows`, with its other columns.
use Rattle.std.specs.Prelude.{◌-◌, ◌^◌, ◌≡◌, refl}
use Rattle.rate.specs.Rate.{percent_of}

all_bits : percent_of 1024 1024 ≡ 100
all_bits = refl

nothing_written : percent_of 0 0 ≡ 0
nothing_written = refl

toggled_alone : percent_of 5 0 ≡ 0
toggled_alone = refl

-- the largest answer: it has more than 32 bits
largest : percent_of (2 ^ 32 - 1) 1 ≡ 429496729500
largest = refl
