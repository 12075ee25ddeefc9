-- The fields of a word are read back from its text. Assumes nothing.
use Prim.Native.Nat.{ℕ, zero, suc, ◌+◌, ◌-◌, ◌*◌, ◌^◌, ◌<◌, ◌≤◌}
use Prim.Native.String.{String}
use native.Mathlib.Omega.{arith}
use mathlib.Core.Path.{◌≡◌, refl, ap, ◌∙◌}
use mathlib.Core.Bool.{Bool, true, false, ◌&&◌, cond}
use mathlib.Core.List.{List, [], ◌∷◌}
use lib.Dec.{eqb}
use lib.ListN.{get_or, take, drop}
use lib.Seq.{get_or-drop}
use borrow.Author.Tests.{lt-ltb}
use Rattle.laws.specs.Lists.{Each}
use Rattle.laws.proofs.Bits.{one_bit}
use Rattle.laws.proofs.Tests.{both, cond-holds, by_lt}
use Rattle.layouts.specs.Layout.{value}
use Rattle.pieces.specs.Pieces.{text}
use Rattle.syntax.specs.Syntax.{fill, TwoDigits, OneByte}
use Rattle.syntax.specs.Scan.{is_letter, taken, clear, among}
use Rattle.syntax.proofs.Laws.{number_range, taken-fill}
use Rattle.words.specs.Says.{As, describe, is_one}
use Rattle.words.specs.Rows.{row_a, row_b, row_c16, row_c32, row_d2, row_d4, row_e2, row_e4}
use Rattle.words.specs.declared.Family.{Family}
use Rattle.words.specs.declared.Family.TheVariants.{ByElement, Vector, Saturating, LongLong, Long}
use Rattle.words.specs.declared.Fields.{Fields}
use Rattle.words.proofs.Table.{◌then◌, said_each}
use Rattle.words.proofs.Ranges.{by_size}
use Rattle.spelling.specs.Rows.{syntaxes, nth, syntax_at}
use Rattle.spelling.specs.Spell.{byte_of, last_offset, sign_byte, add_byte, letters, letter_values, row_for, spell}
use Rattle.spelling.specs.Candidate.{value_named, group_of, fields_by, candidate_at}
use Rattle.spelling.specs.Tried.{Figures}
use Rattle.spelling.proofs.Arms.{each_front, each_all}

-- ---- the rows pass their test

abbrev all_clear : List String → Bool
all_clear [] = true
all_clear (s ∷ ss) = clear (text s) && all_clear ss

clear-nth : (ss : List String) → all_clear ss ≡ true → (k : ℕ) → clear (nth ss k) ≡ true
unfolding clear
clear-nth [] e k = refl
clear-nth (s ∷ ss) e zero = (both (clear (text s)) (all_clear ss) e).0
clear-nth (s ∷ ss) e (suc k) = clear-nth ss (both (clear (text s)) (all_clear ss) e).1 k

all_clear_lem : all_clear syntaxes ≡ true
unfolding clear
all_clear_lem = refl

pub clear_at : (k : ℕ) → clear (syntax_at k) ≡ true
unfolding syntax_at
clear_at k = clear-nth syntaxes all_clear_lem k

-- ---- the numbers of a word's fields

abbrev Numbers : Fields → Type 0
Numbers f =
    (f.destination < 32) × (f.index < 8) × (0 < f.group) × (f.group < 5) × (f.first + f.group ≤ 32) × (f.second + f.group ≤ 32) × (f.select < 12)
    × (f.offset < 8) × (last_offset f.family f.offset < 8)

of_numbers : {f : Fields} → Numbers f → Figures f
of_numbers n =
    record { destination = n.0; index = n.1; some = n.2; group = n.3; first = n.4; second = n.5; select = n.6; offset = n.7; last = n.8 }

pub figures : (w : ℕ) (f : Fields) → describe w ≡ As f → Figures f
figures w f =
    said_each Figures w f
    ((λ _ _. cond-holds Figures (eqb (value row_a w "s") 0b01) _ _ (λ _. of_numbers (omega arith)) (λ _. of_numbers (omega arith)))
    then (λ _ _. of_numbers (omega arith))
    then (λ _ _. of_numbers (omega arith))
    then (λ _ _. of_numbers (omega arith))
    then (λ _ _. of_numbers (omega arith))
    then (λ _ _. of_numbers (omega arith))
    then (λ _ _. of_numbers (omega arith))
    then (λ _ _. of_numbers (omega arith))
    then tt)

-- those that a text has in digits have no more than two
front_small : (f : Fields) → Figures f → Each (λ (v : ℕ). v < 100) (take 18 (letter_values f))
unfolding letter_values
front_small f g =
    let z : 0 < 100 = omega arith in
    z then z then z then omega (arith, g.destination) then z then z then omega (arith, g.group) then z then omega (arith, g.index) then z
    then omega (arith, g.first) then omega (arith, g.second) then omega (arith, g.second) then omega (arith, g.first) then omega (arith, g.offset)
    then omega (arith, g.last) then z then omega (arith, g.select) then tt

pub two_digits : (f : Fields) → Figures f → TwoDigits (letter_values f)
two_digits f g c n =
    let r = number_range c n in
    each_front (λ (v : ℕ). v < 100) (omega arith) 18 (letter_values f) (front_small f g) (c - 65) (omega arith)

choice_small : (b : Bool) (x y : ℕ) → x < 256 → y < 256 → cond b x y < 256
choice_small true x y h g = h
choice_small false x y h g = g

-- and the others fit a byte
rest_small : (f : Fields) → Each (λ (v : ℕ). v < 256) (drop 18 (letter_values f))
unfolding letter_values
rest_small f =
    let z : 0 < 256 = omega arith in
    choice_small f.subtract 115 97 (omega arith) (omega arith) then choice_small (eqb f.part 0) 98 116 (omega arith) (omega arith)
    then choice_small f.unsigned 117 115 (omega arith) (omega arith) then z then z then z then z then z then tt

rest_byte : (f : Fields) (i : ℕ) → 18 ≤ i → get_or (letter_values f) i 0 < 256
rest_byte f i h =
    let e : 18 + (i - 18) ≡ i = omega arith in
    let same : get_or (drop 18 (letter_values f)) (i - 18) 0 ≡ get_or (letter_values f) i 0 = get_or-drop 18 (letter_values f) (i - 18) 0 ∙ ap (λ (j : ℕ). get_or (letter_values f) j 0) e in
    omega (arith, same, each_all (λ (v : ℕ). v < 256) (omega arith) (drop 18 (letter_values f)) (rest_small f) (i - 18))

pub one_byte : (f : Fields) → Figures f → OneByte (letter_values f)
one_byte f g c =
    by_lt (c - 65) 18
    (λ (l : c - 65 < 18). omega (arith, each_front (λ (v : ℕ). v < 100) (omega arith) 18 (letter_values f) (front_small f g) (c - 65) l))
    (rest_byte f (c - 65))

-- ---- what a candidate is made of

-- the value of a letter, or 0 where the row lacks the letter
abbrev kept : ℕ → Fields → String → ℕ
kept k f a = cond (among (byte_of a) (syntax_at k)) (value_named (letter_values f) a) 0

abbrev kept_values : ℕ → Fields → List ℕ
kept_values k f =
    letters
    (("U", kept k f "U") ∷ ("S", kept k f "S") ∷ ("T", kept k f "T") ∷ ("D", kept k f "D") ∷ ("N", kept k f "N") ∷ ("M", kept k f "M") ∷ ("I", kept k f "I")
    ∷ ("K", kept k f "K") ∷ ("R", kept k f "R") ∷ ("O", kept k f "O") ∷ [])

abbrev Back : ℕ → Fields → Type 0
Back k f = fields_by k (kept_values k f) ≡ f

-- it is made of ten values
made_of : (k : ℕ) (vs us : List ℕ) → value_named vs "U" ≡ value_named us "U" → value_named vs "S" ≡ value_named us "S" → value_named vs "T" ≡ value_named us "T"
    → value_named vs "D" ≡ value_named us "D" → value_named vs "N" ≡ value_named us "N" → value_named vs "M" ≡ value_named us "M" → value_named vs "I" ≡ value_named us "I"
    → value_named vs "K" ≡ value_named us "K" → value_named vs "R" ≡ value_named us "R" → value_named vs "O" ≡ value_named us "O" → fields_by k vs ≡ fields_by k us
made_of k vs us u s t d n m i l r o = rw (u, s, t, d, n, m, i, l, r, o)

candidate_is : (k : ℕ) (f : Fields) → TwoDigits (letter_values f) → Back k f → candidate_at k (fill (letter_values f) (syntax_at k)) ≡ f
unfolding candidate_at
candidate_is k f s b =
    made_of k (taken (syntax_at k) (fill (letter_values f) (syntax_at k)) (letters [])) (kept_values k f)
    (got "U" refl) (got "S" refl) (got "T" refl) (got "D" refl) (got "N" refl) (got "M" refl) (got "I" refl) (got "K" refl) (got "R" refl) (got "O" refl)
    ∙ b
  where
    got : (a : String) → is_letter (byte_of a) ≡ true → value_named (taken (syntax_at k) (fill (letter_values f) (syntax_at k)) (letters [])) a ≡ cond (among (byte_of a) (syntax_at k)) (value_named (letter_values f) a) (value_named (letters []) a)
    got a m = taken-fill (letter_values f) s (byte_of a) m (syntax_at k) (clear_at k) (letters []) refl

-- ---- each row

pub fields_eq : (f g : Fields) → f.family ≡ g.family → f.unsigned ≡ g.unsigned → f.subtract ≡ g.subtract → f.lane ≡ g.lane → f.part ≡ g.part
    → f.index ≡ g.index → f.destination ≡ g.destination → f.first ≡ g.first → f.second ≡ g.second → f.group ≡ g.group → f.select ≡ g.select
    → f.offset ≡ g.offset → f ≡ g
fields_eq f g family unsigned subtract lane part index destination first second group select offset =
    λ i. record { family = family i; unsigned = unsigned i; subtract = subtract i; lane = lane i; part = part i; index = index i; destination = destination i; first = first i; second = second i; group = group i; select = select i; offset = offset i }

sign_back : (u : Bool) → eqb (sign_byte u) (byte_of "u") ≡ u
sign_back true = refl
sign_back false = refl

add_back : (s : Bool) → eqb (add_byte s) (byte_of "s") ≡ s
add_back true = refl
add_back false = refl

one_back : (n : ℕ) → group_of n 0 ≡ 1
one_back n = let z : 0 - n ≡ 0 = omega arith in rw z

group_back : (n g : ℕ) → (0 < g) × (g < 5) → group_of n (n + g - 1) ≡ g
group_back n g h = let m : n + g - 1 - n < 4 = omega arith in rw (lt-ltb (n + g - 1 - n) 4 m) (omega arith)

-- both texts
abbrev Both : Fields → Type 0
Both f = (short : Bool) → Back (row_for short f) f

-- fields of a family that writes Z
abbrev plain : Family → Bool → Bool → ℕ → ℕ → ℕ → ℕ → ℕ → ℕ → Fields
plain family u s lane p i d n m =
    record { family = family; unsigned = u; subtract = s; lane = lane; part = p; index = i; destination = d; first = n; second = m; group = 1; select = 0; offset = 0 }

a_back : (u s : Bool) (i d n m p : ℕ) → p < 2 → Both (plain ByElement u s 16 p i d n m) × Both (plain ByElement u s 32 p i d n m)
unfolding row_for syntax_at among letter_values
a_back u s i d n m =
    one_bit (λ (p : ℕ). Both (plain ByElement u s 16 p i d n m) × Both (plain ByElement u s 32 p i d n m)) (
      (λ short. fields_eq _ _ refl (sign_back u) (add_back s) refl refl refl refl refl refl (one_back n) refl refl),
      (λ short. fields_eq _ _ refl (sign_back u) (add_back s) refl refl refl refl refl refl (one_back n) refl refl),
    ) (
      (λ short. fields_eq _ _ refl (sign_back u) (add_back s) refl refl refl refl refl refl (one_back n) refl refl),
      (λ short. fields_eq _ _ refl (sign_back u) (add_back s) refl refl refl refl refl refl (one_back n) refl refl),
    )

b_back : (u s : Bool) (d n m p : ℕ) → p < 2 → (size : ℕ) → size < 4 → eqb size 3 ≡ false → Both (plain Vector u s (8 * 2 ^ size) p 0 d n m)
unfolding row_for syntax_at among letter_values
b_back u s d n m =
    one_bit (λ (p : ℕ). (size : ℕ) → size < 4 → eqb size 3 ≡ false → Both (plain Vector u s (8 * 2 ^ size) p 0 d n m))
    (by_size (λ (size : ℕ). Both (plain Vector u s (8 * 2 ^ size) 0 0 d n m))
    (λ short. fields_eq _ _ refl (sign_back u) (add_back s) refl refl refl refl refl refl (one_back n) refl refl)
    (λ short. fields_eq _ _ refl (sign_back u) (add_back s) refl refl refl refl refl refl (one_back n) refl refl)
    (λ short. fields_eq _ _ refl (sign_back u) (add_back s) refl refl refl refl refl refl (one_back n) refl refl))
    (by_size (λ (size : ℕ). Both (plain Vector u s (8 * 2 ^ size) 1 0 d n m))
    (λ short. fields_eq _ _ refl (sign_back u) (add_back s) refl refl refl refl refl refl (one_back n) refl refl)
    (λ short. fields_eq _ _ refl (sign_back u) (add_back s) refl refl refl refl refl refl (one_back n) refl refl)
    (λ short. fields_eq _ _ refl (sign_back u) (add_back s) refl refl refl refl refl refl (one_back n) refl refl))

c_back : (s : Bool) (i d n m p : ℕ) → p < 2 → Both (plain Saturating false s 16 p i d n m) × Both (plain Saturating false s 32 p i d n m)
unfolding row_for syntax_at among letter_values
c_back s i d n m =
    one_bit (λ (p : ℕ). Both (plain Saturating false s 16 p i d n m) × Both (plain Saturating false s 32 p i d n m)) (
      (λ short. fields_eq _ _ refl refl (add_back s) refl refl refl refl refl refl (one_back n) refl refl),
      (λ short. fields_eq _ _ refl refl (add_back s) refl refl refl refl refl refl (one_back n) refl refl),
    ) (
      (λ short. fields_eq _ _ refl refl (add_back s) refl refl refl refl refl refl (one_back n) refl refl),
      (λ short. fields_eq _ _ refl refl (add_back s) refl refl refl refl refl refl (one_back n) refl refl),
    )

-- fields of a family that writes ZA
abbrev grouped : Family → Bool → Bool → ℕ → ℕ → ℕ → ℕ → ℕ → ℕ → Fields
grouped family u s lane n m g v o =
    record { family = family; unsigned = u; subtract = s; lane = lane; part = 0; index = 0; destination = 0; first = n; second = m; group = g; select = v; offset = o }

-- the same of a lane that its text names
d_lane : (u s short : Bool) (n m g v o : ℕ) → (0 < g) × (g < 5)
    → Back (row_for short (grouped LongLong u s 8 n m g v o)) (grouped LongLong u s 8 n m g v o)
    × Back (row_for short (grouped LongLong u s 16 n m g v o)) (grouped LongLong u s 16 n m g v o)
unfolding row_for syntax_at among letter_values
d_lane u s true n m g v o h = (
  fields_eq _ _ refl (sign_back u) (add_back s) refl refl refl refl refl refl (group_back n g h) refl refl,
  fields_eq _ _ refl (sign_back u) (add_back s) refl refl refl refl refl refl (group_back n g h) refl refl,
)
d_lane u s false n m g v o h = (
  fields_eq _ _ refl (sign_back u) (add_back s) refl refl refl refl refl refl (group_back n g h) refl refl,
  fields_eq _ _ refl (sign_back u) (add_back s) refl refl refl refl refl refl (group_back n g h) refl refl,
)

d_back : (u s : Bool) (n m g v o : ℕ) → (0 < g) × (g < 5) → (z : ℕ) → z < 2 → Both (grouped LongLong u s (8 + 8 * z) n m g v o)
d_back u s n m g v o h =
    one_bit (λ (z : ℕ). Both (grouped LongLong u s (8 + 8 * z) n m g v o))
    (λ short. (d_lane u s short n m g v o h).0)
    (λ short. (d_lane u s short n m g v o h).1)

e_back : (u s : Bool) (n m g v o : ℕ) → (0 < g) × (g < 5) → Both (grouped Long u s 16 n m g v o)
unfolding row_for syntax_at among letter_values
e_back u s n m g v o h true = fields_eq _ _ refl (sign_back u) (add_back s) refl refl refl refl refl refl (group_back n g h) refl refl
e_back u s n m g v o h false = fields_eq _ _ refl (sign_back u) (add_back s) refl refl refl refl refl refl (group_back n g h) refl refl

both_back : (w : ℕ) (f : Fields) → describe w ≡ As f → Both f
both_back w f =
    let a = a_back (is_one (value row_a w "U")) (is_one (value row_a w "S")) in
    let q : value row_a w "Q" < 2 = omega arith in
    said_each Both w f
    ((λ _ _. cond-holds Both (eqb (value row_a w "s") 0b01) _ _ (λ _. (a _ _ _ _ (value row_a w "Q") q).0) (λ _. (a _ _ _ _ (value row_a w "Q") q).1))
    then (λ _ o. b_back (is_one (value row_b w "U")) (is_one (value row_b w "S")) _ _ _ (value row_b w "Q") (omega arith) (value row_b w "s") (omega arith) o)
    then (λ _ _. (c_back (is_one (value row_c16 w "S")) _ _ _ _ (value row_c16 w "T") (omega arith)).0)
    then (λ _ _. (c_back (is_one (value row_c32 w "S")) _ _ _ _ (value row_c32 w "T") (omega arith)).1)
    then (λ _ _. d_back (is_one (value row_d2 w "U")) (is_one (value row_d2 w "S")) _ _ 2 _ _ (omega arith) (value row_d2 w "z") (omega arith))
    then (λ _ _. d_back (is_one (value row_d4 w "U")) (is_one (value row_d4 w "S")) _ _ 4 _ _ (omega arith) (value row_d4 w "z") (omega arith))
    then (λ _ _. e_back (is_one (value row_e2 w "U")) (is_one (value row_e2 w "S")) _ _ 2 _ _ (omega arith))
    then (λ _ _. e_back (is_one (value row_e4 w "U")) (is_one (value row_e4 w "S")) _ _ 4 _ _ (omega arith))
    then tt)

-- the fields of a word are read back from either of its texts
pub read_back : (w : ℕ) (f : Fields) (short : Bool) → describe w ≡ As f → candidate_at (row_for short f) (spell short f) ≡ f
unfolding spell
read_back w f short e = candidate_is (row_for short f) f (two_digits f (figures w f e)) (both_back w f e short)
