-- A number has one form, the shortest: what is put is read back whatever follows, and what is read was put so. Assumes nothing.
use Prim.Native.Nat.{ℕ, zero, suc, ◌+◌, ◌-◌, ◌*◌, ◌/◌, ◌%◌, ◌^◌, ◌≤◌, ◌<◌}
use mathlib.Core.Path.{◌≡◌, refl, sym, ap, ap₂, subst₂, ◌∙◌}
use mathlib.Core.Logic.{◌≢◌}
use mathlib.Core.Bool.{false}
use mathlib.Core.List.{List, [], ◌∷◌, ◌++◌}
use native.Mathlib.Omega.{arith}
use native.Mathlib.Nat.{pow-suc, one-le-pow}
use native.Mathlib.Decide.{dec_lt}
use lib.Dec.{ltb}
use lib.ListN.{length, take}
use borrow.Author.Tests.{lt-ltb, le-ltb}
use Rattle.laws.proofs.Tests.{cond-holds}
use Rattle.numbers.specs.Numbers.{Got, got, short, wrong, group_then, greatest_byte, numeral, put_in, put}
use Rattle.numbers.specs.Theorems.{ReadBack, ReadShortest, ReadSmall, OneForm}
use Rattle.numbers.proofs.Groups.{fits_fifth, fits_other, fifth_small, other_small, fifth_last, last_group, group_follows, Front, faulty, ends, goes_on, front}

-- ---- the bytes of the shortest form

put_last : (f n : ℕ) → n < 128 → put_in f n ≡ n ∷ []
unfolding put_in
put_last zero n h = refl
put_last (suc f) n h = rw (lt-ltb n 128 h)

put_more : (f n : ℕ) → 128 ≤ n → put_in (suc f) n ≡ (128 + n % 128) ∷ put_in f (n / 128)
unfolding put_in
put_more f n h = rw (le-ltb n 128 h)

put_some : (f n : ℕ) → 0 < length (put_in f n)
unfolding put_in
put_some zero n = omega arith
put_some (suc f) n = cond-holds (λ (l : List ℕ). 0 < length l) (ltb n 128) (n ∷ []) ((128 + n % 128) ∷ put_in f (n / 128)) (λ _. omega arith) (λ _. omega arith)

put_few : (f n : ℕ) → length (put_in f n) ≤ suc f
unfolding put_in
put_few zero n = omega arith
put_few (suc f) n =
    cond-holds (λ (l : List ℕ). length l ≤ suc (suc f)) (ltb n 128) (n ∷ []) ((128 + n % 128) ∷ put_in f (n / 128))
    (λ _. omega arith) (λ _. omega (arith, put_few f (n / 128)))

-- a number has one to five bytes
pub put-length : (v : ℕ) → (0 < length (put v)) × (length (put v) ≤ 5)
unfolding put
put-length v = (put_some 4 v, put_few 4 v)

-- one of one group has one
pub put_length_1 : (v : ℕ) → v < 128 → length (put v) ≡ 1
unfolding put
put_length_1 v h = ap length (put_last 4 v h)

-- one of at most two groups has at most two
pub put_length_2 : (v : ℕ) → v < 16384 → length (put v) ≤ 2
unfolding put
put_length_2 v h =
    elim (dec_lt v 128) [
      | yes y ↦ omega (arith, put_length_1 v y)
      | no n ↦
          let e : length (put_in 4 v) ≡ 2 = ap length (put_more 3 v (omega arith)) ∙ ap (λ (l : List ℕ). suc (length l)) (put_last 3 (v / 128) (omega arith)) in
          omega arith
    ]

-- ---- what is put is read back

put_read : (f k n : ℕ) (t : List ℕ) → k + f ≡ 4 → n < 16 * 128 ^ f → (n ≡ 0 → k ≡ 0) → numeral k (put_in f n ++ t) ≡ got n (length (put_in f n))
unfolding put_in
put_read zero k n t e l z = last_group k n t (fits_fifth k n (omega arith) (omega arith)) (omega arith) z
put_read (suc f) k n t e l z = go (put_read f (suc k) (n / 128) t) (dec_lt n 128)
  where
    go : (suc k + f ≡ 4 → n / 128 < 16 * 128 ^ f → (n / 128 ≡ 0 → suc k ≡ 0) → numeral (suc k) (put_in f (n / 128) ++ t) ≡ got (n / 128) (length (put_in f (n / 128))))
        → Dec (n < 128) → numeral k (put_in (suc f) n ++ t) ≡ got n (length (put_in (suc f) n))
    go ih (yes y) = rw (lt-ltb n 128 y) (last_group k n t (fits_other k n (λ (q : k ≡ 4). omega arith) (omega arith)) y z)
    go ih (no o) =
        rw (le-ltb n 128 (omega arith))
        (group_follows k (128 + n % 128) (put_in f (n / 128) ++ t) (fits_other k (128 + n % 128) (λ (q : k ≡ 4). omega arith) (omega arith)) (omega arith)
        ∙ ap (group_then (128 + n % 128 - 128)) (ih (omega arith) (omega (arith, pow-suc 128 f)) (λ (q : n / 128 ≡ 0). absurd (omega arith)))
        ∙ ap₂ got (omega arith) refl)

-- what is put is read back, whatever follows
pub read_put : ReadBack
unfolding put
read_put n t h = put_read 4 0 n t refl h (λ _. refl)

-- ---- what is read was put so

-- the first n bytes of s are the rest of a number: v, with at most f groups before its last, after k others
record Whole (k f : ℕ) (s : List ℕ) (v n : ℕ) : Type 0 where
  pub taken : take n s ≡ put_in f v
  pub count : n ≡ length (put_in f v)
  pub small : v < 16 * 128 ^ f
  pub first : v ≡ 0 → k ≡ 0

last_small : (k f b : ℕ) → k + f ≡ 4 → ltb (greatest_byte k) b ≡ false → b < 128 → b < 16 * 128 ^ f
last_small k zero b e h l = omega (arith, fifth_small k b (omega arith) h)
last_small k (suc f) b e h l = omega (arith, pow-suc 128 f, one-le-pow f 128 (omega arith))

whole_last : (k f b : ℕ) (s : List ℕ) → k + f ≡ 4 → ltb (greatest_byte k) b ≡ false → b < 128 → (b ≡ 0 → k ≡ 0) → Whole k f (b ∷ s) b 1
whole_last k f b s e h l z =
    record {
      taken = sym (put_last f b l);
      count = rw (put_last f b l);
      small = last_small k f b e h l;
      first = z;
    }

whole_more : (k f b : ℕ) (s : List ℕ) (w m : ℕ) → 128 ≤ b → b < 256 → Whole (suc k) f s w m → Whole k (suc f) (b ∷ s) (b - 128 + 128 * w) (suc m)
whole_more k f b s w m h l r =
    let v : ℕ = b - 128 + 128 * w in
    let some : w ≢ 0 = λ (q : w ≡ 0). omega (arith, r.first q) in
    let p : put_in (suc f) v ≡ b ∷ put_in f w = put_more f v (omega arith) ∙ ap₂ (λ (x y : ℕ). x ∷ put_in f y) (omega arith) (omega arith) in
    record {
      taken = ap (λ (t : List ℕ). b ∷ t) r.taken ∙ sym p;
      count = ap suc r.count ∙ sym (ap length p);
      small = omega (arith, r.small, pow-suc 128 f);
      first = λ q. omega arith;
    }

module _ (k b : ℕ) (s : List ℕ) (v n : ℕ) (h : numeral k (b ∷ s) ≡ got v n) (p : ltb (greatest_byte k) b ≡ false) (l : 128 ≤ b) where
  over_rest : (f : ℕ) → k + suc f ≡ 4 → (g : Got) → numeral (suc k) s ≡ g → ((w m : ℕ) → numeral (suc k) s ≡ got w m → Whole (suc k) f s w m) → Whole k (suc f) (b ∷ s) v n
  over_rest f e (got w m) q ih =
      let a : got (b - 128 + 128 * w) (suc m) ≡ got v n = ap (group_then (b - 128)) (sym q) ∙ sym (group_follows k b s p l) ∙ h in
      let x : b - 128 + 128 * w ≡ v = cc in
      let y : suc m ≡ n = cc in
      subst₂ (λ (i j : ℕ). Whole k (suc f) (b ∷ s) i j) x y (whole_more k f b s w m l (other_small k b (fifth_last k b p l) p) (ih w m q))
  over_rest f e short q ih =
      let a : short ≡ got v n = ap (group_then (b - 128)) (sym q) ∙ sym (group_follows k b s p l) ∙ h in
      let z : ◌≡◌ {A = ℕ} 0 1 = cc in absurd (omega arith)
  over_rest f e wrong q ih =
      let a : wrong ≡ got v n = ap (group_then (b - 128)) (sym q) ∙ sym (group_follows k b s p l) ∙ h in
      let z : ◌≡◌ {A = ℕ} 0 1 = cc in absurd (omega arith)

  over : (f : ℕ) → k + f ≡ 4 → ((j w m : ℕ) → suc k + j ≡ 4 → numeral (suc k) s ≡ got w m → Whole (suc k) j s w m) → Whole k f (b ∷ s) v n
  over zero e ih = absurd (fifth_last k b p l (omega arith))
  over (suc f) e ih = over_rest f e (numeral (suc k) s) refl (λ w m. ih f w m (omega arith))

whole : (k f : ℕ) (s : List ℕ) (v n : ℕ) → k + f ≡ 4 → numeral k s ≡ got v n → Whole k f s v n
unfolding numeral
whole k f [] v n e h = let z : ◌≡◌ {A = ℕ} 0 1 = cc in absurd (omega arith)
whole k f (b ∷ s) v n e h = go (λ j w m. whole (suc k) j s w m) (front k b)
  where
    go : ((j w m : ℕ) → suc k + j ≡ 4 → numeral (suc k) s ≡ got w m → Whole (suc k) j s w m) → Front k b → Whole k f (b ∷ s) v n
    go ih (faulty q) = let a = q s in let z : ◌≡◌ {A = ℕ} 0 1 = cc in absurd (omega arith)
    go ih (ends p l z) =
        let a : got b 1 ≡ got v n = sym (last_group k b s p l z) ∙ h in
        let x : b ≡ v = cc in
        let y : 1 ≡ n = cc in
        subst₂ (λ (i j : ℕ). Whole k f (b ∷ s) i j) x y (whole_last k f b s e p l z)
    go ih (goes_on p l) = over k b s v n h p l f e ih

-- a number that is read is in the shortest form
pub read_shortest : ReadShortest
unfolding put
read_shortest s v n h = (whole 0 4 s v n refl h).taken

-- and has that form's bytes
pub read_length : (s : List ℕ) (v n : ℕ) → numeral 0 s ≡ got v n → n ≡ length (put v)
unfolding put
read_length s v n h = (whole 0 4 s v n refl h).count

-- and is below 2 ^ 32
pub read_small : ReadSmall
read_small s v n h = (whole 0 4 s v n refl h).small

-- a number that can be read has one form: two lists that begin with the same number begin with the same bytes, and as many
pub one_form : OneForm
one_form s t v n m h g = (read_length s v n h ∙ sym (read_length t v m g), read_shortest s v n h ∙ sym (read_shortest t v m g))
