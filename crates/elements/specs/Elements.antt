-- Elements of a list of bytes. They lie low byte first.
use Rattle.std.specs.Prelude.{List, [], ◌∷◌, ◌++◌, ℕ, zero, suc, ◌+◌, ◌*◌, ◌/◌, ◌%◌, ◌^◌, ◌<◌, length, get_or, set, take, drop, replicate}

-- the numbers of s are bytes
abbrev pub Bytes : List ℕ → Type 0
Bytes s = (i : ℕ) → get_or s i 0 < 256

-- n bytes that are 0
abbrev pub zeros : ℕ → List ℕ
zeros n = replicate n 0

-- the number in the k bytes of s from `at`
unfoldable pub element_at : ℕ → ℕ → List ℕ → ℕ
element_at zero at s = 0
element_at (suc k) at s = element_at k at s + get_or s (at + k) 0 * 256 ^ k

-- element j of s, in elements of k bytes
abbrev pub element : ℕ → List ℕ → ℕ → ℕ
element k s j = element_at k (j * k) s

-- the same, in elements of so many bits
abbrev pub element_of : ℕ → List ℕ → ℕ → ℕ
element_of bits s j = element (bits / 8) s j

-- s with the k low bytes of v written from `at`
unfoldable pub put_at : ℕ → ℕ → ℕ → List ℕ → List ℕ
put_at zero at v s = s
put_at (suc k) at v s = set (put_at k at v s) (at + k) (v / 256 ^ k % 256)

-- the k low bytes of v
unfoldable pub low_bytes : ℕ → ℕ → List ℕ
low_bytes zero v = []
low_bytes (suc k) v = low_bytes k v ++ (v / 256 ^ k % 256 ∷ [])

-- the elements f 0 .. f (n - 1), of k bytes each
unfoldable pub vector : (ℕ → ℕ) → ℕ → ℕ → List ℕ
unfolding low_bytes
vector f k zero = []
vector f k (suc n) = vector f k n ++ low_bytes k (f n)

-- s with v in the place of as many bytes from `base`
abbrev pub splice : ℕ → List ℕ → List ℕ → List ℕ
splice base v s = take base s ++ v ++ drop (base + length v) s
