-- The bits that change where an element is written, one turn of `replace` and of `clear`, two words, and two parts. Assumes nothing.
use mathlib.Core.Path.{◌≡◌, refl, sym, ap, ap₂, ◌∙◌}
use mathlib.Core.List.{List, ◌++◌}
use Prim.Native.Nat.{ℕ, zero, suc, ◌+◌, ◌*◌, ◌/◌, ◌%◌, ◌^◌, ◌≤◌, ◌<◌}
use native.Mathlib.Nat.{add-zero, add_assoc, add_comm, mul-suc, mod-eq_of_lt, le_refl}
use native.Mathlib.Omega.{arith}
use lib.ListN.{length, get_or, take, drop, length-append}
use lib.Arith.{digits_div, digits_mod}
use lib.Bits.{differ}
use Rattle.elements.specs.Elements.{element_at, element, put_at, splice, zeros}
use Rattle.elements.proofs.Elements.{Bytes, pow256, element_at_lt, element_at_same, length_put, put_after}
use Rattle.elements.proofs.Vectors.{put_each, put_each_turn, put_each_after, put_each-splice, length-put_each, vector_own}
use Rattle.elements.proofs.Files.{length-splice, drop-splice, splice_behind}
use Rattle.bits.specs.Bits.{over_bits, over_bytes, rose, fell, rises, falls, toggles, word_toggles}
use Rattle.bits.specs.Replace.{Replaced}
use Rattle.bits.specs.declared.Toggles.{Toggles}
use Rattle.bits.proofs.Bits.{Unmoved, differ_unmoved, rose_unmoved, fell_unmoved, differ_once, bits_split, bits_mod, bits_same, bytes-set, bytes_splice_add, bytes_splice_le, toggled_differs, rises_same, falls_same, bytes-splice, rises-zeros}

module _ (f : ℕ → ℕ → ℕ) where
  -- the bits of one byte more
  bits_byte : (k lo g v : ℕ) → lo < 256 ^ k → g < 256
      → over_bits f (8 * suc k) (lo + g * 256 ^ k) v ≡ over_bits f (8 * k) lo v + over_bits f 8 g (v / 256 ^ k % 256)
  bits_byte k lo g v hl hg =
      let hl' : lo < 2 ^ (8 * k) = rw (← pow256 k) hl in
      rw (mul-suc 8 k, pow256 k, add_comm lo, bits_split f (8 * k) 8, digits_div g hl')
      (ap₂ ◌+◌
      (sym (bits_mod f (8 * k) (g * 2 ^ (8 * k) + lo) v) ∙ ap (λ (x : ℕ). over_bits f (8 * k) x (v % 2 ^ (8 * k))) (digits_mod g hl' ∙ sym (mod-eq_of_lt hl')) ∙ bits_mod f (8 * k) lo v)
      (sym (bits_mod f 8 g (v / 2 ^ (8 * k))) ∙ rw (mod-eq_of_lt hg)))

  -- an element is written where the two lists agreed so far
  bytes_put : Unmoved f → (k at v : ℕ) (s t : List ℕ) → length s ≡ length t → Bytes s → at + k ≤ length t
      → ((i : ℕ) → i < k → get_or t (at + i) 0 ≡ get_or s (at + i) 0)
      → over_bytes f s (put_at k at v t) ≡ over_bytes f s t + over_bits f (8 * k) (element_at k at s) v
  unfolding put_at element_at over_bits
  bytes_put same zero at v s t e b r ag = sym (add-zero _)
  bytes_put same (suc k) at v s t e b r ag =
      let u : List ℕ = put_at k at v t in
      let z : over_bits f 8 (get_or s (at + k) 0) (get_or u (at + k) 0) ≡ 0 =
      rw (put_after at v t k (at + k) (le_refl _), ag k (le_refl _)) (bits_same f same 8 _) in
      bytes-set f s u (at + k) (v / 256 ^ k % 256) (rw length_put e) (rw length_put (omega arith)) z
      ∙ rw (bytes_put same k at v s t e b (omega arith) (λ i q. ag i (omega arith)), bits_byte k (element_at k at s) (get_or s (at + k) 0) v (element_at_lt k at s b) (b (at + k))) (add_assoc _ _ _)

-- two numbers of toggles are the same where both parts are
pub same_toggles : (t u : Toggles) → t.rises ≡ u.rises → t.falls ≡ u.falls → t ≡ u
same_toggles t u er ef = ap₂ {A = ℕ} {B = ℕ} {C = Toggles} (λ r f. record { rises = r; falls = f }) er ef

-- ---- replace

-- the file after i bytes: whole elements of eight bytes
abbrev pub Upto : List ℕ → List ℕ → ℕ → ℕ → List ℕ → Type 0
Upto file₀ new at i file = file ≡ put_each (element 8 new) 8 at (i / 8) file₀

-- what a turn leaves: the count of any test that does not count equal bits grows by that of the eight bytes
pub record Turned (file₀ new : List ℕ) (at i before after : ℕ) (file file' : List ℕ) : Type 0 where
  pub upto : Upto file₀ new at (i + 8) file'
  pub counts : (f : ℕ → ℕ → ℕ) → Unmoved f → over_bytes f file₀ file + over_bits f 64 before after ≡ over_bytes f file₀ file'
  pub long : length file' ≡ length file₀

-- what is not written yet stands as it was
pub untouched : (file₀ new : List ℕ) (at i : ℕ) (file : List ℕ) → Upto file₀ new at i file → (j : ℕ) → get_or file (at + i + j) 0 ≡ get_or file₀ (at + i + j) 0
untouched file₀ new at i file up j = rw up (put_each_after (element 8 new) 8 at file₀ (i / 8) (at + i + j) (omega arith))

module _ (file₀ new : List ℕ) (at : ℕ) (fit : at + length new ≤ length file₀) (eights : length new % 8 ≡ 0) where
  -- one turn, from what its calls ensure
  pub turn : (i before after : ℕ) (file file' : List ℕ) → Bytes file₀ → i % 8 ≡ 0 → i < length new → Upto file₀ new at i file
      → before ≡ element_at 8 (at + i) file → after ≡ element_at 8 i new → file' ≡ put_at 8 (at + i) after file
      → Turned file₀ new at i before after file file'
  turn i before after file file' by hi h up eb ea ef =
      let e : ℕ = i / 8 in
      let ie : i ≡ e * 8 = omega arith in
      let long : length file ≡ length file₀ = rw up (length-put_each (element 8 new) 8 at file₀ e) in
      let agree : (j : ℕ) → j < 8 → get_or file (at + i + j) 0 ≡ get_or file₀ (at + i + j) 0 = λ j _. untouched file₀ new at i file up j in
      let old : before ≡ element_at 8 (at + i) file₀ = eb ∙ element_at_same 8 (at + i) (at + i) file file₀ agree in
      record {
        upto =
            let q : (i + 8) / 8 ≡ e + 1 = omega arith in
            rw q (put_each_turn (element 8 new) 8 at e (at + i) after file₀ file file' (omega arith) (ea ∙ ap (λ (x : ℕ). element_at 8 x new) ie) up ef);
        counts = λ f same. rw (ef, old) (sym (bytes_put f same 8 (at + i) after file₀ file (sym long) by (omega arith) agree));
        long = rw ef (length_put (at + i) after file 8) ∙ long;
      }

  -- the loop's end
  pub all : (i u d : ℕ) (file : List ℕ) → Bytes new → i % 8 ≡ 0 → i ≤ length new → length new ≤ i → Upto file₀ new at i file
      → u ≡ rises file₀ file → d ≡ falls file₀ file → Replaced at (record { rises = u; falls = d }) new file₀ file
  all i u d file by hi l m up eu ed =
      let e : ℕ = i / 8 in
      let long : length new ≡ e * 8 = omega arith in
      let after : file ≡ splice at new file₀ = up ∙ put_each-splice (element 8 new) 8 at e file₀ (omega arith) ∙ rw (vector_own 8 e new by long) in
      record {
        after = after;
        bits = ap₂ {A = ℕ} {B = ℕ} {C = Toggles} (λ r f. record { rises = r; falls = f }) eu ed;
        few =
            omega (arith, eu, ed, toggled_differs file₀ file, ap (over_bytes differ file₀) after, bytes_splice_le differ differ_once differ_unmoved at new file₀ fit);
      }

-- ---- word by word

-- the parts of a turn and of the end, where the loop counts words and sums their toggles
module _ (file₀ new : List ℕ) (at : ℕ) (fit : at + length new ≤ length file₀) (eights : length new % 8 ≡ 0) where
  pub word_turn : (c : ℕ) (t u t' : Toggles) (after : ℕ) (file file' : List ℕ) → Bytes file₀ → 8 * c < length new → Upto file₀ new at (8 * c) file
      → t ≡ toggles file₀ file → after ≡ element_at 8 (8 * c) new → u ≡ word_toggles (element_at 8 (at + 8 * c) file) after
      → (t'.rises ≡ t.rises + u.rises) × (t'.falls ≡ t.falls + u.falls) → file' ≡ put_at 8 (at + 8 * c) after file
      → Upto file₀ new at (8 * (c + 1)) file' × (t' ≡ toggles file₀ file') × (length file' ≡ length file₀)
  word_turn c t u t' after file file' by h up et ea eu es ef =
      let more : 8 * c + 8 ≡ 8 * (c + 1) = omega arith in
      let T = turn file₀ new at fit eights (8 * c) (element_at 8 (at + 8 * c) file) after file file' by (omega arith) h up refl ea ef in (
        rw more at T.upto,
        same_toggles t' (toggles file₀ file')
            (es.0 ∙ ap₂ ◌+◌ (ap (λ (b : Toggles). b.rises) et) (ap (λ (b : Toggles). b.rises) eu) ∙ T.counts rose rose_unmoved)
            (es.1 ∙ ap₂ ◌+◌ (ap (λ (b : Toggles). b.falls) et) (ap (λ (b : Toggles). b.falls) eu) ∙ T.counts fell fell_unmoved),
        T.long,
      )

  pub word_end : (c : ℕ) (t : Toggles) (file : List ℕ) → Bytes new → 8 * c ≡ length new → Upto file₀ new at (8 * c) file → t ≡ toggles file₀ file
      → Replaced at t new file₀ file
  word_end c t file by h up et =
      all file₀ new at fit eights (8 * c) t.rises t.falls file by (omega arith) (omega arith) (omega arith) up
      (ap (λ (b : Toggles). b.rises) et) (ap (λ (b : Toggles). b.falls) et)

-- at the start nothing has changed
pub none_yet : (s : List ℕ) (t : Toggles) → (t.rises ≡ 0) → (t.falls ≡ 0) → t ≡ toggles s s
none_yet s t r f = same_toggles t (toggles s s) (r ∙ sym (rises_same s)) (f ∙ sym (falls_same s))

-- 16 new bytes, of which all is read before any is written
pub both : (file₀ new : List ℕ) (at : ℕ) → at + 16 ≤ length file₀ → length new ≡ 16 → Bytes file₀ → Bytes new
    → (u v t : Toggles) (after after' : ℕ) (file file' : List ℕ) → after ≡ element_at 8 0 new → after' ≡ element_at 8 8 new
    → u ≡ word_toggles (element_at 8 at file₀) after → file ≡ put_at 8 at after file₀
    → v ≡ word_toggles (element_at 8 (at + 8) file) after' → file' ≡ put_at 8 (at + 8) after' file
    → (t.rises ≡ u.rises + v.rises) × (t.falls ≡ u.falls + v.falls) → Replaced at t new file₀ file'
unfolding put_each
both file₀ new at fit long by by' u v t after after' file file' ea ea' eu ef ev ef' es =
    let room : at + length new ≤ length file₀ = omega arith in
    let eights : length new % 8 ≡ 0 = omega arith in
    let here : at ≡ at + 0 = sym (add-zero at) in
    let none : Toggles = record { rises = 0; falls = 0 } in
    let first =
    word_turn file₀ new at room eights 0 none u u after file₀ file by (omega arith) refl (none_yet file₀ none refl refl) ea
    (eu ∙ ap (λ (k : ℕ). word_toggles (element_at 8 k file₀) after) here) (omega arith, omega arith) (ef ∙ ap (λ (k : ℕ). put_at 8 k after file₀) here) in
    let second = word_turn file₀ new at room eights 1 u v t after' file file' by (omega arith) first.0 first.1 ea' ev es ef' in
    word_end file₀ new at room eights 2 t file' by' (sym long) second.0 second.1

-- ---- zeros

-- where bytes become zeros, no bit rises
pub cleared_rise : (at bytes : ℕ) (file : List ℕ) (t : Toggles) (file' : List ℕ) → at + length (zeros bytes) ≤ length file → Replaced at t (zeros bytes) file file'
    → t.rises ≡ 0
cleared_rise at bytes file t file' fit p =
    ap (λ (b : Toggles). b.rises) p.bits
    ∙ ap (rises file) p.after
    ∙ bytes-splice rose rose_unmoved at (zeros bytes) file fit
    ∙ rises-zeros (take (length (zeros bytes)) (drop at file)) bytes

-- ---- two parts

-- bytes that are replaced right behind others, after them
pub behind : (at : ℕ) (t u v : Toggles) (x y s s' s'' : List ℕ) → at + length x + length y ≤ length s → Replaced at t x s s' → Replaced (at + length x) u y s' s''
    → (v.rises ≡ t.rises + u.rises) × (v.falls ≡ t.falls + u.falls) → Replaced at v (x ++ y) s s''
behind at t u v x y s s' s'' fit p q e =
    let room : at + length x ≤ length s = omega arith in
    let long : length s' ≡ length s = rw p.after (length-splice at x s room) in
    let agree : take (length y) (drop (at + length x) s') ≡ take (length y) (drop (at + length x) s) =
    ap (λ (l : List ℕ). take (length y) (drop (at + length x) l)) p.after ∙ ap (take (length y)) (drop-splice at x s room) in
    let sum : (f : ℕ → ℕ → ℕ) → Unmoved f → over_bytes f s s' + over_bytes f s' s'' ≡ over_bytes f s s'' =
    λ f same. rw q.after (sym (bytes_splice_add f same (at + length x) y s s' long fit agree)) in
    record {
      after = q.after ∙ ap (splice (at + length x) y) p.after ∙ splice_behind at x y s room;
      bits =
          same_toggles v (toggles s s'')
          (e.0 ∙ ap₂ ◌+◌ (ap (λ (b : Toggles). b.rises) p.bits) (ap (λ (b : Toggles). b.rises) q.bits) ∙ sum rose rose_unmoved)
          (e.1 ∙ ap₂ ◌+◌ (ap (λ (b : Toggles). b.falls) p.bits) (ap (λ (b : Toggles). b.falls) q.bits) ∙ sum fell fell_unmoved);
      few = omega (arith, e.0, e.1, p.few, q.few, length-append x y);
    }
