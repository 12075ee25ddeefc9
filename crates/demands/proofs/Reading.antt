-- What an accepted list is parts-of of, what holds of a refused one, and that bytes far from the beginning change nothing. Assumes nothing.
use Prim.Native.Nat.{ℕ, ◌+◌, ◌*◌, ◌≤◌, ◌<◌}
use native.Mathlib.Omega.{arith}
use mathlib.Core.Path.{◌≡◌, refl, sym, ap, ap₂, ◌∙◌, subst}
use mathlib.Core.Logic.{◌⊎◌, ⊎_elim}
use mathlib.Core.Bool.{Bool, true, false, cond}
use mathlib.Core.List.{List, [], ◌∷◌, ◌++◌}
use lib.Dec.{leb, eqb, ltb}
use lib.ListN.{length, take, drop, length-append, length-drop}
use lib.Seq.{take-append-le, drop-append-le}
use borrow.Author.Tests.{leb-true, leb-false, le-leb, eqb-true, ne_eqb, ltb-true}
use Rattle.laws.proofs.Tests.{all_three, by_cond, cond-holds, cond_then}
use Rattle.settings.specs.Valid.{valid_settings}
use Rattle.settings.specs.declared.Refusal.{Refusal}
use Rattle.settings.specs.declared.Refusal.TheVariants.{BadSettings, BadLength, ListEnds, BadNumber, TooManyWords, ExtraBytes}
use Rattle.settings.specs.declared.Settings.{Settings}
use Rattle.settings.proofs.Lengths.{valid_parts, vector_at_most, vector_bits}
use Rattle.numbers.specs.Numbers.{put, puts, Numbers, all, fault, Read, number, number_at, numbers_at}
use Rattle.std.specs.Prelude.{Ok, Err}
use Rattle.numbers.proofs.Shortest.{put_length_1, put_length_2}
use Rattle.numbers.proofs.Places.{number_far, number_within, number_fault}
use Rattle.numbers.proofs.Rows.{row_count, row_within, row_far, row-fault, put_lengths_few, row_place}
use Rattle.machine.specs.Execute.{right_lengths}
use Rattle.runlist.specs.Plan.{Found, found, refused, Asked, most_words, ended_at, after_count, words_from, asking, z_length, z_from, settled_from, settings_of, headed, plan_of}
use Rattle.runlist.specs.declared.Lengths.{Lengths}
use Rattle.runlist.proofs.Plans.{not-refused, z_right}
use Rattle.demands.specs.Lists.{longest}

-- the Z bytes, where their length is exact
z_exact : (list : List ℕ) (lent : Lengths) (s : Settings) (at : ℕ) → right_lengths s lent.z lent.za ≡ true
    → z_from list lent s at
    ≡ cond (leb (at + lent.z) (length list)) (asking s (take lent.z (drop at list)) (words_from list lent (at + lent.z))) (refused ListEnds at)
unfolding z_from
z_exact list lent s at l = rw (z_right s lent l)

-- ---- what an accepted list is parts-of of

-- a count at `at`, and as many words, with which the list ends
pub record Worded (list : List ℕ) (lent : Lengths) (at : ℕ) (ws : List ℕ) : Type 0 where
  pub from : ℕ
  pub count : number_at list at ≡ number (length ws) from
  pub few : length ws ≤ most_words
  pub reported : 4 * length ws ≤ lent.report
  pub row : numbers_at list from (length ws) ≡ all ws (length list)

module _ (list : List ℕ) (lent : Lengths) (at : ℕ) (ws : List ℕ) where
  worded_end : (n p : ℕ) → number_at list at ≡ number n p → n ≤ most_words → 4 * n ≤ lent.report → (m : Numbers) → numbers_at list p n ≡ m → ended_at list m ≡ found ws → Worded list lent at ws
  worded_end n p e h k (all vs q) f g =
      by_cond (eqb q (length list)) (found vs) (refused ExtraBytes q) (found ws)
      (λ t x.
      let same : vs ≡ ws = cc in
      let is : n ≡ length ws = sym (row_count list p n vs q f) ∙ ap length same in
      record {
        from = p;
        count = e ∙ ap (λ (i : ℕ). number i p) is;
        few = omega arith;
        reported = omega arith;
        row = ap (numbers_at list p) (sym is) ∙ f ∙ ap₂ all same (eqb-true q (length list) t);
      })
      (λ t x. not-refused ws ExtraBytes q x)
      g
  worded_end n p e h k (fault vs r q) f g = not-refused ws r q g

  worded_number : (r : Read) → number_at list at ≡ r → after_count list lent at r ≡ found ws → Worded list lent at ws
  worded_number (Ok x) e =
      by_cond (leb x.value most_words) (cond (leb (4 * x.value) lent.report) (ended_at list (numbers_at list x.next x.value)) (refused BadLength 0)) (refused TooManyWords at) (found ws)
      (λ h. by_cond (leb (4 * x.value) lent.report) (ended_at list (numbers_at list x.next x.value)) (refused BadLength 0) (found ws)
      (λ k. worded_end x.value x.next e (leb-true x.value most_words h) (leb-true (4 * x.value) lent.report k) (numbers_at list x.next x.value) refl)
      (λ k. not-refused ws BadLength 0))
      (λ h. not-refused ws TooManyWords at)
  worded_number (Err f) e = not-refused ws f.refusal f.place

  worded : words_from list lent at ≡ found ws → Worded list lent at ws
  unfolding words_from
  worded = worded_number (number_at list at) refl

-- "In order": seven numbers, the Z bytes, the count and the words
pub record PartsOf (list : List ℕ) (lent : Lengths) (a : Asked) : Type 0 where
  pub head : List ℕ
  pub at : ℕ
  pub header : numbers_at list 0 7 ≡ all head at
  pub settings_are : a.settings ≡ settings_of head
  pub valid : valid_settings a.settings ≡ true
  pub exact : right_lengths a.settings lent.z lent.za ≡ true
  pub there : at + lent.z ≤ length list
  pub z_are : a.z ≡ take lent.z (drop at list)
  pub words_are : Worded list lent (at + lent.z) a.words

module _ (list : List ℕ) (lent : Lengths) (a : Asked) where
  module _ (head : List ℕ) (at : ℕ) (e : numbers_at list 0 7 ≡ all head at) (v : valid_settings (settings_of head) ≡ true) (l : right_lengths (settings_of head) lent.z lent.za ≡ true) where
    parts_words : (w : Found (List ℕ)) → at + lent.z ≤ length list → words_from list lent (at + lent.z) ≡ w → asking (settings_of head) (take lent.z (drop at list)) w ≡ found a
        → PartsOf list lent a
    parts_words (found ws) h w g =
        let is : record { settings = settings_of head; z = take lent.z (drop at list); words = ws } ≡ a = cc in
        subst (PartsOf list lent) is
        (record {
          head = head;
          at = at;
          header = e;
          settings_are = refl;
          valid = v;
          exact = l;
          there = h;
          z_are = refl;
          words_are = worded list lent (at + lent.z) ws w;
        })
    parts_words (refused r p) h w g = not-refused a r p g

    parts_z : z_from list lent (settings_of head) at ≡ found a → PartsOf list lent a
    parts_z g =
        by_cond (leb (at + lent.z) (length list)) (asking (settings_of head) (take lent.z (drop at list)) (words_from list lent (at + lent.z))) (refused ListEnds at) (found a)
        (λ h. parts_words (words_from list lent (at + lent.z)) (leb-true (at + lent.z) (length list) h) refl)
        (λ h. not-refused a ListEnds at)
        (sym (z_exact list lent (settings_of head) at l) ∙ g)

  parts_row : (m : Numbers) → numbers_at list 0 7 ≡ m → headed list lent m ≡ found a → PartsOf list lent a
  unfolding settled_from
  parts_row (all head at) e =
      by_cond (valid_settings (settings_of head)) (cond (right_lengths (settings_of head) lent.z lent.za) (z_from list lent (settings_of head) at) (refused BadLength 0)) (refused BadSettings 0) (found a)
      (λ v. by_cond (right_lengths (settings_of head) lent.z lent.za) (z_from list lent (settings_of head) at) (refused BadLength 0) (found a)
      (λ l. parts_z head at e v l)
      (λ l. not-refused a BadLength 0))
      (λ v. not-refused a BadSettings 0)
  parts_row (fault vs r p) e = not-refused a r p

  pub parts_of : plan_of list lent ≡ found a → PartsOf list lent a
  unfolding plan_of
  parts_of = parts_row (numbers_at list 0 7) refl

-- ---- what holds of a refused list

-- Q of the refusal and its place
abbrev Refusing : {A : Type 0} → (Refusal → ℕ → Type 0) → Found A → Type 0
Refusing Q (found a) = Unit {0}
Refusing Q (refused r p) = Q r p

-- what a list is refused for, and where: Q of each
pub record Causes (list : List ℕ) (lent : Lengths) (Q : Refusal → ℕ → Type 0) : Type 0 where
  pub ends : (p : ℕ) → p ≤ length list → Q ListEnds p
  pub bad : (p : ℕ) → p ≤ length list → Q BadNumber p
  pub settings : Q BadSettings 0
  pub lengths : (head : List ℕ) (at : ℕ) → numbers_at list 0 7 ≡ all head at → valid_settings (settings_of head) ≡ true
      → right_lengths (settings_of head) lent.z lent.za ≡ false → Q BadLength 0
  pub report : (n : ℕ) → n ≤ most_words → lent.report < 4 * n → Q BadLength 0
  pub many : (p : ℕ) → p ≤ length list → Q TooManyWords p
  pub extra : (p : ℕ) → p ≤ length list → Q ExtraBytes p

module _ (list : List ℕ) (lent : Lengths) (Q : Refusal → ℕ → Type 0) (c : Causes list lent Q) where
  of_number : (r : Refusal) (p : ℕ) → p ≤ length list → (r ≡ ListEnds) ⊎ (r ≡ BadNumber) → Q r p
  of_number r p h = ⊎_elim (λ e. subst (λ (x : Refusal). Q x p) (sym e) (c.ends p h)) (λ e. subst (λ (x : Refusal). Q x p) (sym e) (c.bad p h))

  by_end : (at n : ℕ) (m : Numbers) → at ≤ length list → numbers_at list at n ≡ m → Refusing Q (ended_at list m)
  by_end at n (all ws p) h e =
      cond-holds (Refusing Q) (eqb p (length list)) (found ws) (refused ExtraBytes p) (λ t. tt) (λ t. c.extra p (row_within list at n ws p h e).1)
  by_end at n (fault vs r p) h e = let f = row-fault list at n vs r p h e in of_number r p f.0 f.1

  by_count : (at : ℕ) (r : Read) → at ≤ length list → number_at list at ≡ r → Refusing Q (after_count list lent at r)
  by_count at (Ok x) h e =
      cond-holds (Refusing Q) (leb x.value most_words) _ (refused TooManyWords at)
      (λ t. cond-holds (Refusing Q) (leb (4 * x.value) lent.report) _ (refused BadLength 0)
      (λ k. by_end x.next x.value (numbers_at list x.next x.value) (number_within list at x.value x.next e).inside refl)
      (λ k. c.report x.value (leb-true x.value most_words t) (leb-false (4 * x.value) lent.report k)))
      (λ t. c.many at h)
  by_count at (Err x) h e = let f = number_fault list at x.refusal x.place e in of_number x.refusal x.place (omega arith) f.1

  by-asking : (s : Settings) (bytes : List ℕ) (w : Found (List ℕ)) → Refusing Q w → Refusing Q (asking s bytes w)
  by-asking s bytes (found ws) h = tt
  by-asking s bytes (refused r p) h = h

  by_z : (s : Settings) (at : ℕ) → at ≤ length list → Refusing Q (z_from list lent s at)
  unfolding z_from words_from
  by_z s at h =
      cond-holds (Refusing Q) (leb (at + z_length s) (length list)) _ (refused ListEnds at)
      (λ t. by-asking s (take (z_length s) (drop at list)) (words_from list lent (at + z_length s))
      (by_count (at + z_length s) (number_at list (at + z_length s)) (leb-true (at + z_length s) (length list) t) refl))
      (λ t. c.ends at h)

  by_row : (m : Numbers) → numbers_at list 0 7 ≡ m → Refusing Q (headed list lent m)
  unfolding settled_from
  by_row (all head at) e =
      cond-holds (Refusing Q) (valid_settings (settings_of head)) _ (refused BadSettings 0)
      (λ v. cond-holds (Refusing Q) (right_lengths (settings_of head) lent.z lent.za) _ (refused BadLength 0)
      (λ l. by_z (settings_of head) at (row_within list 0 7 head at (omega arith) e).1)
      (λ l. c.lengths head at e v l))
      (λ v. c.settings)
  by_row (fault vs r p) e = let f = row-fault list 0 7 vs r p (omega arith) e in of_number r p f.0 f.1

  -- what holds of each cause holds of the list's refusal
  pub by_cause : (r : Refusal) (p : ℕ) → plan_of list lent ≡ refused r p → Q r p
  unfolding plan_of
  by_cause r p e = subst (Refusing Q) e (by_row (numbers_at list 0 7) refl)

-- ---- bytes far from the beginning

module _ (s : Settings) (v : valid_settings s ≡ true) where
  features_few : s.features.0 < 32
  features_few = ltb-true s.features.0 32 (all_three (ltb s.features.0 32) _ _ (valid_parts s v).1).0

  modes_few : s.modes.0 < 4
  modes_few = ltb-true s.modes.0 4 (all_three (ltb s.modes.0 4) _ _ (valid_parts s v).2).0

  length_few : s.vl ≤ 512
  length_few = omega (arith, vector_at_most s v, vector_bits s v)

-- valid settings make VL's number two bytes at most, and those of features and modes one
head_few : (head : List ℕ) → length head ≡ 7 → valid_settings (settings_of head) ≡ true → length (puts head) ≤ 2 + 1 + 1 + 4 * 5
unfolding settings_of puts
head_few [] e v = omega arith
head_few (x ∷ []) e v = omega arith
head_few (x ∷ y ∷ []) e v = omega arith
head_few (x ∷ y ∷ w ∷ ws) e v =
    let s : Settings = settings_of (x ∷ y ∷ w ∷ ws) in
    let a = put_length_2 x (omega (arith, length_few s v)) in
    let b = put_length_1 y (omega (arith, features_few s v)) in
    let c = put_length_1 w (omega (arith, modes_few s v)) in
    omega (arith, put_lengths_few ws, length-append (put x) (puts (y ∷ w ∷ ws)), length-append (put y) (puts (w ∷ ws)), length-append (put w) (puts ws))

module _ (list t : List ℕ) where
  longer : length list ≤ length (list ++ t)
  longer = omega (arith, length-append list t)

  far_end : (m : Numbers) (at n : ℕ) → at + 5 * n < length list → numbers_at list at n ≡ m → ended_at (list ++ t) m ≡ ended_at list m
  far_end (all ws p) at n h e =
      let w = row_within list at n ws p (omega arith) e in
      ap (λ (b : Bool). cond b (found ws) (refused ExtraBytes p))
      (ne_eqb p (length (list ++ t)) (λ (q : p ≡ length (list ++ t)). omega (arith, longer)) ∙ sym (ne_eqb p (length list) (λ (q : p ≡ length list). omega arith)))
  far_end (fault vs r p) at n h e = refl

  far_count : (lent : Lengths) (at : ℕ) (r : Read) → at + 2 + most_words * 5 < length list → number_at list at ≡ r → after_count (list ++ t) lent at r ≡ after_count list lent at r
  far_count lent at (Ok x) h e =
      cond_then (leb x.value most_words) _ _ (refused TooManyWords at)
      (λ k. cond_then (leb (4 * x.value) lent.report) _ _ (refused BadLength 0)
      (λ _.
      let few = leb-true x.value most_words k in
      let w = number_within list at x.value x.next e in
      let room-left : x.next + 5 * x.value < length list = omega (arith, w.long, put_length_2 x.value (omega arith)) in
      ap (ended_at (list ++ t)) (row_far list t x.next x.value (omega arith)) ∙ far_end (numbers_at list x.next x.value) x.next x.value room-left refl))
  far_count lent at (Err f) h e = refl

  far_words : (lent : Lengths) (at : ℕ) → at + 2 + most_words * 5 < length list → words_from (list ++ t) lent at ≡ words_from list lent at
  unfolding words_from
  far_words lent at h = ap (after_count (list ++ t) lent at) (number_far list t at (omega arith)) ∙ far_count lent at (number_at list at) h refl

  far_z : (lent : Lengths) (s : Settings) (at : ℕ) → right_lengths s lent.z lent.za ≡ true → at + lent.z + 2 + most_words * 5 < length list
      → z_from (list ++ t) lent s at ≡ z_from list lent s at
  far_z lent s at l h =
      z_exact (list ++ t) lent s at l
      ∙ rw (le-leb (at + lent.z) (length (list ++ t)) (omega (arith, longer)), le-leb (at + lent.z) (length list) (omega arith))
      (ap₂ (asking s) (ap (take lent.z) (drop-append-le at list t (omega arith)) ∙ take-append-le lent.z (drop at list) t (omega (arith, length-drop at list)))
      (far_words lent (at + lent.z) h))
      ∙ sym (z_exact list lent s at l)

  far_row : (lent : Lengths) (m : Numbers) → longest < length list → numbers_at list 0 7 ≡ m → headed (list ++ t) lent m ≡ headed list lent m
  unfolding settled_from
  far_row lent (all head at) h e =
      cond_then (valid_settings (settings_of head)) _ _ (refused BadSettings 0)
      (λ v. cond_then (right_lengths (settings_of head) lent.z lent.za) _ _ (refused BadLength 0)
      (λ l.
      let begins = row_place list 0 7 head at e in
      let short = head_few head (row_count list 0 7 head at e) v in
      let bytes = vector_at_most (settings_of head) v in
      let is = z_right (settings_of head) lent l in
      far_z lent (settings_of head) at l (omega arith)))
  far_row lent (fault vs r p) h e = refl

  pub far : (lent : Lengths) → longest < length list → plan_of (list ++ t) lent ≡ plan_of list lent
  unfolding plan_of
  far lent h = ap (headed (list ++ t) lent) (row_far list t 0 7 (omega arith)) ∙ far_row lent (numbers_at list 0 7) h refl
