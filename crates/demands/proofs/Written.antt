-- A list is read as it is written, and there is one way to write it. Assumes nothing.
use Prim.Native.Nat.{ℕ, zero, suc, ◌+◌, ◌^◌, ◌≤◌, ◌<◌}
use native.Mathlib.Nat.{zero-add}
use native.Mathlib.Omega.{arith}
use mathlib.Core.Path.{◌≡◌, refl, sym, ap, ap₂, ◌∙◌}
use mathlib.Core.List.{List, [], ◌∷◌, ◌++◌, append_assoc, append-nil}
use lib.Dec.{lit<, lit≤}
use lib.ListN.{length, take, drop, replicate, length-append, take-append-drop}
use lib.Seq.{drop-drop, drop-length, drop-append_seam, take_at}
use borrow.Author.Tests.{eq-eqb}
use Rattle.laws.specs.Lists.{Each}
use Rattle.laws.proofs.Lists.{elements, elements_are}
use Rattle.settings.specs.Valid.{valid_settings, vector_bytes, array_bytes}
use Rattle.settings.specs.declared.Settings.{Settings}
use Rattle.numbers.specs.Numbers.{put_in, put, puts, all, number, number_at, numbers_at}
use Rattle.numbers.proofs.Places.{number_put}
use Rattle.numbers.proofs.Rows.{row_count}
use Rattle.numbers.proofs.Forms.{number_form, row_form, row_put}
use Rattle.runlist.specs.Plan.{Found, found, Asked, ended_at, words_from, asking, settled_from, settings_of, headed, plan_of}
use Rattle.runlist.specs.declared.Lengths.{Lengths}
use Rattle.runlist.proofs.Plans.{words_counted, z_read}
use Rattle.demands.specs.Lists.{longest, FitsLent, numbers_of, list_of, Askable, WrittenIsRead, OneList, LongestReached}
use Rattle.demands.specs.ListExamples.{lent_with, before_count, most_asked, MostWords}
use Rattle.demands.proofs.Reading.{parts_of}

-- ---- settings and their seven numbers

settings_back : (s : Settings) → length s.select ≡ 4 → settings_of (numbers_of s) ≡ s
unfolding settings_of elements
settings_back s h = ap (λ (l : List ℕ). record { vl = s.vl; features = s.features; modes = s.modes; select = l }) (elements_are 4 0 s.select (sym h))

numbers_back : (head : List ℕ) → length head ≡ 7 → numbers_of (settings_of head) ≡ head
unfolding settings_of elements
numbers_back head h = elements_are 7 0 head (sym h)

-- ---- there is one way to write it

pub one_list : OneList
unfolding list_of
one_list list lent a e =
    let m = parts_of list lent a e in
    let w = m.words_are in
    let numbers : m.head ≡ numbers_of a.settings =
    sym (ap numbers_of m.settings_are ∙ numbers_back m.head (row_count list 0 7 m.head m.at m.header)) in
    let behind : drop m.at list ≡ a.z ++ drop (m.at + lent.z) list =
    sym (take-append-drop lent.z (drop m.at list)) ∙ ap₂ (λ (x y : List ℕ). x ++ y) (sym m.z_are) (drop-drop lent.z m.at list) in
    let count : drop (m.at + lent.z) list ≡ put (length a.words) ++ drop w.from list = number_form list (m.at + lent.z) (length a.words) w.from w.count in
    let words : drop w.from list ≡ puts a.words =
    row_form list w.from (length a.words) a.words (length list) w.row ∙ ap (λ (x : List ℕ). puts a.words ++ x) (drop-length list) ∙ append-nil (puts a.words) in
    row_form list 0 7 m.head m.at m.header
    ∙ ap₂ (λ (h t : List ℕ). puts h ++ t) numbers
    (behind ∙ ap (λ (t : List ℕ). a.z ++ t) (count ∙ ap (λ (t : List ℕ). put (length a.words) ++ t) words))

-- ---- what is written is read

module _ (lent : Lengths) (a : Asked) (k : Askable lent a) where
  head : List ℕ
  head = puts (numbers_of a.settings)

  behind : List ℕ
  behind = put (length a.words) ++ puts a.words

  -- up to the count, and up to the words
  to_count : list_of a ≡ (head ++ a.z) ++ behind
  unfolding list_of head behind
  to_count = sym (append_assoc head a.z behind)

  to_words : list_of a ≡ ((head ++ a.z) ++ put (length a.words)) ++ (puts a.words ++ [])
  unfolding behind
  to_words =
      to_count ∙ sym (append_assoc (head ++ a.z) (put (length a.words)) (puts a.words))
      ∙ ap (λ (t : List ℕ). ((head ++ a.z) ++ put (length a.words)) ++ t) (sym (append-nil (puts a.words)))

  count_place : length (head ++ a.z) ≡ length head + lent.z
  count_place = length-append head a.z ∙ ap (λ (n : ℕ). length head + n) k.fits.z_bytes

  words_place : ℕ
  words_place = length ((head ++ a.z) ++ put (length a.words))

  small_count : length a.words < 4294967296
  small_count = omega (arith, k.fits.few)

  count_is : number_at (list_of a) (length head + lent.z) ≡ number (length a.words) words_place
  unfolding words_place behind
  count_is =
      ap₂ number_at to_count (sym count_place) ∙ number_put (head ++ a.z) (length a.words) (puts a.words) small_count
      ∙ ap (number (length a.words)) (sym (length-append (head ++ a.z) (put (length a.words))))

  words_are : numbers_at (list_of a) words_place (length a.words) ≡ all a.words (length (list_of a))
  unfolding words_place
  words_are =
      ap (λ (l : List ℕ). numbers_at l words_place (length a.words)) to_words
      ∙ row_put ((head ++ a.z) ++ put (length a.words)) a.words [] k.words
      ∙ ap (all a.words)
      (sym (ap length to_words ∙ length-append ((head ++ a.z) ++ put (length a.words)) (puts a.words ++ []) ∙ ap (λ (l : List ℕ). words_place + length l) (append-nil (puts a.words))))

  words_read : found a.words ≡ words_from (list_of a) lent (length head + lent.z)
  words_read =
      sym (ap (ended_at (list_of a)) words_are ∙ simp (eq-eqb (length (list_of a)) (length (list_of a)) refl))
      ∙ words_counted (list_of a) lent (length head + lent.z) (length a.words) words_place count_is k.fits.few k.fits.reported

  header_is : numbers_at (list_of a) 0 7 ≡ all (numbers_of a.settings) (length head)
  unfolding list_of head behind
  header_is =
      ap (numbers_at (list_of a) 0) (sym (ap (λ (n : ℕ). suc (suc (suc n))) k.four))
      ∙ row_put [] (numbers_of a.settings) (a.z ++ behind) k.numbers
      ∙ ap (all (numbers_of a.settings)) (zero-add (length head))

  z_is : a.z ≡ take lent.z (drop (length head) (list_of a))
  unfolding list_of head behind
  z_is =
      sym (ap (take lent.z) (drop-append_seam head (a.z ++ behind)) ∙ take_at a.z behind lent.z k.fits.z_bytes)

  inside : length head + lent.z ≤ length (list_of a)
  inside = omega (arith, ap length to_count, length-append (head ++ a.z) behind, count_place)

  is_read : plan_of (list_of a) lent ≡ found a
  unfolding plan_of
  is_read =
      ap (headed (list_of a) lent) header_is
      ∙ ap (λ (s : Settings). settled_from (list_of a) lent s (length head)) (settings_back a.settings k.four)
      ∙ sym (z_read (list_of a) lent a.settings (length head) k.fits.valid k.fits.exact inside)
      ∙ ap₂ (λ (y : List ℕ) (w : Found (List ℕ)). asking a.settings y w) (sym z_is) (sym words_read)

pub written_is_read : WrittenIsRead
written_is_read lent a k = is_read lent a k

-- ---- lists filled with one number

each-replicate : (P : ℕ → Type 0) (n x : ℕ) → P x → Each P (replicate n x)
each-replicate P zero x h = tt
each-replicate P (suc n) x h = (h, each-replicate P n x h)

-- W8 to W11 are all w, and the n words all x
alike : (vl features modes w : ℕ) (z : List ℕ) (n x : ℕ) → Asked
alike vl features modes w z n x =
    record {
      settings = record { vl = vl; features = record { 0 = features }; modes = record { 0 = modes }; select = replicate 4 w };
      z = z;
      words = replicate n x;
    }

-- where it fits, it is understood
alike_read : (vl features modes w : ℕ) (b : List ℕ) (n x : ℕ) (lent : Lengths) → vl < 2 ^ 32 → features < 2 ^ 32 → modes < 2 ^ 32 → w < 2 ^ 32 → x < 2 ^ 32
    → FitsLent lent (alike vl features modes w b n x)
    → plan_of (list_of (alike vl features modes w b n x)) lent ≡ found (alike vl features modes w b n x)
unfolding alike
alike_read vl features modes w b n x lent hv hf hm hw hx fits =
    written_is_read lent (alike vl features modes w b n x)
    record {
      fits = fits;
      four = refl;
      numbers = (hv, (hf, (hm, each-replicate (λ k. k < 2 ^ 32) 4 w hw)));
      words = each-replicate (λ k. k < 2 ^ 32) n x hx;
    }

-- ---- the longest list: W8 to W11 and all words have five bytes

longest_asked : Asked
longest_asked = alike 512 0 0 4294967295 (replicate 2048 0) 1024 4294967295

longest_read : plan_of (list_of longest_asked) (record { z = 2048; za = 4096; report = 4096 }) ≡ found longest_asked
unfolding longest_asked alike valid_settings vector_bytes array_bytes
longest_read =
    alike_read 512 0 0 4294967295 (replicate 2048 0) 1024 4294967295 (record { z = 2048; za = 4096; report = 4096 }) (lit< tt) (lit< tt) (lit< tt) (lit< tt) (lit< tt)
    record { valid = refl; exact = refl; z_bytes = refl; few = lit≤ tt; reported = lit≤ tt }

longest_long : length (list_of longest_asked) ≡ longest
unfolding longest_asked alike list_of puts put put_in
longest_long = refl

pub longest_reached : LongestReached
longest_reached = (longest_asked, longest_read, longest_long)

-- ---- row 15: 1,024 words

most_written : before_count ++ 0x80 ∷ 0x08 ∷ replicate 1024 0x00 ≡ list_of most_asked
unfolding settings_of list_of puts put put_in
most_written = refl

pub most_words_lem : MostWords
unfolding alike settings_of valid_settings vector_bytes array_bytes
most_words_lem =
    ap (λ (l : List ℕ). plan_of l (lent_with 4096)) most_written
    ∙ alike_read 128 12 3 0 (replicate 512 0x01) 1024 0 (lent_with 4096) (lit< tt) (lit< tt) (lit< tt) (lit< tt) (lit< tt)
    record { valid = refl; exact = refl; z_bytes = refl; few = lit≤ tt; reported = lit≤ tt }
