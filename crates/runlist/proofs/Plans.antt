-- What a list asks for, by the tests that the code makes. Assumes nothing.
use Prim.Native.Nat.{ℕ, ◌+◌, ◌*◌, ◌<◌, ◌≤◌}
use native.Mathlib.Omega.{arith}
use mathlib.Core.Path.{◌≡◌, refl, sym, ap, ◌∙◌, subst}
use mathlib.Core.Bool.{true, false}
use mathlib.Core.Logic.{◌≢◌}
use mathlib.Core.List.{List}
use lib.ListN.{length, take, drop}
use borrow.Author.Tests.{lt-leb, le-leb, eq-eqb, ne_eqb}
use Rattle.settings.specs.Valid.{valid_settings}
use Rattle.settings.specs.declared.Refusal.{Refusal}
use Rattle.settings.specs.declared.Refusal.TheVariants.{BadSettings, BadLength, ListEnds, TooManyWords, ExtraBytes}
use Rattle.settings.specs.declared.Settings.{Settings}
use Rattle.std.specs.Prelude.{Result, Ok, Err, IfOk}
use Rattle.std.proofs.lemmas.Result.{IfOk-weaker}
use Rattle.numbers.specs.Numbers.{Numbers, all, Read, number, no_number, number_at, numbers_at, values_of, row_of, filled}
use Rattle.numbers.specs.declared.Fault.{Fault}
use Rattle.numbers.specs.declared.Number.{Number}
use Rattle.numbers.proofs.Rows.{told-all, told-fault, filled-all, row_within}
use Rattle.machine.specs.Execute.{right_lengths}
use Rattle.machine.proofs.Executing.{lengths_exact}
use Rattle.runlist.specs.Plan.{found, refused, most_words, ended_at, words_from, asking, z_length, z_from, settled_from, settings_of, headed, plan_of}
use Rattle.runlist.specs.Rooms.{count_says, CountRead, RestRead, FrontRead}
use Rattle.runlist.specs.declared.Front.{Front}
use Rattle.runlist.specs.declared.Lengths.{Lengths}

-- what is found was not refused
pub not-refused : {A : Type 0} {P : Type 0} (a : A) (r : Refusal) (p : ℕ) → refused r p ≡ found a → P
not-refused a r p e = let z : ◌≡◌ {A = ℕ} 0 1 = cc in absurd (omega arith)

-- ---- the words, and the list's end

module _ (list : List ℕ) (m : Numbers) where
  pub fault_ends : (f : Fault) → row_of m ≡ Err f → refused f.refusal f.place ≡ ended_at list m
  fault_ends f e = sym (ap (ended_at list) (told-fault m f e))

  module _ (p : ℕ) (e : row_of m ≡ Ok p) where
    pub extra_ends : p ≢ length list → refused ExtraBytes p ≡ ended_at list m
    extra_ends h = sym (ap (ended_at list) (told-all m p e) ∙ simp (ne_eqb p (length list) h))

    pub found_ends : p ≡ length list → (ws : List ℕ) → ws ≡ values_of m → found ws ≡ ended_at list m
    found_ends h ws w = ap found w ∙ sym (ap (ended_at list) (told-all m p e) ∙ simp (eq-eqb p (length list) h))

-- a row that was read whole fills the room that was lent for it, and ends within the list
pub whole_row : (list : List ℕ) (at p : ℕ) (room out : List ℕ) → row_of (numbers_at list at (length room)) ≡ Ok p
    → out ≡ filled (numbers_at list at (length room)) room → out ≡ values_of (numbers_at list at (length room))
whole_row list at p room out e f = f ∙ filled-all list at room _ p (told-all _ p e)

pub whole_inside : (list : List ℕ) (at n p : ℕ) → at ≤ length list → row_of (numbers_at list at n) ≡ Ok p → p ≤ length list
whole_inside list at n p h e = (row_within list at n _ p h (told-all _ p e)).1

-- ---- the count

pub words_counted : (list : List ℕ) (lent : Lengths) (at n p : ℕ) → number_at list at ≡ number n p → n ≤ most_words → 4 * n ≤ lent.report
    → ended_at list (numbers_at list p n) ≡ words_from list lent at
unfolding words_from
words_counted list lent at n p e h k = simp (e, le-leb n most_words h, le-leb (4 * n) lent.report k)

module _ (list : List ℕ) (report at : ℕ) where
  pub no_count : (f : Fault) → number_at list at ≡ Err f → CountRead list report at (Err f)
  unfolding words_from
  no_count f e = record { says = λ z za. simp e; fits = tt }

  module _ (n : Number) (e : number_at list at ≡ Ok n) where
    pub too_many : most_words < n.value → CountRead list report at (no_number TooManyWords at)
    unfolding words_from
    too_many h = record { says = λ z za. simp (e, lt-leb n.value most_words h); fits = tt }

    module _ (h : n.value ≤ most_words) where
      pub no_room : report < 4 * n.value → CountRead list report at (no_number BadLength 0)
      unfolding words_from
      no_room k = record { says = λ z za. simp (e, le-leb n.value most_words h, lt-leb (4 * n.value) report k); fits = tt }

      pub count_read : 4 * n.value ≤ report → CountRead list report at (Ok n)
      count_read k = record {
        says = λ z za. words_counted list (record { z = z; za = za; report = report }) at n.value n.next e h k;
        fits = (h, k);
      }

-- ---- the settings, the lengths and the Z bytes

pub z_right : (s : Settings) (lent : Lengths) → right_lengths s lent.z lent.za ≡ true → z_length s ≡ lent.z
z_right s lent e = sym (lengths_exact s lent.z lent.za e).0

pub z_read : (list : List ℕ) (lent : Lengths) (s : Settings) (at : ℕ) → valid_settings s ≡ true → right_lengths s lent.z lent.za ≡ true
    → at + lent.z ≤ length list → asking s (take lent.z (drop at list)) (words_from list lent (at + lent.z)) ≡ settled_from list lent s at
unfolding settled_from z_from
z_read list lent s at v l h = sym (rw (v, l, z_right s lent l, le-leb (at + lent.z) (length list) h))

-- where a list ends before its words
none_front : (list : List ℕ) (lent : Lengths) (s : Settings) (at : ℕ) (f : Fault) → refused f.refusal f.place ≡ settled_from list lent s at → RestRead list lent s at (Err f)
none_front list lent s at f e = record { says = e; fits = tt; settled = tt; given = tt }

module _ (list : List ℕ) (lent : Lengths) (s : Settings) (at : ℕ) where
  pub unsettled : valid_settings s ≡ false → RestRead list lent s at (Err (record { refusal = BadSettings; place = 0 }))
  unfolding settled_from
  unsettled e = none_front _ _ _ _ _ (simp e)

  module _ (v : valid_settings s ≡ true) where
    pub wrong_lengths : right_lengths s lent.z lent.za ≡ false → RestRead list lent s at (Err (record { refusal = BadLength; place = 0 }))
    unfolding settled_from
    wrong_lengths e = none_front _ _ _ _ _ (simp (v, e))

    module _ (l : right_lengths s lent.z lent.za ≡ true) where
      pub cut_short : length list < at + lent.z → RestRead list lent s at (Err (record { refusal = ListEnds; place = at }))
      unfolding settled_from z_from
      cut_short h = none_front _ _ _ _ _ (sym (rw (v, l, z_right s lent l, lt-leb (at + lent.z) (length list) h)))

      module _ (h : at + lent.z ≤ length list) (r : Read) (d : CountRead list lent.report (at + lent.z) r) where
        go_on : asking s (take lent.z (drop at list)) (count_says r list) ≡ settled_from list lent s at
        go_on = ap (asking s (take lent.z (drop at list))) (d.says lent.z lent.za) ∙ z_read list lent s at v l h

        pub not_counted : (f : Fault) → r ≡ Err f → RestRead list lent s at (Err f)
        not_counted f e = none_front _ _ _ _ _ (ap (λ (x : Read). asking s (take lent.z (drop at list)) (count_says x list)) (sym e) ∙ go_on)

        pub counted : (n : Number) → r ≡ Ok n → RestRead list lent s at (Ok (record { settings = s; at = at; from = n.next; words = n.value }))
        counted n e =
            let few = subst (λ (x : Read). IfOk x (λ m. (m.value ≤ most_words) × (4 * m.value ≤ lent.report))) e d.fits in
            record {
              says = ap (λ (x : Read). asking s (take lent.z (drop at list)) (count_says x list)) (sym e) ∙ go_on;
              fits = (h, few.0, few.1);
              settled = (v, l);
              given = (refl, refl);
            }

-- ---- the seven numbers, and what follows them

-- also of a row with a fault in it
pub head_filled : (list room head : List ℕ) → length room ≡ 7 → head ≡ filled (numbers_at list 0 (length room)) room
    → head ≡ filled (numbers_at list 0 7) room
head_filled list room head l f = f ∙ ap (λ (n : ℕ). filled (numbers_at list 0 n) room) l

module _ (list : List ℕ) (lent : Lengths) (room : List ℕ) (l : length room ≡ 7) where
  seven : numbers_at list 0 (length room) ≡ numbers_at list 0 7
  seven = ap (numbers_at list 0) l

  pub no-head : (f : Fault) → row_of (numbers_at list 0 (length room)) ≡ Err f → FrontRead list lent (Err f)
  unfolding plan_of
  no-head f e = record { says = sym (ap (headed list lent) (sym seven ∙ told-fault _ f e)); fits = tt; settled = tt; read = tt }

  pub headed_by : (head : List ℕ) → head ≡ filled (numbers_at list 0 (length room)) room → (p : ℕ) → row_of (numbers_at list 0 (length room)) ≡ Ok p
      → (s : Settings) → s ≡ settings_of head → (r : Result Front Fault) → RestRead list lent s p r → FrontRead list lent r
  unfolding plan_of
  headed_by head f p e s q r d =
      let is : numbers_at list 0 7 ≡ all head p = sym seven ∙ told-all _ p e ∙ ap (λ (x : List ℕ). all x p) (sym (whole_row list 0 p room head e f)) in
      record {
        says = d.says ∙ ap (λ (x : Settings). settled_from list lent x p) q ∙ sym (ap (headed list lent) is);
        fits = d.fits;
        settled = d.settled;
        read = IfOk-weaker r _ _ (λ x g. (head, is ∙ ap (all head) (sym g.1), g.0 ∙ q)) d.given;
      }
