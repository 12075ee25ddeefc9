-- A row of numbers: where it ends, what its numbers are, and that nothing past it is looked at; and the loop of read_numbers. Assumes nothing.
use Prim.Native.Nat.{ℕ, zero, suc, ◌+◌, ◌-◌, ◌*◌, ◌≤◌, ◌<◌}
use mathlib.Core.Path.{◌≡◌, refl, sym, ap, ap₂, ◌∙◌}
use mathlib.Core.Logic.{◌⊎◌, inl, inr, ⊎_elim}
use mathlib.Core.List.{List, [], ◌∷◌, ◌++◌, append_assoc, append-nil}
use native.Mathlib.Omega.{arith}
use native.Mathlib.Nat.{add-zero, add-suc}
use native.Mathlib.Numerals.{add-one}
use lib.ListN.{length, get_or, take, drop, set, length-append, length-set, take-append-drop, get_or-append}
use lib.Seq.{drop-length, length-take-le, take-suc-set, drop-set-lt}
use Rattle.laws.proofs.Lists.{drop_more}
use Rattle.settings.specs.declared.Refusal.{Refusal}
use Rattle.settings.specs.declared.Refusal.TheVariants.{ListEnds, BadNumber}
use Rattle.numbers.specs.declared.Fault.{Fault}
use Rattle.numbers.specs.declared.Number.{Number}
use Rattle.std.specs.Prelude.{Ok, Err}
use Rattle.numbers.specs.Numbers.{Read, number, no_number, number_at, put, puts, Numbers, all, fault, followed_by, more, numbers_at, values_of, row_of, filled, answer_of, place_after}
use Rattle.numbers.proofs.Shortest.{put-length}
use Rattle.numbers.proofs.Places.{number_kept, number_far, number_within, number_fault}

-- ---- the last number of a row

-- a row of one number more: the row before it, and its last number
pub record LastIs (list : List ℕ) (m : Numbers) (ws : List ℕ) (p : ℕ) : Type 0 where
  pub before : List ℕ
  pub place : ℕ
  pub value : ℕ
  pub row : m ≡ all before place
  pub number : number_at list place ≡ number value p
  pub numbers : ws ≡ before ++ value ∷ []

last_number : (list vs : List ℕ) (q : ℕ) (r : Read) (ws : List ℕ) (p : ℕ) → number_at list q ≡ r → followed_by vs r ≡ all ws p → LastIs list (all vs q) ws p
last_number list vs q (Ok x) ws p f e =
    let last : x.next ≡ p = cc in
    record {
      before = vs;
      place = q;
      value = x.value;
      row = refl;
      number = f ∙ ap (number x.value) last;
      numbers = cc;
    }
last_number list vs q (Err x) ws p f e = let z : ◌≡◌ {A = ℕ} 0 1 = cc in absurd (omega arith)

pub last_of : (list : List ℕ) (m : Numbers) (ws : List ℕ) (p : ℕ) → more list m ≡ all ws p → LastIs list m ws p
last_of list (all vs q) ws p e = last_number list vs q (number_at list q) ws p refl e
last_of list (fault vs k q) ws p e = let z : ◌≡◌ {A = ℕ} 0 1 = cc in absurd (omega arith)

-- where a row of one number more has a fault, the row before it has the fault, or has none and the last number is the fault
record FaultIs (list : List ℕ) (m : Numbers) (vs : List ℕ) (k : Refusal) (p : ℕ) : Type 0 where
  pub place : ℕ
  pub row : m ≡ all vs place
  pub number : number_at list place ≡ no_number k p

fault_number : (list us : List ℕ) (q : ℕ) (r : Read) (vs : List ℕ) (k : Refusal) (p : ℕ) → number_at list q ≡ r → followed_by us r ≡ fault vs k p → FaultIs list (all us q) vs k p
fault_number list us q (Ok x) vs k p f e = let z : ◌≡◌ {A = ℕ} 0 1 = cc in absurd (omega arith)
fault_number list us q (Err x) vs k p f e =
    let same : us ≡ vs = cc in
    let why : x.refusal ≡ k = cc in
    let where-it-is : x.place ≡ p = cc in
    record {
      place = q;
      row = ap (λ (x : List ℕ). all x q) same;
      number = f ∙ ap₂ no_number why where-it-is;
    }

fault_of : (list : List ℕ) (m : Numbers) (vs : List ℕ) (k : Refusal) (p : ℕ) → more list m ≡ fault vs k p → (m ≡ fault vs k p) ⊎ FaultIs list m vs k p
fault_of list (all us q) vs k p e = inr (fault_number list us q (number_at list q) vs k p refl e)
fault_of list (fault us j q) vs k p e = inl e

-- ---- laws

-- a row has as many numbers as were asked for
pub row_count : (list : List ℕ) (at n : ℕ) (ws : List ℕ) (p : ℕ) → numbers_at list at n ≡ all ws p → length ws ≡ n
unfolding numbers_at
row_count list at zero ws p e =
    let none : [] ≡ ws = cc in
    sym (ap length none)
row_count list at (suc n) ws p e =
    let l = last_of list (numbers_at list at n) ws p e in
    let b = row_count list at n l.before l.place l.row in
    let count : length ws ≡ length l.before + 1 = ap length l.numbers ∙ length-append l.before (l.value ∷ []) in
    omega arith

-- a row stands in the list, and none of its numbers has more than five bytes
pub row_within : (list : List ℕ) (at n : ℕ) (ws : List ℕ) (p : ℕ) → at ≤ length list → numbers_at list at n ≡ all ws p
    → (at ≤ p) × (p ≤ length list) × (p ≤ at + 5 * n)
unfolding numbers_at
row_within list at zero ws p h e =
    let here : at ≡ p = cc in
    (omega arith, omega arith, omega arith)
row_within list at (suc n) ws p h e =
    let l = last_of list (numbers_at list at n) ws p e in
    let w = number_within list l.place l.value p l.number in
    let b = row_within list at n l.before l.place h l.row in
    (omega arith, w.inside, omega arith)

-- the first number of a row stands at the row's place
pub row_first : (list : List ℕ) (at n : ℕ) (ws : List ℕ) (p : ℕ) → numbers_at list at (suc n) ≡ all ws p → (q : ℕ) × (number_at list at ≡ number (get_or ws 0 0) q)
unfolding numbers_at
row_first list at zero ws p e =
    let l = last_of list (all [] at) ws p e in
    let none : [] ≡ l.before = cc in
    let here : at ≡ l.place = cc in
    let value : get_or ws 0 0 ≡ l.value = ap (λ (x : List ℕ). get_or x 0 0) (l.numbers ∙ ap (λ (x : List ℕ). x ++ l.value ∷ []) (sym none)) in
    (p, ap (number_at list) here ∙ l.number ∙ ap (λ (v : ℕ). number v p) (sym value))
row_first list at (suc n) ws p e =
    let l = last_of list (numbers_at list at (suc n)) ws p e in
    let b = row_first list at n l.before l.place l.row in
    let some : 0 < length l.before = omega (arith, row_count list at (suc n) l.before l.place l.row) in
    let same : get_or ws 0 0 ≡ get_or l.before 0 0 = ap (λ (x : List ℕ). get_or x 0 0) l.numbers ∙ get_or-append l.before (l.value ∷ []) 0 0 some in
    (b.0, b.1 ∙ ap (λ (v : ℕ). number v b.0) (sym same))

-- bytes after the list change nothing in a row that was read
pub row_kept : (list t : List ℕ) (at n : ℕ) (ws : List ℕ) (p : ℕ) → numbers_at list at n ≡ all ws p → numbers_at (list ++ t) at n ≡ all ws p
unfolding numbers_at
row_kept list t at zero ws p e = e
row_kept list t at (suc n) ws p e =
    let l = last_of list (numbers_at list at n) ws p e in
    ap (more (list ++ t)) (row_kept list t at n l.before l.place l.row)
    ∙ ap (followed_by l.before) (number_kept list t l.place l.value p l.number)
    ∙ ap (λ (x : List ℕ). all x p) (sym l.numbers)

far-more : (list t : List ℕ) (at n : ℕ) (m : Numbers) → at + 5 * suc n ≤ length list → numbers_at list at n ≡ m → more (list ++ t) m ≡ more list m
far-more list t at n (all ws p) h e =
    let w = row_within list at n ws p (omega arith) e in
    ap (followed_by ws) (number_far list t p (omega arith))
far-more list t at n (fault vs k p) h e = refl

-- with five bytes left for each number, bytes after the list change nothing
pub row_far : (list t : List ℕ) (at n : ℕ) → at + 5 * n ≤ length list → numbers_at (list ++ t) at n ≡ numbers_at list at n
unfolding numbers_at
row_far list t at zero h = refl
row_far list t at (suc n) h = ap (more (list ++ t)) (row_far list t at n (omega arith)) ∙ far-more list t at n (numbers_at list at n) h refl

-- a row's fault is refusal 7 or 8, and its place is in the list or at its end
pub row-fault : (list : List ℕ) (at n : ℕ) (vs : List ℕ) (k : Refusal) (p : ℕ) → at ≤ length list → numbers_at list at n ≡ fault vs k p
    → (p ≤ length list) × ((k ≡ ListEnds) ⊎ (k ≡ BadNumber))
unfolding numbers_at
row-fault list at zero vs k p h e = let z : ◌≡◌ {A = ℕ} 0 1 = cc in absurd (omega arith)
row-fault list at (suc n) vs k p h e =
    ⊎_elim
    (λ (f : numbers_at list at n ≡ fault vs k p). row-fault list at n vs k p h f)
    (λ (f : FaultIs list (numbers_at list at n) vs k p).
    let w = row_within list at n vs f.place h f.row in
    let here = number_fault list f.place k p f.number in
    (omega arith, here.1))
    (fault_of list (numbers_at list at n) vs k p e)

-- the shortest form of a row's last number stands last
pub puts_last : (ws : List ℕ) (w : ℕ) → puts (ws ++ w ∷ []) ≡ puts ws ++ put w
unfolding puts
puts_last [] w = append-nil (put w)
puts_last (x ∷ ws) w = ap (λ (t : List ℕ). put x ++ t) (puts_last ws w) ∙ sym (append_assoc (put x) (puts ws) (put w))

-- the shortest forms of a row have at most five bytes each
pub put_lengths_few : (ws : List ℕ) → length (puts ws) ≤ 5 * length ws
unfolding puts
put_lengths_few [] = omega arith
put_lengths_few (w ∷ ws) = omega (arith, put-length w, put_lengths_few ws, length-append (put w) (puts ws))

-- the place after a row is that after the shortest forms of its numbers
pub row_place : (list : List ℕ) (at n : ℕ) (ws : List ℕ) (p : ℕ) → numbers_at list at n ≡ all ws p → p ≡ at + length (puts ws)
unfolding numbers_at puts
row_place list at zero ws p e =
    let here : at ≡ p = cc in
    let none : [] ≡ ws = cc in
    omega (arith, ap (λ (x : List ℕ). length (puts x)) none)
row_place list at (suc n) ws p e =
    let l = last_of list (numbers_at list at n) ws p e in
    let w = number_within list l.place l.value p l.number in
    let b = row_place list at n l.before l.place l.row in
    let last : length (puts ws) ≡ length (puts l.before) + length (put l.value) =
    ap length (ap puts l.numbers ∙ puts_last l.before l.value) ∙ length-append (puts l.before) (put l.value) in
    omega (arith, w.long)

-- ---- what an answer of read_numbers says

-- without a fault, the numbers are all there
pub told-all : (m : Numbers) (p : ℕ) → row_of m ≡ Ok p → m ≡ all (values_of m) p
unfolding row_of values_of
told-all (all ws q) p e =
    let same : q ≡ p = cc in
    ap (all ws) same
told-all (fault vs k q) p e = let z : ◌≡◌ {A = ℕ} 0 1 = cc in absurd (omega arith)

-- with one, it is the row's
pub told-fault : (m : Numbers) (f : Fault) → row_of m ≡ Err f → m ≡ fault (values_of m) f.refusal f.place
unfolding row_of values_of
told-fault (all ws q) f e = let z : ◌≡◌ {A = ℕ} 0 1 = cc in absurd (omega arith)
told-fault (fault vs j q) f e =
    let why : j ≡ f.refusal = cc in
    let same : q ≡ f.place = cc in
    ap₂ (fault vs) why same

-- a row that was read fills out with its numbers, and nothing else
pub filled-all : (list : List ℕ) (at : ℕ) (out ws : List ℕ) (p : ℕ) → numbers_at list at (length out) ≡ all ws p → filled (numbers_at list at (length out)) out ≡ ws
unfolding filled values_of
filled-all list at out ws p e =
    ap (λ (m : Numbers). filled m out) e
    ∙ ap (λ (n : ℕ). ws ++ drop n out) (row_count list at (length out) ws p e)
    ∙ ap (λ (x : List ℕ). ws ++ x) (drop-length out)
    ∙ append-nil ws

-- ---- the loop of read_numbers

-- what the reader answers, and where it then stands, is what stands at its place
pub number_back : (r : Read) (at v p : ℕ) → Ok v ≡ answer_of r → p ≡ place_after r at → r ≡ number v p
number_back (Ok x) at v p e h = let same : v ≡ x.value = cc in ap₂ number (sym same) (sym h)
number_back (Err f) at v p e h = cc

pub fault_back : (r : Read) (f : Fault) → Err f ≡ answer_of r → r ≡ Err f
fault_back (Ok x) f e = cc
fault_back (Err g) f e = cc

-- i numbers have been read into out, which was out₀, and the next is due
pub record Filling (list : List ℕ) (at : ℕ) (out₀ out : List ℕ) (due i : ℕ) : Type 0 where
  pub room : i ≤ length out
  pub long : length out ≡ length out₀
  pub so_far : numbers_at list at i ≡ all (take i out) due
  pub rest : drop i out ≡ drop i out₀

pub begin : (list : List ℕ) (at : ℕ) (out : List ℕ) → Filling list at out out at 0
unfolding numbers_at
begin list at out =
    record {
      room = omega arith;
      long = refl;
      so_far = refl;
      rest = refl;
    }

-- what the numbers fill in is out itself
filled_is : (m : Numbers) (i : ℕ) (out₀ out : List ℕ) → i ≤ length out → values_of m ≡ take i out → drop i out ≡ drop i out₀ → out ≡ filled m out₀
unfolding filled
filled_is m i out₀ out h e r =
    let count : length (values_of m) ≡ i = ap length e ∙ length-take-le i out h in
    sym (take-append-drop i out) ∙ ap₂ (λ (x y : List ℕ). x ++ y) (sym e) (r ∙ ap (λ (j : ℕ). drop j out₀) (sym count))

module _ (list : List ℕ) (at : ℕ) where
  -- the first fault decides
  fault_stays : (i d : ℕ) (vs : List ℕ) (k : Refusal) (p : ℕ) → numbers_at list at i ≡ fault vs k p → numbers_at list at (i + d) ≡ fault vs k p
  unfolding numbers_at
  fault_stays i zero vs k p e = rw add-zero e
  fault_stays i (suc d) vs k p e = rw (add-suc, fault_stays i d vs k p e)

module _ {list : List ℕ} {at : ℕ} {out₀ out : List ℕ} {due i : ℕ} (f : Filling list at out₀ out due i) where
  -- a turn
  pub one_more : (x : Number) → i < length out → number_at list due ≡ Ok x → Filling list at out₀ (set out i x.value) x.next (i + 1)
  unfolding numbers_at
  one_more x h e =
      record {
        room = simp length-set (omega arith);
        long = simp length-set f.long;
        so_far = rw (add-one, f.so_far, e, take-suc-set);
        rest = drop-set-lt (i + 1) out i x.value (omega arith) ∙ drop_more 1 i out out₀ f.rest;
      }

  -- either way out, what was read stands in out, and the rest stays
  rest_stays : (m : Numbers) → numbers_at list at (length out₀) ≡ m → values_of m ≡ take i out → out ≡ filled (numbers_at list at (length out₀)) out₀
  rest_stays m e h = filled_is (numbers_at list at (length out₀)) i out₀ out f.room (ap values_of e ∙ h) f.rest

  stopped : (x : Fault) → i < length out → number_at list due ≡ Err x → numbers_at list at (length out₀) ≡ fault (take i out) x.refusal x.place
  unfolding numbers_at
  stopped x h e =
      let here : numbers_at list at (suc i) ≡ fault (take i out) x.refusal x.place = rw (f.so_far, e) in
      let split : length out₀ ≡ suc i + (length out₀ - suc i) = omega (arith, f.long) in
      rw split (fault_stays list at (suc i) (length out₀ - suc i) (take i out) x.refusal x.place here)

  pub out_fault : (x : Fault) → i < length out → number_at list due ≡ Err x
      → (Err x ≡ row_of (numbers_at list at (length out₀))) × (out ≡ filled (numbers_at list at (length out₀)) out₀)
  unfolding row_of values_of
  out_fault x h e =
      let m = stopped x h e in
      (sym (ap row_of m), rest_stays (fault (take i out) x.refusal x.place) m refl)

  finished : length out ≤ i → numbers_at list at (length out₀) ≡ all (take i out) due
  finished h =
      let whole : length out₀ ≡ i = omega (arith, f.long, f.room) in
      rw whole f.so_far

  pub out_all : length out ≤ i → (Ok due ≡ row_of (numbers_at list at (length out₀))) × (out ≡ filled (numbers_at list at (length out₀)) out₀)
  unfolding row_of values_of
  out_all h =
      let m = finished h in
      (sym (ap row_of m), rest_stays (all (take i out) due) m refl)
