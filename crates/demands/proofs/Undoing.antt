-- A step is undone by the step of the same fields with `subtract` flipped. Assumes nothing.
use Prim.Native.Nat.{ℕ, ◌+◌, ◌-◌, ◌*◌, ◌/◌, ◌%◌, ◌<◌}
use native.Mathlib.Omega.{arith}
use mathlib.Core.Path.{◌≡◌, sym, ap, ap₂, ◌∙◌, subst}
use mathlib.Core.Logic.{◌≢◌, inl, inr, ⊎_elim}
use mathlib.Core.Bool.{true, false}
use mathlib.Core.List.{List, ◌++◌}
use lib.Dec.{eqb}
use lib.ListN.{length, drop, length-drop, take-append-drop}
use lib.Seq.{get_or-drop, ext_get_or}
use borrow.Author.Tests.{eqb-true}
use Rattle.laws.proofs.Tests.{never_both}
use Rattle.settings.specs.Lengths.{VectorLength}
use Rattle.settings.specs.Valid.{vector_bytes, array_bytes}
use Rattle.settings.specs.declared.Settings.{Settings}
use Rattle.settings.proofs.Lengths.{vector_length, array_length}
use Rattle.words.specs.Partner.{turned, is_c}
use Rattle.words.specs.Ranges.{Ranges}
use Rattle.words.specs.declared.Family.{Family}
use Rattle.words.specs.declared.Fields.{Fields}
use Rattle.words.proofs.Ranges.{in_family}
use Rattle.elements.specs.Files.{vector_at}
use Rattle.elements.specs.Elements.{zeros}
use Rattle.elements.proofs.Elements.{Bytes, length-zeros, get_d-zeros}
use Rattle.elements.proofs.Files.{room, length-vector_at, Bytes-vector_at, renewed_undone}
use Rattle.bits.proofs.Bits.{rises_turned}
use Rattle.recipes.specs.Recipe.{recipe_of, new_length}
use Rattle.recipes.proofs.Inside.{new_length_lem, widths, length-new_bytes}
use Rattle.recipes.proofs.Undone.{saturates_c, recipe-turned, undo_vector, undo_whole}
use Rattle.machine.specs.Step.{register, new_register, z_after, stride, selected, first_vector, writes_vector, new_vector, za_after}
use Rattle.machine.specs.Execute.{Outcome, written, stepped}
use Rattle.machine.specs.Loop.{IntoV, IntoZa}
use Rattle.machine.proofs.Renewal.{v_length}
use Rattle.machine.proofs.Stepping.{IntoZ, which_file, stepped_to, stepped_z, stepped_za, stepped_z_lem, stepped-za}
use Rattle.machine.proofs.Registers.{long_register}
use Rattle.demands.specs.Execution.{ClearAbove, Accepted}
use Rattle.demands.specs.Sweep.{SourcesApart, ClearIfV}
use Rattle.demands.proofs.Outcomes.{accepted_ranges}
use Rattle.demands.proofs.Effects.{byte_of, z_new, z_same, each-za}

-- ---- A and B: into Z

-- a word that writes a V register has single source registers, neither is the destination, and above the V register there are zeros
record Single (s : Settings) (f : Fields) (z : List ℕ) : Type 0 where
  into_v : IntoV f
  one : f.group ≡ 1
  not_first : f.destination ≢ f.first
  not_second : f.destination ≢ f.second
  clear : ClearAbove s f.destination z

single : (s : Settings) (f : Fields) (z : List ℕ) → IntoZ f → Ranges f → is_c f.family ≡ false → SourcesApart f.family f → ClearIfV f.family s f z
    → Single s f z
single s f z (inl e) g c p h =
    let q = subst (λ (x : Family). SourcesApart x f) e p in
    record { into_v = inl e; one = in_family f g _ e; not_first = q.0; not_second = q.1; clear = subst (λ (x : Family). ClearIfV x s f z) e h }
single s f z (inr (inl e)) g c p h =
    let q = subst (λ (x : Family). SourcesApart x f) e p in
    record { into_v = inr e; one = in_family f g _ e; not_first = q.0; not_second = q.1; clear = subst (λ (x : Family). ClearIfV x s f z) e h }
single s f z (inr (inr e)) g c p h = absurd (never_both (is_c f.family) (ap is_c e) c)

module _ (s : Settings) (v : VectorLength (vector_bytes s)) (f : Fields) (g : Ranges f) (z : List ℕ) (long : length z ≡ 32 * vector_bytes s) (b : Bytes z)
    (wraps : (recipe_of f.family f 0).saturating ≡ false) where
  abbrev w : ℕ
  w = vector_bytes s

  abbrev d : ℕ
  d = f.destination

  abbrev n : ℕ
  n = new_length f.family w

  old_long : length (register s z d) ≡ w
  old_long = length-vector_at w d z (room d 32 w z long g.destination)

  -- what the elements do not fill was clear
  clear_part : new_length f.family (vector_bytes s) ≡ 16 → ClearAbove s f.destination z
      → drop (new_length f.family (vector_bytes s)) (register s z f.destination) ≡ zeros (vector_bytes s - new_length f.family (vector_bytes s))
  clear_part sixteen clear =
      ext_get_or 0 (drop n (register s z d)) (zeros (w - n)) (rw (length-drop, old_long, length-zeros))
      (λ i h.
      let l : n + i < w = omega (arith, length-drop n (register s z d), old_long) in
      get_or-drop n (register s z d) i 0 ∙ byte_of w d z (n + i) l ∙ clear (n + i) (omega arith) l ∙ sym (get_d-zeros (w - n) i))

  -- the partner finds the same sources, and leaves the destination that there was
  register_back : f.first < 32 → f.second < 32 → Single s f z → new_register s (turned f) (z_after s f z) ≡ register s z f.destination
  unfolding new_register turned
  register_back hf hs q =
      ap₂ ◌++◌
      (undo_vector (recipe_of f.family f 0) (recipe_of f.family (turned f) 0) n (register s z d) (register s z f.first) (register s z f.second) (zeros (w - n))
      (register s (z_after s f z) d) (register s (z_after s f z) f.first) (register s (z_after s f z) f.second)
      (recipe-turned f.family f 0) (widths f g 0).1.0 wraps (new_length_lem f.family w v).0
      (Bytes-vector_at w d z b) (omega (arith, old_long, (new_length_lem f.family w v).1))
      (z_new s v f g z long) (z_same s v f g z long f.first hf q.not_first) (z_same s v f g z long f.second hs q.not_second))
      (sym (clear_part (v_length f w q.into_v) q.clear))
      ∙ take-append-drop n (register s z d)

  z_back : f.first < 32 → f.second < 32 → Single s f z → z_after s (turned f) (z_after s f z) ≡ z
  unfolding z_after turned
  z_back hf hs q =
      renewed_undone (λ r. eqb r d) (λ r. new_register s f z) (λ r. new_register s (turned f) (z_after s f z)) w 32 z long
      (λ r h e. long_register s v f g z long)
      (λ r h e. register_back hf hs q ∙ ap (register s z) (sym (eqb-true r d e)))

-- ---- D and E: into ZA

module _ (s : Settings) (v : VectorLength (array_bytes s)) (f : Fields) (g : Ranges f) (into : IntoZa f) (z za : List ℕ)
    (long : length za ≡ array_bytes s * array_bytes s) (b : Bytes za) (wraps : (i : ℕ) → (recipe_of f.family f i).saturating ≡ false) where
  abbrev w_za : ℕ
  w_za = array_bytes s

  -- vector u, by its row and its place in the row, where a word of these fields finds the given ZA
  abbrev new : Fields → List ℕ → ℕ → List ℕ
  new h a u = new_vector s h z (u / stride s f) (u % stride s f - first_vector s f) (vector_at w_za u a)

  wide : (u : ℕ) → length (new f za u) ≡ w_za
  unfolding new_vector
  wide u = length-new_bytes f g _ w_za _ _ _ (omega (arith, v.whole))

  vector_back : (u : ℕ) → u < array_bytes s → writes_vector s f u ≡ true → new (turned f) (za_after s f z za) u ≡ vector_at w_za u za
  unfolding new_vector turned
  vector_back u h e =
      let i : ℕ = u % stride s f - first_vector s f in
      let old_long : length (vector_at w_za u za) ≡ w_za = length-vector_at w_za u za (room u w_za w_za za long h) in
      let now : vector_at w_za u (za_after s f z za) ≡ new f za u = each-za s v f g into z za long u h ∙ rw e in
      undo_whole (recipe_of f.family f i) (recipe_of f.family (turned f) i) w_za (vector_at w_za u za)
      (register s z (f.first + u / stride s f)) (register s z (f.second + u / stride s f)) (vector_at w_za u (za_after s f z za))
      (recipe-turned f.family f i) (widths f g i).1.0 (wraps i) (omega (arith, v.whole)) (Bytes-vector_at w_za u za b) old_long now

  za_back : za_after s (turned f) z (za_after s f z za) ≡ za
  unfolding za_after turned writes_vector stride selected first_vector
  za_back = renewed_undone (writes_vector s f) (new f za) (new (turned f) (za_after s f z za)) w_za w_za za long (λ u h e. wide u) vector_back

-- ---- the step

-- the outcome `o` is undone: back to z and za. What rose falls, and what fell rises
abbrev pub undone_from : Outcome → List ℕ → List ℕ → Outcome
undone_from o z za = record { number = 0; rises = o.falls; falls = o.rises; written = o.written; z = z; za = za }

-- a step and the step back change the same bits, each the other way
same_counts : (s : Settings) (f : Fields) (z za z' za' : List ℕ) → stepped_to s f z' za' z za ≡ undone_from (stepped_to s f z za z' za') z za
same_counts s f z za z' za' =
    ap₂ (λ (r d : ℕ). record { number = 0; rises = r; falls = d; written = written s f; z = z; za = za })
    (ap₂ ◌+◌ (rises_turned z' z) (rises_turned za' za))
    (sym (ap₂ ◌+◌ (rises_turned z z') (rises_turned za za')))

module _ (s : Settings) (w : ℕ) (f : Fields) (z za : List ℕ) (a : Accepted s w f z za) (bz : Bytes z) (bza : Bytes za) (c : is_c f.family ≡ false) where
  wraps : (i : ℕ) → (recipe_of f.family f i).saturating ≡ false
  wraps i = saturates_c f.family f i ∙ c

  g : Ranges f
  g = accepted_ranges s w z za f a

  -- whatever the outcome is that the step comes to
  abbrev Back : Outcome → Type 0
  Back o = stepped s (turned f) o.z o.za ≡ undone_from o z za

  into_z : IntoZ f → SourcesApart f.family f → ClearIfV f.family s f z → Back (stepped_z s f z za)
  unfolding turned
  into_z i p h =
      let q : Single s f z = single s f z i g c p h in
      let same : z_after s (turned f) (z_after s f z) ≡ z =
      z_back s (vector_length s a.valid) f g z a.z_exact bz (wraps 0)
      (omega (arith, g.first, q.one)) (omega (arith, g.second, q.one)) q in
      stepped_z_lem s (turned f) (z_after s f z) za i
      ∙ ap (λ (x : List ℕ). stepped_to s f (z_after s f z) za x za) same
      ∙ same_counts s f z za (z_after s f z) za

  into_za_lem : IntoZa f → Back (stepped_za s f z za)
  unfolding turned
  into_za_lem i =
      let same : za_after s (turned f) z (za_after s f z za) ≡ za =
      za_back s (array_length s a.valid) f g i z za a.za_exact bza wraps in
      stepped-za s (turned f) z (za_after s f z za) i
      ∙ ap (λ (x : List ℕ). stepped_to s f z (za_after s f z za) z x) same
      ∙ same_counts s f z za z (za_after s f z za)

  pub step_back : SourcesApart f.family f → ClearIfV f.family s f z
      → stepped s (turned f) (stepped s f z za).z (stepped s f z za).za ≡ undone_from (stepped s f z za) z za
  step_back p h =
      ⊎_elim
      (λ i. subst Back (sym (stepped_z_lem s f z za i)) (into_z i p h))
      (λ i. subst Back (sym (stepped-za s f z za i)) (into_za_lem i))
      (which_file f)
