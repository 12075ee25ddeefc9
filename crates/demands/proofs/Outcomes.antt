-- Which words execute accepts, how it refuses the others, and what then holds of every outcome. Assumes nothing.
use Prim.Native.Nat.{ℕ, ◌*◌}
use mathlib.Core.Path.{◌≡◌, refl, sym, ap, ◌∙◌, subst}
use mathlib.Core.Logic.{◌⊎◌, inl, inr, ⊎_elim, ◌≢◌}
use mathlib.Core.Bool.{true, false}
use mathlib.Core.List.{List}
use lib.ListN.{length}
use Rattle.laws.proofs.Tests.{failed, cond-holds}
use Rattle.settings.specs.Valid.{valid_settings, vector_bytes, array_bytes}
use Rattle.settings.specs.declared.Settings.{Settings}
use Rattle.words.specs.Says.{Described, As, Nothing, describe}
use Rattle.words.specs.Decode.{enables, no_fields, enabled_only, decode_enabled, decode_paper}
use Rattle.words.specs.Ranges.{Ranges}
use Rattle.words.specs.declared.Fields.{Fields}
use Rattle.machine.specs.Modes.{permits}
use Rattle.machine.specs.Execute.{Outcome, refused_with, stepped, right_lengths, execute_paper}
use Rattle.machine.specs.Loop.{IntoZa, Ready}
use Rattle.machine.proofs.Stepping.{IntoZ, which_file, stepped_z, stepped_za, stepped_z_lem, stepped-za}
use Rattle.machine.proofs.Executing.{word_ranges, not_valid, not_long, lengths_right, is_ready, not_decoded, not_permitted, is_permitted, each_outcome}
use Rattle.demands.specs.Execution.{Accepted, RefusedInOrder}

-- decoding gives 0 or 3
enabled_number : (features : ℕ) (d : Described) → ((enabled_only features d).0 ≡ 0) ⊎ ((enabled_only features d).0 ≡ 3)
enabled_number features (As f) =
    cond-holds (λ (p : ℕ × Fields). (p.0 ≡ 0) ⊎ (p.0 ≡ 3)) (enables features f) (0, f) (3, no_fields) (λ _. inl refl) (λ _. inr refl)
enabled_number features Nothing = inr refl

decoded_number : (s : Settings) (w : ℕ) → valid_settings s ≡ true → ((decode_paper s w).0 ≡ 0) ⊎ ((decode_paper s w).0 ≡ 3)
unfolding decode_paper decode_enabled
decoded_number s w v = rw v (enabled_number s.features.0 (describe w))

module _ (s : Settings) (w : ℕ) (z za : List ℕ) where
  lengths_wrong : valid_settings s ≡ true → (length z ≢ 32 * vector_bytes s) ⊎ (length za ≢ array_bytes s * array_bytes s) → right_lengths s (length z) (length za) ≡ false
  lengths_wrong v (inl n) = failed (right_lengths s (length z) (length za)) (λ e. n (is_ready s z za v e).z_long)
  lengths_wrong v (inr n) = failed (right_lengths s (length z) (length za)) (λ e. n (is_ready s z za v e).za_long)

  -- ---- the refusals, one test after the other

  refused_1 : valid_settings s ≡ false → execute_paper s w z za ≡ refused_with 1 z za
  refused_1 v = sym (not_valid s z za w v)

  refused_2 : valid_settings s ≡ true → right_lengths s (length z) (length za) ≡ false → execute_paper s w z za ≡ refused_with 2 z za
  refused_2 v l = sym (not_long s z za w v l)

  refused_3 : valid_settings s ≡ true → right_lengths s (length z) (length za) ≡ true → (decode_paper s w).0 ≢ 0 → execute_paper s w z za ≡ refused_with 3 z za
  refused_3 v l h = sym (not_decoded s z za w (is_ready s z za v l) h)

  refused_4 : valid_settings s ≡ true → right_lengths s (length z) (length za) ≡ true → (f : Fields) → decode_paper s w ≡ (0, f)
      → permits s.features.0 s.modes.0 f.family ≡ false → execute_paper s w z za ≡ refused_with 4 z za
  refused_4 v l f d p = sym (not_permitted s z za w f (is_ready s z za v l) d p)

  -- and what is done where none is due
  pub accepted : (f : Fields) → Accepted s w f z za → execute_paper s w z za ≡ stepped s f z za
  accepted f a =
      let ready : Ready s z za = record { valid = a.valid; z_long = a.z_exact; za_long = a.za_exact } in
      sym (is_permitted s z za w f ready a.decodes a.permitted)

  pub in_order : RefusedInOrder s w z za
  in_order =
      record {
        by_settings = refused_1;
        by_lengths = λ v l. refused_2 v (lengths_wrong v l);
        by_word = λ v p q n d h.
            let e : n ≡ 3 = three v n d h in
            (refused_3 v (lengths_right s _ _ p q) (λ o. h (sym d ∙ o)) ∙ ap (λ (m : ℕ). refused_with m z za) (sym e), e);
        by_mode = λ v p q. refused_4 v (lengths_right s _ _ p q);
      }
    where
      three : valid_settings s ≡ true → (n : ℕ) → (decode_paper s w).0 ≡ n → n ≢ 0 → n ≡ 3
      three v n d h = ⊎_elim (λ e. absurd (h (sym d ∙ e))) (λ e. sym d ∙ e) (decoded_number s w v)

  -- ---- a word is refused or accepted

  abbrev pub IsRefused : Type 0
  IsRefused = (n : ℕ) × ((n ≢ 0) × (execute_paper s w z za ≡ refused_with n z za))

  pub refused_or_accepted : IsRefused ⊎ ((f : Fields) × Accepted s w f z za)
  refused_or_accepted =
      each_outcome s z za w (λ o. ((n : ℕ) × ((n ≢ 0) × (o ≡ refused_with n z za))) ⊎ ((f : Fields) × Accepted s w f z za))
      (λ n h. inl (n, (h, refl)))
      (λ f r d p. inr (f, record { valid = r.valid; z_exact = r.z_long; za_exact = r.za_long; decodes = d; permitted = p }))

  -- the fields of an accepted word are in range
  pub accepted_ranges : (f : Fields) → Accepted s w f z za → Ranges f
  accepted_ranges f a = word_ranges s w f a.decodes

-- ---- the outcome of a step, by the file that it writes

module _ (s : Settings) (f : Fields) (z za : List ℕ) where
  -- what holds of a step into Z and of one into ZA holds of every step
  pub by_step : (P : Outcome → Type 0) → (IntoZ f → P (stepped_z s f z za)) → (IntoZa f → P (stepped_za s f z za)) → P (stepped s f z za)
  by_step P a b =
      ⊎_elim (λ i. subst P (sym (stepped_z_lem s f z za i)) (a i)) (λ i. subst P (sym (stepped-za s f z za i)) (b i)) (which_file f)

  pub stepped_number : (stepped s f z za).number ≡ 0
  stepped_number = by_step (λ o. o.number ≡ 0) (λ _. refl) (λ _. refl)
