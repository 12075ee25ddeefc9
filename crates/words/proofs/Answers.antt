-- What the promises of decode and partner determine, and what callers take from them. Assumes nothing.
use Prim.Native.Nat.{ℕ}
use native.Mathlib.Omega.{arith}
use mathlib.Core.Path.{◌≡◌, refl, sym, ap, ◌∙◌, subst}
use mathlib.Core.Logic.{◌↔◌, ◌≢◌}
use mathlib.Core.Bool.{true, false}
use borrow.Author.Tests.{ne_eqb}
use Rattle.laws.proofs.Tests.{never_both, by_cond}
use Rattle.std.specs.Prelude.{Result, Ok, Err}
use Rattle.settings.specs.Valid.{valid_settings}
use Rattle.settings.specs.Refused.{refusal_number, word_says}
use Rattle.settings.specs.declared.Refusal.{Refusal}
use Rattle.settings.specs.declared.Refusal.TheVariants.{BadSettings, UnknownWord}
use Rattle.settings.specs.declared.Settings.{Settings}
use Rattle.settings.proofs.Refusals.{not_0, refused_not_0, refused_known, word_known}
use Rattle.words.specs.Says.{Described, As, Nothing, table, describe, SaidBy}
use Rattle.words.specs.Decode.{enables, no_fields, decoded_says, enabled_only, decode_enabled, decode_paper}
use Rattle.words.specs.Kinds.{fields_as, family_as}
use Rattle.words.specs.Partner.{partner_word, turned, is_c, partner_paper}
use Rattle.words.specs.Sign.{partner_in}
use Rattle.words.specs.declared.Family.{Family}
use Rattle.words.specs.declared.Family.TheVariants.{ByElement, Vector, Saturating, LongLong, Long}
use Rattle.words.specs.declared.Fields.{Fields}
use Rattle.words.specs.declared.Kind.{Kind}
use Rattle.words.proofs.Table.{described_exactly}
use Rattle.words.proofs.ByKind.{family_as_lem, decodes_enabled}
use Rattle.words.proofs.Partners.{partner-turned, partner_back, partner_sign}

-- ---- each answer is determined by its promise

decoded_known : (r q : Result Fields Refusal) → decoded_says r ≡ decoded_says q → r ≡ q
decoded_known (Ok f) (Ok g) e = ap Ok (ap (λ (p : ℕ × Fields). p.1) e)
decoded_known (Ok f) (Err q) e = absurd (refused_not_0 q no_fields f (sym e))
decoded_known (Err r) (Ok g) e = absurd (refused_not_0 r no_fields g e)
decoded_known (Err r) (Err q) e = ap Err (refused_known r q no_fields no_fields e)

-- any two answers that decode's promise allows are equal
pub decode_unique : (s : Settings) (w : ℕ) (r q : Result Fields Refusal) → decoded_says r ≡ decode_paper s w → decoded_says q ≡ decode_paper s w → r ≡ q
decode_unique s w r q e g = decoded_known r q (e ∙ sym g)

-- any two answers that partner's promise allows are equal
pub partner_unique : (s : Settings) (w : ℕ) (r q : Result ℕ Refusal) → word_says r ≡ partner_paper s w → word_says q ≡ partner_paper s w → r ≡ q
partner_unique s w r q e g = word_known r q (e ∙ sym g)

-- ---- an accepted word

-- decode accepts w with the fields f: the settings are valid, w is described so, and the features enable it
pub record Accepted (s : Settings) (w : ℕ) (f : Fields) : Type 0 where
  pub valid : valid_settings s ≡ true
  pub says : describe w ≡ As f
  pub enabled : enables s.features.0 f ≡ true

-- an accepted word says the fields, and the features enable it
enabled_says : (features : ℕ) (d : Described) (f : Fields) → enabled_only features d ≡ (0, f) → (d ≡ As f) × (enables features f ≡ true)
enabled_says features (As g) f =
    by_cond (enables features g) (0, g) (3, no_fields) (0, f)
    (λ t e. let h : g ≡ f = ap (λ (p : ℕ × Fields). p.1) e in (ap As h, subst (λ (x : Fields). enables features x ≡ true) h t))
    (λ _ e. let z : ◌≡◌ {A = ℕ} 3 0 = ap (λ (p : ℕ × Fields). p.0) e in absurd (omega arith))
enabled_says features Nothing f = λ e. let z : ◌≡◌ {A = ℕ} 3 0 = ap (λ (p : ℕ × Fields). p.0) e in absurd (omega arith)

decode_accepted : (s : Settings) (w : ℕ) (f : Fields) → decode_paper s w ≡ (0, f) → Accepted s w f
unfolding decode_paper decode_enabled
decode_accepted s w f =
    by_cond (valid_settings s) (enabled_only s.features.0 (describe w)) (1, no_fields) (0, f)
    (λ v e. let a = enabled_says s.features.0 (describe w) f e in record { valid = v; says = a.0; enabled = a.1 })
    (λ _ e. let z : ◌≡◌ {A = ℕ} 1 0 = ap (λ (p : ℕ × Fields). p.0) e in absurd (omega arith))

accepted_decode : (s : Settings) (w : ℕ) (f : Fields) → Accepted s w f → decode_paper s w ≡ (0, f)
unfolding decode_paper decode_enabled
accepted_decode s w f a = rw (a.valid, a.says, a.enabled)

-- under valid settings a word decodes exactly when it is described and the features enable it
pub decodes_exactly : (s : Settings) (w : ℕ) (f : Fields) → (decode_paper s w ≡ (0, f)) ↔ Accepted s w f
decodes_exactly s w f = (decode_accepted s w f, accepted_decode s w f)

-- demand 2: under valid settings a word decodes exactly when a row matches, its size is not reserved and the features enable it
pub decodes_when : (s : Settings) (w : ℕ) (f : Fields) → valid_settings s ≡ true → (decode_paper s w ≡ (0, f)) ↔ (SaidBy table w f × (enables s.features.0 f ≡ true))
decodes_when s w f v = (
  λ e. let a = decode_accepted s w f e in ((described_exactly w f).0 a.says, a.enabled),
  λ a. accepted_decode s w f (record { valid = v; says = (described_exactly w f).1 a.0; enabled = a.1 }),
)

-- ---- its partner

-- the partner of an accepted word
partner_is : (s : Settings) (w : ℕ) (f : Fields) → decode_paper s w ≡ (0, f) → partner_paper s w ≡ partner_in f.family w
unfolding partner_paper
partner_is s w f e =
    let a = decode_accepted s w f e in
    rw (e, partner_sign w f a.says)

-- and of a word that decode refuses
partner_refused : (s : Settings) (w : ℕ) (r : Refusal) → decode_paper s w ≡ (refusal_number r, no_fields) → partner_paper s w ≡ (refusal_number r, 0)
unfolding partner_paper
partner_refused s w r e = rw (e, ne_eqb (refusal_number r) 0 (not_0 r))

-- what the code of partner answers: 1, or by the word's kind 3 or what the kind's family says
pub partner_not_valid : (s : Settings) (w : ℕ) → valid_settings s ≡ false → partner_paper s w ≡ (1, 0)
unfolding decode_paper
partner_not_valid s w v = partner_refused s w BadSettings (rw v)

module _ (s : Settings) (w : ℕ) (v : valid_settings s ≡ true) where
  pub partner_not_enabled : decode_enabled s.features.0 w ≡ (3, no_fields) → partner_paper s w ≡ (3, 0)
  partner_not_enabled e = partner_refused s w UnknownWord (decodes_enabled s w v ∙ e)

  pub partner_by_kind : (k : Kind) → decode_enabled s.features.0 w ≡ (0, fields_as k w) → partner_paper s w ≡ partner_in (family_as k) w
  partner_by_kind k e =
      partner_is s w (fields_as k w) (decodes_enabled s w v ∙ e) ∙ ap (λ (family : Family). partner_in family w) (family_as_lem k w)

-- the test for C passes for C alone
pub not_c : (family : Family) → (family ≢ Saturating) ↔ (is_c family ≡ false)
not_c family = (by family, λ n e. never_both (is_c family) (ap is_c e) n)
  where
    by : (family : Family) → family ≢ Saturating → is_c family ≡ false
    by ByElement h = refl
    by Vector h = refl
    by Saturating h = absurd (h refl)
    by LongLong h = refl
    by Long h = refl

-- flipping `subtract` asks for no other feature
enables-turned : (features : ℕ) (f : Fields) → enables features (turned f) ≡ enables features f
unfolding enables turned
enables-turned features f = refl

-- where partner answers v, v is accepted: it says the same but for `subtract`, and its partner is w
pub record PartnerOf (s : Settings) (w v : ℕ) (f : Fields) : Type 0 where
  pub decodes : decode_paper s v ≡ (0, turned f)
  pub back : partner_paper s v ≡ (0, w)

pub partner_accepted : (s : Settings) (w : ℕ) (f : Fields) → decode_paper s w ≡ (0, f) → is_c f.family ≡ false
    → (partner_paper s w ≡ (0, partner_word w)) × PartnerOf s w (partner_word w) f
unfolding partner_paper turned
partner_accepted s w f e c =
    let a = decode_accepted s w f e in
    let d : decode_paper s (partner_word w) ≡ (0, turned f) = accepted_decode s (partner_word w) (turned f) (record { valid = a.valid; says = partner-turned w f a.says; enabled = enables-turned s.features.0 f ∙ a.enabled }) in
    (rw (e, c), record { decodes = d; back = rw (d, c, partner_back w f a.says) })
