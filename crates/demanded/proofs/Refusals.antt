-- The statements of specs/Refusals.antt, proved. Assumes nothing.
use Prim.Native.Nat.{ℕ, ◌+◌, ◌*◌, ◌≤◌}
use mathlib.Core.Path.{◌≡◌, refl, ap, ◌∙◌}
use mathlib.Core.Bool.{true, false}
use mathlib.Core.List.{List}
use lib.ListN.{length, take, drop}
use borrow.Author.Tests.{lt-leb, le-leb, eq-eqb, ne_eqb}
use Rattle.laws.proofs.Tests.{failed}
use Rattle.settings.specs.declared.Refusal.TheVariants.{BadSettings, BadLength, ListEnds, TooManyWords, ExtraBytes}
use Rattle.settings.specs.declared.Settings.{Settings}
use Rattle.settings.proofs.Refusals.{not_0}
use Rattle.words.specs.Says.{Described, As, Nothing, describe}
use Rattle.words.specs.Decode.{enables, enabled_only, no_fields, decode_enabled, decode_paper}
use Rattle.words.specs.Partner.{partner_paper}
use Rattle.words.specs.declared.Fields.{Fields}
use Rattle.words.proofs.Table.{described_exactly}
use Rattle.words.proofs.Answers.{decodes_when, partner_not_valid}
use Rattle.encoding.specs.Encode.{Encodes, bad_settings, no_word, not_enabled}
use Rattle.encoding.proofs.Theorems.{encodes_unique}
use Rattle.machine.specs.Execute.{Outcome}
use Rattle.numbers.specs.Numbers.{Read, number}
use Rattle.runlist.specs.Plan.{lengths_of, Found, found, refused, Asked, most_words, z_length, settings_of, asking, after_count, words_from, z_from, settled_from, plan_of}
use Rattle.runlist.specs.declared.Lengths.{Lengths}
use Rattle.runlist.specs.RunList.{Ended, carried_out, run_paper}
use Rattle.spelling.specs.Spell.{spell}
use Rattle.spelling.specs.Print.{print_paper}
use Rattle.spelling.specs.Language.{Reads, bad_settings as unset, not_text, not_enabled as disabled}
use Rattle.spelling.proofs.Theorems.{reads_unique}
use Rattle.spelling.proofs.Printing as printing
use Rattle.demands.proofs.Execution as execution
use Rattle.demands.proofs.Lists as lists
use Rattle.demanded.specs.Refusals.{DecodeInOrder, EncodeInOrder, PartnerInOrder, PrintInOrder, ReadInOrder, LengthsRight, CountKnown, ListInOrder, ExecuteLeaves, RunLeaves, PrintLeaves}

-- ---- decode

-- what is not enabled is refused with 3
not_enabled_3 : (features : ℕ) (d : Described) → ((f : Fields) → d ≡ As f → enables features f ≡ true → ⊥) → enabled_only features d ≡ (3, no_fields)
not_enabled_3 features (As f) h = rw (failed (enables features f) (h f refl))
not_enabled_3 features Nothing h = refl

pub decode_in_order : (s : Settings) (w : ℕ) → DecodeInOrder s w
unfolding decode_paper decode_enabled
decode_in_order s w =
    record {
      by_settings = λ v. rw v;
      by_word = λ v none. rw v (not_enabled_3 s.features.0 (describe w) (λ f e. none f ((described_exactly w f).0 e)));
    }

-- ---- encode

pub encode_in_order : (s : Settings) (f : Fields) (a : ℕ × ℕ) → Encodes s f a → EncodeInOrder s f a
encode_in_order s f a e =
    record {
      by_settings = λ v. encodes_unique s f a (1, 0) e (bad_settings v);
      by_fields = λ v n. encodes_unique s f a (5, 0) e (no_word v n);
      by_feature = λ v w h n. encodes_unique s f a (3, 0) e (not_enabled v w h n);
    }

-- ---- partner

pub partner_in_order : (s : Settings) (w : ℕ) → PartnerInOrder s w
unfolding partner_paper
partner_in_order s w =
    record {
      by_settings = partner_not_valid s w;
      by_word = λ v none. rw ((decode_in_order s w).by_word v (λ f t e. none f ((decodes_when s w f v).1 (t, e))));
      by_family = λ f e c. rw (e, c);
    }

-- ---- print and read

pub print_in_order : (s : Settings) (w : ℕ) (room : List ℕ) → PrintInOrder s w room
unfolding print_paper
print_in_order s w room =
    record {
      by_settings = λ v. rw ((decode_in_order s w).by_settings v);
      by_word = λ v none. rw ((decode_in_order s w).by_word v (λ f t e. none f ((decodes_when s w f v).1 (t, e))));
      by_room = λ f e h. rw (e, lt-leb (length (spell false f)) (length room) h);
    }

pub read_in_order : (s : Settings) (t : List ℕ) (a : ℕ × ℕ) → Reads s t a → ReadInOrder s t a
read_in_order s t a e =
    record {
      by_settings = λ v. reads_unique s t a (1, 0) e (unset v);
      by_text = λ v none. reads_unique s t a (11, 0) e (not_text v none);
      by_feature = λ v w p n. reads_unique s t a (3, 0) e (disabled v w p n);
    }

-- ---- lists

module _ (list z za report : List ℕ) where
  abbrev lent : Lengths
  lent = lengths_of z za report

  -- where a list leads by what it asks for
  leads : (x : Found Asked) → plan_of list lent ≡ x → run_paper list z za report ≡ carried_out x z za report
  unfolding run_paper
  leads x e = ap (λ (x : Found Asked). carried_out x z za report) e

  module _ (head : List ℕ) (at : ℕ) where
    abbrev settings : Settings
    settings = settings_of head

    abbrev behind : ℕ
    behind = at + z_length settings

    -- the Z bytes come after the settings and the lengths
    at_z : LengthsRight list z za head at → plan_of list lent ≡ z_from list lent settings at
    unfolding plan_of settled_from
    at_z t = rw (t.front, t.valid, t.exact)

    z_there : behind ≤ length list → z_from list lent settings at ≡ asking settings (take (z_length settings) (drop at list)) (words_from list lent behind)
    unfolding z_from
    z_there h = rw (le-leb behind (length list) h)

    -- and the words after the count
    at_words : (n from : ℕ) → CountKnown list z za head at n from
        → plan_of list lent ≡ asking settings (take (z_length settings) (drop at list)) (after_count list lent behind (number n from))
    unfolding words_from
    at_words n from c =
        at_z c.lengths ∙ z_there c.z_there ∙ ap (λ (x : Read). asking settings (take (z_length settings) (drop at list)) (after_count list lent behind x)) c.count

  pub list_in_order : ListInOrder list z za report
  unfolding plan_of settled_from z_from words_from
  list_in_order =
      record {
        in_front = λ vs r p e. leads (refused r p) (rw e);
        by_settings = λ head at e v. leads (refused BadSettings 0) (rw (e, v));
        by_lengths = λ head at e v l. leads (refused BadLength 0) (rw (e, v, l));
        in_z = λ head at t h. leads (refused ListEnds at) (at_z head at t ∙ rw (lt-leb (behind head at) (length list) h));
        in_count = λ head at t h r p e. leads (refused r p) (at_z head at t ∙ z_there head at h ∙ rw e);
        by_count = λ head at n from c h. leads (refused TooManyWords (behind head at)) (at_words head at n from c ∙ rw (lt-leb n most_words h));
        by_report = λ head at n from c h k. leads (refused BadLength 0) (at_words head at n from c ∙ rw (le-leb n most_words h, lt-leb (4 * n) (length report) k));
        in_words = λ head at n from c h k vs r p e. leads (refused r p) (at_words head at n from c ∙ rw (le-leb n most_words h, le-leb (4 * n) (length report) k, e));
        by_end = λ head at n from c h k ws p e u. leads (refused ExtraBytes p) (at_words head at n from c ∙ rw (le-leb n most_words h, le-leb (4 * n) (length report) k, e, ne_eqb p (length list) u));
        accepted =
            λ head at n from c h k ws e. ap (λ (o : Ended). o.number)
            (leads (found (record { settings = settings head at; z = take (z_length (settings head at)) (drop at list); words = ws }))
            (at_words head at n from c ∙ rw (le-leb n most_words h, le-leb (4 * n) (length report) k, e, eq-eqb (length list) (length list) refl)));
      }

-- ---- what a refused call leaves

pub execute_leaves : ExecuteLeaves
execute_leaves s w z za r z' za' e =
    let k = execution.refused_keeps s w z za (λ n. not_0 r (ap (λ (o : Outcome). o.number) e ∙ n)) in
    (ap (λ (o : Outcome). o.z) e ∙ k.0, ap (λ (o : Outcome). o.za) e ∙ k.1)

pub run_leaves : RunLeaves
run_leaves list z za report f z' za' report' e =
    let k = lists.refused_keeps list z za report (λ n. not_0 f.refusal (ap (λ (o : Ended). o.number) e ∙ n)) in
    (ap (λ (o : Ended). o.z) e ∙ k.0, ap (λ (o : Ended). o.za) e ∙ k.1, ap (λ (o : Ended). o.report) e ∙ k.2)

pub print_leaves : PrintLeaves
print_leaves s w room r room' e =
    ap (λ (x : (ℕ × ℕ) × List ℕ). x.1) e ∙ printing.print_leaves s w room (λ n. not_0 r (ap (λ (x : (ℕ × ℕ) × List ℕ). x.0.0) e ∙ n))
