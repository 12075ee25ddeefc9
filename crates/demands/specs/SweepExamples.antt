-- Demand 3 on numbers: sweeps that close, and for each premise on the words, and that on Z, a word that fails it and whose sweep does not close. So
-- each is needed.
use Rattle.std.specs.Prelude.{ℕ, ◌*◌, ◌/◌, ◌%◌, ◌≡◌, refl, cond, List, [], ◌∷◌, map, ltb}
use Rattle.laws.specs.Lists.{Each}
use Rattle.settings.specs.Valid.{valid_settings, vector_bytes, array_bytes}
use Rattle.settings.specs.declared.Settings.{Settings}
use Rattle.words.specs.Says.{describe}
use Rattle.words.specs.Decode.{enables, decode_enabled, decode_paper}
use Rattle.words.specs.Partner.{partner_word, partner_paper}
use Rattle.elements.specs.Elements.{Bytes, zeros, element_at, element, low_bytes, vector}
use Rattle.elements.specs.Files.{vector_at, laid, renewed}
use Rattle.lanes.specs.Lane.{s_int, int_of, low, product, accumulate, lane_step, clamp, signed_sat, sat_step, step}
use Rattle.bits.specs.Bits.{over_bits, over_bytes}
use Rattle.lanes.specs.Element.{new_element, new_bytes}
use Rattle.machine.specs.Step.{register, new_register, z_after, stride, selected, first_vector, some_below, writes_vector, new_vector, za_after}
use Rattle.machine.specs.Execute.{stepped, execute_paper}
use Rattle.machine.specs.Run.{Report, run_of}
use Rattle.demands.specs.Sweep.{there, undo_paper, back, AcceptedInTurn, NotSaturating, NotItsOwnSource, ClearInTurn, Closes}

-- ---- sweeps

pub record Given : Type 0 where
  pub vl : ℕ
  pub features : ℕ
  pub modes : ℕ
  pub words : List ℕ
  -- every 16 bits of the low 16 bytes of each Z register, and of the bytes above them; ZA is all zeros
  pub each : ℕ
  pub above : ℕ

abbrev pub sweep_settings : Given → Settings
sweep_settings g = record { vl = g.vl; features = record { 0 = g.features }; modes = record { 0 = g.modes }; select = 0 ∷ 0 ∷ 0 ∷ 0 ∷ [] }

-- a register has VL/16 such parts, of which 8 are the V register
abbrev pub start_z : Given → List ℕ
start_z g = vector (λ e. cond (ltb (e % (g.vl / 16)) 8) g.each g.above) 2 (32 * (g.vl / 16))

abbrev pub start_za : Given → List ℕ
start_za g = zeros (g.vl / 8 * (g.vl / 8))

-- ---- what comes of them

pub record Answer : Type 0 where
  -- an element of a register: at the start, after the words, and after the way back
  pub start : ℕ
  pub after : ℕ
  pub returned : ℕ
  -- what the words report, and what the way back reports
  pub forward : List Report
  pub backward : List Report

-- of elements of so many bytes, element e of a register
unfoldable pub sweep_answer : ℕ → ℕ → ℕ → Given → Answer
sweep_answer bytes r e g =
    let s : Settings = sweep_settings g in
    record {
      start = element bytes (register s (start_z g) r) e;
      after = element bytes (register s (there s g.words (start_z g) (start_za g)).z r) e;
      returned = element bytes (register s (back s g.words (start_z g) (start_za g)).z r) e;
      forward = (there s g.words (start_z g) (start_za g)).reports;
      backward = (back s g.words (start_z g) (start_za g)).reports;
    }

-- ---- the sweeps

-- the destination of the first word, 0, is a source of the second, so the way back must begin with the second
abbrev pub closing : Given
closing = record { vl = 128; features = 1; modes = 0; words = 0x0E228020 ∷ 0x0E208023 ∷ []; each = 0x0101; above = 0 }

-- the first word at VL 256, where register 0 is clear from byte 16 on
abbrev pub wide : Given
wide = record { vl = 256; features = 1; modes = 0; words = 0x0E228020 ∷ []; each = 0x0101; above = 0 }

-- the same where register 0 is not clear: the word clears it, and its partner finds nothing to bring back
abbrev pub not_clear : Given
not_clear = record { vl = 256; features = 1; modes = 0; words = 0x0E228020 ∷ []; each = 0x0101; above = 0x0101 }

-- D: nothing is asked of Z
abbrev pub into_za : Given
into_za = record { vl = 256; features = 12; modes = 3; words = 0xC1A20008 ∷ []; each = 0x0101; above = 0x0101 }

-- the destination, 1, is the first source: the partner finds a source that the word has changed
abbrev pub own_first : Given
own_first = record { vl = 128; features = 1; modes = 0; words = 0x0E228021 ∷ []; each = 0x0101; above = 0 }

-- the destination, 2, is the second source
abbrev pub own_second : Given
own_second = record { vl = 128; features = 1; modes = 0; words = 0x0E228022 ∷ []; each = 0x0101; above = 0 }

-- C: −32768 squared and doubled is clamped, and so is the difference
abbrev pub saturates : Given
saturates = record { vl = 128; features = 2; modes = 0; words = 0x44BA3820 ∷ []; each = 0x8000; above = 0 }

-- AdvSIMD is missing
abbrev pub unknown : Given
unknown = record { vl = 128; features = 2; modes = 0; words = 0x0E228020 ∷ []; each = 0x0101; above = 0 }

-- SM is on
abbrev pub wrong_mode : Given
wrong_mode = record { vl = 128; features = 5; modes = 1; words = 0x0E228020 ∷ []; each = 0x0101; above = 0 }

pub record Line : Type 0 where
  pub bytes : ℕ
  pub register : ℕ
  pub place : ℕ
  pub given : Given
  pub answer : Answer

abbrev pub line : ℕ → ℕ → ℕ → Given → ℕ → ℕ → ℕ → List Report → List Report → Line
line bytes register place given start after returned forward backward =
    record {
      bytes = bytes;
      register = register;
      place = place;
      given = given;
      answer = record { start = start; after = after; returned = returned; forward = forward; backward = backward };
    }

abbrev pub sweeps : List Line
sweeps =
    line 2 3 0 closing 0x0101 0x0103 0x0101 ((0, 8, 8, 128) ∷ (0, 8, 4, 128) ∷ []) ((0, 4, 8, 128) ∷ (0, 8, 8, 128) ∷ [])
    ∷ line 2 1 0 own_first 0x0101 0x0102 0x0100 ((0, 8, 8, 128) ∷ []) ((0, 4, 8, 128) ∷ [])
    ∷ line 2 2 0 own_second 0x0101 0x0102 0x0100 ((0, 8, 8, 128) ∷ []) ((0, 4, 8, 128) ∷ [])
    -- `partner` refuses it. By hand it does not come back either: see `flipped`
    ∷ line 4 0 0 saturates 0x80008000 0x80000000 0x80000000 ((0, 0, 4, 128) ∷ []) ((6, 0, 0, 0) ∷ [])
    -- nothing changes, but the partners are not accepted: `partner` refuses the one, and `execute` the partner of the other
    ∷ line 2 0 0 unknown 0x0101 0x0101 0x0101 ((3, 0, 0, 0) ∷ []) ((3, 0, 0, 0) ∷ [])
    ∷ line 2 0 0 wrong_mode 0x0101 0x0101 0x0101 ((4, 0, 0, 0) ∷ []) ((4, 0, 0, 0) ∷ [])
    -- the first 16 bits above the V register: eight times two ones fall there, beside what the elements change, and do not rise again
    ∷ line 2 0 8 not_clear 0x0101 0 0 ((0, 8, 24, 256) ∷ []) ((0, 8, 8, 256) ∷ [])
    ∷ []

-- the definitions answer each line as the table does
pub answers_hold : map (λ (l : Line). sweep_answer l.bytes l.register l.place l.given) sweeps ≡ map (λ (l : Line). l.answer) sweeps
unfolding sweep_answer decode_paper decode_enabled describe enables valid_settings vector_bytes array_bytes
    element_at low_bytes vector vector_at laid renewed s_int int_of low product accumulate lane_step clamp signed_sat sat_step step over_bits over_bytes
    new_element new_bytes new_register z_after stride selected first_vector some_below writes_vector new_vector za_after stepped execute_paper
    run_of undo_paper partner_word partner_paper
answers_hold = refl

-- register 0 after 44BA3820 with S flipped is executed where 44BA3820 led
unfoldable pub flipped : ℕ
flipped =
    element 4 (execute_paper (sweep_settings saturates) (partner_word 0x44BA3820) (there (sweep_settings saturates) saturates.words (start_z saturates) (start_za saturates)).z (start_za saturates)).z 0

-- it was 80008000
pub flipped_is : flipped ≡ 0xFFFFFFFF
unfolding flipped partner_word decode_paper decode_enabled describe enables valid_settings vector_bytes array_bytes
    element_at low_bytes vector vector_at laid renewed s_int int_of low product accumulate lane_step clamp signed_sat sat_step step over_bits over_bytes
    new_element new_bytes new_register z_after stride selected first_vector some_below writes_vector new_vector za_after stepped execute_paper run_of
flipped_is = refl

-- ---- which of them close (proofs/SweepExamples.antt)

abbrev pub ClosesFrom : Given → Type 0
ClosesFrom g = Closes (sweep_settings g) g.words (start_z g) (start_za g)

abbrev pub AllBytes : Given → Type 0
AllBytes g = Bytes (start_z g) × Bytes (start_za g)

abbrev pub AllAccepted : Given → Type 0
AllAccepted g = AcceptedInTurn (execute_paper (sweep_settings g)) g.words (start_z g) (start_za g)

abbrev pub NoneSaturating : Given → Type 0
NoneSaturating g = Each (NotSaturating (sweep_settings g)) g.words

abbrev pub NoneItsOwnSource : Given → Type 0
NoneItsOwnSource g = Each (NotItsOwnSource (sweep_settings g)) g.words

abbrev pub AllClear : Given → Type 0
AllClear g = ClearInTurn (sweep_settings g) g.words (start_z g) (start_za g)

-- every premise is met, and the sweep closes
abbrev pub Met : Given → Type 0
Met g = AllBytes g × AllAccepted g × NoneSaturating g × NoneItsOwnSource g × AllClear g × ClosesFrom g

-- these meet every premise, so the premises can be met together, also at VL 256; and a word of D meets them where Z is not clear
abbrev pub AllMet : Type 0
AllMet = Met closing × Met wide × Met into_za

-- a sweep that does not close, and what it meets
pub record StaysOpen (g : Given) (Meets : Type 0) : Type 0 where
  pub bytes : AllBytes g
  pub meets : Meets
  pub not_closed : ClosesFrom g → ⊥

-- each of the others meets every premise but one
pub record EachNeeded : Type 0 where
  pub not_its_first : StaysOpen own_first (AllAccepted own_first × NoneSaturating own_first × AllClear own_first)
  pub not_its_second : StaysOpen own_second (AllAccepted own_second × NoneSaturating own_second × AllClear own_second)
  pub not_saturating : StaysOpen saturates (AllAccepted saturates × NoneItsOwnSource saturates × AllClear saturates)
  pub not_refused_3 : StaysOpen unknown (NoneSaturating unknown × NoneItsOwnSource unknown × AllClear unknown)
  pub not_refused_4 : StaysOpen wrong_mode (NoneSaturating wrong_mode × NoneItsOwnSource wrong_mode × AllClear wrong_mode)
  pub clear_above : StaysOpen not_clear (AllAccepted not_clear × NoneSaturating not_clear × NoneItsOwnSource not_clear)
