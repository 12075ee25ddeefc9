-- The three records of specs/Demands.antt, proved. Assumes nothing.
use mathlib.Core.Path.{◌≡◌, refl}
use Rattle.words.proofs.Answers.{decodes_when}
use Rattle.encoding.proofs.Theorems as encoding
use Rattle.demands.proofs.Execution as execution
use Rattle.demands.proofs.Sweep as sweep
use Rattle.demands.proofs.SweepExamples as examples
use Rattle.demands.proofs.Calls.{callers_see}
use Rattle.demands.proofs.Permitted.{enabled_and_permitted}
use Rattle.demands.proofs.Lists as lists
use Rattle.demands.proofs.Written as written
use Rattle.demands.proofs.Reports.{reports_are}
use Rattle.callinglamp.proofs.Unique as unique
use Rattle.packing.proofs.Theorems as packing
use Rattle.host.proofs.Unique as c
use Rattle.host.proofs.Theorems as host
use Rattle.demanded.specs.Demands.{Demand1, Demand2, Demand3}
use Rattle.demanded.proofs.Refusals as refusals

-- tuples whose parts are the same are the same
two_same : {A B : Type 0} (x y : A × B) → (x.0 ≡ y.0) × (x.1 ≡ y.1) → x ≡ y
two_same {A} {B} x y e = let same : ◌≡◌ {A = A × B} (x.0, x.1) (y.0, y.1) = cc in same

three_same : {A B C : Type 0} (x y : A × B × C) → (x.0 ≡ y.0) × (x.1 ≡ y.1) × (x.2 ≡ y.2) → x ≡ y
three_same {A} {B} {C} x y e = let same : ◌≡◌ {A = A × B × C} (x.0, x.1, x.2) (y.0, y.1, y.2) = cc in same

four_same : {A B C D : Type 0} (x y : A × B × C × D) → (x.0 ≡ y.0) × (x.1 ≡ y.1) × (x.2 ≡ y.2) × (x.3 ≡ y.3) → x ≡ y
four_same {A} {B} {C} {D} x y e = let same : ◌≡◌ {A = A × B × C × D} (x.0, x.1, x.2, x.3) (y.0, y.1, y.2, y.3) = cc in same

five_same : {A B C D E : Type 0} (x y : A × B × C × D × E) → (x.0 ≡ y.0) × (x.1 ≡ y.1) × (x.2 ≡ y.2) × (x.3 ≡ y.3) × (x.4 ≡ y.4) → x ≡ y
five_same {A} {B} {C} {D} {E} x y e =
    let same : ◌≡◌ {A = A × B × C × D × E} (x.0, x.1, x.2, x.3, x.4) (y.0, y.1, y.2, y.3, y.4) = cc in same

pub demand_1 : Demand1
demand_1 =
    record {
      decode_determined = unique.decode_unique;
      encode_determined = unique.encode_unique;
      partner_determined = unique.partner_unique;
      execute_determined = λ s w z za x y p q. three_same x y (unique.execute_unique s w z za x.0 y.0 x.1 x.2 y.1 y.2 p q);
      percent_determined = unique.percent_unique;
      run_determined = λ list z za report x y p q.
          four_same x y (unique.run_unique list z za report x.0 y.0 x.1 x.2 x.3 y.1 y.2 y.3 p q);
      print_determined = λ s w room x y p q. two_same x y (unique.print_unique s w room x.0 y.0 x.1 y.1 p q);
      read_determined = unique.read_unique;
      c_decode_determined = λ settings w fields x y p q. two_same x y (c.decode_unique settings w fields x.0 y.0 x.1 y.1 p q);
      c_encode_determined = c.encode_unique;
      c_partner_determined = c.partner_unique;
      c_execute_determined = λ settings w z za counts x y p q.
          four_same x y (c.execute_unique settings w z za counts x.0 y.0 x.1 x.2 x.3 y.1 y.2 y.3 p q);
      c_percent_determined = c.percent_unique;
      c_run_determined = λ list z za report totals x y p q.
          five_same x y (c.run_unique list z za report totals x.0 y.0 x.1 x.2 x.3 x.4 y.1 y.2 y.3 y.4 p q);
      c_print_determined = λ settings w room x y p q. two_same x y (c.print_unique settings w room x.0 y.0 x.1 y.1 p q);
      c_read_determined = c.read_unique;
      refusal_numbers = refl;
      decode_in_order = refusals.decode_in_order;
      encode_in_order = refusals.encode_in_order;
      partner_in_order = refusals.partner_in_order;
      execute_in_order = execution.refused_in_order;
      print_in_order = refusals.print_in_order;
      read_in_order = refusals.read_in_order;
      list_in_order = refusals.list_in_order;
      list_refusals = lists.refused_with_lem;
      list_place = lists.place_inside;
      list_understood = written.written_is_read;
      list_only = written.one_list;
      refused_keeps = execution.refused_keeps;
      execute_leaves = refusals.execute_leaves;
      run_leaves = refusals.run_leaves;
      print_leaves = refusals.print_leaves;
      c_decode_keeps = host.decode_keeps;
      c_execute_keeps = host.execute_keeps;
      c_run_keeps = host.run_keeps;
      c_print_keeps = host.print_keeps;
    }

pub demand_2 : Demand2
demand_2 =
    record {
      decodes_exactly = decodes_when;
      features_and_modes = enabled_and_permitted;
      encode_after_decode = encoding.encode_after_decode;
      decode_after_encode = encoding.decode_after_encode;
      c_fields_back = packing.fields_back;
      c_numbers_back = packing.numbers_back;
      accepted_exactly = execution.accepted_exactly;
      in_a = execution.by_element_step;
      in_b = execution.vector_step;
      in_c = execution.saturating_step;
      in_d = execution.long_long_step;
      in_e = execution.long_step;
      first_vector_is = execution.first_vector_is;
      vectors_exact = execution.writes_exactly;
      vectors_distinct = execution.vectors_distinct;
      v_cleared = execution.cleared_above;
      z_stays = execution.z_stays;
      za_stays = execution.za_stays;
      lengths_stay = execution.lengths_kept;
      bytes_stay = execution.bytes_kept;
      toggled_exact = execution.toggled_whole;
      written_exact = execution.written_is;
      length_is_vl = execution.length_is_vl;
      toggled_at_most_written = execution.toggled_le_written;
      written_at_most = execution.few_written;
      list_runs = reports_are;
    }

pub demand_3 : Demand3
demand_3 =
    record {
      sweep_closes = sweep.sweep_closes;
      partner_accepts = sweep.undo_accepts;
      partners_accepted = sweep.partners_accepted;
      callers_see = callers_see;
      premises_met = examples.all_met;
      premises_needed = examples.each_needed;
    }
