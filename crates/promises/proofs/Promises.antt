-- THEOREM. All that Tapuhzel promises holds.
-- Assumes nothing.
use mathlib.Core.Path.{refl, sym}
use Rattle.kept.specs.Kept.{after}
use Rattle.reading.specs.Reading.{lines_after, starts_after}
use Rattle.writing.specs.Writing.{bytes_after}
use Rattle.network.proofs.Rows.{list_follows}
use Rattle.network.proofs.Determined.{judge_once}
use Rattle.prune.proofs.Rows.{prune_follows}
use Rattle.prune.proofs.Determined.{prune_once}
use Rattle.plans.proofs.Rows.{check_follows}
use Rattle.forests.proofs.Determined.{check_once}
use Rattle.kept.proofs.Rows.{copy_follows}
use Rattle.kept.proofs.Determined.{copy_once}
use Rattle.unite.proofs.Rows.{union_follows}
use Rattle.unite.proofs.Determined.{unite_once}
use Rattle.joined.proofs.Rows.{joined_follows}
use Rattle.joined.proofs.Determined.{joined_once}
use Rattle.weakness.proofs.Rows.{weak_follows}
use Rattle.weakness.proofs.Determined.{search_once}
use Rattle.weakness.proofs.Spots.{one_weak_spot}
use Rattle.reading.proofs.Rows.{read_follows}
use Rattle.reading.proofs.Determined.{read_once}
use Rattle.writing.proofs.Rows.{write_follows}
use Rattle.writing.proofs.Determined.{write_once}
use Rattle.writing.proofs.Calls.{written_then_read, read_then_written}
use Rattle.programs.proofs.Determined.{text_once}
use Rattle.tapuhzel.proofs.Determined.{call_once}
use Rattle.pieces.proofs.Chains.{piece_lowest}
use Rattle.certificate.proofs.Calls.{checked_copied, calls_given, calls_alike}
use Rattle.certificate.proofs.Counterexample.{seven_not_alike, seven_no_plan}
use Rattle.starred.proofs.Examples.{starred_right}
use Rattle.promises.specs.Promises.{Demand1, Demand2, Demand3, Rules, Once, Pins, Promises}
use Rattle.promises.proofs.Calls.{judged_sound, pruned_by_the_rule, checked_yes, checked_fault, pruned_then_checked, said_joined, said_apart, said_stands, said_weak, text_refused}
use Rattle.promises.proofs.Pins.{lowest_once, triangle_joined}
use Rattle.promises.proofs.CFace.{c_same, c_face}
use Rattle.promises.proofs.Codes.{codes}
use Rattle.promises.proofs.Example.{kept_from_file}
use Rattle.promises.proofs.Fronts.{copied_front, united_front, read_just, read_fronts, file_front, text_front}

demand_1 : Demand1
unfolding after lines_after starts_after bytes_after
demand_1 =
    record {
      judging = λ {n} {lines} call. rw call.answer (list_follows 0 n lines);
      pruning = λ {n} {k} {lines} {starts} call. rw call.answer (prune_follows n k lines starts _ _);
      checking = λ {n} {k} {lines} {ranks} {orders} call. rw call.answer (check_follows n k lines ranks orders);
      copying = λ {lines} {ranks} call. rw call.answer (copy_follows lines ranks _);
      uniting = λ {n} {first} {second} call. rw call.answer (union_follows n first second _);
      asking = λ {n} {lines} {away} {a} {b} call. rw call.answer (joined_follows n lines away a b);
      searching = λ {n} {k} {lines} call. rw call.answer (weak_follows n k lines);
      reading = λ {bytes} {lines} {starts} call. rw call.answer (read_follows bytes lines starts);
      writing = λ {n} {k} {lines} {starts} {bytes} call. rw call.answer (write_follows n k lines starts bytes);
      sound = judged_sound;
      pruning_untouched = λ call. (call.new_ranks, call.new_orders);
      copying_untouched = λ call. call.new_room;
      uniting_untouched = λ call. call.new_room;
      reading_untouched = λ call. (rw (← call.answer) at call.new_lines, rw (← call.answer) at call.new_starts);
      writing_untouched = λ call. rw (← call.answer) at call.new_bytes;
      text_untouched = text_refused;
    }

demand_2 : Demand2
demand_2 =
    record {
      by_the_rule = pruned_by_the_rule;
      yes_exactly = checked_yes;
      fault_exactly = checked_fault;
      ours_among_them = pruned_then_checked;
    }

demand_3 : Demand3
demand_3 =
    record {
      kept_alike = λ {n} {k} {lines} {ranks} {orders} checks copies fits. checked_copied n k lines ranks orders (sym checks.answer) copies fits;
      union_given = calls_given;
      union_alike = λ calls few size starts_in third. calls_alike calls few refl size starts_in third;
    }

rules : Rules
rules =
    record {
      copied = copied_front;
      union_written = united_front;
      joined_exactly = said_joined;
      apart_exactly = said_apart;
      stands_exactly = said_stands;
      weak_exactly = λ call. said_weak call;
      read_exactly = read_just;
      read_written = read_fronts;
      file_written = file_front;
      written_then_read = written_then_read;
      read_then_written = read_then_written;
      keep_written = λ bytes call fits. text_front call fits;
      weak_written = λ bytes call fits. text_front call fits;
      keep_example_lem = kept_from_file;
    }

once : Once
once =
    record {
      judge = λ {n} {lines} r s. judge_once 0 n lines r.answer s.answer;
      prune = prune_once;
      check = λ {n} {k} {lines} {ranks} {orders} r s. check_once n k lines ranks orders r.answer s.answer;
      copy = copy_once;
      unite = unite_once;
      ask = λ {n} {lines} {away} {a} {b} r s. joined_once n lines away a b r.answer s.answer;
      search_for_weak_spot = λ {n} {k} {lines} r s. search_once n k lines r.answer s.answer;
      read = read_once;
      write = write_once;
      write_text = text_once;
      call = call_once;
    }

pins : Pins
pins =
    record {
      one_weak_spot = λ most. one_weak_spot most;
      named = λ {n} {lines} {away} {v} sound stays. piece_lowest n lines away sound.simple.proper v stays;
      one_name = lowest_once;
      triangle_no_forest = triangle_joined;
      seven_not_alike = seven_not_alike;
      seven_no_plan = seven_no_plan;
      judge_contract = λ e. record { answer = e };
      check_contract = λ e. record { answer = e };
      joined_contract = λ e. record { answer = e };
      search_contract = λ e. record { answer = e };
      prune_and_copy = λ {ranks = ranks} {orders} {ranks'} {orders'} {room} prunes copies ranks_fit orders_fit room_fits.
          record { ranks = ranks; orders = orders; ranks' = ranks'; orders' = orders'; room = room; prunes = prunes; copies = copies; ranks_fit = ranks_fit; orders_fit = orders_fit; room_fits = room_fits };
      union_calls = λ {room₁ = room₁} {room₂} {room} first second unites room_fits.
          record { room₁ = room₁; room₂ = room₂; room = room; first = first; second = second; unites = unites; room_fits = room_fits };
    }

pub promises : Promises
promises = record { demand_1 = demand_1; demand_2 = demand_2; demand_3 = demand_3; rules = rules; once = once; pins = pins; c_same = c_same; c_face = c_face; codes = codes; examples = starred_right }
