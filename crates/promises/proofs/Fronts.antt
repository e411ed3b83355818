-- What a call that is not refused writes from the front of its buffers, and that later places stay: of copying, uniting, reading, writing and the texts.
-- Assumes nothing.
use Prim.Native.Nat.{ℕ, ◌*◌, ◌/◌, ◌≤◌}
use mathlib.Core.Path.{◌≡◌, refl, sym, ap, ◌∙◌}
use mathlib.Core.Logic.{◌↔◌}
use mathlib.Core.Bool.{◌||◌, false}
use mathlib.Core.List.{List, ◌++◌}
use native.Mathlib.Nat.{zero-add}
use native.Mathlib.Omega.{arith}
use borrow.Author.Tests.{ltb-false, le-ltb}
use lib.Dec.{ltb}
use lib.ListN.{length, drop}
use lib.Seq.{take_at, drop_at}
use Rattle.laws.proofs.Truth.{neither}
use Rattle.kinds.specs.Answers.{Answer.given, ◌and_then◌, is_refused}
use Rattle.kinds.proofs.Answers.{then_given, passed}
use Rattle.limits.specs.Limits.{length_judged, room_judged}
use Rattle.kept.specs.Kept.{kept_lines, kept_of, copy_answer, after}
use Rattle.kept.specs.Answers.{CopyAllows}
use Rattle.unite.specs.Union.{united}
use Rattle.unite.specs.Answers.{UniteAllows}
use Rattle.unite.proofs.Judging.{given_unites, unites_given}
use Rattle.unite.proofs.Neighbours.{united_sound}
use Rattle.reading.specs.Parts.{placed}
use Rattle.reading.specs.Reading.{file_read, read_answer, line_numbers, start_numbers, lines_after, starts_after}
use Rattle.reading.specs.Answers.{facts_of, ReadAllows}
use Rattle.reading.specs.Files.{Formed}
use Rattle.reading.specs.declared.Found.{Found}
use Rattle.reading.proofs.Contents.{read_room}
use Rattle.reading.proofs.Files.{read_formed, formed_read}
use Rattle.reading.proofs.Determined.{reading_determined}
use Rattle.request.specs.Judging.{request_judged}
use Rattle.writing.specs.Writing.{file_bytes, file_length, write_answer, bytes_after}
use Rattle.writing.specs.Answers.{WriteAllows}
use Rattle.writing.proofs.ReadWritten.{length_file}
use Rattle.programs.specs.Texts.{TextAllows}
use Rattle.promises.specs.Allowed.{Front}
use Rattle.std.specs.Prelude.{Result, Ok}
use Rattle.kinds.specs.declared.Refusal.{Refusal}
use Rattle.report.specs.declared.TooShort.{TooShort}

-- A buffer that begins with what is new, and goes on as it was.
front_of : (new room : List ℕ) {room' : List ℕ} → room' ≡ new ++ drop (length new) room → Front new room room'
front_of new room e = record { written = rw e (take_at new (drop (length new) room) (length new) refl); later = rw e (drop_at new (drop (length new) room) (length new) refl) }

-- The same, where it is told as a part put in at place 0.
front_placed : (new room : List ℕ) {room' : List ℕ} → room' ≡ placed room 0 new → Front new room room'
unfolding placed
front_placed new room e = front_of new room (e ∙ rw (zero-add (length new)))

pub copied_front : {count : ℕ} {lines ranks room room' : List ℕ} → CopyAllows lines ranks room (Ok count) room'
    → (count ≡ kept_of lines ranks) × Front (kept_lines lines ranks) room room'
unfolding copy_answer after
copied_front {count} {lines} {ranks} {room} call =
    let short = ltb (length ranks) (length lines / 2) || ltb (length room) (2 * kept_of lines ranks) in
    let (_, e₁) = then_given (length_judged 0 lines) (room_judged short and_then given (kept_of lines ranks)) (sym call.answer) in
    let (_, e₂) = then_given (room_judged short) (given (kept_of lines ranks)) e₁ in
    let same : count ≡ kept_of lines ranks = cc in
    (same, front_of (kept_lines lines ranks) room call.new_room)

pub united_front : {n count : ℕ} {first second room room' : List ℕ} → UniteAllows n first second room (Ok count) room'
    → (2 * count ≡ length (united first second)) × Front (united first second) room room'
unfolding after
united_front {n} {count} {first} {second} {room} call =
    let u = given_unites n first second (length room) (sym call.answer) in
    let e : ◌≡◌ (given count) (given (length (united first second) / 2)) = call.answer ∙ unites_given n first second (length room) u in
    let same : count ≡ length (united first second) / 2 = cc in
    (omega (arith, same, (united_sound u.one u.two u.few).within.even), front_of (united first second) room call.new_room)

pub read_just : {bytes lines starts lines' starts' : List ℕ} {said : Result Found Refusal} → ReadAllows bytes lines starts said lines' starts' → (found : Found)
    → (said ≡ Ok found) ↔ ((16384 ≤ length lines) × (16 ≤ length starts) × Formed bytes (facts_of found))
unfolding read_answer room_judged
read_just {bytes} {lines} {starts} {said = said} call found = (
  λ e.
      let short = ltb (length lines) 16384 || ltb (length starts) 16 in
      let f : read_answer bytes lines starts ≡ given (facts_of found) = sym call.answer ∙ rw e in
      let (j, r) = then_given (room_judged short) (file_read bytes) f in
      let (x, y) = neither (ltb (length lines) 16384) (ltb (length starts) 16) (passed short 5 0 0 (ap is_refused j)) in
      (ltb-false (length lines) 16384 x, ltb-false (length starts) 16 y, read_formed bytes (facts_of found) r),
  λ (h : (16384 ≤ length lines) × (16 ≤ length starts) × Formed bytes (facts_of found)).
      reading_determined said (Ok found) (call.answer ∙ (read_room bytes lines starts h.0 h.1 ∙ formed_read bytes (facts_of found) h.2)),
)

pub read_fronts : {bytes lines starts lines' starts' : List ℕ} {found : Found} → ReadAllows bytes lines starts (Ok found) lines' starts'
    → Front (line_numbers bytes found.counts.lines) lines lines' × Front (start_numbers bytes found.counts.lines found.counts.starts) starts starts'
unfolding lines_after starts_after
read_fronts {bytes} {lines} {starts} {found = found} call = (
  front_placed (line_numbers bytes found.counts.lines) lines (rw (← call.answer) at call.new_lines),
  front_placed (start_numbers bytes found.counts.lines found.counts.starts) starts (rw (← call.answer) at call.new_starts),
)

pub file_front : {n k count : ℕ} {lines starts bytes bytes' : List ℕ} → WriteAllows n k lines starts bytes (Ok count) bytes'
    → (count ≡ length (file_bytes n k lines starts)) × Front (file_bytes n k lines starts) bytes bytes'
unfolding write_answer bytes_after
file_front {n} {k} {count} {lines} {starts} {bytes} call =
    let (_, f) = then_given (request_judged n k lines starts (ltb (length bytes) (file_length lines starts))) (given (file_length lines starts)) (sym call.answer) in
    let same : count ≡ file_length lines starts = cc in
    (same ∙ sym (length_file n k lines starts), front_placed (file_bytes n k lines starts) bytes (rw (← call.answer) at call.new_bytes))

pub text_front : {room : ℕ} {output text text' : List ℕ} {said : Result ℕ TooShort} → TextAllows room output text said text' → room ≤ length text
    → (said ≡ Ok (length output)) × Front output text text'
text_front {room} {output} {text} call fits =
    let enough : ltb (length text) room ≡ false = le-ltb (length text) room fits in
    (call.answer ∙ rw enough, front_of output text (call.new_text ∙ rw enough))
