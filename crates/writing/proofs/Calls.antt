-- THEOREMS. "Reading what was written gives the same network; writing a file's contents, if not refused, gives the same bytes", of the calls' answers
-- and of what they leave in their buffers. Assumes nothing.
use Prim.Native.Nat.{ℕ, ◌+◌, ◌*◌, ◌/◌, ◌<◌, ◌≤◌}
use mathlib.Core.Path.{◌≡◌, sym, ap, ◌∙◌}
use mathlib.Core.List.{List, ◌++◌}
use native.Mathlib.Omega.{arith}
use lib.Dec.{ltb}
use lib.ListN.{length, get_or, take, drop}
use lib.Seq.{take_at}
use Rattle.std.specs.Prelude.{Result, Ok}
use Rattle.kinds.specs.declared.Refusal.{Refusal}
use Rattle.kinds.specs.Answers.{Answer.given, is_refused}
use Rattle.kinds.proofs.Answers.{then_given}
use Rattle.request.specs.Judging.{request_judged}
use Rattle.request.specs.Requests.{Request}
use Rattle.request.proofs.Judging.{request_good}
use Rattle.reading.specs.Parts.{placed}
use Rattle.reading.specs.Answers.{facts_of, ReadAllows}
use Rattle.reading.specs.Files.{network_found}
use Rattle.reading.specs.declared.Found.{Found}
use Rattle.reading.proofs.Contents.{read_room}
use Rattle.reading.proofs.Into.{read_into}
use Rattle.reading.proofs.Determined.{reading_determined}
use Rattle.writing.specs.Writing.{file_bytes, file_length, write_answer, bytes_after}
use Rattle.writing.specs.Answers.{WriteAllows}
use Rattle.writing.proofs.ReadWritten.{length_file, read_written}
use Rattle.writing.proofs.WrittenRead.{written_read}

-- What was written was in order, and it is the network's file.
module _ {n k count : ℕ} {lines starts bytes bytes' : List ℕ} (call : WriteAllows n k lines starts bytes (Ok count) bytes') where
  in_order : Request n k lines starts (ltb (length bytes) (file_length lines starts)) × (file_length lines starts ≡ count)
  unfolding write_answer
  in_order =
      let short = ltb (length bytes) (file_length lines starts) in
      let (j, f) = then_given (request_judged n k lines starts short) (given (file_length lines starts)) (sym call.answer) in
      (request_good n k lines starts short (ap is_refused j), cc)

  written_bytes : take count bytes' ≡ file_bytes n k lines starts
  unfolding bytes_after placed
  written_bytes =
      let file = file_bytes n k lines starts in
      let is : bytes' ≡ file ++ drop (0 + length file) bytes = rw (← call.answer) at call.new_bytes in
      rw is (take_at file (drop (0 + length file) bytes) count (length_file n k lines starts ∙ in_order.1))

pub written_then_read : {n k count : ℕ} {lines starts bytes bytes' room room' starts_room starts_room' : List ℕ} {said : Result Found Refusal}
    → WriteAllows n k lines starts bytes (Ok count) bytes' → ReadAllows (take count bytes') room starts_room said room' starts_room'
    → 16384 ≤ length room → 16 ≤ length starts_room
    → (said ≡ Ok (network_found n k lines starts)) × (take (length lines) room' ≡ lines) × (take (length starts) starts_room' ≡ starts)
written_then_read {n} {k} {count} {lines} {starts} {bytes} {bytes'} {room} {room'} {starts_room} {starts_room'} {said} writes reads fits starts_fit =
    let file = file_bytes n k lines starts in
    let found = network_found n k lines starts in
    let request = (in_order writes).0 in
    let (facts, lines_are, starts_are) = read_written n k lines starts (ltb (length bytes) (file_length lines starts)) request in
    let reads' : ReadAllows file room starts_room said room' starts_room' = rw (written_bytes writes) at reads in
    let says : said ≡ Ok found = reading_determined said (Ok found) (reads'.answer ∙ (read_room file room starts_room fits starts_fit ∙ facts)) in
    let into = read_into (rw says at reads') in
    let even : 2 * (length lines / 2) ≡ length lines = omega (arith, request.sized.within.even) in
    (says, rw even at into.lines_part ∙ lines_are, into.starts_part ∙ starts_are)

pub read_then_written : {count : ℕ} {bytes room lines starts_room starts out out' : List ℕ} {found : Found} → ((i : ℕ) → i < length bytes → get_or bytes i 0 < 256)
    → ReadAllows bytes room starts_room (Ok found) lines starts
    → WriteAllows found.stations found.level.0 (take (2 * found.counts.lines) lines) (take found.counts.starts starts) out (Ok count) out'
    → take count out' ≡ bytes
read_then_written {bytes = bytes} {found = found} small reads writes =
    let into = read_into reads in
    written_bytes writes ∙ rw (into.lines_part, into.starts_part) (written_read bytes small (facts_of found) into.read)
