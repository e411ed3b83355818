-- Reading answers with facts just when the bytes are a file with those facts.
-- The idea: from the record after m LN and s RT on, by what is left to read. Assumes nothing.
use Prim.Native.Nat.{ℕ, zero, suc, ◌+◌, ◌-◌, ◌<◌, ◌≤◌}
use mathlib.Core.Path.{◌≡◌, refl, sym, ap, ◌∙◌, subst, subst₂}
use mathlib.Core.Bool.{not, true≢false}
use mathlib.Core.List.{List}
use native.Mathlib.Omega.{arith}
use native.Mathlib.Decide.{dec_lt}
use borrow.Author.Count.{below_more}
use borrow.Author.Tests.{ltb-false, eqb-true, not-false, le-ltb, eq-eqb}
use lib.ListN.{length}
use lib.Dec.{ltb, eqb}
use Rattle.kinds.specs.Answers.{Answer, Answer.given, Answer.refused, refuse_if, is_refused, ◌and_then◌}
use Rattle.kinds.proofs.Answers.{then_given, passed}
use Rattle.reading.specs.Numbers.{number_at, mark_nw, mark_ln, mark_rt, mark_en}
use Rattle.reading.specs.Reading.{Facts, offset_after, length_here, record_judged, record_after, end_read, by_mark, records_read, file_read}
use Rattle.reading.specs.Files.{Formed}
use Rattle.reading.specs.declared.Order.TheVariants.{First}
use Rattle.reading.proofs.Records.{whole_record, first_whole, Kind, Kind.line, Kind.start, Kind.end, Next, next_given, line_next, start_next, end_next, read_line, read_start, read_end}

module _ (bytes : List ℕ) where
  -- NW, m LN and s RT records were seen, each in its place.
  record Seen (m s : ℕ) : Type 0 where
    first : number_at bytes 0 ≡ mark_nw
    few_lines : m ≤ 8192
    few_starts : s ≤ 16
    line_marks : (p : ℕ) → p < m → number_at bytes (offset_after p 0) ≡ mark_ln
    start_marks : (q : ℕ) → q < s → number_at bytes (offset_after m q) ≡ mark_rt

  seen_line : (m s mark : ℕ) → Seen m s → Next bytes m s mark → s ≡ 0 → mark ≡ mark_ln → Seen (m + 1) s
  seen_line m s mark seen next z e =
      let few = next.few_lines e in
      record {
        first = seen.first;
        few_lines = omega (arith, seen.few_lines);
        few_starts = seen.few_starts;
        line_marks = below_more (λ (p : ℕ). number_at bytes (offset_after p 0) ≡ mark_ln) m seen.line_marks
            (subst (λ (x : ℕ). number_at bytes (offset_after m x) ≡ mark_ln) z (next.is ∙ e));
        start_marks = λ q l. absurd (omega arith);
      }

  seen_start : (m s mark : ℕ) → Seen m s → Next bytes m s mark → mark ≡ mark_rt → Seen m (s + 1)
  seen_start m s mark seen next e =
      let few = next.few_starts e in
      record {
        first = seen.first;
        few_lines = seen.few_lines;
        few_starts = omega (arith, seen.few_starts);
        line_marks = seen.line_marks;
        start_marks = below_more (λ (q : ℕ). number_at bytes (offset_after m q) ≡ mark_rt) s seen.start_marks (next.is ∙ e);
      }

  end_formed : (facts : Facts) (m s mark : ℕ) → Seen m s → Next bytes m s mark → mark ≡ mark_en → offset_after m s + 4 ≤ length bytes
      → end_read bytes m s ≡ given facts → Formed bytes facts
  unfolding end_read
  end_formed facts m s mark seen next e h a =
      let found : Facts = record { stations = number_at bytes 2; level = number_at bytes 4; lines = m; starts = s } in
      let count = eqb (number_at bytes (offset_after m s + 2)) m in
      let more = ltb (offset_after m s + 4) (length bytes) in
      let answer : Answer Facts = given found in
      let (b, a₁) = then_given (refuse_if (not count) 22 (offset_after m s) 3) (refuse_if more 23 (offset_after m s + 4) 3 and_then answer) a in
      let (d, a₂) = then_given (refuse_if more 23 (offset_after m s + 4) 3) answer a₁ in
      let same : found ≡ facts = cc in
      let last = ltb-false (offset_after m s + 4) (length bytes) (passed more 23 (offset_after m s + 4) 3 (ap is_refused d)) in
      subst (λ (f : Facts). Formed bytes f) same
      (record {
        size = omega arith;
        few_lines = seen.few_lines;
        few_starts = seen.few_starts;
        first = seen.first;
        is_stations = refl;
        is_level = refl;
        line_marks = seen.line_marks;
        start_marks = seen.start_marks;
        end_mark = next.is ∙ e;
        end_count = eqb-true (number_at bytes (offset_after m s + 2)) m (not-false count (passed (not count) 22 (offset_after m s) 3 (ap is_refused b)));
      })

  records_formed : (facts : Facts) (left m s : ℕ) → Seen m s → records_read bytes m s left ≡ given facts → Formed bytes facts
  unfolding records_read by_mark
  records_formed facts zero m s seen e = absurd (true≢false (ap is_refused e))
  records_formed facts (suc left) m s seen e =
      go (record_after bytes m s) refl (records_formed facts left (m + 1) s) (records_formed facts left m (s + 1)) e
    where
      kinds : (mark size : ℕ) → Next bytes m s mark → Kind s mark size → offset_after m s + size ≤ length bytes
          → (Seen (m + 1) s → records_read bytes (m + 1) s left ≡ given facts → Formed bytes facts)
          → (Seen m (s + 1) → records_read bytes m (s + 1) left ≡ given facts → Formed bytes facts)
          → by_mark (given mark) (records_read bytes (m + 1) s left) (records_read bytes m (s + 1) left) (end_read bytes m s) ≡ given facts → Formed bytes facts
      kinds mark size next (line z k) h ihl ihs f = ihl (seen_line m s mark seen next z k) (rw k at f)
      kinds mark size next (start k) h ihl ihs f = ihs (seen_start m s mark seen next k) (rw k at f)
      kinds mark size next (end k) h ihl ihs f = end_formed facts m s mark seen next k h (rw k at f)

      go : (a : Answer ℕ) → record_after bytes m s ≡ a
          → (Seen (m + 1) s → records_read bytes (m + 1) s left ≡ given facts → Formed bytes facts)
          → (Seen m (s + 1) → records_read bytes m (s + 1) left ≡ given facts → Formed bytes facts)
          → by_mark a (records_read bytes (m + 1) s left) (records_read bytes m (s + 1) left) (end_read bytes m s) ≡ given facts → Formed bytes facts
      go (refused number place list) e ihl ihs f = absurd (true≢false (ap is_refused f))
      go (given mark) e ihl ihs f =
          let next = next_given bytes m s mark e in
          kinds mark next.size next next.kind next.whole ihl ihs f

  -- THEOREM. What reading answers with are the facts of a file.
  pub read_formed : (facts : Facts) → file_read bytes ≡ given facts → Formed bytes facts
  unfolding file_read
  read_formed facts e =
      let (a, e₁) = then_given (record_judged First bytes 0) (records_read bytes 0 0 (length bytes)) e in
      let (n, h) = first_whole bytes (ap is_refused a) in
      records_formed facts (length bytes) 0 0
      (record { first = n; few_lines = omega arith; few_starts = omega arith; line_marks = λ p l. absurd (omega arith); start_marks = λ q l. absurd (omega arith) })
      e₁

-- A file with these facts, from the record after m LN and s RT on: what is left is read.
module _ (bytes : List ℕ) (facts : Facts) (formed : Formed bytes facts) where
  end_read_lem : end_read bytes facts.lines facts.starts ≡ given facts
  unfolding end_read
  end_read_lem =
      let o = offset_after facts.lines facts.starts in
      let h : length bytes ≤ o + 4 = omega (arith, formed.size) in
      rw (eq-eqb (number_at bytes (o + 2)) facts.lines formed.end_count, le-ltb (o + 4) (length bytes) h, formed.is_stations, formed.is_level)

  records_read_lem : (left m s : ℕ) → m ≤ facts.lines → s ≤ facts.starts → (m < facts.lines → s ≡ 0) → facts.lines - m + (facts.starts - s) < left
      → records_read bytes m s left ≡ given facts
  records_read_lem zero m s a b none f = absurd (omega arith)
  records_read_lem (suc left) m s a b none f = go (dec_lt m facts.lines) (dec_lt s facts.starts)
      (λ l. records_read_lem left (m + 1) s (omega arith) b (λ k. none l) (omega arith))
      (λ n l. records_read_lem left m (s + 1) a (omega arith) (λ k. absurd (n k)) (omega arith))
    where
      go : Dec (m < facts.lines) → Dec (s < facts.starts)
          → (m < facts.lines → records_read bytes (m + 1) s left ≡ given facts)
          → (¬ (m < facts.lines) → s < facts.starts → records_read bytes m (s + 1) left ≡ given facts)
          → records_read bytes m s (suc left) ≡ given facts
      go (yes l) d ihl ihs =
          let z = none l in
          let e : record_after bytes m s ≡ given mark_ln =
          subst (λ (x : ℕ). record_after bytes m x ≡ given mark_ln) (sym z)
          (line_next bytes m (formed.line_marks m l) (omega (arith, formed.few_lines)) (omega (arith, formed.size))) in
          read_line bytes m s (suc left) left refl e ∙ ihl l
      go (no n) (yes l) ihl ihs =
          let all : facts.lines ≡ m = omega arith in
          let e = start_next bytes m s (subst (λ (x : ℕ). number_at bytes (offset_after x s) ≡ mark_rt) all (formed.start_marks s l))
          (omega (arith, formed.few_starts)) (omega (arith, formed.size)) in
          read_start bytes m s (suc left) left refl e ∙ ihs n l
      go (no n) (no k) ihl ihs =
          let all : facts.lines ≡ m = omega arith in
          let done : facts.starts ≡ s = omega arith in
          let e = end_next bytes facts.lines facts.starts formed.end_mark (omega (arith, formed.size)) in
          subst₂ (λ (x y : ℕ). records_read bytes x y (suc left) ≡ given facts) all done
          (read_end bytes facts.lines facts.starts (suc left) left refl e ∙ end_read_lem)

  -- THEOREM. Of a file reading answers with its facts.
  pub formed_read : file_read bytes ≡ given facts
  unfolding file_read length_here
  formed_read =
      rw (whole_record First bytes 0 6 (rw formed.first) (omega arith) (omega (arith, formed.size)))
      (records_read_lem (length bytes) 0 0 (omega arith) (omega arith) (λ l. refl) (omega (arith, formed.size)))
