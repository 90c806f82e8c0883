-- What the call leaves is what the lines are made of.
--   image_front   the images of a map that stands at a buffer's start are its images
--   rows_map      where the verdict is yes there is a line for each row of the second normal table
--   call_lines    where the verdict is yes the result buffer begins with a map; the lines are those of the two files
use Prim.Native.Nat.{◌+◌, ◌≤◌, ℕ}
use lib.ListN.{get_or, length}
use mathlib.Core.Bool.{true}
use mathlib.Core.List.{List, ◌++◌}
use mathlib.Core.Path.{◌∙◌, ◌≡◌, ap, refl, subst}
use native.Mathlib.Omega.{arith}
use Rattle.std.proofs.Common.{Err, Ok, Result}
use Rattle.ale.specs.PictureSignature.{picture_signature}
use Rattle.ale.specs.RowMap.{image}
use Rattle.ale.specs.Table.{Table}
use Rattle.evidence.proofs.NormalTables.{normal_rows}
use Rattle.homomorphism.proofs.MapFiles.{length_map_file}
use Rattle.homomorphism.specs.Layout.{image_of, image_place}
use Rattle.homomorphism.specs.Map.{lowest_map}
use Rattle.meaning.proofs.Normals.{normal_count}
use Rattle.meaning.specs.Meaning.{picture_table}
use Rattle.meaning.specs.NormalTable.{merged_count, normal_file}
use Rattle.picture.specs.Asked.{kept, on_asked, Asked, yes}
use Rattle.picture.specs.declared.answer.Refusal.{Refusal}
use Rattle.subsumption.proofs.Writers.{evidence_size_is, yes_written}
use Rattle.subsumption.specs.Call.{subsumes_answer, subsumes_asked, subsumes_result, verdict_answer}
use Rattle.subsumption.specs.Verdict.{evidence_of, evidence_size, map_of, verdict_of}
use Rattle.subsumption.specs.declared.verdict.Verdict.TheVariants.{No, Yes}
use Rattle.table.proofs.Bools.{by_test}
use Rattle.table.proofs.Numbers.{be_same}
use Rattle.table.proofs.Puts.{length_put, put_in}
use Rattle.table.specs.Bounds.{Bounded, bench_limits}
use Rattle.table.specs.Layout.{end_size, number_size}
use Rattle.table.specs.Put.{put}
use Rattle.table.specs.declared.layout.Limits.{Limits}
use Rattle.workspace.proofs.Lendings.{two_decides}
use Rattle.workspace.specs.Prepare.{Acceptable, work_size}
use Rattle.verdict_lines.specs.Gathering.{MapIn, Told}
use Rattle.verdict_lines.specs.Lines.{map_rows, output, printed, text}
use Rattle.subsumption.specs.declared.verdict.Verdict.{Verdict}
use Rattle.verdict_lines.proofs.MapLines.{lines_same}

pub image_front : (d e : List ℕ) (i : ℕ) → image_place i + number_size ≤ length e →
    image_of (put d 0 e) i ≡ image_of e i
image_front d e i inside =
    be_same (put d 0 e) e (image_place i) (image_place i) number_size
    (λ k l.
    let at : image_place i + k ≡ 0 + (image_place i + k) = omega arith in
    ap (λ (j : ℕ). get_or (put d 0 e) j 0) at ∙ put_in d 0 e (image_place i + k) (omega arith) (omega arith))

module _ (limits : Limits) (first second buffer : List ℕ) (bounded : Bounded limits)
    (long : length buffer ≡ evidence_size limits) where
  abbrev e : List ℕ
  e = evidence_of limits first second

  abbrev left : List ℕ
  left = put buffer 0 e

  -- the verdict's map stands in the buffer, and the lines are those of the evidence
  abbrev Shown : Result Verdict Refusal → List ℕ → Type 0
  Shown v d = Told v d × (output v d ≡ output v e)

  refused_shown : (r : Refusal) (d : List ℕ) → Shown (Err r) d
  unfolding output
  refused_shown r d = (λ n is. absurd (let z : ◌≡◌ {A = ℕ} 0 1 = cc in omega arith), refl)

  no_shown : (m : ℕ) → Shown (Ok (No m)) left
  unfolding output
  no_shown m = (λ n is. absurd (let z : ◌≡◌ {A = ℕ} 0 1 = cc in omega arith), refl)

  module _ (pair : Acceptable limits first second) where
    abbrev p : Table picture_signature
    p = picture_table (normal_file limits first)

    abbrev q : Table picture_signature
    q = picture_table (normal_file limits second)

    normal_few : (s : List ℕ) → merged_count limits s ≤ limits.rows →
        (picture_table (normal_file limits s)).rows ≤ limits.rows
    normal_few s few = omega (arith, normal_rows limits s bounded few, normal_count limits s)

    module _ (yes-told : verdict_of limits first second ≡ true) where
      length_map : length e ≡ image_place q.rows + end_size
      unfolding evidence_of map_of lowest_map
      length_map = rw yes-told (length_map_file q.rows (image picture_signature p q))

      pub rows_map : map_rows (length e) ≡ q.rows
      rows_map = omega (arith, length_map)

      map_in : MapIn left (length e)
      map_in =
          let size = evidence_size_is limits first second bounded pair in
          let map = yes_written limits first second bounded pair yes-told in
          let same = length_put buffer 0 e (omega (arith, size)) in
          record {
            whole = omega (arith, length_map);
            few = omega (arith, length_map, normal_few second pair.second_few, bounded.0);
            inside = omega (arith, size, same);
            small = λ i l. omega (
              arith,
              image_front buffer e i (omega (arith, length_map)),
              map.maps.inside i (omega (arith, rows_map)),
              normal_few first pair.first_few,
              bounded.0,
            );
          }

      yes_shown : Shown (Ok (Yes (length e))) left
      unfolding output
      yes_shown = (
        λ n is. let same : length e ≡ n = cc in subst (λ k. MapIn left k) same map_in,
        ap (λ (l : List ℕ). text "verdict yes\n" ++ l)
            (lines_same left e (map_rows (length e)) (λ i l. image_front buffer e i (omega (arith, length_map)))),
      )

    pair_shown : Shown (Ok (verdict_answer limits first second)) left
    unfolding verdict_answer
    pair_shown =
        by_test (verdict_of limits first second) (λ is. rw is (yes_shown is)) (λ is. rw is (no_shown (length e)))

  asked_shown : (a : Asked) → (a ≡ yes → Acceptable limits first second) →
      Shown (on_asked a (Ok (verdict_answer limits first second))) (kept a left buffer)
  asked_shown (Ok _) pair = pair_shown (pair refl)
  asked_shown (Err r) pair = refused_shown r buffer

  call_shown : (work : ℕ) →
      Shown (subsumes_answer limits first second work (length buffer)) (subsumes_result limits first second work buffer)
  unfolding subsumes_answer
  call_shown work =
      asked_shown (subsumes_asked limits first second work (length buffer))
      (λ all. ((two_decides limits first second (evidence_size limits) work (length buffer)).yes.0 all).pair)

module _ (limits : Limits) (first second buffer left : List ℕ) (work : ℕ) (v : Result Verdict Refusal) (bench : limits ≡ bench_limits)
    (bounded : Bounded limits) (room : work ≡ work_size bench_limits)
    (long : length buffer ≡ evidence_size bench_limits)
    (answer : v ≡ subsumes_answer limits first second work (length buffer))
    (written : left ≡ subsumes_result limits first second work buffer) where
  abbrev shown_verdict : Result Verdict Refusal
  shown_verdict = subsumes_answer limits first second work (length buffer)

  of_evidence : output shown_verdict (evidence_of limits first second) ≡ printed first second
  unfolding printed
  of_evidence = rw (bench, room, long)

  pub call_lines : Told v left × (output v left ≡ printed first second)
  call_lines =
      let size : length buffer ≡ evidence_size limits = rw bench long in
      let shown = call_shown limits first second buffer bounded size work in
      rw (answer, written) (shown.0, shown.1 ∙ of_evidence)
