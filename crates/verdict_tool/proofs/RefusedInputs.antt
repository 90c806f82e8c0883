-- A refusal that the program tells names one of the two pictures: its buffers are long enough, so 1 is answered yes.
--   refused_named   no other input is refused
use Prim.Native.Nat.{ℕ}
use mathlib.Core.List.{List}
use mathlib.Core.Logic.{◌⊎◌, inl, inr}
use mathlib.Core.Path.{◌∙◌, ◌≡◌, refl, sym}
use native.Mathlib.Omega.{arith}
use Rattle.std.proofs.Common.{Err, Ok}
use Rattle.table.specs.Bounds.{bench_limits}
use Rattle.picture.proofs.Orders.{EveryRefusal, refused_by, refuses_no}
use Rattle.picture.specs.declared.answer.Input.TheVariants.{First, Second}
use Rattle.picture.specs.declared.answer.Refusal.{Refusal}
use Rattle.workspace.proofs.Lendings.{room_yes}
use Rattle.workspace.proofs.Pairs.{lent_pair, pair_refuses}
use Rattle.workspace.specs.Lent.{roomy}
use Rattle.workspace.specs.Prepare.{pair_asked, work_size}
use Rattle.subsumption.specs.Call.{subsumes_answer, subsumes_asked, verdict_answer}
use Rattle.subsumption.specs.Verdict.{evidence_size}

abbrev pub NamesPicture : Refusal → Type 0
NamesPicture r = (r.input ≡ First) ⊎ (r.input ≡ Second)

module _ (first second : List ℕ) where
  pair_named : EveryRefusal NamesPicture (pair_asked bench_limits first second)
  pair_named =
      pair_refuses bench_limits first second NamesPicture (record { reads = λ q n f. inl refl; merges = inl refl })
      (record { reads = λ q n f. inr refl; merges = inr refl })

  abbrev work : ℕ
  work = work_size bench_limits

  abbrev size : ℕ
  size = evidence_size bench_limits

  asks_pair : subsumes_asked bench_limits first second work size ≡ pair_asked bench_limits first second
  asks_pair =
      lent_pair bench_limits first second (roomy bench_limits size work size)
      (room_yes bench_limits size work size (omega arith) (omega arith))

  pub refused_named : (r : Refusal) → subsumes_answer bench_limits first second work size ≡ Err r → NamesPicture r
  unfolding subsumes_answer
  refused_named r e =
      let is : subsumes_asked bench_limits first second work size ≡ Err r =
      refused_by (Ok (verdict_answer bench_limits first second)) r
      (λ o. let z : ◌≡◌ {A = ℕ} 0 1 = cc in omega arith)
      (subsumes_asked bench_limits first second work size) e in
      refuses_no NamesPicture (pair_asked bench_limits first second) pair_named r (sym asks_pair ∙ is)
