-- Laws of individuals as bytes.
--   length_individual, length_individuals   the sizes of an individual's field and of several
use Prim.Native.Nat.{ℕ, ◌*◌}
use lib.ListN.{length, length-append}
use mathlib.Core.List.{List, [], ◌∷◌}
use mathlib.Core.Path.{◌≡◌, refl}
use native.Mathlib.Omega.{arith}
use Rattle.table.specs.Number.{be_bytes}
use Rattle.ale.specs.Encoding.{Row}
use Rattle.ale.specs.PictureSignature.{picture_signature}
use Rattle.countermodel.specs.Layout.{individual_size}
use Rattle.countermodel.specs.Writing.{individual_bytes, individuals_of}

pub length_individual : (parent role names : ℕ) → length (individual_bytes parent role names) ≡ individual_size
unfolding individual_bytes be_bytes
length_individual parent role names = refl

pub length_individuals : (ws : List (Row picture_signature)) → length (individuals_of ws) ≡ individual_size * length ws
length_individuals [] = refl
length_individuals (w ∷ ws) =
    let here = individual_bytes w.parent w.role w.label.wanted.set in
    omega (arith, length-append here (individuals_of ws), length_individual w.parent w.role w.label.wanted.set, length_individuals ws)
