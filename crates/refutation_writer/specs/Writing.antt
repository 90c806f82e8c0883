-- What the parts of the writer write. Nobody has to believe these.
--   Room             so many individuals more have room
--   Written          they were written, and the number of the next is known
--   RefutationRoom   a whole file has room
use Rattle.std.specs.Prelude.{◌+◌, ◌≤◌, ℕ, length, List, ◌≡◌}
use Rattle.ale.specs.Encoding.{Row, encode}
use Rattle.ale.specs.PictureSignature.{picture_signature}
use Rattle.ale.specs.Tree.{Tree}
use Rattle.countermodel.specs.Layout.{individual_place, most_individuals}
use Rattle.countermodel.specs.Writing.{individuals_of}
use Rattle.table.specs.Layout.{end_size}
use Rattle.table.specs.Put.{put}

pub record Room (out : List ℕ) (k : ℕ) (ws : List (Row picture_signature)) : Type 0 where
  pub most : k + length ws ≤ most_individuals
  pub fits : individual_place (k + length ws) 0 ≤ length out

pub record Written (out : List ℕ) (k : ℕ) (ws : List (Row picture_signature)) (next : ℕ) (end : List ℕ) : Type 0 where
  pub next_is : next ≡ k + length ws
  pub bytes_are : end ≡ put out (individual_place k 0) (individuals_of ws)

pub record RefutationRoom (t : Tree picture_signature) (size : ℕ) : Type 0 where
  pub most : length (encode picture_signature t) ≤ most_individuals
  pub fits : individual_place (length (encode picture_signature t)) end_size ≤ size
