-- What unfolding a picture needs. Nobody has to believe these.
--   Ready       the definitions of a book are found, and all is answered yes of it
--   Unfolding   and a picture passes what is asked before the first 14
--   Changing    and a row of it wants a defined name
--   Made        such a picture is unfolded, and its rows are given
--   TableSpace  a table of an unfolded picture has room
--   HalfSpace   and so it has in a half of the work space, 14 being answered yes
use Rattle.std.specs.Prelude.{◌≤◌, ℕ, length, take, true, List, ◌≡◌}
use Rattle.table.specs.Bounds.{Bounded, max_rows, picture_size}
use Rattle.table.specs.Layout.{end_size, «place»}
use Rattle.table.specs.declared.layout.Limits.{Limits}
use Rattle.picture.specs.Readable.{Readable}
use Rattle.meaning.specs.NormalTable.{merged_count}
use Rattle.definitions.specs.Tbox.{tbox_of}
use Rattle.definitions.specs.Unfolded.{Definable, Unfolds, unfolded_file, wants_defined}
use Rattle.definition_parts.specs.Parts.{Agrees, Opened}

pub record Ready (limits : Limits) (tbox starts : List ℕ) (defined : ℕ) : Type 0 where
  pub bounded : Bounded limits
  pub definable : Definable limits tbox
  pub opened : Opened tbox starts defined
  pub agrees : Agrees (tbox_of tbox) tbox starts defined

pub record Unfolding (limits : Limits) (tbox starts : List ℕ) (defined : ℕ) (picture : List ℕ) : Type 0 where
  pub ready : Ready limits tbox starts defined
  pub readable : Readable limits picture
  pub unfolds : Unfolds limits tbox picture

pub record Changing (limits : Limits) (tbox starts : List ℕ) (defined : ℕ) (picture : List ℕ) : Type 0 where
  pub ready : Unfolding limits tbox starts defined picture
  pub wants : wants_defined tbox picture ≡ true

pub record Made (limits : Limits) (tbox picture : List ℕ) (r : ℕ) (out end : List ℕ) : Type 0 where
  pub same : length end ≡ length out
  pub few : r ≤ max_rows
  pub there : place r end_size ≤ length end
  pub file : take (place r end_size) end ≡ unfolded_file limits tbox picture

pub record TableSpace (limits : Limits) (tbox starts : List ℕ) (defined : ℕ) (picture out : List ℕ) : Type 0 where
  pub ready : Unfolding limits tbox starts defined picture
  pub space : picture_size limits ≤ length out

pub record HalfSpace (limits : Limits) (tbox starts : List ℕ) (defined : ℕ) (picture half : List ℕ) : Type 0 where
  pub ready : Unfolding limits tbox starts defined picture
  pub few : merged_count limits (unfolded_file limits tbox picture) ≤ limits.rows
  pub long : length half ≡ picture_size limits
