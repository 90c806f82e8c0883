-- A file of rows is readable: each question of a row is answered by what the row is, and the end field comes last.
--   Writable        rows that a picture may have: some and not too many, row 0 a root, parents first, roles known, none too deep
--   file_readable   a file of such rows reads as its rows
use Prim.Native.Nat.{◌<◌, ◌^◌, ◌≤◌, suc, zero, ℕ}
use borrow.Author.Tests.{ne_eqb}
use lib.ListN.{length}
use mathlib.Core.Bool.{Bool, false, true}
use mathlib.Core.List.{List}
use mathlib.Core.Logic.{inl, inr}
use mathlib.Core.Path.{◌≡◌, refl}
use native.Mathlib.Omega.{arith}
use Rattle.std.proofs.Common.{Ok}
use Rattle.ale.specs.Encoding.{Row, table_of}
use Rattle.ale.specs.PictureSignature.{picture_signature}
use Rattle.ale.specs.Table.{KnownRoles, ParentsFirst}
use Rattle.ale.specs.Tree.{Kind, exists, forAll}
use Rattle.picture.proofs.Depths.{depth_same}
use Rattle.picture.proofs.Fields.{RowOk}
use Rattle.picture.proofs.Questions.{ok_depth, ok_kind, ok_parent, ok_role, ok_root}
use Rattle.picture.proofs.Readables.{formed_reading}
use Rattle.picture.specs.Depth.{depth}
use Rattle.picture.specs.Questions.{impossible_ok, kind_ok, parent_ok, role_ok}
use Rattle.picture.specs.Read.{reading_of}
use Rattle.table.proofs.Rows.{held_end_length, held_end_tag}
use Rattle.table.specs.Bounds.{Bounded}
use Rattle.table.specs.Fields.{kind_of, parent_of, role_of}
use Rattle.table.specs.Layout.{kind_exists, kind_for_all, number_size}
use Rattle.table.specs.declared.layout.Limits.{Limits}
use Rattle.meaning.specs.File.{file_of, kind_code, mark_code}
use Rattle.meaning.proofs.FileTables.{parents_fit}
use Rattle.meaning.proofs.Files.{end_held, file_impossible, file_kind, file_length, file_parent, file_role, file_tag, length_file_of, row_in}

pub record Writable (limits : Limits) (ws : List (Row picture_signature)) : Type 0 where
  pub some : 0 < length ws
  pub most : length ws ≤ limits.rows
  pub root_parent : (row_in ws 0).parent ≡ 0
  pub root_role : (row_in ws 0).role ≡ 0
  pub parents_first : ParentsFirst picture_signature (table_of picture_signature ws)
  pub roles_known : KnownRoles picture_signature (table_of picture_signature ws)
  pub shallow : (j : ℕ) → j < length ws → depth (table_of picture_signature ws).parent j ≤ limits.depth

code_ok : (n : ℕ) → ¬ (n ≡ 0) → (k : Kind) → kind_ok n (kind_code k) ≡ true
code_ok n z exists = ok_kind n kind_exists z (inl refl)
code_ok n z forAll = ok_kind n kind_for_all z (inr refl)

mark_ok : (b : Bool) → impossible_ok (mark_code b) ≡ true
mark_ok true = refl
mark_ok false = refl

module _ (limits : Limits) (ws : List (Row picture_signature)) (bounded : Bounded limits) (w : Writable limits ws) where
  fits : (j : ℕ) → j < length ws → (row_in ws j).parent < 256 ^ number_size
  fits zero l = omega (arith, w.root_parent)
  fits (suc j) l = parents_fit ws w.parents_first (omega (arith, w.most, bounded.0)) (suc j) l (λ z. omega arith)

  parents : (j : ℕ) → j < length ws → parent_of (file_of ws) j ≡ (row_in ws j).parent
  parents j l = file_parent ws j l (fits j l)

  depths : (j : ℕ) → j < length ws → depth (parent_of (file_of ws)) j ≡ depth (table_of picture_signature ws).parent j
  depths j l =
      depth_same (parent_of (file_of ws)) (table_of picture_signature ws).parent j (λ k h. parents k (omega arith))
      (λ k z h. rw (parents k (omega arith)) (w.parents_first k (omega arith) (λ e. omega arith)))

  kind_answered : (j : ℕ) → j < length ws → kind_ok j (kind_of (file_of ws) j) ≡ true
  kind_answered zero l = rw (file_kind ws 0 l) ok_root.0
  kind_answered (suc j) l = rw (file_kind ws (suc j) l, ne_eqb (suc j) 0 (λ z. omega arith)) (code_ok (suc j) (λ z. omega arith) (row_in ws (suc j)).kind)

  role_answered : (j : ℕ) → j < length ws → role_ok j (role_of (file_of ws) j) ≡ true
  role_answered zero l = rw (file_role ws 0 l, w.root_role) ok_root.1
  role_answered (suc j) l = rw (file_role ws (suc j) l) (ok_role (suc j) (row_in ws (suc j)).role (λ z. omega arith) (w.roles_known (suc j) l))

  parent_answered : (j : ℕ) → j < length ws → parent_ok j (parent_of (file_of ws) j) ≡ true
  parent_answered zero l = rw (parents 0 l, w.root_parent) ok_root.2
  parent_answered (suc j) l =
      rw (parents (suc j) l) (ok_parent (suc j) (row_in ws (suc j)).parent (λ z. omega arith) (w.parents_first (suc j) l (λ z. omega arith)))

  row_answered : (j : ℕ) → j < length ws → RowOk limits (file_of ws) j
  row_answered j l = record {
    tag = file_tag ws j l;
    row_length_is = file_length ws j l;
    few = omega (arith, w.most);
    whole = omega (arith, length_file_of ws);
    kind = kind_answered j l;
    role = role_answered j l;
    parent = parent_answered j l;
    shallow = ok_depth limits (depth (parent_of (file_of ws)) j) (rw (depths j l) (w.shallow j l));
    impossible = rw (file_impossible ws j l) (mark_ok (row_in ws j).label.bottom);
  }

  pub file_readable : reading_of limits (file_of ws) ≡ Ok (length ws)
  file_readable = formed_reading limits (file_of ws) (length ws) (record {
    rows = row_answered;
    end = record {
      tag = held_end_tag (end_held ws);
      end_length_is = held_end_length (end_held ws);
      rows = w.some;
      stops = length_file_of ws;
    };
  })
