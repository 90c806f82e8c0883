-- Pictures as bytes, computed: what they mean, what 14 counts, and their normal tables.
--   count_dropped    14 counts a row that is dropped later (K5)
--   count_below_is      and rows below one that is marked
--   count_copied     and each copy of what A says (K12)
--   normal_marks     a mark in any row of a set is a mark of its union
--   normal_some      an empty some-successor stays
--   means_names      wanted and excluded names, the mark, kind and role of each row
use Prim.Native.Nat.{◌^◌, ℕ}
use mathlib.Core.Bool.{false, true}
use mathlib.Core.List.{List, ◌++◌}
use mathlib.Core.Path.{◌≡◌, refl}
use Rattle.table.specs.Bounds.{bench_limits}
use Rattle.table.specs.Fields.{end_bytes, row_of}
use Rattle.table.specs.Number.{be, be_bytes}
use Rattle.ale.specs.Tree.{cons, exists, forAll, nil, node}
use Rattle.picture.specs.Readable.{row_count}
use Rattle.meaning.specs.Meaning.{picture_tree, set_at}
use Rattle.meaning.specs.NormalTable.{merged_count, merged_tree, normal_file, normal_tree_of}

abbrev empty : List ℕ
empty = row_of 0 0 0 0 0 0

-- all r{}
abbrev dropped : List ℕ
dropped = empty ++ (row_of 0 2 8 0 0 0 ++ end_bytes)

pub count_dropped : merged_count bench_limits dropped ≡ 2
unfolding be be_bytes row_of end_bytes row_count merged_tree merged_count
count_dropped = refl

-- a marked root with some r(some s{})
abbrev broken : List ℕ
broken = row_of 0 0 0 1 0 0 ++ (row_of 0 1 8 0 0 0 ++ (row_of 1 1 9 0 0 0 ++ end_bytes))

pub count_below_is : merged_count bench_limits broken ≡ 3
unfolding be be_bytes row_of end_bytes row_count merged_tree merged_count
count_below_is = refl

-- all r(some s{1}), some r{2}
abbrev copied : List ℕ
copied = empty ++ (row_of 0 2 8 0 0 0 ++ (row_of 1 1 9 0 2 0 ++ (row_of 0 1 8 0 4 0 ++ end_bytes)))

pub count_copied : merged_count bench_limits copied ≡ 5
unfolding be be_bytes row_of end_bytes row_count merged_tree merged_count
count_copied = refl

-- all r{3}, all r impossible: one all-successor, marked and without names
abbrev marks : List ℕ
marks = empty ++ (row_of 0 2 8 0 8 0 ++ (row_of 0 2 8 1 0 0 ++ end_bytes))

pub normal_marks : normal_file bench_limits marks ≡ empty ++ (row_of 0 2 8 1 0 0 ++ end_bytes)
unfolding be be_bytes row_of end_bytes row_count normal_tree_of normal_file
normal_marks = refl

-- some r{}, twice: equal ones are kept apart
abbrev twice : List ℕ
twice = empty ++ (row_of 0 1 8 0 0 0 ++ (row_of 0 1 8 0 0 0 ++ end_bytes))

pub normal_some : normal_file bench_limits twice ≡ twice
unfolding be be_bytes row_of end_bytes row_count normal_tree_of normal_file
normal_some = refl

-- {40}, some r{} below it, excluding 2, with all s impossible below that
abbrev said : List ℕ
said = row_of 0 0 0 0 (2 ^ 40) 0 ++ (row_of 0 1 8 0 0 4 ++ (row_of 1 2 9 1 0 0 ++ end_bytes))

pub means_names : picture_tree bench_limits said ≡
    node (record { wanted = set_at (2 ^ 40); excluded = set_at 0; bottom = false })
    (cons exists 8
    (node (record { wanted = set_at 0; excluded = set_at 4; bottom = false })
    (cons forAll 9 (node (record { wanted = set_at 0; excluded = set_at 0; bottom = true }) nil) nil))
    nil)
unfolding be be_bytes row_of end_bytes row_count
means_names = refl
