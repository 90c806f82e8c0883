-- 01, "Questions asked": 2 to 13, of the field after n rows of the picture s. The fields before it are rows, so it begins at place n 0.
--   ask q yes next           go on with `next` where question q is answered yes; else q is the refusal's number
--   tag_ok, length_for         question 3, and the length that 4 asks for
--   kind_ok .. impossible_ok   questions 9, 10, 11, 12, 13
--   value_field               9 to 13, in their order
--   row_field                 5, 6 and then those
--   end_field                 7 and 8
--   field_at                  2, 3, 4 and then those of a row or of the end field
use Rattle.std.specs.Prelude.{Bool, true, false, ◌||◌, List, ℕ, eqb, leb, ltb, length, Err, Ok, Result}
use Rattle.table.specs.Pick.{pick}
use Rattle.table.specs.Layout.{«place», head_size, row_tag, end_tag, row_length, end_length, row_size, end_size, kind_root, kind_exists, kind_for_all, roles}
use Rattle.table.specs.Fields.{tag_of, length_of, parent_of, kind_of, role_of, impossible_of}
use Rattle.table.specs.declared.layout.Limits.{Limits}
use Rattle.picture.specs.Depth.{depth}
use Rattle.picture.specs.declared.field.Field.{Field}
use Rattle.picture.specs.declared.field.Field.TheVariants.{End, Row}

abbrev pub ask : ℕ → Bool → Result Field ℕ → Result Field ℕ
ask q true next = next
ask q false next = Err q

-- 3. Is the tag 10 or 2F?
unfoldable pub tag_ok : ℕ → Bool
tag_ok tag = eqb tag row_tag || eqb tag end_tag

-- 4. Is the length 21 or 0 to match? By then 3 has left two tags.
unfoldable pub length_for : ℕ → ℕ
length_for tag = pick (eqb tag row_tag) row_length end_length

-- 9. Is the kind 0 in row 0, else 1 or 2?
unfoldable pub kind_ok : ℕ → ℕ → Bool
kind_ok n kind = pick (eqb n 0) (eqb kind kind_root) (eqb kind kind_exists || eqb kind kind_for_all)

-- 10. Is the role below 32, and 0 in row 0?
unfoldable pub role_ok : ℕ → ℕ → Bool
role_ok n role = pick (eqb n 0) (eqb role 0) (ltb role roles)

-- 11. Is the parent below the row's number (0 in row 0)?
unfoldable pub parent_ok : ℕ → ℕ → Bool
parent_ok n parent = pick (eqb n 0) (eqb parent 0) (ltb parent n)

-- 12. Is the depth at most 12?
abbrev pub depth_ok : Limits → ℕ → Bool
depth_ok limits depth = leb depth limits.depth

-- 13. Is the impossible byte 0 or 1?
abbrev pub impossible_ok : ℕ → Bool
impossible_ok impossible = leb impossible 1

unfoldable pub value_field : Limits → List ℕ → ℕ → Result Field ℕ
value_field limits s n =
    ask 9 (kind_ok n (kind_of s n))
    (ask 10 (role_ok n (role_of s n))
    (ask 11 (parent_ok n (parent_of s n))
    (ask 12 (depth_ok limits (depth (parent_of s) n))
    (ask 13 (impossible_ok (impossible_of s n))
    (Ok (Row (depth (parent_of s) n)))))))

-- 5. For a row: have fewer than 256 been read? 6. Is the whole value there?
unfoldable pub row_field : Limits → List ℕ → ℕ → Result Field ℕ
row_field limits s n =
    ask 5 (ltb n limits.rows)
    (ask 6 (leb (place n row_size) (length s))
    (value_field limits s n))

-- 7. At the end field: was there a row? 8. Does the file stop there?
unfoldable pub end_field : List ℕ → ℕ → Result Field ℕ
end_field s n =
    ask 7 (ltb 0 n)
    (ask 8 (eqb (length s) (place n end_size))
    (Ok End))

-- 2. Are three head bytes there? 3. Is the tag 10 or 2F? 4. Is the length 21 or 0 to match?
unfoldable pub field_at : Limits → List ℕ → ℕ → Result Field ℕ
field_at limits s n =
    ask 2 (leb (place n head_size) (length s))
    (ask 3 (tag_ok (tag_of s n))
    (ask 4 (eqb (length_of s n) (length_for (tag_of s n)))
    (pick (eqb (tag_of s n) row_tag) (row_field limits s n) (end_field s n))))
