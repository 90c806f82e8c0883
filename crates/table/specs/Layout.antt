-- 01, "The file": the numbers of the format. Each number of the paper stands once; the others are computed from them.
--   tag_size, number_size, head_size       the parts of a field's head, and the head
--   row_tag, end_tag                      tags
--   name_bytes, name_count                a set of names: its bytes, and how many names there are
--   length_offset,
--   parent_offset .. excluded_offset      where each part of a field begins, from its tag on
--   row_length, end_length                the lengths that heads say
--   row_size, end_size                    whole fields
--   kind_root, kind_exists, kind_for_all    kinds of row
--   roles                               how many roles there are
--   place                               where a part of a row stands
use Rattle.std.specs.Prelude.{ℕ, ◌+◌, ◌*◌, ◌-◌}

-- a field: one byte of tag, a number of two bytes for the length, then the value
abbrev pub tag_size : ℕ
tag_size = 1

abbrev pub number_size : ℕ
number_size = 2

abbrev pub length_offset : ℕ
length_offset = tag_size

abbrev pub head_size : ℕ
head_size = length_offset + number_size

abbrev pub row_tag : ℕ
row_tag = 0x10

abbrev pub end_tag : ℕ
end_tag = 0x2F

-- the end field is a head alone
abbrev pub end_length : ℕ
end_length = 0

abbrev pub end_size : ℕ
end_size = head_size + end_length

-- a set of names is this many bytes, a bit for each name
abbrev pub name_bytes : ℕ
name_bytes = 8

abbrev pub name_count : ℕ
name_count = 8 * name_bytes

-- where the parts of a row's field begin, from its tag on
abbrev pub parent_offset : ℕ
parent_offset = head_size

abbrev pub kind_offset : ℕ
kind_offset = parent_offset + number_size

abbrev pub role_offset : ℕ
role_offset = kind_offset + 1

abbrev pub impossible_offset : ℕ
impossible_offset = role_offset + 1

abbrev pub wanted_offset : ℕ
wanted_offset = impossible_offset + 1

abbrev pub excluded_offset : ℕ
excluded_offset = wanted_offset + name_bytes

abbrev pub row_size : ℕ
row_size = excluded_offset + name_bytes

abbrev pub row_length : ℕ
row_length = row_size - head_size

abbrev pub kind_root : ℕ
kind_root = 0

abbrev pub kind_exists : ℕ
kind_exists = 1

abbrev pub kind_for_all : ℕ
kind_for_all = 2

abbrev pub roles : ℕ
roles = 32

-- the byte at which a part of a row stands: rows stand one after the other from the first byte on
abbrev pub place : ℕ → ℕ → ℕ
place row offset = row_size * row + offset
