-- Worked cases, computed from bytes: whether a file has the form, and its values; one list with one theorem.
--   formed   the tag, the values, and the file
--   unformed the tag, and the file
use Prim.Native.Nat.{ℕ, zero, suc, ◌+◌}
use lib.ListN.{length, replicate}
use mathlib.Core.List.{List, [], ◌++◌, ◌∷◌}
use mathlib.Core.Path.{◌≡◌, refl}
use Rattle.table.specs.Fields.{ends_at}
use Rattle.table.specs.Number.{be}
use Rattle.table.specs.Pick.{pick}
use Rattle.fields.specs.Form.{field_count, field_place, field_value, field_with, fields_form, fields_from}

pub data Case : Type 0 where
  formed : ℕ → List (List ℕ) → List ℕ → Case
  unformed : ℕ → List ℕ → Case

abbrev end : List ℕ
end = 0x2F ∷ 0 ∷ 0 ∷ []

-- a field of less than 256 bytes, before what follows it
abbrev with : ℕ → List ℕ → List ℕ → List ℕ
with tag v rest = tag ∷ 0 ∷ length v ∷ (v ++ rest)

abbrev file : ℕ → List (List ℕ) → List ℕ
file tag [] = end
file tag (v ∷ vs) = with tag v (file tag vs)

abbrev values_after : List ℕ → ℕ → ℕ → List (List ℕ)
values_after s zero k = []
values_after s (suc more) k = field_value s k ∷ values_after s more (k + 1)

abbrev said : ℕ → List ℕ → Case
said tag s = pick (fields_form tag s) (formed tag (values_after s (field_count tag s) 0) s) (unformed tag s)

abbrev ran : Case → Case
ran (formed tag vs s) = said tag s
ran (unformed tag s) = said tag s

abbrev pub run_all : List Case → List Case
run_all [] = []
run_all (c ∷ cs) = ran c ∷ run_all cs

abbrev pub cases : List Case
cases =
    formed 0x51 [] end
    ∷ formed 0x51 ((7 ∷ []) ∷ [] ∷ (8 ∷ 9 ∷ []) ∷ []) (0x51 ∷ 0 ∷ 1 ∷ 7 ∷ 0x51 ∷ 0 ∷ 0 ∷ 0x51 ∷ 0 ∷ 2 ∷ 8 ∷ 9 ∷ end)
    ∷ formed 0x61 ((7 ∷ []) ∷ []) (0x61 ∷ 0 ∷ 1 ∷ 7 ∷ end)
    -- no byte, another tag, a head or a value cut short, no end field, one cut short, one with a length, bytes after it
    ∷ unformed 0x51 []
    ∷ unformed 0x51 (with 0x61 [] end)
    ∷ unformed 0x61 (with 0x51 [] end)
    ∷ unformed 0x51 (0x51 ∷ 0 ∷ [])
    ∷ unformed 0x51 (0x51 ∷ 0 ∷ 4 ∷ end)
    ∷ unformed 0x51 (with 0x51 (7 ∷ []) [])
    ∷ unformed 0x51 (with 0x51 (7 ∷ []) (0x2F ∷ 0 ∷ []))
    ∷ unformed 0x51 (with 0x51 (7 ∷ []) (0x2F ∷ 0 ∷ 1 ∷ 0 ∷ []))
    ∷ unformed 0x51 (with 0x51 (7 ∷ []) (end ++ (0 ∷ [])))
    ∷ unformed 0x51 (with 0x51 (7 ∷ []) (end ++ end))
    -- a value takes the bytes of its length, whatever they are; a length has a high byte
    ∷ formed 0x51 (end ∷ []) (0x51 ∷ 0 ∷ 3 ∷ (end ++ end))
    ∷ unformed 0x51 (0x51 ∷ 1 ∷ 0 ∷ end)
    ∷ formed 0x51 (replicate 257 7 ∷ []) (0x51 ∷ 1 ∷ 1 ∷ (replicate 257 7 ++ end))
    -- 32 fields, and 33
    ∷ formed 0x51 (replicate 32 (7 ∷ [])) (file 0x51 (replicate 32 (7 ∷ [])))
    ∷ unformed 0x51 (file 0x51 (replicate 33 (7 ∷ [])))
    ∷ []

pub all_pass : run_all cases ≡ cases
unfolding be ends_at field_place field_value field_with fields_from field_count fields_form
all_pass = refl
