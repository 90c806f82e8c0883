-- 01, "Map, row by row": questions 17 to 20. p is the first normal table, q the second, im the images of q's rows.
--   refusal_by   a refusal of the evidence by a question
--   row_asked    17 to 20 of row i
--   map_asked    of every row in number order, to the first no
use Rattle.std.specs.Prelude.{ℕ, eqb, ltb, true}
use Rattle.table.specs.Pick.{pick}
use Rattle.ale.specs.PictureSignature.{picture_signature}
use Rattle.ale.specs.RowMap.{edge_agrees, label_agrees}
use Rattle.ale.specs.Table.{Table}
use Rattle.picture.specs.Asked.{and_then, asked, asked_from, Asked}
use Rattle.picture.specs.Refusal.{refusal}
use Rattle.picture.specs.declared.answer.Input.TheVariants.{Evidence}
use Rattle.picture.specs.declared.answer.Refusal.{Refusal}

abbrev pub refusal_by : ℕ → Refusal
refusal_by number = refusal number Evidence

-- 17. Is the image a row of the first? 18. Is row 0 sent to 0? 19. Do names and mark agree? 20. Does its edge agree?
-- (row 0 has none)
unfoldable pub row_asked : Table picture_signature → Table picture_signature → (ℕ → ℕ) → ℕ → Asked
row_asked p q im i =
    and_then (asked (ltb (im i) p.rows) (refusal_by 17))
    (and_then (asked (pick (eqb i 0) (eqb (im i) 0) true) (refusal_by 18))
    (and_then (asked (label_agrees picture_signature p q i (im i)) (refusal_by 19))
    (asked (pick (eqb i 0) true (edge_agrees picture_signature p q i (im (q.parent i)) (im i))) (refusal_by 20))))

unfoldable pub map_asked : Table picture_signature → Table picture_signature → (ℕ → ℕ) → Asked
map_asked p q im = asked_from (row_asked p q im) q.rows 0
