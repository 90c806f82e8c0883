-- Worked cases of the sixth call, computed from a case and a book as bytes: the word of the nearest cards, the refusals in their order, and the work space;
-- one list with one theorem.
--   told    the case, the cards, and the answer with a work space of the length laid down
--   asked   limits, the case, the book, the work space's length, and the answer
--   left    limits, the case, the book, a work space of so many bytes 255, and what it holds after the call
use Prim.Native.Nat.{ℕ}
use lib.ListN.{length, replicate}
use mathlib.Core.List.{List, [], ◌++◌, ◌∷◌}
use mathlib.Core.Path.{◌≡◌, refl}
use Rattle.std.proofs.Common.{Err, Ok, Result}
use Rattle.table.specs.Bounds.{bench_limits}
use Rattle.table.specs.Fields.{ends_at}
use Rattle.table.specs.Number.{be}
use Rattle.table.specs.Put.{put, zeros}
use Rattle.table.specs.Range.{some}
use Rattle.table.specs.declared.layout.Limits.{Limits}
use Rattle.picture.specs.Refusal.{refusal, refusal_at}
use Rattle.picture.specs.Asked.{asked_from, read_asked}
use Rattle.picture.specs.Depth.{depth, depth_in}
use Rattle.picture.specs.Questions.{end_field, field_at, kind_ok, length_for, parent_ok, role_ok, row_field, tag_ok, value_field}
use Rattle.picture.specs.Read.{reading_of, scan_from}
use Rattle.picture.specs.Readable.{row_count}
use Rattle.picture.specs.declared.answer.Input.{Input}
use Rattle.picture.specs.declared.answer.Input.TheVariants.{Book, Buffer, Card, First}
use Rattle.meaning.specs.Covering.{covers}
use Rattle.meaning.proofs.CasePictures.{all_of, all_row, empty, end, four_rows, impossible, none_reached, one, one_row, picture, root, row, some_row, two}
use Rattle.meaning.specs.NormalTable.{merged_count, merged_tree, normal_tree_of}
use Rattle.normal.specs.Call.{merged_asked}
use Rattle.order.specs.Preorder.{minimal, is_passed_over}
use Rattle.book.specs.Call.{book_asked, most_specific_answer, most_specific_work}
use Rattle.fields.specs.Form.{field_count, field_place, field_value, field_with, fields_form, fields_from}
use Rattle.table.specs.NameSet.{set_below}
use Rattle.picture.specs.declared.answer.Refusal.{Refusal}
use Rattle.book.specs.Selection.{most_specific, most_specific_cards}

pub data Case : Type 0 where
  told : List ℕ → List (List ℕ) → Result ℕ Refusal → Case
  asked : Limits → List ℕ → List ℕ → ℕ → Result ℕ Refusal → Case
  left : Limits → List ℕ → List ℕ → ℕ → List ℕ → Case

-- ---- books, byte by byte

-- a card of less than 256 bytes, before what follows it
abbrev with_card : List ℕ → List ℕ → List ℕ
with_card c rest = 0x51 ∷ 0 ∷ length c ∷ (c ++ rest)

abbrev book_of : List (List ℕ) → List ℕ
book_of [] = end
book_of (c ∷ cs) = with_card c (book_of cs)

abbrev empty_cards : ℕ → List ℕ
empty_cards n = book_of (replicate n [])

abbrev ran : Case → Case
ran (told case cards a) = told case cards (most_specific_answer bench_limits case (book_of cards) 12294)
ran (asked limits case book room a) = asked limits case book room (most_specific_answer limits case book room)
ran (left limits case book n e) = left limits case book n (most_specific_work limits case book (replicate n 255))

abbrev pub run_all : List Case → List Case
run_all [] = []
run_all (c ∷ cs) = ran c ∷ run_all cs

abbrev refused : ℕ → Input → Result ℕ Refusal
refused q input = Err (refusal q input)

-- ---- pictures

-- one row with names wanted
abbrev names : ℕ → List ℕ
names wanted = picture (root wanted ∷ [])

-- name 3 wanted and excluded
abbrev broken : List ℕ
broken = picture (row 0 0 0 0 8 8 ∷ [])

abbrev all_two : ℕ → ℕ → List ℕ
all_two wanted other = picture (root 0 ∷ all_row 0 8 wanted ∷ all_row 0 8 other ∷ [])

-- all r(some s{1}), some r{2}: 4 rows, merged 5
abbrev grows : List ℕ
grows = picture (root 0 ∷ all_row 0 8 0 ∷ some_row 1 9 2 ∷ some_row 0 8 4 ∷ [])

-- refused by 3 and by 4
abbrev bad_tag : List ℕ
bad_tag = 0x11 ∷ 0 ∷ 21 ∷ []

abbrev bad_length : List ℕ
bad_length = 0x10 ∷ 0 ∷ 20 ∷ []

abbrev pub cases : List Case
cases =
    -- no card
    told (names 8) [] (Ok 0)
    -- K1 covers every picture; the card that is the case; one that does not cover it
    ∷ told (names 40) (empty ∷ []) (Ok 1)
    ∷ told (names 40) (names 40 ∷ []) (Ok 1)
    ∷ told (names 8) (names 32 ∷ []) (Ok 0)
    ∷ told (names 8) (names 40 ∷ []) (Ok 0)
    ∷ told (names 8) (names 32 ∷ names 8 ∷ names 40 ∷ []) (Ok 2)
    -- a chain, in three orders
    ∷ told (names 104) (empty ∷ names 8 ∷ names 40 ∷ []) (Ok 4)
    ∷ told (names 104) (names 40 ∷ names 8 ∷ empty ∷ []) (Ok 1)
    ∷ told (names 104) (names 8 ∷ names 40 ∷ empty ∷ []) (Ok 2)
    -- only cards that cover the case make one redundant
    ∷ told (names 8) (names 8 ∷ names 40 ∷ empty ∷ []) (Ok 1)
    -- a diamond, and one without its lowest card
    ∷ told (names 104) (empty ∷ names 8 ∷ names 32 ∷ names 40 ∷ []) (Ok 8)
    ∷ told (names 104) (empty ∷ names 8 ∷ names 32 ∷ []) (Ok 6)
    -- twins, of the same bytes or of others with the same meaning, are both nearest or both passed over
    ∷ told (names 8) (names 8 ∷ names 8 ∷ []) (Ok 3)
    ∷ told (names 40) (empty ∷ names 8 ∷ names 8 ∷ []) (Ok 6)
    ∷ told (names 40) (names 8 ∷ names 8 ∷ names 40 ∷ []) (Ok 4)
    ∷ told (all_of 40) (all_of 40 ∷ all_two 8 32 ∷ []) (Ok 3)
    ∷ told (all_of 40) (all_two 8 32 ∷ all_two 32 8 ∷ []) (Ok 3)
    ∷ told empty (empty ∷ all_of 0 ∷ []) (Ok 3)
    ∷ told impossible (impossible ∷ broken ∷ names 8 ∷ []) (Ok 3)
    -- a marked case is covered by all
    ∷ told impossible (names 8 ∷ names 32 ∷ []) (Ok 3)
    ∷ told impossible (names 8 ∷ names 40 ∷ []) (Ok 2)
    ∷ told broken (names 32 ∷ impossible ∷ []) (Ok 2)
    -- a marked card covers only marked cases
    ∷ told (names 8) (impossible ∷ names 8 ∷ []) (Ok 2)
    -- K7, K8
    ∷ told (one 40) (two 8 32 ∷ one 40 ∷ []) (Ok 2)
    ∷ told (two 8 32) (two 8 32 ∷ one 40 ∷ []) (Ok 1)
    ∷ told none_reached (all_of 32 ∷ one 0 ∷ []) (Ok 1)
    -- the first card and the last of 32
    ∷ told (names 8) (names 8 ∷ replicate 31 (names 32)) (Ok 1)
    ∷ told (names 8) (replicate 31 (names 32) ++ (names 8 ∷ [])) (Ok 2147483648)
    -- 24: no byte, another tag, a picture, a head or a value cut short, no end field, one cut short, one with a length, bytes after it
    ∷ asked bench_limits empty [] 12294 (refused 24 Book)
    ∷ asked bench_limits empty end 12294 (Ok 0)
    ∷ asked bench_limits empty (0x52 ∷ 0 ∷ 0 ∷ end) 12294 (refused 24 Book)
    ∷ asked bench_limits empty empty 12294 (refused 24 Book)
    ∷ asked bench_limits empty (0x51 ∷ 0 ∷ []) 12294 (refused 24 Book)
    ∷ asked bench_limits empty (0x51 ∷ 0 ∷ 4 ∷ end) 12294 (refused 24 Book)
    ∷ asked bench_limits empty (with_card empty []) 12294 (refused 24 Book)
    ∷ asked bench_limits empty (with_card empty (0x2F ∷ 0 ∷ [])) 12294 (refused 24 Book)
    ∷ asked bench_limits empty (with_card empty (0x2F ∷ 0 ∷ 1 ∷ 0 ∷ [])) 12294 (refused 24 Book)
    ∷ asked bench_limits empty (with_card empty (end ++ (0 ∷ []))) 12294 (refused 24 Book)
    ∷ asked bench_limits empty (with_card empty (end ++ end)) 12294 (refused 24 Book)
    -- a card takes the bytes of its length, whatever they are; a length has a high byte
    ∷ asked bench_limits empty (0x51 ∷ 0 ∷ 3 ∷ (end ++ end)) 12294 (refused 7 (Card 0))
    ∷ asked bench_limits empty (0x51 ∷ 1 ∷ 0 ∷ (empty ++ end)) 12294 (refused 24 Book)
    ∷ asked bench_limits empty (0x51 ∷ 1 ∷ 1 ∷ (replicate 257 0 ++ end)) 12294 (refused 3 (Card 0))
    -- a card of no byte meets 2; 32 cards are read, 33 meet 24, and that before the cards
    ∷ asked bench_limits empty (empty_cards 1) 12294 (refused 2 (Card 0))
    ∷ asked bench_limits empty (empty_cards 32) 12294 (refused 2 (Card 0))
    ∷ asked bench_limits empty (empty_cards 33) 12294 (refused 24 Book)
    -- 1, before all others; a longer work space is as good
    ∷ asked bench_limits (names 8) (book_of (names 8 ∷ [])) 12293 (refused 1 Buffer)
    ∷ asked bench_limits (names 8) (book_of (names 8 ∷ [])) 12295 (Ok 1)
    ∷ asked bench_limits bad_tag [] 12293 (refused 1 Buffer)
    ∷ asked four_rows grows [] 197 (refused 1 Buffer)
    -- the case, 24, the cards in turn
    ∷ asked bench_limits bad_tag [] 12294 (refused 3 First)
    ∷ asked bench_limits bad_length (book_of (bad_tag ∷ [])) 12294 (refused 4 First)
    ∷ asked bench_limits empty (with_card bad_tag []) 12294 (refused 24 Book)
    ∷ asked bench_limits empty (book_of (bad_tag ∷ bad_length ∷ [])) 12294 (refused 3 (Card 0))
    ∷ asked bench_limits empty (book_of (bad_length ∷ bad_tag ∷ [])) 12294 (refused 4 (Card 0))
    ∷ asked bench_limits empty (book_of (empty ∷ bad_length ∷ [])) 12294 (refused 4 (Card 1))
    -- with the row and the byte of the one that is refused, from its own first byte
    ∷ asked bench_limits (root 0 ++ bad_tag) (book_of (bad_tag ∷ [])) 12294 (Err (refusal_at 3 First 1))
    ∷ asked bench_limits empty (book_of (names 8 ∷ (root 0 ++ (some_row 0 8 2 ++ bad_length)) ∷ bad_tag ∷ [])) 12294
    (Err (refusal_at 4 (Card 1) 2))
    -- 14 after these, of the case and then of the cards in turn
    ∷ asked four_rows grows [] 198 (refused 24 Book)
    ∷ asked four_rows grows (book_of (bad_tag ∷ [])) 198 (refused 3 (Card 0))
    ∷ asked four_rows grows (book_of (empty ∷ bad_tag ∷ [])) 198 (refused 3 (Card 1))
    ∷ asked four_rows empty (book_of (grows ∷ bad_tag ∷ [])) 198 (refused 3 (Card 1))
    ∷ asked four_rows grows (book_of []) 198 (refused 14 First)
    ∷ asked four_rows grows (book_of (grows ∷ [])) 198 (refused 14 First)
    ∷ asked four_rows empty (book_of (grows ∷ grows ∷ [])) 198 (refused 14 (Card 0))
    -- also of a card that does not cover the case
    ∷ asked four_rows empty (book_of (empty ∷ grows ∷ [])) 198 (refused 14 (Card 1))
    -- the work space: zeros where a word is answered, and after these what was there; nothing written where the call refuses
    ∷ left one_row (names 8) (book_of (names 8 ∷ empty ∷ [])) 56 (replicate 54 0 ++ (255 ∷ 255 ∷ []))
    ∷ left one_row (names 8) (book_of (names 32 ∷ [])) 54 (replicate 54 0)
    ∷ left one_row (names 8) (book_of []) 55 (replicate 54 0 ++ (255 ∷ []))
    ∷ left one_row (names 8) (book_of (names 8 ∷ [])) 53 (replicate 53 255)
    ∷ left one_row bad_tag (book_of (names 8 ∷ [])) 54 (replicate 54 255)
    ∷ left one_row (names 8) (with_card (names 8) []) 54 (replicate 54 255)
    ∷ left one_row (names 8) (book_of (names 8 ∷ bad_tag ∷ [])) 54 (replicate 54 255)
    ∷ left four_rows grows (book_of (names 8 ∷ [])) 200 (replicate 200 255)
    ∷ left four_rows (names 8) (book_of (names 8 ∷ grows ∷ [])) 200 (replicate 200 255)
    ∷ []

pub all_pass : run_all cases ≡ cases
unfolding be ends_at put zeros some depth_in depth tag_ok length_for kind_ok role_ok parent_ok value_field row_field end_field field_at
    scan_from reading_of row_count merged_tree merged_count normal_tree_of covers
    field_place field_value field_with fields_from field_count fields_form is_passed_over minimal most_specific set_below
    most_specific_cards
    asked_from read_asked merged_asked book_asked most_specific_answer
all_pass = refl
