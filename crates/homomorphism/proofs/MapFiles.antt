-- Laws of a map as a file.
--   images_none, images_turn, images_read        the images of the rows below i put into a list: none, one more, and what they read back as
--   length_map_file, map_file_tag, map_file_says,
--   map_file_ends, map_file_image                  a map file: its length, its tag, the length that it says, its end field, its images
--   map_put                                      head, images and end field, put one after the other, are the file
use Prim.Native.Nat.{◌%◌, ◌*◌, ◌+◌, ◌/◌, ◌<◌, ◌^◌, ◌≤◌, suc, zero, ℕ}
use lib.ListN.{get_or, length, length-append}
use lib.Seq.{get_or-append-add}
use mathlib.Core.Bool.{true}
use mathlib.Core.List.{List, [], ◌++◌, ◌∷◌}
use mathlib.Core.Logic.{⊎_elim}
use mathlib.Core.Path.{◌∙◌, ◌≡◌, ap, refl, sym}
use native.Mathlib.Nat.{add_assoc, add-zero, div-one, eq-or-lt_of_le}
use native.Mathlib.Numerals.{add-one}
use native.Mathlib.Omega.{arith}
use Rattle.table.proofs.Numbers.{be_append_left, be_append_right, be_be_bytes, be_inside, be_same, length_be_bytes}
use Rattle.table.proofs.Puts.{put_in, put_nil, put_put, put_three}
use Rattle.table.proofs.Rows.{length_end_bytes, parts_ends}
use Rattle.table.specs.Bounds.{max_rows}
use Rattle.table.specs.Fields.{end_bytes, ends_at}
use Rattle.table.specs.Layout.{end_size, head_size, length_offset, number_size}
use Rattle.table.specs.Number.{be, be_bytes}
use Rattle.table.specs.Put.{put}
use Rattle.homomorphism.specs.Layout.{image_of, image_place, map_tag}
use Rattle.homomorphism.specs.Map.{image_bytes, map_file}

two_bytes : (v : ℕ) → (v / 256 % 256 ∷ v % 256 ∷ []) ≡ be_bytes number_size v
unfolding be_bytes
two_bytes v = ap (λ (x : ℕ). v / 256 % 256 ∷ x % 256 ∷ []) (sym (div-one v))

module _ (im : ℕ → ℕ) where
  length_image_bytes : (n : ℕ) → length (image_bytes im n) ≡ number_size * n
  length_image_bytes zero = refl
  length_image_bytes (suc n) =
      omega (arith, length-append (image_bytes im n) (be_bytes number_size (im n)), length_image_bytes n, length_be_bytes number_size (im n))

  image_bytes_at : (n k : ℕ) → k < n → im k < 256 ^ number_size → be (image_bytes im n) (number_size * k) number_size ≡ im k
  image_bytes_at zero k l f = absurd (omega arith)
  image_bytes_at (suc n) k l f =
      ⊎_elim
      (λ (e : k ≡ n).
      let size : number_size * k ≡ length (image_bytes im n) + 0 = omega (arith, length_image_bytes n) in
      ap (λ (a : ℕ). be (image_bytes im n ++ be_bytes number_size (im n)) a number_size) size
      ∙ be_append_right (image_bytes im n) (be_bytes number_size (im n)) 0 number_size
      ∙ ap (λ (j : ℕ). be (be_bytes number_size (im j)) 0 number_size) (sym e)
      ∙ be_be_bytes number_size (im k) f)
      (λ (b : k < n).
      be_append_left (image_bytes im n) (be_bytes number_size (im n)) (number_size * k) number_size (omega (arith, length_image_bytes n))
      ∙ image_bytes_at n k b f)
      (eq-or-lt_of_le (omega arith))

  module _ (d : List ℕ) where
    pub images_none : d ≡ put d (image_place 0) (image_bytes im 0)
    images_none = sym (put_nil d (image_place 0))

    pub images_turn : (out out' : List ℕ) (i v at : ℕ) → image_place i ≤ length d → out ≡ put d (image_place 0) (image_bytes im i) →
        v ≡ im i → at ≡ image_place i → out' ≡ put out at (v / 256 % 256 ∷ v % 256 ∷ []) →
        out' ≡ put d (image_place 0) (image_bytes im (i + 1))
    images_turn out out' i v at h e w a p =
        let size = length_image_bytes i in
        let place : at ≡ image_place 0 + length (image_bytes im i) = omega arith in
        rw (p, e, place, w, add-one, two_bytes (im i)) (put_put d (image_place 0) (image_bytes im i) (be_bytes number_size (im i)) (omega arith))

    pub images_read : (n k : ℕ) → image_place n ≤ length d → k < n → im k < 256 ^ number_size →
        image_of (put d (image_place 0) (image_bytes im n)) k ≡ im k
    images_read n k h l f =
        let size = length_image_bytes n in
        be_same (put d (image_place 0) (image_bytes im n)) (image_bytes im n) (image_place k) (number_size * k) number_size
        (λ i b.
        let e : image_place k + i ≡ image_place 0 + (number_size * k + i) = omega arith in
        ap (λ (j : ℕ). get_or (put d (image_place 0) (image_bytes im n)) j 0) e
        ∙ put_in d (image_place 0) (image_bytes im n) (number_size * k + i) (omega arith) (omega arith))
        ∙ image_bytes_at n k l f

-- the file

module _ (rows : ℕ) (im : ℕ → ℕ) where
  abbrev head : List ℕ
  head = map_tag ∷ be_bytes number_size (number_size * rows)

  length_head : length head ≡ head_size
  length_head = omega (arith, length_be_bytes number_size (number_size * rows))

  pub length_map_file : length (map_file rows im) ≡ image_place rows + end_size
  unfolding map_file
  length_map_file =
      omega (
        arith,
        length-append head (image_bytes im rows ++ end_bytes),
        length-append (image_bytes im rows) end_bytes,
        length_head,
        length_image_bytes im rows,
        length_end_bytes,
      )

  pub map_file_tag : get_or (map_file rows im) 0 0 ≡ map_tag
  unfolding map_file
  map_file_tag = refl

  pub map_file_says : rows ≤ max_rows → be (map_file rows im) length_offset number_size ≡ number_size * rows
  unfolding map_file
  map_file_says h = be_inside (map_tag ∷ []) (image_bytes im rows ++ end_bytes) number_size (number_size * rows) (omega arith)

  pub map_file_image : (k : ℕ) → k < rows → im k < 256 ^ number_size → image_of (map_file rows im) k ≡ im k
  unfolding map_file
  map_file_image k l f =
      let size = length_image_bytes im rows in
      let e : image_place k ≡ length head + number_size * k = omega (arith, length_head) in
      ap (λ (a : ℕ). be (map_file rows im) a number_size) e
      ∙ be_append_right head (image_bytes im rows ++ end_bytes) (number_size * k) number_size
      ∙ be_append_left (image_bytes im rows) end_bytes (number_size * k) number_size (omega arith)
      ∙ image_bytes_at im rows k l f

  -- the end field stands after the last image
  end_byte : (i : ℕ) → get_or (map_file rows im) (image_place rows + i) 0 ≡ get_or end_bytes i 0
  unfolding map_file
  end_byte i =
      let e : image_place rows + i ≡ length head + (length (image_bytes im rows) + i) = omega (arith, length_head, length_image_bytes im rows) in
      ap (λ (j : ℕ). get_or (map_file rows im) j 0) e
      ∙ get_or-append-add head (image_bytes im rows ++ end_bytes) (length (image_bytes im rows) + i) 0
      ∙ get_or-append-add (image_bytes im rows) end_bytes i 0

  pub map_file_ends : ends_at (map_file rows im) (image_place rows) ≡ true
  unfolding end_bytes be be_bytes
  map_file_ends =
      parts_ends (map_file rows im) (image_place rows) length_map_file
      (ap (λ (j : ℕ). get_or (map_file rows im) j 0) (sym (add-zero (image_place rows))) ∙ end_byte 0)
      (be_same (map_file rows im) end_bytes (image_place rows + length_offset) length_offset number_size
      (λ i l. ap (λ (j : ℕ). get_or (map_file rows im) j 0) (add_assoc (image_place rows) length_offset i) ∙ end_byte (length_offset + i)))

  pub map_put : (out l₁ l₂ l₃ : List ℕ) (end : ℕ) → image_place rows + end_size ≤ length out → end ≡ image_place rows →
      l₁ ≡ put out 0 (map_tag ∷ number_size * rows / 256 % 256 ∷ number_size * rows % 256 ∷ []) → l₂ ≡ put l₁ (image_place 0) (image_bytes im rows) →
      l₃ ≡ put l₂ end end_bytes → l₃ ≡ put out 0 (map_file rows im)
  unfolding map_file
  map_put out l₁ l₂ l₃ end h e p q r =
      let size = length_image_bytes im rows in
      let front = length_head in
      put_three out l₁ l₂ l₃ 0 0 (image_place 0) end head (image_bytes im rows) end_bytes refl (omega arith) (omega arith)
      (p ∙ ap (λ (b : List ℕ). put out 0 (map_tag ∷ b)) (two_bytes (number_size * rows))) q r (omega arith)
