-- Laws of the labels of sets of rows, and of what else the code has of a set.
--   part_with      a part of the label of a set with row c is that of row c joined with that of the set: a union has no order and takes a row once
--   part_joined    the same of what is equal to those parts
--   label_with     so the label of a set, joined with that of row c, is the label of the set with row c
--   none_hangs     from no rows nothing hangs
--   with_hangs     what hangs from a set with row c hangs from row c or from the set
--   same_hangs     from sets of the same rows the same hangs
--   known_with     the roles of what hangs from a set with row c
--   valued_none    the values of no rows
--   valued_with    and of a set with row c
--   valued_same    sets of the same rows have the same values
use Prim.Native.Nat.{◌+◌, ◌<◌, ◌≤◌, suc, zero, ℕ}
use borrow.Author.Tests.{eqb-false, eqb-true, ne_eqb}
use lib.Dec.{eqb}
use mathlib.Core.Bool.{Bool, ◌||◌, false, false≢true, true}
use mathlib.Core.List.{List, ◌∷◌}
use mathlib.Core.Logic.{⊎_elim}
use mathlib.Core.Path.{◌∙◌, ◌≡◌, ap, refl, subst, sym}
use native.Mathlib.Nat.{mod-eq_of_lt}
use native.Mathlib.Omega.{arith}
use Rattle.ale.proofs.RowLists.{filter_from_same, filter_from_none}
use Rattle.ale.specs.Merged.{label_of_set, label_union}
use Rattle.ale.specs.PictureSignature.{picture_signature}
use Rattle.ale.specs.Rows.{filter_below, filter_from}
use Rattle.ale.specs.Signature.{Signature}
use Rattle.ale.specs.Table.{Table}
use Rattle.ale.specs.Tree.{Label, empty_label}
use Rattle.meaning.specs.Meaning.{picture_table}
use Rattle.table.proofs.Bools.{either}
use Rattle.table.proofs.NameSets.{has_union, set_ext}
use Rattle.table.specs.Fields.{impossible_of, parent_of}
use Rattle.table.specs.NameSet.{has, union}
use Rattle.table.specs.Pick.{pick}
use Rattle.row_sets.specs.declared.label.Label as code
use Rattle.row_sets.specs.declared.rows.Successors.{Successors}
use Rattle.row_sets.specs.declared.values.Values.{Values}
use Rattle.row_sets.specs.Labels.{Added, Joined, LabelIs, Valued}
use Rattle.row_sets.specs.Rows.{Checked, Hung, Known, also, hangs, holds}
use Rattle.table.proofs.Tests.{or_again, or_swap}
use Rattle.table.proofs.Bools.{by_test}

module _ (S : Signature) (p : Table S) {A : Type 0} (part : Label S → A) (op : A → A → A)
    (joins : (l m : Label S) → part (label_union S l m) ≡ op (part l) (part m)) (swap : (a b c : A) → op a (op b c) ≡ op b (op a c))
    (again : (a b : A) → op a (op a b) ≡ op a b) where
  abbrev whole : List ℕ → A
  whole t = part (label_of_set S p t)

  abbrev row : ℕ → A
  row j = part (p.label j)

  at_row : (o : ℕ) (t : List ℕ) (b : Bool) → whole (o ∷ t) ≡ op (row o) (whole (pick b (o ∷ t) t))
  at_row o t true = joins (p.label o) (label_of_set S p t) ∙ sym (ap (op (row o)) (joins (p.label o) (label_of_set S p t)) ∙ again (row o) (whole t))
  at_row o t false = joins (p.label o) (label_of_set S p t)

  before_row : (c o : ℕ) (t t' : List ℕ) (b : Bool) → whole t' ≡ op (row c) (whole t) →
      whole (pick b (o ∷ t') t') ≡ op (row c) (whole (pick b (o ∷ t) t))
  before_row c o t t' true h =
      joins (p.label o) (label_of_set S p t')
      ∙ ap (op (row o)) h
      ∙ swap (row o) (row c) (whole t)
      ∙ ap (op (row c)) (sym (joins (p.label o) (label_of_set S p t)))
  before_row c o t t' false h = h

  pub part_with : (q : ℕ → Bool) (c o n : ℕ) → o ≤ c → c < o + n →
      whole (filter_from (λ j. eqb j c || q j) o n) ≡ op (row c) (whole (filter_from q o n))
  part_with q c o zero a b = absurd (omega arith)
  part_with q c o (suc n) a b =
      let t = filter_from q (suc o) n in
      by_test (eqb o c)
      (λ e. let same = eqb-true o c e in
      rw (e, filter_from_same (λ j. eqb j c || q j) q (suc o) n (λ j l b. rw (ne_eqb j c (λ z. omega arith))))
      (at_row o t (q o) ∙ ap (λ i. op (row i) (whole (pick (q o) (o ∷ t) t))) same))
      (λ e. let other = eqb-false o c e in rw e (before_row c o t _ (q o) (part_with q c (suc o) n (omega (arith, other)) (omega arith))))

  pub part_joined : (q : ℕ → Bool) (c n : ℕ) (x a b : A) → c < n → x ≡ op a b → a ≡ row c → b ≡ whole (filter_below q n) →
      x ≡ whole (filter_below (λ j. eqb j c || q j) n)
  part_joined q c n x a b l e f g =
      e ∙ ap (λ z. op z b) f ∙ ap (op (row c)) g ∙ sym (part_with q c 0 n (omega arith) (omega arith))

union_swap : (a b c : ℕ) → union a (union b c) ≡ union b (union a c)
union_swap a b c =
    set_ext (union a (union b c)) (union b (union a c))
    (λ n. rw (has_union a (union b c) n, has_union b c n, has_union b (union a c) n, has_union a c n) (or_swap (has a n) (has b n) (has c n)))

union_again : (a b : ℕ) → union a (union a b) ≡ union a b
union_again a b =
    set_ext (union a (union a b)) (union a b) (λ n. rw (has_union a (union a b) n, has_union a b n) (or_again (has a n) (has b n)))

pub label_with : (s : List ℕ) (rows : ℕ) (q : ℕ → Bool) (values : Values) (c : ℕ) (r : code.Label) → c < rows →
    Valued s rows q values → Joined s c values.label r →
    LabelIs r (label_of_set picture_signature (picture_table s) (filter_below (also c q) rows))
label_with s rows q values c r l valued joined =
    record {
      wanted_is = part_joined picture_signature (picture_table s) (λ m. m.wanted.set) union (λ m n. refl) union_swap union_again q c rows
          _ _ _ l joined.wanted_joins (sym (mod-eq_of_lt joined.wanted_fits)) valued.label_is.wanted_is;
      excluded_is = part_joined picture_signature (picture_table s) (λ m. m.excluded.set) union (λ m n. refl) union_swap union_again q c rows
          _ _ _ l joined.excluded_joins (sym (mod-eq_of_lt joined.excluded_fits)) valued.label_is.excluded_is;
      bottom_is = part_joined picture_signature (picture_table s) (λ m. m.bottom) ◌||◌ (λ m n. refl) or_swap or_again q c rows
          (eqb r.bottom 1) (eqb (impossible_of s c) 1) (eqb values.label.bottom 1) l joined.bottom_joins refl valued.label_is.bottom_is;
    }

pub none_hangs : (s : List ℕ) (j : ℕ) → hangs s (λ i. false) j ≡ false
unfolding hangs
none_hangs s j = by_test (eqb j 0) (λ e. rw e) (λ e. rw e)

pub valued_none : (s : List ℕ) (rows : ℕ) (v : Values) → LabelIs v.label (empty_label picture_signature) →
    ((j : ℕ) → holds v.successors.set j ≡ false) → Valued s rows (λ j. false) v
valued_none s rows v label empty =
    record {
      label_is = subst (λ t. LabelIs v.label (label_of_set picture_signature (picture_table s) t))
          (sym (filter_from_none (λ j. false) 0 rows (λ j a b. tt))) label;
      successors_are = λ j l. empty j ∙ sym (none_hangs s j);
      known = record { rootless = empty 0; known = λ j l h. absurd (false≢true (sym (empty j) ∙ h)) };
    }

pub with_hangs : (s : List ℕ) (q : ℕ → Bool) (c k : ℕ) → (hangs s (λ i. eqb i c) k || hangs s q k) ≡ hangs s (also c q) k
unfolding hangs
with_hangs s q c k = by_test (eqb k 0) (λ e. rw e) (λ e. rw e)

root_hangs : (s : List ℕ) (q : ℕ → Bool) → hangs s q 0 ≡ false
unfolding hangs
root_hangs s q = refl

pub known_with : (s : List ℕ) (rows c : ℕ) (successors r : Successors) → c < rows → Known s rows successors → Hung s rows c successors r → Known s rows r
known_with s rows c successors r l known hung =
    record {
      rootless = hung.set_is 0 (omega arith) ∙ ap (λ (b : Bool). b || holds successors.set 0) (root_hangs s (λ i. eqb i c)) ∙ known.rootless;
      known = λ k b h.
          ⊎_elim (λ e. hung.roles_met k b e) (λ e. hung.roles_kept _ (known.known k b e))
          (either (hangs s (λ i. eqb i c) k) (holds successors.set k) (sym (hung.set_is k b) ∙ h));
    }

pub valued_with : (s : List ℕ) (rows : ℕ) (q : ℕ → Bool) (values : Values) (c : ℕ) (r : Values) → c < rows →
    Valued s rows q values → Added s rows c values r → Valued s rows (also c q) r
valued_with s rows q values c r l valued added =
    let hung = added.successors_join in
    record {
      label_is = label_with s rows q values c r.label l valued added.label_joins;
      successors_are = λ k b.
          hung.set_is k b ∙ ap (λ (t : Bool). hangs s (λ i. eqb i c) k || t) (valued.successors_are k b) ∙ with_hangs s q c k;
      known = known_with s rows c values.successors r.successors l valued.known hung;
    }

pub same_hangs : (s : List ℕ) (rows : ℕ) (q q' : ℕ → Bool) → Checked s rows → ((j : ℕ) → j < rows → q j ≡ q' j) → (j : ℕ) → j < rows → hangs s q j ≡ hangs s q' j
unfolding hangs
same_hangs s rows q q' checked same j l =
    by_test (eqb j 0) (λ e. rw e) (λ e. rw e (same (parent_of s j) (omega (arith, checked.parents j (eqb-false j 0 e) l))))

pub valued_same : (s : List ℕ) (rows : ℕ) (q q' : ℕ → Bool) (v : Values) → Checked s rows → ((j : ℕ) → j < rows → q j ≡ q' j) →
    Valued s rows q v → Valued s rows q' v
valued_same s rows q q' v checked same valued =
    record {
      label_is = subst (λ t. LabelIs v.label (label_of_set picture_signature (picture_table s) t))
          (filter_from_same q q' 0 rows (λ j a b. same j (omega arith))) valued.label_is;
      successors_are = λ j l. valued.successors_are j l ∙ same_hangs s rows q q' checked same j l;
      known = valued.known;
    }
