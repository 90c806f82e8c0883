-- 02, U3, of refutations, "their defined names ignored".
--   OtherDefined   two files of individuals that are the same but for defined names
use Rattle.std.specs.Prelude.{◌<◌, ℕ, false, List, ◌≡◌}
use Rattle.table.specs.NameSet.{has}
use Rattle.table.specs.declared.layout.Limits.{Limits}
use Rattle.ale.specs.PictureSignature.{picture_signature}
use Rattle.meaning.specs.Meaning.{set_at}
use Rattle.countermodel.specs.Individual.{individual_names, individual_parent, individual_role, refutation_form}
use Rattle.countermodel.specs.Layout.{individual_count}
use Rattle.definitions.specs.Tbox.{defined_word}

pub record OtherDefined (limits : Limits) (tbox e d : List ℕ) : Type 0 where
  pub form : refutation_form limits e ≡ refutation_form limits d
  pub count : individual_count e ≡ individual_count d
  pub parents : (k : ℕ) → k < individual_count e → individual_parent e k ≡ individual_parent d k
  pub roles : (k : ℕ) → k < individual_count e → individual_role e k ≡ individual_role d k
  pub names : (k n : ℕ) → k < individual_count e → has (defined_word tbox) n ≡ false →
      picture_signature.has (set_at (individual_names e k)) n ≡ picture_signature.has (set_at (individual_names d k)) n
