-- Of rows other than 0 the bytes of kind and role say the same as kinds and roles.
use borrow.Author.Tests.{eq-eqb, ne_eqb}
use mathlib.Core.Path.{◌∙◌, sym}
use Rattle.homomorphism_search.proofs.Searches.{edge_bytes}
use Rattle.homomorphism_search.proofs.edge.hangs_by.Goals as goal

pub returns-then-kind-edge : goal.returns-then-kind-edge
returns-then-kind-edge c t w edge =
    let a = c.args in
    sym (edge_bytes a.s.now t w a.v c.kind.result a.edge.kind c.requires edge.row c.kind.ensures edge.kind_is
    ∙ simp (eq-eqb _ _ c.if-kind-edge.true, c.role.ensures, edge.role_is))

pub returns-else-kind-edge : goal.returns-else-kind-edge
returns-else-kind-edge c t w edge =
    let a = c.args in
    let apart = ne_eqb _ _ c.if-kind-edge.false in
    apart
    ∙ sym (edge_bytes a.s.now t w a.v c.kind.result a.edge.kind c.requires edge.row c.kind.ensures edge.kind_is
    ∙ rw apart)
