use Rattle.std.proofs.Common.{rules, ◌≡◌, ◌∙◌, sym, ap, subst, true, false, [], ◌∷◌, ◌++◌}
use Rattle.std.specs.Arc.{arc_value}
use Rattle.std.specs.Ordering.{is_lt}
use Rattle.dg_pages.specs.Entries.{entries_of}
use Rattle.dg_pages.specs.Nodes.{pages_of, is_left, IsNode, IsForked}
use Rattle.dg_pages.proofs.PutLemmas.{put_low, put_high, put_page, node_low, node_high, node_page, same_page, same_low, same_high}
use Rattle.dg_pages.proofs.+put.Goals as goal
use Rattle.dg_pages.proofs.+put.Goals.{tree::Tree::put-in-Page, tree::Tree::put-in-Fork+then-low, tree::Tree::put-in-Fork+else-low}

pub tree::Tree::put-invariant_of-self : goal.tree::Tree::put-invariant_of-self
tree::Tree::put-invariant_of-self g t c =
    let o = g.met.K.Ord.total in
    let k = arc_value c.args.key.now in
    let v = arc_value c.args.value.now in
    elim c.match-self.branch [
      | tree::Tree::put-in-Page w ↦ subst (λ x. IsNode g.K.Ord.cmp x.node) (sym w.self-inside-is) (node_page o k v w.put_in_page.result w.in-Page.pairs w.put_in_page.new.pairs w.put_in_page.ensures.put w.put_in_page.ensures.err w.put_in_page.ensures.some w.put_in_page.ensures.fits (subst (IsNode g.K.Ord.cmp) w.in-Page.is c.self.invariant))
      | tree::Tree::put-in-Fork+then-low w ↦
          let low : is_lt (g.K.Ord.cmp k (arc_value w.in-Fork.middle)) ≡ true = ap (is_left g.K.Ord.cmp k) (sym w.in-Fork.is) ∙ search rules in
          subst (λ x. IsNode g.K.Ord.cmp x.node) (sym w.self-inside-is) (node_low o k v w.put_in.result w.in-Fork.middle w.in-Fork.left w.put_in.new.tree w.in-Fork.right w.in-Fork.pages w.put_in.ensures.put w.put_in.ensures.err w.put_in.ensures.pages w.put_in.ensures.paged low (subst (IsForked g.K.Ord.cmp) w.in-Fork.is c.self.invariant.forked))
      | tree::Tree::put-in-Fork+else-low w ↦
          let high : is_lt (g.K.Ord.cmp k (arc_value w.in-Fork.middle)) ≡ false = ap (is_left g.K.Ord.cmp k) (sym w.in-Fork.is) ∙ search rules in
          subst (λ x. IsNode g.K.Ord.cmp x.node) (sym w.self-inside-is) (node_high o k v w.put_in-else-low.result w.in-Fork.middle w.in-Fork.left w.in-Fork.right w.put_in-else-low.new.tree w.in-Fork.pages w.put_in-else-low.ensures.put w.put_in-else-low.ensures.err w.put_in-else-low.ensures.pages w.put_in-else-low.ensures.paged high (subst (IsForked g.K.Ord.cmp) w.in-Fork.is c.self.invariant.forked))
    ]

pub tree::Tree::put-returns-clause-put : goal.tree::Tree::put-returns-clause-put
tree::Tree::put-returns-clause-put g t c =
    let o = g.met.K.Ord.total in
    let k = arc_value c.args.key.now in
    let v = arc_value c.args.value.now in
    elim c.match-self.branch [
      | tree::Tree::put-in-Page w ↦
          let old : entries_of w.in-Page.pairs.items ∷ [] ≡ c.args.self.now = ap pages_of (sym w.in-Page.is) ∙ c.self.view_is in
          rw (w.result-is, w.self-inside-is, ← old) (put_page o k v w.put_in_page.result w.in-Page.pairs.items w.put_in_page.new.pairs.items w.put_in_page.ensures.put)
      | tree::Tree::put-in-Fork+then-low w ↦
          let old : arc_value w.in-Fork.left ++ arc_value w.in-Fork.right ≡ c.args.self.now = ap pages_of (sym w.in-Fork.is) ∙ c.self.view_is in
          let low : is_lt (g.K.Ord.cmp k (arc_value w.in-Fork.middle)) ≡ true = ap (is_left g.K.Ord.cmp k) (sym w.in-Fork.is) ∙ search rules in
          rw (w.result-is, w.self-inside-is, ← old) (put_low o k v w.put_in.result (arc_value w.in-Fork.middle) (arc_value w.in-Fork.left) (arc_value w.put_in.new.tree) (arc_value w.in-Fork.right) w.put_in.ensures.put low (subst (IsForked g.K.Ord.cmp) w.in-Fork.is c.self.invariant.forked).1.1.0)
      | tree::Tree::put-in-Fork+else-low w ↦
          let old : arc_value w.in-Fork.left ++ arc_value w.in-Fork.right ≡ c.args.self.now = ap pages_of (sym w.in-Fork.is) ∙ c.self.view_is in
          let high : is_lt (g.K.Ord.cmp k (arc_value w.in-Fork.middle)) ≡ false = ap (is_left g.K.Ord.cmp k) (sym w.in-Fork.is) ∙ search rules in
          rw (w.result-is, w.self-inside-is, ← old) (put_high o k v w.put_in-else-low.result (arc_value w.in-Fork.middle) (arc_value w.in-Fork.left) (arc_value w.in-Fork.right) (arc_value w.put_in-else-low.new.tree) w.put_in-else-low.ensures.put high (subst (IsForked g.K.Ord.cmp) w.in-Fork.is c.self.invariant.forked).1.1.0)
    ]

pub tree::Tree::put-returns-clause-err : goal.tree::Tree::put-returns-clause-err
tree::Tree::put-returns-clause-err g t c =
    let o = g.met.K.Ord.total in
    let k = arc_value c.args.key.now in
    let v = arc_value c.args.value.now in
    elim c.match-self.branch [
      | tree::Tree::put-in-Page w ↦
          let old : entries_of w.in-Page.pairs.items ∷ [] ≡ c.args.self.now = ap pages_of (sym w.in-Page.is) ∙ c.self.view_is in
          rw (w.result-is, w.self-inside-is, ← old) (same_page w.put_in_page.result w.in-Page.pairs.items w.put_in_page.new.pairs.items w.put_in_page.ensures.err)
      | tree::Tree::put-in-Fork+then-low w ↦
          let old : arc_value w.in-Fork.left ++ arc_value w.in-Fork.right ≡ c.args.self.now = ap pages_of (sym w.in-Fork.is) ∙ c.self.view_is in
          rw (w.result-is, w.self-inside-is, ← old) (same_low w.put_in.result (arc_value w.in-Fork.left) (arc_value w.put_in.new.tree) (arc_value w.in-Fork.right) w.put_in.ensures.err)
      | tree::Tree::put-in-Fork+else-low w ↦
          let old : arc_value w.in-Fork.left ++ arc_value w.in-Fork.right ≡ c.args.self.now = ap pages_of (sym w.in-Fork.is) ∙ c.self.view_is in
          rw (w.result-is, w.self-inside-is, ← old) (same_high w.put_in-else-low.result (arc_value w.in-Fork.left) (arc_value w.in-Fork.right) (arc_value w.put_in-else-low.new.tree) w.put_in-else-low.ensures.err)
    ]

pub tree::Tree::put-returns-clause-paged : goal.tree::Tree::put-returns-clause-paged
tree::Tree::put-returns-clause-paged g t c = (tree::Tree::put-invariant_of-self g t c).paged
