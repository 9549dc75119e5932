use Rattle.std.proofs.Common.{◌≡◌, ℕ, ◌+◌, ◌<◌, false, List, [], ◌∷◌, ◌++◌, flat_map, length, take, drop, get_or, sym, ap, ◌∙◌, arith, rules, append-nil}
use Rattle.std.proofs.lemmas.List.{get_or_default}
use Rattle.std.proofs.lemmas.List.Concat.{flat_map-append}
use Rattle.dg_tree.specs.declared.tree.Field.{Field}
use Rattle.dg_level.specs.Parts.{parts_text, has_parts}
use Rattle.dg_level.specs.Rows.{total}
use Rattle.dg_level.specs.Flats.{flat_texts}
use Rattle.dg_level.proofs.PartLaws.{parts_added, has_added, parts_pass, of_level}
use Rattle.dg_level.proofs.FlatTexts.{texts_joined, made_more, all_made}
use Rattle.dg_level.proofs.rows.Rows.flats_of.Goals as goal

-- the texts of the objects of nodes
made : (ℕ → List (List Field)) → List ℕ → List (List ℕ)
made f nodes = flat_texts (flat_map f nodes)

joins : (f : ℕ → List (List Field)) (nodes more : List ℕ) → made f (nodes ++ more) ≡ made f nodes ++ made f more
unfolding made
joins f nodes more = ap flat_texts (flat_map-append f nodes more) ∙ texts_joined (flat_map f nodes) (flat_map f more)

alone : (f : ℕ → List (List Field)) (node : ℕ) → made f (node ∷ []) ≡ flat_texts (f node)
unfolding made
alone f node = ap flat_texts (append-nil (f node))

pub returns-in_err-wrote-clause-too_large : goal.returns-in_err-wrote-clause-too_large
unfolding made
returns-in_err-wrote-clause-too_large c = λ f level among e.
    let nodes = c.args.list.now in
    let l = c.loop-node in
    let i = l.node-index in
    let lt : i < length nodes = omega (arith, c.loop-node-test.true) in
    let x = get_or nodes i 0 in
    let here : c.objects_of.result.now ≡ f x = c.objects_of.ensures f level (of_level c.args.level.now nodes i 0 among lt) in
    let so = l.invariant.0 f level among in
    let above : l.self.limit < total l.self.rows + length (l.self.begun ++ parts_text l.wrote (flat_texts c.objects_of.result.now)) = c.flats.ensures.too_large (search rules) in
    let passes : c.args.self.now.limit < total c.args.self.now.rows + length (l.self.begun ++ parts_text l.wrote (made f (x ∷ []))) =
    omega (arith, above, ap total l.invariant.1, l.invariant.2, ap (λ objects. length (l.self.begun ++ parts_text l.wrote (flat_texts objects))) here, ap (λ texts. length (l.self.begun ++ parts_text l.wrote texts)) (alone f x)) in
    parts_pass c.args.self.now.begun l.self.begun false l.wrote (made f (take i nodes)) so.0 so.1 (made f (x ∷ [])) (made f (drop (i + 1) nodes)) (made f nodes) (total c.args.self.now.rows) c.args.self.now.limit
    (all_made (made f) (joins f) nodes i x lt (get_or_default nodes i 0 x lt)) passes

pub loop-node-preserved : goal.loop-node-preserved
unfolding made
loop-node-preserved c = (
  λ f level among.
      let nodes = c.args.list.now in
      let l = c.loop-node in
      let i = l.node-index in
      let lt : i < length nodes = omega (arith, c.loop-node-test.true) in
      let x = get_or nodes i 0 in
      let here : c.objects_of.result.now ≡ f x = c.objects_of.ensures f level (of_level c.args.level.now nodes i 0 among lt) in
      let so = l.invariant.0 f level among in
      let texts : flat_texts c.objects_of.result.now ≡ made f (x ∷ []) = ap flat_texts here ∙ sym (alone f x) in
      let more : made f (take (i + 1) nodes) ≡ made f (take i nodes) ++ made f (x ∷ []) = made_more (made f) (joins f) nodes i x lt (get_or_default nodes i 0 x lt) in
      let added : c.flats.new.self.begun ≡ l.self.begun ++ parts_text l.wrote (made f (x ∷ [])) = c.in_ok-wrote.ensures.ok ∙ ap (λ t. l.self.begun ++ parts_text l.wrote t) texts in
      let has : c.in_ok-wrote.wrote ≡ has_parts l.wrote (made f (x ∷ [])) = c.in_ok-wrote.ensures.wrote ∙ ap (has_parts l.wrote) texts in (
        parts_added c.args.self.now.begun l.self.begun false l.wrote (made f (take i nodes)) so.0 so.1 (made f (x ∷ [])) c.flats.new.self.begun added ∙ ap (λ p. c.args.self.now.begun ++ parts_text false p) (sym more),
        has_added c.args.self.now.begun l.self.begun false l.wrote (made f (take i nodes)) so.0 so.1 (made f (x ∷ [])) c.in_ok-wrote.wrote has ∙ ap (has_parts false) (sym more),
      ),
  c.flats.ensures.rows ∙ c.loop-node.invariant.1,
  c.flats.ensures.limit ∙ c.loop-node.invariant.2,
)
