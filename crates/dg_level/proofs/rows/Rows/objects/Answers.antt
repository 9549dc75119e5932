use Rattle.std.proofs.Common.{◌≡◌, ℕ, ◌+◌, ◌<◌, List, [], ◌∷◌, ◌++◌, map, length, take, drop, get_or, sym, ap, ◌∙◌, arith, rules}
use Rattle.dg_level.specs.Parts.{parts_text, has_parts}
use Rattle.dg_level.specs.Rows.{total, objects_of}
use Rattle.dg_level.proofs.PartLaws.{parts_added, has_added, parts_pass, object_more, all_objects, of_level}
use Rattle.dg_level.proofs.rows.Rows.objects.Goals as goal

pub returns-in_err-wrote-clause-too_large : goal.returns-in_err-wrote-clause-too_large
returns-in_err-wrote-clause-too_large c = λ f rows among e.
    let nodes = c.args.list.now in
    let l = c.loop-node in
    let i = l.node-index in
    let lt : i < length nodes = omega (arith, c.loop-node-test.true) in
    let row : c.row_of.result.now ≡ f (get_or nodes i 0) = c.row_of.ensures f rows (of_level c.args.level.now nodes i 0 among lt) in
    let so = l.invariant.0 f rows among in
    let above : l.self.limit < total l.self.rows + length (l.self.begun ++ parts_text l.wrote (objects_of (c.row_of.result.now ∷ []))) = c.object.ensures.too_large (search rules) in
    let here : c.args.self.now.limit < total c.args.self.now.rows + length (l.self.begun ++ parts_text l.wrote (objects_of (f (get_or nodes i 0) ∷ []))) =
    omega (arith, above, ap total l.invariant.1, l.invariant.2, ap (λ (r : List ℕ). length (l.self.begun ++ parts_text l.wrote (objects_of (r ∷ [])))) row) in
    parts_pass c.args.self.now.begun l.self.begun c.args.before l.wrote (objects_of (map f (take i nodes))) so.0 so.1 (objects_of (f (get_or nodes i 0) ∷ [])) (objects_of (map f (drop (i + 1) nodes))) (objects_of (map f nodes))
    (total c.args.self.now.rows) c.args.self.now.limit (all_objects f nodes i 0 lt) here

pub loop-node-preserved : goal.loop-node-preserved
loop-node-preserved c = (
  λ f rows among.
      let nodes = c.args.list.now in
      let l = c.loop-node in
      let i = l.node-index in
      let lt : i < length nodes = omega (arith, c.loop-node-test.true) in
      let row : c.row_of.result.now ≡ f (get_or nodes i 0) = c.row_of.ensures f rows (of_level c.args.level.now nodes i 0 among lt) in
      let so = l.invariant.0 f rows among in
      let one = objects_of (f (get_or nodes i 0) ∷ []) in
      let front = objects_of (map f (take i nodes)) in
      let more : objects_of (map f (take (i + 1) nodes)) ≡ front ++ one = object_more f nodes i 0 lt in
      let added : c.object.new.self.begun ≡ l.self.begun ++ parts_text l.wrote one = c.in_ok-wrote.ensures.ok ∙ ap (λ (r : List ℕ). l.self.begun ++ parts_text l.wrote (objects_of (r ∷ []))) row in
      let has : c.in_ok-wrote.wrote ≡ has_parts l.wrote one = c.in_ok-wrote.ensures.wrote ∙ ap (λ (r : List ℕ). has_parts l.wrote (objects_of (r ∷ []))) row in (
        parts_added c.args.self.now.begun l.self.begun c.args.before l.wrote front so.0 so.1 one c.object.new.self.begun added ∙ ap (λ (p : List (List ℕ)). c.args.self.now.begun ++ parts_text c.args.before p) (sym more),
        has_added c.args.self.now.begun l.self.begun c.args.before l.wrote front so.0 so.1 one c.in_ok-wrote.wrote has ∙ ap (has_parts c.args.before) (sym more),
      ),
  c.object.ensures.rows ∙ c.loop-node.invariant.1,
  c.object.ensures.limit ∙ c.loop-node.invariant.2,
)
