use Rattle.std.proofs.Common.{◌≡◌, ℕ, ◌-◌, ◌<◌, ◌≤◌, Bool, List, [], ◌∷◌, map, get_or, length, codes, sym, ap, ◌∙◌, subst, arith, rules}
use Rattle.std.specs.Prelude.{Option, IfSome}
use Rattle.std.proofs.lemmas.Result.{IfOk-weaker}
use Rattle.dg_recurse.specs.declared.column.Column.{Column}
use Rattle.dg_recurse.specs.Rows.{objects_of, joined, enclosed}
use Rattle.dg_recurse.specs.Written.{edge_text, column_text, row_at, child_at, object_at, rows_behind}
use Rattle.dg_recurse.proofs.RowLaws.{objects_joined, longer, bare_enclosed}
use Rattle.dg_recurse.proofs.WalkLaws.{then_joined, none_joined, whole_passes, room_passes, all_parts, row_is, none_more, first_is, first_passes, array_is}
use Rattle.dg_recurse.proofs.WayLaws.{still_sound, far_child, kept_then, left_again}
use Rattle.dg_recurse.proofs.walk.+walk.Goals as goal

-- ---- a node to which an edge leads

pub child_row-row-requires : goal.child_row-row-requires
child_row-row-requires t c = (
  omega arith,
  (
    c.requires.near,
    still_sound c.args.columns.now c.may_show.new.way c.enter.new.self c.in_ok-enter.ensures.raised c.in_ok-may_show.ensures.kept.sound,
  ),
)

pub child_row-returns-clause-kept : goal.child_row-returns-clause-kept
child_row-returns-clause-kept t c =
    kept_then c.args.columns.now c.args.way.now c.may_show.new.way c.leave.new.self c.in_ok-may_show.ensures.kept (
    left_again c.args.columns.now c.may_show.new.way c.enter.new.self c.row.new.way c.leave.new.self c.args.node c.in_ok-enter.ensures.path c.in_ok-out.ensures.kept
    c.leave.ensures.path
    c.leave.ensures.raised
    )

-- ---- all objects

pub all_objects-returns-in_err-row-clause-too_large : goal.all_objects-returns-in_err-row-clause-too_large
all_objects-returns-in_err-row-clause-too_large t c = λ e.
    let l = c.loop-node in
    let nodes = c.args.nodes.now in
    let x = get_or nodes l.node-index 0 in
    let row = child_at c.args.columns.now c.args.left c.args.way.now.path.items in
    let lt : l.node-index < length nodes = omega (arith, c.loop-node-test.true) in
    let above : c.args.limit - c.len.result < length (child_at c.args.columns.now c.args.left l.way.path.items x) = c.child_row.ensures.too_large (search rules) in
    let here : c.args.limit - length l.out < length (row x) = omega (arith, above, c.len.ensures, ap (λ (path : List ℕ). length (child_at c.args.columns.now c.args.left path x)) l.invariant.0.path) in
    subst (λ (text : List ℕ). c.args.limit < length text) (sym (objects_joined row nodes)) (
    room_passes (object_at c.args.columns.now c.args.left c.args.way.now.path.items) nodes l.node-index 0 lt l.out l.invariant.1 c.args.limit (row x) (longer (codes "{") (row x) (codes "}")) here
    )

pub all_objects-returns-in_err-add-clause-too_large : goal.all_objects-returns-in_err-add-clause-too_large
all_objects-returns-in_err-add-clause-too_large t c = λ e.
    let l = c.loop-node in
    let nodes = c.args.nodes.now in
    let x = get_or nodes l.node-index 0 in
    let row = child_at c.args.columns.now c.args.left c.args.way.now.path.items in
    let lt : l.node-index < length nodes = omega (arith, c.loop-node-test.true) in
    let said : c.as_str.result.now ≡ row x = c.as_str.ensures ∙ c.in_ok-row.ensures.text ∙ ap (λ (path : List ℕ). child_at c.args.columns.now c.args.left path x) l.invariant.0.path in
    let above : c.args.limit < length (joined (l.out ∷ enclosed (codes "{") c.as_str.result.now (codes "}") ∷ [])) = c.add.ensures.too_large (search rules) in
    subst (λ (text : List ℕ). c.args.limit < length text) (sym (objects_joined row nodes)) (
    whole_passes (object_at c.args.columns.now c.args.left c.args.way.now.path.items) nodes l.node-index 0 lt l.out l.invariant.1 c.args.limit
    (subst (λ (text : List ℕ). c.args.limit < length (joined (l.out ∷ enclosed (codes "{") text (codes "}") ∷ []))) said above)
    )

pub all_objects-loop-node-preserved : goal.all_objects-loop-node-preserved
all_objects-loop-node-preserved t c =
    let l = c.loop-node in
    let nodes = c.args.nodes.now in
    let x = get_or nodes l.node-index 0 in
    let row = child_at c.args.columns.now c.args.left c.args.way.now.path.items in
    let lt : l.node-index < length nodes = omega (arith, c.loop-node-test.true) in
    let said : c.as_str.result.now ≡ row x = c.as_str.ensures ∙ c.in_ok-row.ensures.text ∙ ap (λ (path : List ℕ). child_at c.args.columns.now c.args.left path x) l.invariant.0.path in (
      kept_then c.args.columns.now c.args.way.now l.way c.child_row.new.way l.invariant.0 c.in_ok-row.ensures.kept,
      c.in_ok-add.ensures.ok
          ∙ ap (λ (text : List ℕ). joined (l.out ∷ enclosed (codes "{") text (codes "}") ∷ [])) said
          ∙ then_joined (object_at c.args.columns.now c.args.left c.args.way.now.path.items) nodes l.node-index 0 lt l.out l.invariant.1,
      c.add.ensures.within l.invariant.2,
    )

pub all_objects-loop-node-preserved-then-is_too_far : goal.all_objects-loop-node-preserved-then-is_too_far
all_objects-loop-node-preserved-then-is_too_far t c =
    let l = c.loop-node in
    let nodes = c.args.nodes.now in
    let x = get_or nodes l.node-index 0 in
    let path = c.args.way.now.path.items in
    let lt : l.node-index < length nodes = omega (arith, c.loop-node-test.true) in
    let none : child_at c.args.columns.now c.args.left path x ≡ [] = far_child c.args.columns.now c.args.reach.now.edges c.requires.near.near c.args.way.now l.way x c.args.left l.invariant.0 (c.is_too_far.ensures.0 c.if-is_too_far.true) in (
      l.invariant.0,
      none_joined (object_at c.args.columns.now c.args.left path) nodes l.node-index 0 lt l.out l.invariant.1 (ap (λ (text : List ℕ). enclosed (codes "{") text (codes "}")) none),
      l.invariant.2,
    )

pub all_objects-returns-clause-text : goal.all_objects-returns-clause-text
all_objects-returns-clause-text t c =
    let l = c.loop-node in
    let nodes = c.args.nodes.now in
    let past : length nodes ≤ l.node-index = omega (arith, c.loop-node-test.false) in
    all_parts (object_at c.args.columns.now c.args.left c.args.way.now.path.items) nodes l.node-index l.out past l.invariant.1
    ∙ sym (objects_joined (child_at c.args.columns.now c.args.left c.args.way.now.path.items) nodes)

-- ---- the first row

pub first_row-returns-in_err-row-clause-too_large : goal.first_row-returns-in_err-row-clause-too_large
first_row-returns-in_err-row-clause-too_large t c = λ e.
    let l = c.loop-node in
    let nodes = c.args.nodes.now in
    let x = get_or nodes l.node-index 0 in
    let row = child_at c.args.columns.now c.args.left c.args.way.now.path.items in
    let lt : l.node-index < length nodes = omega (arith, c.loop-node-test.true) in
    let above : c.args.limit < length (child_at c.args.columns.now c.args.left l.way.path.items x) = c.child_row.ensures.too_large (search rules) in
    first_passes row nodes l.node-index lt l.invariant.1 c.args.limit (subst (λ (path : List ℕ). c.args.limit < length (child_at c.args.columns.now c.args.left path x)) l.invariant.0.path above)

pub first_row-returns-then-not-is_empty-clause-text : goal.first_row-returns-then-not-is_empty-clause-text
first_row-returns-then-not-is_empty-clause-text t c =
    let l = c.loop-node in
    let nodes = c.args.nodes.now in
    let x = get_or nodes l.node-index 0 in
    let row = child_at c.args.columns.now c.args.left c.args.way.now.path.items in
    let lt : l.node-index < length nodes = omega (arith, c.loop-node-test.true) in
    let said : c.in_ok-row.row ≡ row x = c.in_ok-row.ensures.text ∙ ap (λ (path : List ℕ). child_at c.args.columns.now c.args.left path x) l.invariant.0.path in
    let some : c.in_ok-row.row ≡ [] → ⊥ = search rules in
    first_is row nodes l.node-index lt l.invariant.1 c.in_ok-row.row said some

pub first_row-loop-node-preserved : goal.first_row-loop-node-preserved
first_row-loop-node-preserved t c =
    let l = c.loop-node in
    let nodes = c.args.nodes.now in
    let x = get_or nodes l.node-index 0 in
    let row = child_at c.args.columns.now c.args.left c.args.way.now.path.items in
    let lt : l.node-index < length nodes = omega (arith, c.loop-node-test.true) in
    let said : c.in_ok-row.row ≡ row x = c.in_ok-row.ensures.text ∙ ap (λ (path : List ℕ). child_at c.args.columns.now c.args.left path x) l.invariant.0.path in
    let empty : c.in_ok-row.row ≡ [] = search rules in (
      kept_then c.args.columns.now c.args.way.now l.way c.child_row.new.way l.invariant.0 c.in_ok-row.ensures.kept,
      none_more row nodes l.node-index lt l.invariant.1 (sym said ∙ empty),
    )

-- ---- a row

pub row-returns-in-Some-clause-text : goal.row-returns-in-Some-clause-text
row-returns-in-Some-clause-text t c =
    subst (λ (o : Option (List ℕ)). IfSome o (λ text. text ≡ row_at c.args.columns.now c.args.left c.args.way.now.path.items c.args.node)) c.in-Some.is
    (c.in_ok-whole.ensures.text c.args.columns.now c.args.way.now.path.items c.requires.near)

pub row-returns-in_err-text-clause-too_large : goal.row-returns-in_err-text-clause-too_large
row-returns-in_err-text-clause-too_large t c = λ e.
    let l = c.loop-column in
    let columns = c.args.columns.now in
    let x = c.column-item.result in
    let part = column_text (rows_behind columns c.args.left c.args.way.now.path.items) c.args.node in
    let lt : l.column-index < length columns = omega (arith, c.loop-column-test.true) in
    let above : c.args.limit - c.len.result < length (column_text (rows_behind columns c.args.left l.way.path.items) c.args.node x) = c.column_of.ensures.too_large (search rules) in
    let here : c.args.limit - length l.out < length (part (get_or columns l.column-index x)) =
    omega (arith, above, c.len.ensures, ap (λ (path : List ℕ). length (column_text (rows_behind columns c.args.left path) c.args.node x)) l.invariant.0.path, ap (λ (x : Column). length (part x)) c.column-item.is) in
    subst (λ (text : List ℕ). c.args.limit < length text) (sym (row_is columns c.args.left c.args.way.now.path.items c.args.node)) (
    room_passes part columns l.column-index x lt l.out l.invariant.1 c.args.limit (part (get_or columns l.column-index x)) (omega arith) here
    )

pub row-returns-in_err-add-clause-too_large : goal.row-returns-in_err-add-clause-too_large
row-returns-in_err-add-clause-too_large t c = λ e.
    let l = c.loop-column in
    let columns = c.args.columns.now in
    let x = c.column-item.result in
    let part = column_text (rows_behind columns c.args.left c.args.way.now.path.items) c.args.node in
    let lt : l.column-index < length columns = omega (arith, c.loop-column-test.true) in
    let said : c.as_str.result.now ≡ part (get_or columns l.column-index x) =
    c.as_str.ensures ∙ c.in_ok-text.ensures.text ∙ ap (λ (path : List ℕ). column_text (rows_behind columns c.args.left path) c.args.node x) l.invariant.0.path ∙ ap part c.column-item.is in
    let above : c.args.limit < length (joined (l.out ∷ enclosed [] c.as_str.result.now [] ∷ [])) = c.add.ensures.too_large (search rules) in
    subst (λ (text : List ℕ). c.args.limit < length text) (sym (row_is columns c.args.left c.args.way.now.path.items c.args.node)) (
    whole_passes part columns l.column-index x lt l.out l.invariant.1 c.args.limit
    (subst (λ (text : List ℕ). c.args.limit < length (joined (l.out ∷ text ∷ []))) (bare_enclosed c.as_str.result.now ∙ said) above)
    )

pub row-loop-column-preserved : goal.row-loop-column-preserved
row-loop-column-preserved t c =
    let l = c.loop-column in
    let columns = c.args.columns.now in
    let x = c.column-item.result in
    let part = column_text (rows_behind columns c.args.left c.args.way.now.path.items) c.args.node in
    let lt : l.column-index < length columns = omega (arith, c.loop-column-test.true) in
    let said : c.as_str.result.now ≡ part (get_or columns l.column-index x) =
    c.as_str.ensures ∙ c.in_ok-text.ensures.text ∙ ap (λ (path : List ℕ). column_text (rows_behind columns c.args.left path) c.args.node x) l.invariant.0.path ∙ ap part c.column-item.is in (
      kept_then c.args.columns.now c.args.way.now l.way c.column_of.new.way l.invariant.0 c.in_ok-text.ensures.kept,
      c.in_ok-add.ensures.ok
          ∙ ap (λ (text : List ℕ). joined (l.out ∷ text ∷ [])) (bare_enclosed c.as_str.result.now ∙ said)
          ∙ then_joined part columns l.column-index x lt l.out l.invariant.1,
      c.add.ensures.within l.invariant.2,
    )

pub row-returns-clause-text : goal.row-returns-clause-text
row-returns-clause-text t c =
    let l = c.loop-column in
    let past : length c.args.columns.now ≤ l.column-index = omega (arith, c.loop-column-test.false) in
    all_parts (column_text (rows_behind c.args.columns.now c.args.left c.args.way.now.path.items) c.args.node) c.args.columns.now l.column-index l.out past l.invariant.1
    ∙ sym (row_is c.args.columns.now c.args.left c.args.way.now.path.items c.args.node)

-- ---- an array

pub shown_by-returns-clause-text : goal.shown_by-returns-clause-text
shown_by-returns-clause-text t c =
    let rows = map (child_at c.args.columns.now c.args.left c.args.way.now.path.items) c.args.nodes.now in
    let objects = c.as_str-2.ensures ∙ c.in_ok-objects.ensures.text in
    IfOk-weaker c.enclose-2.result (λ text. text ≡ enclosed (codes "[") c.as_str-2.result.now (codes "]")) (λ text. text ≡ edge_text c.args.single (objects_of rows))
    (λ text is. is ∙ array_is rows c.as_str-2.result.now objects ∙ ap (λ (single : Bool). edge_text single (objects_of rows)) (sym c.if-single.false)) c.enclose-2.ensures.text
