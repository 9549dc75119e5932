use Rattle.std.proofs.Common.{◌≡◌, ℕ, ◌-◌, ◌<◌, List, [], ◌∷◌, ◌++◌, length, false, ap, ◌∙◌, subst, rules, refl}
use Rattle.dg_recurse.specs.Unfolding.{unfolded}
use Rattle.dg_recurse.specs.Rows.{row_text}
use Rattle.dg_recurse.specs.Columns.{pieces_at}
use Rattle.dg_recurse.specs.Written.{row_at}
use Rattle.dg_recurse.proofs.UnfoldLaws.{rows_are}
use Rattle.dg_recurse.proofs.WayLaws.{still_sound, left_again, none_again}
use Rattle.dg_recurse.proofs.walk.unfold_along.Goals as goal

pub row-requires-clause-sound : goal.row-requires-clause-sound
row-requires-clause-sound c =
    still_sound c.args.columns.now c.args.way.now c.enter.new.self c.in_ok-enter.ensures.raised c.requires.way.sound

pub returns-in_err-out-clause-too_large : goal.returns-in_err-out-clause-too_large
returns-in_err-out-clause-too_large c = λ pieces are e.
    let columns = c.args.columns.now in
    let left = c.args.depth - 1 in
    let node = c.args.node in
    let path : c.enter.new.self.path.items ≡ node ∷ [] = c.in_ok-enter.ensures.path ∙ ap (λ (path : List ℕ). path ++ node ∷ []) c.requires.way.path in
    let shown : row_at columns left c.enter.new.self.path.items node ≡ row_text (unfolded (pieces_at pieces) false left (node ∷ []) node) =
    ap (λ (path : List ℕ). row_at columns left path node) path ∙ rows_are columns pieces are left (node ∷ []) (node ∷ []) (λ n. refl) node in
    subst (λ (text : List ℕ). c.args.limit < length text) shown (c.row.ensures.too_large (search rules))

pub returns-clause-text : goal.returns-clause-text
returns-clause-text c = λ pieces are.
    let columns = c.args.columns.now in
    let left = c.args.depth - 1 in
    let node = c.args.node in
    let path : c.enter.new.self.path.items ≡ node ∷ [] = c.in_ok-enter.ensures.path ∙ ap (λ (path : List ℕ). path ++ node ∷ []) c.requires.way.path in
    c.in_ok-out.ensures.text ∙ ap (λ (path : List ℕ). row_at columns left path node) path ∙ rows_are columns pieces are left (node ∷ []) (node ∷ []) (λ n. refl) node

pub returns-clause-way : goal.returns-clause-way
returns-clause-way c =
    none_again c.args.columns.now c.args.way.now c.leave.new.self c.requires.way (
    left_again c.args.columns.now c.args.way.now c.enter.new.self c.row.new.way c.leave.new.self c.args.node c.in_ok-enter.ensures.path c.in_ok-out.ensures.kept
    c.leave.ensures.path
    c.leave.ensures.raised
    )
