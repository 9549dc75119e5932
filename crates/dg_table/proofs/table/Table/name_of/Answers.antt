use Rattle.std.proofs.Common.{ℕ, List, None, sym, ◌∙◌, subst}
use Rattle.std.specs.List.{Contains}
use Rattle.dg_table.specs.Rows.{IsNameOf, AreInverse}
use Rattle.dg_table.proofs.RowLemmas.{name_at_place, name_at_no_place, none_answered, inverse}
use Rattle.dg_table.proofs.table.Table.name_of.Goals as goal

pub returns-in_err-place : goal.returns-in_err-place
returns-in_err-place g c =
    let answer : IsNameOf c.args.self.now c.args.code None =
    name_at_no_place g.S.Name.bytes c.self.inside.rows _ _ c.self.view_is (sym c.place_of_code.ensures ∙ c.in_err-place.was) in
    rw c.from_residual.ensures
    (record {
      answer = answer;
      none = none_answered (λ (name : List ℕ). Contains c.args.self.now (name, c.args.code)) None answer;
      inverse = subst AreInverse c.self.view_is (inverse _ c.self.invariant);
    })

pub returns : goal.returns
returns g c =
    let answer =
    name_at_place g.S.Name.bytes c.self.inside.rows c.args.self.now c.in_ok-place.place c.index-self-place.result c.args.code c.self.view_is c.self.invariant
    (sym c.place_of_code.ensures ∙ c.in_ok-place.was) in
    record {
      answer = answer;
      none = none_answered (λ (name : List ℕ). Contains c.args.self.now (name, c.args.code)) _ answer;
      inverse = subst AreInverse c.self.view_is (inverse _ c.self.invariant);
    }
