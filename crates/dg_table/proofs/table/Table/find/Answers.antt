use Rattle.std.proofs.Common.{ℕ, None, sym, ◌∙◌, subst}
use Rattle.std.specs.List.{Contains}
use Rattle.dg_table.specs.Rows.{IsCodeOf, AreInverse}
use Rattle.dg_table.proofs.RowLemmas.{code_at_place, code_at_no_place, none_answered, inverse}
use Rattle.dg_table.proofs.table.Table.find.Goals as goal

pub returns-in_err-place : goal.returns-in_err-place
returns-in_err-place g c =
    let answer : IsCodeOf c.args.self.now c.args.name.now None =
    code_at_no_place g.S.Name.bytes c.self.inside.rows _ _ c.self.view_is (sym c.place_of_name.ensures ∙ c.in_err-place.was) in
    rw c.from_residual.ensures
    (record {
      answer = answer;
      none = none_answered (λ (code : ℕ). Contains c.args.self.now (c.args.name.now, code)) None answer;
      inverse = subst AreInverse c.self.view_is (inverse _ c.self.invariant);
    })

pub returns : goal.returns
returns g c =
    let answer =
    code_at_place g.S.Name.bytes c.self.inside.rows c.args.self.now c.in_ok-place.place c.index-self-place.result c.args.name.now c.self.view_is c.self.invariant
    (sym c.place_of_name.ensures ∙ c.in_ok-place.was) in
    record {
      answer = answer;
      none = none_answered (λ (code : ℕ). Contains c.args.self.now (c.args.name.now, code)) _ answer;
      inverse = subst AreInverse c.self.view_is (inverse _ c.self.invariant);
    }
