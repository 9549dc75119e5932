use Rattle.std.proofs.Common.{◌≡◌, ◌∷◌, ◌++◌, [], List, length, rules}
use Rattle.std.specs.List.{insert}
use Rattle.dg_schema.specs.declared.definition.PredDef.{PredDef}
use Rattle.dg_schema.proofs.InPlace.{added_indexed}
use Rattle.dg_schema.proofs.placing.add.Goals as goal

pub returns-clause-indexed : goal.returns-clause-indexed
returns-clause-indexed c =
    let definitions : List PredDef = c.args.definitions.now.items in
    let pushed : c.push_reserved.new.self.items ≡ definitions ++ c.args.definition ∷ [] = c.push_reserved.ensures.items in
    let place : c.len-place.result ≡ length definitions = search rules in
    let put : c.insert.new.self.items ≡ insert c.args.by_name.now.items c.args.at c.len-place.result = c.in-Ok.ensures.items in
    rw (pushed, put, place) (added_indexed definitions c.args.by_name.now.items c.args.definition c.args.at c.requires.indexed c.requires.belongs)
