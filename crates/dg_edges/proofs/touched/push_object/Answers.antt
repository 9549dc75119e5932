use Rattle.std.proofs.Common.{◌≡◌, ◌++◌, List, flat_map, ap, subst, ◌∙◌}
use Rattle.std.specs.Prelude.{OnOk}
use Rattle.dg_keys.specs.declared.conflict.ConflictKey.{ConflictKey}
use Rattle.dg_edges.specs.Replaced.{keys_of_tokens}
use Rattle.dg_edges.proofs.ReplacedLaws.{keys_by_tokenizers}
use Rattle.dg_edges.proofs.touched.push_object.Goals as goal

pub returns : goal.returns
returns c =
    let def = c.args.def.now in
    let t = c.args.t.now in
    let object = c.args.object.now in
    let whole = ap (flat_map (keys_of_tokens def t object)) c.as_slice.ensures ∙ keys_by_tokenizers def t object in
    subst (λ (ks : List ConflictKey). OnOk c.push_tokenized.result (c.push_tokenized.new.found.items ≡ c.args.found.now.items ++ ks)) whole c.push_tokenized.ensures
