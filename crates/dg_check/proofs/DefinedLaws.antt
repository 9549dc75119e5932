-- The names that a query's places define, block by block.
use Rattle.std.proofs.Common.{◌≡◌, false, List, [], ◌∷◌, ◌++◌, map, flat_map, refl, sym, ap, ◌∙◌}
use Rattle.std.proofs.lemmas.List.{map-append}
use Rattle.std.proofs.lemmas.List.Concat.{flat_map-append}
use Rattle.dg_parse.specs.declared.query.QBlock.{QBlock}
use Rattle.dg_check.specs.Places.{places_of_block}
use Rattle.dg_check.specs.Variables.{definition_at, definitions_in, names_for}
use Rattle.dg_check.specs.Blocks.{names_of_blocks}

pub names_by_blocks : (blocks : List QBlock) → flat_map (λ block. block.defined) (names_of_blocks blocks) ≡ names_for false (definitions_in [] (flat_map places_of_block blocks))
names_by_blocks [] = refl
names_by_blocks (b ∷ blocks) =
    ap (λ l. map (λ d. d.name) (definitions_in [] (places_of_block b)) ++ l) (names_by_blocks blocks)
    ∙ sym (ap (map (λ d. d.name)) (flat_map-append (definition_at []) (places_of_block b) (flat_map places_of_block blocks))
    ∙ map-append (λ d. d.name) (definitions_in [] (places_of_block b)) (definitions_in [] (flat_map places_of_block blocks)))
