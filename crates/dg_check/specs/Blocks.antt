-- Which names each block defines and uses.
use Rattle.std.specs.Prelude.{List, [], map}
use Rattle.dg_parse.specs.declared.query.QBlock.{QBlock}
use Rattle.dg_check.specs.declared.blocks.BlockNames.{BlockNames}
use Rattle.dg_check.specs.Places.{Place, places_of_block}
use Rattle.dg_check.specs.Variables.{definitions_in, uses_in}

-- the names that the places of a block define, for which no schema is needed, and those that they use
abbrev pub names_of_block : List Place → BlockNames
names_of_block places = record { defined = map (λ d. d.name) (definitions_in [] places); used = map (λ u. u.name) (uses_in places) }

-- the names of each block
abbrev pub names_of_blocks : List QBlock → List BlockNames
names_of_blocks = map (λ block. names_of_block (places_of_block block))
