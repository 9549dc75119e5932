-- Small mutations, as checked statements.
use Rattle.std.specs.Prelude.{ℕ, true, false, pos, List, [], ◌∷◌, codes}
use Rattle.dg_values.specs.declared.value.Value.TheVariants.{Int, Text}
use Rattle.dg_edges.specs.declared.edge.Named.{Named}
use Rattle.dg_edges.specs.declared.edge.Named.TheVariants.{Uid, New}
use Rattle.dg_edges.specs.declared.edge.Target.{Target}
use Rattle.dg_edges.specs.declared.edge.Target.TheVariants.{Node, Value, All}
use Rattle.dg_edges.specs.declared.edge.Edge.{Edge}

-- a subject has an object
abbrev pub states : Named → List ℕ → Target → Edge
states s p o = record { delete = false; s = s; p = p; o = o }

-- two films of one director, by names of new nodes
abbrev pub film_statements : List Edge
film_statements =
    states (New (codes "d")) (codes "name") (Value (Text (codes "Jane")))
    ∷ states (New (codes "p")) (codes "title") (Value (Text (codes "one")))
    ∷ states (New (codes "p")) (codes "year") (Value (Int (pos 1993)))
    ∷ states (New (codes "p")) (codes "genre") (Value (Text (codes "Drama")))
    ∷ states (New (codes "p")) (codes "director") (Node (New (codes "d")))
    ∷ states (New (codes "s")) (codes "title") (Value (Text (codes "zone")))
    ∷ states (New (codes "s")) (codes "year") (Value (Int (pos 2021)))
    ∷ states (New (codes "s")) (codes "genre") (Value (Text (codes "Western")))
    ∷ states (New (codes "s")) (codes "genre") (Value (Text (codes "Drama")))
    ∷ states (New (codes "s")) (codes "director") (Node (New (codes "d")))
    ∷ []

-- node 1 has no name any more
abbrev pub nameless_statement : Edge
nameless_statement = record { delete = true; s = Uid 1; p = codes "name"; o = All }
