-- The subjects that are read for new definitions, and the filings by which index, reverse and count lists change.
use Rattle.std.specs.Prelude.{ℕ, Bool, true, false, not, ◌&&◌, List, [], ◌++◌, Option, Some, None, if◌then◌else◌, map, flat_map, length}
use Rattle.std.specs.List.{list_all}
use Rattle.dg_values.specs.Ascending.{has}
use Rattle.dg_values.specs.Order.{tokenizer_cmp}
use Rattle.dg_values.specs.declared.kind.Tokenizer.{Tokenizer}
use Rattle.dg_values.specs.declared.value.Posting.{Posting}
use Rattle.dg_schema.specs.declared.definition.PredDef.{PredDef}
use Rattle.dg_schema.specs.Definitions.{definition_of}
use Rattle.dg_graph.specs.declared.change.Triple.{Triple}
use Rattle.dg_graph.specs.Lookups.{holders}
use Rattle.dg_keys.specs.declared.key.Key.{Key}
use Rattle.dg_keys.specs.declared.key.Key.TheVariants.{Data, Reverse}
use Rattle.dg_keys.specs.declared.record.Part.{Part}
use Rattle.dg_edges.specs.Filing.{filed_at, filed_keys, filed_parts, filed_subjects, is_counted, nodes_under}
use Rattle.dg_edges.specs.Lists.{objects_at}
use Rattle.dg_edges.specs.declared.filing.Filed.{Filed}

-- ---- which subjects are read

-- each of some tokenizers is among others
abbrev pub has_each : List Tokenizer → List Tokenizer → Bool
has_each tokenizers some = list_all (has tokenizer_cmp tokenizers) some

-- both hold or neither
abbrev pub are_alike : Bool → Bool → Bool
are_alike true b = b
are_alike false b = not b

-- two definitions have one index, reverse and count
abbrev pub list_alike : PredDef → PredDef → Bool
list_alike old new = (has_each old.tokens new.tokens && has_each new.tokens old.tokens) && (are_alike old.reverse new.reverse && are_alike old.count new.count)

-- the predicate is declared otherwise than by a newer definition, so its subjects are read
abbrev pub is_reread : Option PredDef → PredDef → Bool
is_reread None newer = false
is_reread (Some old) newer = not (list_alike old newer)

-- the keys of the subjects of a predicate
abbrev pub subject_keys : List Triple → List ℕ → List Key
subject_keys graph p = map (Data p) (holders graph p)

-- those that are read for a newer definition
abbrev pub reread_keys : List PredDef → List Triple → PredDef → List Key
reread_keys schema graph newer = if is_reread (definition_of schema newer.name) newer then subject_keys graph newer.name else []

-- and for newer definitions
abbrev pub altered_keys : List PredDef → List Triple → List PredDef → List Key
altered_keys schema graph newer = flat_map (reread_keys schema graph) newer

-- ---- where they are filed

-- all of them, by their objects
abbrev pub filed_under_schema : List PredDef → List Triple → List Key → List Filed
filed_under_schema schema graph all = flat_map (λ key. filed_at schema key (objects_at graph key)) all

-- a key's node under the number of its subjects, which are these, where they are counted
abbrev pub filed_long : List PredDef → Key → List Posting → List Filed
filed_long schema (Reverse p o) subjects = if is_counted schema p then filed_subjects p o (length subjects) else []
filed_long schema key subjects = []

-- the nodes of some keys under the numbers of their subjects, which filings list
abbrev pub numbers_from : List PredDef → List Key → List Filed → List Filed
numbers_from schema all filed = flat_map (λ key. filed_long schema key (nodes_under filed key)) all

-- what lists gain and lose from filings under one schema to filings under another
abbrev pub altered_parts : List PredDef → List PredDef → List Filed → List Filed → List Part
altered_parts old new before after =
    filed_parts before after
    ++ filed_parts (numbers_from old (filed_keys before after) before) (numbers_from new (filed_keys before after) after)
