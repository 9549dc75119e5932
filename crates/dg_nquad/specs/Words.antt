-- What single tokens say in a mutation.
use Rattle.std.specs.Prelude.{Bool, true, false, ◌||◌, ◌&&◌, not, List, ℕ, Option, Some, None, codes, if◌then◌else◌}
use Rattle.std.specs.Option.{option_and_then, option_map, option_or}
use Rattle.std.specs.Str.{bytes_eq}
use Rattle.dg_text.specs.Said.{behind, blank_name, uid_said}
use Rattle.dg_text.specs.Tokens.{Tok, is_iri, is_blank, is_word}
use Rattle.dg_values.specs.declared.kind.Kind.{Kind}
use Rattle.dg_values.specs.declared.kind.Kind.TheVariants as kinds
use Rattle.dg_nquad.specs.declared.mutation.Node.{Node}
use Rattle.dg_nquad.specs.declared.mutation.Node.TheVariants as nodes

-- The node that a token names: an Iri with a Uid in it, or, where nothing is deleted, a Blank.
abbrev pub node_meant : Bool → Tok → Option Node
node_meant delete t =
    if is_iri t then option_map nodes.Uid (uid_said t.text)
    else if not delete && is_blank t then option_map nodes.Blank (blank_name t.text)
    else None

-- the name of a type behind its front, of which there are a short and a long one
abbrev pub type_name : List ℕ → Option (List ℕ)
type_name iri = option_or (behind (codes "xs:") iri) (behind (codes "http://www.w3.org/2001/XMLSchema#") iri)

-- the kind of a type's name
abbrev pub kind_of_type : List ℕ → Option Kind
kind_of_type name =
    if bytes_eq name (codes "string") then Some kinds.Text
    else if bytes_eq name (codes "int") || bytes_eq name (codes "integer") then Some kinds.Int
    else if bytes_eq name (codes "boolean") then Some kinds.Bool
    else if bytes_eq name (codes "dateTime") || bytes_eq name (codes "date") then Some kinds.Time
    else None

-- the kind that an Iri names as a type
abbrev pub kind_meant : Tok → Option Kind
kind_meant t = if is_iri t then option_and_then kind_of_type (type_name t.text) else None

-- "set" or "delete", by whether it deletes
abbrev pub group_meant : Tok → Option Bool
group_meant t = if is_word (codes "set") t then Some false else if is_word (codes "delete") t then Some true else None
