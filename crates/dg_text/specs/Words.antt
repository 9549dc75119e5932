-- What Names are, which predicates tokens stand for, and which names the query language keeps for itself.
use Rattle.std.specs.Prelude.{ℕ, Bool, ◌||◌, ◌&&◌, not, List, Option, Some, None, codes, if◌then◌else◌, length, ◌==◌, nat_le}
use Rattle.std.specs.Str.{bytes_eq}
use Rattle.dg_text.specs.Forms.{name_len}
use Rattle.dg_text.specs.Tokens.{Tok, is_name, is_iri}

-- all of the text is one Name
abbrev pub is_whole_name : List ℕ → Bool
is_whole_name text = not (name_len text == 0) && (name_len text == length text) && nat_le (name_len text) 64

-- the characters of a Name
abbrev pub name_meant : Tok → Option (List ℕ)
name_meant t = if is_name t then Some t.text else None

-- The predicate that a Name stands for, or an Iri with a Name in it. The text of an Iri is what stands between < and >.
abbrev pub predicate_meant : Tok → Option (List ℕ)
predicate_meant t = if is_name t || (is_iri t && is_whole_name t.text) then Some t.text else None

-- names that the query language keeps for itself
abbrev pub is_reserved : List ℕ → Bool
is_reserved word =
    bytes_eq word (codes "uid") || bytes_eq word (codes "count") || bytes_eq word (codes "val") || bytes_eq word (codes "min")
    || bytes_eq word (codes "max") || bytes_eq word (codes "sum") || bytes_eq word (codes "as") || bytes_eq word (codes "expand")

-- a Name that is one of these
abbrev pub is_reserved_name : Tok → Bool
is_reserved_name t = is_name t && is_reserved t.text
