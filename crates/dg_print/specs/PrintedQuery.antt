-- Fields, blocks and queries, written as words.
use Rattle.std.specs.Prelude.{ℕ, List, [], ◌∷◌, ◌++◌, flat_map, Option, Some, None, codes}
use Rattle.dg_text.specs.Marks.{open_curly, close_curly, comma, colon}
use Rattle.dg_parse.specs.declared.query.QBlock.{QBlock}
use Rattle.dg_parse.specs.declared.query.QField.{QField}
use Rattle.dg_parse.specs.declared.query.QItem.TheOpen.{QField-F, QItem-F}
use Rattle.dg_parse.specs.declared.query.QItem.TheFolds.{fold-QField}
use Rattle.dg_parse.specs.declared.query.QArg.{QArg}
use Rattle.dg_parse.specs.declared.query.QFunc.{QFunc}
use Rattle.dg_parse.specs.declared.query.Query.{Query}
use Rattle.dg_parse.specs.Keys.{aggregate_word}
use Rattle.dg_print.specs.Printed.{in_round, edge_words, val_words, func_words, arg_words, args_words, dir_words}
use Rattle.dg_text.specs.Spelling.{name_word, mark_word}
use Rattle.dg_text.specs.Written.{Word, written}

-- [ Name "as" ]
abbrev pub var_words : Option (List ℕ) → List Word
var_words None = []
var_words (Some x) = name_word x ∷ name_word (codes "as") ∷ []

-- [ Name ":" ]
abbrev pub alias_words : Option (List ℕ) → List Word
alias_words None = []
alias_words (Some key) = name_word key ∷ mark_word colon ∷ []

-- [ "{" { field } "}" ], by the words of the fields
abbrev pub braces_words : Option (List (List Word)) → List Word
braces_words None = []
braces_words (Some fields) = mark_word open_curly ∷ (flat_map (λ ws. ws) fields ++ mark_word close_curly ∷ [])

-- item, by the words of the fields in it
abbrev pub item_words : QItem-F (List Word) (List Word) → List Word
item_words QItem-F.Uid = name_word (codes "uid") ∷ []
item_words QItem-F.CountUid = name_word (codes "count") ∷ in_round (name_word (codes "uid") ∷ [])
item_words (QItem-F.Count e) = name_word (codes "count") ∷ in_round (edge_words e)
item_words (QItem-F.Val x) = val_words x
item_words (QItem-F.Agg op x) = name_word (aggregate_word op) ∷ in_round (val_words x)
item_words (QItem-F.Edge e args dirs fields) = edge_words e ++ (args_words args ++ (flat_map dir_words dirs ++ braces_words fields))

-- field, by the words of its item; a comma stands behind each, so that what follows is no part of it
abbrev pub words_of_field : QField-F (List Word) (List Word) → List Word
words_of_field f = var_words f.var ++ (alias_words f.alias ++ (f.item ++ mark_word comma ∷ []))

-- field
abbrev pub field_words : QField → List Word
field_words = fold-QField (List Word) (List Word) item_words words_of_field

-- [ "func" ":" func { "," arg } ]
abbrev pub root_words : Option QFunc → List QArg → List Word
root_words None args = []
root_words (Some f) args = name_word (codes "func") ∷ mark_word colon ∷ (func_words f ++ flat_map (λ a. mark_word comma ∷ arg_words a) args)

-- block
abbrev pub block_words : QBlock → List Word
block_words b =
    var_words b.var ++ name_word b.name ∷ (in_round (root_words b.func b.args)
    ++ (flat_map dir_words b.dirs ++ mark_word open_curly ∷ (flat_map field_words b.fields ++ mark_word close_curly ∷ [])))

-- query, without its own word
abbrev pub query_words : Query → List Word
query_words q = mark_word open_curly ∷ (flat_map block_words q.blocks ++ mark_word close_curly ∷ [])

-- a query as a text
abbrev pub query_text : Query → List ℕ
query_text q = written (query_words q)
