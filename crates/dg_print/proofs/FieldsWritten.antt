-- Fields and blocks that are written.
use Rattle.std.proofs.Common.{◌≡◌, ℕ, List, [], ◌∷◌, ◌++◌, append_assoc, append-nil, sym, ap, ◌∙◌, codes}
use Rattle.std.specs.Prelude.{flat_map, Option, Some}
use Rattle.dg_text.specs.Spelling.{name_word, mark_word}
use Rattle.dg_text.specs.Written.{Word, written}
use Rattle.dg_print.specs.Printed.{in_round, edge_words, func_words, arg_words, args_words, dir_words}
use Rattle.dg_print.specs.PrintedQuery.{var_words, alias_words, field_words, root_words, block_words}
use Rattle.dg_print.specs.Printing.{words_of_item}
use Rattle.dg_parse.specs.declared.query.QArg.{QArg}
use Rattle.dg_parse.specs.declared.query.QBlock.{QBlock}
use Rattle.dg_parse.specs.declared.query.QDir.{QDir}
use Rattle.dg_parse.specs.declared.query.QEdge.{QEdge}
use Rattle.dg_parse.specs.declared.query.QField.{QField}
use Rattle.dg_parse.specs.declared.query.QFunc.{QFunc}
use Rattle.dg_parse.specs.declared.query.QItem.TheViews as views
use Rattle.dg_print.proofs.FieldWords.{layer_words, item_is, field_is}
use Rattle.dg_print.proofs.WordsWritten.{two_written, three_written}

-- an edge without braces
pub bare_written : (e a d : List Word) → written (e ++ (a ++ (d ++ []))) ≡ written (e ++ (a ++ d))
bare_written e a d = ap (λ (ws : List Word). written (e ++ (a ++ ws))) (append-nil d)

-- the words of an edge with its arguments and directives, and of fields in braces
abbrev pub whole_edge : QEdge → List QArg → List QDir → List Word → List Word
whole_edge e args dirs ws = edge_words e ++ (args_words args ++ (flat_map dir_words dirs ++ mark_word 123 ∷ (ws ++ mark_word 125 ∷ [])))

-- an edge that has braces
edge_is : (e : QEdge) (args : List QArg) (dirs : List QDir) (fs : List QField) → words_of_item (views.Edge e args dirs (Some fs)) ≡ whole_edge e args dirs (flat_map field_words fs)
edge_is e args dirs fs = item_is (views.Edge e args dirs (Some fs)) ∙ ap layer_words (views.outs-Edge e args dirs (Some fs))

-- the same, by what each part is equal to
pub edge_item : (old : List ℕ) (e : QEdge) (args : List QArg) (dirs : List QDir) (fields : Option (List QField)) (fs : List QField) (xs : List QArg) (ys : List QDir) (zs : List QField) → fields ≡ Some fs → xs ≡ args → ys ≡ dirs → zs ≡ fs
    → old ++ written (words_of_item (views.Edge e args dirs fields)) ≡ old ++ written (whole_edge e xs ys (flat_map field_words zs))
edge_item old e args dirs fields fs xs ys zs some is_args is_dirs is_fields =
    ap (λ (o : Option (List QField)). old ++ written (words_of_item (views.Edge e args dirs o))) some
    ∙ ap (λ (ws : List Word). old ++ written ws) (edge_is e args dirs fs)
    ∙ ap (λ (l : List QArg). old ++ written (whole_edge e l dirs (flat_map field_words fs))) (sym is_args)
    ∙ ap (λ (l : List QDir). old ++ written (whole_edge e xs l (flat_map field_words fs))) (sym is_dirs)
    ∙ ap (λ (l : List QField). old ++ written (whole_edge e xs ys (flat_map field_words l))) (sym is_fields)

pub edge_written : (old : List ℕ) (e a d b : List Word) → old ++ written (e ++ (a ++ (d ++ b))) ≡ (old ++ written (e ++ (a ++ d))) ++ written b
edge_written old e a d b =
    ap (λ (ws : List Word). old ++ written ws) (ap (λ (ws : List Word). e ++ ws) (sym (append_assoc a d b)) ∙ sym (append_assoc e (a ++ d) b))
    ∙ two_written old (e ++ (a ++ d)) b

pub field_written : (old : List ℕ) (f : QField) → old ++ written (field_words f) ≡ (((old ++ written (var_words f.var)) ++ written (alias_words f.alias)) ++ written (words_of_item f.item)) ++ codes ", "
field_written old f =
    ap (λ (ws : List Word). old ++ written ws) (field_is f)
    ∙ three_written old (var_words f.var) (alias_words f.alias) (words_of_item f.item ++ mark_word 44 ∷ [])
    ∙ two_written ((old ++ written (var_words f.var)) ++ written (alias_words f.alias)) (words_of_item f.item) (mark_word 44 ∷ [])

-- arguments behind a comma each
abbrev pub more_args : List QArg → List Word
more_args args = flat_map (λ a. mark_word 44 ∷ arg_words a) args

pub root_written : (old : List ℕ) (f : QFunc) (args : List QArg) → old ++ written (root_words (Some f) args) ≡ ((old ++ codes "func : ") ++ written (func_words f)) ++ written (more_args args)
root_written old f args = sym (append_assoc old (codes "func : ") (written (func_words f ++ more_args args))) ∙ two_written (old ++ codes "func : ") (func_words f) (more_args args)

pub block_written : (old : List ℕ) (b : QBlock) → old ++ written (block_words b) ≡ (((old ++ written (var_words b.var)) ++ written (name_word b.name ∷ in_round (root_words b.func b.args))) ++ written (flat_map dir_words b.dirs)) ++ written (mark_word 123 ∷ (flat_map field_words b.fields ++ mark_word 125 ∷ []))
block_written old b =
    let head : List Word = name_word b.name ∷ in_round (root_words b.func b.args) in
    let braces : List Word = mark_word 123 ∷ (flat_map field_words b.fields ++ mark_word 125 ∷ []) in
    three_written old (var_words b.var) head (flat_map dir_words b.dirs ++ braces)
    ∙ two_written ((old ++ written (var_words b.var)) ++ written head) (flat_map dir_words b.dirs) braces
