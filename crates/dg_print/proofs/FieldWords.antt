-- Fields as words, and which fields are read with braces at most so deep.
use Rattle.std.proofs.Common.{◌≡◌, ℕ, zero, suc, Bool, true, false, ◌||◌, List, [], ◌∷◌, ◌++◌, map, flat_map, ap, refl, ◌∙◌}
use Rattle.std.specs.Prelude.{Option, Some, None, is_some, not, ◌&&◌, codes}
use Rattle.std.specs.Option.{option_map}
use Rattle.dg_parse.specs.declared.directives.Marks.{Marks}
use Rattle.dg_parse.specs.declared.directives.Owner.{Owner}
use Rattle.dg_parse.specs.declared.items.Around.{Around}
use Rattle.dg_parse.specs.declared.query.QArg.{QArg}
use Rattle.dg_parse.specs.declared.query.QDir.{QDir}
use Rattle.dg_parse.specs.declared.query.QEdge.{QEdge}
use Rattle.dg_parse.specs.declared.query.QField.{QField}
use Rattle.dg_parse.specs.declared.query.QItem.{QItem}
use Rattle.dg_parse.specs.declared.query.QItem.TheOpen.{QItem-F}
use Rattle.dg_parse.specs.declared.query.QItem.TheViews.{out-QItem}
use Rattle.dg_parse.specs.declared.query.QItem.TheFolds.{map-QItem, fold_out-QItem, fold_out-QField}
use Rattle.dg_parse.specs.Directives.{unmarked}
use Rattle.dg_parse.specs.Keys.{edge_text, count_key, val_key, agg_key, is_key, is_alias}
use Rattle.dg_print.specs.Printed.{args_words, dir_words, edge_words}
use Rattle.dg_print.specs.PrintedQuery.{var_words, alias_words, braces_words, item_words, words_of_field, field_words}
use Rattle.dg_print.specs.Printing.{words_of_item}
use Rattle.dg_text.specs.Spelling.{name_word, mark_word}
use Rattle.dg_text.specs.Written.{Word, IsWord}
use Rattle.dg_print.proofs.ArgumentsAgain.{AreArgs}
use Rattle.dg_print.proofs.DirectivesAgain.{AreDirs}
use Rattle.dg_print.proofs.Lists.{Items}
use Rattle.dg_print.proofs.NamesAgain.{IsPred}

-- ---- the words by the item

pub field_is : (f : QField) → field_words f ≡ var_words f.var ++ (alias_words f.alias ++ (words_of_item f.item ++ mark_word 44 ∷ []))
field_is f = fold_out-QField (List Word) (List Word) item_words words_of_field f

-- one layer of an item
abbrev pub Layer : Type 0
Layer = QItem-F QItem QField

-- the fields in braces
abbrev pub braces : Option (List QField) → List Word
braces None = []
braces (Some fs) = mark_word 123 ∷ (flat_map field_words fs ++ mark_word 125 ∷ [])

-- the words of a layer
abbrev pub layer_words : Layer → List Word
layer_words QItem-F.Uid = item_words QItem-F.Uid
layer_words QItem-F.CountUid = item_words QItem-F.CountUid
layer_words (QItem-F.Count e) = item_words (QItem-F.Count e)
layer_words (QItem-F.Val x) = item_words (QItem-F.Val x)
layer_words (QItem-F.Agg op x) = item_words (QItem-F.Agg op x)
layer_words (QItem-F.Edge e args dirs fields) = edge_words e ++ (args_words args ++ (flat_map dir_words dirs ++ braces fields))

all_words : (fs : List QField) → flat_map (λ ws. ws) (map field_words fs) ≡ flat_map field_words fs
all_words [] = refl
all_words (f ∷ fs) = ap (λ l. field_words f ++ l) (all_words fs)

braces_map : (fields : Option (List QField)) → braces_words (option_map (map field_words) fields) ≡ braces fields
braces_map None = refl
braces_map (Some fs) = ap (λ l. mark_word 123 ∷ (l ++ mark_word 125 ∷ [])) (all_words fs)

layer_is : (o : Layer) → item_words (map-QItem QItem QField (List Word) (List Word) words_of_item field_words o) ≡ layer_words o
layer_is QItem-F.Uid = refl
layer_is QItem-F.CountUid = refl
layer_is (QItem-F.Count e) = refl
layer_is (QItem-F.Val x) = refl
layer_is (QItem-F.Agg op x) = refl
layer_is (QItem-F.Edge e args dirs None) = refl
layer_is (QItem-F.Edge e args dirs (Some fs)) = ap (λ l. edge_words e ++ (args_words args ++ (flat_map dir_words dirs ++ (mark_word 123 ∷ (l ++ mark_word 125 ∷ []))))) (all_words fs)

pub item_is : (i : QItem) → words_of_item i ≡ layer_words (out-QItem i)
item_is i = fold_out-QItem (List Word) (List Word) item_words words_of_field i ∙ layer_is (out-QItem i)

-- ---- which fields are read

-- an aggregate
abbrev pub agg_layer : Layer → Bool
agg_layer QItem-F.Uid = false
agg_layer QItem-F.CountUid = false
agg_layer (QItem-F.Count e) = false
agg_layer (QItem-F.Val x) = false
agg_layer (QItem-F.Agg op x) = true
agg_layer (QItem-F.Edge e args dirs fields) = false

-- the key is new, or there is an alias
abbrev pub IsNew : Bool → List QField → List ℕ → Type 0
IsNew has_alias before key = (not has_alias && is_key before key) ≡ false

-- what owns the directives of an edge
abbrev pub edge_owner : Around → Owner
edge_owner b = record { block = false; has_func = b.has_func; recurse = b.recurse; as_place = 0 }

-- the fields in braces can stand there
abbrev pub AreBraces : Around → (List QField → Type 0) → Option (List QField) → Type 0
AreBraces b inner None = Unit {0}
AreBraces b inner (Some fs) = (b.recurse ≡ false) × inner fs

-- an edge can stand there
pub record IsEdge (b : Around) (inner : List QField → Type 0) (has_alias : Bool) (before : List QField) (e : QEdge) (args : List QArg) (dirs : List QDir) (fields : Option (List QField)) : Type 0 where
  pub pred : IsPred e.pred
  pub key : IsNew has_alias before (edge_text e)
  pub args_are : AreArgs args
  pub marks : Marks
  pub dirs_are : AreDirs (edge_owner b) unmarked marks
  pub dirs_is : marks.dirs ≡ dirs
  pub braces_are : AreBraces b inner fields

-- a layer of an item can stand there
abbrev pub IsLayer : Around → (List QField → Type 0) → Bool → Bool → List QField → Layer → Type 0
IsLayer b inner has_var has_alias before QItem-F.Uid = IsNew has_alias before (codes "uid")
IsLayer b inner has_var has_alias before QItem-F.CountUid = (has_var ≡ false) × (b.recurse ≡ false) × IsNew has_alias before (codes "count")
IsLayer b inner has_var has_alias before (QItem-F.Count e) = IsPred e.pred × IsNew has_alias before (count_key e)
IsLayer b inner has_var has_alias before (QItem-F.Val x) = IsWord (name_word x) × (has_var ≡ false) × IsNew has_alias before (val_key x)
IsLayer b inner has_var has_alias before (QItem-F.Agg op x) = IsWord (name_word x) × IsNew has_alias before (agg_key op x)
IsLayer b inner has_var has_alias before (QItem-F.Edge e args dirs fields) = IsEdge b inner has_alias before e args dirs fields

-- a Name where there is one
abbrev pub IsAnyName : Option (List ℕ) → Type 0
IsAnyName None = Unit {0}
IsAnyName (Some x) = IsWord (name_word x)

-- a field can stand behind others
pub record IsField (b : Around) (inner : List QField → Type 0) (before : List QField) (f : QField) : Type 0 where
  pub var : IsAnyName f.var
  pub var_fits : (is_some f.var && (not b.has_func || b.recurse)) ≡ false
  pub alias_name : IsAnyName f.alias
  pub alias_new : is_alias before f.alias ≡ false
  pub agg_fits : (agg_layer (out-QItem f.item) && b.has_func) ≡ false
  pub other_fits : (not (agg_layer (out-QItem f.item)) && not b.has_func) ≡ false
  pub layer : IsLayer b inner (is_some f.var) (is_some f.alias) before (out-QItem f.item)

-- fields that are read with braces at most so deep
unfoldable pub AreFields : Around → ℕ → List QField → Type 0
AreFields b zero fs = ⊥
AreFields b (suc depth) fs = Items (IsField b (λ gs. AreFields b depth gs)) [] fs
