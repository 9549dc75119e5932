-- Fields are read again.
use Rattle.std.proofs.Common.{◌≡◌, ℕ, zero, suc, ◌<◌, Bool, true, false, ◌||◌, List, [], ◌∷◌, ◌++◌, flat_map, length, ap, refl, sym, ◌∙◌, subst, arith, length-append}
use Rattle.std.specs.Prelude.{Option, Some, None, Ok, is_some, not, ◌&&◌, codes}
use Rattle.std.specs.Str.{bytes_eq}
use Rattle.std.proofs.lemmas.Bool.{false≢true}
use Rattle.dg_text.specs.Cases.{Reader, optional}
use Rattle.dg_text.specs.Marks.{open_round, open_curly, comma, colon}
use Rattle.dg_text.specs.Reading.{next, next_two}
use Rattle.dg_text.specs.Tokens.{Tok, is_name, is_punct, is_word}
use Rattle.dg_parse.specs.declared.directives.Owner.{Owner}
use Rattle.dg_parse.specs.declared.items.Around.{Around}
use Rattle.dg_parse.specs.declared.items.Start.{Start}
use Rattle.dg_parse.specs.declared.query.AggOp.{AggOp}
use Rattle.dg_parse.specs.declared.query.AggOp.TheVariants as aggregates
use Rattle.dg_parse.specs.declared.query.QArg.{QArg}
use Rattle.dg_parse.specs.declared.query.QDir.{QDir}
use Rattle.dg_parse.specs.declared.query.QDir.TheVariants as dirs
use Rattle.dg_parse.specs.declared.query.QEdge.{QEdge}
use Rattle.dg_parse.specs.declared.query.QField.{QField}
use Rattle.dg_parse.specs.declared.query.QItem.{QItem}
use Rattle.dg_parse.specs.declared.query.QItem.TheVariants as items
use Rattle.dg_parse.specs.declared.query.QItem.TheOpen.{QItem-F}
use Rattle.dg_parse.specs.declared.query.QItem.TheViews.{out-QItem, roll-QItem, roll-out-QItem}
use Rattle.dg_parse.specs.Directives.{all_dirs}
use Rattle.dg_parse.specs.Fields.{uid_item, count_uid, count_edge, count_item, val_item, agg_item, braces, edge_item, begins_aggregate, begins_other, item, front, field, begins_field, some_fields, fields}
use Rattle.dg_parse.specs.Keys.{aggregate_word, is_alias}
use Rattle.dg_parse.specs.Names.{variable, any_variable, alias, any_alias}
use Rattle.dg_print.specs.Printed.{edge_words, args_words, dir_words, val_words}
use Rattle.dg_print.specs.PrintedQuery.{var_words, alias_words, field_words}
use Rattle.dg_print.specs.Printing.{words_of_item}
use Rattle.dg_text.specs.Spelling.{name_word, at_word, mark_word}
use Rattle.dg_parse.specs.Words.{aggregate_meant}
use Rattle.dg_text.specs.Written.{Word, IsWord}
use Rattle.dg_print.proofs.Again.{Reads, AreWords, words_append, never, at, on, tok_from, behind, on_append}
use Rattle.dg_print.proofs.ArgumentsAgain.{is_open, args_read}
use Rattle.dg_print.proofs.DirectivesAgain.{SameOwner, bars_dirs, DirsAgain, ReadDirs, dirs_read}
use Rattle.dg_print.proofs.FieldWords.{field_is, Layer, layer_words, item_is, agg_layer, IsNew, edge_owner, AreBraces, IsEdge, IsLayer, IsAnyName, IsField, AreFields}
use Rattle.dg_print.proofs.FieldWords as shown
use Rattle.dg_print.proofs.FixedWords.{fixed, sign}
use Rattle.dg_print.proofs.Lists.{Items, Repeats, repeated_reads}
use Rattle.dg_print.proofs.NamesAgain.{IsPred, edge_reads, val_reads, round_name_reads}

-- ---- what begins an item

-- the word of an aggregate
agg_fixed : (op : AggOp) → IsWord (name_word (aggregate_word op))
agg_fixed aggregates.Min = fixed (codes "min") refl
agg_fixed aggregates.Max = fixed (codes "max") refl
agg_fixed aggregates.Sum = fixed (codes "sum") refl

pub agg_means : (op : AggOp) (start : ℕ) → aggregate_meant (tok_from start (name_word (aggregate_word op))) ≡ Some op
agg_means aggregates.Min start = refl
agg_means aggregates.Max start = refl
agg_means aggregates.Sum start = refl

-- none of the words that the language keeps
record NotKept (p : List ℕ) : Type 0 where
  pub uid : bytes_eq p (codes "uid") ≡ false
  pub count : bytes_eq p (codes "count") ≡ false
  pub val : bytes_eq p (codes "val") ≡ false
  pub min : bytes_eq p (codes "min") ≡ false
  pub max : bytes_eq p (codes "max") ≡ false
  pub sum : bytes_eq p (codes "sum") ≡ false
  pub as_word : bytes_eq p (codes "as") ≡ false

or_first : (a b : Bool) → (a || b) ≡ false → a ≡ false
or_first false b e = refl
or_first true b e = e

or_second : (a b : Bool) → (a || b) ≡ false → b ≡ false
or_second false b e = e
or_second true b e = absurd (false≢true (sym e))

kept8 : (a b c d e f g h : Bool) → (a || b || c || d || e || f || g || h) ≡ false → (a ≡ false) × (b ≡ false) × (c ≡ false) × (d ≡ false) × (e ≡ false) × (f ≡ false) × (g ≡ false)
kept8 a b c d e f g h n =
    let n7 = or_first (a || b || c || d || e || f || g) h n in
    let n6 = or_first (a || b || c || d || e || f) g n7 in
    let n5 = or_first (a || b || c || d || e) f n6 in
    let n4 = or_first (a || b || c || d) e n5 in
    let n3 = or_first (a || b || c) d n4 in
    let n2 = or_first (a || b) c n3 in
    (or_first a b n2, or_second a b n2, or_second (a || b) c n3, or_second (a || b || c) d n4, or_second (a || b || c || d) e n5, or_second (a || b || c || d || e) f n6, or_second (a || b || c || d || e || f) g n7)

not_kept : (p : List ℕ) → IsPred p → NotKept p
not_kept p h =
    let k = kept8 (bytes_eq p (codes "uid")) (bytes_eq p (codes "count")) (bytes_eq p (codes "val")) (bytes_eq p (codes "min")) (bytes_eq p (codes "max")) (bytes_eq p (codes "sum")) (bytes_eq p (codes "as")) (bytes_eq p (codes "expand")) h.free in
    record { uid = k.0; count = k.1; val = k.2; min = k.3; max = k.4; sum = k.5; as_word = k.6 }

-- a Name as a predicate is no aggregate's word
no_agg : (p : List ℕ) → IsPred p → (start : ℕ) → aggregate_meant (tok_from start (name_word p)) ≡ None
no_agg p h start = let k = not_kept p h in rw (k.min, k.max, k.sum) refl

agg_no_word : (op : AggOp) (start : ℕ) → (bytes_eq (aggregate_word op) (codes "uid") ≡ false) × (bytes_eq (aggregate_word op) (codes "count") ≡ false) × (bytes_eq (aggregate_word op) (codes "val") ≡ false)
agg_no_word aggregates.Min start = (refl, refl, refl)
agg_no_word aggregates.Max start = (refl, refl, refl)
agg_no_word aggregates.Sum start = (refl, refl, refl)

-- the comma behind an item
abbrev comma_tok : ℕ → Tok
comma_tok start = tok_from start (mark_word comma)

-- what an item begins with
layer_aggregate : (o : Layer) (b : Around) (I : List QField → Type 0) (hv ha : Bool) (before : List QField) → IsLayer b I hv ha before o → (f : ℕ → ℕ) (rest : List Tok) → begins_aggregate (on f (layer_words o) rest) ≡ agg_layer o
layer_aggregate QItem-F.Uid b I hv ha before h f rest = refl
layer_aggregate QItem-F.CountUid b I hv ha before h f rest = refl
layer_aggregate (QItem-F.Count e) b I hv ha before h f rest = refl
layer_aggregate (QItem-F.Val x) b I hv ha before h f rest = refl
layer_aggregate (QItem-F.Agg op x) b I hv ha before h f rest = rw (agg_means op (f 0)) refl
layer_aggregate (QItem-F.Edge e args dirs fields) b I hv ha before h f rest = by e.back refl
  where
    by : (back : Bool) → e.back ≡ back → begins_aggregate (on f (layer_words (QItem-F.Edge e args dirs fields)) rest) ≡ false
    by true k = rw k refl
    by false k = rw (k, no_agg e.pred h.pred (f 0)) refl

layer_other : (o : Layer) (b : Around) (I : List QField → Type 0) (hv ha : Bool) (before : List QField) → IsLayer b I hv ha before o → (f : ℕ → ℕ) (rest : List Tok) → begins_other (on f (layer_words o) rest) ≡ not (agg_layer o)
layer_other QItem-F.Uid b I hv ha before h f rest = refl
layer_other QItem-F.CountUid b I hv ha before h f rest = refl
layer_other (QItem-F.Count e) b I hv ha before h f rest = refl
layer_other (QItem-F.Val x) b I hv ha before h f rest = refl
layer_other (QItem-F.Agg op x) b I hv ha before h f rest = rw (agg_means op (f 0)) refl
layer_other (QItem-F.Edge e args dirs fields) b I hv ha before h f rest = by e.back refl
  where
    by : (back : Bool) → e.back ≡ back → begins_other (on f (layer_words (QItem-F.Edge e args dirs fields)) rest) ≡ true
    by true k = rw k refl
    by false k = rw (k, no_agg e.pred h.pred (f 0)) refl

layer_begins : (o : Layer) (f : ℕ → ℕ) (rest : List Tok) → begins_field (on f (layer_words o) rest) ≡ true
layer_begins QItem-F.Uid f rest = refl
layer_begins QItem-F.CountUid f rest = refl
layer_begins (QItem-F.Count e) f rest = refl
layer_begins (QItem-F.Val x) f rest = refl
layer_begins (QItem-F.Agg op x) f rest = refl
layer_begins (QItem-F.Edge e args dirs fields) f rest = by e.back refl
  where
    by : (back : Bool) → e.back ≡ back → begins_field (on f (layer_words (QItem-F.Edge e args dirs fields)) rest) ≡ true
    by true k = rw k refl
    by false k = rw k refl

-- ---- what stands second

-- a test that no token passes that can stand behind an item's first word
record IsSecond (test : Tok → Bool) : Type 0 where
  pub round : (start : ℕ) → test (tok_from start (mark_word open_round)) ≡ false
  pub curly : (start : ℕ) → test (tok_from start (mark_word open_curly)) ≡ false
  pub comma_too : (start : ℕ) → test (comma_tok start) ≡ false
  pub at_too : (text : List ℕ) (start : ℕ) → test (tok_from start (at_word text)) ≡ false

module _ (test : Tok → Bool) (s : IsSecond test) where
  braces_second : (fields : Option (List QField)) (f : ℕ → ℕ) (start : ℕ) (rest : List Tok) → next test (on f (shown.braces fields) (comma_tok start ∷ rest)) ≡ false
  braces_second None f start rest = s.comma_too start
  braces_second (Some fs) f start rest = s.curly (f 0)

  dirs_second : (ds : List QDir) (fields : Option (List QField)) (f : ℕ → ℕ) (start : ℕ) (rest : List Tok) → next test (on f (flat_map dir_words ds ++ shown.braces fields) (comma_tok start ∷ rest)) ≡ false
  dirs_second [] fields f start rest = braces_second fields f start rest
  dirs_second (dirs.Filter fl ∷ ds) fields f start rest = s.at_too (codes "@filter") (f 0)
  dirs_second (dirs.Cascade ∷ ds) fields f start rest = s.at_too (codes "@cascade") (f 0)
  dirs_second (dirs.Normalize ∷ ds) fields f start rest = s.at_too (codes "@normalize") (f 0)
  dirs_second (dirs.Recurse os ∷ ds) fields f start rest = s.at_too (codes "@recurse") (f 0)

  edge_second : (args : List QArg) (ds : List QDir) (fields : Option (List QField)) (f : ℕ → ℕ) (start : ℕ) (rest : List Tok)
      → next test (on f (args_words args ++ (flat_map dir_words ds ++ shown.braces fields)) (comma_tok start ∷ rest)) ≡ false
  edge_second [] ds fields f start rest = dirs_second ds fields f start rest
  edge_second (a ∷ more) ds fields f start rest = s.round (f 0)

  layer_second : (o : Layer) (f : ℕ → ℕ) (start : ℕ) (rest : List Tok) → next_two is_name test (on f (layer_words o) (comma_tok start ∷ rest)) ≡ false
  layer_second QItem-F.Uid f start rest = s.comma_too start
  layer_second QItem-F.CountUid f start rest = s.round (f 1)
  layer_second (QItem-F.Count e) f start rest = s.round (f 1)
  layer_second (QItem-F.Val x) f start rest = s.round (f 1)
  layer_second (QItem-F.Agg op x) f start rest = s.round (f 1)
  layer_second (QItem-F.Edge e args ds fields) f start rest = by e.back refl
    where
      by : (back : Bool) → e.back ≡ back → next_two is_name test (on f (layer_words (QItem-F.Edge e args ds fields)) (comma_tok start ∷ rest)) ≡ false
      by true k = rw k refl
      by false k = rw k (edge_second args ds fields (λ n. f (suc n)) start rest)

is_as : IsSecond (is_word (codes "as"))
is_as = record { round = λ n. refl; curly = λ n. refl; comma_too = λ n. refl; at_too = λ t n. refl }

is_colon : IsSecond (is_punct colon)
is_colon = record { round = λ n. refl; curly = λ n. refl; comma_too = λ n. refl; at_too = λ t n. refl }

-- ---- items

-- an item is read again before a comma
record ReadsItem (r : Reader QItem) (i : QItem) (ws : List Word) : Type 0 where
  pub words : AreWords ws
  pub again : (f : ℕ → ℕ) (start : ℕ) (rest : List Tok) → r (at (on f ws (comma_tok start ∷ rest))) ≡ Ok (i, at (comma_tok start ∷ rest))

-- no more braces, and no more of the braces' fields
abbrev pub ends_fields : List Tok → Bool
ends_fields l = begins_field l || never l

module _ (b : Around) (I : List QField → Type 0) (inner : Reader (List QField)) (one : (fs : List QField) → I fs → Reads inner fs (flat_map field_words fs) ends_fields) where
  braces_words : (fields : Option (List QField)) → AreBraces b I fields → AreWords (shown.braces fields)
  braces_words None h = tt
  braces_words (Some fs) h = (sign 123 refl, words_append (flat_map field_words fs) (mark_word 125 ∷ []) (one fs h.1).words (sign 125 refl, tt))

  braces_read : (fields : Option (List QField)) → AreBraces b I fields → (f : ℕ → ℕ) (start : ℕ) (rest : List Tok)
      → optional (next (is_punct open_curly)) (braces b inner) None (at (on f (shown.braces fields) (comma_tok start ∷ rest))) ≡ Ok (fields, at (comma_tok start ∷ rest))
  unfolding braces
  braces_read None h f start rest = refl
  braces_read (Some fs) h f start rest =
      let g : ℕ → ℕ = λ n. f (suc n) in
      let ws : List Word = flat_map field_words fs in
      rw (h.0, on_append g ws (mark_word 125 ∷ []) (comma_tok start ∷ rest), (one fs h.1).again g (on (behind g ws) (mark_word 125 ∷ []) (comma_tok start ∷ rest)) refl) refl

  braces_bar : (fields : Option (List QField)) (f : ℕ → ℕ) (start : ℕ) (rest : List Tok) → bars_dirs (on f (shown.braces fields) (comma_tok start ∷ rest)) ≡ false
  braces_bar None f start rest = refl
  braces_bar (Some fs) f start rest = refl

  dirs_bar : (ds : List QDir) (fields : Option (List QField)) (f : ℕ → ℕ) (start : ℕ) (rest : List Tok) → is_open (on f (flat_map dir_words ds ++ shown.braces fields) (comma_tok start ∷ rest)) ≡ false
  dirs_bar [] None f start rest = refl
  dirs_bar [] (Some fs) f start rest = refl
  dirs_bar (dirs.Filter fl ∷ ds) fields f start rest = refl
  dirs_bar (dirs.Cascade ∷ ds) fields f start rest = refl
  dirs_bar (dirs.Normalize ∷ ds) fields f start rest = refl
  dirs_bar (dirs.Recurse os ∷ ds) fields f start rest = refl

  same_owner : (o : Owner) → SameOwner o o
  same_owner o = record { block = refl; has_func = refl; recurse = refl; as_place = λ e. e }

  edge_item_reads : (s : Start) (before : List QField) (e : QEdge) (args : List QArg) (ds : List QDir) (fields : Option (List QField)) → IsEdge b I s.has_alias before e args ds fields
      → ReadsItem (edge_item b inner s before) (items.Edge e args ds fields) (layer_words (QItem-F.Edge e args ds fields))
  unfolding edge_item
  edge_item_reads s before e args ds fields h =
      let dirs_are : ReadDirs (edge_owner b) h.marks = dirs_read (edge_owner b) h.marks h.dirs_are in
      let tail : List Word = flat_map dir_words ds ++ shown.braces fields in
      let dirs_words : AreWords (flat_map dir_words ds) = subst (λ (l : List QDir). AreWords (flat_map dir_words l)) h.dirs_is dirs_are.words in
      record {
        words = words_append (edge_words e) (args_words args ++ tail) (edge_reads e h.pred).words
            (words_append (args_words args) tail (args_read args h.args_are).words
            (words_append (flat_map dir_words ds) (shown.braces fields) dirs_words (braces_words fields h.braces_are)));
        again = λ f start rest.
            let c : List Tok = comma_tok start ∷ rest in
            let f1 : ℕ → ℕ = behind f (edge_words e) in
            let f2 : ℕ → ℕ = behind f1 (args_words args) in
            let f3 : ℕ → ℕ = behind f2 (flat_map dir_words ds) in
            let t3 : List Tok = on f3 (shown.braces fields) c in
            let again : DirsAgain (edge_owner b) h.marks (on f2 (flat_map dir_words h.marks.dirs) t3) t3 = dirs_are.again (edge_owner b) (same_owner (edge_owner b)) f2 t3 (braces_bar fields f3 start rest) in
            let read : all_dirs (edge_owner b) (at (on f2 (flat_map dir_words ds) t3)) ≡ Ok (again.after, at t3) = subst (λ (l : List QDir). all_dirs (edge_owner b) (at (on f2 (flat_map dir_words l) t3)) ≡ Ok (again.after, at t3)) h.dirs_is again.is in
            let same : again.after.dirs ≡ ds = again.same.dirs ∙ h.dirs_is in
            rw (
              on_append f (edge_words e) (args_words args ++ tail) c,
              (edge_reads e h.pred).again f (on f1 (args_words args ++ tail) c) refl,
              h.key,
              on_append f1 (args_words args) tail c,
              (args_read args h.args_are).again f1 (on f2 tail c) (dirs_bar ds fields f2 start rest),
              on_append f2 (flat_map dir_words ds) (shown.braces fields) c,
              read,
              braces_read fields h.braces_are f3 start rest,
            )
            (ap (λ (l : List QDir). Ok (items.Edge e args l fields, at c)) same);
      }

  -- a word that the predicate isn't
  edge_no_word : (w : List ℕ) (e : QEdge) (vs : List Word) → bytes_eq e.pred w ≡ false → (f : ℕ → ℕ) (rest : List Tok) → next (is_word w) (on f (edge_words e ++ vs) rest) ≡ false
  edge_no_word w e vs h f rest = by e.back refl
    where
      by : (back : Bool) → e.back ≡ back → next (is_word w) (on f (edge_words e ++ vs) rest) ≡ false
      by true k = rw k refl
      by false k = rw (k, h) refl

  layer_reads : (s : Start) (before : List QField) (o : Layer) → IsLayer b I s.has_var s.has_alias before o → ReadsItem (item b inner s before) (roll-QItem o) (layer_words o)
  unfolding item uid_item count_item count_uid count_edge val_item agg_item
  layer_reads s before QItem-F.Uid h = subst (λ (i : QItem). ReadsItem (item b inner s before) i (layer_words QItem-F.Uid)) (sym items.rolls-Uid) (record {
    words = (fixed (codes "uid") refl, tt);
    again = λ f start rest. rw h refl;
  })
  layer_reads s before QItem-F.CountUid h = subst (λ (i : QItem). ReadsItem (item b inner s before) i (layer_words QItem-F.CountUid)) (sym items.rolls-CountUid) (record {
    words = (fixed (codes "count") refl, (sign 40 refl, (fixed (codes "uid") refl, (sign 41 refl, tt))));
    again = λ f start rest. rw (h.0, h.1, h.2) refl;
  })
  layer_reads s before (QItem-F.Count e) h = subst (λ (i : QItem). ReadsItem (item b inner s before) i (layer_words (QItem-F.Count e))) (sym (items.rolls-Count e)) (record {
    words = (fixed (codes "count") refl, (sign 40 refl, words_append (edge_words e) (mark_word 41 ∷ []) (edge_reads e h.0).words (sign 41 refl, tt)));
    again = λ f start rest.
        let g : ℕ → ℕ = λ n. f (suc (suc n)) in
        rw (
          edge_no_word (codes "uid") e (mark_word 41 ∷ []) (not_kept e.pred h.0).uid g (comma_tok start ∷ rest),
          on_append g (edge_words e) (mark_word 41 ∷ []) (comma_tok start ∷ rest),
          (edge_reads e h.0).again g (on (behind g (edge_words e)) (mark_word 41 ∷ []) (comma_tok start ∷ rest)) refl,
          h.1,
        ) refl;
  })
  layer_reads s before (QItem-F.Val x) h = subst (λ (i : QItem). ReadsItem (item b inner s before) i (layer_words (QItem-F.Val x))) (sym (items.rolls-Val x)) (record {
    words = (val_reads x h.0).words;
    again = λ f start rest. rw (h.1, (round_name_reads x h.0).again (λ n. f (suc n)) (comma_tok start ∷ rest) refl, h.2) refl;
  })
  layer_reads s before (QItem-F.Agg op x) h = subst (λ (i : QItem). ReadsItem (item b inner s before) i (layer_words (QItem-F.Agg op x))) (sym (items.rolls-Agg op x)) (record {
    words = (agg_fixed op, (sign 40 refl, words_append (val_words x) (mark_word 41 ∷ []) (val_reads x h.0).words (sign 41 refl, tt)));
    again = λ f start rest.
        let g : ℕ → ℕ = λ n. f (suc (suc n)) in
        rw ((agg_no_word op (f 0)).0, (agg_no_word op (f 0)).1, (agg_no_word op (f 0)).2, agg_means op (f 0), (val_reads x h.0).again g (on (behind g (val_words x)) (mark_word 41 ∷ []) (comma_tok start ∷ rest)) refl, h.1) refl;
  })
  layer_reads s before (QItem-F.Edge e args ds fields) h = subst (λ (i : QItem). ReadsItem (item b inner s before) i (layer_words (QItem-F.Edge e args ds fields))) (sym (items.rolls-Edge e args ds fields)) (record {
    words = (edge_item_reads s before e args ds fields h).words;
    again = λ f start rest.
        let vs : List Word = args_words args ++ (flat_map dir_words ds ++ shown.braces fields) in
        let c : List Tok = comma_tok start ∷ rest in
        let k : NotKept e.pred = not_kept e.pred h.pred in
        rw (
          edge_no_word (codes "uid") e vs k.uid f c,
          edge_no_word (codes "count") e vs k.count f c,
          edge_no_word (codes "val") e vs k.val f c,
          layer_aggregate (QItem-F.Edge e args ds fields) b I s.has_var s.has_alias before h f c,
          (edge_item_reads s before e args ds fields h).again f start rest,
        ) refl;
  })

  item_reads : (s : Start) (before : List QField) (i : QItem) → IsLayer b I s.has_var s.has_alias before (out-QItem i) → ReadsItem (item b inner s before) i (words_of_item i)
  item_reads s before i h =
      subst (λ (ws : List Word). ReadsItem (item b inner s before) i ws) (sym (item_is i))
      (subst (λ (x : QItem). ReadsItem (item b inner s before) x (layer_words (out-QItem i))) (roll-out-QItem i) (layer_reads s before (out-QItem i) h))

  -- ---- in front of an item

  record FrontAgain (before : List QField) (var alias : Option (List ℕ)) (all tokens : List Tok) : Type 0 where
    pub start : Start
    pub is : front b before (at all) ≡ Ok (record { var = var; alias = alias; start = start }, at tokens)
    pub has_var : start.has_var ≡ is_some var
    pub has_alias : start.has_alias ≡ is_some alias

  front_again : (before : List QField) (var alias : Option (List ℕ)) (f g : ℕ → ℕ) (tokens : List Tok)
      → (is_some var && (not b.has_func || b.recurse)) ≡ false → is_alias before alias ≡ false
      → next_two is_name (is_word (codes "as")) tokens ≡ false → next_two is_name (is_punct colon) tokens ≡ false
      → (begins_aggregate tokens && b.has_func) ≡ false → (begins_other tokens && not b.has_func) ≡ false
      → FrontAgain before var alias (on f (var_words var) (on g (alias_words alias) tokens)) tokens
  unfolding front any_variable variable any_alias alias
  front_again before None None f g tokens v a e1 e2 agg other = record { start = record { has_var = false; as_place = 0; has_alias = false; place = length tokens }; is = rw (e1, e2, agg, other) refl; has_var = refl; has_alias = refl }
  front_again before None (Some k) f g tokens v a e1 e2 agg other = record { start = record { has_var = false; as_place = 0; has_alias = true; place = length tokens }; is = rw (a, agg, other) refl; has_var = refl; has_alias = refl }
  front_again before (Some x) None f g tokens v a e1 e2 agg other = record { start = record { has_var = true; as_place = suc (length tokens); has_alias = false; place = length tokens }; is = rw (v, e2, agg, other) refl; has_var = refl; has_alias = refl }
  front_again before (Some x) (Some k) f g tokens v a e1 e2 agg other = record { start = record { has_var = true; as_place = suc (suc (suc (length tokens))); has_alias = true; place = length tokens }; is = rw (v, a, agg, other) refl; has_var = refl; has_alias = refl }

  -- ---- fields

  field_split : (fd : QField) (f : ℕ → ℕ) (rest : List Tok) →
      let f1 : ℕ → ℕ = behind f (var_words fd.var) in
      let f2 : ℕ → ℕ = behind f1 (alias_words fd.alias) in
      let f3 : ℕ → ℕ = behind f2 (words_of_item fd.item) in
      on f (field_words fd) rest ≡ on f (var_words fd.var) (on f1 (alias_words fd.alias) (on f2 (words_of_item fd.item) (comma_tok (f3 0) ∷ rest)))
  field_split fd f rest =
      let f1 : ℕ → ℕ = behind f (var_words fd.var) in
      let f2 : ℕ → ℕ = behind f1 (alias_words fd.alias) in
      let w2 : List Word = words_of_item fd.item ++ mark_word comma ∷ [] in
      ap (λ ws. on f ws rest) (field_is fd)
      ∙ on_append f (var_words fd.var) (alias_words fd.alias ++ w2) rest
      ∙ ap (λ l. on f (var_words fd.var) l) (on_append f1 (alias_words fd.alias) w2 rest)
      ∙ ap (λ l. on f (var_words fd.var) (on f1 (alias_words fd.alias) l)) (on_append f2 (words_of_item fd.item) (mark_word comma ∷ []) rest)

  any_name_words : (var : Option (List ℕ)) → IsAnyName var → AreWords (var_words var)
  any_name_words None h = tt
  any_name_words (Some x) h = (h, (fixed (codes "as") refl, tt))

  any_alias_words : (key : Option (List ℕ)) → IsAnyName key → AreWords (alias_words key)
  any_alias_words None h = tt
  any_alias_words (Some x) h = (h, (sign 58 refl, tt))

  field_begins : (fd : QField) (f : ℕ → ℕ) (rest : List Tok) → begins_field (on f (field_words fd) rest) ≡ true
  field_begins fd f rest = ap begins_field (field_split fd f rest) ∙ by fd.var fd.alias
    where
      by : (var key : Option (List ℕ)) →
          let f1 : ℕ → ℕ = behind f (var_words var) in
          let f2 : ℕ → ℕ = behind f1 (alias_words key) in
          let f3 : ℕ → ℕ = behind (behind (behind f (var_words fd.var)) (alias_words fd.alias)) (words_of_item fd.item) in
          begins_field (on f (var_words var) (on f1 (alias_words key) (on f2 (words_of_item fd.item) (comma_tok (f3 0) ∷ rest)))) ≡ true
      by None None = rw (item_is fd.item) (layer_begins (out-QItem fd.item) f _)
      by None (Some k) = refl
      by (Some x) key = refl

  field_some : (fd : QField) → 0 < length (field_words fd)
  field_some fd =
      let w2 : List Word = words_of_item fd.item ++ mark_word comma ∷ [] in
      let w1 : List Word = alias_words fd.alias ++ w2 in
      omega (arith, ap length (field_is fd), length-append (var_words fd.var) w1, length-append (alias_words fd.alias) w2, length-append (words_of_item fd.item) (mark_word comma ∷ []))

  field_reads : (before : List QField) (fd : QField) → IsField b I before fd → Reads (field b inner before) (before ++ fd ∷ []) (field_words fd) never
  unfolding field
  field_reads before fd h =
      let read : (s : Start) → s.has_var ≡ is_some fd.var → s.has_alias ≡ is_some fd.alias → ReadsItem (item b inner s before) fd.item (words_of_item fd.item) =
      (λ s v a. item_reads s before fd.item (subst (λ (t : Bool). IsLayer b I t s.has_alias before (out-QItem fd.item)) (sym v) (subst (λ (t : Bool). IsLayer b I (is_some fd.var) t before (out-QItem fd.item)) (sym a) h.layer))) in
      let some : Start = record { has_var = is_some fd.var; as_place = 0; has_alias = is_some fd.alias; place = 0 } in
      let words : AreWords (var_words fd.var ++ (alias_words fd.alias ++ (words_of_item fd.item ++ mark_word comma ∷ []))) =
      words_append (var_words fd.var) _ (any_name_words fd.var h.var)
      (words_append (alias_words fd.alias) _ (any_alias_words fd.alias h.alias_name)
      (words_append (words_of_item fd.item) (mark_word comma ∷ []) (read some refl refl).words (sign 44 refl, tt))) in
      record {
        words = subst (λ (ws : List Word). AreWords ws) (sym (field_is fd)) words;
        again = λ f rest e.
            let f1 : ℕ → ℕ = behind f (var_words fd.var) in
            let f2 : ℕ → ℕ = behind f1 (alias_words fd.alias) in
            let f3 : ℕ → ℕ = behind f2 (words_of_item fd.item) in
            let c : List Tok = comma_tok (f3 0) ∷ rest in
            let tokens : List Tok = on f2 (words_of_item fd.item) c in
            let o : Layer = out-QItem fd.item in
            let as_layer : tokens ≡ on f2 (layer_words o) c = ap (λ ws. on f2 ws c) (item_is fd.item) in
            let second : (test : Tok → Bool) → IsSecond test → next_two is_name test tokens ≡ false = (λ test s. ap (next_two is_name test) as_layer ∙ layer_second test s o f2 (f3 0) rest) in
            let agg : begins_aggregate tokens ≡ agg_layer o = ap begins_aggregate as_layer ∙ layer_aggregate o b I (is_some fd.var) (is_some fd.alias) before h.layer f2 c in
            let other : begins_other tokens ≡ not (agg_layer o) = ap begins_other as_layer ∙ layer_other o b I (is_some fd.var) (is_some fd.alias) before h.layer f2 c in
            let fr : FrontAgain before fd.var fd.alias (on f (var_words fd.var) (on f1 (alias_words fd.alias) tokens)) tokens =
            front_again before fd.var fd.alias f f1 tokens h.var_fits h.alias_new (second (is_word (codes "as")) is_as) (second (is_punct colon) is_colon)
            (ap (λ t. t && b.has_func) agg ∙ h.agg_fits) (ap (λ t. t && not b.has_func) other ∙ h.other_fits) in
            ap (λ l. field b inner before (at l)) (field_split fd f rest)
            ∙ rw (fr.is, (read fr.start fr.has_var fr.has_alias).again f2 (f3 0) rest) refl;
      }

  fields_repeat : Repeats begins_field (field b inner) (IsField b I) field_words never
  fields_repeat = record {
    reads = field_reads;
    begun = λ before fd h f rest. field_begins fd f rest;
    clear = λ before fd h f rest. refl;
    some = λ before fd h. field_some fd;
  }

  some_fields_read : (fs : List QField) → Items (IsField b I) [] fs → Reads (some_fields b inner) fs (flat_map field_words fs) ends_fields
  some_fields_read fs h = repeated_reads begins_field (field b inner) (IsField b I) field_words never fields_repeat [] fs h

pub fields_read : (b : Around) (depth : ℕ) (fs : List QField) → AreFields b depth fs → Reads (fields b depth) fs (flat_map field_words fs) ends_fields
unfolding fields AreFields
fields_read b zero fs h = absurd h
fields_read b (suc depth) fs h = some_fields_read b (λ gs. AreFields b depth gs) (fields b depth) (fields_read b depth) fs h
