-- What is printed of directives, fields, blocks and queries opens no more brackets than what was read.
use Rattle.std.proofs.Common.{◌≡◌, ℕ, zero, suc, ◌≤◌, ◌==◌, true, false, ◌||◌, List, [], ◌∷◌, ◌++◌, length, flat_map, ap, refl, sym, ◌∙◌, subst, append-nil, append_assoc}
use Rattle.std.specs.Prelude.{Option, Some, None, not, is_some, ◌&&◌, codes}
use Rattle.std.specs.List.{AllByRecursion}
use Rattle.dg_text.specs.Cases.{Left, Reader, optional}
use Rattle.dg_text.specs.Marks.{open_round, close_round, open_curly, close_curly, comma, colon}
use Rattle.dg_text.specs.Reading.{next, next_two}
use Rattle.dg_text.specs.Spelling.{name_word, at_word, mark_word}
use Rattle.dg_text.specs.Tokens.{is_name, is_punct, is_word}
use Rattle.dg_text.specs.Words.{name_meant}
use Rattle.dg_text.specs.Written.{Word}
use Rattle.dg_parse.specs.declared.directives.Marks.{Marks}
use Rattle.dg_parse.specs.declared.directives.Owner.{Owner}
use Rattle.dg_parse.specs.declared.items.Around.{Around}
use Rattle.dg_parse.specs.declared.items.Start.{Start}
use Rattle.dg_parse.specs.declared.query.QBlock.{QBlock}
use Rattle.dg_parse.specs.declared.query.QDir.{QDir}
use Rattle.dg_parse.specs.declared.query.QDir.TheVariants as dirs
use Rattle.dg_parse.specs.declared.query.QField.{QField}
use Rattle.dg_parse.specs.declared.query.QItem.{QItem}
use Rattle.dg_parse.specs.declared.query.QItem.TheVariants as items
use Rattle.dg_parse.specs.declared.query.QItem.TheOpen.{QItem-F}
use Rattle.dg_parse.specs.declared.query.QItem.TheViews.{out-QItem}
use Rattle.dg_parse.specs.declared.words.DirWord.{DirWord}
use Rattle.dg_parse.specs.declared.words.DirWord.TheVariants as kinds
use Rattle.dg_parse.specs.Directives.{filter_dir, cascade_dir, normalize_dir, recurse_dir, dir_of, is_marked, dir, begins_dir, unmarked, all_dirs}
use Rattle.dg_parse.specs.Fields.{uid_item, count_uid, count_edge, count_item, val_item, agg_item, braces, edge_item, begins_aggregate, begins_other, item, front, any_comma, field, begins_field, fields}
use Rattle.dg_parse.specs.Grammar.{root_part, no_root, is_second, head, block, braced_blocks, query}
use Rattle.dg_parse.specs.Keys.{aggregate_word, edge_text, count_key, val_key, agg_key, is_key, is_alias}
use Rattle.dg_parse.specs.Names.{Defined, variable, any_variable, alias, any_alias}
use Rattle.dg_print.specs.Printed.{in_round, edge_words, val_words, func_words, arg_words, args_words, filter_words, opts_words, dir_words}
use Rattle.dg_print.specs.PrintedQuery.{var_words, alias_words, field_words, root_words, block_words, query_words}
use Rattle.dg_parse.specs.Words.{aggregate_meant, directive_meant}
use Rattle.dg_print.specs.Printing.{words_of_item}
use Rattle.dg_print.proofs.FieldWords.{field_is, Layer, layer_words, item_is}
use Rattle.dg_print.proofs.FieldWords as shown
use Rattle.dg_print.proofs.Lists.{Added, all_of}
use Rattle.dg_print.proofs.NestedFilters.{at_filter}
use Rattle.dg_print.proofs.NestedParts.{low_name, low_comma, low_colon, low_brackets, low_edge, low_flat_map, low_more, low_val, at_name, at_edge, at_val, at_round_name, at_func, at_more_args, at_args, at_opts}
use Rattle.dg_print.proofs.Nesting.{Low, Nothing, Flat, low_append, low_round, Kept, bind, gives, weaker, either, Any, at_also, at_here, at_skip, at_one, at_sign, at_open, at_close, at_repeated, at_any_turns}

-- ---- directives

low_at : (n : ℕ) (text : List ℕ) (ws : List Word) → Low n ws → Low n (at_word text ∷ ws)
low_at n text ws l = Flat n (at_word text) ws (λ start. (refl, refl)) l

pub low_curly : (n : ℕ) (ws : List Word) → suc n ≤ 32 → Low (suc n) ws → Low n (mark_word open_curly ∷ (ws ++ mark_word close_curly ∷ []))
low_curly n ws le l = low_round n open_curly close_curly ws le (λ start. (refl, refl)) (λ start. (refl, refl)) l

-- the directives so far open no more
abbrev LowDirs : ℕ → Marks → Type 0
LowDirs n m = Low n (flat_map dir_words m.dirs)

dirs_append : (xs : List QDir) (d : QDir) → flat_map dir_words (xs ++ d ∷ []) ≡ flat_map dir_words xs ++ dir_words d
dirs_append [] d = append-nil (dir_words d)
dirs_append (x ∷ xs) d = ap (λ l. dir_words x ++ l) (dirs_append xs d) ∙ sym (append_assoc (dir_words x) (flat_map dir_words xs) (dir_words d))

one_dir : (n : ℕ) (xs : List QDir) (d : QDir) → Low n (dir_words d) → Low n (flat_map dir_words xs) → Low n (flat_map dir_words (xs ++ d ∷ []))
one_dir n xs d l h = subst (λ (ws : List Word). Low n ws) (sym (dirs_append xs d)) (low_append n (flat_map dir_words xs) (dir_words d) h l)

at_dir_of : {n : ℕ} (o : Owner) (m : Marks) (place : ℕ) (w : DirWord) (left : Left) → Kept n n left (dir_of o m place w left) (λ after. LowDirs n m → LowDirs n after)
unfolding dir_of filter_dir cascade_dir normalize_dir recurse_dir
at_dir_of {n} o m place kinds.Filter left =
    bind _ (at_open open_round left (λ t s. (refl, refl)))
    (λ _ l. bind _ (at_filter 33 l)
    (λ f k. bind _ (at_close close_round k (λ t s. (refl, refl)))
    (λ _ p. gives (record { dirs = m.dirs ++ dirs.Filter f ∷ []; filtered = place; cascaded = m.cascaded; normalized = m.normalized; recursed = m.recursed }) p
    (λ _ h le. one_dir n m.dirs (dirs.Filter f) (low_at n (codes "@filter") (in_round (filter_words f)) (low_brackets n (filter_words f) le h))))))
at_dir_of {n} o m place kinds.Cascade left =
    bind _ (at_also place (o.recurse || (not (m.recursed == 0) && o.block)) left)
    (λ _ l. gives (record { dirs = m.dirs ++ dirs.Cascade ∷ []; filtered = m.filtered; cascaded = place; normalized = m.normalized; recursed = m.recursed }) l
    (λ _. one_dir n m.dirs dirs.Cascade (low_at n (codes "@cascade") [] (Nothing n))))
at_dir_of {n} o m place kinds.Normalize left =
    bind _ (at_also place (not o.block || not (m.recursed == 0)) left)
    (λ _ l. gives (record { dirs = m.dirs ++ dirs.Normalize ∷ []; filtered = m.filtered; cascaded = m.cascaded; normalized = place; recursed = m.recursed }) l
    (λ _. one_dir n m.dirs dirs.Normalize (low_at n (codes "@normalize") [] (Nothing n))))
at_dir_of {n} o m place kinds.Recurse left =
    bind _ (at_also place (not o.block) left)
    (λ _ l. bind _ (at_also o.as_place o.block l)
    (λ _ k. bind _ (at_also m.cascaded o.block k)
    (λ _ p. bind _ (at_also m.normalized o.block p)
    (λ _ q. bind _ (at_opts q)
    (λ os r. gives (record { dirs = m.dirs ++ dirs.Recurse os ∷ []; filtered = m.filtered; cascaded = m.cascaded; normalized = m.normalized; recursed = place }) r
    (λ h _ _ _ _. one_dir n m.dirs (dirs.Recurse os) (low_at n (codes "@recurse") (opts_words os) h)))))))

at_dir : {n : ℕ} (o : Owner) (m : Marks) (left : Left) → Kept n n left (dir o m left) (λ after. LowDirs n m → LowDirs n after)
unfolding dir
at_dir o m left =
    bind _ (at_here left)
    (λ place l. bind _ (at_one directive_meant l (λ b t s. refl))
    (λ w k. bind _ (at_also place (not o.has_func || is_marked m w) k)
    (λ _ p. weaker (at_dir_of o m place w p) (λ after h _ _ _. h))))

at_dirs : {n : ℕ} (o : Owner) (left : Left) → Kept n n left (all_dirs o left) (λ m. LowDirs n m)
at_dirs {n} o left = weaker (at_any_turns begins_dir (dir o) (LowDirs n) (at_dir o) (length left.tokens) unmarked left) (λ m h. h (Nothing n))

-- ---- items

-- an item that opens no more
abbrev LowItem : ℕ → QItem → Type 0
LowItem n i = Low n (words_of_item i)

low_layer : (n : ℕ) (i : QItem) (o : Layer) → out-QItem i ≡ o → Low n (layer_words o) → LowItem n i
low_layer n i o e l = subst (λ (ws : List Word). Low n ws) (sym (item_is i ∙ ap layer_words e)) l

module _ (b : Around) (inner : Reader (List QField)) (one : (n : ℕ) (l : Left) → Kept n n l (inner l) (λ fs. Low n (flat_map field_words fs))) where
  at_uid : {n : ℕ} (s : Start) (before : List QField) (left : Left) → Kept n n left (uid_item s before left) (λ i. LowItem n i)
  unfolding uid_item
  at_uid {n} s before left =
      bind _ (at_skip (is_word (codes "uid")) left (λ b t s. refl))
      (λ _ l. bind _ (at_also s.place (not s.has_alias && is_key before (codes "uid")) l)
      (λ _ k. gives items.Uid k (λ _ _. low_layer n items.Uid QItem-F.Uid items.outs-Uid (low_name n (codes "uid") [] (Nothing n)))))

  at_count : {n : ℕ} (s : Start) (before : List QField) (left : Left) → Kept n n left (count_item b s before left) (λ i. LowItem n i)
  unfolding count_item count_uid count_edge
  at_count {n} s before left =
      bind _ (at_skip (is_word (codes "count")) left (λ b t s. refl))
      (λ _ l. bind _ (at_open open_round l (λ t s. (refl, refl)))
      (λ _ k. either (next (is_word (codes "uid")) k.tokens)
      (λ e. bind _ (at_skip (is_word (codes "uid")) k (λ b t s. refl))
      (λ _ m. bind _ (at_close close_round m (λ t s. (refl, refl)))
      (λ _ p. bind _ (at_also s.as_place s.has_var p)
      (λ _ q. bind _ (at_also s.place b.recurse q)
      (λ _ r. bind _ (at_also s.place (not s.has_alias && is_key before (codes "count")) r)
      (λ _ u. gives items.CountUid u (λ _ _ _ _ _ le _. low_layer n items.CountUid QItem-F.CountUid items.outs-CountUid
      (low_name n (codes "count") (in_round (name_word (codes "uid") ∷ [])) (low_brackets n (name_word (codes "uid") ∷ []) le (low_name (suc n) (codes "uid") [] (Nothing (suc n))))))))))))
      (λ e. bind _ (at_edge k)
      (λ edg m. bind _ (at_close close_round m (λ t s. (refl, refl)))
      (λ _ p. bind _ (at_also s.place (not s.has_alias && is_key before (count_key edg)) p)
      (λ _ q. gives (items.Count edg) q (λ _ _ _ le _. low_layer n (items.Count edg) (QItem-F.Count edg) (items.outs-Count edg)
      (low_name n (codes "count") (in_round (edge_words edg)) (low_brackets n (edge_words edg) le (low_edge (suc n) edg))))))))))

  at_val_item : {n : ℕ} (s : Start) (before : List QField) (left : Left) → Kept n n left (val_item s before left) (λ i. LowItem n i)
  unfolding val_item
  at_val_item {n} s before left =
      bind _ (at_skip (is_word (codes "val")) left (λ b t s. refl))
      (λ _ l. bind _ (at_also s.as_place s.has_var l)
      (λ _ k. bind _ (at_round_name k)
      (λ x m. bind _ (at_also s.place (not s.has_alias && is_key before (val_key x)) m)
      (λ _ p. gives (items.Val x) p (λ _ le _ _. low_layer n (items.Val x) (QItem-F.Val x) (items.outs-Val x) (low_val n x le))))))

  at_agg : {n : ℕ} (s : Start) (before : List QField) (left : Left) → Kept n n left (agg_item s before left) (λ i. LowItem n i)
  unfolding agg_item
  at_agg {n} s before left =
      bind _ (at_one aggregate_meant left (λ b t s. refl))
      (λ op l. bind _ (at_open open_round l (λ t s. (refl, refl)))
      (λ _ k. bind _ (at_val k)
      (λ x m. bind _ (at_close close_round m (λ t s. (refl, refl)))
      (λ _ p. bind _ (at_also s.place (not s.has_alias && is_key before (agg_key op x)) p)
      (λ _ q. gives (items.Agg op x) q (λ _ _ h le _. low_layer n (items.Agg op x) (QItem-F.Agg op x) (items.outs-Agg op x)
      (low_name n (aggregate_word op) (in_round (val_words x)) (low_brackets n (val_words x) le h))))))))

  at_braces : {n : ℕ} (left : Left) → Kept n n left (braces b inner left) (λ fs. Low n (shown.braces fs))
  unfolding braces
  at_braces {n} left =
      bind _ (at_also (length left.tokens) (next (is_punct open_curly) left.tokens && b.recurse) left)
      (λ _ l. bind _ (at_open open_curly l (λ t s. (refl, refl)))
      (λ _ k. bind _ (one (suc n) k)
      (λ fs m. bind _ (at_close close_curly m (λ t s. (refl, refl)))
      (λ _ p. gives (Some fs) p (λ _ h le _. low_curly n (flat_map field_words fs) le h)))))

  at_edge_item : {n : ℕ} (s : Start) (before : List QField) (left : Left) → Kept n n left (edge_item b inner s before left) (λ i. LowItem n i)
  unfolding edge_item
  at_edge_item {n} s before left =
      bind _ (at_edge left)
      (λ e l. bind _ (at_also s.place (not s.has_alias && is_key before (edge_text e)) l)
      (λ _ k. bind _ (at_args k)
      (λ args m. bind _ (at_dirs (record { block = false; has_func = b.has_func; recurse = b.recurse; as_place = 0 }) m)
      (λ marks p. bind {X = λ fs. Low n (shown.braces fs)} _ (either (next (is_punct open_curly) p.tokens) (λ e. at_braces p) (λ e. gives None p (Nothing n)))
      (λ fs q. gives (items.Edge e args marks.dirs fs) q (λ hf hd ha _ _. low_layer n (items.Edge e args marks.dirs fs) (QItem-F.Edge e args marks.dirs fs) (items.outs-Edge e args marks.dirs fs)
      (low_append n (edge_words e) (args_words args ++ (flat_map dir_words marks.dirs ++ shown.braces fs)) (low_edge n e)
      (low_append n (args_words args) (flat_map dir_words marks.dirs ++ shown.braces fs) ha
      (low_append n (flat_map dir_words marks.dirs) (shown.braces fs) hd hf)))))))))

  at_item : {n : ℕ} (s : Start) (before : List QField) (left : Left) → Kept n n left (item b inner s before left) (λ i. LowItem n i)
  unfolding item
  at_item s before left = either (next (is_word (codes "uid")) left.tokens)
      (λ e. at_uid s before left)
      (λ e. either (next (is_word (codes "count")) left.tokens)
      (λ e. at_count s before left)
      (λ e. either (next (is_word (codes "val")) left.tokens)
      (λ e. at_val_item s before left)
      (λ e. either (begins_aggregate left.tokens)
      (λ e. at_agg s before left)
      (λ e. at_edge_item s before left))))

-- ---- in front of an item

at_any_variable : {n : ℕ} (left : Left) → Kept n n left (any_variable left) Any
unfolding any_variable variable
at_any_variable left = either (next_two is_name (is_word (codes "as")) left.tokens)
    (λ e. bind _ (at_name left) (λ x l. bind _ (at_here l) (λ place k. bind _ (at_skip (is_word (codes "as")) k (λ b t s. refl)) (λ _ m. gives {A = Defined} (Some x, place) m (λ _ _ _. tt)))))
    (λ e. gives {A = Defined} (None, 0) left tt)

at_any_alias : {n : ℕ} (left : Left) → Kept n n left (any_alias left) Any
unfolding any_alias alias
at_any_alias left = either (next_two is_name (is_punct colon) left.tokens)
    (λ e. bind _ (at_name left) (λ x l. bind _ (at_sign colon l (λ t s. (refl, refl))) (λ _ k. gives (Some x) k (λ _ _. tt))))
    (λ e. gives None left tt)

at_front : {n : ℕ} (b : Around) (before : List QField) (left : Left) → Kept n n left (front b before left) Any
unfolding front
at_front b before left =
    bind _ (at_any_variable left)
    (λ v l. bind _ (at_also v.1 (is_some v.0 && (not b.has_func || b.recurse)) l)
    (λ _ k. bind _ (at_any_alias k)
    (λ a m. bind _ (at_here m)
    (λ place n. bind _ (at_also place (is_alias before a) n)
    (λ _ p. bind _ (at_also (length p.tokens) (begins_aggregate p.tokens && b.has_func) p)
    (λ _ q. bind _ (at_also (length q.tokens) (begins_other q.tokens && not b.has_func) q)
    (λ _ r. gives (record { var = v.0; alias = a; start = record { has_var = is_some v.0; as_place = v.1; has_alias = is_some a; place = place } }) r (λ _ _ _ _ _ _ _. tt))))))))

low_var : (n : ℕ) (var : Option (List ℕ)) → Low n (var_words var)
low_var n None = Nothing n
low_var n (Some x) = low_name n x (name_word (codes "as") ∷ []) (low_name n (codes "as") [] (Nothing n))

low_alias : (n : ℕ) (key : Option (List ℕ)) → Low n (alias_words key)
low_alias n None = Nothing n
low_alias n (Some x) = low_name n x (mark_word colon ∷ []) (low_colon n [] (Nothing n))

low_field : (n : ℕ) (f : QField) → LowItem n f.item → Low n (field_words f)
low_field n f h = subst (λ (ws : List Word). Low n ws) (sym (field_is f))
    (low_append n (var_words f.var) (alias_words f.alias ++ (words_of_item f.item ++ mark_word comma ∷ [])) (low_var n f.var)
    (low_append n (alias_words f.alias) (words_of_item f.item ++ mark_word comma ∷ []) (low_alias n f.alias)
    (low_append n (words_of_item f.item) (mark_word comma ∷ []) h (low_comma n [] (Nothing n)))))

at_any_comma : {n : ℕ} (left : Left) → Kept n n left (any_comma left) Any
at_any_comma left = either (next (is_punct comma) left.tokens) (λ e. at_sign comma left (λ t s. (refl, refl))) (λ e. gives tt left tt)

at_field : {n : ℕ} (b : Around) (inner : Reader (List QField)) → ((n : ℕ) (l : Left) → Kept n n l (inner l) (λ fs. Low n (flat_map field_words fs)))
    → (before : List QField) (left : Left) → Kept n n left (field b inner before left) (λ all. Added (λ _ f. Low n (field_words f)) before all)
unfolding field
at_field {n} b inner one before left =
    bind _ (at_front b before left)
    (λ f l. bind _ (at_item b inner one f.start before l)
    (λ i k. bind _ (at_any_comma k)
    (λ _ m. gives (before ++ record { var = f.var; alias = f.alias; item = i } ∷ []) m
    (λ _ h _. record { item = record { var = f.var; alias = f.alias; item = i }; is = refl; good = low_field n (record { var = f.var; alias = f.alias; item = i }) h }))))

at_fields : (b : Around) (depth n : ℕ) (left : Left) → Kept n n left (fields b depth left) (λ fs. Low n (flat_map field_words fs))
unfolding fields
at_fields b zero n left = record { it = tt }
at_fields b (suc depth) n left = weaker (at_repeated begins_field (field b (fields b depth)) (λ f. Low n (field_words f)) (at_field b (fields b depth) (at_fields b depth)) [] left)
    (λ all a. low_flat_map n field_words all (subst (λ (l : List QField). AllByRecursion (λ f. Low n (field_words f)) l) (sym a.is) (all_of (λ f. Low n (field_words f)) [] a.items a.good)))

-- ---- blocks

at_root : {n : ℕ} (left : Left) → Kept n n left (optional (next (is_word (codes "func"))) root_part no_root left) (λ r. Low n (root_words r.func r.args))
unfolding root_part
at_root {n} left = either (next (is_word (codes "func")) left.tokens)
    (λ e. bind _ (at_skip (is_word (codes "func")) left (λ b t s. refl))
    (λ _ l. bind _ (at_sign colon l (λ t s. (refl, refl)))
    (λ _ k. bind _ (at_func true k)
    (λ f m. bind _ (at_more_args m)
    (λ args p. gives (record { func = Some f; args = args }) p (λ ha hf _ _.
    low_name n (codes "func") _ (low_colon n _ (low_append n (func_words f) (flat_map (λ a. mark_word comma ∷ arg_words a) args) hf (low_more n arg_words args ha))))))))
    )
    (λ e. gives no_root left (Nothing n))

at_head : {n : ℕ} (before : List QBlock) (left : Left) → Kept n n left (head before left) (λ h. Low n (in_round (root_words h.root.func h.root.args)))
unfolding head
at_head {n} before left =
    bind _ (at_any_variable left)
    (λ v l. bind _ (at_here l)
    (λ place k. bind _ (at_one name_meant k (λ b t s. refl))
    (λ x m. bind _ (at_also place (is_second before x) m)
    (λ _ p. bind _ (at_open open_round p (λ t s. (refl, refl)))
    (λ _ q. bind _ (at_root q)
    (λ r s. bind _ (at_close close_round s (λ t s. (refl, refl)))
    (λ _ t. bind _ (at_also v.1 (is_some v.0 && not (is_some r.func)) t)
    (λ _ u. gives (record { var = v.0; as_place = v.1; name = x; root = r }) u (λ _ _ h le _ _ _ _. low_brackets n (root_words r.func r.args) le h)))))))))

at_block : {n : ℕ} (before : List QBlock) (left : Left) → Kept n n left (block before left) (λ all. Added (λ _ b. Low n (block_words b)) before all)
unfolding block
at_block {n} before left =
    bind _ (at_head before left)
    (λ h l. bind _ (at_dirs (record { block = true; has_func = is_some h.root.func; recurse = false; as_place = h.as_place }) l)
    (λ m k. bind _ (at_open open_curly k (λ t s. (refl, refl)))
    (λ _ p. bind _ (at_fields (record { has_func = is_some h.root.func; recurse = not (m.recursed == 0) }) 33 (suc n) p)
    (λ fs q. bind _ (at_close close_curly q (λ t s. (refl, refl)))
    (λ _ r. gives (before ++ record { var = h.var; name = h.name; func = h.root.func; args = h.root.args; dirs = m.dirs; fields = fs } ∷ []) r (λ _ hf le hd hh. record {
      item = record { var = h.var; name = h.name; func = h.root.func; args = h.root.args; dirs = m.dirs; fields = fs };
      is = refl;
      good =
          low_append n (var_words h.var) _ (low_var n h.var)
          (low_name n h.name _ (low_append n (in_round (root_words h.root.func h.root.args)) _ hh
          (low_append n (flat_map dir_words m.dirs) _ hd (low_curly n (flat_map field_words fs) le hf))));
    }))))))

pub at_braced_blocks : {n : ℕ} (left : Left) → Kept n n left (braced_blocks left) (λ q. Low n (query_words q))
unfolding braced_blocks
at_braced_blocks {n} left =
    bind _ (at_open open_curly left (λ t s. (refl, refl)))
    (λ _ k. bind _ (at_repeated (next is_name) block (λ b. Low (suc n) (block_words b)) at_block [] k)
    (λ all m. bind _ (at_close close_curly m (λ t s. (refl, refl)))
    (λ _ p. gives (record { blocks = all }) p (λ _ a le. low_curly n (flat_map block_words all) le
    (low_flat_map (suc n) block_words all (subst (λ (l : List QBlock). AllByRecursion (λ b. Low (suc n) (block_words b)) l) (sym a.is) (all_of (λ b. Low (suc n) (block_words b)) [] a.items a.good)))))))

pub at_query : {n : ℕ} (left : Left) → Kept n n left (query left) (λ q. Low n (query_words q))
unfolding query
at_query {n} left =
    bind {X = Any} _ (either (next (is_word (codes "query")) left.tokens) (λ e. at_skip (is_word (codes "query")) left (λ b t s. refl)) (λ e. gives tt left tt))
    (λ _ l. weaker (at_braced_blocks l) (λ q h _. h))
