-- Filters, fields, blocks and mutations close as many brackets as they open.
use Rattle.std.proofs.Common.{ℕ, zero, suc, true, false, List, [], ◌∷◌, None, refl}
use Rattle.std.specs.Prelude.{codes}
use Rattle.dg_text.specs.Cases.{Reader, mark, repeated}
use Rattle.dg_text.specs.Reading.{give, next}
use Rattle.dg_text.specs.Tokens.{is_name, is_punct, is_word, is_word_any_case}
use Rattle.dg_parse.specs.declared.directives.Marks.{Marks}
use Rattle.dg_parse.specs.declared.directives.Owner.{Owner}
use Rattle.dg_parse.specs.declared.items.Around.{Around}
use Rattle.dg_parse.specs.declared.items.Start.{Start}
use Rattle.dg_parse.specs.declared.query.QBlock.{QBlock}
use Rattle.dg_parse.specs.declared.query.QField.{QField}
use Rattle.dg_parse.specs.declared.query.QFilter.{QFilter}
use Rattle.dg_parse.specs.declared.upsert.UCond.{UCond}
use Rattle.dg_parse.specs.declared.words.DirWord.{DirWord}
use Rattle.dg_parse.specs.declared.words.DirWord.TheVariants as kinds
use Rattle.dg_parse.specs.Arguments.{bracketed_args}
use Rattle.dg_parse.specs.Conditions as conditions
use Rattle.dg_parse.specs.Directives.{ropts, filter_dir, cascade_dir, normalize_dir, recurse_dir, dir_of, dir, begins_dir, unmarked, all_dirs}
use Rattle.dg_parse.specs.Fields.{uid_item, count_uid, count_edge, count_item, val_item, agg_item, braces, edge_item, begins_aggregate, item, front, any_comma, field, begins_field, fields}
use Rattle.dg_parse.specs.Filters.{one_not, func_alone, bracketed, atom, not_of, and_more, and_rest, and_of, or_more, or_rest, or_of, filter}
use Rattle.dg_parse.specs.Grammar.{root_part, no_root, head, block, braced_blocks}
use Rattle.dg_parse.specs.Words.{comparison_meant, directive_meant, aggregate_meant}
use Rattle.dg_print.proofs.Even.{Even, Closes, then_even, then_closes, opened, closed, open_round, close_round, open_curly, close_curly, comma, colon, word_even, any_case_even, token, named, one_or, one_or_closes, perhaps, many, int_even, edge_even, in_round_even, val_even, any_variable_even, any_alias_even, func_even, more_args_even, bracketed_args_even, ropts_even}

-- ---- filters

one_not_even : (n : ℕ) → Even (one_not n)
unfolding one_not
one_not_even n = then_even _ _ (any_case_even (codes "not")) (λ _ _ _ f. f)

pub nots_even : Even (repeated (next (is_word_any_case (codes "not"))) one_not 0)
nots_even = many (next (is_word_any_case (codes "not"))) one_not one_not_even 0

func_alone_even : Even func_alone
unfolding func_alone
func_alone_even = then_even _ _ (func_even false) (λ _ _ _ f. f)

module _ (inner : Reader QFilter) (even : Even inner) where
  bracketed_even : Even (bracketed inner)
  unfolding bracketed
  bracketed_even = opened _ _ open_round (λ _. then_closes _ _ even (λ _. closed _ _ close_round (λ _ _ _ f. f)))

  pub atom_even : Even (atom inner)
  unfolding atom
  atom_even = one_or (next (is_punct 40)) (bracketed inner) func_alone bracketed_even func_alone_even

  pub not_even : Even (not_of inner)
  unfolding not_of
  not_even = then_even _ _ nots_even (λ _. then_even _ _ atom_even (λ _ _ _ f. f))

  pub and_more_even : (before : List QFilter) → Even (and_more inner before)
  unfolding and_more
  and_more_even before = then_even _ _ (any_case_even (codes "and")) (λ _. then_even _ _ not_even (λ _ _ _ f. f))

  and_rest_even : (first : QFilter) → Even (and_rest inner first)
  unfolding and_rest
  and_rest_even first = then_even _ _ (many (next (is_word_any_case (codes "and"))) (and_more inner) and_more_even (first ∷ [])) (λ _ _ _ f. f)

  pub and_even : Even (and_of inner)
  unfolding and_of
  and_even = then_even _ _ not_even (λ first. one_or (next (is_word_any_case (codes "and"))) (and_rest inner first) (give first) (and_rest_even first) (λ _ _ f. f))

  pub or_more_even : (before : List QFilter) → Even (or_more inner before)
  unfolding or_more
  or_more_even before = then_even _ _ (any_case_even (codes "or")) (λ _. then_even _ _ and_even (λ _ _ _ f. f))

  or_rest_even : (first : QFilter) → Even (or_rest inner first)
  unfolding or_rest
  or_rest_even first = then_even _ _ (many (next (is_word_any_case (codes "or"))) (or_more inner) or_more_even (first ∷ [])) (λ _ _ _ f. f)

  pub or_even : Even (or_of inner)
  unfolding or_of
  or_even = then_even _ _ and_even (λ first. one_or (next (is_word_any_case (codes "or"))) (or_rest inner first) (give first) (or_rest_even first) (λ _ _ f. f))

pub filter_even : (depth : ℕ) → Even (filter depth)
unfolding filter
filter_even zero = λ _ _ _. tt
filter_even (suc depth) = or_even (filter depth) (filter_even depth)

-- ---- conditions

len_even : Even conditions.len_alone
unfolding conditions.len_alone
len_even =
    then_even _ _ (token comparison_meant (λ _ _ _. refl)) (λ _. opened _ _ open_round (λ _. then_closes _ _ (word_even (codes "len"))
    (λ _. then_closes _ _ in_round_even (λ _. then_closes _ _ comma (λ _. then_closes _ _ int_even (λ _. closed _ _ close_round (λ _ _ _ f. f)))))))

module _ (inner : Reader UCond) (even : Even inner) where
  in_brackets_even : Even (conditions.bracketed inner)
  unfolding conditions.bracketed
  in_brackets_even = opened _ _ open_round (λ _. then_closes _ _ even (λ _. closed _ _ close_round (λ _ _ _ f. f)))

  pub catom_even : Even (conditions.atom inner)
  unfolding conditions.atom
  catom_even = one_or (next (is_punct 40)) (conditions.bracketed inner) conditions.len_alone in_brackets_even len_even

  pub cnot_even : Even (conditions.not_of inner)
  unfolding conditions.not_of
  cnot_even = then_even _ _ nots_even (λ _. then_even _ _ catom_even (λ _ _ _ f. f))

  pub cand_more_even : (before : List UCond) → Even (conditions.and_more inner before)
  unfolding conditions.and_more
  cand_more_even before = then_even _ _ (any_case_even (codes "and")) (λ _. then_even _ _ cnot_even (λ _ _ _ f. f))

  cand_rest_even : (first : UCond) → Even (conditions.and_rest inner first)
  unfolding conditions.and_rest
  cand_rest_even first = then_even _ _ (many (next (is_word_any_case (codes "and"))) (conditions.and_more inner) cand_more_even (first ∷ [])) (λ _ _ _ f. f)

  pub cand_even : Even (conditions.and_of inner)
  unfolding conditions.and_of
  cand_even = then_even _ _ cnot_even (λ first. one_or (next (is_word_any_case (codes "and"))) (conditions.and_rest inner first) (give first) (cand_rest_even first) (λ _ _ f. f))

  pub cor_more_even : (before : List UCond) → Even (conditions.or_more inner before)
  unfolding conditions.or_more
  cor_more_even before = then_even _ _ (any_case_even (codes "or")) (λ _. then_even _ _ cand_even (λ _ _ _ f. f))

  cor_rest_even : (first : UCond) → Even (conditions.or_rest inner first)
  unfolding conditions.or_rest
  cor_rest_even first = then_even _ _ (many (next (is_word_any_case (codes "or"))) (conditions.or_more inner) cor_more_even (first ∷ [])) (λ _ _ _ f. f)

  pub cor_even : Even (conditions.or_of inner)
  unfolding conditions.or_of
  cor_even = then_even _ _ cand_even (λ first. one_or (next (is_word_any_case (codes "or"))) (conditions.or_rest inner first) (give first) (cor_rest_even first) (λ _ _ f. f))

pub condition_even : (depth : ℕ) → Even (conditions.condition depth)
unfolding conditions.condition
condition_even zero = λ _ _ _. tt
condition_even (suc depth) = cor_even (conditions.condition depth) (condition_even depth)

-- ---- directives

filter_dir_even : (m : Marks) (place : ℕ) → Even (filter_dir m place)
unfolding filter_dir
filter_dir_even m place = opened _ _ open_round (λ _. then_closes _ _ (filter_even 33) (λ _. closed _ _ close_round (λ _ _ _ f. f)))

cascade_even : (o : Owner) (m : Marks) (place : ℕ) → Even (cascade_dir o m place)
unfolding cascade_dir
cascade_even o m place r left f = f

normalize_even : (o : Owner) (m : Marks) (place : ℕ) → Even (normalize_dir o m place)
unfolding normalize_dir
normalize_even o m place r left f = f

recurse_even : (o : Owner) (m : Marks) (place : ℕ) → Even (recurse_dir o m place)
unfolding recurse_dir
recurse_even o m place r left f = then_even _ _ (perhaps (next (is_punct 40)) ropts [] ropts_even) (λ _ _ _ f. f) r _ f

dir_of_even : (o : Owner) (m : Marks) (place : ℕ) (w : DirWord) → Even (dir_of o m place w)
unfolding dir_of
dir_of_even o m place kinds.Filter = filter_dir_even m place
dir_of_even o m place kinds.Cascade = cascade_even o m place
dir_of_even o m place kinds.Normalize = normalize_even o m place
dir_of_even o m place kinds.Recurse = recurse_even o m place

pub dir_even : (o : Owner) (m : Marks) → Even (dir o m)
unfolding dir
dir_even o m r left f = then_even _ _ (token directive_meant (λ _ _ _. refl)) (λ w r l f. dir_of_even o m _ w r _ f) r left f

pub all_dirs_even : (o : Owner) → Even (all_dirs o)
all_dirs_even o = many begins_dir (dir o) (dir_even o) unmarked

-- ---- items

uid_item_even : (s : Start) (before : List QField) → Even (uid_item s before)
unfolding uid_item
uid_item_even s before = then_even _ _ (word_even (codes "uid")) (λ _ _ _ f. f)

count_uid_closes : (b : Around) (s : Start) (before : List QField) → Closes (count_uid b s before)
unfolding count_uid
count_uid_closes b s before = then_closes _ _ (word_even (codes "uid")) (λ _. closed _ _ close_round (λ _ _ _ f. f))

count_edge_closes : (s : Start) (before : List QField) → Closes (count_edge s before)
unfolding count_edge
count_edge_closes s before = then_closes _ _ edge_even (λ _. closed _ _ close_round (λ _ _ _ f. f))

count_item_even : (b : Around) (s : Start) (before : List QField) → Even (count_item b s before)
unfolding count_item
count_item_even b s before =
    then_even _ _ (word_even (codes "count")) (λ _. opened _ _ open_round
    (λ _. one_or_closes (next (is_word (codes "uid"))) (count_uid b s before) (count_edge s before) (count_uid_closes b s before) (count_edge_closes s before)))

val_item_even : (s : Start) (before : List QField) → Even (val_item s before)
unfolding val_item
val_item_even s before = then_even _ _ (word_even (codes "val")) (λ _ r l f. then_even _ _ in_round_even (λ _ _ _ f. f) r _ f)

agg_item_even : (s : Start) (before : List QField) → Even (agg_item s before)
unfolding agg_item
agg_item_even s before =
    then_even _ _ (token aggregate_meant (λ _ _ _. refl)) (λ _. opened _ _ open_round (λ _. then_closes _ _ val_even (λ _. closed _ _ close_round (λ _ _ _ f. f))))

pub front_even : (b : Around) (before : List QField) → Even (front b before)
unfolding front
front_even b before = then_even _ _ any_variable_even (λ _ r l f. then_even _ _ any_alias_even (λ _ _ _ f. f) r _ f)

pub any_comma_even : Even any_comma
any_comma_even = perhaps (next (is_punct 44)) (mark 44) tt comma

module _ (b : Around) (inner : Reader (List QField)) (even : Even inner) where
  pub braces_even : Even (braces b inner)
  unfolding braces
  braces_even r left f = opened _ _ open_curly (λ _. then_closes _ _ even (λ _. closed _ _ close_curly (λ _ _ _ f. f))) r _ f

  edge_item_even : (s : Start) (before : List QField) → Even (edge_item b inner s before)
  unfolding edge_item
  edge_item_even s before =
      then_even _ _ edge_even (λ _ r l f. then_even _ _ (perhaps (next (is_punct 40)) bracketed_args [] bracketed_args_even)
      (λ _. then_even _ _ (all_dirs_even (record { block = false; has_func = b.has_func; recurse = b.recurse; as_place = 0 }))
      (λ _. then_even _ _ (perhaps (next (is_punct 123)) (braces b inner) None braces_even) (λ _ _ _ f. f))) r _ f)

  pub item_even : (s : Start) (before : List QField) → Even (item b inner s before)
  unfolding item
  item_even s before =
      one_or (next (is_word (codes "uid"))) (uid_item s before) _ (uid_item_even s before)
      (one_or (next (is_word (codes "count"))) (count_item b s before) _ (count_item_even b s before)
      (one_or (next (is_word (codes "val"))) (val_item s before) _ (val_item_even s before)
      (one_or begins_aggregate (agg_item s before) (edge_item b inner s before) (agg_item_even s before) (edge_item_even s before))))

  pub field_even : (before : List QField) → Even (field b inner before)
  unfolding field
  field_even before = then_even _ _ (front_even b before) (λ f. then_even _ _ (item_even f.start before) (λ _. then_even _ _ any_comma_even (λ _ _ _ f. f)))

pub fields_even : (b : Around) (depth : ℕ) → Even (fields b depth)
unfolding fields
fields_even b zero = λ _ _ _. tt
fields_even b (suc depth) = many begins_field (field b (fields b depth)) (field_even b (fields b depth) (fields_even b depth)) []

-- ---- blocks

root_part_even : Even root_part
unfolding root_part
root_part_even =
    then_even _ _ (word_even (codes "func")) (λ _. then_even _ _ colon (λ _. then_even _ _ (func_even true) (λ _. then_even _ _ (more_args_even []) (λ _ _ _ f. f))))

pub head_even : (before : List QBlock) → Even (head before)
unfolding head
head_even before =
    then_even _ _ any_variable_even (λ _ r l f. then_even _ _ named (λ _ r l f. opened _ _ open_round
    (λ _. then_closes _ _ (perhaps (next (is_word (codes "func"))) root_part no_root root_part_even) (λ _. closed _ _ close_round (λ _ _ _ f. f))) r _ f) r l f)

pub block_even : (before : List QBlock) → Even (block before)
unfolding block
block_even before =
    then_even _ _ (head_even before) (λ _. then_even _ _ (all_dirs_even _) (λ _. opened _ _ open_curly
    (λ _. then_closes _ _ (fields_even _ 33) (λ _. closed _ _ close_curly (λ _ _ _ f. f)))))

pub braced_blocks_even : Even braced_blocks
unfolding braced_blocks
braced_blocks_even = opened _ _ open_curly (λ _. then_closes _ _ (many (next is_name) block block_even []) (λ _. closed _ _ close_curly (λ _ _ _ f. f)))
